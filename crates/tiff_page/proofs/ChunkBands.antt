-- Chunks that lie side by side are read some rows of each at a time.
use Rattle.std.proofs.Common.{◌≡◌, ℕ, ◌+◌, ◌-◌, ◌*◌, ◌/◌, ◌%◌, ◌^◌, ◌<◌, ◌≤◌, min, Bool, true, false, List, length, Ok, Err, refl, ap, sym, ◌∙◌, subst, inl, inr, ⊎_elim, arith}
use Rattle.std.specs.Prelude.{Result, slice_index}
use Rattle.std.proofs.lemmas.Bool.{cases_lt, lt-ltb, ltb-true}
use Rattle.std.proofs.lemmas.Nat.{div-mul-add, mod-mul-add, mod_below, div_below, div-add-mod'}
use Rattle.std.proofs.Math.Nat.{div-eq_of_lt, le-mul_of_pos_right, mod-eq_of_lt, mul_comm, mul-le-mul_right}
use Rattle.tiff_base.specs.declared.color.ColorType.{ColorType}
use Rattle.tiff_base.specs.declared.error.TiffError.{TiffError}
use Rattle.tiff_base.specs.declared.error.TiffError.TheVariants.{IoError}
use Rattle.tiff_base.specs.declared.io.IoKind.TheVariants.{UnexpectedEof}
use Rattle.tiff_base.specs.declared.tags.ByteOrder.{ByteOrder}
use Rattle.tiff_base.specs.Answers.{IsCause}
use Rattle.tiff_base.specs.lemmas.Causes.{cause_along}
use Rattle.tiff_ifd.specs.declared.limits.Limits.{Limits}
use Rattle.tiff_page.specs.Page.{PageRecord}
use Rattle.tiff_page.specs.Counts.{parts, all_chunks}
use Rattle.tiff_page.specs.Rect.{rect, across, chunks_of_plane}
use Rattle.tiff_page.specs.Layout.{LayoutRecord, layout_of, row_bytes}
use Rattle.tiff_page.specs.Laws.{HasSides, HasWholeRows}
use Rattle.tiff_page.specs.PixelFault.{fail_if, form_fault, chunk_fault, each_below}
use Rattle.tiff_page.specs.PixelCalls.{fill_buffer, image_part}
use Rattle.tiff_page.specs.Pixels.{chunk_data, is_short, needed_of_row, stored_row_bytes}
use Rattle.tiff_page.specs.BufferPositions.{Writes, IsIn, in_rect, chunk_byte, chunk_of, plane_of, top_of, left_of, IsBefore, image_byte}
use Rattle.tiff_page.specs.NumberBytes.{IsPut}
use Rattle.tiff_page.specs.ChunkBands.{AreBanded, AreImageRows, PutsImageRows, WritesRows, WritesImageRows, rows_short}
use Rattle.tiff_page.specs.lemmas.Covering.{left_is, width_is, row_is, len_in, covers, byte_is, chunk_bytes_some}
use Rattle.tiff_page.specs.Methods.{method_fault}
use Rattle.tiff_page.specs.ReadablePage.{IsRead}
use Rattle.tiff_page.specs.lemmas.Filling.{first_at, columns_in, is_formed, is_whole}
use Rattle.tiff_page.specs.lemmas.Filling as filling
use Rattle.tiff_page.specs.lemmas.Planes.{method_passed}
use Rattle.tiff_page.specs.lemmas.PositionLaws.{chunks_within, cases_fault, all_ok, ok_all, first_of, parts_within, parts_cover, parts_some, planes_some}
use Rattle.tiff_page.specs.lemmas.Rects.{writes_as, writes_more, writes_same}

-- ---- rows of a rectangle

-- more columns of the same rows
pub more_columns : (value : ℕ → ℕ) (stride top n a len b : ℕ) (old mid new : List ℕ) → a + len ≡ b
    → Writes (IsIn stride top n 0 a) value old mid → Writes (IsIn stride top n a len) value mid new
    → Writes (IsIn stride top n 0 b) value old new
more_columns value stride top n a len b old mid new e v w =
    writes_more (IsIn stride top n 0 a) (IsIn stride top n a len) (IsIn stride top n 0 b) value old mid new
    (λ i p. record { below = p.below; above = p.above; right = p.right; within = omega (arith, p.within, e) })
    (λ i p. record { below = p.below; above = p.above; right = omega arith; within = omega (arith, p.within, e) })
    (λ i p. ⊎_elim
    (λ (l : i % stride < a). inl (record { below = p.below; above = p.above; right = p.right; within = omega (arith, l) }))
    (λ (l : a ≤ i % stride). inr (record { below = p.below; above = p.above; right = l; within = omega (arith, p.within, e) }))
    (cases_lt (i % stride) a))
    v w

-- more rows of the same columns
pub more_rows : (value : ℕ → ℕ) (stride top mid_row end len : ℕ) (old mid new : List ℕ)
    → top ≤ mid_row → mid_row ≤ end
    → Writes (IsIn stride top (mid_row - top) 0 len) value old mid
    → Writes (IsIn stride mid_row (end - mid_row) 0 len) value mid new
    → Writes (IsIn stride top (end - top) 0 len) value old new
more_rows value stride top mid_row end len old mid new a b v w =
    writes_more (IsIn stride top (mid_row - top) 0 len) (IsIn stride mid_row (end - mid_row) 0 len)
    (IsIn stride top (end - top) 0 len) value old mid new
    (λ i p. record { below = p.below; above = omega (arith, p.above, a, b); right = p.right; within = p.within })
    (λ i p. record { below = omega (arith, p.below, a); above = omega (arith, p.above, a, b); right = p.right; within = p.within })
    (λ i p. ⊎_elim
    (λ (l : i / stride < mid_row). inl (record { below = p.below; above = omega (arith, l, a); right = p.right; within = p.within }))
    (λ (l : mid_row ≤ i / stride). inr (record { below = l; above = omega (arith, p.above, a, b); right = p.right; within = p.within }))
    (cases_lt (i / stride) mid_row))
    v w

-- ---- the chunks side by side

-- the number of bytes of the first columns of chunks
abbrev pub edge : PageRecord → ColorType → ℕ → ℕ
edge p color n = min (n * row_bytes p color p.chunk_width) (row_bytes p color p.width)

module _ (p : PageRecord) (color : ColorType) (stride first column : ℕ) (sides : HasSides p)
    (whole : HasWholeRows p color)
    (fits : row_bytes p color p.width ≤ stride) (chunk : first < chunks_of_plane p)
    (leftmost : first % across p ≡ 0) (inside : column < across p) where
  abbrev pub a : ℕ
  a = across p

  abbrev pub c : ℕ
  c = row_bytes p color p.chunk_width

  abbrev pub j : ℕ
  j = first + column

  pub first_is : first / a * a ≡ first
  first_is =
      let e : first / a * a + first % a ≡ first = div-add-mod' first a in omega (arith, e, leftmost)

  pub down : first / a < parts p.height p.chunk_height
  down =
      div_below first a (parts p.height p.chunk_height) (omega (arith, inside))
      (rw (mul_comm (parts p.height p.chunk_height) a) chunk)

  -- the last of them is a chunk of the plane
  pub last_in : first + a ≤ chunks_of_plane p
  last_in =
      let d : (first / a + 1) * a ≤ parts p.height p.chunk_height * a =
      mul-le-mul_right a (omega (arith, down)) in
      omega (arith, d, mul_comm (parts p.height p.chunk_height) a, first_is)

  pub in_plane : j < chunks_of_plane p
  in_plane = omega (arith, last_in, inside)

  pub column_of : j % a ≡ column
  column_of = ap (λ m. (m + column) % a) (sym first_is) ∙ mod-mul-add (first / a) a column inside

  pub line_of : j / a ≡ first / a
  line_of = ap (λ m. (m + column) / a) (sym first_is) ∙ div-mul-add (first / a) a column inside

  -- they have the same rows
  pub same_top : (rect p j).y ≡ (rect p first).y
  unfolding rect
  same_top =
      (λ t. (mod-eq_of_lt in_plane) t / a * p.chunk_height) ∙ ap (λ m. m * p.chunk_height) line_of
      ∙ (λ t. sym (mod-eq_of_lt chunk) t / a * p.chunk_height)

  pub same_rows : (rect p j).height ≡ (rect p first).height
  unfolding rect
  same_rows =
      (λ t. min p.chunk_height (p.height - (mod-eq_of_lt in_plane) t / a * p.chunk_height))
      ∙ ap (λ m. min p.chunk_height (p.height - m * p.chunk_height)) line_of
      ∙ (λ t. min p.chunk_height (p.height - sym (mod-eq_of_lt chunk) t / a * p.chunk_height))

  -- where the bytes of one of them are
  pub begins : left_of p color stride 0 j ≡ edge p color column
  begins =
      omega (arith, left_is p color stride 0 j sides whole fits in_plane, row_is p color stride 0 j sides whole fits in_plane, ap (λ m. m * c) column_of)

  pub ends : left_of p color stride 0 j
      + row_bytes p color (rect p (0 * chunks_of_plane p + j)).width ≡ edge p color (column + 1)
  ends =
      let l : left_of p color stride 0 j ≡ j % a * c =
      left_is p color stride 0 j sides whole fits in_plane in
      let r : row_bytes p color p.width ≡ j % a * c
      + row_bytes p color (p.width - j % a * p.chunk_width) =
      row_is p color stride 0 j sides whole fits in_plane in
      let f : j % a * p.chunk_width ≡ column * p.chunk_width =
      ap (λ m. m * p.chunk_width) column_of in
      let w : (rect p (0 * chunks_of_plane p + j)).width
      ≡ min p.chunk_width (p.width - j % a * p.chunk_width) =
      width_is p color stride 0 j sides whole fits in_plane in
      let n : (column + 1) * c ≡ column * c + c = omega arith in
      ⊎_elim
      (λ (more : column + 1 < a).
      let m : (column + 1) * p.chunk_width ≡ column * p.chunk_width + p.chunk_width = omega arith in
      let x : (rect p (0 * chunks_of_plane p + j)).width ≡ p.chunk_width =
      omega (arith, w, f, parts_within p.width p.chunk_width (column + 1) sides.chunk_wide more, m) in
      let y : row_bytes p color (rect p (0 * chunks_of_plane p + j)).width ≡ c =
      ap (row_bytes p color) x in
      omega (arith, l, ap (λ m. m * c) column_of, y, len_in p color stride 0 j sides whole fits in_plane, n, r))
      (λ (last : a ≤ column + 1).
      let q : a ≡ column + 1 = omega (arith, last, inside) in
      let m : a * p.chunk_width ≡ column * p.chunk_width + p.chunk_width =
      ap (λ k. k * p.chunk_width) q ∙ omega arith in
      let x : (rect p (0 * chunks_of_plane p + j)).width ≡ p.width - j % a * p.chunk_width =
      omega (arith, w, f, parts_cover p.width p.chunk_width sides.chunk_wide, m) in
      omega (arith, l, ap (row_bytes p color) x, r, covers p color stride 0 j sides whole fits in_plane, ap (λ m. m * c) q))
      (cases_lt (column + 1) a)

  -- the rows of one of them are written beside those of the chunks before it, from the image's row
  -- `from` on, into a buffer from its row `at` on
  pub beside : (file : List ℕ) (order : ByteOrder) (from to at : ℕ) (old mid new : List ℕ)
      → 0 < stride → from < to → to ≤ (rect p first).height
      → Writes (IsIn stride at (to - from) 0 (edge p color column))
      (in_rect (λ r b. image_byte p color stride file order (((rect p first).y + from + r) * stride + b)) stride at 0) old mid
      → WritesRows file order p color j stride at (left_of p color stride 0 j) from to mid new
      → Writes (IsIn stride at (to - from) 0 (edge p color (column
      + 1))) (in_rect (λ r b. image_byte p color stride file order (((rect p first).y + from + r) * stride + b)) stride at 0) old new
  beside file order from to at old mid new wide some within before w =
      let z : 0 * chunks_of_plane p + j ≡ j = omega arith in
      let k : ℕ = 0 * chunks_of_plane p + j in
      let top : top_of p color stride 0 j ≡ (rect p first).y =
      let y : (rect p k).y ≡ (rect p j).y =
      ap (λ m. (rect p m).y) z in omega (arith, y, same_top) in
      let high : (rect p k).height ≡ (rect p first).height =
      ap (λ m. (rect p m).height) z ∙ same_rows in
      let b = begins in
      let left : ℕ = left_of p color stride 0 j in
      let len : ℕ = row_bytes p color (rect p k).width in
      let start : ℕ = (rect p first).y + from in
      let value : ℕ → ℕ =
      in_rect (λ r n. image_byte p color stride file order ((start + r) * stride
      + n)) stride at 0 in
      let v : Writes (IsIn stride at (to - from) left len) (in_rect (λ r n. chunk_byte file order p color k (from + r) n) stride at left) mid new =
      subst (λ (m : ℕ). Writes (IsIn stride at (to - from) left (row_bytes p color (rect p m).width)) (in_rect (λ r n. chunk_byte file order p color m (from + r) n) stride at left) mid new) (sym z) w in
      let s : Writes (IsIn stride at (to - from) left len) value mid new =
      writes_as (IsIn stride at (to - from) left len) (in_rect (λ r n. chunk_byte file order p color k (from + r) n) stride at left) value mid new
      (λ i q.
      let row : ℕ = start + (i / stride - at) in
      let byte : ℕ = i % stride - 0 in
      let small : i % stride < stride = mod_below i stride wide in
      let d : (row * stride + byte) / stride ≡ row =
      div-mul-add row stride byte (omega (arith, small)) in
      let m : (row * stride + byte) % stride ≡ byte =
      mod-mul-add row stride byte (omega (arith, small)) in
      let r : (row * stride + byte) / stride - top_of p color stride 0 j ≡ from
      + (i / stride - at) = omega (arith, d, top) in
      let n : (row * stride + byte) % stride - left ≡ i % stride - left = omega (arith, m) in
      sym (ap (λ x. chunk_byte file order p color k x ((row * stride + byte) % stride - left)) r
      ∙ ap (λ x. chunk_byte file order p color k (from + (i / stride - at)) x) n)
      ∙ byte_is p color stride 0 j sides whole fits in_plane file order (row * stride + byte)
      (record { below = omega (arith, d, top); above = omega (arith, d, top, q.below, q.above, within, high, some); right = omega (arith, m, q.right); within = omega (arith, m, q.within) })) v in
      more_columns value stride at (to - from) (edge p color column) len (edge p color (column
      + 1)) old mid new (omega (arith, b, ends)) before
      (subst (λ (m : ℕ). Writes (IsIn stride at (to - from) m len) value mid new) b s)

-- all columns
pub last_edge : (p : PageRecord) (color : ColorType) (stride : ℕ) → HasSides p
    → HasWholeRows p color → row_bytes p color p.width ≤ stride → 0 < chunks_of_plane p
    → edge p color (across p) ≡ row_bytes p color p.width
last_edge p color stride sides whole fits some =
    let v : row_bytes p color p.width ≤ across p * row_bytes p color p.chunk_width =
    covers p color stride 0 0 sides whole fits some in omega (arith, v)

-- ---- the rows of chunks that lie side by side are these chunks

pub below_product : (q c a m n : ℕ) → c < a → q * a + c < m * a → q < m
below_product q c a m n l h =
    ⊎_elim (λ (b : q < m). b) (λ (b : m ≤ q). let e : m * a
    ≤ q * a = mul-le-mul_right a b in Prim.absurd (omega (arith, e, h))) (cases_lt q m)

module _ (p : PageRecord) (color : ColorType) (stride j : ℕ) (sides : HasSides p)
    (whole : HasWholeRows p color)
    (fits : row_bytes p color p.width ≤ stride) (chunk : j < chunks_of_plane p)
    (leftmost : j % across p ≡ 0) (some : 0 < across p) where
  abbrev pub many : ℕ
  many = across p

  abbrev pub wide : ℕ
  wide = row_bytes p color p.chunk_width

  abbrev pub line : ℕ
  line = j / many

  abbrev pub y : ℕ
  y = (rect p j).y

  abbrev pub h : ℕ
  h = (rect p j).height

  pub j_is : line * many ≡ j
  j_is = first_is p color stride j 0 sides whole fits chunk leftmost some

  pub y_is : y ≡ line * p.chunk_height
  unfolding rect
  y_is = ap (λ m. m / many * p.chunk_height) (mod-eq_of_lt chunk)

  pub h_is : h ≡ min p.chunk_height (p.height - line * p.chunk_height)
  unfolding rect
  h_is = ap (λ m. min p.chunk_height (p.height - m / many * p.chunk_height)) (mod-eq_of_lt chunk)

  pub column_in : (i : ℕ) → i % stride < row_bytes p color p.width → i % stride / wide < many
  column_in i b =
      div_below (i % stride) wide many (chunk_bytes_some p color stride 0 j sides whole fits chunk (omega (arith, b))) (omega (arith, b, covers p color stride 0 j sides whole fits chunk))

  -- many row of the first plane
  pub in_first : (i : ℕ) → i / stride < p.height
      → (plane_of p color stride i ≡ 0) × (i / stride % p.height ≡ i / stride)
  in_first i l = (div-eq_of_lt l, mod-eq_of_lt l)

  pub row_of_first : (i : ℕ) → plane_of p color stride i < 1 → i / stride < p.height
  row_of_first i l =
      let z : i / stride / p.height * p.height ≡ 0 * p.height =
      ap (λ m. m * p.height) (omega (arith, l)) in
      omega (arith, div-add-mod' (i / stride) p.height, z, mod_below (i / stride) p.height sides.high)

  -- positions in these rows are those of chunks below the next row of chunks
  pub of_rows : (i : ℕ) → IsIn stride y (y + h - y) 0 (row_bytes p color p.width) i
      → IsBefore p color stride 1 (j + many) 0 i
  of_rows i q =
      let u = y_is in
      let v = h_is in
      let f = in_first i (omega (arith, q.above, u, v)) in
      let b : i / stride / p.chunk_height < line + 1 =
      div_below (i / stride) p.chunk_height (line
      + 1) sides.chunk_high (let d : (line + 1) * p.chunk_height ≡ line * p.chunk_height + p.chunk_height = omega arith in omega (arith, q.above, u, v, d)) in
      let x : i % stride / wide < many = column_in i (omega (arith, q.within)) in
      let g : i / stride % p.height / p.chunk_height * many ≤ line * many =
      mul-le-mul_right many (omega (arith, b, ap (λ m. m / p.chunk_height) f.1)) in
      record { byte = omega (arith, q.within); of_plane = omega (arith, f.0); of_chunk = inl (omega (arith, g, x, j_is)) }

  pub below_rows : (i : ℕ) → IsBefore p color stride 1 (j + many) 0 i → i / stride < y
      → chunk_of p color stride i < j
  below_rows i q l =
      let b : i / stride % p.height / p.chunk_height < line =
      div_below (i / stride % p.height) p.chunk_height line sides.chunk_high
      (omega (arith, l, y_is, (in_first i (row_of_first i q.of_plane)).1)) in
      let g : (i / stride % p.height / p.chunk_height + 1) * many ≤ line * many =
      mul-le-mul_right many (omega (arith, b)) in
      let d : (i / stride % p.height / p.chunk_height + 1) * many
      ≡ i / stride % p.height / p.chunk_height * many + many = omega arith in
      omega (arith, g, d, column_in i q.byte, j_is)

  pub in_rows : (i : ℕ) → IsBefore p color stride 1 (j + many) 0 i → y ≤ i / stride
      → IsIn stride y (y + h - y) 0 (row_bytes p color p.width) i
  in_rows i q l =
      let r = row_of_first i q.of_plane in
      let d : (line + 1) * many ≡ line * many + many = omega arith in
      let o : chunk_of p color stride i < (line + 1) * many =
      ⊎_elim (λ (z : chunk_of p color stride i < j + many). omega (arith, z, d, j_is))
      (λ z. Prim.absurd (omega (arith, z.1))) q.of_chunk in
      let b : i / stride % p.height / p.chunk_height < line + 1 =
      below_product (i / stride % p.height / p.chunk_height) (i % stride / wide) many (line
      + 1) 0 (column_in i q.byte) o in
      let m : i / stride % p.height % p.chunk_height < p.chunk_height =
      mod_below (i / stride % p.height) p.chunk_height sides.chunk_high in
      let g : i / stride % p.height / p.chunk_height * p.chunk_height ≤ line * p.chunk_height =
      mul-le-mul_right p.chunk_height (omega (arith, b)) in
      record { below = l; above = omega (arith, div-add-mod' (i / stride % p.height) p.chunk_height, m, g, (in_first i r).1, r, y_is, h_is); right = omega arith; within = omega (arith, q.byte) }

  pub across_written : (file : List ℕ) (order : ByteOrder) (before mid new : List ℕ)
      → Writes (IsBefore p color stride 1 j 0) (image_byte p color stride file order) before mid
      → WritesImageRows file order p color stride y (y + h) mid new
      → Writes (IsBefore p color stride 1 (j + many) 0) (image_byte p color stride file order) before new
  across_written file order before mid new v w =
      writes_more (IsBefore p color stride 1 j 0) (IsIn stride y (y
      + h - y) 0 (row_bytes p color p.width)) (IsBefore p color stride 1 (j
      + many) 0) (image_byte p color stride file order) before mid new
      (λ i q. record { byte = q.byte; of_plane = q.of_plane; of_chunk = ⊎_elim (λ (z : chunk_of p color stride i < j). inl (omega (arith, z))) (λ z. Prim.absurd (omega (arith, z.1))) q.of_chunk })
      of_rows
      (λ i q. ⊎_elim
      (λ (l : i / stride < y). inl (record { byte = q.byte; of_plane = q.of_plane; of_chunk = inl (below_rows i q l) }))
      (λ (l : y ≤ i / stride). inr (in_rows i q l))
      (cases_lt (i / stride) y))
      v w

-- ---- errors

error_of : Result (Unit {0}) TiffError → TiffError
error_of (Ok u) = IoError UnexpectedEof
error_of (Err e) = e

pub eof_is : (b : Bool) (e : TiffError) → fail_if b (IoError UnexpectedEof) ≡ Err e
    → (b ≡ true) × (IoError UnexpectedEof ≡ e)
unfolding error_of
eof_is true e h = (refl, ap error_of h)
eof_is false e h = cc

pub eof_none : (b : Bool) → fail_if b (IoError UnexpectedEof) ≡ Ok tt → b ≡ false
eof_none true h = cc
eof_none false h = refl

-- if one of several data is too short, this is the first error of all
pub one_short : (short : ℕ → Bool) (n k : ℕ) → k < n → short k ≡ true
    → each_below (λ m. fail_if (short m) (IoError UnexpectedEof)) n ≡ Err (IoError UnexpectedEof)
one_short short n k l s =
    let fault : ℕ → Result (Unit {0}) TiffError = λ m. fail_if (short m) (IoError UnexpectedEof) in
    ⊎_elim
    (λ (ok : each_below fault n ≡ Ok tt).
    let f : short k ≡ false = eof_none (short k) (all_ok fault n ok k l) in
    let t : true ≡ false = sym s ∙ f in
    cc)
    (λ er.
    let f = first_of fault n er.0 er.1 in
    er.1 ∙ ap (λ (e : TiffError). Err e) (sym (eof_is (short f.0) er.0 f.1.1.found).1))
    (cases_fault (each_below fault n))

-- data that are too short for some rows of a chunk are too short for more
pub short_later : (file : List ℕ) (order : ByteOrder) (p : PageRecord) (color : ColorType)
    (i m n : ℕ) → m ≤ n → rows_short file order p color i m ≡ true
    → rows_short file order p color i n ≡ true
short_later file order p color i m n l s =
    let size : ℕ = length (chunk_data file order p i) in
    let need : ℕ = needed_of_row p color (row_bytes p color (rect p i).width) in
    let b : (m - 1) * stored_row_bytes p ≤ (n - 1) * stored_row_bytes p =
    mul-le-mul_right (stored_row_bytes p) (omega (arith, l)) in
    lt-ltb size ((n - 1) * stored_row_bytes p
    + need) (omega (arith, ltb-true size ((m - 1) * stored_row_bytes p + need) s, b))

module _ (file : List ℕ) (order : ByteOrder) (p : PageRecord) (color : ColorType) (first n : ℕ)
    (high : (column : ℕ) → column < across p → (rect p (first + column)).height ≡ (rect p first).height) (within : n ≤ (rect p first).height) where
  abbrev pub short_to : ℕ → Bool
  short_to column = rows_short file order p color (first + column) n

  abbrev pub short_of : ℕ → Bool
  short_of column = is_short file order p color (first + column)

  -- too few data for some rows of the chunks side by side are too few for them
  pub short_rows : (e : TiffError)
      → each_below (λ column. fail_if (short_to column) (IoError UnexpectedEof)) (across p) ≡ Err e
      → each_below (λ column. fail_if (short_of column) (IoError UnexpectedEof)) (across p) ≡ Err e
  short_rows e h =
      let f =
      first_of (λ column. fail_if (short_to column) (IoError UnexpectedEof)) (across p) e h in
      let s = eof_is (short_to f.0) e f.1.1.found in
      let l : n ≤ (rect p (first + f.0)).height = omega (arith, high f.0 f.1.0, within) in
      one_short short_of (across p) f.0 f.1.0 (short_later file order p color (first
      + f.0) n (rect p (first + f.0)).height l s.0) ∙ ap (λ (z : TiffError). Err z) s.1

  -- the data are enough for all rows
  pub rows_enough : n ≡ (rect p first).height
      → each_below (λ column. fail_if (short_to column) (IoError UnexpectedEof)) (across p) ≡ Ok tt
      → each_below (λ column. fail_if (short_of column) (IoError UnexpectedEof)) (across p) ≡ Ok tt
  rows_enough e h =
      ok_all (λ column. fail_if (short_of column) (IoError UnexpectedEof)) (across p)
      (λ column l.
      subst (λ (m : ℕ). fail_if (rows_short file order p color (first + column) m) (IoError UnexpectedEof) ≡ Ok tt) (e ∙ sym (high column l)) (all_ok (λ k. fail_if (short_to k) (IoError UnexpectedEof)) (across p) h column l))

module _ (file : List ℕ) (order : ByteOrder) (p : PageRecord) (limits : Limits) (color : ColorType)
    (planes j : ℕ) (banded : AreBanded p limits color planes j) where
  -- the first error of a chunk in all planes
  abbrev pub of_chunk : ℕ → Result (Unit {0}) TiffError
  of_chunk k =
      each_below (λ plane. chunk_fault p limits (is_short file order p color) color (plane * chunks_of_plane p + (0 + k))) planes

  abbrev pub short_at : ℕ → Result (Unit {0}) TiffError
  short_at column = fail_if (is_short file order p color (j + column)) (IoError UnexpectedEof)

  -- in the one plane, of a chunk whose form has no error
  pub of_one : (column : ℕ) → column < across p → of_chunk (j + column) ≡ short_at column
  of_one column l =
      let x : 0 * chunks_of_plane p + (0 + (j + column)) ≡ j + column = omega arith in
      ap (each_below (λ plane. chunk_fault p limits (is_short file order p color) color (plane * chunks_of_plane p + (0 + (j + column))))) banded.one
      ∙ ap (chunk_fault p limits (is_short file order p color) color) x
      ∙ rw (banded.formed column l) refl

  -- chunks side by side without an error
  pub none_across : (n : ℕ) → n ≤ across p → each_below of_chunk j ≡ Ok tt
      → each_below short_at n ≡ Ok tt → each_below of_chunk (j + n) ≡ Ok tt
  none_across n l none h =
      ok_all of_chunk (j + n)
      (λ k b.
      ⊎_elim
      (λ (c : k < j). all_ok of_chunk j none k c)
      (λ (c : j ≤ k).
      let e : j + (k - j) ≡ k = omega (arith, c) in
      let m : k - j < n = omega (arith, b, c) in
      ap of_chunk (sym e) ∙ of_one (k - j) (omega (arith, m, l)) ∙ all_ok short_at n h (k - j) m)
      (cases_lt k j))

  pub across_cause : (failed failed' : Type 0) (old : List ℕ) (stride : ℕ) (e : TiffError)
      → (failed → failed') → j + across p ≤ chunks_of_plane p → each_below of_chunk j ≡ Ok tt
      → IsCause (Unit {0}) failed e (each_below short_at (across p) ≡ Err e)
      → IsCause (Unit {0}) failed' e (fill_buffer file order p limits color (image_part p planes stride) old ≡ Err e)
  unfolding fill_buffer
  across_cause failed failed' old stride e grew last none c =
      cause_along e (λ w. w) grew
      (λ h.
      let f = first_of short_at (across p) e h in
      let before : each_below of_chunk (j + f.0) ≡ Ok tt =
      none_across f.0 (omega (arith, f.1.0)) none (ok_all short_at f.0 (λ k l. f.1.1.none k l)) in
      let g : each_below of_chunk (chunks_of_plane p) ≡ Err e =
      first_at of_chunk (chunks_of_plane p) (j + f.0) e (omega (arith, last, f.1.0)) before
      (of_one f.0 f.1.0 ∙ f.1.1.found) in
      rw g refl)
      c

-- ---- one of the chunks side by side, in an image with a layout

-- equal arguments write the same rows
pub rows_moved : (order : ByteOrder) (p : PageRecord) (color : ColorType) (k from to : ℕ)
    (mid new f f' : List ℕ) (a a' b b' d d' : ℕ) → f ≡ f' → a ≡ a' → b ≡ b' → d ≡ d'
    → WritesRows f order p color k a b d from to mid new
    → WritesRows f' order p color k a' b' d' from to mid new
rows_moved order p color k from to mid new f f' a a' b b' d d' ef ea eb ed w =
    rw (← ef, ← ea, ← eb, ← ed) w

-- the last row of a chunk is within its stored height
pub rows_of_chunk : (p : PageRecord) (k : ℕ) → (rect p k).height ≤ p.chunk_height
unfolding rect
rows_of_chunk p k = omega arith

-- rows of the chunks side by side are in the plane
pub rows_end : (file : List ℕ) (order : ByteOrder) (p : PageRecord) (limits : Limits)
    (l : LayoutRecord) (sides : HasSides p) (samples : 0 < p.samples) (deep : 0 < p.depth)
    (laid : layout_of p p.width p.height ≡ Ok l)
    (first to : ℕ) → to ≤ (rect p first).height
    → ((rect p first).y + to) * l.row_bytes ≤ l.plane_stride
rows_end file order p limits l sides samples deep laid first to b =
    let k : ((rect p first).y + to) * l.row_bytes ≤ p.height * l.row_bytes =
    mul-le-mul_right l.row_bytes (omega (arith, (chunks_within p first sides).rows, b)) in
    omega (arith, k, filling.plane_is file order p limits l sides samples deep laid, mul_comm p.height l.row_bytes)

module _ (file : List ℕ) (order : ByteOrder) (p : PageRecord) (limits : Limits) (l : LayoutRecord)
    (sides : HasSides p) (samples : 0 < p.samples) (deep : 0 < p.depth)
    (laid : layout_of p p.width p.height ≡ Ok l)
    (first column planes : ℕ) (banded : AreBanded p limits l.color planes first)
    (chunk : first < chunks_of_plane p) (inside : column < across p) where
  pub its_form : form_fault p limits l.color (first + column) ≡ Ok tt
  its_form = banded.formed column inside

  pub its_rows : HasWholeRows p l.color
  its_rows = is_whole file order p limits l sides samples deep laid (first + column) its_form

  pub its_room : row_bytes p l.color p.width ≤ l.row_bytes
  its_room =
      let e : l.row_bytes ≡ row_bytes p l.color p.width =
      filling.row_is file order p limits l sides samples deep laid in omega (arith, e)

  pub its_index : first + column < chunks_of_plane p
  its_index =
      in_plane p l.color l.row_bytes first column sides its_rows its_room chunk banded.leftmost inside

  pub all_indices : first + across p ≤ chunks_of_plane p
  all_indices =
      last_in p l.color l.row_bytes first column sides its_rows its_room chunk banded.leftmost inside

  pub its_read : IsRead p l.color
  its_read = is_formed file order p limits l sides samples deep laid (first + column) its_form

  pub its_method : method_fault p.method ≡ Ok tt
  its_method = method_passed p limits l.color (first + column) its_form

  pub its_place : (n : ℕ) → n ≡ all_chunks p → first + column < n
  its_place n e =
      omega (arith, e, its_index, le-mul_of_pos_right (chunks_of_plane p) (planes_some p.planar p.samples samples))

  pub its_height : (rect p (first + column)).height ≡ (rect p first).height
  its_height =
      same_rows p l.color l.row_bytes first column sides its_rows its_room chunk banded.leftmost inside

  pub its_start : (from to : ℕ) → from < to → to ≤ (rect p first).height
      → from * stored_row_bytes p < 2 ^ 64
  its_start from to a b =
      let k : from * stored_row_bytes p ≤ p.chunk_height * stored_row_bytes p =
      mul-le-mul_right (stored_row_bytes p) (omega (arith, a, b, rows_of_chunk p first)) in
      omega (arith, k, mul_comm p.chunk_height (stored_row_bytes p), banded.few)

  pub its_columns : left_of p l.color l.row_bytes 0 (first + column)
      + row_bytes p l.color (rect p (first + column)).width ≤ l.row_bytes
  its_columns =
      columns_in file order p limits l sides samples deep laid 1 (first + column) its_index 0 (first
      + column) (omega arith) its_form

  pub its_beside : (from to at : ℕ) (old mid new : List ℕ) → from < to → to ≤ (rect p first).height
      → Writes (IsIn l.row_bytes at (to - from) 0 (edge p l.color column))
      (in_rect (λ r b. image_byte p l.color l.row_bytes file order (((rect p first).y + from + r) * l.row_bytes + b)) l.row_bytes at 0) old mid
      → WritesRows file order p l.color (first + column) l.row_bytes at
      (left_of p l.color l.row_bytes 0 (first + column)) from to mid new
      → Writes (IsIn l.row_bytes at (to - from) 0 (edge p l.color (column
      + 1))) (in_rect (λ r b. image_byte p l.color l.row_bytes file order (((rect p first).y + from + r) * l.row_bytes + b)) l.row_bytes at 0) old new
  its_beside from to at old mid new a b v w =
      beside p l.color l.row_bytes first column sides its_rows its_room chunk banded.leftmost inside file order from to at old mid new (filling.stride_some file order p limits l sides samples deep laid) a b v w

pub all_columns : (file : List ℕ) (order : ByteOrder) (p : PageRecord) (limits : Limits)
    (l : LayoutRecord) (sides : HasSides p) (samples : 0 < p.samples) (deep : 0 < p.depth)
    (laid : layout_of p p.width p.height ≡ Ok l)
    (first planes : ℕ) (banded : AreBanded p limits l.color planes first) (chunk : first < chunks_of_plane p)
    → edge p l.color (across p) ≡ row_bytes p l.color p.width
all_columns file order p limits l sides samples deep laid first planes banded chunk =
    let some : 0 < across p = parts_some p.width p.chunk_width sides.chunk_wide sides.wide in
    last_edge p l.color l.row_bytes sides (its_rows file order p limits l sides samples deep laid first 0 planes banded chunk some) (its_room file order p limits l sides samples deep laid first 0 planes banded chunk some) (omega (arith, chunk))

-- ---- rows in a scratch buffer

-- whole rows that were written are the whole buffer
pub rows_filled : (value : ℕ → ℕ) (stride n : ℕ) (old new : List ℕ) → 0 < stride
    → length old ≡ n * stride → Writes (IsIn stride 0 n 0 stride) value old new
    → (i : ℕ) → i < length new → slice_index new i ≡ value i
rows_filled value stride n old new some len w i l =
    let b : i < n * stride = omega (arith, l, len, w.0) in
    let m : i % stride < stride = mod_below i stride some in
    ⊎_elim (λ p. p.1) (λ p. Prim.absurd (p.0 (record { below = omega arith; above = omega (arith, div_below i stride n some b); right = omega arith; within = omega (arith, m) }))) (w.1 i (omega (arith, l, w.0)))

-- rows of an image that fill a buffer
pub rows_alone : (file : List ℕ) (order : ByteOrder) (p : PageRecord) (color : ColorType)
    (stride start n : ℕ) (old new : List ℕ) → 0 < stride → stride ≡ row_bytes p color p.width
    → length old ≡ n * stride
    → PutsImageRows file order p color stride start n 0 old new
    → AreImageRows file order p color stride start new
rows_alone file order p color stride start n old new some row len w i l =
    let value : ℕ → ℕ =
    in_rect (λ r b. image_byte p color stride file order ((start + r) * stride
    + b)) stride 0 0 in
    let whole : Writes (IsIn stride 0 n 0 stride) value old new =
    subst (λ (m : ℕ). Writes (IsIn stride 0 n 0 m) value old new) (sym row) w in
    let q : i / stride - 0 ≡ i / stride = omega arith in
    let b : i % stride - 0 ≡ i % stride = omega arith in
    let s : (start + i / stride) * stride + i % stride ≡ start * stride
    + (i / stride * stride + i % stride) = omega arith in
    rows_filled value stride n old new some len whole i l
    ∙ ap (λ (m : ℕ). image_byte p color stride file order ((start + m) * stride
    + (i % stride - 0))) q
    ∙ ap (λ (m : ℕ). image_byte p color stride file order ((start + i / stride) * stride + m)) b
    ∙ ap (image_byte p color stride file order) (s
    ∙ ap (λ (m : ℕ). start * stride + m) (div-add-mod' i stride))

-- rows of an image at their own place in a buffer
pub rows_in_place : (file : List ℕ) (order : ByteOrder) (p : PageRecord) (color : ColorType)
    (stride start end : ℕ) (old new : List ℕ) → 0 < stride
    → PutsImageRows file order p color stride start (end - start) start old new
    → WritesImageRows file order p color stride start end old new
rows_in_place file order p color stride start end old new some w =
    writes_as (IsIn stride start (end - start) 0 (row_bytes p color p.width))
    (in_rect (λ r b. image_byte p color stride file order ((start + r) * stride
    + b)) stride start 0) (image_byte p color stride file order) old new
    (λ i q.
    let r : start + (i / stride - start) ≡ i / stride = omega (arith, q.below) in
    let b : i % stride - 0 ≡ i % stride = omega arith in
    ap (λ (m : ℕ). image_byte p color stride file order (m * stride + (i % stride - 0))) r
    ∙ ap (λ (m : ℕ). image_byte p color stride file order (i / stride * stride + m)) b
    ∙ ap (image_byte p color stride file order) (div-add-mod' i stride)) w

-- bytes from the start of a row on, as many as some rows have, are those rows
pub rows_placed : (stride top n i : ℕ) → 0 < stride → top * stride ≤ i
    → i < top * stride + n * stride → IsIn stride top n 0 stride i
rows_placed stride top n i some a b =
    let e : i / stride * stride + i % stride ≡ i = div-add-mod' i stride in
    let m : i % stride < stride = mod_below i stride some in
    let s : (top + n) * stride ≡ top * stride + n * stride = omega arith in
    let d : (i / stride + 1) * stride ≡ i / stride * stride + stride = omega arith in
    record {
      below =
          ⊎_elim (λ (l : i / stride < top). let k : (i / stride + 1) * stride
          ≤ top * stride = mul-le-mul_right stride (omega (arith, l)) in Prim.absurd (omega (arith, k, d, e, m, a))) (λ (l : top ≤ i / stride). l) (cases_lt (i / stride) top);
      above = div_below i stride (top + n) some (omega (arith, b, s));
      right = omega arith;
      within = omega (arith, m);
    }

pub rows_bytes : (stride top n i : ℕ) → 0 < stride → IsIn stride top n 0 stride i
    → (top * stride ≤ i) × (i < top * stride + n * stride)
rows_bytes stride top n i some q =
    let e : i / stride * stride + i % stride ≡ i = div-add-mod' i stride in
    let s : (top + n) * stride ≡ top * stride + n * stride = omega arith in
    let d : (i / stride + 1) * stride ≡ i / stride * stride + stride = omega arith in
    let h : (i / stride + 1) * stride ≤ (top + n) * stride =
    mul-le-mul_right stride (omega (arith, q.above)) in
    (omega (arith, mul-le-mul_right stride q.below, e), omega (arith, h, d, e, mod_below i stride some, s))

-- rows that are put at their place are written there
pub rows_put : (value : ℕ → ℕ) (stride top n : ℕ) (rows old new : List ℕ) → 0 < stride
    → length rows ≡ n * stride → ((i : ℕ) → i < length rows
    → slice_index rows i ≡ value (top * stride + i))
    → IsPut (top * stride) rows old new → Writes (IsIn stride top n 0 stride) value old new
rows_put value stride top n rows old new some len is put =
    let at : ℕ = top * stride in
    writes_as (IsIn stride top n 0 stride) (λ i. slice_index rows (i - at)) value old new
    (λ i q.
    let b = rows_bytes stride top n i some q in
    let e : at + (i - at) ≡ i = omega (arith, b.0) in
    is (i - at) (omega (arith, b.0, b.1, len)) ∙ ap value e)
    (writes_same (λ i. (at ≤ i) × (i < at + length rows)) (IsIn stride top n 0 stride) (λ i. slice_index rows (i - at)) old new
    (λ i p. rows_placed stride top n i some p.0 (omega (arith, p.1, len)))
    (λ i q. let b = rows_bytes stride top n i some q in (b.0, omega (arith, b.1, len)))
    put)
