-- Rows of a chunk that lie together are read many at once.
use Rattle.std.proofs.Common.{◌≡◌, ℕ, ◌+◌, ◌-◌, ◌*◌, ◌/◌, ◌%◌, ◌^◌, ◌<◌, ◌≤◌, ◌⊎◌, true, List, take, drop, length, Err, refl, ap, sym, ◌∙◌, subst, inl, inr, ⊎_elim, arith, drop-drop, length-drop}
use Rattle.std.specs.Prelude.{nat_lt, slice_index}
use Rattle.std.proofs.lemmas.Bool.{cases_lt, lt-ltb, le-ltb}
use Rattle.std.proofs.lemmas.List.{get_or-take, get_or-drop}
use Rattle.std.proofs.lemmas.Nat.{div-add-mod', mod_below, div_below}
use Rattle.std.proofs.Math.Nat.{mul-div_cancel, le-mul_of_pos_right, mul-le-mul_right, mul-add-div_right, mul-add-mod_self_right}
use Rattle.tiff_base.specs.declared.color.ColorType.{ColorType}
use Rattle.tiff_base.specs.declared.error.TiffError.{TiffError}
use Rattle.tiff_base.specs.declared.error.TiffError.TheVariants.{IoError}
use Rattle.tiff_base.specs.declared.io.IoKind.TheVariants.{UnexpectedEof}
use Rattle.tiff_base.specs.declared.tags.ByteOrder.{ByteOrder}
use Rattle.tiff_base.specs.declared.tags.Predictor.{Predictor}
use Rattle.tiff_base.specs.declared.tags.Predictor.TheVariants as predictor
use Rattle.tiff_base.specs.Number.{number}
use Rattle.tiff_base.specs.Answers.{IsCause}
use Rattle.tiff_base.specs.lemmas.Causes.{cause_along}
use Rattle.tiff_page.specs.NumberBytes.{IsPut}
use Rattle.tiff_page.specs.Page.{PageRecord}
use Rattle.tiff_page.specs.Counts.{all_chunks}
use Rattle.tiff_page.specs.Rect.{rect}
use Rattle.tiff_page.specs.Layout.{row_bits, row_bytes, samples_in_chunk}
use Rattle.tiff_page.specs.Laws.{HasSides}
use Rattle.tiff_page.specs.PixelFault.{fail_if}
use Rattle.tiff_page.specs.Pixels.{width_of, stored_samples, chunk_data, stored_row_bytes, is_byte_plane, is_short, row_number, needed_bytes, needed_of_row, shown_number, number_by, number_of_row}
use Rattle.tiff_page.specs.BufferPositions.{Writes, IsIn, in_rect, chunk_byte}
use Rattle.tiff_page.specs.OutputRow.{StoresAllShown, handed_number, handed_byte}
use Rattle.tiff_page.specs.RowReads.{TakesRow}
use Rattle.tiff_page.specs.ChunkData.{IsTooShort}
use Rattle.tiff_page.specs.AdjacentRows.{LieTogether}
use Rattle.tiff_page.specs.lemmas.ChunkRows.{row_handed, bits_are, number_in_row, none_dropped, need_within, needed_more}
use Rattle.tiff_page.specs.lemmas.Rects.{writes_more, writes_as}
use Rattle.tiff_page.specs.lemmas.Rows.{each_same}
use Rattle.tiff_page.specs.ChunkBands.{rows_short}
use Rattle.tiff_page.specs.lemmas.PositionLaws.{product_some}

-- ---- the output of one row of several

-- the numbers of one row
number_moved : (order : ByteOrder) (size len q n k : ℕ) (many one : List ℕ) → len ≡ n * size → k < n
    → ((m : ℕ) → m < len → slice_index many (q * len + m) ≡ slice_index one m)
    → row_number order size many (q * n + k) ≡ row_number order size one k
number_moved order size len q n k many one e l same =
    let a : (k + 1) * size ≤ n * size = mul-le-mul_right size (omega (arith, l)) in
    ap (number order (width_of size))
    (each_same size (λ j. slice_index many ((q * n + k) * size + j)) (λ j. slice_index one (k * size
    + j))
    (λ j jl.
    let x : (q * n + k) * size + j ≡ q * len + (k * size + j) = omega (arith, ap (λ z. q * z) e) in
    ap (λ z. slice_index many z) x ∙ same (k * size + j) (omega (arith, jl, a, e))))

number_alone : (order : ByteOrder) (p : PageRecord) (many one : List ℕ) (pr : Predictor) (c d : ℕ)
    → pr ≡ predictor.None
    → row_number order (p.depth / 8) many c ≡ row_number order (p.depth / 8) one d
    → number_by pr order p many c ≡ number_by pr order p one d
number_alone order p many one predictor.None c d e h = h
number_alone order p many one predictor.Horizontal c d e h = cc
number_alone order p many one predictor.FloatingPoint c d e h = cc

-- rows of the same number of columns, of which the one after q others is alone
module _ (order : ByteOrder) (p : PageRecord) (color : ColorType) (w q b : ℕ) (many one : List ℕ)
    (stored : StoresAllShown p color) (all : stored_samples p ≤ samples_in_chunk p.planar color)
    (alone : p.predictor ≡ predictor.None) (bl : b < row_bytes p color w)
    (same : (m : ℕ) → m < row_bytes p color w → slice_index many (q * row_bytes p color w + m) ≡ slice_index one m) where
  abbrev len : ℕ
  len = row_bytes p color w

  abbrev s : ℕ
  s = samples_in_chunk p.planar color

  abbrev t : ℕ
  t = stored_samples p

  abbrev size : ℕ
  size = p.depth / 8

  abbrev n : ℕ
  n = b / size

  module _ (big : 8 ≤ p.depth) (whole : p.depth ≡ size * 8) where
    len_is : len ≡ w * s * size
    unfolding row_bits
    len_is = bits_are w p.depth size s whole

    before : q * len ≡ q * (w * s) * size
    before = ap (λ z. q * z) len_is ∙ omega arith

    number_here : row_number order size many ((q * w + n / s) * t + n % s)
        ≡ row_number order size one (n / s * t + n % s)
    number_here =
        let sz : 0 < size = omega (arith, big) in
        let f : t ≡ s = omega (arith, all, stored.stores) in
        let nl : n < w * s = div_below b size (w * s) sz (omega (arith, bl, len_is)) in
        let x : (q * w + n / s) * t + n % s ≡ q * (w * t) + (n / s * t + n % s) = omega arith in
        ap (row_number order size many) x
        ∙ number_moved order size len q (w * t) (n / s * t + n % s) many one (len_is
        ∙ ap (λ z. w * z * size) (sym f)) (omega (arith, number_in_row n s t w stored.shows stored.stores nl)) same

    whole_moved : handed_number order p many color ((q * len + b) / size) / 256 ^ ((q * len
        + b) % size) % 256
        ≡ handed_number order p one color n / 256 ^ (b % size) % 256
    whole_moved =
        let sz : 0 < size = omega (arith, big) in
        let y : q * (w * s) ≡ q * w * s = omega arith in
        let shows : ℕ → ℕ =
        λ v. shown_number p.interpretation (2 ^ p.depth) v / 256 ^ (b % size) % 256 in
        (λ z. handed_number order p many color ((ap (λ z. (z + b) / size) before
        ∙ mul-add-div_right sz (q * (w * s)) b) z) / 256 ^ (ap (λ z. (z + b) % size) before ∙ mul-add-mod_self_right (q * (w * s)) size b) z % 256)
        ∙ (λ z. shows (number_of_row order p many ((ap (λ z. (z + n) / s) y ∙ mul-add-div_right stored.shows (q * w) n) z * t + (ap (λ z. (z + n) % s) y ∙ mul-add-mod_self_right (q * w) s n) z)))
        ∙ ap shows (number_alone order p many one p.predictor ((q * w + n / s) * t
        + n % s) (n / s * t + n % s) alone number_here)

  pub handed_moved : handed_byte order p many color (q * len + b) ≡ handed_byte order p one color b
  handed_moved =
      ⊎_elim
      (λ (l : p.depth < 8).
      let e : nat_lt p.depth 8 ≡ true = lt-ltb p.depth 8 l in
      rw e (ap (shown_number p.interpretation 256) (same b bl)))
      (λ (g : 8 ≤ p.depth).
      ⊎_elim
      (λ (l : p.depth < 8). Prim.absurd (omega (arith, l, g)))
      (λ (whole : p.depth ≡ p.depth / 8 * 8). rw (le-ltb p.depth 8 g) (whole_moved g whole))
      stored.depth)
      (cases_lt p.depth 8)

-- several rows of whole bytes are of whole numbers
pub band_of_numbers : (p : PageRecord) (color : ColorType) (w q n : ℕ) → StoresAllShown p color
    → n ≡ q * row_bytes p color w
    → (p.depth < 8) ⊎ (n / (p.depth / 8) * (p.depth / 8) ≡ n)
unfolding row_bits
band_of_numbers p color w q n stored e =
    let size : ℕ = p.depth / 8 in
    let s : ℕ = samples_in_chunk p.planar color in
    ⊎_elim
    (λ (l : p.depth < 8). inl l)
    (λ (whole : p.depth ≡ p.depth / 8 * 8).
    let a : n ≡ q * (w * s) * size =
    e ∙ ap (λ z. q * z) (bits_are w p.depth size s whole) ∙ omega arith in
    ⊎_elim
    (λ (z : 0 < size). inr (ap (λ m. m / size * size) a
    ∙ ap (λ m. m * size) (mul-div_cancel (q * (w * s)) z) ∙ sym a))
    (λ (z : size ≤ 0). inl (omega (arith, z, whole)))
    (cases_lt 0 size))
    stored.depth

-- ---- where the rows go

-- the rows lie in the buffer
pub rows_below : (top h stride size row n : ℕ) → 0 < stride → (top + h) * stride ≤ size
    → row + n ≤ h → (top + row + n ≤ size) × ((top + row) * stride + n * stride ≤ size)
rows_below top h stride size row n s l r =
    let m : (top + (row + n)) * stride ≤ (top + h) * stride =
    mul-le-mul_right stride (omega (arith, r)) in
    let a : (top + (row + n)) * stride ≡ (top + row) * stride + n * stride = omega arith in
    (omega (arith, le-mul_of_pos_right (top + h) s, l, r), omega (arith, m, a, l))

-- more rows are written
pub band_put : (value : ℕ → ℕ → ℕ) (stride top row n left len at : ℕ) (out old mid new : List ℕ)
    → 0 < stride → left ≡ 0 → stride ≡ len
    → at ≡ (top + row) * stride → length out ≡ n * stride
    → ((i : ℕ) → i < length out → slice_index out i ≡ value (row + i / stride) (i % stride))
    → Writes (IsIn stride top row left len) (in_rect value stride top left) old mid
    → IsPut at out mid new
    → Writes (IsIn stride top (row + n) left len) (in_rect value stride top left) old new
band_put value stride top row n left len at out old mid new s l e f c v w put =
    let Q : ℕ → Type 0 = λ i. (at ≤ i) × (i < at + length out) in
    let there : (i : ℕ) → at ≤ i → (i / stride ≡ top + row + (i - at) / stride)
    × (i % stride ≡ (i - at) % stride) =
    λ i h.
    let d : i ≡ (top + row) * stride + (i - at) = omega (arith, f, h) in
    (ap (λ z. z / stride) d ∙ mul-add-div_right s (top + row) (i - at), ap (λ z. z % stride) d ∙ mul-add-mod_self_right (top + row) stride (i - at)) in
    let end : (top + row + n) * stride ≡ at + length out = omega (arith, f, c) in
    writes_more (IsIn stride top row left len) Q (IsIn stride top (row
    + n) left len) (in_rect value stride top left) old mid new
    (λ i p. record { below = p.below; above = omega (arith, p.above); right = p.right; within = p.within })
    (λ i q.
    let t = there i q.0 in
    let a : i / stride < top + row + n =
    div_below i stride (top + row + n) s (omega (arith, q.1, end)) in
    record { below = omega (arith, t.0); above = omega (arith, a); right = omega (arith, l); within = omega (arith, mod_below i stride s, e, l) })
    (λ i p. ⊎_elim
    (λ (b : i / stride < top + row). inl (record { below = p.below; above = b; right = p.right; within = p.within }))
    (λ (b : top + row ≤ i / stride).
    let d : i / stride * stride + i % stride ≡ i = div-add-mod' i stride in
    let x : (top + row) * stride ≤ i / stride * stride = mul-le-mul_right stride b in
    let y : (i / stride + 1) * stride ≤ (top + row + n) * stride =
    mul-le-mul_right stride (omega (arith, p.above)) in
    inr (omega (arith, d, x, f), omega (arith, d, mod_below i stride s, y, end)))
    (cases_lt (i / stride) (top + row)))
    w
    (writes_as Q (λ i. slice_index out (i - at)) (in_rect value stride top left) mid new
    (λ i q.
    let t = there i q.0 in
    let y : row + (i - at) / stride ≡ i / stride - top = omega (arith, t.0) in
    let x : (i - at) % stride ≡ i % stride - left = omega (arith, t.1, l) in
    v (i - at) (omega (arith, q.0, q.1)) ∙ (λ z. value (y z) (x z)))
    put)

-- ---- the rows of a chunk

module _ (file : List ℕ) (order : ByteOrder) (p : PageRecord) (color : ColorType)
    (k left stride : ℕ) (sides : HasSides p) (stored : StoresAllShown p color)
    (listed : k < all_chunks p) (together : LieTogether p color (row_bytes p color (rect p k).width) left stride) where
  abbrev h : ℕ
  h = (rect p k).height

  abbrev bytes : List ℕ
  bytes = chunk_data file order p k

  needed_here : (m : ℕ) → needed_of_row p color m ≡ m
  needed_here m = rw together.shown refl

  one_row : (row q m n : ℕ) → m < row_bytes p color (rect p k).width
      → q * row_bytes p color (rect p k).width + m < n
      → slice_index (take n (drop (row * row_bytes p color (rect p k).width) bytes))
      (q * row_bytes p color (rect p k).width + m)
      ≡ slice_index (take (row_bytes p color (rect p k).width) (drop ((row + q) * row_bytes p color (rect p k).width) bytes)) m
  one_row row q m n a b =
      let len : ℕ = row_bytes p color (rect p k).width in
      let e : row * len + (q * len + m) ≡ (row + q) * len + m = omega arith in
      get_or-take n (drop (row * len) bytes) (q * len + m) 0 b
      ∙ get_or-drop (row * len) bytes (q * len + m) 0
      ∙ ap (λ z. slice_index bytes z) e
      ∙ sym (get_or-take len (drop ((row + q) * len) bytes) m 0 a
      ∙ get_or-drop ((row + q) * len) bytes m 0)

  -- the bytes of several rows that were read are those of the chunk's rows
  pub band_bytes_are : (row n i : ℕ) (ahead rest out : List ℕ) → 0 < stride → row + n ≤ h
      → length out ≡ n * stride → ahead ≡ drop (row * stride) bytes
      → TakesRow order p color ahead rest out → i < length out
      → slice_index out i ≡ chunk_byte file order p color k (row + i / stride) (i % stride)
  band_bytes_are row n i ahead rest out s rl c d t il =
      let len : ℕ = row_bytes p color (rect p k).width in
      let q : ℕ = i / stride in
      let b : ℕ = i % stride in
      let e : stride ≡ len = together.in_buffer in
      let ql : q < n = div_below i stride n s (omega (arith, il, c)) in
      let bl : b < len = omega (arith, mod_below i stride s, e) in
      let v : q * len + b ≡ i = omega (arith, div-add-mod' i stride, ap (λ z. q * z) e) in
      let top : (q + 1) * len ≤ n * len = mul-le-mul_right len (omega (arith, ql)) in
      t.handed i il
      ∙ (λ z. handed_byte order p (take ((needed_here (length out)) z) ((d ∙ ap (λ z. drop (row * z) bytes) e) z)) color (sym v z))
      ∙ handed_moved order p color (rect p k).width q b (take (length out) (drop (row * len) bytes))
      (take len (drop ((row + q) * len) bytes)) stored
      (none_dropped (is_byte_plane p.predictor) (samples_in_chunk p.planar color) (stored_samples p) together.shown) together.alone bl
      (λ m ml. one_row row q m (length out) ml (omega (arith, ml, top, (c ∙ ap (λ z. n * z) e))))
      ∙ (λ z. handed_byte order p (take (sym (needed_here len) z) (drop ((row + q) * sym together.in_data z) bytes)) color b)
      ∙ sym (row_handed file order p color k (row
      + q) b sides stored listed (omega (arith, ql, rl)) bl)

  -- the data contain the rows so far
  pub band_held : (row n : ℕ) (ahead rest out : List ℕ) → 0 < stride → 0 < n
      → length out ≡ n * stride → ahead ≡ drop (row * stride) bytes
      → TakesRow order p color ahead rest out → (row + n) * stride ≤ length bytes
  band_held row n ahead rest out s some c d t =
      let a : length out ≤ length ahead =
      subst (λ (m : ℕ). m ≤ length ahead) (needed_here (length out)) t.enough in
      let y : (row + n) * stride ≡ row * stride + n * stride = omega arith in
      omega (arith, a, (ap (λ (z : List ℕ). length z) d ∙ length-drop (row * stride) bytes), c, s, mul-le-mul_right stride some, y)

  -- where the next row is
  pub next_band : (row n : ℕ) (ahead rest out : List ℕ) → length out ≡ n * stride
      → ahead ≡ drop (row * stride) bytes
      → TakesRow order p color ahead rest out → rest ≡ drop ((row + n) * stride) bytes
  next_band row n ahead rest out c d t =
      t.behind
      ∙ (λ z. drop ((needed_here (length out) ∙ c) z) (d z))
      ∙ drop-drop (n * stride) (row * stride) bytes
      ∙ ap (λ (m : ℕ). drop m bytes) (omega arith)

  rows_needed : 0 < h → (h - 1) * stored_row_bytes p
      + needed_of_row p color (row_bytes p color (rect p k).width) ≡ h * stride
  rows_needed some =
      let c : h - 1 + 1 ≡ h = omega (arith, some) in
      let d : (h - 1) * stride + stride ≡ (h - 1 + 1) * stride = omega arith in
      (λ z. (h - 1) * (together.in_data ∙ sym together.in_buffer) z
      + (needed_here (row_bytes p color (rect p k).width) ∙ sym together.in_buffer) z) ∙ d
      ∙ ap (λ m. m * stride) c

  -- several rows are within the bytes that are needed of the chunk
  pub band_within : (row n : ℕ) → 0 < h → row + n ≤ h
      → row * stride + n * stride ≤ needed_bytes p color k
  band_within row n some rl =
      let y : (row + n) * stride ≡ row * stride + n * stride = omega arith in
      omega (arith, mul-le-mul_right stride rl, y, rows_needed some)

  -- too few bytes for rows are too few for the chunk
  pub short_band : (failed failed' : Type 0) (row n m : ℕ) (ahead : List ℕ) (e : TiffError)
      → (failed → failed') → 0 < h → row + n ≤ h → m ≡ n * stride
      → ahead ≡ drop (row * stride) bytes
      → IsCause (Unit {0}) failed e (IsTooShort ahead (needed_of_row p color m) e)
      → IsCause (Unit {0}) failed' e (fail_if (is_short file order p color k) (IoError UnexpectedEof) ≡ Err e)
  short_band failed failed' row n m ahead e f some rl c d q =
      cause_along e (λ w. w) f
      (λ t.
      let l : length ahead < m = subst (λ (z : ℕ). length ahead < z) (needed_here m) t.short in
      let g : length ahead ≡ length bytes - row * stride =
      ap (λ (z : List ℕ). length z) d ∙ length-drop (row * stride) bytes in
      let y : (row + n) * stride ≡ row * stride + n * stride = omega arith in
      let x : (row + n) * stride ≤ h * stride = mul-le-mul_right stride rl in
      let s : is_short file order p color k ≡ true =
      lt-ltb (length bytes) ((h - 1) * stored_row_bytes p
      + needed_of_row p color (row_bytes p color (rect p k).width))
      (omega (arith, l, g, c, y, x, rows_needed some)) in
      rw (s, t.fault) refl)
      q

-- ---- the rows of a chunk are read one after another

-- a row lies in the buffer
pub row_below : (top h stride len row : ℕ) → 0 < stride → (top + h) * stride ≤ len → row < h
    → top + row < len
row_below top h stride len row s l r =
    omega (arith, le-mul_of_pos_right (top + h) s, l, r)

pub width_within : (p : PageRecord) (k : ℕ) → (rect p k).width ≤ p.chunk_width
unfolding rect
width_within p k = omega arith

-- a row has at least one byte
pub row_some : (p : PageRecord) (color : ColorType) (w : ℕ) → 0 < w → 0 < p.depth
    → 0 < samples_in_chunk p.planar color → 0 < row_bytes p color w
unfolding row_bits
row_some p color w a b s = product_some w p.depth (samples_in_chunk p.planar color) a b s

module _ (file : List ℕ) (order : ByteOrder) (p : PageRecord) (color : ColorType) (k : ℕ)
    (sides : HasSides p) (stored : StoresAllShown p color) (listed : k < all_chunks p) where
  abbrev pub its_rows : ℕ
  its_rows = (rect p k).height

  abbrev pub its_len : ℕ
  its_len = row_bytes p color (rect p k).width

  abbrev pub need : ℕ
  need = needed_of_row p color its_len

  abbrev pub its_data : List ℕ
  its_data = chunk_data file order p k

  -- the bytes of a row that was read are those of the chunk's row
  pub row_bytes_are : (r : ℕ) (left rest out : List ℕ) → r < its_rows → length out ≡ its_len
      → left ≡ drop (r * stored_row_bytes p) its_data → TakesRow order p color left rest out
      → (b : ℕ) → b < its_len → slice_index out b ≡ chunk_byte file order p color k r b
  row_bytes_are r left rest out rl e d t b bl =
      t.handed b (omega (arith, bl, e))
      ∙ (λ z. handed_byte order p (take (needed_of_row p color (e z)) (d z)) color b)
      ∙ sym (row_handed file order p color k r b sides stored listed rl bl)

  -- the data contain the rows so far
  pub row_held : (r : ℕ) (left rest out : List ℕ) → 0 < its_len → r < its_rows
      → length out ≡ its_len → left ≡ drop (r * stored_row_bytes p) its_data
      → TakesRow order p color left rest out
      → r * stored_row_bytes p + need ≤ length its_data
  row_held r left rest out some rl e d t =
      let a : need ≤ length left =
      subst (λ (n : ℕ). needed_of_row p color n ≤ length left) e t.enough in
      omega (arith, a, (ap (λ (z : List ℕ). length z) d ∙ length-drop (r * stored_row_bytes p) its_data), needed_more file order p color k r 0 sides stored listed rl some, some)

  -- where the next row is
  pub next_row : (r gap : ℕ) (left rest next out : List ℕ) → 0 < its_len → r + 1 < its_rows
      → length out ≡ its_len → left ≡ drop (r * stored_row_bytes p) its_data
      → TakesRow order p color left rest out
      → gap ≡ stored_row_bytes p - need → next ≡ drop gap rest
      → next ≡ drop ((r + 1) * stored_row_bytes p) its_data
  next_row r gap left rest next out some rl e d t g n =
      let w : need ≤ stored_row_bytes p =
      need_within file order p color k r 0 sides stored listed (omega (arith, rl)) some in
      let a : rest ≡ drop need left =
      subst (λ (m : ℕ). rest ≡ drop (needed_of_row p color m) left) e t.behind in
      (n ∙ ap (drop gap) (a ∙ ap (drop need) d))
      ∙ ap (drop gap) (drop-drop need (r * stored_row_bytes p) its_data)
      ∙ drop-drop gap (r * stored_row_bytes p + need) its_data
      ∙ ap (λ (m : ℕ). drop m its_data) (omega (arith, g, w))

  -- too few bytes for a row are too few for the rows up to a later one
  pub short_row : (r to : ℕ) (left : List ℕ) → r < to
      → left ≡ drop (r * stored_row_bytes p) its_data → length left < need
      → rows_short file order p color k to ≡ true
  short_row r to left rl d l =
      let m : r * stored_row_bytes p ≤ (to - 1) * stored_row_bytes p =
      mul-le-mul_right (stored_row_bytes p) (omega (arith, rl)) in
      lt-ltb (length its_data) ((to - 1) * stored_row_bytes p
      + need) (omega (arith, (ap (λ (z : List ℕ). length z) d ∙ length-drop (r * stored_row_bytes p) its_data), m, l))

  pub too_short : (failed failed' : Type 0) (r to n : ℕ) (left : List ℕ) (e : TiffError)
      → (failed → failed') → r < to → n ≡ its_len → left ≡ drop (r * stored_row_bytes p) its_data
      → IsCause (Unit {0}) failed e (IsTooShort left (needed_of_row p color n) e)
      → IsCause (Unit {0}) failed' e (fail_if (rows_short file order p color k to) (IoError UnexpectedEof) ≡ Err e)
  too_short failed failed' r to n left e f rl q d c =
      cause_along e (λ w. w) f
      (λ t.
      rw ((short_row r to left rl d (subst (λ (m : ℕ). length left < needed_of_row p color m) q t.short)), t.fault) refl)
      c
