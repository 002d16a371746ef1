-- The chunks of an image cover its positions in a buffer, each position once.
use Rattle.std.proofs.Common.{◌≡◌, ℕ, ◌+◌, ◌-◌, ◌*◌, ◌/◌, ◌%◌, ◌<◌, ◌≤◌, ◌⊎◌, min, true, false, Some, None, List, length, refl, ap, sym, ◌∙◌, inl, inr, ⊎_elim, arith}
use Rattle.std.specs.Prelude.{nat_lt, slice_index, unwrap_or}
use Rattle.std.proofs.lemmas.Bool.{cases_Bool, cases_lt, lt-ltb, le-ltb}
use Rattle.std.proofs.lemmas.List.{ext_get_or}
use Rattle.std.proofs.lemmas.Nat.{div-mul-add, mod-mul-add, mod_below, div_below, div-add-mod', same_from_place}
use Rattle.std.proofs.Math.Nat.{mul_assoc, mul_comm, div-div-eq-div-mul, div-eq_of_lt}
use Rattle.std.proofs.Math.Arith.{mod-mul}
use Rattle.tiff_base.specs.declared.color.ColorType.{ColorType}
use Rattle.tiff_base.specs.declared.tags.ByteOrder.{ByteOrder}
use Rattle.tiff_page.specs.Page.{PageRecord}
use Rattle.tiff_page.specs.Counts.{parts}
use Rattle.tiff_page.specs.Rect.{rect, across, chunks_of_plane}
use Rattle.tiff_page.specs.Layout.{row_bits, row_bytes, samples_in_chunk}
use Rattle.tiff_page.specs.Pixels.{Region, byte_at, region_byte, image_region, chunk_region}
use Rattle.tiff_page.specs.PixelCalls.{bytes_with_region}
use Rattle.tiff_page.specs.Laws.{HasSides, HasWholeRows}
use Rattle.tiff_page.specs.BufferPositions.{Writes, in_rect, chunk_byte, plane_of, chunk_of, top_of, left_of, IsInChunk, IsOfChunk, IsBefore, image_byte, IsIn, IsInUnit, unit_byte}
use Rattle.tiff_page.specs.PositionLaws as law
use Rattle.tiff_page.specs.lemmas.PositionLaws.{parts_cover, parts_some, parts_within, plane_some, one_below, part_below, placed_each, chunks_within}
use Rattle.tiff_page.specs.lemmas.ChunkRows.{fewer_bytes, start_is, none_before, image_of_chunks, unit_of_chunks}
use Rattle.tiff_page.specs.lemmas.Rects.{writes_more, writes_same, writes_as, writes_none}

-- a row in columns of chunks and the rest
pub row_parts : (cx cw w d s : ℕ) → cx * cw ≤ w → (cx ≡ 0) ⊎ (cw * d * s ≡ cw * d * s / 8 * 8)
    → (w * d * s + 7) / 8 ≡ cx * ((cw * d * s + 7) / 8) + ((w - cx * cw) * d * s + 7) / 8
row_parts cx cw w d s l h =
    let n : ℕ = w - cx * cw in
    let e : w ≡ cx * cw + n = omega (arith, l) in
    let f : w * d * s ≡ (cx * cw + n) * d * s = ap (λ z. z * d * s) e in
    let g : (cx * cw + n) * d * s ≡ cx * (cw * d * s) + n * d * s = omega arith in
    ⊎_elim
    (λ (z : cx ≡ 0).
    let a : cx * (cw * d * s) ≡ 0 * (cw * d * s) = ap (λ m. m * (cw * d * s)) z in
    let b : cx * ((cw * d * s + 7) / 8) ≡ 0 * ((cw * d * s + 7) / 8) =
    ap (λ m. m * ((cw * d * s + 7) / 8)) z in
    omega (arith, a, b, f, g))
    (λ (q : cw * d * s ≡ cw * d * s / 8 * 8).
    let m : ℕ = cw * d * s / 8 in
    let c : (cw * d * s + 7) / 8 ≡ m = omega (arith, q) in
    omega (arith, ap (λ z. cx * z) q, sym (mul_assoc cx m 8), f, g, ap (λ z. cx * z) c))
    h

-- the columns of chunks cover a row
pub row_covered : (a cw w d s : ℕ) → w ≤ a * cw → (a ≤ 1) ⊎ (cw * d * s ≡ cw * d * s / 8 * 8)
    → (w * d * s + 7) / 8 ≤ a * ((cw * d * s + 7) / 8)
row_covered a cw w d s l h =
    let f : (w * d * s + 7) / 8 ≤ (a * cw * d * s + 7) / 8 = fewer_bytes w (a * cw) d s l in
    ⊎_elim
    (λ (one : a ≤ 1).
    ⊎_elim
    (λ (z : a < 1).
    let q : a ≡ 0 = omega (arith, z) in
    let e : a * cw * d * s ≡ 0 * cw * d * s = ap (λ m. m * cw * d * s) q in
    omega (arith, e, f))
    (λ (o : 1 ≤ a).
    let q : a ≡ 1 = omega (arith, one, o) in
    let e : a * cw * d * s ≡ 1 * cw * d * s = ap (λ m. m * cw * d * s) q in
    let g : a * ((cw * d * s + 7) / 8) ≡ 1 * ((cw * d * s + 7) / 8) =
    ap (λ m. m * ((cw * d * s + 7) / 8)) q in
    omega (arith, e, f, g))
    (cases_lt a 1))
    (λ (q : cw * d * s ≡ cw * d * s / 8 * 8).
    let m : ℕ = cw * d * s / 8 in
    let e : a * cw * d * s ≡ a * (cw * d * s) = omega arith in
    let k : (cw * d * s + 7) / 8 ≡ m = omega (arith, q) in
    omega (arith, e, ap (λ z. a * z) q, sym (mul_assoc a m 8), f, ap (λ z. a * z) k))
    h

-- fewer bytes than two rows have, with the shorter row as the limit
pub below_min : (m cw n d s : ℕ) → m < (cw * d * s + 7) / 8 → m < (n * d * s + 7) / 8
    → m < (min cw n * d * s + 7) / 8
below_min m cw n d s a b =
    ⊎_elim
    (λ (l : cw < n). let e : min cw n ≡ cw = omega (arith, l) in rw e a)
    (λ (l : n ≤ cw). let e : min cw n ≡ n = omega (arith, l) in rw e b)
    (cases_lt cw n)

-- a chunk of a plane
module _ (p : PageRecord) (color : ColorType) (stride plane j : ℕ) (sides : HasSides p)
    (whole : HasWholeRows p color) (fits : row_bytes p color p.width ≤ stride)
    (in_plane : j < chunks_of_plane p) where
  abbrev pub a : ℕ
  a = across p

  abbrev pub cx : ℕ
  cx = j % a

  abbrev pub cy : ℕ
  cy = j / a

  abbrev pub c : ℕ
  c = row_bytes p color p.chunk_width

  abbrev pub k : ℕ
  k = plane * chunks_of_plane p + j

  pub across_some : 0 < a
  across_some = parts_some p.width p.chunk_width sides.chunk_wide sides.wide

  pub index : k % chunks_of_plane p ≡ j
  index = mod-mul-add plane (chunks_of_plane p) j in_plane

  pub x_is : (rect p k).x ≡ cx * p.chunk_width
  unfolding rect
  x_is = ap (λ z. z % a * p.chunk_width) index

  pub y_is : (rect p k).y ≡ cy * p.chunk_height
  unfolding rect
  y_is = ap (λ z. z / a * p.chunk_height) index

  pub width_is : (rect p k).width ≡ min p.chunk_width (p.width - cx * p.chunk_width)
  unfolding rect
  width_is = ap (λ z. min p.chunk_width (p.width - z % a * p.chunk_width)) index

  pub height_is : (rect p k).height ≡ min p.chunk_height (p.height - cy * p.chunk_height)
  unfolding rect
  height_is = ap (λ z. min p.chunk_height (p.height - z / a * p.chunk_height)) index

  pub plane_is : (rect p k).plane ≡ plane
  unfolding rect
  plane_is = div-mul-add plane (chunks_of_plane p) j in_plane

  pub column_in : cx * p.chunk_width < p.width
  column_in = parts_within p.width p.chunk_width cx sides.chunk_wide (mod_below j a across_some)

  pub line_in : cy * p.chunk_height < p.height
  line_in =
      parts_within p.height p.chunk_height cy sides.chunk_high
      (div_below j a (parts p.height p.chunk_height) across_some (rw (mul_comm (parts p.height p.chunk_height) a) in_plane))

  pub first_or_whole : (cx ≡ 0)
      ⊎ (row_bits p color p.chunk_width ≡ row_bits p color p.chunk_width / 8 * 8)
  first_or_whole =
      ⊎_elim
      (λ (one : a ≤ 1). let l : cx < a = mod_below j a across_some in inl (omega (arith, one, l)))
      (λ e. inr e)
      whole.rows

  pub left_is : left_of p color stride plane j ≡ cx * c
  unfolding row_bits
  left_is =
      ap (λ z. z * p.depth * samples_in_chunk p.planar color / 8) x_is
      ∙ ⊎_elim
      (λ (z : cx ≡ 0).
      ap (λ n. n * p.chunk_width * p.depth * samples_in_chunk p.planar color / 8) z
      ∙ none_before p.chunk_width p.depth (samples_in_chunk p.planar color) c
      ∙ ap (λ n. n * c) (sym z))
      (λ e. start_is cx p.chunk_width p.depth (samples_in_chunk p.planar color) e)
      first_or_whole

  pub row_is : row_bytes p color p.width ≡ cx * c + row_bytes p color (p.width - cx * p.chunk_width)
  unfolding row_bits
  row_is =
      row_parts cx p.chunk_width p.width p.depth (samples_in_chunk p.planar color)
      (omega (arith, column_in)) first_or_whole

  pub len_in : row_bytes p color (rect p k).width ≤ row_bytes p color (p.width - cx * p.chunk_width)
  unfolding row_bits
  len_in =
      rw width_is (fewer_bytes (min p.chunk_width (p.width - cx * p.chunk_width)) (p.width - cx * p.chunk_width) p.depth (samples_in_chunk p.planar color) (omega arith))

  pub len_below : row_bytes p color (rect p k).width ≤ c
  unfolding row_bits
  len_below =
      rw width_is (fewer_bytes (min p.chunk_width (p.width - cx * p.chunk_width)) p.chunk_width p.depth (samples_in_chunk p.planar color) (omega arith))

  pub row_in_stride : left_of p color stride plane j + row_bytes p color (rect p k).width ≤ stride
  row_in_stride =
      let e = left_is in let r = row_is in let l = len_in in omega (arith, e, r, l, fits)

  pub belongs : (i : ℕ) → IsInChunk p color stride plane j i → IsOfChunk p color stride plane j i
  belongs i q =
      let h = height_is in
      let row : ℕ = i / stride - top_of p color stride plane j in
      let b : ℕ = i % stride - left_of p color stride plane j in
      let rl : row < (rect p k).height = omega (arith, q.below, q.above) in
      let bl : b < row_bytes p color (rect p k).width = omega (arith, q.right, q.within) in
      let yi : i / stride ≡ plane * p.height + (cy * p.chunk_height + row) =
      omega (arith, q.below, y_is) in
      let yl : cy * p.chunk_height + row < p.height = omega (arith, rl, h, line_in) in
      let xi : i % stride ≡ cx * c + b = omega (arith, q.right, left_is) in
      let v : i / stride % p.height ≡ cy * p.chunk_height + row =
      ap (λ z. z % p.height) yi ∙ mod-mul-add plane p.height (cy * p.chunk_height + row) yl in
      let w : i / stride % p.height / p.chunk_height ≡ cy =
      ap (λ z. z / p.chunk_height) v
      ∙ div-mul-add cy p.chunk_height row (omega (arith, rl, h)) in
      let x : i % stride / c ≡ cx =
      ap (λ z. z / c) xi ∙ div-mul-add cx c b (omega (arith, bl, len_below)) in
      record {
        byte = omega (arith, xi, bl, row_is, len_in);
        of_plane =
            (ap (λ z. z / p.height) yi ∙ div-mul-add plane p.height (cy * p.chunk_height + row) yl);
        of_chunk = ap (λ z. z * a + i % stride / c) w ∙ ap (λ z. cy * a + z) x ∙ div-add-mod' j a;
      }

  pub covers : row_bytes p color p.width ≤ a * c
  unfolding row_bits
  covers =
      row_covered a p.chunk_width p.width p.depth (samples_in_chunk p.planar color)
      (parts_cover p.width p.chunk_width sides.chunk_wide) whole.rows

  pub chunk_bytes_some : 0 < row_bytes p color p.width → 0 < c
  chunk_bytes_some h =
      ⊎_elim (λ (g : 0 < c). g) (λ (z : c ≤ 0). let e : c ≡ 0 = omega (arith, z) in let f : a * c
      ≡ a * 0 = ap (λ n. a * n) e in Prim.absurd (omega (arith, covers, h, f))) (cases_lt 0 c)

  pub part_below_min : (b : ℕ) → b < c → b < row_bytes p color (p.width - cx * p.chunk_width)
      → b < row_bytes p color (rect p k).width
  unfolding row_bits
  part_below_min b l h =
      rw width_is (below_min b p.chunk_width (p.width - cx * p.chunk_width) p.depth (samples_in_chunk p.planar color) l h)

  pub is_of : (i : ℕ) → IsOfChunk p color stride plane j i → IsInChunk p color stride plane j i
  is_of i q =
      let e = left_is in
      let y = y_is in
      let cs : 0 < c = chunk_bytes_some (omega (arith, q.byte)) in
      let xl : i % stride / c < a = div_below (i % stride) c a cs (omega (arith, q.byte, covers)) in
      let s =
      same_from_place (i / stride % p.height / p.chunk_height) (i % stride / c) cy cx a xl
      (mod_below j a across_some) (q.of_chunk ∙ sym (div-add-mod' j a)) in
      let row : ℕ = i / stride % p.height % p.chunk_height in
      let b : ℕ = i % stride % c in
      let v2 : cy * p.chunk_height + row ≡ i / stride % p.height =
      ap (λ z. z * p.chunk_height + row) (sym s.0)
      ∙ (div-add-mod' (i / stride % p.height) p.chunk_height) in
      let w2 : plane * p.height + i / stride % p.height ≡ i / stride =
      ap (λ z. z * p.height + i / stride % p.height) (sym q.of_plane)
      ∙ (div-add-mod' (i / stride) p.height) in
      let x2 : cx * c + b ≡ i % stride =
      ap (λ z. z * c + b) (sym s.1) ∙ (div-add-mod' (i % stride) c) in
      let bw : b < row_bytes p color (rect p k).width =
      part_below_min b (mod_below (i % stride) c cs) (omega (arith, x2, q.byte, row_is)) in
      record {
        below = omega (arith, w2, v2, y);
        above =
            omega (arith, w2, v2, y, height_is, mod_below (i / stride % p.height) p.chunk_height sides.chunk_high, mod_below (i / stride) p.height sides.high);
        right = omega (arith, x2, e);
        within = omega (arith, x2, e, bw);
      }

  module _ (file : List ℕ) (order : ByteOrder) where
    pub byte_is : (i : ℕ) → IsInChunk p color stride plane j i
        → in_rect (chunk_byte file order p color k) stride (top_of p color stride plane j)
        (left_of p color stride plane j) i
        ≡ image_byte p color stride file order i
    byte_is i q =
        let y = y_is in
        let row : ℕ = i / stride - top_of p color stride plane j in
        let b : ℕ = i % stride - left_of p color stride plane j in
        let rl : row < (rect p k).height = omega (arith, q.below, q.above) in
        let bl : b < row_bytes p color (rect p k).width = omega (arith, q.right, q.within) in
        let yi : i / stride ≡ plane * p.height + (cy * p.chunk_height + row) =
        omega (arith, q.below, y) in
        let yl : cy * p.chunk_height + row < p.height = omega (arith, rl, height_is, line_in) in
        let v2 : (rect p k).y + row ≡ i / stride % p.height =
        omega (arith, (ap (λ z. z % p.height) yi ∙ mod-mul-add plane p.height (cy * p.chunk_height + row) yl), y) in
        let x : row_bits p color (rect p k).x / 8 + b ≡ i % stride = omega (arith, q.right) in
        sym (image_of_chunks file order p color k row b sides whole rl bl)
        ∙ (λ t. region_byte file order p color (image_region p) ((plane_is
        ∙ sym (belongs i q).of_plane) t) (v2 t) (x t))

    pub chunk_at_position : (old new : List ℕ)
        → Writes (IsInChunk p color stride plane j) (in_rect (chunk_byte file order p color k) stride (top_of p color stride plane j) (left_of p color stride plane j)) old new
        → Writes (IsOfChunk p color stride plane j) (image_byte p color stride file order) old new
    chunk_at_position old new w =
        writes_same (IsInChunk p color stride plane j) (IsOfChunk p color stride plane j)
        (image_byte p color stride file order) old new belongs is_of
        (writes_as (IsInChunk p color stride plane j)
        (in_rect (chunk_byte file order p color k) stride (top_of p color stride plane j) (left_of p color stride plane j))
        (image_byte p color stride file order) old new byte_is w)

pub chunk_written : law.ChunkWritten
chunk_written file order p color stride plane j old new sides whole fits in_plane w =
    chunk_at_position p color stride plane j sides whole fits in_plane file order old new w

-- ---- chunks after chunks

pub chunks_written : law.ChunksWritten
chunks_written p color stride n j plane value old mid new l a b =
    writes_more (IsBefore p color stride n j plane) (IsOfChunk p color stride plane j)
    (IsBefore p color stride n j (plane + 1)) value old mid new
    (λ i q. record {
      byte = q.byte;
      of_plane = q.of_plane;
      of_chunk =
          ⊎_elim (λ (z : chunk_of p color stride i < j). inl z) (λ z. inr (z.0, omega (arith, z.1))) q.of_chunk;
    })
    (λ i q. record { byte = q.byte; of_plane = omega (arith, q.of_plane, l); of_chunk = inr (q.of_chunk, omega (arith, q.of_plane)) })
    (λ i q. ⊎_elim
    (λ (z : chunk_of p color stride i < j). inl (record { byte = q.byte; of_plane = q.of_plane; of_chunk = inl z }))
    (λ z. ⊎_elim
    (λ (m : plane_of p color stride i < plane). inl (record { byte = q.byte; of_plane = q.of_plane; of_chunk = inr (z.0, m) }))
    (λ (m : plane ≤ plane_of p color stride i). inr (record { byte = q.byte; of_plane = omega (arith, m, z.1); of_chunk = z.0 }))
    (cases_lt (plane_of p color stride i) plane))
    q.of_chunk)
    a b

-- all planes of the j-th chunk are all chunks below the next one, and no plane has more
pub planes_written : law.PlanesWritten
planes_written p color stride n j value old new w =
    writes_same (IsBefore p color stride n j n) (IsBefore p color stride n (j + 1) 0) value old new
    (λ i q. record { byte = q.byte; of_plane = q.of_plane; of_chunk = inl (⊎_elim (λ (z : chunk_of p color stride i < j). omega (arith, z)) (λ z. omega (arith, z.0)) q.of_chunk) })
    (λ i q. record {
      byte = q.byte;
      of_plane = q.of_plane;
      of_chunk =
          ⊎_elim
          (λ (z : chunk_of p color stride i < j + 1).
          ⊎_elim (λ (y : chunk_of p color stride i < j). inl y) (λ (y : j ≤ chunk_of p color stride i). inr (omega (arith, y, z), q.of_plane)) (cases_lt (chunk_of p color stride i) j))
          (λ z. Prim.absurd (omega (arith, z.1)))
          q.of_chunk;
    })
    w

pub none_written : law.NoneWritten
none_written p color stride n value old =
    writes_none (IsBefore p color stride n 0 0) value old
    (λ i q. ⊎_elim (λ (z : chunk_of p color stride i < 0). Prim.absurd (omega (arith, z))) (λ z. Prim.absurd (omega (arith, z.1))) q.of_chunk)

module _ (file : List ℕ) (order : ByteOrder) (p : PageRecord) (color : ColorType) (stride n : ℕ)
    (sides : HasSides p) (whole : HasWholeRows p color) (fits : row_bytes p color p.width ≤ stride) where
  pub row_of_position : 0 < stride → (i : ℕ)
      → i % (stride * p.height) / stride ≡ i / stride % p.height
  row_of_position s i =
      ap (λ z. i % z / stride) (mul_comm stride p.height)
      ∙ ap (λ z. z / stride) (mod-mul i sides.high s)
      ∙ div-mul-add (i / stride % p.height) stride (i % stride) (mod_below i stride s)

  pub plane_of_position : (i : ℕ) → i / (stride * p.height) ≡ plane_of p color stride i
  plane_of_position i = sym (div-div-eq-div-mul i stride p.height)

  pub position_shown : (i : ℕ) → plane_of p color stride i < n
      → i % stride < row_bytes p color p.width
      → byte_at file order p color (image_region p) stride n i
      ≡ Some (image_byte p color stride file order i)
  unfolding byte_at
  position_shown i a b =
      let s : 0 < stride = omega (arith, b, fits) in
      let u = plane_of_position i in
      let t : nat_lt (i / (stride * p.height)) n ≡ true =
      lt-ltb (i / (stride * p.height)) n (omega (arith, a, u)) in
      let w : 0 + i / (stride * p.height) ≡ plane_of p color stride i = omega (arith, u) in
      rw (t, lt-ltb (i % stride) (row_bytes p color p.width) b) (λ z. Some (region_byte file order p color (image_region p) (w z) (row_of_position s i z) (i % stride)))

  pub plane_gap : (i : ℕ) → n ≤ plane_of p color stride i
      → byte_at file order p color (image_region p) stride n i ≡ None
  unfolding byte_at
  plane_gap i a =
      let t : nat_lt (i / (stride * p.height)) n ≡ false =
      le-ltb (i / (stride * p.height)) n (omega (arith, a, plane_of_position i)) in
      rw t refl

  pub row_gap : (i : ℕ) → row_bytes p color p.width ≤ i % stride
      → byte_at file order p color (image_region p) stride n i ≡ None
  unfolding byte_at
  row_gap i b =
      ⊎_elim
      (λ (t : nat_lt (i / (stride * p.height)) n ≡ true). rw (t, le-ltb (i % stride) (row_bytes p color p.width) b) refl)
      (λ (t : nat_lt (i / (stride * p.height)) n ≡ false). rw t refl)
      (cases_Bool (nat_lt (i / (stride * p.height)) n))

  pub chunk_below : (i : ℕ) → i % stride < row_bytes p color p.width
      → chunk_of p color stride i < chunks_of_plane p
  chunk_below i b =
      let o : 0 < chunks_of_plane p =
      plane_some p.width p.height p.chunk_width p.chunk_height sides.wide sides.high sides.chunk_wide sides.chunk_high in
      one_below (i % stride / row_bytes p color p.chunk_width) (i / stride % p.height / p.chunk_height) (across p) (parts p.height p.chunk_height)
      (div_below (i % stride) (row_bytes p color p.chunk_width) (across p) (chunk_bytes_some p color stride 0 0 sides whole fits o (omega (arith, b))) (omega (arith, b, covers p color stride 0 0 sides whole fits o)))
      (part_below (i / stride % p.height) p.height p.chunk_height sides.chunk_high (mod_below (i / stride) p.height sides.high))

  pub is_before : (i : ℕ) → plane_of p color stride i < n → i % stride < row_bytes p color p.width
      → IsBefore p color stride n (chunks_of_plane p) 0 i
  is_before i a b = record { byte = b; of_plane = a; of_chunk = inl (chunk_below i b) }

  pub byte_there : (old new : List ℕ)
      → Writes (IsBefore p color stride n (chunks_of_plane p) 0) (image_byte p color stride file order) old new
      → (i : ℕ) → i < length old
      → slice_index new i ≡ unwrap_or (byte_at file order p color (image_region p) stride n i)
      (slice_index old i)
  byte_there old new w i l =
      ⊎_elim
      (λ q. q.1 ∙ sym (ap (λ z. unwrap_or z (slice_index old i)) (position_shown i q.0.of_plane q.0.byte)))
      (λ q. ⊎_elim
      (λ (a : plane_of p color stride i < n).
      ⊎_elim
      (λ (b : i % stride < row_bytes p color p.width). Prim.absurd (q.0 (is_before i a b)))
      (λ (b : row_bytes p color p.width ≤ i % stride). q.1
      ∙ sym (ap (λ z. unwrap_or z (slice_index old i)) (row_gap i b)))
      (cases_lt (i % stride) (row_bytes p color p.width)))
      (λ (a : n ≤ plane_of p color stride i). q.1
      ∙ sym (ap (λ z. unwrap_or z (slice_index old i)) (plane_gap i a)))
      (cases_lt (plane_of p color stride i) n))
      (w.1 i l)

-- a list that has at each position the byte of a region, or that of the buffer, is the buffer after
-- the region is placed in it
pub is_placed : (file : List ℕ) (order : ByteOrder) (p : PageRecord) (color : ColorType)
    (region : Region) (stride n : ℕ) (old new : List ℕ) → length new ≡ length old
    → ((i : ℕ) → i < length old → slice_index new i
    ≡ unwrap_or (byte_at file order p color region stride n i) (slice_index old i))
    → new ≡ bytes_with_region file order p color region stride n old
is_placed file order p color region stride n old new e h =
    let q = placed_each file order p color region stride n old in
    ext_get_or 0 new (bytes_with_region file order p color region stride n old) (e
    ∙ sym q.0) (λ i l. h i (omega (arith, e, l)) ∙ sym (q.1 i (omega (arith, e, l))))

pub image_written : law.ImageWritten
image_written file order p color stride n old new sides whole fits w =
    is_placed file order p color (image_region p) stride n old new w.0
    (byte_there file order p color stride n sides whole fits old new w)

-- ---- a chunk in a buffer, and the chunks of further planes after it

module _ (file : List ℕ) (order : ByteOrder) (p : PageRecord) (color : ColorType) (stride k : ℕ)
    (sides : HasSides p) where
  abbrev pub h : ℕ
  h = (rect p k).height

  abbrev pub len : ℕ
  len = row_bytes p color (rect p k).width

  pub rows_some : 0 < h
  rows_some = (chunks_within p k sides).some_row

  module _ (plane : ℕ) (which : (plane ≡ 0) ⊎ (k < chunks_of_plane p)) where
    abbrev pub At : ℕ → Type 0
    At i = IsIn stride (plane * h) h 0 len i

    pub plane_at : (i : ℕ) → At i
        → (i / stride / h ≡ plane) × (i / stride % h ≡ i / stride - plane * h)
    plane_at i q =
        let e : i / stride ≡ plane * h + (i / stride - plane * h) = omega (arith, q.below) in
        let l : i / stride - plane * h < h = omega (arith, q.below, q.above) in
        (ap (λ z. z / h) e ∙ div-mul-add plane h (i / stride - plane * h) l, ap (λ z. z % h) e ∙ mod-mul-add plane h (i / stride - plane * h) l)

    pub at_plane : (i : ℕ) → i % stride < len → i / stride / h ≡ plane → At i
    at_plane i l e =
        let d : i / stride / h * h + i / stride % h ≡ i / stride = div-add-mod' (i / stride) h in
        let f : i / stride / h * h ≡ plane * h = ap (λ z. z * h) e in
        record { below = omega (arith, d, f); above = omega (arith, d, f, mod_below (i / stride) h rows_some); right = omega arith; within = omega (arith, l) }

    -- the byte of a chunk is that of the unit
    pub of_unit : (row b : ℕ) → chunk_byte file order p color (plane * chunks_of_plane p + k) row b
        ≡ region_byte file order p color (chunk_region p k) ((rect p k).plane + plane) row b
    unfolding rect
    of_unit row b =
        ⊎_elim
        (λ (z : plane ≡ 0).
        let e : plane * chunks_of_plane p ≡ 0 * chunks_of_plane p =
        ap (λ m. m * chunks_of_plane p) z in
        let f : plane * chunks_of_plane p + k ≡ k = omega (arith, e) in
        let g : k / chunks_of_plane p ≡ k / chunks_of_plane p + plane = omega (arith, z) in
        (λ t. region_byte file order p color (chunk_region p (f t)) (f t / chunks_of_plane p) row b)
        ∙ (λ t. region_byte file order p color (chunk_region p k) (g t) row b))
        (λ (l : k < chunks_of_plane p).
        let g : plane ≡ k / chunks_of_plane p + plane = omega (arith, div-eq_of_lt l) in
        (λ t. region_byte file order p color (chunk_region p (plane * chunks_of_plane p
        + k)) ((div-mul-add plane (chunks_of_plane p) k l) t) row b)
        ∙ sym (unit_of_chunks file order p color k plane row b l)
        ∙ (λ t. region_byte file order p color (chunk_region p k) (g t) row b))
        which

    pub unit_byte_is : (i : ℕ) → At i
        → in_rect (chunk_byte file order p color (plane * chunks_of_plane p
        + k)) stride (plane * h) 0 i ≡ unit_byte file order p color stride k i
    unit_byte_is i q =
        let u = plane_at i q in
        let x : i % stride - 0 ≡ i % stride = omega arith in
        of_unit (i / stride - plane * h) (i % stride - 0)
        ∙ (λ t. region_byte file order p color (chunk_region p k) ((rect p k).plane
        + sym u.0 t) (sym u.1 t) (x t))

    pub plane_more : (old mid new : List ℕ)
        → Writes (IsInUnit p color stride k plane) (unit_byte file order p color stride k) old mid
        → Writes At (in_rect (chunk_byte file order p color (plane * chunks_of_plane p
        + k)) stride (plane * h) 0) mid new
        → Writes (IsInUnit p color stride k (plane
        + 1)) (unit_byte file order p color stride k) old new
    plane_more old mid new a b =
        writes_more (IsInUnit p color stride k plane) At (IsInUnit p color stride k (plane
        + 1)) (unit_byte file order p color stride k) old mid new
        (λ i q. record { byte = q.byte; of_plane = omega (arith, q.of_plane) })
        (λ i q. let u = plane_at i q in
        record { byte = omega (arith, q.within); of_plane = omega (arith, u.0) })
        (λ i q. ⊎_elim
        (λ (l : i / stride / h < plane). inl (record { byte = q.byte; of_plane = l }))
        (λ (l : plane ≤ i / stride / h). inr (at_plane i q.byte (omega (arith, l, q.of_plane))))
        (cases_lt (i / stride / h) plane))
        a
        (writes_as At (in_rect (chunk_byte file order p color (plane * chunks_of_plane p + k)) stride (plane * h) 0) (unit_byte file order p color stride k) mid new unit_byte_is b)

  module _ (n : ℕ) (fits : len ≤ stride) where
    pub unit_row_of : 0 < stride → (i : ℕ) → i % (stride * h) / stride ≡ i / stride % h
    unit_row_of s i =
        ap (λ z. i % z / stride) (mul_comm stride h) ∙ ap (λ z. z / stride) (mod-mul i rows_some s)
        ∙ div-mul-add (i / stride % h) stride (i % stride) (mod_below i stride s)

    pub unit_plane_of : (i : ℕ) → i / (stride * h) ≡ i / stride / h
    unit_plane_of i = sym (div-div-eq-div-mul i stride h)

    pub unit_shown : (i : ℕ) → i / stride / h < n → i % stride < len
        → byte_at file order p color (chunk_region p k) stride n i
        ≡ Some (unit_byte file order p color stride k i)
    unfolding byte_at
    unit_shown i a b =
        let s : 0 < stride = omega (arith, b, fits) in
        let u = unit_plane_of i in
        let t : nat_lt (i / (stride * h)) n ≡ true =
        lt-ltb (i / (stride * h)) n (omega (arith, a, u)) in
        rw (t, lt-ltb (i % stride) len b) (λ z. Some (region_byte file order p color (chunk_region p k) ((rect p k).plane + u z) (unit_row_of s i z) (i % stride)))

    pub unit_plane_gap : (i : ℕ) → n ≤ i / stride / h
        → byte_at file order p color (chunk_region p k) stride n i ≡ None
    unfolding byte_at
    unit_plane_gap i a =
        let t : nat_lt (i / (stride * h)) n ≡ false =
        le-ltb (i / (stride * h)) n (omega (arith, a, unit_plane_of i)) in
        rw t refl

    pub unit_row_gap : (i : ℕ) → len ≤ i % stride
        → byte_at file order p color (chunk_region p k) stride n i ≡ None
    unfolding byte_at
    unit_row_gap i b =
        ⊎_elim
        (λ (t : nat_lt (i / (stride * h)) n ≡ true). rw (t, le-ltb (i % stride) len b) refl)
        (λ (t : nat_lt (i / (stride * h)) n ≡ false). rw t refl)
        (cases_Bool (nat_lt (i / (stride * h)) n))

    pub unit_byte_there : (old new : List ℕ)
        → Writes (IsInUnit p color stride k n) (unit_byte file order p color stride k) old new
        → (i : ℕ) → i < length old
        → slice_index new i ≡ unwrap_or (byte_at file order p color (chunk_region p k) stride n i)
        (slice_index old i)
    unit_byte_there old new w i l =
        ⊎_elim
        (λ q. q.1 ∙ sym (ap (λ z. unwrap_or z (slice_index old i)) (unit_shown i q.0.of_plane q.0.byte)))
        (λ q. ⊎_elim
        (λ (a : i / stride / h < n).
        ⊎_elim
        (λ (b : i % stride < len). Prim.absurd (q.0 (record { byte = b; of_plane = a })))
        (λ (b : len ≤ i % stride). q.1 ∙ sym (ap (λ z. unwrap_or z (slice_index old i)) (unit_row_gap i b)))
        (cases_lt (i % stride) len))
        (λ (a : n ≤ i / stride / h). q.1 ∙ sym (ap (λ z. unwrap_or z (slice_index old i)) (unit_plane_gap i a)))
        (cases_lt (i / stride / h) n))
        (w.1 i l)

pub unit_plane_written : law.UnitPlaneWritten
unit_plane_written file order p color stride k plane old mid new sides which a b =
    plane_more file order p color stride k sides plane which old mid new a b

pub no_plane_written : law.NoPlaneWritten
no_plane_written p color stride k value old =
    writes_none (IsInUnit p color stride k 0) value old (λ i q. Prim.absurd (omega (arith, q.of_plane)))

pub unit_written : law.UnitWritten
unit_written file order p color stride k n old new sides fits w =
    is_placed file order p color (chunk_region p k) stride n old new w.0
    (unit_byte_there file order p color stride k sides n fits old new w)
