-- Each byte of an image's planes belongs to a chunk.
use Rattle.std.proofs.Common.{◌≡◌, ℕ, ◌+◌, ◌-◌, ◌*◌, ◌/◌, ◌%◌, ◌<◌, ◌≤◌, ap, sym, subst, ◌∙◌, ⊎_elim, arith}
use Rattle.std.proofs.lemmas.Nat.{mod_below, div-add-mod'}
use Rattle.std.proofs.Math.Nat.{mul_assoc, mul_comm, mul-le-mul_right, div-mul-le_self, lt-div-mul-add, one-le-mul, le-div_iff_mul-le, div-lt_iff_lt-mul}
use Rattle.tiff_page.specs.lemmas.Planes.{aligned_rows}
use Rattle.tiff_page.specs.Page.{PageRecord}
use Rattle.tiff_page.specs.Counts.{parts}
use Rattle.tiff_page.specs.Rect.{rect, across, chunks_of_plane, chunk_of_pixel}
use Rattle.tiff_page.specs.Layout.{LayoutRecord, row_bits, samples_in_chunk}
use Rattle.tiff_page.specs.Laws.{HasSides, HasPixel, OneChunk}
use Rattle.tiff_laws.specs.Whole.{ByteIsOfChunk, PlanesCovered, chunk_row}
use Rattle.tiff_laws.proofs.Laid.{IsLaid, laid}
use Rattle.tiff_laws.proofs.Whole.{some_chunk, plane_of}

pub parts_some : (w n : ℕ) → 0 < n → 0 < w → 0 < parts w n
parts_some w n p q = (le-div_iff_mul-le {k = n} {x = 1} {y = w + n - 1} p).1 (omega (arith, p, q))

-- a byte begins in the bits of a pixel: where it is in columns that begin at a whole byte
pub in_columns : (k u x x0 w : ℕ) → x0 ≤ x → x < x0 + w → x * u ≤ 8 * k → 8 * k < x * u + u
    → x0 * u ≡ x0 * u / 8 * 8
    → (x0 * u / 8 ≤ k) × (k - x0 * u / 8 < (w * u + 7) / 8)
in_columns k u x x0 w a b c d e =
    let f : x0 * u ≤ x * u = mul-le-mul_right u a in
    let g : (x + 1) * u ≤ (x0 + w) * u = mul-le-mul_right u (omega (arith, b)) in
    let h : (x + 1) * u ≡ x * u + u = omega arith in
    let i : (x0 + w) * u ≡ x0 * u + w * u = omega arith in
    (omega (arith, f, c, e), omega (arith, g, h, i, d, e, f, c))

-- several chunks of whole bytes have whole bytes
pub whole_before : (col cw u : ℕ) → cw * u ≡ cw * u / 8 * 8 → col * cw * u ≡ col * cw * u / 8 * 8
whole_before col cw u e =
    let a : col * cw * u ≡ col * (cw * u) = mul_assoc col cw u in
    let b : col * (cw * u) ≡ col * (cw * u / 8 * 8) = ap (λ (z : ℕ). col * z) e in
    let c : col * (cw * u / 8 * 8) ≡ col * (cw * u / 8) * 8 = sym (mul_assoc col (cw * u / 8) 8) in
    omega (arith, a, b, c)

module _ (one_chunk : OneChunk) (p : PageRecord) (l : LayoutRecord) (sides : HasSides p)
    (is : IsLaid p p.width p.height l) (n at : ℕ) (in_planes : at < n * l.plane_stride) where
  -- the bits of a pixel
  abbrev bits : ℕ
  bits = p.depth * samples_in_chunk p.planar l.color

  bits_of : (w : ℕ) → row_bits p l.color w ≡ w * bits
  unfolding row_bits
  bits_of w = mul_assoc w p.depth (samples_in_chunk p.planar l.color)

  stride_is : l.plane_stride ≡ p.height * l.row_bytes
  stride_is = is.stride ∙ ap (λ (z : ℕ). z * p.height) (sym is.rows) ∙ mul_comm l.row_bytes p.height

  some_plane : 0 < l.plane_stride
  some_plane = some_chunk at n l.plane_stride in_planes

  abbrev plane : ℕ
  plane = at / l.plane_stride

  abbrev rest : ℕ
  rest = at % l.plane_stride

  in_plane : rest < p.height * l.row_bytes
  in_plane = omega (arith, mod_below at l.plane_stride some_plane, stride_is)

  some_row : 0 < l.row_bytes
  some_row = some_chunk rest p.height l.row_bytes in_plane

  abbrev y : ℕ
  y = rest / l.row_bytes

  abbrev k : ℕ
  k = rest % l.row_bytes

  y_below : y < p.height
  y_below = plane_of rest p.height l.row_bytes in_plane

  -- the bit is in the row
  bit_below : 8 * k < p.width * bits
  bit_below = omega (arith, mod_below rest l.row_bytes some_row, is.rows, bits_of p.width)

  some_bits : 0 < bits
  some_bits = some_chunk (8 * k) p.width bits bit_below

  abbrev x : ℕ
  x = 8 * k / bits

  x_below : x < p.width
  x_below = plane_of (8 * k) p.width bits bit_below

  abbrev i : ℕ
  i = chunk_of_pixel p plane x y

  has : HasPixel p i plane x y
  has = (one_chunk p plane x y sides x_below y_below).0

  chunks_some : 0 < chunks_of_plane p
  chunks_some =
      one-le-mul (parts_some p.width p.chunk_width sides.chunk_wide sides.wide)
      (parts_some p.height p.chunk_height sides.chunk_high sides.high)

  of_planes : i < n * chunks_of_plane p
  unfolding rect
  of_planes =
      let e : i / chunks_of_plane p ≡ plane = has.of_plane in
      let b : plane < n = plane_of at n l.plane_stride in_planes in
      (div-lt_iff_lt-mul {k = chunks_of_plane p} {x = i} {y = n} chunks_some).0 (omega (arith, e, b))

  whole_left : (rect p i).x * bits ≡ (rect p i).x * bits / 8 * 8
  unfolding rect
  whole_left =
      let col : ℕ = i % chunks_of_plane p % across p in
      ⊎_elim
      (λ (one : across p ≤ 1).
      let z : col ≡ 0 =
      omega (arith, mod_below (i % chunks_of_plane p) (across p) (parts_some p.width p.chunk_width sides.chunk_wide sides.wide), one) in
      let none : 0 * p.chunk_width * bits ≡ 0 * p.chunk_width * bits / 8 * 8 = omega arith in
      subst (λ (m : ℕ). m * p.chunk_width * bits ≡ m * p.chunk_width * bits / 8 * 8) (sym z) none)
      (λ (e : row_bits p l.color p.chunk_width ≡ row_bits p l.color p.chunk_width / 8 * 8).
      whole_before col p.chunk_width bits (subst (λ (m : ℕ). m ≡ m / 8 * 8) (bits_of p.chunk_width) e))
      (aligned_rows p l.color p.width is.lined.0 is.lined.1)

  columns : ((rect p i).x * bits / 8 ≤ k)
      × (k - (rect p i).x * bits / 8 < ((rect p i).width * bits + 7) / 8)
  columns =
      in_columns k bits x (rect p i).x (rect p i).width has.left has.right
      (div-mul-le_self (8 * k) bits) (lt-div-mul-add {a = 8 * k} {b = bits} some_bits) whole_left

  pub covered : ByteIsOfChunk p l n at
  covered =
      let start : ℕ = row_bits p l.color (rect p i).x / 8 in
      let b : start ≡ (rect p i).x * bits / 8 = ap (λ (z : ℕ). z / 8) (bits_of (rect p i).x) in
      let c : chunk_row p l i ≡ ((rect p i).width * bits + 7) / 8 =
      ap (λ (z : ℕ). (z + 7) / 8) (bits_of (rect p i).width) in
      let lines : (rect p i).plane * p.height ≡ plane * p.height =
      ap (λ (z : ℕ). z * p.height) has.of_plane in
      let line : (rect p i).plane * p.height + (rect p i).y + (y - (rect p i).y) ≡ plane * p.height
      + y = omega (arith, lines, has.top) in
      let before : ((rect p i).plane * p.height + (rect p i).y + (y - (rect p i).y)) * l.row_bytes
      ≡ (plane * p.height + y) * l.row_bytes =
      ap (λ (z : ℕ). z * l.row_bytes) line in
      let both : (plane * p.height + y) * l.row_bytes ≡ plane * p.height * l.row_bytes
      + y * l.row_bytes = omega arith in
      let planes : plane * p.height * l.row_bytes ≡ plane * l.plane_stride =
      mul_assoc plane p.height l.row_bytes ∙ ap (λ (z : ℕ). plane * z) (sym stride_is) in
      let there : plane * l.plane_stride + rest ≡ at = div-add-mod' at l.plane_stride in
      let here : y * l.row_bytes + k ≡ rest = div-add-mod' rest l.row_bytes in
      record {
        chunk = i;
        row = y - (rect p i).y;
        byte = k - start;
        used = of_planes;
        in_chunk = omega (arith, has.top, has.bottom);
        in_row = omega (arith, columns.1, b, c);
        here = omega (arith, before, both, planes, there, here, columns.0, b);
      }

pub planes_covered : OneChunk → PlanesCovered
planes_covered one_chunk p l n at sides given below =
    covered one_chunk p l sides (laid p p.width p.height l given) n at below
