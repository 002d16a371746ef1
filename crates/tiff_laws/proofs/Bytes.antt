-- Each byte of an image's planes is one byte of one row of one chunk.
use Rattle.std.proofs.Common.{◌≡◌, ℕ, ◌+◌, ◌*◌, ◌/◌, ◌%◌, ◌<◌, ◌≤◌, refl, ap, sym, subst, ◌∙◌, ⊎_elim, arith}
use Rattle.std.proofs.lemmas.Nat.{mod_below, div-add-mod', div-mul-add, mod-mul-add}
use Rattle.std.proofs.Math.Nat.{mul-le-mul_right}
use Rattle.tiff_page.specs.Page.{PageRecord}
use Rattle.tiff_page.specs.Rect.{rect, across, chunks_of_plane}
use Rattle.tiff_page.specs.Layout.{LayoutRecord, row_bits, row_bytes, samples_in_chunk}
use Rattle.tiff_page.specs.Laws.{HasSides, ChunkIsWithin, ChunksWithin}
use Rattle.tiff_page.specs.lemmas.ChunkRows.{fewer_bytes, start_is, none_before}
use Rattle.tiff_laws.specs.Whole.{ByteIsOfChunk, PlanesCovered, chunk_row, at_image}
use Rattle.tiff_laws.specs.Bytes.{plane_of_byte, line_of_byte, column_of_byte, full_row, chunk_of_byte, row_of_byte, byte_in_row, IsByteAt, IsFoundAt, OneByte}
use Rattle.tiff_laws.proofs.Laid.{IsLaid, laid}
use Rattle.tiff_laws.proofs.Whole as whole
use Rattle.tiff_page.specs.lemmas.Planes.{aligned_rows}
use Rattle.tiff_laws.proofs.Covered.{parts_some}

-- a byte of a plane is below the end of the planes
pub below_planes : (n planes size rest : ℕ) → n < planes → rest < size
    → n * size + rest < planes * size
below_planes n planes size rest l r =
    let a : (n + 1) * size ≤ planes * size = mul-le-mul_right size (omega (arith, l)) in
    let b : (n + 1) * size ≡ n * size + size = omega arith in
    omega (arith, a, b, r)

module _ (p : PageRecord) (l : LayoutRecord) (sides : HasSides p) (is : IsLaid p p.width p.height l)
    (i r b : ℕ) (inside : ChunkIsWithin p i) (rl : r < (rect p i).height) (bl : b < chunk_row p l i) where
  abbrev s : ℕ
  s = l.row_bytes

  abbrev n : ℕ
  n = (rect p i).plane

  abbrev y : ℕ
  y = (rect p i).y + r

  abbrev t : ℕ
  t = row_bits p l.color (rect p i).x / 8 + b

  abbrev at : ℕ
  at = at_image p l i r b

  abbrev j : ℕ
  j = i % chunks_of_plane p

  abbrev full : ℕ
  full = full_row p l

  at_is : at ≡ (n * p.height + y) * s + t
  at_is = omega arith

  y_below : y < p.height
  y_below = omega (arith, inside.rows, rl)

  row_within : row_bits p l.color (rect p i).x / 8 + chunk_row p l i ≤ row_bytes p l.color p.width
  unfolding row_bits
  row_within =
      whole.bits_within (rect p i).x (rect p i).width p.depth (samples_in_chunk p.planar l.color) p.width inside.columns

  t_below : t < s
  t_below = omega (arith, row_within, bl, is.rows)

  stride_is : l.plane_stride ≡ s * p.height
  stride_is = is.stride ∙ ap (λ (z : ℕ). z * p.height) (sym is.rows)

  plane_is : plane_of_byte l at ≡ n
  plane_is = (λ k. at_is k / stride_is k) ∙ whole.plane_at n p.height y s t y_below t_below

  line_is : line_of_byte l at ≡ y
  line_is = (λ k. at_is k % stride_is k / s) ∙ whole.line_at n p.height y s t y_below t_below

  along_is : column_of_byte l at ≡ t
  along_is = ap (λ (z : ℕ). z % s) at_is ∙ whole.column_at n p.height y s t y_below t_below

  within : (planes : ℕ) → n < planes → at < planes * l.plane_stride
  within planes nl =
      let a : n * (s * p.height) + (y * s + t) < planes * (s * p.height) =
      below_planes n planes (s * p.height) (y * s
      + t) nl (whole.within n p.height y s t y_below t_below) in
      let c : at < planes * (s * p.height) =
      omega (arith, a, at_is, whole.split n p.height y s t y_below t_below) in
      subst (λ (z : ℕ). at < planes * z) (sym stride_is) c

  -- where the chunk begins
  across_some : 0 < across p
  across_some = parts_some p.width p.chunk_width sides.chunk_wide sides.wide

  left_is : row_bits p l.color (j % across p * p.chunk_width) / 8 ≡ j % across p * full
  unfolding row_bits
  left_is =
      ⊎_elim
      (λ (one : across p ≤ 1).
      let z : j % across p ≡ 0 = omega (arith, mod_below j (across p) across_some, one) in
      ap (λ (m : ℕ). m * p.chunk_width * p.depth * samples_in_chunk p.planar l.color / 8) z
      ∙ none_before p.chunk_width p.depth (samples_in_chunk p.planar l.color) full
      ∙ ap (λ (m : ℕ). m * full) (sym z))
      (λ (e : row_bits p l.color p.chunk_width ≡ row_bits p l.color p.chunk_width / 8 * 8).
      start_is (j % across p) p.chunk_width p.depth (samples_in_chunk p.planar l.color) e)
      (aligned_rows p l.color p.width is.lined.0 is.lined.1)

  b_below : b < full
  unfolding row_bits rect
  b_below =
      let a : chunk_row p l i ≤ full =
      fewer_bytes (rect p i).width p.chunk_width p.depth (samples_in_chunk p.planar l.color)
      (omega arith) in
      omega (arith, a, bl)

  r_below : r < p.chunk_height
  unfolding rect
  r_below = omega (arith, rl)

  t_is : t ≡ j % across p * full + b
  unfolding rect
  t_is = ap (λ (z : ℕ). z + b) left_is

  y_is : y ≡ j / across p * p.chunk_height + r
  unfolding rect
  y_is = omega arith

  row_is : row_of_byte p l at ≡ r
  row_is =
      ap (λ (z : ℕ). z % p.chunk_height) (line_is ∙ y_is)
      ∙ mod-mul-add (j / across p) p.chunk_height r r_below

  line_chunk : line_of_byte l at / p.chunk_height ≡ j / across p
  line_chunk =
      ap (λ (z : ℕ). z / p.chunk_height) (line_is ∙ y_is)
      ∙ div-mul-add (j / across p) p.chunk_height r r_below

  byte_is : byte_in_row p l at ≡ b
  byte_is = ap (λ (z : ℕ). z % full) (along_is ∙ t_is) ∙ mod-mul-add (j % across p) full b b_below

  along_chunk : column_of_byte l at / full ≡ j % across p
  along_chunk =
      ap (λ (z : ℕ). z / full) (along_is ∙ t_is) ∙ div-mul-add (j % across p) full b b_below

  chunk_is : chunk_of_byte p l at ≡ i
  unfolding rect
  chunk_is =
      let c : ℕ = chunks_of_plane p in
      (λ k. plane_is k * c + (line_chunk k * across p + along_chunk k))
      ∙ ap (λ (z : ℕ). i / c * c + z) (div-add-mod' j (across p))
      ∙ div-add-mod' i c

  pub found : (planes : ℕ) → n < planes → IsFoundAt p l planes n i r b at
  found planes nl = record {
    within = within planes nl;
    its_plane = plane_is;
    its_chunk = chunk_is;
    its_row = row_is;
    its_byte = byte_is;
  }

module _ (chunks_within : ChunksWithin) (planes_covered : PlanesCovered) (p : PageRecord)
    (l : LayoutRecord) (planes plane chunk row byte at : ℕ) (sides : HasSides p)
    (is : IsLaid p p.width p.height l) where
  pub by_byte : IsByteAt p l planes plane chunk row byte at
      → IsFoundAt p l planes plane chunk row byte at
  by_byte h =
      let nl : (rect p chunk).plane < planes = omega (arith, h.used, h.in_plane) in
      let a : IsFoundAt p l planes (rect p chunk).plane chunk row byte
      (at_image p l chunk row byte) =
      found p l sides is chunk row byte (chunks_within p chunk sides) h.in_chunk h.in_row planes nl in
      let b : IsFoundAt p l planes plane chunk row byte (at_image p l chunk row byte) =
      subst (λ (z : ℕ). IsFoundAt p l planes z chunk row byte (at_image p l chunk row byte)) h.in_plane a in
      subst (λ (z : ℕ). IsFoundAt p l planes plane chunk row byte z) h.here b

  plane_below : (i : ℕ) → i < planes * chunks_of_plane p → (rect p i).plane < planes
  unfolding rect
  plane_below i h = whole.plane_of i planes (chunks_of_plane p) h

  pub by_find : ByteIsOfChunk p l planes at → IsFoundAt p l planes plane chunk row byte at
      → IsByteAt p l planes plane chunk row byte at
  by_find of h =
      let nl : (rect p of.chunk).plane < planes = plane_below of.chunk of.used in
      let a : IsFoundAt p l planes (rect p of.chunk).plane of.chunk of.row of.byte at =
      subst (λ (z : ℕ). IsFoundAt p l planes (rect p of.chunk).plane of.chunk of.row of.byte z)
      (sym of.here)
      (found p l sides is of.chunk of.row of.byte (chunks_within p of.chunk sides) of.in_chunk of.in_row planes nl) in
      let first : IsByteAt p l planes (rect p of.chunk).plane of.chunk of.row of.byte at = record {
        used = nl;
        in_plane = refl;
        in_chunk = of.in_chunk;
        in_row = of.in_row;
        here = sym of.here;
      } in
      let second =
      subst (λ (z : ℕ). IsByteAt p l planes z of.chunk of.row of.byte at) (sym a.its_plane
      ∙ h.its_plane) first in
      let third =
      subst (λ (z : ℕ). IsByteAt p l planes plane z of.row of.byte at) (sym a.its_chunk
      ∙ h.its_chunk) second in
      let fourth =
      subst (λ (z : ℕ). IsByteAt p l planes plane chunk z of.byte at) (sym a.its_row
      ∙ h.its_row) third in
      subst (λ (z : ℕ). IsByteAt p l planes plane chunk row z at) (sym a.its_byte
      ∙ h.its_byte) fourth

pub one_byte : ChunksWithin → PlanesCovered → OneByte
one_byte chunks_within planes_covered p l planes plane chunk row byte at sides given =
    let is : IsLaid p p.width p.height l = laid p p.width p.height l given in (
      λ h. by_find chunks_within planes_covered p l planes plane chunk row byte at sides is
          (planes_covered p l planes at sides given h.within) h,
      by_byte chunks_within planes_covered p l planes plane chunk row byte at sides is,
    )
