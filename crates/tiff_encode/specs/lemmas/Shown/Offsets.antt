-- Where a pixel's samples are among those of its chunk, and how many bytes of a chunk the page
-- needs.
use Rattle.std.proofs.Common.{◌≡◌, ℕ, ◌+◌, ◌-◌, ◌*◌, ◌/◌, ◌%◌, ◌<◌, ◌≤◌, min, Bool, true, false, cond, ap, sym, subst, arith}
use Rattle.std.proofs.lemmas.Nat.{mod_below, div-add-mod'}
use Rattle.std.proofs.Math.Nat.{mul_comm, mul_assoc, mul-le-mul_left, mul-le-mul_right}
use Rattle.tiff_base.specs.declared.color.ChunkType.{ChunkType}
use Rattle.tiff_base.specs.declared.color.ChunkType.TheVariants.{Strip, Tile}
use Rattle.tiff_base.specs.declared.color.ColorType.{ColorType}
use Rattle.tiff_base.specs.declared.tags.PlanarConfiguration.{PlanarConfiguration}
use Rattle.tiff_base.specs.declared.tags.PlanarConfiguration.TheVariants.{Chunky, Planar}
use Rattle.tiff_base.specs.Color.{num_samples}
use Rattle.tiff_page.specs.Page.{PageRecord}
use Rattle.tiff_page.specs.Counts.{planes_of, all_chunks}
use Rattle.tiff_page.specs.Rect.{across, chunks_of_plane, rect, chunk_of_pixel}
use Rattle.tiff_page.specs.Layout.{row_bits, row_bytes, samples_in_chunk}
use Rattle.tiff_page.specs.Pixels.{planar_or, stored_samples, stored_row_bytes, needs_whole_rows, needed_of_row, needed_bytes}
use Rattle.tiff_page.specs.Laws.{HasSides}
use Rattle.tiff_page.specs.lemmas.ChunkRows.{fewer_bytes}
use Rattle.tiff_page.specs.lemmas.PositionLaws.{one_below, j_below, row_is, chunks_within}
use Rattle.tiff_encode.specs.Chunks.{is_tile, chunk_rows, row_samples, chunk_samples}

-- ---- planes

-- the plane of a sample is one of the planes
pub plane_within : (planar : PlanarConfiguration) (samples sample : ℕ) → sample < samples
    → planar_or planar sample 0 < planes_of planar samples
plane_within Chunky samples sample h = omega arith
plane_within Planar samples sample h = h

-- a sample is one of those that a chunk of its plane stores
pub sample_within : (planar : PlanarConfiguration) (samples sample : ℕ) → sample < samples
    → planar_or planar 0 sample < planar_or planar 1 samples
sample_within Chunky samples sample h = h
sample_within Planar samples sample h = omega arith

-- a chunk shows no more samples of a pixel than it stores
shown_within : (planar : PlanarConfiguration) (samples : ℕ) (color : ColorType)
    → num_samples color ≤ samples
    → samples_in_chunk planar color ≤ planar_or planar 1 samples
shown_within Chunky samples color h = h
shown_within Planar samples color h = omega arith

-- ---- rows

-- a chunk has at least as many rows as the image has there
rows_of : (type : ChunkType) (all some : ℕ) → some ≤ all → some ≤ (cond (is_tile type) all some)
rows_of Tile all some h = h
rows_of Strip all some h = omega arith

row_of : (type : ChunkType) (all some row : ℕ) → row < all → row < some
    → row < (cond (is_tile type) all some)
row_of Tile all some row a b = a
row_of Strip all some row a b = b

-- a row lies within the part of the image that its chunk covers
row_in_part : (y n h : ℕ) → 0 < n → y < h → y % n < min n (h - y / n * n)
row_in_part y n h p q =
    let e : y / n * n + y % n ≡ y = div-add-mod' y n in
    let m : y % n < n = mod_below y n p in
    omega (arith, e, m, q)

module _ (p : PageRecord) (sides : HasSides p) where
  -- the part of the image that a chunk covers is not higher than the chunk
  height_within : (k : ℕ) → (rect p k).height ≤ p.chunk_height
  unfolding rect
  height_within k = omega arith

  width_within : (k : ℕ) → (rect p k).width ≤ p.chunk_width
  unfolding rect
  width_within k = omega arith

  -- a pixel
  module _ (plane x y : ℕ) (xl : x < p.width) (yl : y < p.height) where
    abbrev k : ℕ
    k = chunk_of_pixel p plane x y

    -- the chunk of a pixel is one of all chunks
    pub chunk_listed : plane < planes_of p.planar p.samples → k < all_chunks p
    chunk_listed h =
        one_below (y / p.chunk_height * across p + x / p.chunk_width) plane (chunks_of_plane p)
        (planes_of p.planar p.samples)
        (j_below p plane x y sides xl yl) h

    height_is : (rect p k).height
        ≡ min p.chunk_height (p.height - y / p.chunk_height * p.chunk_height)
    unfolding rect
    height_is =
        ap (λ (z : ℕ). min p.chunk_height (p.height - z * p.chunk_height)) (row_is p plane x y sides xl yl)

    -- the row of a pixel is a row of its chunk
    row_within : y % p.chunk_height < chunk_rows p k
    row_within =
        let r : y % p.chunk_height < (rect p k).height =
        subst (λ (n : ℕ). y % p.chunk_height < n) (sym height_is) (row_in_part y p.chunk_height p.height sides.chunk_high yl) in
        row_of p.chunk_type p.chunk_height (rect p k).height (y % p.chunk_height)
        (mod_below y p.chunk_height sides.chunk_high) r

    -- the sample of a pixel is a sample of its chunk
    pub offset_within : (sample : ℕ) → sample < stored_samples p
        → y % p.chunk_height * row_samples p + (x % p.chunk_width * stored_samples p + sample)
        < chunk_samples p k
    offset_within sample h =
        let q : ℕ = x % p.chunk_width * stored_samples p + sample in
        let c : x % p.chunk_width < p.chunk_width = mod_below x p.chunk_width sides.chunk_wide in
        let u : (x % p.chunk_width + 1) * stored_samples p ≤ p.chunk_width * stored_samples p =
        mul-le-mul_right (stored_samples p) (omega (arith, c)) in
        let e : row_samples p * chunk_rows p k ≡ chunk_samples p k =
        mul_comm (row_samples p) (chunk_rows p k) in
        subst (λ (n : ℕ). y % p.chunk_height * row_samples p + q < n) e
        (one_below q (y % p.chunk_height) (row_samples p) (chunk_rows p k) (omega (arith, u, h)) row_within)

  -- the offset of a sample, by rows or by pixels
  pub offset_same : (row column sample : ℕ)
      → row * row_samples p + (column * stored_samples p + sample)
      ≡ (row * p.chunk_width + column) * stored_samples p + sample
  offset_same row column sample =
      let e : row * p.chunk_width * stored_samples p ≡ row * (p.chunk_width * stored_samples p) =
      mul_assoc row p.chunk_width (stored_samples p) in
      omega (arith, e)

  -- the needed part of the last row is at most a row
  last_within : (color : ColorType) (i : ℕ) → num_samples color ≤ p.samples
      → needed_of_row p color (row_bytes p color (rect p i).width) ≤ stored_row_bytes p
  unfolding row_bits
  last_within color i few =
      let w : ℕ = (rect p i).width in
      let n : ℕ = samples_in_chunk p.planar color in
      let a : (w * p.depth * n + 7) / 8 ≤ (p.chunk_width * p.depth * n + 7) / 8 =
      fewer_bytes w p.chunk_width p.depth n (width_within i) in
      let b : p.chunk_width * p.depth * n ≤ p.chunk_width * p.depth * stored_samples p =
      mul-le-mul_left (p.chunk_width * p.depth) (shown_within p.planar p.samples color few) in
      let P : Bool → Type 0 =
      λ t. cond t (stored_row_bytes p) (row_bytes p color w) ≤ stored_row_bytes p in
      elim (needs_whole_rows p color) as P [
        | true ↦ omega arith
        | false ↦ omega (arith, a, b)
      ]

  -- the needed bytes of a chunk are at most its rows
  pub needed_within : (color : ColorType) (i : ℕ) → num_samples color ≤ p.samples
      → needed_bytes p color i ≤ chunk_rows p i * stored_row_bytes p
  needed_within color i few =
      let h : ℕ = (rect p i).height in
      let r : ℕ = stored_row_bytes p in
      let some : 0 < h = (chunks_within p i sides).some_row in
      let a : needed_of_row p color (row_bytes p color (rect p i).width) ≤ r =
      last_within color i few in
      let e : h - 1 + 1 ≡ h = omega (arith, some) in
      let d : (h - 1 + 1) * r ≡ (h - 1) * r + r = omega arith in
      let c : (h - 1 + 1) * r ≡ h * r = ap (λ (n : ℕ). n * r) e in
      let b : h * r ≤ chunk_rows p i * r =
      mul-le-mul_right r (rows_of p.chunk_type p.chunk_height h (height_within i)) in
      omega (arith, a, b, c, d)
