-- Where the samples of a chunk are among those of its image.
use Rattle.std.proofs.Common.{◌≡◌, ℕ, ◌+◌, ◌-◌, ◌*◌, ◌%◌, ◌^◌, ◌<◌, ◌≤◌, min, true, cond, length, refl, ap, sym, ◌∙◌, subst, arith}
use Rattle.std.proofs.lemmas.Bool.{ltb-true}
use Rattle.std.proofs.Math.Nat.{mul_comm, mul_assoc, mul-le-mul_right, mod-eq_of_lt, div-mul-le_self}
use Rattle.std.specs.Prelude.{◌&&◌, not}
use Rattle.tiff_base.specs.declared.color.ChunkType.{ChunkType}
use Rattle.tiff_base.specs.declared.color.ChunkType.TheVariants.{Strip, Tile}
use Rattle.tiff_base.specs.declared.tags.PlanarConfiguration.{PlanarConfiguration}
use Rattle.tiff_base.specs.declared.tags.PlanarConfiguration.TheVariants.{Chunky, Planar}
use Rattle.tiff_page.specs.Counts.{parts, planes_of, all_chunks}
use Rattle.tiff_page.specs.Page.{PageRecord}
use Rattle.tiff_page.specs.Pixels.{planar_or}
use Rattle.tiff_page.specs.Rect.{across, chunks_of_plane}
use Rattle.tiff_encode.specs.Causes.{image_samples}
use Rattle.tiff_encode.specs.Chunks.{all_samples, image_page, is_tile, is_planar, is_in_order, is_left, chunk_rows, row_samples, chunk_samples, next_chunk_sample_count}
use Rattle.tiff_encode.specs.Drawn.{IsValidImage}
use Rattle.tiff_encode.specs.Machine.{OpenImage}
use Rattle.tiff_encode.specs.lemmas.ImageState.{strip_rows}
use Rattle.tiff_encode.specs.lemmas.ImageState.{one_part}

-- ---- images whose chunks follow each other

pub strip_of : (t : ChunkType) (p : PlanarConfiguration)
    → (not (is_tile t) && not (is_planar p)) ≡ true → t ≡ Strip
strip_of Strip p h = refl
strip_of Tile p h = absurd cc

pub chunky_of : (t : ChunkType) (p : PlanarConfiguration)
    → (not (is_tile t) && not (is_planar p)) ≡ true → p ≡ Chunky
chunky_of t Chunky h = refl
chunky_of Strip Planar h = absurd cc
chunky_of Tile Planar h = absurd cc

-- the last of some parts begins before the end
part_before : (c n size : ℕ) → 0 < size → c < parts n size → c * size < n
part_before c n size pos h =
    let a : (c + 1) * size ≤ parts n size * size = mul-le-mul_right size (omega (arith, h)) in
    let b : parts n size * size ≤ n + size - 1 = div-mul-le_self (n + size - 1) size in
    omega (arith, a, b, pos)

-- the rows of a strip are within the image
rows_within : (k c size n row rows : ℕ) → k ≤ c → c * size < n → rows ≡ min size (n - c * size)
    → k * size * row + rows * row ≤ n * row
rows_within k c size n row rows l b e =
    let a : k * size ≤ c * size = mul-le-mul_right size l in
    let s : k * size + rows ≤ n = omega (arith, a, b, e) in
    let m : (k * size + rows) * row ≤ n * row = mul-le-mul_right row s in
    let d : (k * size + rows) * row ≡ k * size * row + rows * row = omega arith in
    omega (arith, m, d)

module _ (i : OpenImage) (drawn : IsValidImage i.width i.height (length i.color.bits) (length i.extra) i.form)
    (order : is_in_order i.form ≡ true) where
  strip : i.form.chunk_type ≡ Strip
  strip = strip_of i.form.chunk_type i.form.planar order

  chunky : i.form.planar ≡ Chunky
  chunky = chunky_of i.form.chunk_type i.form.planar order

  pub wide : i.form.chunk_width ≡ i.width
  wide = drawn.cut.strips strip

  one_across : across (image_page i) ≡ 1
  one_across =
      ap (λ n. parts i.width n) wide
      ∙ one_part i.width i.width (let w = drawn.wide.0 in omega (arith, w)) (omega arith)

  pub of_plane : chunks_of_plane (image_page i) ≡ parts i.height i.form.chunk_height
  of_plane =
      (let e : 1 * parts i.height i.form.chunk_height ≡ parts i.height i.form.chunk_height = omega arith in
      ap (λ n. n * parts i.height i.form.chunk_height) one_across ∙ e)

  pub all : all_chunks (image_page i) ≡ parts i.height i.form.chunk_height
  all =
      (let e : parts i.height i.form.chunk_height * 1 ≡ parts i.height i.form.chunk_height = omega arith in
      (λ j. of_plane j * planes_of (chunky j) (all_samples i)) ∙ e)

module _ (i : OpenImage) (drawn : IsValidImage i.width i.height (length i.color.bits) (length i.extra) i.form)
    (order : is_in_order i.form ≡ true) (left : is_left i ≡ true) where
  abbrev p : PageRecord
  p = image_page i

  abbrev c : ℕ
  c = length i.chunks

  below : c < parts i.height i.form.chunk_height
  below = subst (λ n. c < n) (all i drawn order) (ltb-true c (all_chunks p) left)

  -- the strip begins within the image
  begins : c * i.form.chunk_height < i.height
  begins =
      part_before c i.height i.form.chunk_height (let h = drawn.cut.high.0 in
      omega (arith, h)) below

  rows_are : chunk_rows p c ≡ min i.form.chunk_height (i.height - c * i.form.chunk_height)
  rows_are =
      let h : ℕ = i.form.chunk_height in
      let whole : c % chunks_of_plane p ≡ c =
      mod-eq_of_lt (subst (λ n. c < n) (sym (of_plane i drawn order)) below) in
      sym (strip_rows p c h i.height (chunks_of_plane p) (i.height - c % chunks_of_plane p * h) (min h (i.height - c % chunks_of_plane p * h))
      (strip i drawn order) (wide i drawn order) (let w = drawn.wide.0 in omega (arith, w)) refl refl refl refl refl)
      ∙ ap (λ n. min h (i.height - n * h)) whole

  row_is : row_samples p ≡ i.width * all_samples i
  row_is = λ j. wide i drawn order j * planar_or (chunky i drawn order j) 1 (all_samples i)

  all_rows : i.height * row_samples p ≡ image_samples i
  all_rows =
      ap (λ n. i.height * n) row_is ∙ sym (mul_assoc i.height i.width (all_samples i))
      ∙ ap (λ n. n * all_samples i) (mul_comm i.height i.width)

  -- after k strips of these samples are written
  module _ (k : ℕ) (known : k ≤ c) where
    pub above : k * i.form.chunk_height < i.height
    above =
        (let a : k * i.form.chunk_height ≤ c * i.form.chunk_height = mul-le-mul_right i.form.chunk_height known in let b = begins in omega (arith, a, b))

    pub within : k * i.form.chunk_height * row_samples p + chunk_samples p c ≤ image_samples i
    within =
        subst (λ n. k * i.form.chunk_height * row_samples p + chunk_samples p c ≤ n) all_rows
        (rows_within k c i.form.chunk_height i.height (row_samples p) (chunk_rows p c) known begins rows_are)

    -- the sample count of the next chunk is the number of samples of the strip
    pub count_is : image_samples i < 2 ^ 64 → next_chunk_sample_count i ≡ chunk_samples p c
    unfolding next_chunk_sample_count
    count_is l =
        ap (λ b. cond b (min (chunk_samples p c) (2 ^ 64 - 1)) 0) left
        ∙ (let w = within in omega (arith, w, l))

    -- where the samples of the strip begin and end, by the height and a row of a chunk
    strip_range : (high row count : ℕ) → high ≡ i.form.chunk_height → row ≡ row_samples p
        → count ≡ next_chunk_sample_count i → image_samples i < 2 ^ 64
        → (k * high < 2 ^ 32) × ((count ≡ chunk_samples p c)
        × (k * high * row + count ≤ image_samples i))
    strip_range high row count h r n l =
        let m = n ∙ count_is l in
        let low = above in
        let most = drawn.high.1 in (
          subst (λ x. k * x < 2 ^ 32) (sym h) (omega (arith, low, most)),
          (m, subst (λ x. x ≤ image_samples i) (λ j. k * sym h j * sym r j + sym m j) within),
        )

-- `strip_range` of an image that another view shows
pub next_strip : (v i : OpenImage) → v ≡ i
    → IsValidImage v.width v.height (length v.color.bits) (length v.extra) v.form
    → is_in_order i.form ≡ true → is_left i ≡ true → (k : ℕ) → k ≤ length i.chunks
    → image_samples i < 2 ^ 64 → (high row count : ℕ) → high ≡ v.form.chunk_height
    → row ≡ row_samples (image_page i) → count ≡ next_chunk_sample_count i
    → (k * high < 2 ^ 32) × ((count ≡ chunk_samples (image_page i) (length i.chunks))
    × (k * high * row + count ≤ image_samples i))
next_strip v i is valid order left k known fits high row count h r n =
    strip_range i
    (subst (λ i. IsValidImage i.width i.height (length i.color.bits) (length i.extra) i.form) is valid)
    order left k known high row count (h ∙ ap (λ i. i.form.chunk_height) is) r n fits

-- ---- a part of a list
