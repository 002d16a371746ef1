-- The samples that `write_data` passes to the chunks of an image are those of the image.
use Rattle.std.proofs.Common.{◌≡◌, ℕ, ◌+◌, ◌*◌, ◌/◌, ◌%◌, ◌<◌, ◌≤◌, Bool, true, false, cond, List, [], length, take, drop, refl, ap, sym, ◌∙◌, subst, arith}
use Rattle.std.specs.Prelude.{◌&&◌, not, nat_lt, slice_index}
use Rattle.std.proofs.lemmas.Bool.{lt-ltb}
use Rattle.std.proofs.lemmas.List.{get_or-take, get_or-drop}
use Rattle.std.proofs.lemmas.List.FromFn.{get_or-map-range_with_len}
use Rattle.std.proofs.lemmas.Nat.{mod_below, div-add-mod', div-mul-add, mod-mul-add}
use Rattle.std.proofs.Math.Nat.{mul_assoc, mul-le-mul_right, div-eq_of_lt, mod-eq_of_lt}
use Rattle.tiff_base.specs.declared.color.ChunkType.{ChunkType}
use Rattle.tiff_base.specs.declared.color.ChunkType.TheVariants.{Strip, Tile}
use Rattle.tiff_base.specs.declared.tags.Predictor.TheVariants as predictor
use Rattle.tiff_base.specs.declared.tags.PlanarConfiguration.{PlanarConfiguration}
use Rattle.tiff_base.specs.declared.tags.PlanarConfiguration.TheVariants.{Chunky, Planar}
use Rattle.tiff_page.specs.Page.{PageRecord}
use Rattle.tiff_page.specs.Counts.{parts, all_chunks}
use Rattle.tiff_page.specs.Rect.{across, chunks_of_plane, rect, chunk_of_pixel}
use Rattle.tiff_page.specs.Pixels.{planar_or, stored_samples}
use Rattle.tiff_page.specs.Laws.{HasSides}
use Rattle.tiff_page.specs.lemmas.PositionLaws.{has_pixel, column_is, row_is}
use Rattle.tiff_value.specs.declared.encoder.colortype.ColorTypeName.TheVariants.{Gray8}
use Rattle.tiff_value.specs.ColorTypes.{color_type, inner_type, inner_size}
use Rattle.tiff_value.specs.FileBytes.{rows_per_strip}
use Rattle.tiff_encode.specs.declared.encoder.settings.Compression.TheVariants.{Uncompressed}
use Rattle.tiff_encode.specs.Machine.{FileState, OpenDirectory, compression_method}
use Rattle.tiff_encode.specs.Chunks.{all_samples, image_page, shown_page, is_tile, is_planar, row_samples, chunk_samples, cut_out, chunks_left, part, parts_left, sample_in}
use Rattle.tiff_encode.specs.Calls.{default_rows, image_in}
use Rattle.tiff_encode.specs.Shows.{gray_page}
use Rattle.tiff_encode.specs.ImageData.{image_of_samples, PartsShow}
use Rattle.tiff_encode.specs.lemmas.Shown.Offsets.{plane_within, sample_within, chunk_listed, offset_within, offset_same}
use Rattle.tiff_encode.specs.lemmas.ImageState.{one_part}

-- a sample is that of its plane, or one of all samples of a pixel
sample_of : (planar : PlanarConfiguration) (sample : ℕ)
    → planar_or planar (planar_or planar sample 0) (planar_or planar 0 sample) ≡ sample
sample_of Chunky sample = refl
sample_of Planar sample = refl

-- a condition that holds keeps the number
passes : (a b : Bool) (n : ℕ) → a ≡ true → b ≡ true → cond (a && b) n 0 ≡ n
passes true true n p q = refl
passes true false n p q = cc
passes false b n p q = cc

-- the offset of a pixel's samples, in the rows and in the whole image
offset_in_order : (above rows row width x samples sample : ℕ)
    → above * (rows * (width * samples)) + ((row * width + x) * samples + sample)
    ≡ ((above * rows + row) * width + x) * samples + sample
offset_in_order above rows row width x samples sample =
    let a : above * (rows * (width * samples)) ≡ above * rows * (width * samples) =
    sym (mul_assoc above rows (width * samples)) in
    let b : above * rows * (width * samples) ≡ above * rows * width * samples =
    sym (mul_assoc (above * rows) width samples) in
    omega (arith, a, b)

-- a sample of a pixel of a page
module _ (p : PageRecord) (samples : List ℕ) (x y sample : ℕ) (sides : HasSides p)
    (xl : x < p.width) (yl : y < p.height)
    (sl : sample < p.samples) where
  abbrev plane : ℕ
  plane = planar_or p.planar sample 0

  abbrev inner : ℕ
  inner = planar_or p.planar 0 sample

  abbrev k : ℕ
  k = chunk_of_pixel p plane x y

  abbrev row : ℕ
  row = y % p.chunk_height

  abbrev column : ℕ
  column = x % p.chunk_width

  -- the offset of the sample in its chunk
  abbrev offset : ℕ
  offset = (row * p.chunk_width + column) * stored_samples p + inner

  -- the offset of the sample in the image
  abbrev whole : ℕ
  whole = (y * p.width + x) * p.samples + sample

  in_pixel : inner < stored_samples p
  in_pixel = sample_within p.planar p.samples sample sl

  within : offset < chunk_samples p k
  within =
      let l : row * row_samples p + (column * stored_samples p + inner) < chunk_samples p k =
      offset_within p sides plane x y xl yl inner in_pixel in
      let e : row * row_samples p + (column * stored_samples p + inner) ≡ offset =
      offset_same p sides row column inner in
      omega (arith, l, e)

  -- ---- a chunk that is cut out

  in_columns : column * stored_samples p + inner < row_samples p
  in_columns =
      let c : column < p.chunk_width = mod_below x p.chunk_width sides.chunk_wide in
      let u : (column + 1) * stored_samples p ≤ p.chunk_width * stored_samples p =
      mul-le-mul_right (stored_samples p) (omega (arith, c)) in
      let l : inner < stored_samples p = in_pixel in
      omega (arith, u, l)

  row_there : offset / row_samples p ≡ row
  row_there =
      ap (λ n. n / row_samples p) (sym (offset_same p sides row column inner))
      ∙ div-mul-add row (row_samples p) (column * stored_samples p + inner) in_columns

  rest_there : offset % row_samples p ≡ column * stored_samples p + inner
  rest_there =
      ap (λ n. n % row_samples p) (sym (offset_same p sides row column inner))
      ∙ mod-mul-add row (row_samples p) (column * stored_samples p + inner) in_columns

  column_there : offset % row_samples p / stored_samples p ≡ column
  column_there =
      ap (λ n. n / stored_samples p) rest_there
      ∙ div-mul-add column (stored_samples p) inner in_pixel

  inner_there : offset % stored_samples p ≡ inner
  inner_there = mod-mul-add (row * p.chunk_width + column) (stored_samples p) inner in_pixel

  left_is : (rect p k).x + column ≡ x
  unfolding rect
  left_is =
      ap (λ n. n * p.chunk_width + column) (column_is p plane x y sides xl yl)
      ∙ div-add-mod' x p.chunk_width

  top_is : (rect p k).y + row ≡ y
  unfolding rect
  top_is =
      ap (λ n. n * p.chunk_height + row) (row_is p plane x y sides xl yl)
      ∙ div-add-mod' y p.chunk_height

  column_in : column < (rect p k).width
  column_in =
      let r : x < (rect p k).x + (rect p k).width = (has_pixel p plane x y sides xl yl).right in
      let e : (rect p k).x + column ≡ x = left_is in
      omega (arith, r, e)

  row_in : row < (rect p k).height
  row_in =
      let b : y < (rect p k).y + (rect p k).height = (has_pixel p plane x y sides xl yl).bottom in
      let e : (rect p k).y + row ≡ y = top_is in
      omega (arith, b, e)

  plane_there : (rect p k).plane ≡ plane
  plane_there = (has_pixel p plane x y sides xl yl).of_plane

  -- the sample that is cut out at an index
  abbrev cut_at : ℕ → ℕ
  cut_at n =
      cond (nat_lt (n / row_samples p) (rect p k).height && nat_lt (n % row_samples p / stored_samples p) (rect p k).width)
      (slice_index samples ((((rect p k).y + n / row_samples p) * p.width
      + ((rect p k).x + n % row_samples p / stored_samples p)) * p.samples
      + planar_or p.planar (rect p k).plane (n % stored_samples p)))
      0

  cut_shows : slice_index (cut_out p samples k) offset ≡ slice_index samples whole
  unfolding cut_out
  cut_shows =
      let r : nat_lt (offset / row_samples p) (rect p k).height ≡ true =
      lt-ltb (offset / row_samples p) (rect p k).height (subst (λ n. n
      < (rect p k).height) (sym row_there) row_in) in
      let c : nat_lt (offset % row_samples p / stored_samples p) (rect p k).width ≡ true =
      lt-ltb (offset % row_samples p / stored_samples p) (rect p k).width (subst (λ n. n
      < (rect p k).width) (sym column_there) column_in) in
      get_or-map-range_with_len cut_at 0 (chunk_samples p k) offset offset 0 within (omega arith)
      ∙ passes (nat_lt (offset / row_samples p) (rect p k).height) (nat_lt (offset % row_samples p / stored_samples p) (rect p k).width) _ r c
      ∙ (λ t. slice_index samples ((((rect p k).y + row_there t) * p.width
      + ((rect p k).x + column_there t)) * p.samples + planar_or p.planar (plane_there t) (inner_there t)))
      ∙ (λ t. slice_index samples ((top_is t * p.width + left_is t) * p.samples
      + sample_of p.planar sample t))

  -- ---- a strip of the samples in order

  strip_shows : p.planar ≡ Chunky → p.chunk_width ≡ p.width
      → slice_index (take (chunk_samples p k) (drop (k * (p.chunk_height * row_samples p)) samples)) offset ≡ slice_index samples whole
  strip_shows q w =
      let x_is : column ≡ x = ap (λ n. x % n) w ∙ mod-eq_of_lt xl in
      let no_column : x / p.chunk_width ≡ 0 = ap (λ n. x / n) w ∙ div-eq_of_lt xl in
      let one : across p ≡ 1 =
      ap (λ n. parts p.width n) w ∙ one_part p.width p.width sides.wide (omega arith) in
      let first : plane ≡ 0 = ap (λ z. planar_or z sample 0) q in
      let all : stored_samples p ≡ p.samples = ap (λ z. planar_or z 1 p.samples) q in
      let same : inner ≡ sample = ap (λ z. planar_or z 0 sample) q in
      let here : k ≡ y / p.chunk_height =
      (λ t. first t * chunks_of_plane p + (y / p.chunk_height * one t + no_column t))
      ∙ omega arith in
      get_or-take (chunk_samples p k) (drop (k * (p.chunk_height * row_samples p)) samples) offset 0 within
      ∙ get_or-drop (k * (p.chunk_height * row_samples p)) samples offset 0
      ∙ (λ t. slice_index samples (here t * (p.chunk_height * (w t * all t))
      + ((row * w t + x_is t) * all t + same t)))
      ∙ ap (λ n. slice_index samples n) (offset_in_order (y / p.chunk_height) p.chunk_height row p.width x p.samples sample)
      ∙ ap (λ n. slice_index samples ((n * p.width + x) * p.samples
      + sample)) (div-add-mod' y p.chunk_height)

-- ---- an image without chunks

-- a property that holds for both orders
by_order : (type : ChunkType) (c : PlanarConfiguration) (P : List ℕ → Type 0) (a b : List ℕ)
    → (type ≡ Strip → c ≡ Chunky → P a) → P b
    → P (cond (not (is_tile type) && not (is_planar c)) a b)
by_order Strip Chunky P a b f g = f refl refl
by_order Strip Planar P a b f g = g
by_order Tile c P a b f g = g

pub parts_show : PartsShow
unfolding sample_in parts_left
parts_show i samples x y sample d none xl yl sl =
    let p : PageRecord = image_page i in
    let sides : HasSides p =
    record { wide = d.wide.0; high = d.high.0; chunk_wide = d.cut.wide.0; chunk_high = d.cut.high.0 } in
    let above : ℕ = k p samples x y sample sides xl yl sl in
    let at : ℕ = offset p samples x y sample sides xl yl sl in
    let no_chunk : length i.chunks ≡ 0 = ap (λ cs. length cs) none in
    let same : length i.chunks + above ≡ above = omega (arith, no_chunk) in
    let listed : above < all_chunks p =
    chunk_listed p sides (planar_or p.planar sample 0) x y xl yl (plane_within p.planar p.samples sample sl) in
    let P : List ℕ → Type 0 =
    λ xs. slice_index xs at ≡ slice_index samples ((y * i.width + x) * all_samples i
    + sample) in
    ap (λ xs. slice_index xs at) (get_or-map-range_with_len (part i samples) 0 (chunks_left i) above above [] (omega (arith, listed, no_chunk)) (omega arith))
    ∙ by_order i.form.chunk_type i.form.planar P
    (take (chunk_samples p (length i.chunks + above)) (drop (above * (p.chunk_height * row_samples p)) samples))
    (cut_out p samples (length i.chunks + above))
    (λ t q. ap (λ n. slice_index (take (chunk_samples p n) (drop (above * (p.chunk_height * row_samples p)) samples)) at) same
    ∙ strip_shows p samples x y sample sides xl yl sl q (d.cut.strips t))
    (ap (λ n. slice_index (cut_out p samples n) at) same
    ∙ cut_shows p samples x y sample sides xl yl sl)

-- ---- a new image of gray samples

-- the page of the new image
pub gray_page_is : (file : FileState) (d : OpenDirectory) (width height : ℕ)
    → file.compression ≡ Uncompressed → file.predictor ≡ predictor.None
    → shown_page (image_in file d (color_type Gray8) (inner_size Gray8) width height)
    ≡ gray_page width height
unfolding color_type inner_type
gray_page_is file d width height m q =
    let e : width * 1 ≡ width = omega arith in
    (λ t. record (gray_page width height) { method = compression_method (m t); predictor = q t; chunk_height = default_rows (m t) (width * 1) })
    ∙ (λ t. record (gray_page width height) { chunk_height = rows_per_strip (e t) })

-- the samples of the image are those of its pixels, row by row
pub gray_sample_is : (file : FileState) (d : OpenDirectory) (width height : ℕ) (samples : List ℕ)
    (x y sample : ℕ) → sample < 1
    → (image_of_samples (image_in file d (color_type Gray8) (inner_size Gray8) width height) samples).sample_at x y sample
    ≡ slice_index samples (y * width + x)
unfolding color_type
gray_sample_is file d width height samples x y sample l =
    ap (λ n. slice_index samples n) (omega (arith, l))
