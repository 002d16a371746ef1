-- The samples that are cut out of an image for a chunk.
use Rattle.std.proofs.Common.{◌≡◌, ℕ, zero, suc, ◌+◌, ◌-◌, ◌*◌, ◌/◌, ◌%◌, ◌<◌, ◌≤◌, cond, List, [], ◌∷◌, ◌++◌, length, map, take, drop, get_or, Result, Ok, Err, MatchResult, refl, ap, sym, ◌∙◌, subst, arith, append_assoc, append-nil}
use Rattle.std.proofs.Math.Nat.{mul_comm, mul_assoc, mul-sub, mul-le-mul_right, mul-add-mod_self_right, one-le-mul, le-div_iff_mul-le}
use Rattle.std.proofs.lemmas.Bool.{lt-ltb, le-ltb}
use Rattle.std.proofs.lemmas.List.{ext_get_or, get_or-drop, get_or-map, get_or-take, length-drop, length-map, length-take-le, map-append, take-map, drop-map}
use Rattle.std.proofs.lemmas.List.FromFn.{length-map-range_with_len, get_or-map-range_with_len, map-range_with_len_more}
use Rattle.std.proofs.lemmas.Nat.{div_below, div-add-mod', div-mul-add, mod-mul-add}
use Rattle.std.specs.Prelude.{◌&&◌, nat_lt, slice_index}
use Rattle.tiff_base.specs.declared.error.TiffError.{TiffError}
use Rattle.tiff_base.specs.declared.tags.PlanarConfiguration.{PlanarConfiguration}
use Rattle.tiff_base.specs.declared.tags.PlanarConfiguration.TheVariants.{Chunky, Planar}
use Rattle.tiff_page.specs.Counts.{planes_of, all_chunks}
use Rattle.tiff_page.specs.Laws.{HasSides}
use Rattle.tiff_page.specs.Page.{PageRecord}
use Rattle.tiff_page.specs.Pixels.{tabulate, planar_or, stored_samples}
use Rattle.tiff_page.specs.Rect.{RectRecord, rect, chunks_of_plane}
use Rattle.tiff_page.specs.lemmas.PositionLaws.{chunks_within, parts_some}
use Rattle.tiff_page.specs.lemmas.Rows.{each_same}
use Rattle.tiff_encode.specs.Chunks.{chunk_rows, row_samples, chunk_samples, cut_out}
use Rattle.tiff_encode.specs.Parts.{IsPatch, pixel_sample, row_sample}

-- ---- lists of samples

module _ {X : Type 0} (number : X → ℕ) (before : List X) where
  -- one more sample at the end of a list
  pub one_pushed : (old new : List X) (x : X) (f : ℕ → ℕ) (n : ℕ)
      → map number old ≡ map number before ++ tabulate n f
      → new ≡ old ++ x ∷ [] → number x ≡ f n
      → map number new ≡ map number before ++ tabulate (n + 1) f
  one_pushed old new x f n h e v =
      ap (map number) e ∙ map-append number old (x ∷ []) ∙ (λ j. h j ++ v j ∷ [])
      ∙ append_assoc (map number before) (tabulate n f) (f n ∷ [])
      ∙ ap (λ xs. map number before ++ xs) (sym (map-range_with_len_more f 0 n n (omega arith)))

-- the number of a sample at an index of a list
pub number_at : {X : Type 0} (number : X → ℕ) (xs : List X) (n : ℕ) (x : X) → n < length xs
    → x ≡ get_or xs n x → number x ≡ slice_index (map number xs) n
number_at number xs n x l h = ap number h ∙ sym (get_or-map number xs n x 0 l)

-- the index of a pixel's sample in a plane is an index of all samples
pub plane_within : (column count samples plane len : ℕ) → column < count → plane < samples
    → count * samples ≤ len → column * samples + plane < len
plane_within column count samples plane len l p w =
    let a : (column + 1) * samples ≤ count * samples =
    mul-le-mul_right samples (omega (arith, l)) in omega (arith, a, p, w)

-- a table of numbers is its first part, followed by the rest
each_more : (a b : ℕ) (f : ℕ → ℕ) → tabulate (a + b) f ≡ tabulate a f ++ tabulate b (λ n. f (a + n))
each_more a zero f =
    (let e : a + 0 ≡ a = omega arith in ap (λ n. tabulate n f) e ∙ sym (append-nil (tabulate a f)))
each_more a (suc b) f =
    let e : a + suc b ≡ a + b + 1 = omega arith in
    let g : ℕ → ℕ = λ n. f (a + n) in
    let s : suc b ≡ b + 1 = omega arith in
    ap (λ n. tabulate n f) e ∙ map-range_with_len_more f 0 (a + b) (a + b) (omega arith)
    ∙ ap (λ xs. xs ++ f (a + b) ∷ []) (each_more a b f)
    ∙ append_assoc (tabulate a f) (tabulate b g) (f (a + b) ∷ [])
    ∙ ap (λ xs. tabulate a f ++ xs) (sym (ap (λ n. tabulate n g) s
    ∙ map-range_with_len_more g 0 b b (omega arith)))

-- a part of a list as a table of its numbers
pub each_of : (xs : List ℕ) (first n : ℕ) → first + n ≤ length xs
    → take n (drop first xs) ≡ tabulate n (λ j. slice_index xs (first + j))
each_of xs first n l =
    let f : ℕ → ℕ = λ j. slice_index xs (first + j) in
    let m : length (drop first xs) ≡ length xs - first = length-drop first xs in
    let k : length (take n (drop first xs)) ≡ n =
    length-take-le n (drop first xs) (omega (arith, l, m)) in
    ext_get_or 0 (take n (drop first xs)) (tabulate n f) (k ∙ sym (length-map-range_with_len f 0 n))
    (λ i b.
    let c : i < n = subst (λ z. i < z) k b in
    get_or-take n (drop first xs) i 0 c ∙ get_or-drop first xs i 0 ∙ sym (get_or-map-range_with_len f 0 n i i 0 c (omega arith)))

pub numbers_of : {X : Type 0} (number : X → ℕ) (xs : List X) (first n : ℕ)
    → map number (take (first + n - first) (drop first xs)) ≡ take n (drop first (map number xs))
numbers_of number xs first n =
    let e : first + n - first ≡ n = omega arith in
    ap (λ m. map number (take m (drop first xs))) e ∙ sym (take-map number n (drop first xs))
    ∙ ap (take n) (sym (drop-map number first xs))

pub not_planar : (c : PlanarConfiguration) → (c ≡ Planar → ⊥) → c ≡ Chunky
not_planar Chunky h = refl
not_planar Planar h = absurd (h refl)

-- ---- a row of a part of the image

-- the samples of some pixels of a row are within the image
pub pixels_within : (y row h x w wide high all : ℕ) → row < h → y + h ≤ high → x + w ≤ wide
    → ((y + row) * wide + x) * all + w * all ≤ wide * high * all
pixels_within y row h x w wide high all r b c =
    let a : (y + row + 1) * wide ≤ high * wide = mul-le-mul_right wide (omega (arith, r, b)) in
    let e : (y + row + 1) * wide ≡ (y + row) * wide + wide = omega arith in
    let m : high * wide ≡ wide * high = mul_comm high wide in
    let s : (y + row) * wide + (x + w) ≤ wide * high = omega (arith, a, e, m, c) in
    let t : ((y + row) * wide + (x + w)) * all ≤ wide * high * all = mul-le-mul_right all s in
    let d : ((y + row) * wide + (x + w)) * all ≡ ((y + row) * wide + x) * all
    + w * all = omega arith in
    omega (arith, t, d)

-- the same by numbers that are the image's width and its samples of a pixel
pub pixels_inside : (p : PageRecord) (r : RectRecord) (row wide all : ℕ) → IsPatch p r
    → row < r.height → wide ≡ p.width → all ≡ p.samples
    → ((r.y + row) * wide + r.x) * all + r.width * all ≤ p.width * p.height * p.samples
pixels_inside p r row wide all part l w a =
    let within =
    pixels_within r.y row r.height r.x r.width p.width p.height p.samples l part.rows part.columns in
    subst (λ m. ((r.y + row) * m + r.x) * all + r.width * all ≤ p.width * p.height * p.samples) (sym w)
    (subst (λ m. ((r.y + row) * p.width + r.x) * m + r.width * m ≤ p.width * p.height * p.samples) (sym a) within)

-- the samples of a pixel are at the pixel's offset
at_pixel : (base x q all m n : ℕ) → q * all + m ≡ n
    → (base + (x + q)) * all + m ≡ (base + x) * all + n
at_pixel base x q all m n e =
    let d : (base + (x + q)) * all + m ≡ (base + x) * all + (q * all + m) = omega arith in
    d ∙ ap (λ z. (base + x) * all + z) e

factor_some : (w s n : ℕ) → n < w * s → 0 < s
factor_some w zero n l = absurd (omega (arith, l))
factor_some w (suc s) n l = omega arith

-- a sample's index within a pixel is the same in a row and in all rows
mod_of_row : (n w s : ℕ) → n % (w * s) % s ≡ n % s
mod_of_row n w s =
    let e : n / (w * s) * (w * s) + n % (w * s) ≡ n = div-add-mod' n (w * s) in
    let d : n / (w * s) * w * s + n % (w * s) ≡ n =
    ap (λ z. z + n % (w * s)) (mul_assoc (n / (w * s)) w s) ∙ e in
    sym (mul-add-mod_self_right (n / (w * s) * w) s (n % (w * s))) ∙ ap (λ z. z % s) d

some_chunks : (p : PageRecord) → HasSides p → 0 < chunks_of_plane p
some_chunks p sides =
    one-le-mul (parts_some p.width p.chunk_width sides.chunk_wide sides.wide)
    (parts_some p.height p.chunk_height sides.chunk_high sides.high)

module _ (p : PageRecord) (numbers : List ℕ) (r : RectRecord) (row : ℕ) where
  abbrev start : ℕ
  start = ((r.y + row) * p.width + r.x) * p.samples

  -- the sample of a chunk, by its planar configuration
  abbrev sample_by : PlanarConfiguration → ℕ → ℕ
  sample_by planar n =
      slice_index numbers
      (((r.y + row) * p.width + (r.x + n / planar_or planar 1 p.samples)) * p.samples
      + planar_or planar r.plane (n % planar_or planar 1 p.samples))

  abbrev row_by : PlanarConfiguration → List ℕ
  row_by planar = tabulate (r.width * planar_or planar 1 p.samples) (sample_by planar)

  abbrev pixel_row : List ℕ
  pixel_row = tabulate (r.width * stored_samples p) (pixel_sample p numbers r row)

  module _ (within : start + r.width * p.samples ≤ length numbers) where
    abbrev pixels : List ℕ
    pixels = take (r.width * p.samples) (drop start numbers)

    -- a chunky row contains all samples of its pixels
    pub chunky_row : p.planar ≡ Chunky → pixels ≡ pixel_row
    chunky_row chunky =
        each_of numbers start (r.width * p.samples) within
        ∙ each_same (r.width * p.samples) (λ j. slice_index numbers (start + j)) (sample_by Chunky)
        (λ n l. ap (slice_index numbers) (sym (at_pixel ((r.y + row) * p.width) r.x (n / p.samples) p.samples (n % p.samples) n (div-add-mod' n p.samples))))
        ∙ sym (ap row_by chunky)

    -- a planar row contains one sample of each pixel
    pub planar_row : p.planar ≡ Planar → r.plane < p.samples
        → tabulate r.width (λ column. slice_index pixels (column * p.samples + r.plane)) ≡ pixel_row
    planar_row planar one =
        each_same r.width (λ column. slice_index pixels (column * p.samples
        + r.plane)) (sample_by Planar)
        (λ n l.
        let at : ℕ = n * p.samples + r.plane in
        let e : n / 1 ≡ n = omega arith in
        get_or-take (r.width * p.samples) (drop start numbers) at 0 (plane_within n r.width p.samples r.plane (r.width * p.samples) l one (omega arith))
        ∙ get_or-drop start numbers at 0
        ∙ ap (slice_index numbers) (sym (at_pixel ((r.y + row) * p.width) r.x (n / 1) p.samples r.plane at (ap (λ q. q * p.samples + r.plane) e))))
        ∙ (let w : r.width ≡ r.width * 1 = omega arith in ap (λ n. tabulate n (sample_by Planar)) w)
        ∙ sym (ap row_by planar)

  -- ---- a row of a chunk

  -- the part of the image contains the row
  module _ (some : row < r.height) (narrow : r.width ≤ p.chunk_width) where
    abbrev stored : ℕ
    stored = stored_samples p

    inside : (n : ℕ) → n < r.width * stored
        → row_sample p numbers r row n ≡ pixel_sample p numbers r row n
    inside n l =
        let q : n / stored < r.width =
        div_below n stored r.width (factor_some r.width stored n l) l in
        rw (lt-ltb row r.height some, lt-ltb (n / stored) r.width q) refl

    beyond : (n m : ℕ) → m < n * stored → row_sample p numbers r row (r.width * stored + m) ≡ 0
    beyond n m l =
        let q : r.width ≤ (r.width * stored + m) / stored =
        (le-div_iff_mul-le {k = stored} {x = r.width} {y = r.width * stored + m} (factor_some n stored m l)).1 (omega arith) in
        rw (lt-ltb row r.height some, le-ltb ((r.width * stored + m) / stored) r.width q) refl

    pub filled_row : pixel_row ++ tabulate (p.chunk_width * stored - r.width * stored) (λ _. 0)
        ≡ tabulate (row_samples p) (row_sample p numbers r row)
    filled_row =
        let a : ℕ = r.width * stored in
        let b : ℕ = p.chunk_width * stored - r.width * stored in
        let l : a ≤ p.chunk_width * stored = mul-le-mul_right stored narrow in
        let all : a + b ≡ row_samples p = omega (arith, l) in
        let gap : b ≡ (p.chunk_width - r.width) * stored =
        (λ j. mul_comm p.chunk_width stored j - mul_comm r.width stored j)
        ∙ sym (mul-sub stored p.chunk_width r.width)
        ∙ mul_comm stored (p.chunk_width - r.width) in
        (λ j. each_same a (pixel_sample p numbers r row) (row_sample p numbers r row) (λ n l. sym (inside n l)) j
        ++ each_same b (λ _. 0) (λ m. row_sample p numbers r row (a + m)) (λ m l. sym (beyond (p.chunk_width - r.width) m (subst (λ n. m < n) gap l))) j)
        ∙ sym (each_more a b (row_sample p numbers r row))
        ∙ ap (λ n. tabulate n (row_sample p numbers r row)) all

-- ---- the rows of a chunk

module _ (p : PageRecord) (numbers : List ℕ) (k : ℕ) where
  -- a sample of the chunk, by its row
  abbrev pub by_row : ℕ → ℕ
  by_row n = row_sample p numbers (rect p k) (n / row_samples p) (n % row_samples p)

  -- the samples of some rows, followed by one more row
  pub more_rows : (n : ℕ) → tabulate (n * row_samples p) by_row
      ++ tabulate (row_samples p) (row_sample p numbers (rect p k) n)
      ≡ tabulate ((n + 1) * row_samples p) by_row
  more_rows n =
      let row : ℕ = row_samples p in
      let e : n * row + row ≡ (n + 1) * row = omega arith in
      ap (λ xs. tabulate (n * row) by_row ++ xs)
      (each_same row (row_sample p numbers (rect p k) n) (λ m. by_row (n * row + m))
      (λ m l. sym (λ j. row_sample p numbers (rect p k) (div-mul-add n row m l j) (mod-mul-add n row m l j))))
      ∙ sym (each_more (n * row) row by_row)
      ∙ ap (λ z. tabulate z by_row) e

  -- the samples of all rows are the samples that are cut out
  pub all_rows : tabulate (chunk_rows p k * row_samples p) by_row ≡ cut_out p numbers k
  unfolding cut_out
  all_rows =
      each_same (chunk_samples p k) by_row _ (λ n l. ap (λ m. cond (nat_lt (n / row_samples p) (rect p k).height && nat_lt (n % row_samples p / stored_samples p) (rect p k).width)
      (slice_index numbers ((((rect p k).y + n / row_samples p) * p.width + ((rect p k).x + n % row_samples p / stored_samples p)) * p.samples + planar_or p.planar (rect p k).plane m)) 0)
      (mod_of_row n p.chunk_width (stored_samples p)))

-- ---- the part of the image that a chunk covers

plane_below : (planar : PlanarConfiguration) (samples k c : ℕ) → 0 < c
    → k < c * planes_of planar samples → planar ≡ Planar → k / c < samples
plane_below Chunky samples k c pos l h = absurd cc
plane_below Planar samples k c pos l h =
    div_below k c samples pos (subst (λ n. k < n) (mul_comm c samples) l)

pub is_patch : (p : PageRecord) (k : ℕ) → HasSides p → k < all_chunks p → IsPatch p (rect p k)
unfolding rect
is_patch p k sides l =
    let w = chunks_within p k sides in
    record {
      columns = w.columns;
      rows = w.rows;
      narrow = omega arith;
      plane = plane_below p.planar p.samples k (chunks_of_plane p) (some_chunks p sides) l;
    }

-- ---- what the calls return

-- a property of a result implies a weaker one
pub told_on : {A P Q : Type 0} (E : TiffError → Type 0) (r : Result A TiffError) → (P → Q)
    → MatchResult r (λ _. P) E → MatchResult r (λ _. Q) E
told_on E (Ok x) f h = f h
told_on E (Err e) f h = h

-- a row is appended to the samples of a chunk
pub row_pushed : (p : PageRecord) (numbers : List ℕ) (r : RectRecord) (row gap : ℕ)
    (before mid now : List ℕ) → row < r.height → r.width ≤ p.chunk_width
    → gap ≡ p.chunk_width * stored_samples p - r.width * stored_samples p
    → mid ≡ before ++ tabulate (r.width * stored_samples p) (pixel_sample p numbers r row)
    → now ≡ mid ++ tabulate gap (λ _. 0)
    → now ≡ before ++ tabulate (row_samples p) (row_sample p numbers r row)
row_pushed p numbers r row gap before mid now some narrow g m n =
    let pixels : List ℕ = tabulate (r.width * stored_samples p) (pixel_sample p numbers r row) in
    let zeros : ℕ → List ℕ = λ n. tabulate n (λ _. 0) in
    n ∙ ap (λ xs. xs ++ zeros gap) m ∙ append_assoc before pixels (zeros gap)
    ∙ ap (λ xs. before ++ xs) (ap (λ n. pixels ++ zeros n) g
    ∙ filled_row p numbers r row some narrow)

-- a row is appended behind the earlier rows of a chunk
pub rows_pushed : (p : PageRecord) (numbers : List ℕ) (k n : ℕ) (r : RectRecord)
    (before now : List ℕ) → r ≡ rect p k
    → before ≡ tabulate (n * row_samples p) (by_row p numbers k)
    → now ≡ before ++ tabulate (row_samples p) (row_sample p numbers r n)
    → now ≡ tabulate ((n + 1) * row_samples p) (by_row p numbers k)
rows_pushed p numbers k n r before now e b h =
    h ∙ (λ j. b j ++ tabulate (row_samples p) (row_sample p numbers (e j) n))
    ∙ more_rows p numbers k n

-- ---- the samples of a row of a part, which are cut out of a list

module _ {X : Type 0} (number : X → ℕ) (samples : List X) (p : PageRecord) (r : RectRecord)
    (row wide all : ℕ) (part : IsPatch p r) (inside : row < r.height) (w : wide ≡ p.width)
    (a : all ≡ p.samples) (whole : p.width * p.height * p.samples ≤ length samples) where
  abbrev numbers : List ℕ
  numbers = map number samples

  -- where the row begins in the list
  abbrev first_at : ℕ → ℕ → ℕ
  first_at wide all = ((r.y + row) * wide + r.x) * all

  within : first_at p.width p.samples + r.width * p.samples ≤ length numbers
  within =
      let l : length numbers ≡ length samples = length-map samples number in
      let b = pixels_within r.y row r.height r.x r.width p.width p.height p.samples inside part.rows part.columns in
      omega (arith, b, whole, l)

  abbrev cut_row : ℕ → ℕ → List ℕ
  cut_row wide all =
      map number (take (first_at wide all + r.width * all - first_at wide all) (drop (first_at wide all) samples))

  cut_is : cut_row wide all ≡ take (r.width * p.samples) (drop (first_at p.width p.samples) numbers)
  cut_is = (λ j. cut_row (w j) (a j)) ∙ numbers_of number samples (first_at p.width p.samples) (r.width * p.samples)

  pub chunky_cut : p.planar ≡ Chunky
      → cut_row wide all ≡ tabulate (r.width * stored_samples p) (pixel_sample p numbers r row)
  chunky_cut chunky = cut_is ∙ chunky_row p numbers r row within chunky

  pub planar_cut : p.planar ≡ Planar
      → tabulate r.width (λ column. slice_index (cut_row wide all) (column * all + r.plane))
      ≡ tabulate (r.width * stored_samples p) (pixel_sample p numbers r row)
  planar_cut planar =
      (λ j. tabulate r.width (λ column. slice_index (cut_is j) (column * a j + r.plane)))
      ∙ planar_row p numbers r row within planar (part.plane planar)
