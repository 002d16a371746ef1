-- The samples that `write_data` passes to each chunk that is left.
use Rattle.std.proofs.Common.{zero, suc, ◌≡◌, ℕ, ◌+◌, ◌-◌, ◌*◌, ◌^◌, ◌<◌, ◌≤◌, Bool, true, false, cond, ◌&&◌, List, [], ◌∷◌, length, map, take, drop, get_or, None, refl, ap, sym, ◌∙◌, subst, arith, min}
use Rattle.std.proofs.Math.Nat.{mul-le-mul_right, mul_assoc, mul_comm}
use Rattle.std.proofs.lemmas.Bool.{leb-false}
use Rattle.std.proofs.lemmas.List.FromFn.{length-map-range_with_len}
use Rattle.std.specs.List.{range_with_len}
use Rattle.std.specs.Prelude.{not}
use Rattle.tiff_base.specs.lemmas.Common.{neither}
use Rattle.tiff_base.specs.declared.color.ChunkType.{ChunkType}
use Rattle.tiff_base.specs.declared.color.ChunkType.TheVariants.{Strip, Tile}
use Rattle.tiff_base.specs.declared.tags.PlanarConfiguration.{PlanarConfiguration}
use Rattle.tiff_base.specs.declared.tags.PlanarConfiguration.TheVariants.{Chunky, Planar}
use Rattle.tiff_page.specs.Page.{PageRecord}
use Rattle.tiff_page.specs.Rect.{rect}
use Rattle.tiff_page.specs.Pixels.{stored_samples}
use Rattle.tiff_encode.specs.Machine.{FileState, OpenImage, ChunkLayout}
use Rattle.tiff_encode.specs.Drawn.{IsForm}
use Rattle.tiff_encode.specs.Chunks.{all_samples, image_page, is_tile, is_planar, is_in_order, chunk_rows, row_samples, chunk_samples, chunks_left, cut_out, part, parts_left}
use Rattle.tiff_encode.specs.Causes.{image_samples, write_image_data_cause}
use Rattle.tiff_encode.specs.ImageData.{AreNumbers}
use Rattle.tiff_encode.proofs.Open.Settings.{fresh, first_test}

-- ---- small numbers

-- each number of a list is small, also past its end
abbrev pub AreSmall : ℕ → List ℕ → Type 0
AreSmall most xs = (n : ℕ) → get_or xs n 0 < most

some_small : (most : ℕ) (xs : List ℕ) → AreSmall most xs → 0 < most
some_small most [] s = s 0
some_small most (x ∷ xs) s = some_small most xs (λ n. s (suc n))

taken_small : (most k : ℕ) (xs : List ℕ) → AreSmall most xs → AreSmall most (take k xs)
taken_small most zero xs s n = some_small most xs s
taken_small most (suc k) [] s n = s n
taken_small most (suc k) (x ∷ xs) s zero = s 0
taken_small most (suc k) (x ∷ xs) s (suc n) = taken_small most k xs (λ j. s (suc j)) n

dropped_small : (most k : ℕ) (xs : List ℕ) → AreSmall most xs → AreSmall most (drop k xs)
dropped_small most zero xs s n = s n
dropped_small most (suc k) [] s n = s n
dropped_small most (suc k) (x ∷ xs) s n = dropped_small most k xs (λ j. s (suc j)) n

mapped_small : (most : ℕ) (f : ℕ → ℕ) (ks : List ℕ) → 0 < most → ((k : ℕ) → f k < most)
    → AreSmall most (map f ks)
mapped_small most f [] p s n = p
mapped_small most f (k ∷ ks) p s zero = s k
mapped_small most f (k ∷ ks) p s (suc n) = mapped_small most f ks p s n

or_zero : (b : Bool) (x most : ℕ) → x < most → 0 < most → cond b x 0 < most
or_zero true x most h p = h
or_zero false x most h p = p

cut_small : (p : PageRecord) (samples : List ℕ) (k most : ℕ) → AreSmall most samples
    → AreSmall most (cut_out p samples k)
unfolding cut_out
cut_small p samples k most s =
    let some = some_small most samples s in
    mapped_small most _ (range_with_len 0 (chunk_samples p k)) some (λ n. or_zero _ _ most (s _) some)

cut_length : (p : PageRecord) (samples : List ℕ) (k : ℕ)
    → length (cut_out p samples k) ≡ chunk_samples p k
unfolding cut_out
cut_length p samples k = length-map-range_with_len _ 0 (chunk_samples p k)

-- ---- a part is ready for its chunk

-- a part whose number of samples is that of the call has as many as its chunk, and they are small
abbrev pub IsReady : (ℕ → ℕ) → ℕ → ℕ → List ℕ → Type 0
IsReady many most k xs =
    (length xs ≡ min (many k) (2 ^ 64 - 1) → length xs ≡ many k) × AreSmall most xs

abbrev pub AreReady : (ℕ → ℕ) → ℕ → ℕ → List (List ℕ) → Type 0
AreReady many most k [] = Unit {0}
AreReady many most k (xs ∷ others) = IsReady many most k xs × AreReady many most (k + 1) others

-- chunks in the order of the image are strips of whole rows
strips_form : (form : ChunkLayout) → is_in_order form ≡ true
    → (form.chunk_type ≡ Strip) × (form.planar ≡ Chunky)
strips_form form h = by form.chunk_type form.planar h refl refl where
  by : (c : ChunkType) (p : PlanarConfiguration) → (not (is_tile c) && not (is_planar p)) ≡ true
      → form.chunk_type ≡ c → form.planar ≡ p
      → (form.chunk_type ≡ Strip) × (form.planar ≡ Chunky)
  by Strip Chunky h a b = (a, b)
  by Strip Planar h a b = absurd cc
  by Tile p h a b = absurd cc

module _ (i : OpenImage) (samples : List ℕ) where
  abbrev page : PageRecord
  page = image_page i

  -- a strip has no more samples than the image
  strip_within : IsForm i.width i.form → is_in_order i.form ≡ true → (k : ℕ)
      → chunk_samples page k ≤ image_samples i
  unfolding rect
  strip_within f h k =
      let form = strips_form i.form h in
      let wide : i.form.chunk_width ≡ i.width = f.strips form.0 in
      let stored : stored_samples page ≡ all_samples i =
      ap (λ p. stored_samples (record page { planar = p })) form.1 in
      let rows : chunk_rows page k ≡ (rect page k).height =
      ap (λ c. cond (is_tile c) i.form.chunk_height (rect page k).height) form.0 in
      let high : (rect page k).height ≤ i.height = omega arith in
      let m : ℕ = i.width * all_samples i in
      let same : chunk_samples page k ≡ (rect page k).height * m =
      λ j. rows j * (wide j * stored j) in
      let l : (rect page k).height * m ≤ i.height * m = mul-le-mul_right m high in
      let e : i.height * m ≡ image_samples i =
      sym (mul_assoc i.height i.width (all_samples i))
      ∙ ap (λ n. n * all_samples i) (mul_comm i.height i.width) in
      omega (arith, same, l, e)

  part_ready : (most k : ℕ) → image_samples i < 2 ^ 64 → IsForm i.width i.form
      → AreSmall most samples → (b : Bool) → is_in_order i.form ≡ b
      → IsReady (chunk_samples page) most (length i.chunks + k)
      (let chunk = length i.chunks + k in
      cond b (take (chunk_samples page chunk) (drop (k * (page.chunk_height * row_samples page)) samples)) (cut_out page samples chunk))
  part_ready most k l f s false h =
      ((λ e. cut_length page samples (length i.chunks + k)), cut_small page samples (length i.chunks + k) most s)
  part_ready most k l f s true h =
      let n : ℕ = chunk_samples page (length i.chunks + k) in
      let from : ℕ = k * (page.chunk_height * row_samples page) in
      let within : n ≤ image_samples i = strip_within f h (length i.chunks + k) in
      ((λ e. omega (arith, e, l, within)), taken_small most n (drop from samples) (dropped_small most from samples s))

  parts_ready : (most a n : ℕ) → ((k : ℕ) → IsReady (chunk_samples page) most (length i.chunks
      + k) (part i samples k))
      → (j : ℕ) → j ≡ length i.chunks + a
      → AreReady (chunk_samples page) most j (map (part i samples) (range_with_len a n))
  parts_ready most a zero r j e = tt
  parts_ready most a (suc n) r j e =
      (subst (λ x. IsReady (chunk_samples page) most x (part i samples a)) (sym e) (r a), parts_ready most (a + 1) n r (j + 1) (omega (arith, e)))

  -- the samples that each chunk that is left receives are ready for it
  pub left_ready : (file : FileState) (count : ℕ) → write_image_data_cause file i count ≡ None
      → IsForm i.width i.form → AreNumbers i.size samples
      → AreReady (chunk_samples page) (256 ^ i.size) (length i.chunks) (parts_left i samples)
  unfolding write_image_data_cause parts_left
  left_ready file count c f s =
      let first = first_test _ _ _ (fresh file.fault _ c) in
      let few = leb-false (2 ^ 64) (image_samples i) (neither _ _ first.0).0 in
      parts_ready (256 ^ i.size) 0 (chunks_left i) (λ k. part_ready (256 ^ i.size) k few f s (is_in_order i.form) refl) (length i.chunks) (omega arith)

  pub left_many : length (parts_left i samples) ≡ chunks_left i
  unfolding parts_left
  left_many = length-map-range_with_len (part i samples) 0 (chunks_left i)
