-- The samples that a chunk receives.
use Rattle.std.proofs.Common.{◌≡◌, ℕ, ◌-◌, ◌*◌, ◌^◌, ◌<◌, min, true, false, cond, List, length, map, take, drop, Result, Ok, Err, ap, sym, ◌∙◌, subst, arith}
use Rattle.std.proofs.lemmas.List.{length-map, take-map, drop-map}
use Rattle.std.proofs.lemmas.List.FromFn.{length-map-range_with_len}
use Rattle.tiff_base.specs.declared.error.TiffError.{TiffError}
use Rattle.tiff_encode.specs.Calls.{write_chunk}
use Rattle.tiff_encode.specs.Chunks.{image_page, row_samples, chunk_samples, is_in_order, is_left, next_chunk_sample_count, cut_out}
use Rattle.tiff_encode.specs.Machine.{FileState, OpenImage}
use Rattle.tiff_encode.specs.Parts.{next_slice, next_part, WritesPart}
use Rattle.tiff_encode.specs.Storing.{StoresChunk}

module _ {X : Type 0} (number : X → ℕ) (i : OpenImage) (samples : List X) (k : ℕ) where
  -- the samples of a strip, in the order of the image
  pub slice_part : (part : List X) → is_in_order i.form ≡ true → part ≡ next_slice i samples k
      → map number part ≡ next_part i (map number samples) k
  slice_part part order h =
      let p = image_page i in
      let n : ℕ = chunk_samples p (length i.chunks) in
      let from : ℕ = k * (p.chunk_height * row_samples p) in
      ap (map number) h ∙ sym (take-map number n (drop from samples))
      ∙ ap (take n) (sym (drop-map number from samples))
      ∙ ap (λ b. cond b (next_slice i (map number samples) k) (cut_out p (map number samples) (length i.chunks))) (sym order)

  -- the samples that are cut out for a chunk
  pub cut_part : (part : List X) (c : ℕ) → is_in_order i.form ≡ false → c ≡ length i.chunks
      → map number part ≡ cut_out (image_page i) (map number samples) c
      → map number part ≡ next_part i (map number samples) k
  cut_part part c order counted h =
      h ∙ ap (cut_out (image_page i) (map number samples)) counted
      ∙ ap (λ b. cond b (next_slice i (map number samples) k) (cut_out (image_page i) (map number samples) (length i.chunks))) (sym order)

  -- a part has as many samples as the next chunk
  pub cut_count : (part : List X) (c : ℕ) → is_left i ≡ true → c ≡ length i.chunks
      → length part < 2 ^ 64 - 1
      → map number part ≡ cut_out (image_page i) (map number samples) c
      → length part ≡ next_chunk_sample_count i
  unfolding cut_out next_chunk_sample_count
  cut_count part c left counted few h =
      let all : length part ≡ chunk_samples (image_page i) c =
      sym (length-map part number) ∙ ap (λ xs. length xs) h
      ∙ length-map-range_with_len _ 0 (chunk_samples (image_page i) c) in
      let same : length part ≡ chunk_samples (image_page i) (length i.chunks) =
      all ∙ ap (chunk_samples (image_page i)) counted in
      let least : length part ≡ min (chunk_samples (image_page i) (length i.chunks)) (2 ^ 64 - 1) =
      omega (arith, same, few) in
      least ∙ ap (λ b. cond b (min (chunk_samples (image_page i) (length i.chunks)) (2 ^ 64 - 1)) 0)
      (sym left)

module _ (i : OpenImage) (part whole : List ℕ) (same : part ≡ whole) (old new : FileState)
    (next : OpenImage) where
  -- storing a part as the next chunk writes that part of the image
  pub part_written : (r : Result (Unit {0}) TiffError)
      → StoresChunk write_chunk i part r old new next → WritesPart i whole r old new next
  part_written (Ok x) h =
      let r : Result (Unit {0}) TiffError = Ok x in
      subst (λ xs. WritesPart i xs r old new next) same h
  part_written (Err e) h =
      let r : Result (Unit {0}) TiffError = Err e in
      subst (λ xs. WritesPart i xs r old new next) same h.1
