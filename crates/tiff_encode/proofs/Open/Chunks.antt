-- A written chunk is held with its samples.
use Rattle.std.proofs.Common.{zero, suc, ◌≡◌, ℕ, ◌+◌, ◌-◌, ◌^◌, ◌<◌, ◌⊎◌, inl, inr, Bool, true, false, cond, List, [], ◌∷◌, ◌++◌, length, map, get_or, None, Ok, refl, ap, sym, ◌∙◌, subst, arith, min}
use Rattle.std.proofs.Math.Nat.{min-eq_left, min-eq_right}
use Rattle.std.proofs.Math.Seq.{get_or-append_seam}
use Rattle.std.proofs.lemmas.Bool.{eqb-true, ltb-true, leb-false, cases_lt, false≢true}
use Rattle.std.proofs.lemmas.List.{length-append, length-map, map-append, get_or_append_left}
use Rattle.std.specs.Prelude.{not, ◌==◌, slice_index}
use Rattle.tiff_base.specs.lemmas.Common.{neither}
use Rattle.tiff_page.specs.Counts.{all_chunks}
use Rattle.tiff_page.specs.Rect.{rect}
use Rattle.tiff_value.specs.FileBytes.{offset_len}
use Rattle.tiff_value.specs.Model.{In, ByteRegion, Model, with_region}
use Rattle.tiff_encode.specs.Machine.{FileState, Chunk, OpenImage}
use Rattle.tiff_encode.specs.Chunks.{image_page, chunk_samples, is_left, next_chunk_sample_count}
use Rattle.tiff_encode.specs.Causes.{end_of, is_past, chunk_cause, write_chunk_cause, write_strip_cause}
use Rattle.tiff_encode.specs.Calls.{with_chunk, appends_chunk, write_chunk, write_strip}
use Rattle.tiff_encode.specs.Stored.{unpacked_chunk, IsChunkStored}
use Rattle.tiff_encode.specs.Held.{samples_of_chunk}
use Rattle.tiff_encode.specs.Open.{HoldsChunks, RecordsImage, model_by, ChunksKeepOpen}
use Rattle.tiff_base.specs.lemmas.Slices.{ok_inj}
use Rattle.tiff_encode.proofs.CallFits.{offset_fits}
use Rattle.tiff_encode.proofs.Open.Held.{holds_grown}
use Rattle.tiff_encode.proofs.Open.Tags.{caused_held}
use Rattle.tiff_encode.proofs.Open.Kept.{tells_kept, open_kept}
use Rattle.tiff_encode.proofs.Open.Settings.{fresh, first_test}
use Rattle.tiff_value.specs.lemmas.File.WriteOps.{ops_grow}
use Rattle.tiff_value.specs.WriteOps.{Appended}

-- ---- one more element in a list

-- a property of each element holds with one more
each_more : {A : Type 0} (P : A → Type 0) (xs : List A) (y : A) → ((x : A) → In x xs → P x) → P y
    → (x : A) → In x (xs ++ y ∷ []) → P x
each_more P [] y f p x (inl e) = subst P (sym e) p
each_more P [] y f p x (inr i) = absurd i
each_more P (z ∷ zs) y f p x (inl e) = f x (inl e)
each_more P (z ∷ zs) y f p x (inr i) = each_more P zs y (λ w j. f w (inr j)) p x i

-- a property at each index, also past the end, holds with one more element
offset_more : {A : Type 0} (P : A → Type 0) (xs : List A) (y d : A) → ((k : ℕ) → P (get_or xs k d))
    → P y
    → (k : ℕ) → P (get_or (xs ++ y ∷ []) k d)
offset_more P [] y d f p zero = p
offset_more P [] y d f p (suc k) = f k
offset_more P (x ∷ xs) y d f p zero = f zero
offset_more P (x ∷ xs) y d f p (suc k) = offset_more P xs y d (λ j. f (suc j)) p k

-- the earlier elements, and the last one
kept_at : {A B : Type 0} (f : A → B) (xs : List A) (y : A) (k : ℕ) (d : B) → k < length xs
    → get_or (map f (xs ++ y ∷ [])) k d ≡ get_or (map f xs) k d
kept_at f xs y k d l =
    ap (λ zs. get_or zs k d) (map-append f xs (y ∷ []))
    ∙ get_or_append_left (map f xs) (f y ∷ []) d k (omega (arith, l, length-map xs f))

last_at : {A B : Type 0} (f : A → B) (xs : List A) (y : A) (k : ℕ) (d : B) → k ≡ length xs
    → get_or (map f (xs ++ y ∷ [])) k d ≡ f y
last_at f xs y k d e =
    ap (λ zs. get_or zs k d) (map-append f xs (y ∷ []))
    ∙ ap (λ j. get_or (map f xs ++ f y ∷ []) j d) (e ∙ sym (length-map xs f))
    ∙ get_or-append_seam (map f xs) (f y) [] d

-- an index of a list with one more element is an earlier index or the last one
last_or : (k n : ℕ) → k < n + 1 → (k < n) ⊎ (k ≡ n)
last_or k n l = elim (cases_lt k n) [ inl b ↦ inl b | inr a ↦ inr (omega (arith, l, a)) ]

-- ---- what the checks of a chunk imply

-- the lesser of two numbers is the first if it is less than the second
least : (c s m : ℕ) → c ≡ min s m → c < m → c ≡ s
least c s m e l =
    elim (cases_lt s m) [
      | inl b ↦ e ∙ min-eq_left (omega (arith, b))
      | inr a ↦ (let q : min s m ≡ m = min-eq_right a in absurd (omega (arith, e, l, q)))
    ]

is_true : (b : Bool) → not b ≡ false → b ≡ true
is_true true h = refl
is_true false h = absurd (false≢true (sym h))

-- The chunk is one that is left, with as many samples as it needs. Its offset and its number of
-- bytes are numbers of the kind.
record IsNext (file : FileState) (i : OpenImage) (count stored : ℕ) : Type 0 where
  few : all_chunks (image_page i) < 2 ^ 32
  left : length i.chunks < all_chunks (image_page i)
  samples : count ≡ chunk_samples (image_page i) (length i.chunks)
  offset : is_past file.kind (end_of file) ≡ false
  short : is_past file.kind stored ≡ false

-- the call requests as many samples as the chunk has
abbrev pub IsAsked : OpenImage → ℕ → Type 0
IsAsked i count =
    count ≡ min (chunk_samples (image_page i) (length i.chunks)) (2 ^ 64 - 1)
    → count ≡ chunk_samples (image_page i) (length i.chunks)

is_next : (file : FileState) (i : OpenImage) (count stored : ℕ) → IsAsked i count
    → chunk_cause file i count stored ≡ None
    → IsNext file i count stored
unfolding next_chunk_sample_count
is_next file i count stored l c =
    let past = first_test _ _ _ c in
    let wrong = first_test _ _ _ past.1 in
    let both = neither (not (is_left i)) (not (count == next_chunk_sample_count i)) wrong.0 in
    let left : is_left i ≡ true = is_true (is_left i) both.0 in
    let same : count ≡ next_chunk_sample_count i =
    eqb-true count (next_chunk_sample_count i) (is_true _ both.1) in
    let s : ℕ = chunk_samples (image_page i) (length i.chunks) in
    let far =
    neither (is_past file.kind (end_of file)) (is_past file.kind stored) (first_test _ _ _ wrong.1).0 in
    record {
      few = leb-false (2 ^ 32) (all_chunks (image_page i)) past.0;
      left = ltb-true (length i.chunks) (all_chunks (image_page i)) left;
      samples = l (same ∙ ap (λ b. cond b (min s (2 ^ 64 - 1)) 0) left);
      offset = far.0;
      short = far.1;
    }

-- ---- the earlier chunks, and this one

-- bytes at an offset that encode some samples of the image
abbrev FileAndModel : Model → OpenImage → ℕ → ℕ → List ℕ → Type 0
FileAndModel m i offset count samples =
    (stored : List ℕ) × (In (record { offset = offset; bytes = stored }) m.regions
    × ((length stored ≡ count) × IsChunkStored i stored samples))

module _ (file : FileState) (m : Model) (i : OpenImage) (samples : List (List ℕ))
    (numbers stored : List ℕ) where
  -- the region, the chunk, the model, the image and the samples after the call
  abbrev region : ByteRegion
  region = record { offset = end_of file; bytes = stored }

  abbrev chunk : Chunk
  chunk = record { offset = end_of file; stored = length stored }

  abbrev later : Model
  later = with_region m region

  abbrev image : OpenImage
  image = with_chunk i (end_of file) (length stored)

  abbrev all : List (List ℕ)
  all = samples ++ numbers ∷ []

  chunks_more : HoldsChunks file.kind m i samples → IsNext file i (length numbers) (length stored)
      → ((n : ℕ) → get_or numbers n 0 < 256 ^ i.size) → IsChunkStored i stored numbers
      → end_of file < 2 ^ 64 → length stored < 2 ^ 64 → HoldsChunks file.kind later image all
  unfolding rect unpacked_chunk
  chunks_more h c s is near short =
      let n : ℕ = length i.chunks in
      let many : length image.chunks ≡ n + 1 = length-append i.chunks (chunk ∷ []) in
      let equal : length samples ≡ n = h.as_many in
      let or_last : (k : ℕ) → k < length image.chunks → (k < n) ⊎ (k ≡ n) =
      λ k l. last_or k n (omega (arith, l, many)) in
      let old_samples : (k : ℕ) → k < n → samples_of_chunk all k ≡ samples_of_chunk samples k =
      λ k l. get_or_append_left samples (numbers ∷ []) [] k (omega (arith, l, equal)) in
      let new_samples : (k : ℕ) → k ≡ n → samples_of_chunk all k ≡ numbers =
      λ k e. ap (λ j. samples_of_chunk all j) (e ∙ sym equal)
      ∙ get_or-append_seam samples numbers [] [] in
      let lengths : (k : ℕ) → (k < n) ⊎ (k ≡ n)
      → length (samples_of_chunk all k) ≡ chunk_samples (image_page i) k =
      λ k o. elim o [
        | inl l ↦ ap (λ xs. length xs) (old_samples k l) ∙ h.lengths k l
        | inr e ↦ ap (λ xs. length xs) (new_samples k e) ∙ c.samples
            ∙ ap (chunk_samples (image_page i)) (sym e)
      ] in
      let P : ℕ → ℕ → List ℕ → Type 0 = FileAndModel later i in
      let at : (k : ℕ) → (k < n) ⊎ (k ≡ n)
      → P (slice_index (image_page image).offsets k) (slice_index (image_page image).byte_counts k) (samples_of_chunk all k) =
      λ k o. elim o [
        | inl l ↦ (let r = h.regions k l in
            subst (λ p. P p (slice_index (image_page image).byte_counts k) (samples_of_chunk all k))
            (sym (kept_at (λ x. x.offset) i.chunks chunk k 0 l))
            (subst (λ b. P (slice_index (image_page i).offsets k) b (samples_of_chunk all k)) (sym (kept_at (λ x. x.stored) i.chunks chunk k 0 l))
            (subst (λ xs. P (slice_index (image_page i).offsets k) (slice_index (image_page i).byte_counts k) xs) (sym (old_samples k l))
            (r.0, (inr r.1.0, r.1.1)))))
        | inr e ↦
            subst (λ p. P p (slice_index (image_page image).byte_counts k) (samples_of_chunk all k))
            (sym (last_at (λ x. x.offset) i.chunks chunk k 0 e))
            (subst (λ b. P (end_of file) b (samples_of_chunk all k)) (sym (last_at (λ x. x.stored) i.chunks chunk k 0 e))
            (subst (λ xs. P (end_of file) (length stored) xs) (sym (new_samples k e))
            (stored, (inl refl, (refl, is)))))
      ] in
      record {
        as_many = length-append samples (numbers ∷ []) ∙ ap (λ k. k + 1) equal ∙ sym many;
        within = let l = c.left in omega (arith, l, many);
        few = λ _. c.few;
        lengths = λ k l. lengths k (or_last k l);
        small =
            offset_more (λ xs. (k : ℕ) → get_or xs k 0 < 256 ^ i.size) samples numbers [] h.small s;
        regions = λ k l. at k (or_last k l);
        fit =
            each_more (λ x. (x.offset < 256 ^ offset_len file.kind)
            × (x.stored < 256 ^ offset_len file.kind)) i.chunks chunk h.fit
            (offset_fits file.kind (end_of file) c.offset near, offset_fits file.kind (length stored) c.short short);
      }

  -- the image with the chunk is held
  chunk_kept : RecordsImage file.kind m i samples
      → chunk_cause file i (length numbers) (length stored) ≡ None
      → ((n : ℕ) → get_or numbers n 0 < 256 ^ i.size) → IsAsked i (length numbers)
      → IsChunkStored i stored numbers → end_of file < 2 ^ 64 → length stored < 2 ^ 64
      → RecordsImage file.kind later image all
  chunk_kept h c s l is near short = record {
    given = h.given;
    holds =
        holds_grown m later i.directory.fields h.given (ops_grow file.kind file.bytes m (Appended stored ∷ [])) h.holds;
    tells = tells_kept i i.directory (i.chunks ++ chunk ∷ []) h.given h.tells;
    open_so = open_kept i i.directory (i.chunks ++ chunk ∷ []) h.open_so;
    chunks =
        chunks_more h.chunks (is_next file i (length numbers) (length stored) l c) s is near short;
  }

  -- the image that the call returns is held
  appended_kept : (next : OpenImage) → RecordsImage file.kind m i samples
      → chunk_cause file i (length numbers) (length stored) ≡ None
      → ((n : ℕ) → get_or numbers n 0 < 256 ^ i.size) → IsAsked i (length numbers)
      → IsChunkStored i stored numbers → end_of file < 2 ^ 64 → length stored < 2 ^ 64
      → (appends_chunk i stored file).answer ≡ Ok next
      → RecordsImage file.kind (model_by file m (appends_chunk i stored file)) next all
  appended_kept next h c s l is near short a =
      subst (λ j. RecordsImage file.kind later j all) (ok_inj image next a) (chunk_kept h c s l is near short)

-- a chunk with its number of samples keeps the image held
pub chunk_keeps_open : (file : FileState) (m : Model) (i next : OpenImage) (samples : List (List ℕ))
    (numbers stored : List ℕ)
    → RecordsImage file.kind m i samples → ((n : ℕ) → get_or numbers n 0 < 256 ^ i.size)
    → IsAsked i (length numbers)
    → IsChunkStored i stored numbers → end_of file < 2 ^ 64 → length stored < 2 ^ 64
    → (write_chunk i (length numbers) stored file).answer ≡ Ok next
    → RecordsImage file.kind (model_by file m (write_chunk i (length numbers) stored file)) next
    (samples ++ numbers ∷ [])
unfolding write_chunk write_chunk_cause
chunk_keeps_open file m i next samples numbers stored h s l is near short a =
    let P : Model → Type 0 = λ n. RecordsImage file.kind n next (samples ++ numbers ∷ []) in
    caused_held (write_chunk_cause file i (length numbers) (length stored))
    (appends_chunk i stored) file m P next a
    (λ c b. appended_kept file m i samples numbers stored next h (fresh file.fault _ c) s l is near short b)

pub chunks_keep_open : ChunksKeepOpen
unfolding write_strip write_strip_cause
chunks_keep_open file m i next samples numbers stored h s l is near short =
    let P : Model → Type 0 = λ n. RecordsImage file.kind n next (samples ++ numbers ∷ []) in
    let asked : IsAsked i (length numbers) = λ e. least (length numbers) _ (2 ^ 64 - 1) e l in (
      λ a. chunk_keeps_open file m i next samples numbers stored h s asked is near short a,
      λ a. caused_held (write_strip_cause file i (length numbers) (length stored))
          (appends_chunk i stored) file m P next a
          (λ c b. appended_kept file m i samples numbers stored next h (first_test _ _ _ (fresh file.fault _ c)).1 s asked is near short b),
    )
