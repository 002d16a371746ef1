-- What a step that writes a chunk of an image does from a `FileAndModel` of its file.
use Rattle.std.proofs.Common.{◌≡◌, ℕ, ◌-◌, ◌^◌, ◌%◌, ◌<◌, ◌≤◌, ◌⊎◌, Bool, true, false, List, [], ◌∷◌, ◌++◌, length, get_or, Option, Some, None, Result, Ok, Err, refl, ap, sym, ◌∙◌, inl, inr, subst, arith, length-append}
use Rattle.tiff_base.specs.declared.error.TiffError.{TiffError}
use Rattle.tiff_base.specs.declared.error.TiffError.TheVariants.{OutOfMemory}
use Rattle.tiff_encode.specs.declared.encoder.script.StepReply.{StepReply}
use Rattle.tiff_value.specs.Model.{Model, FileContains, Grows}
use Rattle.tiff_encode.specs.Machine.{FileState, OpenImage, WriteOutcome, WriteCall, by_cause}
use Rattle.tiff_encode.specs.Causes.{end_of, write_chunk_cause, write_strip_cause}
use Rattle.tiff_encode.specs.Calls.{with_chunk, appends_chunk, write_chunk, write_strip}
use Rattle.tiff_encode.specs.Ends.{EndsAsDefined, AppendFailed}
use Rattle.tiff_encode.specs.ImageData.{LeavesChunk}
use Rattle.tiff_encode.specs.Open.{RecordsImage, model_by}
use Rattle.tiff_encode.specs.Stored.{IsChunkStored}
use Rattle.tiff_encode.specs.Storing.{WritesStoredChunk}
use Rattle.tiff_encode.specs.JobValues.{cut_to}
use Rattle.tiff_encode.specs.Jobs as jobs
use Rattle.tiff_encode.specs.Jobs.{FileAndModel, Drawn}
use Rattle.tiff_encode.specs.Stepping.{StandsIfKnown, DrawMoves}
use Rattle.tiff_encode.specs.ImageStepping.{reply_to}
use Rattle.tiff_base.specs.lemmas.Slices.{ok_inj}
use Rattle.tiff_value.specs.lemmas.File.WriteOps.{ops_grow}
use Rattle.tiff_encode.proofs.Joining.{IsAdding, adding, stored_adds}
use Rattle.tiff_encode.proofs.Moving.{grows_here}
use Rattle.tiff_encode.proofs.Open.Chunks.{chunks_keep_open}
use Rattle.tiff_encode.proofs.Open.Tags.{no_answer}
use Rattle.tiff_encode.specs.lemmas.Samples.{are_numbers}
use Rattle.tiff_encode.proofs.Image.Steps.{asked}
use Rattle.std.proofs.lemmas.List.{length-map}

-- ---- a chunk is appended

-- the file is at least as long as the stored bytes
chunk_within : (cause : Option TiffError) (i next : OpenImage) (stored : List ℕ) (file : FileState)
    → (by_cause cause (appends_chunk i stored) file).answer ≡ Ok next
    → length stored ≤ end_of (by_cause cause (appends_chunk i stored) file).next
chunk_within None i next stored file a = omega (arith, length-append file.bytes stored)
chunk_within (Some e) i next stored file a = absurd (no_answer a)

-- the image with the chunk has the same directory
chunk_parent : (cause : Option TiffError) (i next : OpenImage) (stored : List ℕ) (file : FileState)
    → (by_cause cause (appends_chunk i stored) file).answer ≡ Ok next
    → next.directory.parent ≡ i.directory.parent
chunk_parent None i next stored file a =
    ap (λ j. j.directory.parent) (sym (ok_inj (with_chunk i (end_of file) (length stored)) next a))
chunk_parent (Some e) i next stored file a = absurd (no_answer a)

-- ---- a call that writes a chunk

-- `write_strip` or `write_chunk`, if memory for the samples is available
abbrev pub StoresIfFound : (OpenImage → ℕ → List ℕ → WriteCall OpenImage) → Option TiffError
    → jobs.Drawn → List ℕ → Result StepReply TiffError
    → jobs.FileAndModel → jobs.FileAndModel → jobs.Drawn → Type 0
StoresIfFound call cause i samples r old new t =
    (t.samples ≡ jobs.samples_after r i samples)
    × (jobs.StoresBy call cause i.image samples r old new t.image
    ⊎ jobs.IsUnfound r i.image old new t.image)

-- a held image stays held with the chunk that a call stores
abbrev pub KeepsChunks : (OpenImage → ℕ → List ℕ → WriteCall OpenImage) → Type 0
KeepsChunks call =
    (file : FileState) (m : Model) (i next : OpenImage) (samples : List (List ℕ))
    (numbers stored : List ℕ)
    → RecordsImage file.kind m i samples → ((n : ℕ) → get_or numbers n 0 < 256 ^ i.size)
    → length numbers < 2 ^ 64 - 1
    → IsChunkStored i stored numbers → end_of file < 2 ^ 64 → length stored < 2 ^ 64
    → (call i (length numbers) stored file).answer ≡ Ok next
    → RecordsImage file.kind (model_by file m (call i (length numbers) stored file)) next (samples
    ++ numbers ∷ [])

-- Properties of a call that writes a chunk: it only appends, the directory of the image keeps its
-- parent, the file
-- contains the bytes, and a held image stays held with the chunk.
pub record IsStoring (call : OpenImage → ℕ → List ℕ → WriteCall OpenImage) : Type 0 where
  pub adds : (i : OpenImage) (n : ℕ) (stored : List ℕ) (file : FileState)
      → IsAdding (call i n stored file) file
  pub parent : (i next : OpenImage) (n : ℕ) (stored : List ℕ) (file : FileState)
      → (call i n stored file).answer ≡ Ok next
      → next.directory.parent ≡ i.directory.parent
  pub within : (i next : OpenImage) (n : ℕ) (stored : List ℕ) (file : FileState)
      → (call i n stored file).answer ≡ Ok next
      → length stored ≤ end_of (call i n stored file).next
  pub keeps : KeepsChunks call

-- a call that stores the bytes as a chunk, unless a check refuses them
stores_by : (cause : FileState → OpenImage → ℕ → ℕ → Option TiffError)
    → let call : OpenImage → ℕ → List ℕ → WriteCall OpenImage =
    λ i n stored file. by_cause (cause file i n (length stored)) (appends_chunk i stored) file in
    KeepsChunks call → IsStoring call
stores_by cause keeps = record {
  adds = λ i n stored file. adding _ file (stored_adds (cause file i n (length stored)) i stored file);
  parent =
      λ i next n stored file a. chunk_parent (cause file i n (length stored)) i next stored file a;
  within =
      λ i next n stored file a. chunk_within (cause file i n (length stored)) i next stored file a;
  keeps = keeps;
}

pub strips_store : IsStoring write_strip
unfolding write_strip
strips_store =
    stores_by write_strip_cause (λ file m i next samples numbers stored h s l is near short a.
    (chunks_keep_open file m i next samples numbers stored h s l is near short).1 a)

pub chunks_store : IsStoring write_chunk
unfolding write_chunk
chunks_store =
    stores_by write_chunk_cause (λ file m i next samples numbers stored h s l is near short a.
    (chunks_keep_open file m i next samples numbers stored h s l is near short).0 a)

module _ (call : OpenImage → ℕ → List ℕ → WriteCall OpenImage) (c : IsStoring call)
    (i j : OpenImage) (numbers : List ℕ) (new : FileState)
    (small : (n : ℕ) → get_or numbers n 0 < 256 ^ i.size) (few : length numbers < 2 ^ 64 - 1)
    (short : end_of new < 2 ^ 64) where
  -- from a `FileAndModel` and the samples before the call to a `FileAndModel` of the file after it
  -- and the
  -- samples with the chunk
  abbrev Stored : Option TiffError → Result (Unit {0}) TiffError → Bool → FileAndModel
      → List (List ℕ) → Type 0
  Stored cause r known s before =
      (t : FileAndModel) × ((after : List (List ℕ)) × ((t.file ≡ new)
      × (StoresIfFound call cause (record { image = i; samples = before }) numbers (reply_to r) s t (record { image = j; samples = after })
      × (StandsIfKnown known t × (Grows s.model t.model
      × (true ≡ true → RecordsImage s.file.kind s.model i before → RecordsImage s.file.kind t.model j after))))))

  -- the chunk is stored as the given bytes
  stored_so : (x : Unit {0}) (known : Bool) (s : FileAndModel) (before : List (List ℕ))
      (stored : List ℕ) → end_of s.file < 2 ^ 64
      → IsChunkStored i stored numbers
      → EndsAsDefined (call i (length numbers) stored s.file) (Ok j) new
      → (known ≡ true → FileContains s.file.kind new.bytes (model_by s.file s.model (call i (length numbers) stored s.file)))
      → Stored None (Ok x) known s before
  stored_so x known s before stored near is told stands =
      let does : WriteOutcome OpenImage = call i (length numbers) stored s.file in
      let m : Model = model_by s.file s.model does in
      let same : new.kind ≡ s.file.kind =
      ap (λ f. f.kind) (told.state ∙ (c.adds i (length numbers) stored s.file).next) in
      let end : end_of new ≡ end_of does.next = ap (λ f. end_of f) told.state in
      let within = c.within i j (length numbers) stored s.file told.answer in
      let less : length stored < 2 ^ 64 = omega (arith, within, end, short) in
      let grows = ops_grow s.file.kind s.file.bytes s.model does.ops in (
        record { file = new; model = m },
        (
          before ++ numbers ∷ [],
          (
            refl,
            (
              (refl, inl (stored, (is, record { ended = told; model = refl }))),
              (
                λ q. subst (λ kind. FileContains kind new.bytes m) (sym same) (stands q),
                (grows, λ _ h. c.keeps s.file s.model i j before numbers stored h small few is near less told.answer),
              ),
            ),
          ),
        ),
      )

  -- the call does nothing
  undone : (cause : Option TiffError) (r : Result (Unit {0}) TiffError) (known : Bool)
      (s : FileAndModel) (before : List (List ℕ)) → StandsIfKnown known s → new ≡ s.file → j ≡ i
      → StoresIfFound call cause (record { image = i; samples = before }) numbers (reply_to r) s s
      (record { image = j; samples = before })
      → Stored cause r known s before
  undone cause r known s before k q o said = (
    s,
    (
      before,
      (sym q, (said, (k, (grows_here s.model, λ _ h. subst (λ n. RecordsImage s.file.kind s.model n before) (sym o) h)))),
    ),
  )

  -- the call is refused, or the sink fails
  stopped : (e : TiffError) (known : Bool) (s : FileAndModel) (before : List (List ℕ))
      (stored : List ℕ) → j ≡ i
      → IsChunkStored i stored numbers
      → EndsAsDefined (call i (length numbers) stored s.file) (Err e) new
      ⊎ AppendFailed (call i (length numbers) stored s.file).ops e s.file new
      → (known ≡ true → FileContains s.file.kind new.bytes s.model)
      → Stored None (Err e) known s before
  stopped e known s before stored o is h stands =
      let does : WriteOutcome OpenImage = call i (length numbers) stored s.file in
      let t : FileAndModel = record { file = new; model = s.model } in
      let same : new.kind ≡ s.file.kind = elim h [
        | inl a ↦ ap (λ f. f.kind) (a.state ∙ (c.adds i (length numbers) stored s.file).next)
        | inr b ↦ ap (λ f. f.kind) b.state
      ] in
      let said : jobs.IsRefused does e s t ⊎ jobs.IsCutShort does e s t = elim h [
        | inl a ↦ inl (refl, a)
        | inr b ↦ inr (refl, b)
      ] in (
        t,
        (
          before,
          (
            refl,
            (
              (refl, inl (o, inr (stored, (is, said)))),
              (
                λ q. subst (λ kind. FileContains kind new.bytes s.model) (sym same) (stands q),
                (grows_here s.model, λ _ h. subst (λ n. RecordsImage s.file.kind s.model n before) (sym o) h),
              ),
            ),
          ),
        ),
      )

  -- if the model is known to describe the file, the stored bytes are those that the model describes
  stored_by : (x : Unit {0}) (known : Bool) (s : FileAndModel) (before : List (List ℕ))
      → StandsIfKnown known s → end_of s.file < 2 ^ 64
      → (let r : Result (Unit {0}) TiffError = Ok x in WritesStoredChunk call None i numbers r s.file new j
      → ((m : Model) → FileContains s.file.kind s.file.bytes m → LeavesChunk call i numbers r s.file new j m) → Stored None r known s before)
  stored_by x true s before k near w l =
      let a = l s.model (k refl) in stored_so x true s before a.0 near a.1.0 a.1.1.0 (λ _. a.1.1.1)
  stored_by x false s before k near w l =
      stored_so x false s before w.0 near w.1.0 w.1.1 (λ q. absurd cc)

  written : (cause : Option TiffError) (r : Result (Unit {0}) TiffError) (known : Bool)
      (s : FileAndModel) (before : List (List ℕ))
      → StandsIfKnown known s → end_of s.file < 2 ^ 64
      → WritesStoredChunk call cause i numbers r s.file new j
      → ((m : Model) → FileContains s.file.kind s.file.bytes m
      → LeavesChunk call i numbers r s.file new j m) → Stored cause r known s before
  written (Some e) r known s before k near w l =
      let said : reply_to r ≡ Err e = ap reply_to w.0 in
      undone (Some e) r known s before k w.1.1 w.1.0
      (sym (ap (λ y. jobs.samples_after y (record { image = i; samples = before }) numbers) said), inl (said, (w.1.0, refl)))
  written None (Ok x) known s before k near w l = stored_by x known s before k near w l
  written None (Err e) known s before k near w l =
      elim w.1 as (λ _. Stored None (Err e) known s before) [
        | inl z ↦ undone None (Err e) known s before k z.1 w.0 (refl, inl (w.0, inl (z.0, refl)))
        | inr y ↦ stopped e known s before y.0 w.0 y.1.0 y.1.1 (λ q. l s.model (k q))
      ]

-- a chunk of samples, if memory for them is available
abbrev StoresAll : (OpenImage → ℕ → List ℕ → WriteCall OpenImage)
    → (FileState → OpenImage → ℕ → Option TiffError) → List ℕ
    → Result StepReply TiffError → FileAndModel → Drawn → FileAndModel → Drawn → Type 0
StoresAll call cause numbers r s before t after =
    StoresIfFound call (cause s.file before.image (length numbers)) before numbers r s t after

-- a chunk of the lowest bits of numbers, if memory for them is available
abbrev pub StoresCut : (OpenImage → ℕ → List ℕ → WriteCall OpenImage)
    → (FileState → OpenImage → ℕ → Option TiffError) → List ℕ
    → Result StepReply TiffError → FileAndModel → Drawn → FileAndModel → Drawn → Type 0
StoresCut call cause given r s before t after =
    StoresAll call cause (cut_to before.image.size given) r s before t after

-- what a call that writes a chunk does from each `FileAndModel` of the file
storing_draws : (call : OpenImage → ℕ → List ℕ → WriteCall OpenImage)
    (cause : FileState → OpenImage → ℕ → Option TiffError) → IsStoring call
    → (i j : OpenImage) (numbers : List ℕ) (r : Result (Unit {0}) TiffError) (old new : FileState)
    → ((n : ℕ) → get_or numbers n 0 < 256 ^ i.size) → length numbers < 2 ^ 64 - 1
    → end_of old < 2 ^ 64 → end_of new < 2 ^ 64
    → WritesStoredChunk call (cause old i (length numbers)) i numbers r old new j
    → ((m : Model) → FileContains old.kind old.bytes m → LeavesChunk call i numbers r old new j m)
    → DrawMoves i (StoresAll call cause numbers (reply_to r)) true old new j
storing_draws call cause c i j numbers r old new small few near short w l known s before q k =
    let P : FileState → Type 0 =
    λ old. end_of old < 2 ^ 64 → WritesStoredChunk call (cause old i (length numbers)) i numbers r old new j
    → ((m : Model) → FileContains old.kind old.bytes m → LeavesChunk call i numbers r old new j m)
    → Stored call c i j numbers new small few short (cause s.file i (length numbers)) r known s before in
    subst P q (λ near w l. written call c i j numbers new small few short (cause s.file i (length numbers)) r known s before k near w l) near w l

-- ---- the lowest bits of numbers

module _ (size : ℕ) (given numbers : List ℕ) (cut : cut_to size given ≡ numbers) where
  -- the cut samples fit their number of bytes
  cut_small : (k : ℕ) → get_or numbers k 0 < 256 ^ size
  cut_small k =
      let same : ℕ → ℕ = λ n. n in
      subst (λ xs. get_or xs k 0 < 256 ^ size) cut (are_numbers size same given k)

  -- the number of cut samples stays below the limit of the given ones
  cut_few : length given < 2 ^ 64 - 1 → length numbers < 2 ^ 64 - 1
  cut_few l =
      let same : length numbers ≡ length given =
      ap (λ xs. length xs) (sym cut) ∙ length-map given (λ n. n % 256 ^ size) in
      subst (λ k. k < 2 ^ 64 - 1) (sym same) l

-- `write_strip` or `write_chunk` of cut samples
pub cut_draws : (call : OpenImage → ℕ → List ℕ → WriteCall OpenImage)
    (cause : FileState → OpenImage → ℕ → Option TiffError) → IsStoring call
    → (i j : OpenImage) (given numbers : List ℕ) (n : ℕ) (r : Result (Unit {0}) TiffError)
    (old new : FileState) → cut_to i.size given ≡ numbers
    → n ≡ length numbers → length given < 2 ^ 64 - 1 → end_of old < 2 ^ 64 → end_of new < 2 ^ 64
    → WritesStoredChunk call (cause old i n) i numbers r old new j
    → ((m : Model) → FileContains old.kind old.bytes m → LeavesChunk call i numbers r old new j m)
    → DrawMoves i (StoresCut call cause given (reply_to r)) true old new j
cut_draws call cause c i j given numbers n r old new cut count few near short w l =
    let P : List ℕ → Type 0 =
    λ xs. DrawMoves i (λ s before t after. StoresIfFound call (cause s.file i (length xs)) before xs (reply_to r) s t after) true old new j in
    subst P (sym cut)
    (storing_draws call cause c i j numbers r old new (cut_small i.size given numbers cut) (cut_few i.size given numbers cut few) near short
    (subst (λ k. WritesStoredChunk call (cause old i k) i numbers r old new j) count w) l)

-- no memory is available for the cut samples
pub unfound_draws : (call : OpenImage → ℕ → List ℕ → WriteCall OpenImage)
    (cause : FileState → OpenImage → ℕ → Option TiffError) (i : OpenImage)
    (given : List ℕ) (e : TiffError) (file : FileState) → e ≡ OutOfMemory
    → DrawMoves i (StoresCut call cause given (Err e)) true file file i
unfound_draws call cause i given e file short =
    asked i (StoresCut call cause given (Err e)) true file (λ s before. (refl, inr (ap Err short, (refl, refl))))
