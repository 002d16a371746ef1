-- How calls write strips and chunks of an open image, and what they leave in the file.
use Rattle.std.proofs.Common.{◌≡◌, ℕ, ◌^◌, ◌<◌, List, length, Option, None, Some, IsSome, Result, Ok, Err, cond, refl, ap, sym, ◌∙◌, inl, inr, subst}
use Rattle.tiff_base.specs.declared.color.ChunkType.TheVariants.{Strip, Tile}
use Rattle.tiff_base.specs.declared.error.TiffError.{TiffError}
use Rattle.tiff_base.specs.declared.error.TiffError.TheVariants.{UsageError}
use Rattle.tiff_base.specs.declared.error.UsageError.TheVariants.{InvalidChunkType, WriterFailed}
use Rattle.tiff_base.specs.Field.{AreEntries}
use Rattle.tiff_value.specs.Model.{Model, FileContains}
use Rattle.tiff_encode.specs.Machine.{FileState, OpenImage, WriteOutcome, WriteCall, by_cause}
use Rattle.tiff_encode.specs.Chunks.{is_tile}
use Rattle.tiff_encode.specs.Causes.{unless_failed, end_of, chunk_cause, write_chunk_cause, write_strip_cause}
use Rattle.tiff_encode.specs.Calls.{appends_chunk, write_chunk, write_strip}
use Rattle.tiff_encode.specs.Ends.{EndsAsDefined, AppendFailed, CallFails}
use Rattle.tiff_encode.specs.CallLaws.{CallFits}
use Rattle.tiff_encode.specs.ImageData.{LeavesChunk}
use Rattle.tiff_encode.specs.Storing.{WritesStoredChunk}
use Rattle.tiff_encode.proofs.Calling.{stopped_cause, fresh_cause}
use Rattle.tiff_encode.proofs.Image.Fits.{chunks_fit}
use Rattle.tiff_encode.proofs.Joining.{IsAdding, adding, stored_adds}
use Rattle.tiff_encode.proofs.Keeping.{left_so}

-- ---- a strip is written as a chunk

-- one call in place of another that has the same outcome
module _ {A : Type 0} (call other : OpenImage → ℕ → List ℕ → WriteCall OpenImage) (i : OpenImage)
    (samples : List ℕ) (old new : FileState) (next : OpenImage)
    (same : (stored : List ℕ) → call i (length samples) stored old ≡ other i (length samples) stored old) where
  writes_alike : (cause : Option TiffError) (r : Result A TiffError)
      → WritesStoredChunk call cause i samples r old new next
      → WritesStoredChunk other cause i samples r old new next
  writes_alike (Some c) r h = h
  writes_alike None (Ok x) h =
      (h.0, (h.1.0, subst (λ t. EndsAsDefined t (Ok next) new) (same h.0) h.1.1))
  writes_alike None (Err e) h = (
    h.0,
    elim h.1 [
      | inl z ↦ inl z
      | inr s ↦ inr (
        s.0,
        (
          s.1.0,
          elim s.1.1 [
            | inl t ↦ inl (subst (λ t. EndsAsDefined t (Err e) new) (same s.0) t)
            | inr c ↦ inr (subst (λ (t : WriteOutcome OpenImage). AppendFailed t.ops e old new) (same s.0) c)
          ],
        ),
      )
    ],
  )

module _ (old : FileState) (i : OpenImage) where
  -- the errors that refuse a strip are the errors that refuse a chunk
  as_chunk : (n stored : ℕ) → i.form.chunk_type ≡ Strip
      → write_chunk_cause old i n stored ≡ write_strip_cause old i n stored
  unfolding write_chunk_cause write_strip_cause
  as_chunk n stored s =
      ap (λ t. unless_failed old (cond (is_tile t) (Some (UsageError (InvalidChunkType Strip Tile))) (chunk_cause old i n stored))) (sym s)

  -- the outcome of writing a strip is the outcome of writing a chunk
  told_as_chunk : (n : ℕ) (stored : List ℕ) → i.form.chunk_type ≡ Strip
      → write_chunk i n stored old ≡ write_strip i n stored old
  unfolding write_chunk write_strip
  told_as_chunk n stored s =
      ap (λ c. by_cause c (appends_chunk i stored) old) (as_chunk n (length stored) s)

  module _ (samples : List ℕ) (n : ℕ) where
    abbrev Written : Option TiffError → Result (Unit {0}) TiffError → FileState → OpenImage → Type 0
    Written cause r new next = WritesStoredChunk write_strip cause i samples r old new next

    pub strip_written : (r : Result (Unit {0}) TiffError) (new : FileState) (next : OpenImage)
        → i.form.chunk_type ≡ Strip
        → WritesStoredChunk write_chunk (write_chunk_cause old i n 0) i samples r old new next
        → Written (write_strip_cause old i n 0) r new next
    strip_written r new next s h =
        writes_alike write_chunk write_strip i samples old new next (λ stored. told_as_chunk (length samples) stored s) (write_strip_cause old i n 0) r
        (subst (λ c. WritesStoredChunk write_chunk c i samples r old new next) (as_chunk n 0 s) h)

    refused_so : (e : TiffError) → write_strip_cause old i n 0 ≡ Some e
        → Written (write_strip_cause old i n 0) (Err e) old i
    refused_so e c = subst (λ x. Written x (Err e) old i) (sym c) (refl, (refl, refl))

    pub strip_stopped : (e : TiffError) → IsSome old.fault → e ≡ UsageError WriterFailed
        → Written (write_strip_cause old i n 0) (Err e) old i
    unfolding write_strip_cause
    strip_stopped e s q = refused_so e (stopped_cause old.fault _ s ∙ ap Some (sym q))

    pub strip_of_tiles : old.fault ≡ None → i.form.chunk_type ≡ Tile
        → Written (write_strip_cause old i n 0) (Err (UsageError (InvalidChunkType Strip Tile))) old i
    unfolding write_strip_cause
    strip_of_tiles f t =
        refused_so (UsageError (InvalidChunkType Strip Tile))
        (fresh_cause old.fault _ f ∙ ap (λ t. cond (is_tile t) (Some (UsageError (InvalidChunkType Strip Tile))) (chunk_cause old i n 0)) t)

-- ---- what the calls leave

pub strip_adding : (i : OpenImage) (count : ℕ) (stored : List ℕ) (file : FileState)
    → IsAdding (write_strip i count stored file) file
unfolding write_strip
strip_adding i count stored file =
    adding (write_strip i count stored file) file (stored_adds (write_strip_cause file i count (length stored)) i stored file)

module _ (call : OpenImage → ℕ → List ℕ → WriteCall OpenImage) (i : OpenImage) (samples : List ℕ)
    (old new : FileState) (next : OpenImage) (m : Model)
    (adds : (stored : List ℕ) → IsAdding (call i (length samples) stored old) old)
    (fits : (stored : List ℕ) → CallFits (λ i. call i (length samples) stored))
    (entries : AreEntries i.directory.fields) (short : end_of new < 2 ^ 64)
    (s : FileContains old.kind old.bytes m) where
  left_by : {A : Type 0} (cause : Option TiffError) (r : Result A TiffError)
      → WritesStoredChunk call cause i samples r old new next
      → LeavesChunk call i samples r old new next m
  left_by (Some c) (Ok x) h = absurd cc
  left_by (Some c) (Err e) h = subst (λ f. FileContains old.kind f.bytes m) (sym h.1.1) s
  left_by None (Ok x) h =
      let stored : List ℕ = h.0 in
      let t : EndsAsDefined (call i (length samples) stored old) (Ok next) new = h.1.1 in
      let view : OpenImage → OpenImage = λ j. j in
      let r : Result OpenImage TiffError = Ok next in (
        stored,
        (
          h.1.0,
          (
            t,
            left_so view (call i (length samples) stored old) r old new m (adds stored)
                (λ x q. (fits stored old m i next entries t.answer (subst (λ f. end_of f < 2 ^ 64) t.state short)).0) s t,
          ),
        ),
      )
  left_by None (Err e) h =
      elim h.1 as (λ _. FileContains old.kind new.bytes m) [
        | inl z ↦ subst (λ f. FileContains old.kind f.bytes m) (sym z.1) s
        | inr w ↦ (let view : OpenImage → OpenImage = λ j. j in
            let r : Result OpenImage TiffError = Err e in
            let told : WriteOutcome OpenImage = call i (length samples) w.0 old in
            left_so view told r old new m (adds w.0) (λ x q. absurd cc) s
            (elim w.1.1 as (λ _. CallFails told e old new) [
              | inl t ↦ inl t
              | inr c ↦ inr (inl c)
            ]))
      ]

-- what a call leaves that writes a chunk or a strip
module _ {A : Type 0} (i : OpenImage) (samples : List ℕ) (old new : FileState) (next : OpenImage)
    (m : Model) (cause : Option TiffError) (r : Result A TiffError)
    (entries : AreEntries i.directory.fields) (short : end_of new < 2 ^ 64)
    (s : FileContains old.kind old.bytes m) where
  pub chunk_left : WritesStoredChunk write_chunk cause i samples r old new next
      → LeavesChunk write_chunk i samples r old new next m
  unfolding write_chunk
  chunk_left h =
      left_by write_chunk i samples old new next m
      (λ stored. adding (write_chunk i (length samples) stored old) old (stored_adds (write_chunk_cause old i (length samples) (length stored)) i stored old))
      (λ stored. (chunks_fit (length samples) stored).1) entries short s cause r h

  pub strip_left : WritesStoredChunk write_strip cause i samples r old new next
      → LeavesChunk write_strip i samples r old new next m
  unfolding write_strip
  strip_left h =
      left_by write_strip i samples old new next m
      (λ stored. strip_adding i (length samples) stored old)
      (λ stored. (chunks_fit (length samples) stored).0) entries short s cause r h
