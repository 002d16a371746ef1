-- What the file contains after a call writes the samples of an image, or fails to write them.
use Rattle.std.proofs.Common.{◌≡◌, ℕ, ◌+◌, ◌^◌, ◌<◌, ◌≤◌, ◌⊎◌, List, [], ◌∷◌, ◌++◌, length, take, Option, Some, None, Result, Ok, Err, refl, ap, sym, ◌∙◌, inl, inr, subst, arith}
use Rattle.std.proofs.Math.Seq.{take-length}
use Rattle.std.proofs.lemmas.List.{length-append, length-take}
use Rattle.tiff_base.specs.declared.error.TiffError.{TiffError}
use Rattle.tiff_base.specs.Field.{AreEntries}
use Rattle.tiff_base.specs.Number.{le}
use Rattle.tiff_base.specs.SourceAndSink.{put}
use Rattle.tiff_value.specs.FileBytes.{offset_len}
use Rattle.tiff_value.specs.Model.{Model, IsLink, FileContains}
use Rattle.tiff_value.specs.WriteOps.{Linked, bytes_after, all_appended}
use Rattle.tiff_value.specs.FileLaws.{AreAppending, OpsFit}
use Rattle.tiff_encode.specs.Machine.{FileState, OpenImage, WriteOutcome}
use Rattle.tiff_encode.specs.Chunks.{parts_left}
use Rattle.tiff_encode.specs.Causes.{end_of, write_image_data_cause}
use Rattle.tiff_encode.specs.Calls.{Offsets, write_chunks, write_image_data}
use Rattle.tiff_encode.specs.Ends.{EndsAsDefined, LinkWriteFailed, CallFails}
use Rattle.tiff_encode.specs.Leaves.{LeavesTorn}
use Rattle.tiff_encode.specs.Stored.{AreStored}
use Rattle.tiff_encode.specs.Open.{model_by}
use Rattle.tiff_encode.specs.ImageData.{StopsWithin, WritesDataBy, WritesImageData, IsShortFile}
use Rattle.tiff_base.specs.lemmas.Slices.{length_put, length-le}
use Rattle.tiff_value.specs.lemmas.File.WriteOps.{bytes_joined, ops_append, ops_stand}
use Rattle.tiff_encode.proofs.Leaving.{ok_err, count_last, appending, begun_leaves, torn_as}
use Rattle.tiff_encode.proofs.Joining.{ends_torn}
use Rattle.tiff_encode.proofs.Image.FitsCalls.{IsDone, Fits}
use Rattle.tiff_encode.proofs.Data.Calls.{AreAt, Patches, last_at}
use Rattle.tiff_encode.proofs.Image.FitsCalls.{adding_done}
use Rattle.tiff_encode.proofs.Data.Chunks.{chunks_adding, data_patches, data_fits}

-- ---- calls that fail

-- each model that describes a file describes a later file
abbrev pub StillStands : FileState → FileState → Type 0
StillStands old new =
    (m : Model) → FileContains old.kind old.bytes m → FileContains old.kind new.bytes m

-- after an append, each model that describes the file before describes the file after it
pub appended_stands : {A : Type 0} (told : WriteOutcome A) (old new : FileState) → IsDone told old
    → AreAppending told.ops → new ≡ told.next
    → StillStands old new
appended_stands told old new d a n m s =
    let all : List ℕ = all_appended old.kind told.ops in
    begun_leaves told.ops (length all) old new.bytes m
    (ap (λ file. file.bytes) n ∙ d.bytes ∙ ops_append old.kind old.bytes told.ops a
    ∙ ap (λ xs. old.bytes ++ xs) (sym (take-length all))) s

-- after a call fails, the earlier model describes the file, or the sink fails at the parent's link
pub patched_fails : {A : Type 0} (parent : Option ℕ) (told : WriteOutcome A) (e : TiffError)
    (old new : FileState) → Patches parent told old
    → CallFails told e old new → StillStands old new ⊎ LinkWriteFailed told.ops e old new
patched_fails parent told e old new p h =
    elim h as (λ _. StillStands old new ⊎ LinkWriteFailed told.ops e old new) [
      | inl t ↦ inl (appended_stands told old new p.done (p.refused e t.answer) t.state)
      | inr h ↦ elim h [
        | inl c ↦ inl (λ m s. begun_leaves told.ops c.count old new.bytes m (ap (λ f. f.bytes) c.state) s)
        | inr h ↦ elim h [
          | inl t ↦ inr t
          | inr c ↦ inl (λ m s. begun_leaves told.ops c.count old new.bytes m (ap (λ f. f.bytes) c.state) s)
        ]
      ]
    ]

-- the sink fails while it writes the parent's link
module _ {A : Type 0} (parent : Option ℕ) (told : WriteOutcome A) (e : TiffError)
    (old new : FileState) (m : Model) (p : Patches parent told old)
    (f : Fits told old m (λ _. Unit {0})) (l : (offset : ℕ) → parent ≡ Some offset → IsLink old.kind m offset) (short : IsShortFile new)
    (s : FileContains old.kind old.bytes m) (t : LinkWriteFailed told.ops e old new) where
  -- the changes before the parent's link append
  torn_before : AreAppending t.before
  torn_before =
      let few = p.links in
      appending t.before (omega (arith, few, count_last told.ops t.before t.offset t.target t.last))

  -- without the failure of the sink, the length of the file is a 64-bit number
  torn_short : end_of told.next < 2 ^ 64
  torn_short =
      let n : ℕ = offset_len old.kind in
      let whole : List ℕ = le n t.target in
      let file : List ℕ = old.bytes ++ all_appended old.kind t.before in
      let at : parent ≡ Some t.offset =
      last_at parent t.before t.offset t.target (subst (λ ds. AreAt parent ds) t.last p.at) in
      let within = (s.apart t.offset (l t.offset at)).within in
      let room : t.offset + n ≤ length file =
      omega (arith, within, length-append old.bytes (all_appended old.kind t.before)) in
      let many : length whole ≡ n = length-le 0 n t.target in
      let done : told.next.bytes ≡ put file t.offset whole =
      p.done.bytes ∙ ap (bytes_after old.kind old.bytes) t.last
      ∙ bytes_joined old.kind old.bytes t.before (Linked t.offset t.target ∷ [])
      ∙ ap (λ xs. put xs t.offset whole) (ops_append old.kind old.bytes t.before torn_before) in
      let one : length told.next.bytes ≡ length file =
      ap (λ xs. length xs) done ∙ length_put file t.offset whole (omega (arith, room, many)) in
      let other : length new.bytes ≡ length file =
      ap (λ state. length state.bytes) t.state
      ∙ length_put file t.offset (take t.count whole) (omega (arith, room, many, length-take t.count whole)) in
      omega (arith, short, one, other)

  torn_fits : (r : Result A TiffError) → told.answer ≡ r → OpsFit old.kind old.bytes m told.ops
  torn_fits (Ok x) h = (f x h torn_short).0
  torn_fits (Err g) h =
      absurd (ends_torn t.before t.offset t.target (subst (λ ds. AreAppending ds) t.last (p.refused g h)))

  pub patched_torn : LeavesTorn told e old new m
  patched_torn = torn_as told e old new m (torn_fits told.answer refl) s t torn_before

-- after a call succeeds, the model with its changes describes the file
pub patched_stands : {A : Type 0} (parent : Option ℕ) (told : WriteOutcome A) (x : A)
    (old new : FileState) (m : Model) → Patches parent told old
    → Fits told old m (λ _. Unit {0}) → IsShortFile new → FileContains old.kind old.bytes m
    → EndsAsDefined told (Ok x) new
    → FileContains old.kind new.bytes (model_by old m told)
patched_stands parent told x old new m p f short s t =
    let fit = f x t.answer (subst (λ file. end_of file < 2 ^ 64) t.state short) in
    subst (λ b. FileContains old.kind b (model_by old m told)) (sym (ap (λ file. file.bytes) t.state
    ∙ p.done.bytes))
    (ops_stand old.kind old.bytes m told.ops s fit.0)

-- ---- `write_data`

-- the earlier model describes the file, or the sink fails at the parent's link
abbrev pub Stopped : OpenImage → List ℕ → TiffError → FileState → FileState → Type 0
Stopped i samples e old new =
    StillStands old new ⊎ ((stored : List (List ℕ))
    × LinkWriteFailed (write_image_data i samples stored old).ops e old new)

-- if `write_data` stops within the chunks, the earlier model describes the file
pub within_stands : (i : OpenImage) (parts : List (List ℕ)) (e : TiffError) (old new : FileState)
    → StopsWithin i parts e old new → StillStands old new
within_stands i parts e old new h =
    let stored : List (List ℕ) = h.0 in
    let told : WriteOutcome OpenImage = write_chunks i parts stored old in
    let a = chunks_adding i parts stored old in
    elim h.1.1 as (λ _. StillStands old new) [
      | inl t ↦ appended_stands told old new (adding_done told old a) a.appending t.state
      | inr x ↦ elim x [
        | inl c ↦ λ m s. begun_leaves told.ops c.count old new.bytes m (ap (λ f. f.bytes) c.state) s
        | inr c ↦ λ m s. let d =
            c.1 in begun_leaves told.ops d.count old new.bytes m (ap (λ f. f.bytes) d.state) s
      ]
    ]

stopped_by : (A : Type 0) (cause : Option TiffError) (i : OpenImage) (samples : List ℕ)
    (e : TiffError) (old new : FileState)
    → (let r : Result A TiffError = Err e in WritesDataBy cause i samples r old new)
    → Stopped i samples e old new
stopped_by A (Some c) i samples e old new h =
    inl (λ m s. subst (λ b. FileContains old.kind b m) (sym (ap (λ f. f.bytes) h.1)) s)
stopped_by A None i samples e old new h =
    elim h as (λ _. Stopped i samples e old new) [
      | inl w ↦ (let told : WriteOutcome Offsets = write_image_data i samples w.0 old in
          elim (patched_fails i.directory.parent told e old new (data_patches i samples w.0 old) w.1.1.1) as (λ _. Stopped i samples e old new) [
            | inl x ↦ inl x
            | inr t ↦ inr (w.0, t)
          ])
      | inr w ↦ inl (within_stands i (parts_left i samples) e old new w)
    ]

-- `write_data` fails
pub data_stopped : (A : Type 0) (i : OpenImage) (samples : List ℕ) (e : TiffError) (old new : FileState)
    → (let r : Result A TiffError = Err e in WritesImageData i samples r old new)
    → Stopped i samples e old new
data_stopped A i samples e old new h =
    stopped_by A (write_image_data_cause old i (length samples)) i samples e old new h

pub data_torn : (i : OpenImage) (samples : List ℕ) (stored : List (List ℕ)) (e : TiffError)
    (old new : FileState) (m : Model)
    → AreEntries i.directory.fields → IsShortFile new → FileContains old.kind old.bytes m
    → ((offset : ℕ) → i.directory.parent ≡ Some offset → IsLink old.kind m offset)
    → LinkWriteFailed (write_image_data i samples stored old).ops e old new
    → LeavesTorn (write_image_data i samples stored old) e old new m
data_torn i samples stored e old new m a short s p t =
    patched_torn i.directory.parent (write_image_data i samples stored old) e old new m
    (data_patches i samples stored old) (data_fits i samples stored old m a p) p short s t

-- `write_data` succeeds: it stores each chunk that is left.
pub record IsWritten (i : OpenImage) (samples : List ℕ) (old new : FileState) : Type 0 where
  pub stored : List (List ℕ)
  pub are_stored : AreStored i (parts_left i samples) stored
  pub all : length stored ≡ length (parts_left i samples)
  pub offsets : Offsets
  pub told : EndsAsDefined (write_image_data i samples stored old) (Ok offsets) new
  pub uncaused : write_image_data_cause old i (length samples) ≡ None

written_by : (A : Type 0) (cause : Option TiffError) (i : OpenImage) (samples : List ℕ) (x : A)
    (old new : FileState)
    → write_image_data_cause old i (length samples) ≡ cause
    → (let r : Result A TiffError = Ok x in WritesDataBy cause i samples r old new)
    → IsWritten i samples old new
written_by A (Some c) i samples x old new q h = absurd (ok_err h.0)
written_by A None i samples x old new q h =
    elim h as (λ _. IsWritten i samples old new) [
      | inl w ↦ record {
        stored = w.0;
        are_stored = w.1.0;
        all = w.1.1.0;
        offsets = w.1.1.1.0;
        told = w.1.1.1.1;
        uncaused = q;
      }
      | inr w ↦ absurd w
    ]

pub data_written : (A : Type 0) (i : OpenImage) (samples : List ℕ) (x : A) (old new : FileState)
    → (let r : Result A TiffError = Ok x in WritesImageData i samples r old new)
    → IsWritten i samples old new
data_written A i samples x old new h =
    written_by A (write_image_data_cause old i (length samples)) i samples x old new refl h

pub data_stands : (i : OpenImage) (samples : List ℕ) (stored : List (List ℕ)) (offsets : Offsets)
    (old new : FileState) (m : Model)
    → AreEntries i.directory.fields → IsShortFile new → FileContains old.kind old.bytes m
    → ((offset : ℕ) → i.directory.parent ≡ Some offset → IsLink old.kind m offset)
    → EndsAsDefined (write_image_data i samples stored old) (Ok offsets) new
    → FileContains old.kind new.bytes (model_by old m (write_image_data i samples stored old))
data_stands i samples stored offsets old new m a short s p t =
    patched_stands i.directory.parent (write_image_data i samples stored old) offsets old new m
    (data_patches i samples stored old) (data_fits i samples stored old m a p) short s t
