-- Lists of jobs: the reply to each step of each job, and what the file contains after it (this
-- project's).
use Rattle.std.specs.Prelude.{◌≡◌, ℕ, ◌<◌, ◌⊎◌, ◌&&◌, Bool, true, false, not, List, [], ◌∷◌, ◌++◌, length, take, drop, slice_get, if◌then◌else◌, Option, Some, None, Result, Ok, Err}
use Rattle.std.specs.FinMap.{entries}
use Rattle.std.specs.List.{list_any}
use Rattle.tiff_base.specs.declared.error.TiffError.{TiffError}
use Rattle.tiff_base.specs.declared.error.TiffError.TheVariants.{UsageError, OutOfMemory}
use Rattle.tiff_base.specs.declared.error.UsageError.TheVariants.{ParentNotWritten}
use Rattle.tiff_base.specs.declared.io.SinkFault.{SinkFault}
use Rattle.tiff_base.specs.declared.tags.FileKind.{FileKind}
use Rattle.tiff_base.specs.declared.tags.ResolutionUnit.{ResolutionUnit}
use Rattle.tiff_base.specs.declared.tags.Tag.{Tag}
use Rattle.tiff_base.specs.Field.{Field}
use Rattle.tiff_base.specs.Tags.{tag_number}
use Rattle.tiff_value.specs.ColorTypes.{color_type, inner_size}
use Rattle.tiff_value.specs.Data.{Scalars}
use Rattle.tiff_encode.specs.declared.encoder.script.DirectoryStep.{DirectoryStep}
use Rattle.tiff_encode.specs.declared.encoder.script.DirectoryStep.TheVariants as step
use Rattle.tiff_encode.specs.declared.encoder.script.ImageStep.{ImageStep}
use Rattle.tiff_encode.specs.declared.encoder.script.ImageStep.TheVariants as istep
use Rattle.tiff_encode.specs.declared.encoder.script.DirectoryEnd.{DirectoryEnd}
use Rattle.tiff_encode.specs.declared.encoder.script.DirectoryEnd.TheVariants as end
use Rattle.tiff_encode.specs.declared.encoder.script.ImageEnd.{ImageEnd}
use Rattle.tiff_encode.specs.declared.encoder.script.ImageEnd.TheVariants as iend
use Rattle.tiff_encode.specs.declared.encoder.script.DirectoryJob.{DirectoryJob}
use Rattle.tiff_encode.specs.declared.encoder.script.ImageJob.{ImageJob}
use Rattle.tiff_encode.specs.declared.encoder.script.Job.{Job}
use Rattle.tiff_encode.specs.declared.encoder.script.Job.TheVariants as job
use Rattle.tiff_encode.specs.declared.encoder.script.StepReply.{StepReply}
use Rattle.tiff_encode.specs.declared.encoder.script.StepReply.TheVariants as reply
use Rattle.tiff_encode.specs.declared.encoder.script.EndReply.{EndReply}
use Rattle.tiff_encode.specs.declared.encoder.script.EndReply.TheVariants as last
use Rattle.tiff_encode.specs.declared.encoder.script.JobReply.{JobReply}
use Rattle.tiff_value.specs.Model.{Model, In, FileContains, header_model, with_link}
use Rattle.tiff_encode.specs.Shows.{Image, Shows}
use Rattle.tiff_encode.specs.Encoder.{HeaderFails}
use Rattle.tiff_value.specs.WriteOps.{model_after}
use Rattle.tiff_encode.specs.Machine.{FileState, OpenDirectory, OpenImage, WriteOutcome, WriteCall, begun_file}
use Rattle.tiff_encode.specs.Chunks.{is_left, next_chunk_sample_count, next_strip_sample_count, parts_left}
use Rattle.tiff_encode.specs.Causes.{resolution_cause, write_chunk_cause, write_strip_cause, write_image_data_cause}
use Rattle.tiff_encode.specs.Calls as calls
use Rattle.tiff_encode.specs.Calls.{Offsets}
use Rattle.tiff_encode.specs.Ends.{EndsAsDefined, AppendFailed, LinkWriteFailed, IsShortOfMemory}
use Rattle.tiff_encode.specs.Stored.{AreStored, IsChunkStored}
pub use Rattle.tiff_page.specs.Checks.{page_tag_numbers, is_page_tag}
pub use Rattle.tiff_encode.specs.Held.{image_with}
use Rattle.tiff_encode.specs.JobValues.{value_data, buffer_in, cut_to}

-- a file, and the model of what it contains
pub record FileAndModel : Type 0 where
  pub file : FileState
  pub model : Model

-- The call has the specified result, and the model has all its writes.
pub record IsDone {A : Type 0} (told : WriteOutcome A) (r : Result A TiffError)
    (old new : FileAndModel) : Type 0 where
  pub ended : EndsAsDefined told r new.file
  pub model : new.model ≡ model_after old.file.kind old.file.bytes old.model told.ops

-- The sink failed while a link was overwritten: the link has some number, and the model has all
-- writes before it, also the directory, with link 0.
pub record IsTornAway {A : Type 0} (told : WriteOutcome A) (e : TiffError) (old new : FileAndModel)
    : Type 0 where
  pub torn : LinkWriteFailed told.ops e old.file new.file
  pub holds : ℕ
  pub model : new.model ≡ with_link old.file.kind
      (model_after old.file.kind old.file.bytes old.model torn.before) torn.offset holds

-- The sink failed while the call appended: the model doesn't change.
abbrev pub IsCutShort : {A : Type 0} → WriteOutcome A → TiffError → FileAndModel → FileAndModel
    → Type 0
IsCutShort told e old new = (new.model ≡ old.model) × AppendFailed told.ops e old.file new.file

-- The encoder is out of memory: the model doesn't change.
abbrev pub IsWithoutMemory : {A : Type 0} → WriteOutcome A → TiffError → FileAndModel → FileAndModel
    → Type 0
IsWithoutMemory told e old new = (new.model ≡ old.model) × IsShortOfMemory told e old.file new.file

-- The call returns the specified error: the model doesn't change.
abbrev pub IsRefused : {A : Type 0} → WriteOutcome A → TiffError → FileAndModel → FileAndModel
    → Type 0
IsRefused told e old new = (new.model ≡ old.model) × EndsAsDefined told (Err e) new.file

-- The call returns an error: the specified one, or that of the sink, or `OutOfMemory`.
abbrev pub Refuses : {A : Type 0} → WriteOutcome A → TiffError → FileAndModel → FileAndModel
    → Type 0
Refuses told e old new =
    IsRefused told e old new
    ⊎ (IsTornAway told e old new ⊎ (IsCutShort told e old new ⊎ IsWithoutMemory told e old new))

-- The open directory or image doesn't change, as after each call that borrows it and returns an
-- error.
abbrev pub Stays : {S : Type 0} → S → S → Type 0
Stays s t = t ≡ s

-- There is no memory, and the call does nothing.
abbrev pub IsNotCalled : TiffError → FileAndModel → FileAndModel → Type 0
IsNotCalled e old new = (e ≡ OutOfMemory) × (new ≡ old)

-- ---- steps: the open directory or image before and after a step

-- a call that returns the changed directory or image; the reply is `Nothing`
abbrev pub Changes : {S : Type 0} → WriteCall S → S → Result StepReply TiffError → FileAndModel
    → FileAndModel → S → Type 0
Changes call s (Ok reply.Nothing) old new t = IsDone (call old.file) (Ok t) old new
Changes call s (Ok _) old new t = ⊥
Changes call s (Err e) old new t = Stays s t × Refuses (call old.file) e old new

-- a call that doesn't change the open directory or image; the reply is the result of the call
abbrev pub Replies : {S A : Type 0} → (A → StepReply) → WriteCall A → S → Result StepReply TiffError
    → FileAndModel → FileAndModel → S → Type 0
Replies {A = A} view call s (Ok r) old new t = Stays s t
    × ((x : A) × ((r ≡ view x) × IsDone (call old.file) (Ok x) old new))
Replies view call s (Err e) old new t = Stays s t × Refuses (call old.file) e old new

-- fields that a directory takes from another one; after `OutOfMemory` it has the first of them
abbrev pub ExtendStep : List (ℕ × Field) → OpenDirectory → Result StepReply TiffError → FileAndModel
    → FileAndModel → OpenDirectory → Type 0
ExtendStep fields d (Ok reply.Nothing) old new e = (e ≡ calls.extend_from d fields) × (new ≡ old)
ExtendStep fields d (Ok _) old new e = ⊥
ExtendStep fields d (Err fault) old new e = (fault ≡ OutOfMemory)
    × ((k : ℕ) × ((e ≡ calls.extend_from d (take k fields)) × (new ≡ old)))

-- one step of a directory
abbrev pub DirectoryStepped : FileAndModel → OpenDirectory → DirectoryStep
    → Result StepReply TiffError → FileAndModel → OpenDirectory → Type 0
DirectoryStepped old d (step.WriteTag t value) r new e =
    Changes (calls.write_tag d t (value_data value)) d r old new e
DirectoryStepped old d (step.WriteTagBuf t b) r new e =
    Changes (calls.write_tag_buf d t (buffer_in b)) d r old new e
DirectoryStepped old d (step.WriteData value) r new e =
    Replies reply.Number (calls.write_data (value_data value)) d r old new e
DirectoryStepped old d (step.WriteDataBuf b) r new e =
    Replies reply.Number (calls.write_data_buf (buffer_in b)) d r old new e
DirectoryStepped old d (step.WriteEntry value) r new e =
    Replies reply.Written (calls.write_entry (value_data value)) d r old new e
DirectoryStepped old d (step.WriteEntryBuf b) r new e =
    Replies reply.Written (calls.write_entry_buf (buffer_in b)) d r old new e
DirectoryStepped old d (step.WriteEntryBytes type bytes) r new e =
    Replies reply.Written (calls.write_entry_bytes type bytes.items) d r old new e
DirectoryStepped old d (step.ExtendFrom given) r new e =
    ExtendStep (entries given.entries) d r old new e

-- an open image, and the samples that each of its chunks got; an encoder doesn't keep these samples
pub record Drawn : Type 0 where
  pub image : OpenImage
  pub samples : List (List ℕ)

-- a call that returns the changed image, with the same chunks and samples
abbrev pub DrawStep : (OpenImage → WriteCall OpenImage) → Drawn → Result StepReply TiffError
    → FileAndModel → FileAndModel → Drawn → Type 0
DrawStep call i r old new t = (t.samples ≡ i.samples)
    × Changes (call i.image) i.image r old new t.image

-- `resolution` ended between its three tags because memory was out or the sink failed: the first of
-- the tags are set
abbrev pub ResolvesInPart : OpenImage → List (Tag × Scalars) → TiffError → FileAndModel
    → FileAndModel → OpenImage → Type 0
ResolvesInPart i values e old new t =
    (resolution_cause old.file ≡ None) × ((k : ℕ) × ((k < length values) × ((mid : FileAndModel)
    × (IsDone (calls.with_tags i (take k values) old.file) (Ok t) old mid
    × (IsCutShort (calls.with_tags t (drop k values) mid.file) e mid new
    ⊎ IsWithoutMemory (calls.with_tags t (drop k values) mid.file) e mid new)))))

abbrev pub Resolves : OpenImage → ResolutionUnit → ℕ × ℕ → Result StepReply TiffError → FileAndModel
    → FileAndModel → OpenImage → Type 0
Resolves i u value (Ok r) old new t = Changes (calls.resolution i u value) i (Ok r) old new t
Resolves i u value (Err e) old new t =
    Changes (calls.resolution i u value) i (Err e) old new t
    ⊎ ResolvesInPart i (calls.resolution_tags u value) e old new t

-- `write_strip` or `write_chunk`, of a given number of samples that are stored as some bytes
module _ (call : OpenImage → ℕ → List ℕ → WriteCall OpenImage) where
  -- A chunk for which no error applies is stored as bytes that store its samples, or the sink
  -- fails; or there is no memory, and the call does nothing.
  abbrev pub StoreStep : OpenImage → List ℕ → Result StepReply TiffError → FileAndModel
      → FileAndModel → OpenImage → Type 0
  StoreStep i samples (Ok reply.Nothing) old new t =
      (stored : List ℕ) × (IsChunkStored i stored samples
      × IsDone (call i (length samples) stored old.file) (Ok t) old new)
  StoreStep i samples (Ok _) old new t = ⊥
  StoreStep i samples (Err e) old new t =
      Stays i t × (IsNotCalled e old new
      ⊎ ((stored : List ℕ) × (IsChunkStored i stored samples
      × (IsRefused (call i (length samples) stored old.file) e old new
      ⊎ IsCutShort (call i (length samples) stored old.file) e old new))))

  -- the call returns an error that doesn't depend on the compressed bytes, or the chunk is stored
  abbrev pub StoresBy : Option TiffError → OpenImage → List ℕ → Result StepReply TiffError
      → FileAndModel → FileAndModel → OpenImage → Type 0
  StoresBy (Some cause) i samples r old new t = (r ≡ Err cause) × (Stays i t × (new ≡ old))
  StoresBy None i samples r old new t = StoreStep i samples r old new t

abbrev pub StripStep : OpenImage → List ℕ → Result StepReply TiffError → FileAndModel → FileAndModel
    → OpenImage → Type 0
StripStep i samples r old new t =
    StoresBy calls.write_strip (write_strip_cause old.file i (length samples) 0) i samples r old new
    t

abbrev pub ChunkStep : OpenImage → List ℕ → Result StepReply TiffError → FileAndModel → FileAndModel
    → OpenImage → Type 0
ChunkStep i samples r old new t =
    StoresBy calls.write_chunk (write_chunk_cause old.file i (length samples) 0) i samples r old new
    t

-- the samples of all chunks after a step; those of a chunk are added if the step wrote it
abbrev pub samples_after : Result StepReply TiffError → Drawn → List ℕ → List (List ℕ)
samples_after (Ok r) i samples = i.samples ++ samples ∷ []
samples_after (Err e) i samples = i.samples

-- there is no memory for the samples, and the chunk isn't written
abbrev pub IsUnfound : Result StepReply TiffError → OpenImage → FileAndModel → FileAndModel
    → OpenImage → Type 0
IsUnfound r i old new t = (r ≡ Err OutOfMemory) × (Stays i t × (new ≡ old))

-- a strip or a chunk is written, if there is memory for its samples
abbrev pub StripStepIfFound : Drawn → List ℕ → Result StepReply TiffError → FileAndModel
    → FileAndModel → Drawn → Type 0
StripStepIfFound i samples r old new t =
    (t.samples ≡ samples_after r i samples)
    × (StripStep i.image samples r old new t.image ⊎ IsUnfound r i.image old new t.image)

abbrev pub ChunkStepIfFound : Drawn → List ℕ → Result StepReply TiffError → FileAndModel
    → FileAndModel → Drawn → Type 0
ChunkStepIfFound i samples r old new t =
    (t.samples ≡ samples_after r i samples)
    × (ChunkStep i.image samples r old new t.image ⊎ IsUnfound r i.image old new t.image)

-- a step of an image's directory
abbrev pub Directs : OpenImage → DirectoryStep → Result StepReply TiffError → FileAndModel
    → FileAndModel → OpenImage → Type 0
Directs i s r old new t = (d : OpenDirectory)
    × ((t ≡ calls.with_directory_of i d) × DirectoryStepped old i.directory s r new d)

-- one step of an image
abbrev pub ImageStepped : FileAndModel → Drawn → ImageStep → Result StepReply TiffError
    → FileAndModel → Drawn → Type 0
ImageStepped old i (istep.Directory s) r new t = (t.samples ≡ i.samples)
    × Directs i.image s r old new t.image
ImageStepped old i (istep.ExtraSamples extra) r new t =
    DrawStep (λ image. calls.extra_samples image extra.items) i r old new t
ImageStepped old i (istep.Tiles width length) r new t =
    DrawStep (λ image. calls.tiles image width length) i r old new t
ImageStepped old i istep.Planar r new t = DrawStep calls.planar i r old new t
ImageStepped old i istep.NextStripSampleCount r new t =
    (r ≡ Ok (reply.Number (next_strip_sample_count i.image))) × ((new ≡ old) × Stays i t)
ImageStepped old i istep.NextChunkSampleCount r new t =
    (r ≡ Ok (reply.Number (next_chunk_sample_count i.image))) × ((new ≡ old) × Stays i t)
ImageStepped old i (istep.WriteStrip samples) r new t =
    StripStepIfFound i (cut_to i.image.size samples) r old new t
ImageStepped old i (istep.WriteChunk samples) r new t =
    ChunkStepIfFound i (cut_to i.image.size samples) r old new t
ImageStepped old i (istep.Resolution u value) r new t = (t.samples ≡ i.samples)
    × Resolves i.image u (value.n, value.d) r old new t.image
ImageStepped old i (istep.ResolutionUnit u) r new t =
    DrawStep (λ image. calls.resolution_unit image u) i r old new t
ImageStepped old i (istep.XResolution value) r new t =
    DrawStep (λ image. calls.x_resolution image (value.n, value.d)) i r old new t
ImageStepped old i (istep.YResolution value) r new t =
    DrawStep (λ image. calls.y_resolution image (value.n, value.d)) i r old new t
ImageStepped old i (istep.RowsPerStrip rows) r new t =
    DrawStep (λ image. calls.set_rows_per_strip image rows) i r old new t

-- each step has its reply, and begins in the state in which the step before it ends
module _ {S A : Type 0} (Stepped : FileAndModel → S → A → Result StepReply TiffError → FileAndModel
    → S → Type 0) where
  abbrev pub AllStepped : FileAndModel → S → List A → List (Result StepReply TiffError)
      → FileAndModel → S → Type 0
  AllStepped old s [] [] new t = (new ≡ old) × (t ≡ s)
  AllStepped old s [] (r ∷ rs) new t = ⊥
  AllStepped old s (step ∷ steps) [] new t = ⊥
  AllStepped old s (step ∷ steps) (r ∷ rs) new t =
      (mid : FileAndModel)
      × ((next : S) × (Stepped old s step r mid next × AllStepped mid next steps rs new t))

-- ---- ends: the offsets of the directory that an end finishes

-- `finish_with_offsets`
abbrev pub FinishesWith : WriteOutcome Offsets → Result EndReply TiffError → FileAndModel
    → FileAndModel → Option Offsets → Type 0
FinishesWith told (Ok (last.Offsets pointer link)) old new offset =
    let offsets : Offsets = record { pointer = pointer; link = link } in
    IsDone told (Ok offsets) old new × (offset ≡ Some offsets)
FinishesWith told (Ok last.Nothing) old new offset = ⊥
FinishesWith told (Err e) old new offset = Refuses told e old new × (offset ≡ None)

-- `finish` and `discard`, which return `()`
abbrev pub FinishesSilently : WriteOutcome Offsets → Result EndReply TiffError → FileAndModel
    → FileAndModel → Option Offsets → Type 0
FinishesSilently told (Ok last.Nothing) old new offset = (offsets : Offsets)
    × (IsDone told (Ok offsets) old new × (offset ≡ Some offsets))
FinishesSilently told (Ok _) old new offset = ⊥
FinishesSilently told (Err e) old new offset = Refuses told e old new × (offset ≡ None)

abbrev pub DirectoryEnds : FileAndModel → OpenDirectory → DirectoryEnd → Result EndReply TiffError
    → FileAndModel → Option Offsets → Type 0
DirectoryEnds old d end.Finish r new offset =
    FinishesWith (calls.finish d old.file) r old new offset
DirectoryEnds old d end.Discard r new offset =
    FinishesSilently (calls.finish d old.file) r old new offset

-- All chunks that are left are stored, and then the image ends.
abbrev pub EndsWhole : OpenImage → List ℕ → Result EndReply TiffError → FileAndModel → FileAndModel
    → Option Offsets → Type 0
EndsWhole i samples r old new offset =
    (stored : List (List ℕ))
    × (AreStored i (parts_left i samples) stored
    × ((length stored ≡ length (parts_left i samples))
    × FinishesSilently (calls.write_image_data i samples stored old.file) r old new offset))

-- Some chunks are stored, and then: the last of them is refused, or the sink fails, or there is no
-- memory for the next one.
abbrev pub EndsWithin : OpenImage → List ℕ → Result EndReply TiffError → FileAndModel → FileAndModel
    → Type 0
EndsWithin i samples (Ok r) old new = ⊥
EndsWithin i samples (Err e) old new =
    (stored : List (List ℕ)) × (AreStored i (parts_left i samples) stored
    × (let told = calls.write_chunks i (parts_left i samples) stored old.file in
    (IsRefused told e old new
    ⊎ (IsCutShort told e old new ⊎ ((length stored < length (parts_left i samples))
    × IsWithoutMemory told e old new)))))

-- `write_data`: it returns an error that applies before a chunk is written, or it writes chunks
abbrev pub JobWritesDataBy : Option TiffError → OpenImage → List ℕ → Result EndReply TiffError
    → FileAndModel → FileAndModel → Option Offsets → Type 0
JobWritesDataBy (Some cause) i samples r old new offset = (r ≡ Err cause)
    × ((new ≡ old) × (offset ≡ None))
JobWritesDataBy None i samples r old new offset =
    EndsWhole i samples r old new offset ⊎ (EndsWithin i samples r old new × (offset ≡ None))

abbrev pub WritesData : OpenImage → List ℕ → Result EndReply TiffError → FileAndModel → FileAndModel
    → Option Offsets → Type 0
WritesData i samples r old new offset =
    JobWritesDataBy (write_image_data_cause old.file i (length samples)) i samples r old new offset

-- `write_data`, if there is memory for the samples; otherwise `OutOfMemory`
abbrev pub WritesDataIfFound : OpenImage → List ℕ → Result EndReply TiffError → FileAndModel
    → FileAndModel → Option Offsets → Type 0
WritesDataIfFound i samples r old new offset =
    WritesData i samples r old new offset ⊎ ((r ≡ Err OutOfMemory)
    × ((new ≡ old) × (offset ≡ None)))

abbrev pub ImageEnds : FileAndModel → OpenImage → ImageEnd → Result EndReply TiffError
    → FileAndModel → Option Offsets → Type 0
ImageEnds old i (iend.WriteData samples) r new offset =
    WritesDataIfFound i (cut_to i.size samples) r old new offset
ImageEnds old i iend.Finish r new offset =
    FinishesSilently (calls.finish_image i old.file) r old new offset
ImageEnds old i iend.Discard r new offset =
    FinishesSilently (calls.finish_image i old.file) r old new offset

-- ---- jobs

-- an image that is finished with all its chunks, at an offset, where the file shows it; the job
-- passed no tag that describes a page to its directory
pub record FinishedImage : Type 0 where
  pub offset : ℕ
  pub image : Image

-- a run of jobs: the file, the model of what it contains, for each job so far the offsets that its
-- end returned, and the images that the file shows
pub record Run : Type 0 where
  pub standing : FileAndModel
  pub offsets : List (Option Offsets)
  pub images : List FinishedImage

-- a run that begins on a sink that has these bytes and a number of failed writes
abbrev pub new_run : FileKind → List ℕ → ℕ → Run
new_run kind contents failures = record {
  standing = record { file = begun_file kind contents failures; model = header_model kind };
  offsets = [];
  images = [];
}

-- the offsets that an end returns
abbrev pub offsets_in : Result EndReply TiffError → Option Offsets
offsets_in (Ok (last.Offsets pointer link)) = Some (record { pointer = pointer; link = link })
offsets_in _ = None

-- the run after another job
abbrev pub run_after_job : Run → FileAndModel → Result EndReply TiffError → List FinishedImage → Run
run_after_job run standing r images =
    record {
      standing = standing;
      offsets = run.offsets ++ offsets_in r ∷ [];
      images = images ++ run.images;
    }

-- the offsets of the directory of an earlier job and of its link, if the reply to that job has them
abbrev pub parent_of : Option (Option Offsets) → Result (Option Offsets) TiffError
parent_of (Some (Some offsets)) = Ok (Some offsets)
parent_of _ = Err (UsageError ParentNotWritten)

abbrev pub named_parent : List (Option Offsets) → Option ℕ → Result (Option Offsets) TiffError
named_parent offsets None = Ok None
named_parent offsets (Some job) = parent_of (slice_get offsets job)

-- the directory with a parent, if the job names one
abbrev pub with_parent : Option Offsets → OpenDirectory → OpenDirectory
with_parent None d = d
with_parent (Some offsets) d = calls.set_parent d offsets

-- a job that returns an error before its steps
abbrev pub IsRefusedAtOnce : TiffError → JobReply → Type 0
IsRefusedAtOnce e r = (r.steps.items ≡ []) × (r.last ≡ Err e)

-- a job that sets the predictor or the compression
abbrev pub IsSet : (FileState → FileState) → Run → JobReply → Run → Type 0
IsSet set old r new =
    (r.steps.items ≡ []) × ((r.last ≡ Ok last.Nothing)
    × (new ≡ run_after_job old (record old.standing { file = set old.standing.file }) r.last []))

abbrev pub open_directory : Bool → WriteCall OpenDirectory
open_directory true = calls.image_directory
open_directory false = calls.extra_directory

-- a job whose directory or image isn't begun
abbrev pub JobIsNotBegun : {A : Type 0} → WriteOutcome A → Run → JobReply → Run → Type 0
JobIsNotBegun told old r new =
    (e : TiffError)
    × ((s : FileAndModel)
    × (IsRefusedAtOnce e r
    × (Refuses told e old.standing s × (new ≡ run_after_job old s r.last []))))

-- A directory is begun, its steps are run, and it ends.
pub record DirectoryRuns (told : WriteOutcome OpenDirectory) (parent : Option Offsets)
    (j : DirectoryJob) (r : JobReply) (old new : Run) : Type 0 where
  pub first : OpenDirectory
  pub after_begin : FileAndModel
  pub begins : IsDone told (Ok first) old.standing after_begin
  pub final : OpenDirectory
  pub after_steps : FileAndModel
  pub steps : AllStepped DirectoryStepped after_begin (with_parent parent first) j.steps.items
      r.steps.items after_steps final
  pub offset : Option Offsets
  pub after_end : FileAndModel
  pub ends : DirectoryEnds after_steps final j.end r.last after_end offset
  pub state : new ≡ run_after_job old after_end r.last []

abbrev pub DirectoryRan : Run → Option Offsets → DirectoryJob → JobReply → Run → Type 0
DirectoryRan old parent j r new =
    let told = open_directory j.chained old.standing.file in
    JobIsNotBegun told old r new ⊎ DirectoryRuns told parent j r old new

abbrev pub DirectoryRanBy : Run → Result (Option Offsets) TiffError → DirectoryJob → JobReply → Run
    → Type 0
DirectoryRanBy old (Ok parent) j r new = DirectoryRan old parent j r new
DirectoryRanBy old (Err e) j r new = IsRefusedAtOnce e r
    × (new ≡ run_after_job old old.standing r.last [])

-- Whether a step passed no tag that describes a page to the directory of its image: the step passes
-- none, or it returned an error. `ExtendFrom` counts also after an error, because the first of its
-- fields are set then.
abbrev pub is_apart : ImageStep → Result StepReply TiffError → Bool
is_apart (istep.Directory (step.ExtendFrom given)) r =
    not (list_any (λ entry. is_page_tag entry.0) (entries given.entries))
is_apart (istep.Directory (step.WriteTag t value)) (Ok r) = not (is_page_tag (tag_number t))
is_apart (istep.Directory (step.WriteTagBuf t b)) (Ok r) = not (is_page_tag (tag_number t))
is_apart _ _ = true

abbrev pub are_apart : List ImageStep → List (Result StepReply TiffError) → Bool
are_apart (step ∷ steps) (r ∷ rs) = is_apart step r && are_apart steps rs
are_apart _ _ = true

-- the samples of all chunks of an image, if each chunk is in the file when the image ends;
-- `write_data` writes those that are left
abbrev pub ended_samples : Drawn → ImageEnd → Option (List (List ℕ))
ended_samples i (iend.WriteData samples) =
    Some (i.samples ++ parts_left i.image (cut_to i.image.size samples))
ended_samples i _ = if is_left i.image then None else Some i.samples

-- the images that an end adds: the image, if it is finished with all its chunks and the steps
-- passed no tag that describes a page
abbrev pub images_at : Option Offsets → Option (List (List ℕ)) → OpenImage → List FinishedImage
images_at (Some offsets) (Some samples) i =
    record { offset = offsets.pointer; image = image_with i samples } ∷ []
images_at _ _ i = []

abbrev pub job_images : List ImageStep → List (Result StepReply TiffError) → ImageEnd → Drawn
    → Option Offsets → List FinishedImage
job_images steps replies e i offset = if are_apart steps replies
    then images_at offset (ended_samples i e) i.image else []

-- An image is begun, its steps are run, and it ends.
pub record ImageRuns (told : WriteOutcome OpenImage) (j : ImageJob) (r : JobReply) (old new : Run)
    : Type 0 where
  pub first : OpenImage
  pub after_begin : FileAndModel
  pub begins : IsDone told (Ok first) old.standing after_begin
  pub final : Drawn
  pub after_steps : FileAndModel
  pub steps : AllStepped ImageStepped after_begin (record { image = first; samples = [] })
      j.steps.items r.steps.items after_steps final
  pub offset : Option Offsets
  pub after_end : FileAndModel
  pub ends : ImageEnds after_steps final.image j.end r.last after_end offset
  pub state : new ≡ run_after_job old after_end r.last
      (job_images j.steps.items r.steps.items j.end final offset)

abbrev pub ImageRan : Run → ImageJob → JobReply → Run → Type 0
ImageRan old j r new =
    let told = calls.new_image (color_type j.color) (inner_size j.color) j.width j.height old.standing.file in
    JobIsNotBegun told old r new ⊎ ImageRuns told j r old new

-- one job
abbrev pub JobRan : Run → Job → JobReply → Run → Type 0
JobRan old (job.Predictor p) r new = IsSet (calls.with_predictor p) old r new
JobRan old (job.Compression c) r new = IsSet (calls.with_compression c) old r new
JobRan old (job.Directory j) r new = DirectoryRanBy old (named_parent old.offsets j.parent) j r new
JobRan old (job.Image j) r new = ImageRan old j r new

-- each job has its reply, and begins in the state in which the job before it ends
abbrev pub JobsRun : Run → List Job → List JobReply → Run → Type 0
JobsRun old [] [] new = new ≡ old
JobsRun old [] (r ∷ rs) new = ⊥
JobsRun old (j ∷ js) [] new = ⊥
JobsRun old (j ∷ js) (r ∷ rs) new = (mid : Run) × (JobRan old j r mid × JobsRun mid js rs new)

-- the file contains the model of the run
abbrev pub RunStands : Run → Type 0
RunStands run = FileContains run.standing.file.kind run.standing.file.bytes run.standing.model

-- the file shows each image that is finished with all its chunks
abbrev pub RunShows : Run → Type 0
RunShows run = (f : FinishedImage) → In f run.images
    → Shows run.standing.file.kind run.standing.file.bytes f.offset f.image

-- ---- what the library claims of the encoder

-- The result of a list of jobs on a sink that has the bytes `contents`. The replies are those of a
-- run. The sink has the bytes and the number of failures of the run. If the sink is empty at the
-- start, the file contains all that was written, and shows each image that is finished with all its
-- chunks, also if the sink fails in between.
pub record LeavesJobs (kind : FileKind) (jobs : List Job) (replies : List JobReply) (contents : List ℕ)
    (failures : ℕ)
    (bytes : List ℕ) (after : ℕ) : Type 0 where
  pub run : Run
  pub run_is : JobsRun (new_run kind contents failures) jobs replies run
  pub bytes_are : bytes ≡ run.standing.file.bytes
  pub failures_are : after ≡ run.standing.file.failures
  pub stands : contents ≡ [] → RunStands run
  pub shows : contents ≡ [] → RunShows run

-- a sink, with its bytes, its number of failed writes, and the error of its last write if that
-- failed
module _ {W : Type 0} (contents : W → List ℕ) (failures : W → ℕ) (fault : W → Option SinkFault) where
  -- No job is run: there is no memory for the replies, or the sink fails while the header is
  -- written.
  abbrev pub RefusesJobs : FileKind → W → TiffError → Type 0
  RefusesJobs kind sink e = (e ≡ OutOfMemory) ⊎ HeaderFails kind contents failures fault sink e

  -- `run_jobs`: the sink, and the replies before and after the call
  abbrev pub RunsJobs : FileKind → List Job → W → List JobReply → List JobReply → Result W TiffError
      → Type 0
  RunsJobs kind jobs sink earlier all (Ok last) =
      (replies : List JobReply) × ((all ≡ earlier ++ replies)
      × LeavesJobs kind jobs replies (contents sink) (failures sink) (contents last) (failures last))
  RunsJobs kind jobs sink earlier all (Err e) = (all ≡ earlier) × RefusesJobs kind sink e
