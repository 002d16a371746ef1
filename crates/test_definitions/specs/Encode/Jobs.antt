-- Worked examples of the ends of calls, and of jobs.
use Rattle.std.specs.Prelude.{◌≡◌, ℕ, true, false, List, [], ◌∷◌, ◌++◌, Option, Some, None, Ok, Err}
use Rattle.std.specs.FinMap.{FinMap, entries, from_entries}
use Rattle.std.specs.Ordering.{nat_cmp}
use Rattle.std.specs.Global.{Vec}
use Rattle.tiff_base.specs.declared.error.TiffError.{TiffError}
use Rattle.tiff_base.specs.declared.error.TiffError.TheVariants.{IoError, IntSizeError, UsageError, OutOfMemory}
use Rattle.tiff_base.specs.declared.error.UsageError.TheVariants.{MismatchedEntryLength, ParentNotWritten, WriterFailed}
use Rattle.tiff_base.specs.declared.io.IoKind.TheVariants.{Device, InvalidInput}
use Rattle.tiff_base.specs.declared.io.SinkFault.{SinkFault}
use Rattle.tiff_base.specs.declared.io.SinkFault.TheVariants as fault
use Rattle.tiff_base.specs.declared.tags.FileKind.TheVariants.{Classic, Big}
use Rattle.tiff_base.specs.declared.tags.SampleFormat.TheVariants.{Uint}
use Rattle.tiff_base.specs.declared.tags.Tag.TheVariants as tag
use Rattle.tiff_base.specs.declared.tags.«Type».TheVariants as type
use Rattle.tiff_encode.specs.declared.encoder.settings.Compression.TheVariants.{Packbits}
use Rattle.tiff_encode.specs.declared.encoder.script.JobValue.{JobValue}
use Rattle.tiff_encode.specs.declared.encoder.script.JobValue.TheVariants as value
use Rattle.tiff_encode.specs.declared.encoder.script.JobBuffer.{JobBuffer}
use Rattle.tiff_encode.specs.declared.encoder.script.DirectoryStep.TheVariants as step
use Rattle.tiff_encode.specs.declared.encoder.script.ImageStep.TheVariants as istep
use Rattle.tiff_encode.specs.declared.encoder.script.DirectoryEnd.TheVariants as end
use Rattle.tiff_encode.specs.declared.encoder.script.ImageEnd.TheVariants as iend
use Rattle.tiff_encode.specs.declared.encoder.script.DirectoryJob.{DirectoryJob}
use Rattle.tiff_encode.specs.declared.encoder.script.Job.TheVariants as job
use Rattle.tiff_encode.specs.declared.encoder.script.StepReply.{StepReply}
use Rattle.tiff_encode.specs.declared.encoder.script.StepReply.TheVariants as reply
use Rattle.tiff_encode.specs.declared.encoder.script.EndReply.TheVariants as last
use Rattle.tiff_encode.specs.declared.encoder.script.JobReply.{JobReply}
use Rattle.tiff_base.specs.Field.{DirectoryRecord, Field}
use Rattle.tiff_base.specs.SourceAndSink.{put}
use Rattle.tiff_value.specs.FileBytes.{directory_bytes}
use Rattle.tiff_value.specs.Model.{FinishedDirectory, header_model, with_link, with_directory, with_region}
use Rattle.tiff_value.specs.WriteOps.{WriteOp, Appended, Listed, Linked, standing_fields}
use Rattle.tiff_encode.specs.Machine.{FileState, OpenDirectory, answers, gives, does}
use Rattle.tiff_encode.specs.Calls as calls
use Rattle.tiff_encode.specs.Calls.{Offsets, new_directory}
use Rattle.tiff_encode.specs.Ends.{EndsAsDefined, AppendFailed, LinkWriteFailed, IsShortOfMemory, Ends, EndsSilently, EndsRefused}
use Rattle.tiff_encode.specs.Extending.{Extends}
use Rattle.tiff_value.specs.Data.{u16s, data_of}
use Rattle.tiff_encode.specs.JobValues.{value_data, buffer_in, cut_to}
use Rattle.tiff_encode.specs.JobSamples.{samples_of_type}
use Rattle.tiff_encode.specs.Jobs as jobs
use Rattle.tiff_encode.specs.Jobs.{FileAndModel, Drawn, Run}
use Rattle.test_definitions.specs.OneValue.{long_field}
use Rattle.test_definitions.specs.Encode.Causes.{new_file, failed_file, file_with, gray, pixel, written_pixel}
use Rattle.test_definitions.specs.Encode.Calls.{header, with_fields}
use Rattle.test_definitions.specs.Encode.Model.{one_region}

-- ---- how calls end

-- three bytes that a call appends, and a link that it then patches
abbrev pub three : List WriteOp
three = Appended (1 ∷ 2 ∷ 3 ∷ []) ∷ []

abbrev pub linked : List WriteOp
linked = Appended (1 ∷ []) ∷ Linked 4 8 ∷ []

-- a file with these bytes whose sink failed once with this error
abbrev pub failed_with : SinkFault → List ℕ → FileState
failed_with told bytes =
    record (new_file Classic) { bytes = bytes; failures = 1; fault = Some told }

-- the call returns the defined result, and nothing else
abbrev pub told : Type 0
told = EndsAsDefined (gives {A = ℕ} 5 (new_file Classic)) (Ok 5) (new_file Classic)

-- mistake: `EndsAsDefined` allows any result
abbrev pub told_other : Type 0
told_other = EndsAsDefined (gives {A = ℕ} 5 (new_file Classic)) (Ok 6) (new_file Classic) → ⊥

-- the sink fails after the first byte
abbrev pub cut_off : Type 0
cut_off =
    AppendFailed three (IoError Device) (new_file Classic)
    (failed_with fault.Device (header ++ (1 ∷ [])))

-- a device error isn't returned if the sink didn't fail
abbrev pub not_cut_off : Type 0
not_cut_off = (e : TiffError) (new : FileState) → new.failures ≡ 0
    → AppendFailed three e (new_file Classic) new → ⊥

-- mistake: `AppendFailed` allows another error than the sink's
-- only the sink's error is returned, and none if everything is written
abbrev pub swapped : Type 0
swapped =
    AppendFailed three OutOfMemory (new_file Classic) (failed_with fault.Device (header ++ (1 ∷ [])))
    → ⊥

-- mistake: `AppendFailed` allows that all was written
abbrev pub cut_whole : Type 0
cut_whole = (e : TiffError) (told : SinkFault)
    → AppendFailed three e (new_file Classic) (failed_with told (header ++ (1 ∷ 2 ∷ 3 ∷ []))) → ⊥

-- the sink fails after the first byte of the link
abbrev pub torn_off : Type 0
torn_off = LinkWriteFailed linked OutOfMemory (new_file Classic)
    (failed_with fault.OutOfMemory (0x49 ∷ 0x49 ∷ 0x2a ∷ 0x00 ∷ 0x08 ∷ 0x00 ∷ 0x00 ∷ 0x00 ∷ 1 ∷ []))

-- mistake: `LinkWriteFailed` lets a link be torn on a file that had failed
abbrev pub not_torn_off : Type 0
not_torn_off = (e : TiffError) (new : FileState) → LinkWriteFailed linked e failed_file new → ⊥

-- a directory is appended, and the sink fails after the first byte of the link to it: the file
-- contains the directory, with link 0
abbrev pub fields_5 : FinMap nat_cmp Field
fields_5 = from_entries ((256, long_field 5) ∷ [])

abbrev pub after_torn : FileAndModel
after_torn = record {
  file = failed_with fault.Device
      (put (header ++ (directory_bytes Classic fields_5 ++ [])) 4 (8 ∷ []));
  model = with_link Classic
      (with_directory Classic (header_model Classic)
      (record { offset = 8; fields = standing_fields Classic fields_5 })) 4 8;
}

-- mistake: `IsTornAway` loses the new directory if its link is torn
abbrev pub torn_directory : Type 0
torn_directory =
    jobs.IsTornAway (does (Listed fields_5 ∷ Linked 4 8 ∷ []) (new_file Classic)) (IoError Device)
    (jobs.new_run Classic [] 0).standing after_torn

-- the encoder is out of memory before a byte is written
abbrev pub wanting : Type 0
wanting =
    IsShortOfMemory (does three (new_file Classic)) OutOfMemory (new_file Classic)
    (new_file Classic)

abbrev pub not_wanting : Type 0
not_wanting =
    IsShortOfMemory (does three (new_file Classic)) (IoError Device) (new_file Classic)
    (new_file Classic) → ⊥

-- mistake: `IsShortOfMemory` returns out of memory before sides of 0
-- a dimension of 0 is refused before memory is allocated
abbrev pub wanting_caused : Type 0
wanting_caused = (e : TiffError) (new : FileState)
    → IsShortOfMemory (calls.new_image gray 1 0 5 (new_file Classic)) e (new_file Classic) new → ⊥

-- the first cause is returned; a call without a cause returns no such error
abbrev pub ends_caused : Type 0
ends_caused =
    Ends (λ d. d) (calls.image_directory failed_file) (Err (UsageError WriterFailed)) failed_file
    failed_file

abbrev pub ends_done : Type 0
ends_done =
    Ends (λ d. d) (calls.image_directory (new_file Classic)) (Ok (new_directory (Some 4) true))
    (new_file Classic) (new_file Classic)

-- mistake: `Ends` allows any error
abbrev pub ends_uncaused : Type 0
ends_uncaused = (new : FileState)
    → Ends (λ d. d) (calls.image_directory (new_file Classic)) (Err IntSizeError) (new_file Classic)
    new → ⊥

-- a call whose result isn't passed on: its three bytes are in the file, and not only two
abbrev pub silent_done : Type 0
silent_done =
    EndsSilently {X = ℕ} (does three (new_file Classic)) (Ok 9) (new_file Classic)
    (file_with Classic (header ++ (1 ∷ 2 ∷ 3 ∷ [])))

-- mistake: `EndsSilently` allows any file where the call is done
abbrev pub silent_short : Type 0
silent_short =
    EndsSilently {X = ℕ} (does three (new_file Classic)) (Ok 9) (new_file Classic)
    (file_with Classic (header ++ (1 ∷ 2 ∷ []))) → ⊥

-- a refused call returns its cause, and no other error
abbrev pub refused_caused : Type 0
refused_caused =
    EndsRefused {X = ℕ} (answers {A = ℕ} (Err IntSizeError) (new_file Classic)) (Err IntSizeError)
    (new_file Classic) (new_file Classic)

-- mistake: `EndsRefused` allows any error
abbrev pub refused_other : Type 0
refused_other = (new : FileState)
    → EndsRefused {X = ℕ} (answers {A = ℕ} (Err IntSizeError) (new_file Classic))
    (Err (UsageError WriterFailed)) (new_file Classic) new → ⊥

-- ---- fields that are taken over

-- mistake: `Extends` keeps its own fields
-- a given field replaces the directory's own field for the same tag
abbrev pub taken_over : Type 0
taken_over = (new : OpenDirectory)
    → Extends {A = ℕ} ((256, long_field 6) ∷ [])
    (with_fields (new_directory None false) ((256, long_field 5) ∷ [])) new (Ok 0)
    → entries new.fields ≡ (256, long_field 6) ∷ []

-- mistake: `Extends` allows any fields after out of memory
-- with an out-of-memory error, no field is taken over without the fields before it
abbrev pub taken_later : Type 0
taken_later = (new : OpenDirectory)
    → Extends {A = ℕ} ((256, long_field 6) ∷ (257, long_field 7) ∷ []) (new_directory None false)
    new (Err OutOfMemory)
    → entries new.fields ≡ (257, long_field 7) ∷ [] → ⊥

-- ---- values of jobs

-- mistake: `cut_to` cuts by bits
-- samples are cut to the width of their numbers
abbrev pub cut_byte : Type 0
cut_byte = cut_to 1 (257 ∷ 255 ∷ []) ≡ (1 ∷ 255 ∷ [])

abbrev pub cut_short : Type 0
cut_short = cut_to 2 (257 ∷ 65536 ∷ []) ≡ (257 ∷ 0 ∷ [])

-- mistake: `value_data` takes shorts for longs
-- a list of scalars, wherever it is allocated; and a list of bytes
abbrev pub shorts_given : Type 0
shorts_given = (l : Vec ℕ) → value_data (value.U16 l) ≡ Ok (data_of (u16s l.items))

-- mistake: `buffer_in` has no bytes
abbrev pub buffer_given : Type 0
buffer_given = (b : JobBuffer) → (buffer_in b).bytes ≡ b.bytes.items

-- ---- steps

-- a run that begins on an empty sink, and its first state
abbrev pub run_begun : Run
run_begun = jobs.new_run Classic [] 0

abbrev pub first : FileAndModel
first = run_begun.standing

-- mistake: `new_run` has a byte before the header
abbrev pub starts : Type 0
starts = (jobs.new_run Big [] 0).standing.file ≡ new_file Big

-- mistake: `new_run` forgets earlier failures
-- a run on a sink that contains a byte and failed before: the failures are added up
abbrev pub starts_failed : Type 0
starts_failed =
    (jobs.new_run Classic (1 ∷ []) 3).standing.file ≡ record (new_file Classic)
    { bytes = 1 ∷ header; failures = 3; chain = 5 }

abbrev pub starts_empty : Type 0
starts_empty = run_begun.images ≡ []

-- mistake: `FileAndModel` forgets the model
-- a step that doesn't change the directory: data is written at 8
abbrev pub data_stepped : Type 0
data_stepped =
    jobs.Replies {S = OpenDirectory} reply.Number (calls.appends (7 ∷ []))
    (new_directory None false) (Ok (reply.Number 8)) first
    (record {
      file = file_with Classic (header ++ (7 ∷ []));
      model = with_region (header_model Classic) one_region;
    }) (new_directory None false)

-- mistake: `Replies` replies another number
-- a step that appends data doesn't return another offset
abbrev pub data_other : Type 0
data_other = (new : FileAndModel)
    → jobs.Replies {S = OpenDirectory} reply.Number (calls.appends (7 ∷ []))
    (new_directory None false) (Ok (reply.Number 9)) first new (new_directory None false) → ⊥

-- a call that returns nothing doesn't return a number
abbrev pub changes_nothing : Type 0
changes_nothing =
    jobs.Changes (gives (new_directory None true)) (new_directory None false) (Ok reply.Nothing)
    first first (new_directory None true)

-- mistake: `Changes` replies a number for nothing
abbrev pub changes_number : Type 0
changes_number =
    jobs.Changes (gives (new_directory None true)) (new_directory None false) (Ok (reply.Number 8))
    first first (new_directory None true) → ⊥

-- mistake: `FileAndModel` allows any error
-- a call isn't refused without a cause
abbrev pub changes_uncaused : Type 0
changes_uncaused = (new : FileAndModel) (t : OpenDirectory)
    → jobs.Changes (gives (new_directory None true)) (new_directory None false) (Err IntSizeError)
    first new t → ⊥

-- given fields, of which an out-of-memory error may leave some out
abbrev pub extends_all : Type 0
extends_all =
    jobs.ExtendStep ((256, long_field 5) ∷ []) (new_directory None false) (Ok reply.Nothing) first
    first (with_fields (new_directory None false) ((256, long_field 5) ∷ []))

abbrev pub extends_none : Type 0
extends_none =
    jobs.ExtendStep ((256, long_field 5) ∷ []) (new_directory None false) (Err OutOfMemory) first
    first (new_directory None false)

-- mistake: `ExtendStep` allows any error
abbrev pub extends_fault : Type 0
extends_fault = (d : OpenDirectory)
    → jobs.ExtendStep [] (new_directory None false) (Err IntSizeError) first first d → ⊥

-- an image of one pixel, without a chunk and with its strip
abbrev pub drawn : Drawn
drawn = record { image = pixel; samples = [] }

abbrev pub drawn_seven : Drawn
drawn_seven = record { image = written_pixel; samples = (7 ∷ []) ∷ [] }

-- the number of samples of the next strip
abbrev pub counted : Type 0
counted = jobs.ImageStepped first drawn istep.NextStripSampleCount (Ok (reply.Number 1)) first drawn

-- mistake: `ImageStepped` allows any reply for the count
abbrev pub counted_other : Type 0
counted_other =
    jobs.ImageStepped first drawn istep.NextStripSampleCount (Err OutOfMemory) first drawn → ⊥

-- 0 rows per strip are refused and change nothing
abbrev pub rows_refused : Type 0
rows_refused =
    jobs.ImageStepped first drawn (istep.RowsPerStrip 0) (Err (IoError InvalidInput)) first drawn

-- no steps, and a step without a reply
abbrev pub no_steps : Type 0
no_steps = jobs.AllStepped jobs.ImageStepped first drawn [] [] first drawn

abbrev pub one_step : Type 0
one_step =
    jobs.AllStepped jobs.ImageStepped first drawn (istep.NextStripSampleCount ∷ [])
    (Ok (reply.Number 1) ∷ []) first drawn

-- mistake: `AllStepped` allows a missing reply
abbrev pub missing_reply : Type 0
missing_reply =
    jobs.AllStepped jobs.ImageStepped first drawn (istep.NextStripSampleCount ∷ []) [] first drawn
    → ⊥

-- ---- jobs

-- the offsets of earlier jobs: of a page, of a directory, and of a refused job
abbrev pub two_offsets : List (Option Offsets)
two_offsets = Some (record { pointer = 8; link = 22 }) ∷ None ∷ []

-- mistake: `named_parent` counts from 1
abbrev pub parent_named : Type 0
parent_named =
    jobs.named_parent two_offsets (Some 0) ≡ Ok (Some (record { pointer = 8; link = 22 }))

-- mistake: `named_parent` takes a refused job for none
abbrev pub parent_refused : Type 0
parent_refused = jobs.named_parent two_offsets (Some 1) ≡ Err (UsageError ParentNotWritten)

abbrev pub parent_later : Type 0
parent_later = jobs.named_parent two_offsets (Some 2) ≡ Err (UsageError ParentNotWritten)

abbrev pub parent_none : Type 0
parent_none = jobs.named_parent [] None ≡ Ok None

-- mistake: `run_after_job` puts offsets in front
-- a later job can link to an end with offsets, and not to an end without offsets
abbrev pub ran_offsets : Type 0
ran_offsets =
    (jobs.run_after_job (record run_begun { offsets = two_offsets }) first (Ok (last.Offsets 28 30))
    []).offsets
    ≡ two_offsets ++ Some (record { pointer = 28; link = 30 }) ∷ []

-- mistake: `run_after_job` has offsets of nothing
abbrev pub ran_nothing : Type 0
ran_nothing = (jobs.run_after_job run_begun first (Ok last.Nothing) []).offsets ≡ None ∷ []

-- mistake: `with_parent` doesn't set the parent
abbrev pub parented_22 : Type 0
parented_22 =
    (jobs.with_parent (Some (record { pointer = 8; link = 22 }))
    (new_directory (Some 4) true)).parent ≡ Some 22

abbrev pub parented_none : Type 0
parented_none = jobs.with_parent None (new_directory (Some 4) true) ≡ new_directory (Some 4) true

-- a run with the offsets `two_offsets`; a job whose parent has no offsets makes no call
abbrev pub later_run : Run
later_run = record run_begun { offsets = two_offsets }

-- mistake: `IsRefusedAtOnce` replies Ok
abbrev pub parent_job : Type 0
parent_job = (j : DirectoryJob) (r : JobReply) → j.parent ≡ Some 1 → r.steps.items ≡ []
    → r.last ≡ Err (UsageError ParentNotWritten)
    → jobs.JobRan later_run (job.Directory j) r
    (jobs.run_after_job later_run first (Err (UsageError ParentNotWritten)) [])

-- mistake: `IsSet` doesn't change the setting
-- mistake: `JobRan` leaves out a setting
-- a setting
abbrev pub packed_job : Type 0
packed_job = (r : JobReply) → r.steps.items ≡ [] → r.last ≡ Ok last.Nothing
    → jobs.JobRan run_begun (job.Compression Packbits) r
    (jobs.run_after_job run_begun
    (record first { file = calls.with_compression Packbits first.file }) (Ok last.Nothing)
    [])

-- a directory that is begun and finished without steps: at 8, with its link at 10, and the header
-- links to it
abbrev pub empty_directory : FinishedDirectory
empty_directory = record { offset = 8; fields = (new_directory None true).fields }

abbrev pub after_empty : FileAndModel
after_empty = record {
  file = (calls.finish (new_directory (Some 4) true) (new_file Classic)).next;
  model = with_link Classic
      (with_directory Classic
      (with_region (header_model Classic) (record { offset = 8; bytes = [] })) empty_directory)
      4 8;
}

-- mistake: `DirectoryRan` keeps the run as it was before the job's end
abbrev pub directory_job : Type 0
directory_job = (j : DirectoryJob) (r : JobReply) → j.chained ≡ true → j.parent ≡ None
    → j.steps.items ≡ [] → j.end ≡ end.Finish
    → r.steps.items ≡ [] → r.last ≡ Ok (last.Offsets 8 10)
    → jobs.JobRan run_begun (job.Directory j) r
    (jobs.run_after_job run_begun after_empty (Ok (last.Offsets 8 10)) [])

-- mistake: `DirectoryEnds` replies nothing for offsets
-- mistake: `DirectoryEnds` allows a silent finish
-- the end `Finish` of a directory doesn't return `Nothing`
abbrev pub extra_end : Type 0
extra_end = (new : FileAndModel) (offset : Option Offsets)
    → jobs.DirectoryEnds first (new_directory (Some 1000) true) end.Finish (Ok last.Nothing) new
    offset → ⊥

-- mistake: `DirectoryEnds` allows no refusal
-- the end of a directory whose parent isn't in the file is refused, and has no offset
abbrev pub lost_end : Type 0
lost_end =
    jobs.DirectoryEnds first (new_directory (Some 1000) true) end.Discard
    (Err (UsageError ParentNotWritten)) first None

-- an image with each of its chunks, an image without one, and the chunks that its end writes
abbrev pub samples_all : Type 0
samples_all = jobs.ended_samples drawn_seven iend.Finish ≡ Some ((7 ∷ []) ∷ [])

abbrev pub samples_missing : Type 0
samples_missing = jobs.ended_samples drawn iend.Discard ≡ None

-- mistake: `ended_samples` doesn't cut the samples
abbrev pub samples_given : Type 0
samples_given = (samples : List ℕ) → samples ≡ 263 ∷ 8 ∷ []
    → jobs.ended_samples drawn (iend.WriteData samples) ≡ Some ((7 ∷ []) ∷ [])

-- mistake: `samples_of_type` takes the highest byte first
-- lent bytes are the numbers 263 and 8, the lowest byte of each first; a part of one is refused
abbrev pub samples_lent : Type 0
samples_lent = samples_of_type type.SHORT (7 ∷ 1 ∷ 8 ∷ 0 ∷ []) ≡ Ok (263 ∷ 8 ∷ [])

-- mistake: `samples_of_type` fills up a part of a sample
abbrev pub samples_left_over : Type 0
samples_left_over = samples_of_type type.SHORT (7 ∷ 1 ∷ 8 ∷ [])
    ≡ Err (UsageError (MismatchedEntryLength type.SHORT 3))

abbrev pub image_seven : Type 0
image_seven = (jobs.image_with written_pixel ((7 ∷ []) ∷ [])).sample_at 0 0 0 ≡ 7

abbrev pub image_format : Type 0
image_format = (jobs.image_with written_pixel ((7 ∷ []) ∷ [])).page.format ≡ Uint

-- a tag that a page is read from, and one that isn't
abbrev pub width_tag : Type 0
width_tag = jobs.is_page_tag 256 ≡ true

-- mistake: `is_page_tag` takes any tag for a page tag
abbrev pub artist_tag : Type 0
artist_tag = jobs.is_page_tag 315 ≡ false

abbrev pub apart_step : Type 0
apart_step = (v : JobValue) (r : StepReply)
    → jobs.is_apart (istep.Directory (step.WriteTag tag.Artist v)) (Ok r) ≡ true

-- mistake: `is_apart` leaves out SampleFormat
abbrev pub page_step : Type 0
page_step = (v : JobValue) (r : StepReply)
    → jobs.is_apart (istep.Directory (step.WriteTag tag.SampleFormat v)) (Ok r) ≡ false

-- mistake: `is_apart` counts a refused tag
-- a refused tag isn't in the directory
abbrev pub refused_step : Type 0
refused_step = (v : JobValue) (e : TiffError)
    → jobs.is_apart (istep.Directory (step.WriteTag tag.SampleFormat v)) (Err e) ≡ true

-- mistake: `is_apart` doesn't count fields of which some are in
-- fields that are partly taken over may be in the directory
abbrev pub extended_step : Type 0
extended_step = (d : DirectoryRecord) (e : TiffError) → entries d.entries ≡ (256, long_field 5) ∷ []
    → jobs.is_apart (istep.Directory (step.ExtendFrom d)) (Err e) ≡ false

-- an image with a step that writes a page tag isn't shown, and an image without such a step is
abbrev pub page_offset : Option Offsets
page_offset = Some (record { pointer = 25; link = 195 })

-- mistake: `job_images` shows tags that were written by hand
abbrev pub shown_images : Type 0
shown_images = (v : JobValue)
    → jobs.job_images (istep.Directory (step.WriteTag tag.SampleFormat v) ∷ [])
    (Ok reply.Nothing ∷ []) iend.Finish drawn_seven page_offset ≡ []

abbrev pub shown_image : Type 0
shown_image =
    jobs.job_images (istep.NextStripSampleCount ∷ []) (Ok (reply.Number 0) ∷ []) iend.Finish
    drawn_seven page_offset
    ≡ record { offset = 25; image = jobs.image_with written_pixel ((7 ∷ []) ∷ []) } ∷ []

-- a job without a reply
abbrev pub no_jobs : Type 0
no_jobs = jobs.JobsRun run_begun [] [] run_begun

-- mistake: `JobsRun` allows a missing reply
abbrev pub reply_missing : Type 0
reply_missing = (new : Run) → jobs.JobsRun run_begun (job.Compression Packbits ∷ []) [] new → ⊥

-- mistake: `RunStands` allows other bytes
-- the model and the images of a run that begins: the header
abbrev pub run_stands : Type 0
run_stands = jobs.RunStands run_begun

-- mistake: `RunShows` allows images that aren't in the run
abbrev pub run_shows : Type 0
run_shows = jobs.RunShows run_begun
