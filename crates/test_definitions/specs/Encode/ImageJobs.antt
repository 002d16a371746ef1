-- Worked examples of image jobs and their parts.
use Rattle.std.specs.Prelude.{◌≡◌, ℕ, true, List, [], ◌∷◌, ◌++◌, Option, Some, None, Ok, Err}
use Rattle.tiff_base.specs.declared.error.TiffError.TheVariants.{FormatError, IoError, IntSizeError, OutOfMemory}
use Rattle.tiff_base.specs.declared.error.TiffFormatError.TheVariants.{InvalidDimensions}
use Rattle.tiff_base.specs.declared.io.IoKind.TheVariants.{InvalidData, Device}
use Rattle.tiff_base.specs.declared.io.SinkFault.TheVariants as fault
use Rattle.tiff_base.specs.declared.tags.FileKind.TheVariants.{Classic}
use Rattle.tiff_base.specs.declared.tags.ResolutionUnit.TheVariants as unit
use Rattle.tiff_value.specs.declared.encoder.colortype.ColorTypeName.TheVariants as name
use Rattle.tiff_encode.specs.declared.encoder.script.ImageStep.TheVariants as istep
use Rattle.tiff_encode.specs.declared.encoder.script.ImageEnd.TheVariants as iend
use Rattle.tiff_encode.specs.declared.encoder.script.ImageJob.{ImageJob}
use Rattle.tiff_encode.specs.declared.encoder.script.Job.TheVariants as job
use Rattle.tiff_encode.specs.declared.encoder.script.StepReply.TheVariants as reply
use Rattle.tiff_encode.specs.declared.encoder.script.EndReply.TheVariants as last
use Rattle.tiff_encode.specs.declared.encoder.script.JobReply.{JobReply}
use Rattle.tiff_value.specs.Model.{header_model}
use Rattle.tiff_value.specs.WriteOps.{Appended, Supplied, model_after}
use Rattle.tiff_encode.specs.Machine.{OpenImage, WriteOutcome}
use Rattle.tiff_encode.specs.Calls as calls
use Rattle.tiff_encode.specs.Calls.{Offsets, new_directory}
use Rattle.tiff_encode.specs.Jobs as jobs
use Rattle.tiff_encode.specs.Jobs.{FileAndModel, Drawn, Run, FinishedImage}
use Rattle.test_definitions.specs.OneValue.{short_field, rational_field}
use Rattle.test_definitions.specs.Encode.Causes.{new_file, file_with, gray, pixel}
use Rattle.test_definitions.specs.Encode.Calls.{header, with_fields}
use Rattle.test_definitions.specs.Encode.Chunks.{new_pixel, pixel_in_file, resolutions, two_strips}
use Rattle.test_definitions.specs.Encode.Jobs.{first, run_begun, drawn}

-- ---- strips and resolutions

-- a call that isn't made, as there is no memory for it
abbrev pub uncalled : Type 0
uncalled = jobs.IsNotCalled OutOfMemory first first

-- mistake: `IsNotCalled` allows any error
abbrev pub uncalled_fault : Type 0
uncalled_fault = (new : FileAndModel) → jobs.IsNotCalled IntSizeError first new → ⊥

-- after a new image of one pixel: both resolutions and the fields of its directory
abbrev pub after_begin : FileAndModel
after_begin = record {
  file = file_with Classic (header ++ resolutions);
  model = model_after Classic header (header_model Classic)
      (calls.new_image gray 1 1 1 (new_file Classic)).ops;
}

-- after the strip at 24
abbrev pub after_strip : FileAndModel
after_strip = record {
  file = file_with Classic (header ++ resolutions ++ (7 ∷ []));
  model = model_after Classic (header ++ resolutions) after_begin.model (Appended (7 ∷ []) ∷ []);
}

abbrev pub strip_stood : Type 0
strip_stood =
    jobs.StripStep new_pixel (7 ∷ []) (Ok reply.Nothing) after_begin after_strip pixel_in_file

-- the image with the samples of its chunks
abbrev pub drawn_new : Drawn
drawn_new = record { image = new_pixel; samples = [] }

abbrev pub drawn_strip : Drawn
drawn_strip = record { image = pixel_in_file; samples = (7 ∷ []) ∷ [] }

abbrev pub strip_found : Type 0
strip_found =
    jobs.StripStepIfFound drawn_new (7 ∷ []) (Ok reply.Nothing) after_begin after_strip drawn_strip

-- an out-of-memory error for the sample or the bytes, which leaves the file unchanged; the wrong
-- number of samples; and results that the step can't have
abbrev pub strip_unfound : Type 0
strip_unfound = jobs.StripStepIfFound drawn (7 ∷ []) (Err OutOfMemory) first first drawn

abbrev pub strip_unpacked : Type 0
strip_unpacked =
    jobs.StripStep new_pixel (7 ∷ []) (Err OutOfMemory) after_begin after_begin new_pixel

-- mistake: `StripStep` stores the strip without memory for it
abbrev pub strip_half : Type 0
strip_half = jobs.StripStep new_pixel (7 ∷ []) (Err OutOfMemory) after_begin after_strip new_pixel
    → ⊥

abbrev pub strip_few : Type 0
strip_few = jobs.StripStep pixel [] (Err (IoError InvalidData)) first first pixel

-- mistake: `StripStep` returns out of memory before a wrong length
abbrev pub strip_few_wanting : Type 0
strip_few_wanting = (new : FileAndModel) (t : OpenImage)
    → jobs.StripStep pixel [] (Err OutOfMemory) first new t → ⊥

-- mistake: `StripStep` ends as done without a strip
abbrev pub strip_number : Type 0
strip_number = (new : FileAndModel) (t : OpenImage)
    → jobs.StripStep pixel (7 ∷ []) (Ok (reply.Number 1)) first new t → ⊥

-- mistake: `StripStep` stores as any bytes
abbrev pub strip_other : Type 0
strip_other =
    jobs.StripStep new_pixel (8 ∷ []) (Ok reply.Nothing) after_begin after_strip pixel_in_file → ⊥

-- the image with its resolution unit, and with both resolutions
abbrev pub unit_pixel : OpenImage
unit_pixel =
    record pixel
    { directory = with_fields (new_directory (Some 4) true) ((296, short_field 2) ∷ []) }

abbrev pub after_unit : FileAndModel
after_unit = record {
  file = new_file Classic;
  model = model_after Classic header (header_model Classic)
      (Supplied (record { field = short_field 2; bytes = 2 ∷ 0 ∷ [] }) ∷ []);
}

abbrev pub after_resolution : FileAndModel
after_resolution = record {
  file = (calls.resolution pixel unit.Inch (300, 1) (new_file Classic)).next;
  model = model_after Classic header (header_model Classic)
      (calls.resolution pixel unit.Inch (300, 1) (new_file Classic)).ops;
}

abbrev pub resolved_pixel : OpenImage
resolved_pixel =
    record pixel {
      directory = with_fields (new_directory (Some 4) true)
          ((283, rational_field 16) ∷ (282, rational_field 8) ∷ (296, short_field 2) ∷ []);
    }

abbrev pub resolved : Type 0
resolved =
    jobs.Resolves pixel unit.Inch (300, 1) (Ok reply.Nothing) first after_resolution resolved_pixel

-- mistake: `ResolvesInPart` sets the last ones
-- an out-of-memory error after the unit, or a sink that fails there, which keeps the unit too
abbrev pub resolved_part : Type 0
resolved_part =
    jobs.ResolvesInPart pixel (calls.resolution_tags unit.Inch (300, 1)) OutOfMemory first
    after_unit unit_pixel

abbrev pub after_unit_failed : FileAndModel
after_unit_failed =
    record after_unit {
      file = record (new_file Classic) {
        bytes = header ++ (44 ∷ []);
        failures = 1;
        fault = Some fault.Device;
      };
    }

-- mistake: `Resolves` allows a first part only for out of memory
abbrev pub resolved_failed : Type 0
resolved_failed =
    jobs.Resolves pixel unit.Inch (300, 1) (Err (IoError Device)) first after_unit_failed unit_pixel

abbrev pub resolved_wanting : Type 0
resolved_wanting =
    jobs.Resolves pixel unit.Inch (300, 1) (Err OutOfMemory) first after_unit unit_pixel

abbrev pub resolved_uncaused : Type 0
resolved_uncaused = (new : FileAndModel) (t : OpenImage)
    → jobs.Resolves pixel unit.Inch (300, 1) (Err IntSizeError) first new t → ⊥

-- ---- ends

-- too few samples: nothing is written, there is no offset, and the error isn't out of memory
abbrev pub data_few : Type 0
data_few = jobs.WritesDataIfFound pixel [] (Err (IoError InvalidData)) first first None

-- mistake: `WritesData` returns out of memory before too few samples
abbrev pub data_few_wanting : Type 0
data_few_wanting = (new : FileAndModel) (offset : Option Offsets)
    → jobs.WritesData pixel [] (Err OutOfMemory) first new offset → ⊥

abbrev pub data_unfound : Type 0
data_unfound = jobs.WritesDataIfFound pixel (7 ∷ []) (Err OutOfMemory) first first None

-- a strip that doesn't exist isn't written, and so isn't refused
abbrev pub data_no_strip : Type 0
data_no_strip = (new : FileAndModel) (offset : Option Offsets)
    → jobs.WritesData new_pixel (7 ∷ 8 ∷ []) (Err (IoError InvalidData)) after_begin new offset → ⊥

-- mistake: `WritesData` stores all strips or none
-- the first of two strips is written, and there is no memory for the other
abbrev pub data_begun : Type 0
data_begun =
    jobs.WritesData two_strips (1 ∷ 2 ∷ 3 ∷ []) (Err OutOfMemory) first
    (record first { file = file_with Classic (header ++ (1 ∷ 2 ∷ [])) }) None

-- the strip that is left of two samples, and the directory after it
abbrev pub ended : WriteOutcome Offsets
ended = calls.finish_image pixel_in_file after_strip.file

abbrev pub after_end : FileAndModel
after_end = record {
  file = ended.next;
  model = model_after Classic after_strip.file.bytes after_strip.model ended.ops;
}

abbrev pub wrote : WriteOutcome Offsets
wrote = calls.write_image_data new_pixel (7 ∷ 8 ∷ []) ((7 ∷ []) ∷ []) after_begin.file

abbrev pub after_data : FileAndModel
after_data = record {
  file = wrote.next;
  model = model_after Classic after_begin.file.bytes after_begin.model wrote.ops;
}

abbrev pub page_offset : Offsets
page_offset = record { pointer = 25; link = 195 }

abbrev pub data_done : Type 0
data_done =
    jobs.WritesData new_pixel (7 ∷ 8 ∷ []) (Ok last.Nothing) after_begin after_data
    (Some page_offset)

-- mistake: `WritesDataIfFound` ends as done without strips
abbrev pub data_found : Type 0
data_found =
    jobs.WritesDataIfFound new_pixel (7 ∷ 8 ∷ []) (Ok last.Nothing) after_begin after_data
    (Some page_offset)

-- mistake: `ImageEnds` returns offsets from `finish`
abbrev pub image_ended : Type 0
image_ended =
    jobs.ImageEnds after_strip pixel_in_file iend.Finish (Ok last.Nothing) after_end
    (Some page_offset)

-- the end of an image returns no offsets
abbrev pub data_offsets : Type 0
data_offsets = (new : FileAndModel) (offset : Option Offsets)
    → jobs.WritesData new_pixel (7 ∷ []) (Ok (last.Offsets 25 195)) after_begin new offset → ⊥

-- ---- whole jobs

-- mistake: `JobRan` leaves out a refused beginning
-- mistake: `JobRan` exchanges the sides
-- a dimension of 0: the image doesn't begin
abbrev pub no_side_job : Type 0
no_side_job = (j : ImageJob) (r : JobReply) → j.width ≡ 0 → j.height ≡ 5 → r.steps.items ≡ []
    → r.last ≡ Err (FormatError (InvalidDimensions 0 5))
    → jobs.JobRan run_begun (job.Image j) r
    (jobs.run_after_job run_begun first (Err (FormatError (InvalidDimensions 0 5))) [])

-- mistake: `JobIsNotBegun` doesn't compare its result
abbrev pub not_begun : Type 0
not_begun = (r : JobReply) (new : Run) → r.last ≡ Ok last.Nothing
    → jobs.JobIsNotBegun (calls.new_image gray 1 0 5 (new_file Classic)) run_begun r new → ⊥

-- one gray pixel: a strip and the end
abbrev pub page_run : Run
page_run =
    jobs.run_after_job run_begun after_end (Ok last.Nothing)
    (record { offset = 25; image = jobs.image_with pixel_in_file ((7 ∷ []) ∷ []) } ∷ [])

-- mistake: `JobRan` forgets its image
abbrev pub strip_job : Type 0
strip_job = (j : ImageJob) (r : JobReply) (samples : List ℕ) → j.color ≡ name.Gray8 → j.width ≡ 1
    → j.height ≡ 1
    → j.steps.items ≡ istep.WriteStrip samples ∷ [] → samples ≡ 7 ∷ [] → j.end ≡ iend.Finish
    → r.steps.items ≡ Ok reply.Nothing ∷ [] → r.last ≡ Ok last.Nothing
    → jobs.JobRan run_begun (job.Image j) r page_run

-- mistake: `subsampling_of` has another subsampling
-- mistake: `RunShows` takes the height for the rows of a strip
-- the file shows the image of the run
abbrev pub page_shown : Type 0
page_shown = jobs.RunShows page_run

-- one gray pixel out of two samples, by the end alone
abbrev pub data_images : List FinishedImage
data_images = record { offset = 25; image = jobs.image_with new_pixel ((7 ∷ []) ∷ []) } ∷ []

abbrev pub data_run : Run
data_run = jobs.run_after_job run_begun after_data (Ok last.Nothing) data_images

-- mistake: `ended_samples` keeps samples past the image's
abbrev pub data_job : Type 0
data_job = (j : ImageJob) (r : JobReply) (samples : List ℕ) → j.color ≡ name.Gray8 → j.width ≡ 1
    → j.height ≡ 1
    → j.steps.items ≡ [] → samples ≡ 7 ∷ 8 ∷ [] → j.end ≡ iend.WriteData samples
    → r.steps.items ≡ [] → r.last ≡ Ok last.Nothing
    → jobs.JobRan run_begun (job.Image j) r data_run
