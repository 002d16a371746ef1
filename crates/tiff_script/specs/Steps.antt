-- The steps of jobs as words.
use Rattle.std.specs.Prelude.{ℕ, ◌==◌, ◌||◌, Bool, List, length, Option, None, Some, codes, if◌then◌else◌}
use Rattle.std.specs.Option.{option_map, option_or}
use Rattle.std.specs.Str.{bytes_eq}
use Rattle.tiff_base.specs.Buffer.{BufferRecord}
use Rattle.tiff_base.specs.Field.{DirectoryRecord}
use Rattle.tiff_base.specs.Tags.{extra_of, unit_of}
use Rattle.tiff_base.specs.declared.tags.ExtraSamples.{ExtraSamples}
use Rattle.tiff_base.specs.declared.tags.«Type».{«Type»}
use Rattle.tiff_base.specs.declared.tags.Tag.{Tag}
use Rattle.tiff_encode.specs.declared.encoder.script.DirectoryStep.{DirectoryStep}
use Rattle.tiff_encode.specs.declared.encoder.script.DirectoryStep.TheVariants as d
use Rattle.tiff_encode.specs.declared.encoder.script.ImageStep.{ImageStep}
use Rattle.tiff_encode.specs.declared.encoder.script.ImageStep.TheVariants as i
use Rattle.tiff_script.specs.Line.{◌>>=◌, items, pair}
use Rattle.tiff_script.specs.Numbers.{unsigned}
use Rattle.tiff_script.specs.Samples.{samples}
use Rattle.tiff_script.specs.declared.samples.SampleWords.{SampleWords}
use Rattle.tiff_script.specs.Stands.{fraction, numbered}
use Rattle.tiff_script.specs.Values.{ValueData, buffer, buffer_held, fields, tagged, typed, value, value_held}

-- ---- steps of a directory

-- a step of a directory
pub data DirectoryStepData : Type 0 where
  WriteTag : Tag → ValueData → DirectoryStepData
  WriteTagBuf : Tag → BufferRecord → DirectoryStepData
  WriteData : ValueData → DirectoryStepData
  WriteDataBuf : BufferRecord → DirectoryStepData
  WriteEntry : ValueData → DirectoryStepData
  WriteEntryBuf : BufferRecord → DirectoryStepData
  WriteEntryBytes : «Type» → List ℕ → DirectoryStepData
  ExtendFrom : DirectoryRecord → DirectoryStepData

-- the step that a job holds
abbrev pub directory_step_held : DirectoryStep → DirectoryStepData
directory_step_held (d.WriteTag tag value) = WriteTag tag (value_held value)
directory_step_held (d.WriteTagBuf tag buffer) = WriteTagBuf tag (buffer_held buffer)
directory_step_held (d.WriteData value) = WriteData (value_held value)
directory_step_held (d.WriteDataBuf buffer) = WriteDataBuf (buffer_held buffer)
directory_step_held (d.WriteEntry value) = WriteEntry (value_held value)
directory_step_held (d.WriteEntryBuf buffer) = WriteEntryBuf (buffer_held buffer)
directory_step_held (d.WriteEntryBytes type bytes) = WriteEntryBytes type bytes.items
directory_step_held (d.ExtendFrom directory) = ExtendFrom directory

abbrev pub tag_step : List ℕ → Option DirectoryStepData
tag_step words = do
  tag ← tagged words
  value ← value tag.1
  Some (WriteTag tag.0 value)

abbrev pub tag_buffer_step : List ℕ → Option DirectoryStepData
tag_buffer_step words = do
  tag ← tagged words
  buffer ← buffer tag.1
  Some (WriteTagBuf tag.0 buffer)

-- the step of a name of entries or fields, and the words behind it
unfoldable pub entry_step : List ℕ → List ℕ → Option DirectoryStepData
entry_step name words =
    if bytes_eq name (codes "write_entry") then option_map WriteEntry (value words)
    else (if bytes_eq name (codes "write_entry_buf") then option_map WriteEntryBuf (buffer words)
    else (if bytes_eq name (codes "write_entry_bytes")
    then option_map (λ t. WriteEntryBytes t.0 t.1) (typed words)
    else (if bytes_eq name (codes "extend_from") then option_map ExtendFrom (fields words)
    else None)))

-- the step that a name and the words behind it are
unfoldable pub directory_step : List ℕ → List ℕ → Option DirectoryStepData
directory_step name words =
    if bytes_eq name (codes "write_tag") then tag_step words
    else (if bytes_eq name (codes "write_tag_buf") then tag_buffer_step words
    else (if bytes_eq name (codes "write_data") then option_map WriteData (value words)
    else (if bytes_eq name (codes "write_data_buf") then option_map WriteDataBuf (buffer words)
    else entry_step name words)))

-- ---- steps of an image

-- a step of an image: one of its directory, its extra samples, or one that holds no list but that
-- of its samples
pub data ImageStepData : Type 0 where
  OfDirectory : DirectoryStepData → ImageStepData
  Extra : List ExtraSamples → ImageStepData
  Plain : ImageStep → ImageStepData

-- the step that a job holds
abbrev pub image_step_held : ImageStep → ImageStepData
image_step_held (i.Directory step) = OfDirectory (directory_step_held step)
image_step_held (i.ExtraSamples extra) = Extra extra.items
image_step_held step = Plain step

-- a step that has a number, sides or a fraction
unfoldable pub setting_step : List ℕ → List ℕ → Option ImageStepData
setting_step name words =
    if bytes_eq name (codes "tiles")
    then option_map (λ sides. Plain (i.Tiles sides.0 sides.1)) (pair (unsigned 32) (unsigned 32) words)
    else (if bytes_eq name (codes "rows_per_strip")
    then option_map (λ n. Plain (i.RowsPerStrip n)) (unsigned 32 words)
    else (if bytes_eq name (codes "resolution")
    then option_map (λ r. Plain (i.Resolution r.0 r.1)) (pair (numbered unit_of) fraction words)
    else (if bytes_eq name (codes "resolution_unit")
    then option_map (λ unit. Plain (i.ResolutionUnit unit)) (numbered unit_of words)
    else (if bytes_eq name (codes "x_resolution")
    then option_map (λ x. Plain (i.XResolution x)) (fraction words)
    else (if bytes_eq name (codes "y_resolution")
    then option_map (λ y. Plain (i.YResolution y)) (fraction words)
    else None)))))

-- whether a name is that of a step with a number, sides or a fraction
abbrev pub is_setting : List ℕ → Bool
is_setting name =
    bytes_eq name (codes "tiles") || bytes_eq name (codes "rows_per_strip")
    || bytes_eq name (codes "resolution") || bytes_eq name (codes "resolution_unit")
    || bytes_eq name (codes "x_resolution") || bytes_eq name (codes "y_resolution")

-- a step that is a name alone
unfoldable pub plain_step : List ℕ → Option ImageStepData
plain_step name =
    if bytes_eq name (codes "planar") then Some (Plain i.Planar)
    else (if bytes_eq name (codes "next_strip_sample_count") then Some (Plain i.NextStripSampleCount)
    else (if bytes_eq name (codes "next_chunk_sample_count") then Some (Plain i.NextChunkSampleCount)
    else None))

-- a step of its directory, in which `append_data` is `write_data`
unfoldable pub inner_step : List ℕ → List ℕ → Option ImageStepData
inner_step name words = option_map OfDirectory
    (directory_step (if bytes_eq name (codes "append_data") then codes "write_data" else name) words)

-- a step of an image without samples
unfoldable pub other_step : List ℕ → List ℕ → Option ImageStepData
other_step name words =
    if is_setting name then setting_step name words
    else option_or (if length words == 0 then plain_step name else None) (inner_step name words)

-- The step that a name and the words behind it are, where samples are written so.
unfoldable pub image_step : SampleWords → List ℕ → List ℕ → Option ImageStepData
image_step w name words =
    if bytes_eq name (codes "write_strip")
    then option_map (λ numbers. Plain (i.WriteStrip numbers)) (samples w words)
    else (if bytes_eq name (codes "write_chunk")
    then option_map (λ numbers. Plain (i.WriteChunk numbers)) (samples w words)
    else (if bytes_eq name (codes "extra_samples")
    then option_map Extra (items (numbered extra_of) words)
    else other_step name words))
