-- The laws of what a call changes: all calls except the ends only append, and an end also changes
-- the parent's link.
use Rattle.std.specs.Prelude.{◌≡◌, ℕ, List, ◌++◌, Option, Some, None, Result, Ok, Err}
use Rattle.tiff_base.specs.declared.error.TiffError.{TiffError}
use Rattle.tiff_base.specs.declared.tags.ExtraSamples.{ExtraSamples}
use Rattle.tiff_base.specs.declared.tags.FileKind.{FileKind}
use Rattle.tiff_base.specs.declared.tags.ResolutionUnit.{ResolutionUnit}
use Rattle.tiff_base.specs.declared.tags.Tag.{Tag}
use Rattle.tiff_base.specs.declared.tags.«Type».{«Type»}
use Rattle.tiff_base.specs.Number.{le}
use Rattle.tiff_base.specs.SourceAndSink.{put}
use Rattle.tiff_value.specs.Buffer.{BufferRecord}
use Rattle.tiff_value.specs.ColorType.{ColorTypeRecord}
use Rattle.tiff_value.specs.Data.{FieldData}
use Rattle.tiff_value.specs.FileBytes.{offset_len}
use Rattle.tiff_value.specs.WriteOps.{all_appended}
use Rattle.tiff_encode.specs.Machine.{FileState, OpenDirectory, OpenImage, WriteOutcome, WriteCall}
use Rattle.tiff_encode.specs.Calls.{Offsets, image_directory, extra_directory, write_entry, write_entry_buf, write_entry_bytes, write_tag, write_tag_buf, write_data, write_data_buf, finish, new_image, extra_samples, set_rows_per_strip, tiles, planar, resolution, x_resolution, y_resolution, resolution_unit, write_strip, write_chunk, finish_image, write_image_data, write_image}

-- A call only appends: the file after the call is the file before it with bytes at the end, also if
-- the call returns an error.
abbrev pub OnlyAppends : {A : Type 0} → WriteCall A → Type 0
OnlyAppends call = (file : FileState)
    → (call file).next
    ≡ record file { bytes = file.bytes ++ all_appended file.kind (call file).ops }

-- The calls of an encoder that begin a directory, and the calls of an open directory except its
-- end, only append.
pub record DirectoryCallsAppend : Type 0 where
  pub begun : OnlyAppends image_directory
  pub begun_extra : OnlyAppends extra_directory
  pub entry : (value : Result FieldData TiffError) → OnlyAppends (write_entry value)
  pub entry_buf : (b : BufferRecord) → OnlyAppends (write_entry_buf b)
  pub entry_bytes : (type : «Type») (bytes : List ℕ) → OnlyAppends (write_entry_bytes type bytes)
  pub tag : (d : OpenDirectory) (t : Tag) (value : Result FieldData TiffError)
      → OnlyAppends (write_tag d t value)
  pub tag_buf : (d : OpenDirectory) (t : Tag) (b : BufferRecord) → OnlyAppends (write_tag_buf d t b)
  pub loose_value : (value : Result FieldData TiffError) → OnlyAppends (write_data value)
  pub loose_buf : (b : BufferRecord) → OnlyAppends (write_data_buf b)

-- The calls that begin an image, and the calls of an open image except its end, only append.
pub record ImageCallsAppend : Type 0 where
  pub begun : (color : ColorTypeRecord) (size width height : ℕ)
      → OnlyAppends (new_image color size width height)
  pub extra : (i : OpenImage) (extra : List ExtraSamples) → OnlyAppends (extra_samples i extra)
  pub rows : (i : OpenImage) (rows : ℕ) → OnlyAppends (set_rows_per_strip i rows)
  pub sides : (i : OpenImage) (width length : ℕ) → OnlyAppends (tiles i width length)
  pub planes : (i : OpenImage) → OnlyAppends (planar i)
  pub both : (i : OpenImage) (u : ResolutionUnit) (value : ℕ × ℕ)
      → OnlyAppends (resolution i u value)
  pub across : (i : OpenImage) (value : ℕ × ℕ) → OnlyAppends (x_resolution i value)
  pub down : (i : OpenImage) (value : ℕ × ℕ) → OnlyAppends (y_resolution i value)
  pub unit : (i : OpenImage) (u : ResolutionUnit) → OnlyAppends (resolution_unit i u)
  pub strip : (i : OpenImage) (count : ℕ) (stored : List ℕ)
      → OnlyAppends (write_strip i count stored)
  pub chunk : (i : OpenImage) (count : ℕ) (stored : List ℕ)
      → OnlyAppends (write_chunk i count stored)

-- the bytes with an offset written into the parent's link, if there is a parent
abbrev pub with_parent_link : FileKind → Option ℕ → ℕ → List ℕ → List ℕ
with_parent_link kind None target bytes = bytes
with_parent_link kind (Some parent) target bytes = put bytes parent (le (offset_len kind) target)

-- the bytes after an end: the same if the end returns an error; otherwise with the offset of the
-- directory written into the parent's link
abbrev pub linked_by : Result Offsets TiffError → FileKind → Option ℕ → List ℕ → List ℕ
linked_by (Err e) kind parent bytes = bytes
linked_by (Ok offsets) kind parent bytes = with_parent_link kind parent offsets.pointer bytes

-- An end appends, and changes no link except its parent's.
abbrev pub LinksParent : Option ℕ → WriteOutcome Offsets → FileState → Type 0
LinksParent parent told file =
    told.next.bytes ≡ linked_by told.answer file.kind parent
    (file.bytes ++ all_appended file.kind told.ops)

-- Each end appends, and changes no link except its parent's: the end of a directory, the end of an
-- image, `write_data` of an image, and `write_image`, whose parent is the last link of the IFD
-- chain.
pub record EndsLinkParent : Type 0 where
  pub directory : (d : OpenDirectory) (file : FileState) → LinksParent d.parent (finish d file) file
  pub image : (i : OpenImage) (file : FileState)
      → LinksParent i.directory.parent (finish_image i file) file
  pub samples : (i : OpenImage) (samples : List ℕ) (stored : List (List ℕ)) (file : FileState)
      → LinksParent i.directory.parent (write_image_data i samples stored file) file
  pub whole : (color : ColorTypeRecord) (size width height : ℕ) (samples : List ℕ)
      (stored : List (List ℕ)) (file : FileState)
      → LinksParent (Some file.chain) (write_image color size width height samples stored file) file
