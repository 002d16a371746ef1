-- The laws that the writes of a call are valid for a file that contains a model.
use Rattle.std.specs.Prelude.{◌≡◌, ℕ, ◌^◌, ◌<◌, List, length, Some, None, Ok}
use Rattle.tiff_base.specs.declared.tags.ExtraSamples.{ExtraSamples}
use Rattle.tiff_base.specs.declared.tags.ResolutionUnit.{ResolutionUnit}
use Rattle.tiff_base.specs.Field.{AreEntries}
use Rattle.tiff_value.specs.ColorType.{ColorTypeRecord}
use Rattle.tiff_value.specs.Data.{FieldData, IsWhole}
use Rattle.tiff_value.specs.Model.{Model, IsLink}
use Rattle.tiff_value.specs.FileLaws.{AreListable, OpsFit}
use Rattle.tiff_encode.specs.Machine.{FileState, OpenDirectory, OpenImage, WriteCall}
use Rattle.tiff_encode.specs.Causes.{end_of, field_cause}
use Rattle.tiff_encode.specs.Calls.{Offsets, placed_field, finish, new_image, extra_samples, set_rows_per_strip, tiles, planar, resolution, x_resolution, y_resolution, resolution_unit, write_strip, write_chunk, finish_image}

-- the writes of a value for a field are valid, if the call isn't refused
abbrev pub PlacedFits : Type 0
PlacedFits = (file : FileState) (m : Model) (value : FieldData) → IsWhole value
    → field_cause file value ≡ None
    → end_of file < 2 ^ 64 → length value.bytes < 2 ^ 64
    → OpsFit file.kind file.bytes m (placed_field value file).ops

-- the writes that end a directory are valid, if its parent is a link of the model
abbrev pub FinishFits : Type 0
FinishFits = (file : FileState) (m : Model) (d : OpenDirectory) → AreListable file.kind d.fields
    → ((offset : ℕ) → d.parent ≡ Some offset → IsLink file.kind m offset)
    → end_of file < 2 ^ 64 → OpsFit file.kind file.bytes m (finish d file).ops

-- ---- images

-- a call of an image that returns an image makes valid writes, and the fields of the image's
-- directory are still valid entries
abbrev pub CallFits : (OpenImage → WriteCall OpenImage) → Type 0
CallFits call = (file : FileState) (m : Model) (i next : OpenImage) → AreEntries i.directory.fields
    → (call i file).answer ≡ Ok next → end_of (call i file).next < 2 ^ 64
    → OpsFit file.kind file.bytes m (call i file).ops × AreEntries next.directory.fields

-- the writes of `new_image` are valid
abbrev pub NewImageFits : Type 0
NewImageFits =
    (file : FileState) (m : Model) (color : ColorTypeRecord) (size width height : ℕ) (i : OpenImage)
    → (new_image color size width height file).answer ≡ Ok i
    → end_of (new_image color size width height file).next < 2 ^ 64
    → OpsFit file.kind file.bytes m (new_image color size width height file).ops
    × AreEntries i.directory.fields

abbrev pub SettingsFit : Type 0
SettingsFit =
    ((extra : List ExtraSamples) → CallFits (λ i. extra_samples i extra))
    × (((rows : ℕ) → CallFits (λ i. set_rows_per_strip i rows))
    × (((width length : ℕ) → CallFits (λ i. tiles i width length))
    × CallFits planar))

abbrev pub ResolutionsFit : Type 0
ResolutionsFit =
    ((u : ResolutionUnit) (value : ℕ × ℕ) → CallFits (λ i. resolution i u value))
    × (((value : ℕ × ℕ) → CallFits (λ i. x_resolution i value))
    × (((value : ℕ × ℕ) → CallFits (λ i. y_resolution i value))
    × ((u : ResolutionUnit) → CallFits (λ i. resolution_unit i u))))

-- the writes of a chunk with a given number of samples, stored as given bytes, are valid
abbrev pub ChunksFit : Type 0
ChunksFit = (count : ℕ) (stored : List ℕ) → CallFits (λ i. write_strip i count stored)
    × CallFits (λ i. write_chunk i count stored)

-- the writes that end an image are valid, if its parent is a link of the model
abbrev pub FinishImageFits : Type 0
FinishImageFits = (file : FileState) (m : Model) (i : OpenImage) (offsets : Offsets)
    → AreEntries i.directory.fields
    → (finish_image i file).answer ≡ Ok offsets → end_of (finish_image i file).next < 2 ^ 64
    → ((offset : ℕ) → i.directory.parent ≡ Some offset → IsLink file.kind m offset)
    → OpsFit file.kind file.bytes m (finish_image i file).ops
