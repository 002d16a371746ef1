-- Worked examples of fields that are written in part: both resolutions and their unit.
use Rattle.std.specs.Prelude.{◌≡◌, ℕ, true, List, [], ◌∷◌, length, Some}
use Rattle.tiff_base.specs.declared.error.TiffError.{TiffError}
use Rattle.tiff_base.specs.declared.error.TiffError.TheVariants.{UsageError, OutOfMemory}
use Rattle.tiff_base.specs.declared.error.UsageError.TheVariants.{WriterFailed}
use Rattle.tiff_base.specs.declared.tags.FileKind.TheVariants.{Classic}
use Rattle.tiff_base.specs.declared.tags.ResolutionUnit.TheVariants as unit
use Rattle.tiff_base.specs.declared.tags.Tag.{Tag}
use Rattle.tiff_value.specs.Data.{FieldData}
use Rattle.tiff_encode.specs.Machine.{FileState, OpenDirectory, OpenImage}
use Rattle.tiff_encode.specs.Calls as calls
use Rattle.tiff_encode.specs.Calls.{new_directory}
use Rattle.tiff_encode.specs.Tagging.{fields_of, StopsInPart, StopsResolving}
use Rattle.test_definitions.specs.OneValue.{short_field, rational_field}
use Rattle.test_definitions.specs.Encode.Calls.{with_fields}
use Rattle.test_definitions.specs.Encode.Causes.{new_file, failed_file, file_with, pixel}
use Rattle.test_definitions.specs.Encode.ImageJobs.{unit_pixel, resolved_pixel}

-- the fields of the resolution unit and both resolutions
abbrev pub three_fields : List (Tag × FieldData)
three_fields = fields_of (calls.resolution_tags unit.Inch (300, 1))

-- a directory with none of the fields, with the unit, with only the first resolution, and with all
abbrev pub none_set : OpenDirectory
none_set = new_directory (Some 4) true

abbrev pub unit_set : OpenDirectory
unit_set = with_fields none_set ((296, short_field 2) ∷ [])

abbrev pub x_set : OpenDirectory
x_set = with_fields none_set ((282, rational_field 8) ∷ [])

abbrev pub all_set : OpenDirectory
all_set =
    with_fields none_set
    ((283, rational_field 16) ∷ (282, rational_field 8) ∷ (296, short_field 2) ∷ [])

-- ---- some of several fields

-- the unit is written, and there is no memory for the next field
abbrev pub unit_alone : Type 0
unit_alone =
    StopsInPart none_set three_fields OutOfMemory (new_file Classic) (new_file Classic) unit_set

-- mistake: `StopsInPart` allows that all are written (`none_stopped` fails too)
-- there is no error if all fields are written, and none is left out before a written one
abbrev pub all_stopped : Type 0
all_stopped = (e : TiffError) (new : FileState)
    → StopsInPart none_set three_fields e (new_file Classic) new all_set → ⊥

-- mistake: `StopsInPart` allows one that isn't the first
abbrev pub left_out : Type 0
left_out = (e : TiffError) (new : FileState)
    → StopsInPart none_set three_fields e (new_file Classic) new x_set → ⊥

-- an empty list of fields has no missing one
abbrev pub none_stopped : Type 0
none_stopped = (e : TiffError) (new : FileState) (next : OpenDirectory)
    → StopsInPart none_set [] e (new_file Classic) new next → ⊥

-- ---- the resolution of an image

-- the unit is set; or nothing is set, if the sink failed before
abbrev pub resolving_unit : Type 0
resolving_unit =
    StopsResolving pixel unit.Inch (300, 1) OutOfMemory (new_file Classic) (new_file Classic)
    unit_pixel

abbrev pub resolving_failed : Type 0
resolving_failed =
    StopsResolving pixel unit.Inch (300, 1) (UsageError WriterFailed) failed_file failed_file pixel

-- mistake: `StopsResolving` sets the unit in a refused call
-- the unit isn't set after a failed sink or without an offset for the second resolution, and never
-- are all fields set
abbrev pub resolving_refused : Type 0
resolving_refused = (e : TiffError) (new : FileState)
    → StopsResolving pixel unit.Inch (300, 1) e failed_file new unit_pixel → ⊥

abbrev pub resolving_far : Type 0
resolving_far = (bytes : List ℕ) (e : TiffError) (new : FileState) → length bytes ≡ 4294967288
    → StopsResolving pixel unit.Inch (300, 1) e (file_with Classic bytes) new unit_pixel → ⊥

abbrev pub resolving_all : Type 0
resolving_all = (e : TiffError) (new : FileState)
    → StopsResolving pixel unit.Inch (300, 1) e (new_file Classic) new resolved_pixel → ⊥

-- mistake: `StopsResolving` changes the image otherwise
-- setting the resolution changes nothing else of the image
abbrev pub resolving_chunk : Type 0
resolving_chunk = (e : TiffError) (new : FileState) (now : OpenImage) → length now.chunks ≡ 1
    → StopsResolving pixel unit.Inch (300, 1) e (new_file Classic) new now → ⊥
