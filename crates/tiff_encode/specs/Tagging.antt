-- Fields are written one after another (this project's).
use Rattle.std.specs.Prelude.{◌≡◌, ℕ, ◌<◌, ◌⊎◌, List, [], ◌∷◌, length, map, take, drop, None, Ok}
use Rattle.tiff_base.specs.declared.error.TiffError.{TiffError}
use Rattle.tiff_base.specs.declared.tags.ResolutionUnit.{ResolutionUnit}
use Rattle.tiff_base.specs.declared.tags.Tag.{Tag}
use Rattle.tiff_value.specs.Data.{FieldData, Scalars, data_of}
use Rattle.tiff_encode.specs.Machine.{FileState, OpenDirectory, OpenImage, WriteCall, gives, ◌>>=◌}
use Rattle.tiff_encode.specs.Causes.{resolution_cause}
use Rattle.tiff_encode.specs.Calls.{write_tag, with_directory_of, resolution_tags, resolution}
use Rattle.tiff_encode.specs.Ends.{EndsAsDefined, CallFails}

-- writes the field of each tag
abbrev pub write_fields : OpenDirectory → List (Tag × FieldData) → WriteCall OpenDirectory
write_fields d [] = gives d
write_fields d (value ∷ values) = do
  next ← write_tag d value.0 (Ok value.1)
  write_fields next values

-- the first of some fields are written, and the others fail
abbrev pub StopsInPart : OpenDirectory → List (Tag × FieldData) → TiffError → FileState → FileState
    → OpenDirectory → Type 0
StopsInPart d values e old new next =
    (k : ℕ) × ((k < length values) × ((mid : FileState)
    × (EndsAsDefined (write_fields d (take k values) old) (Ok next) mid
    × CallFails (write_fields next (drop k values) mid) e mid new)))

-- tags and their values, as tags and the data of their fields
abbrev pub fields_of : List (Tag × Scalars) → List (Tag × FieldData)
fields_of values = map (λ v. (v.0, data_of v.1)) values

-- After an error of `resolution`: the image doesn't change; or, if no error applies before the
-- first write, the first of its tags are set.
abbrev pub StopsResolving : OpenImage → ResolutionUnit → ℕ × ℕ → TiffError → FileState → FileState
    → OpenImage → Type 0
StopsResolving i u value e old new now =
    ((now ≡ i) × CallFails (resolution i u value old) e old new) ⊎ ((resolution_cause old ≡ None)
    × ((d : OpenDirectory)
    × ((now ≡ with_directory_of i d)
    × StopsInPart i.directory (fields_of (resolution_tags u value)) e old new d)))
