-- The steps by which a value is written for a field, and a directory ends.
use Rattle.std.specs.Prelude.{◌≡◌, ℕ, ◌⊎◌, ◌&&◌, List, [], Option, Some, None, Result, MatchResult, if◌then◌else◌, nat_lt}
use Rattle.std.specs.FinMap.{len}
use Rattle.tiff_base.specs.declared.error.TiffError.{TiffError}
use Rattle.tiff_base.specs.declared.error.TiffError.TheVariants.{IntSizeError, OutOfMemory}
use Rattle.tiff_base.specs.declared.tags.FileKind.{FileKind}
use Rattle.tiff_base.specs.Directory.{link_offset}
use Rattle.tiff_base.specs.Field.{Field}
use Rattle.tiff_value.specs.Data.{FieldData}
use Rattle.tiff_value.specs.FileBytes.{offset_len, directory_bytes}
use Rattle.tiff_encode.specs.Machine.{FileState, OpenDirectory}
use Rattle.tiff_encode.specs.Encoder.{AppendIsCut, IsTorn}
use Rattle.tiff_encode.specs.FileWrites.{file_with_bytes}
use Rattle.tiff_encode.specs.Causes.{is_past, end_of}
use Rattle.tiff_value.specs.Fields.{is_long, field_at}
use Rattle.tiff_value.specs.WriteOps.{bytes_after}
use Rattle.tiff_encode.specs.Calls.{links_to}

-- the error of a field of a number of values and a number of bytes, at the end of a file of a
-- length
unfoldable pub field_test : FileKind → ℕ → ℕ → ℕ → Option TiffError
field_test kind end count len =
    if is_past kind count then Some IntSizeError
    else if nat_lt (offset_len kind) len && is_past kind end then Some IntSizeError
    else None

-- the bytes that are appended for the value of a field
abbrev pub appended_for : FileKind → FieldData → List ℕ
appended_for kind value = if is_long kind value then value.bytes else []

module _ {A : Type 0} where
  -- a check that passes or returns its error
  abbrev pub Checks : Option TiffError → Result A TiffError → Type 0
  Checks cause r = MatchResult r (λ _. cause ≡ None) (λ e. cause ≡ Some e)

-- a value is written for a field; or the sink fails
abbrev pub Places : FieldData → FileState → FileState → Result Field TiffError → Type 0
Places value old new r =
    MatchResult r
    (λ field. (field ≡ field_at old.kind (end_of old) value)
    × (new ≡ file_with_bytes old (appended_for old.kind value)))
    (λ e. AppendIsCut (appended_for old.kind value) e old new)

-- ---- the end of a directory

-- a directory is appended, and the result is the offset of its own link; or the sink fails; or
-- memory is out
abbrev pub Lists : OpenDirectory → FileState → FileState → Result ℕ TiffError → Type 0
Lists d old new r =
    MatchResult r
    (λ link. (link ≡ link_offset old.kind (end_of old) (len d.fields))
    × (new ≡ file_with_bytes old (directory_bytes old.kind d.fields)))
    (λ e. AppendIsCut (directory_bytes old.kind d.fields) e old new ⊎ ((e ≡ OutOfMemory)
    × (new ≡ old)))

-- the parent's link points to a directory, if there is a parent; or the sink fails
abbrev pub LinksFrom : {A : Type 0} → Option ℕ → ℕ → FileState → FileState → Result A TiffError
    → Type 0
LinksFrom parent directory old new r =
    MatchResult r
    (λ _. new ≡ record old { bytes = bytes_after old.kind old.bytes (links_to parent directory) })
    (λ e. (offset : ℕ) × ((parent ≡ Some offset) × IsTorn [] offset directory e old new))
