-- The numbers of a field, and those of the unsigned types of several bytes: SHORT, LONG and LONG8
-- (TIFF 6.0 section 2; BigTIFF).
use Rattle.std.specs.Prelude.{◌≡◌, ◌⊎◌, ℕ, List, Result, Err, false, if◌then◌else◌}
use Rattle.std.specs.Int.{Width, w16, w32, w64}
use Rattle.tiff_base.specs.Answers.{◌>>=◌}
use Rattle.tiff_base.specs.Field.{Field}
use Rattle.tiff_base.specs.FieldBytes.{field_bytes}
use Rattle.tiff_base.specs.declared.error.TiffError.{TiffError}
use Rattle.tiff_base.specs.declared.error.TiffError.TheVariants.{LimitsExceeded}
use Rattle.tiff_base.specs.declared.tags.ByteOrder.{ByteOrder}
use Rattle.tiff_base.specs.declared.tags.FileKind.{FileKind}
use Rattle.tiff_base.specs.declared.tags.«Type».{«Type»}
use Rattle.tiff_base.specs.declared.tags.«Type».TheVariants as t
use Rattle.tiff_ifd.specs.FieldValue.{field_value, is_allowed, value_from}
use Rattle.tiff_ifd.specs.Into.{into_u64_vec}
use Rattle.tiff_ifd.specs.declared.limits.Limits.{Limits}

-- the numbers of a field of any type
abbrev pub field_numbers : FileKind → ByteOrder → List ℕ → Limits → Field
    → Result (List ℕ) TiffError
field_numbers kind order bytes limits e = field_value kind order bytes limits e >>= into_u64_vec

-- the numbers of values outside the entry, from their bytes
abbrev pub numbers_from : «Type» → ByteOrder → ℕ → List ℕ → Result (List ℕ) TiffError
numbers_from type order n bs = value_from false type order n bs >>= into_u64_vec

-- the numbers of a field whose values are outside the entry
abbrev pub placed_numbers : FileKind → ByteOrder → List ℕ → Limits → Field
    → Result (List ℕ) TiffError
placed_numbers kind order bytes limits e =
    if is_allowed limits e.field_type e.count
    then (field_bytes kind order bytes e >>= λ found. numbers_from e.field_type order e.count found)
    else Err LimitsExceeded

-- the unsigned types of several bytes: SHORT, LONG and LONG8
abbrev pub IsUnsigned : «Type» → Type 0
IsUnsigned type = (type ≡ t.SHORT) ⊎ ((type ≡ t.LONG) ⊎ (type ≡ t.LONG8))

-- the width of a SHORT, LONG or LONG8
abbrev pub unsigned_width : «Type» → Width
unsigned_width t.SHORT = w16
unsigned_width t.LONG = w32
unsigned_width type = w64
