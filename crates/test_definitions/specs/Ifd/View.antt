-- Worked examples of views: values as plain data in contracts.
use Rattle.std.specs.Prelude.{◌≡◌, ℕ, ℤ, pos, negsuc, [], ◌∷◌, Vec, true, false, Some}
use Rattle.std.specs.FinMap.{empty, get}
use Rattle.tiff_base.specs.declared.tags.Tag.TheVariants as tag
use Rattle.tiff_base.specs.declared.tags.«Type».TheVariants.{BYTE}
use Rattle.tiff_base.specs.Directory.{with_entries}
use Rattle.tiff_base.specs.Field.{Field, DirectoryRecord}
use Rattle.tiff_ifd.specs.Same.{same}
use Rattle.std.specs.declared.alloc.Global.{Global}
use Rattle.tiff_base.specs.declared.tags.Bits16.{Bits16}
use Rattle.tiff_ifd.specs.PlainValue as d
use Rattle.tiff_ifd.specs.PlainValue.{none, more}
use Rattle.tiff_ifd.specs.View.{plain_value, plain_values}
use Rattle.tiff_ifd.specs.declared.value.Value.{Value}
use Rattle.tiff_ifd.specs.declared.value.Value.TheVariants as v
use Rattle.tiff_page.specs.declared.layout.DecodingSampleType.TheVariants as type
use Rattle.tiff_decode.specs.declared.result.DecodingResult.TheVariants as result
use Rattle.tiff_decode.specs.Lending.{with_u8}
use Rattle.tiff_decode.specs.Result.{decoded_as, whole_numbers, bytes_of}

-- a number, and a list within a list
abbrev pub byte_seen : Type 0
byte_seen = plain_value (v.Byte 3) ≡ d.byte 3

-- mistake: `plain_value` drops the items of a list that a list contains
abbrev pub list_seen : Type 0
list_seen =
    (outer inner : Vec Value Global) → inner.items ≡ (v.Byte 2 ∷ [])
    → outer.items ≡ (v.Short 1 ∷ v.List inner ∷ [])
    → plain_value (v.List outer)
    ≡ d.list (more (d.short 1) (more (d.list (more (d.byte 2) none)) none))

-- floating-point numbers are their bits
abbrev pub float_seen : Type 0
float_seen = plain_value (v.Float (record { 0 = 0x3f80_0000 })) ≡ d.float 0x3f80_0000

abbrev pub two_seen : Type 0
two_seen = plain_values (v.Byte 1 ∷ v.Short 2 ∷ []) ≡ (d.byte 1 ∷ d.short 2 ∷ [])

-- decoded samples as their bits: unsigned, signed and floating-point numbers
abbrev pub bytes_decoded : Type 0
bytes_decoded = (samples : Vec ℕ Global)
    → decoded_as (result.U8 samples) ≡ record { sample_type = type.U8; numbers = samples.items }

-- mistake: `decoded_as` takes signed numbers for unsigned ones
abbrev pub signed_decoded : Type 0
signed_decoded = (samples : Vec ℤ Global) → samples.items ≡ (negsuc 0 ∷ pos 1 ∷ negsuc 127 ∷ [])
    → decoded_as (result.I8 samples)
    ≡ record { sample_type = type.I8; numbers = 0xff ∷ 0x01 ∷ 0x80 ∷ [] }

abbrev pub floats_decoded : Type 0
floats_decoded = (samples : Vec Bits16 Global) → samples.items ≡ (record { 0 = 0x3c00 } ∷ [])
    → decoded_as (result.F16 samples) ≡ record { sample_type = type.F16; numbers = 0x3c00 ∷ [] }

-- mistake: `lends_rest` puts what is written at the front
-- samples are written after the first one, which stays
abbrev pub first_stays : Type 0
first_stays = (samples : Vec ℕ Global) → samples.items ≡ (1 ∷ 2 ∷ 3 ∷ [])
    → decoded_as (with_u8 (result.U8 samples) 1 (8 ∷ 9 ∷ []))
    ≡ record { sample_type = type.U8; numbers = 1 ∷ 8 ∷ 9 ∷ [] }

-- mistake: `whole_numbers` puts none after others
-- bytes whose last number is filled up with zeros, and bytes of whole numbers
abbrev pub zeros_behind : Type 0
zeros_behind = whole_numbers 4 (1 ∷ 2 ∷ 3 ∷ 4 ∷ 5 ∷ []) ≡ 1 ∷ 2 ∷ 3 ∷ 4 ∷ 5 ∷ 0 ∷ 0 ∷ 0 ∷ []

-- mistake: `whole_numbers` puts zeros after whole numbers
abbrev pub no_zeros : Type 0
no_zeros = whole_numbers 2 (1 ∷ 2 ∷ []) ≡ 1 ∷ 2 ∷ []

-- mistake: `bytes_of` has the highest byte first
-- the bytes of samples, in little-endian order
abbrev pub wide_bytes : Type 0
wide_bytes = bytes_of (record { sample_type = type.U16; numbers = 0x0102 ∷ 0x0304 ∷ [] })
    ≡ (0x02 ∷ 0x01 ∷ 0x04 ∷ 0x03 ∷ [])

-- ---- equal values

abbrev pub bytes_same : Type 0
bytes_same = same (d.byte 1) (d.byte 1) ≡ true

-- mistake: `same` takes other kinds for the same
-- values of different types differ, though their numbers are equal
abbrev pub byte_short : Type 0
byte_short = same (d.byte 1) (d.short 1) ≡ false

-- lists are compared by their items, at any depth
abbrev pub lists_same : Type 0
lists_same =
    same (d.list (more (d.list (more (d.byte 1) none)) none))
    (d.list (more (d.list (more (d.byte 1) none)) none)) ≡ true

-- mistake: `same` takes a shorter list for the same
abbrev pub lists_differ : Type 0
lists_differ =
    (same (d.list (more (d.list (more (d.byte 1) none)) none))
    (d.list (more (d.list (more (d.byte 2) none)) none)) ≡ false)
    × (same (d.list (more (d.byte 1) none)) (d.list none) ≡ false)

-- mistake: `same` compares one number of a rational
-- rationals are compared by both numbers, and texts by their bytes
abbrev pub rationals_differ : Type 0
rationals_differ = same (d.rational 1 2) (d.rational 1 3) ≡ false

abbrev pub texts_differ : Type 0
texts_differ = same (d.ascii (0x41 ∷ [])) (d.ascii (0x41 ∷ 0x41 ∷ [])) ≡ false

-- ---- fields that are set one after another

abbrev pub one_byte : Field
one_byte = record { field_type = BYTE; count = 1; value = [] }

abbrev pub no_fields : DirectoryRecord
no_fields = record { entries = empty; next = Some 8 }

-- mistake: `with_entries` sets a field under another number
-- of two fields with one tag number the last is kept, whatever names the tags have
abbrev pub last_set : Type 0
last_set =
    get (with_entries no_fields
    ((tag.Unknown 256, one_byte) ∷ (tag.ImageWidth, record one_byte { count = 2 })
    ∷ [])).entries 256
    ≡ Some (record one_byte { count = 2 })

-- mistake: `with_entries` loses the link
-- nothing is set, and the next directory is kept
abbrev pub none_set : Type 0
none_set = (with_entries no_fields [] ≡ no_fields)
    × ((with_entries no_fields ((tag.Make, one_byte) ∷ [])).next ≡ Some 8)
