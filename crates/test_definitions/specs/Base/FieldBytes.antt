-- Worked examples of the bytes of fields.
use Rattle.std.specs.Prelude.{◌≡◌, ℕ, ◌^◌, ◌-◌, List, [], ◌∷◌, Ok, Err}
use Rattle.tiff_base.specs.declared.error.TiffError.TheVariants.{IoError, LimitsExceeded}
use Rattle.tiff_base.specs.declared.io.IoKind.TheVariants.{UnexpectedEof}
use Rattle.tiff_base.specs.declared.tags.ByteOrder.TheVariants.{LittleEndian, BigEndian}
use Rattle.tiff_base.specs.declared.tags.FileKind.TheVariants.{Classic, Big}
use Rattle.tiff_base.specs.declared.tags.«Type».{«Type»}
use Rattle.tiff_base.specs.declared.tags.«Type».TheVariants.{BYTE, SHORT, LONG, RATIONAL, LONG8}
use Rattle.tiff_base.specs.Field.{Field}
use Rattle.tiff_base.specs.FieldBytes.{field_bytes}
use Rattle.test_definitions.specs.Files.{gray_file}

abbrev pub of : «Type» → ℕ → List ℕ → Field
of type count value = record { field_type = type; count = count; value = value }

-- mistake: `field_len` takes the count for the number of bytes
-- mistake: `bytes_of_field` doesn't read four bytes from the entry in a classic file
-- two SHORTs are in the entry
abbrev pub inline_shorts : Type 0
inline_shorts =
    field_bytes Classic LittleEndian []
    (of SHORT 2 (0x01 ∷ 0x00 ∷ 0x02 ∷ 0x00 ∷ 0x00 ∷ 0x00 ∷ 0x00 ∷ 0x00 ∷ []))
    ≡ Ok (0x01 ∷ 0x00 ∷ 0x02 ∷ 0x00 ∷ [])

-- one SHORT is at the front of its value field, in both byte orders
abbrev pub inline_front : Type 0
inline_front =
    field_bytes Classic BigEndian []
    (of SHORT 1 (0x00 ∷ 0x08 ∷ 0x00 ∷ 0x00 ∷ 0x00 ∷ 0x00 ∷ 0x00 ∷ 0x00
    ∷ [])) ≡ Ok (0x00 ∷ 0x08 ∷ [])

-- three SHORTs are at the offset in the entry
abbrev pub placed_shorts : Type 0
placed_shorts =
    field_bytes Classic LittleEndian (0xee ∷ 0xee ∷ 0x01 ∷ 0x00 ∷ 0x02 ∷ 0x00 ∷ 0x03 ∷ 0x00 ∷ [])
    (of SHORT 3 (0x02
    ∷ 0x00 ∷ 0x00 ∷ 0x00 ∷ 0x00 ∷ 0x00 ∷ 0x00 ∷ 0x00 ∷ []))
    ≡ Ok (0x01 ∷ 0x00 ∷ 0x02 ∷ 0x00 ∷ 0x03 ∷ 0x00 ∷ [])

-- a rational of the file of one gray pixel
abbrev pub placed_rational : Type 0
placed_rational =
    field_bytes Classic LittleEndian gray_file
    (of RATIONAL 1 (0x08 ∷ 0x00 ∷ 0x00 ∷ 0x00 ∷ 0x00 ∷ 0x00 ∷ 0x00
    ∷ 0x00 ∷ []))
    ≡ Ok (0x01 ∷ 0x00 ∷ 0x00 ∷ 0x00 ∷ 0x01 ∷ 0x00 ∷ 0x00 ∷ 0x00 ∷ [])

-- a rational at an offset of a big-endian file
abbrev pub placed_big_endian : Type 0
placed_big_endian =
    field_bytes Classic BigEndian gray_file
    (of RATIONAL 1 (0x00 ∷ 0x00 ∷ 0x00 ∷ 0x08 ∷ 0x00 ∷ 0x00 ∷ 0x00 ∷ 0x00
    ∷ []))
    ≡ Ok (0x01 ∷ 0x00 ∷ 0x00 ∷ 0x00 ∷ 0x01 ∷ 0x00 ∷ 0x00 ∷ 0x00 ∷ [])

-- eight bytes are in the entry of a BigTIFF file
abbrev pub inline_wide : Type 0
inline_wide =
    field_bytes Big LittleEndian []
    (of LONG8 1 (0x01 ∷ 0x02 ∷ 0x03 ∷ 0x04 ∷ 0x05 ∷ 0x06 ∷ 0x07 ∷ 0x08 ∷ []))
    ≡ Ok (0x01 ∷ 0x02 ∷ 0x03 ∷ 0x04 ∷ 0x05 ∷ 0x06 ∷ 0x07 ∷ 0x08 ∷ [])

-- nine bytes are at an offset of a BigTIFF file
abbrev pub placed_wide : Type 0
placed_wide =
    field_bytes Big LittleEndian (0x01 ∷ 0x02 ∷ 0x03 ∷ 0x04 ∷ 0x05 ∷ 0x06 ∷ 0x07 ∷ 0x08 ∷ 0x09
    ∷ []) (of BYTE 9 (0x00 ∷ 0x00 ∷ 0x00 ∷ 0x00 ∷ 0x00 ∷ 0x00 ∷ 0x00 ∷ 0x00 ∷ []))
    ≡ Ok (0x01 ∷ 0x02 ∷ 0x03 ∷ 0x04 ∷ 0x05 ∷ 0x06 ∷ 0x07 ∷ 0x08 ∷ 0x09 ∷ [])

-- a field without values has no bytes
abbrev pub no_bytes : Type 0
no_bytes =
    field_bytes Classic LittleEndian []
    (of LONG 0 (0xff ∷ 0xff ∷ 0xff ∷ 0xff ∷ 0x00 ∷ 0x00 ∷ 0x00 ∷ 0x00
    ∷ [])) ≡ Ok []

-- the eight bytes of a rational that begins at 195 are past the end of the 199 bytes
abbrev pub past_end : Type 0
past_end =
    field_bytes Classic LittleEndian gray_file
    (of RATIONAL 1 (0xc3 ∷ 0x00 ∷ 0x00 ∷ 0x00 ∷ 0x00 ∷ 0x00 ∷ 0x00
    ∷ 0x00 ∷ [])) ≡ Err (IoError UnexpectedEof)

-- mistake: `field_bytes` doesn't test their number
-- four bytes for each of 2^64 - 1 values are too many to count
abbrev pub too_many : Type 0
too_many =
    field_bytes Big LittleEndian gray_file
    (of LONG (2 ^ 64 - 1) (0x00 ∷ 0x00 ∷ 0x00 ∷ 0x00 ∷ 0x00 ∷ 0x00 ∷ 0x00
    ∷ 0x00 ∷ [])) ≡ Err LimitsExceeded

-- one byte for each of 2^64 - 1 values is countable, but past the end
abbrev pub just_counted : Type 0
just_counted =
    field_bytes Big LittleEndian gray_file
    (of BYTE (2 ^ 64 - 1) (0x00 ∷ 0x00 ∷ 0x00 ∷ 0x00 ∷ 0x00 ∷ 0x00 ∷ 0x00
    ∷ 0x00 ∷ []))
    ≡ Err (IoError UnexpectedEof)
