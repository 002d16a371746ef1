-- Worked examples of the values of fields.
use Rattle.std.specs.Prelude.{◌≡◌, ℕ, ◌^◌, ◌-◌, pos, negsuc, [], ◌∷◌, Ok, Err}
use Rattle.tiff_base.specs.declared.error.TiffError.TheVariants.{FormatError, IoError, LimitsExceeded}
use Rattle.tiff_base.specs.declared.error.TiffFormatError.TheVariants.{InvalidTag}
use Rattle.tiff_base.specs.declared.io.IoKind.TheVariants.{UnexpectedEof}
use Rattle.tiff_base.specs.declared.tags.ByteOrder.TheVariants.{LittleEndian, BigEndian}
use Rattle.tiff_base.specs.declared.tags.FileKind.TheVariants.{Classic, Big}
use Rattle.tiff_base.specs.declared.tags.«Type».TheVariants.{BYTE, ASCII, SHORT, LONG, RATIONAL, SBYTE, UNDEFINED, SSHORT, SRATIONAL, FLOAT, LONG8}
use Rattle.tiff_ifd.specs.declared.limits.Limits.{Limits}
use Rattle.tiff_ifd.specs.Limits.{unlimited}
use Rattle.tiff_ifd.specs.PlainValue.{none, more, list, byte, short, unsigned, unsigned_big, signed, signed_short, float, rational, srational, ascii}
use Rattle.tiff_ifd.specs.FieldValue.{field_value}
use Rattle.tiff_ifd.specs.Unsigned.{field_numbers, placed_numbers}
use Rattle.test_definitions.specs.Files.{gray_file}
use Rattle.test_definitions.specs.Base.FieldBytes.{of}

-- limits with this number of bytes for decoded values
abbrev pub limited : ℕ → Limits
limited n = record unlimited { decoding_buffer_size = n }

-- a field without values is an empty list, wherever its offset is
abbrev pub no_values : Type 0
no_values =
    field_value Classic LittleEndian [] (limited 0)
    (of LONG 0 (0xff ∷ 0xff ∷ 0xff ∷ 0xff ∷ 0x00 ∷ 0x00
    ∷ 0x00 ∷ 0x00 ∷ [])) ≡ Ok (list none)

-- mistake: `numbers` makes a list of one number
-- one SHORT, in both byte orders
abbrev pub one_short : Type 0
one_short =
    field_value Classic LittleEndian [] (limited 0)
    (of SHORT 1 (0x08 ∷ 0x00 ∷ 0x00 ∷ 0x00 ∷ 0x00 ∷ 0x00
    ∷ 0x00 ∷ 0x00 ∷ [])) ≡ Ok (short 8)

abbrev pub one_short_big_endian : Type 0
one_short_big_endian =
    field_value Classic BigEndian [] (limited 0)
    (of SHORT 1 (0x00 ∷ 0x08 ∷ 0x00 ∷ 0x00 ∷ 0x00 ∷ 0x00 ∷ 0x00 ∷ 0x00
    ∷ [])) ≡ Ok (short 8)

-- one LONG, one UNDEFINED byte, a negative SSHORT, and a FLOAT as its bits
abbrev pub one_long : Type 0
one_long =
    field_value Classic LittleEndian [] unlimited
    (of LONG 1 (0x40 ∷ 0x42 ∷ 0x0f ∷ 0x00 ∷ 0x00 ∷ 0x00 ∷ 0x00 ∷ 0x00
    ∷ [])) ≡ Ok (unsigned 1000000)

-- mistake: `item` reads UNDEFINED as a LONG
abbrev pub one_undefined : Type 0
one_undefined =
    field_value Classic LittleEndian [] unlimited (of UNDEFINED 1 (0xff ∷ 0x00 ∷ 0x00 ∷ 0x00 ∷ 0x00
    ∷ 0x00 ∷ 0x00 ∷ 0x00 ∷ [])) ≡ Ok (byte 255)

abbrev pub minus_two : Type 0
minus_two =
    field_value Classic LittleEndian [] unlimited
    (of SSHORT 1 (0xfe ∷ 0xff ∷ 0x00 ∷ 0x00 ∷ 0x00 ∷ 0x00 ∷ 0x00
    ∷ 0x00 ∷ [])) ≡ Ok (signed_short (negsuc 1))

abbrev pub one_float : Type 0
one_float =
    field_value Classic LittleEndian [] unlimited
    (of FLOAT 1 (0x00 ∷ 0x00 ∷ 0x80 ∷ 0x3f ∷ 0x00 ∷ 0x00 ∷ 0x00
    ∷ 0x00 ∷ [])) ≡ Ok (float 0x3f800000)

-- one byte is a byte, and two bytes in the entry are wider numbers
abbrev pub one_byte : Type 0
one_byte =
    field_value Classic LittleEndian [] unlimited
    (of BYTE 1 (0x01 ∷ 0x00 ∷ 0x00 ∷ 0x00 ∷ 0x00 ∷ 0x00 ∷ 0x00
    ∷ 0x00 ∷ [])) ≡ Ok (byte 1)

-- mistake: `inline_item` keeps a BYTE as a byte
abbrev pub two_bytes : Type 0
two_bytes =
    field_value Classic LittleEndian [] unlimited
    (of BYTE 2 (0x01 ∷ 0x02 ∷ 0x00 ∷ 0x00 ∷ 0x00 ∷ 0x00 ∷ 0x00 ∷ 0x00
    ∷ []))
    ≡ Ok (list (more (unsigned 1) (more (unsigned 2) none)))

-- two signed bytes in the entry are wider numbers
abbrev pub two_signed_bytes : Type 0
two_signed_bytes =
    field_value Classic LittleEndian [] unlimited
    (of SBYTE 2 (0xff ∷ 0x02 ∷ 0x00 ∷ 0x00 ∷ 0x00 ∷ 0x00 ∷ 0x00
    ∷ 0x00 ∷ []))
    ≡ Ok (list (more (signed (negsuc 0)) (more (signed (pos 2)) none)))

-- mistake: `list_item` widens the numbers elsewhere too
-- five bytes at an offset are bytes
abbrev pub five_bytes : Type 0
five_bytes =
    field_value Classic LittleEndian (0xee ∷ 0x01 ∷ 0x02 ∷ 0x03 ∷ 0x04 ∷ 0x05 ∷ []) unlimited
    (of BYTE 5 (0x01
    ∷ 0x00 ∷ 0x00 ∷ 0x00 ∷ 0x00 ∷ 0x00 ∷ 0x00 ∷ 0x00 ∷ []))
    ≡ Ok (list (more (byte 1) (more (byte 2) (more (byte 3) (more (byte 4) (more (byte 5) none))))))

-- mistake: `is_zero` takes a space for a zero
-- mistake: `without_zeros` keeps the zeros at the front
-- a text of three characters in the entry, of which the first and the last are zeros: A
abbrev pub text_a : Type 0
text_a = field_value Classic LittleEndian [] unlimited
    (of ASCII 3 (0x00 ∷ 0x41 ∷ 0x00 ∷ 0x00 ∷ 0x00 ∷ 0x00 ∷ 0x00
    ∷ 0x00 ∷ [])) ≡ Ok (ascii (0x41 ∷ []))

-- a text of one character must be a zero
abbrev pub text_one : Type 0
text_one =
    field_value Classic LittleEndian [] unlimited
    (of ASCII 1 (0x41 ∷ 0x00 ∷ 0x00 ∷ 0x00 ∷ 0x00 ∷ 0x00 ∷ 0x00
    ∷ 0x00 ∷ [])) ≡ Err (FormatError InvalidTag)

abbrev pub text_empty : Type 0
text_empty =
    field_value Classic LittleEndian [] unlimited
    (of ASCII 1 (0x00 ∷ 0x00 ∷ 0x00 ∷ 0x00 ∷ 0x00 ∷ 0x00
    ∷ 0x00 ∷ 0x00 ∷ [])) ≡ Ok (ascii [])

-- mistake: `inline_text` doesn't test the last byte
-- mistake: `value_from` reads texts in the entry as those elsewhere
-- a text in the entry without a zero at its end, and one that isn't ASCII
abbrev pub text_open : Type 0
text_open =
    field_value Classic LittleEndian [] unlimited
    (of ASCII 2 (0x41 ∷ 0x42 ∷ 0x00 ∷ 0x00 ∷ 0x00 ∷ 0x00 ∷ 0x00
    ∷ 0x00 ∷ [])) ≡ Err (FormatError InvalidTag)

-- mistake: `is_ascii_byte` takes each byte below 256 for ASCII
abbrev pub text_not_ascii : Type 0
text_not_ascii =
    field_value Classic LittleEndian [] unlimited
    (of ASCII 3 (0xc3 ∷ 0xa4 ∷ 0x00 ∷ 0x00 ∷ 0x00 ∷ 0x00 ∷ 0x00
    ∷ 0x00 ∷ [])) ≡ Err (FormatError InvalidTag)

-- mistake: `placed_text` doesn't cut at a zero
-- a text at an offset ends before its first zero
abbrev pub text_cut : Type 0
text_cut =
    field_value Classic LittleEndian (0x41 ∷ 0x42 ∷ 0x00 ∷ 0x43 ∷ 0x44 ∷ []) unlimited
    (of ASCII 5 (0x00 ∷ 0x00
    ∷ 0x00 ∷ 0x00 ∷ 0x00 ∷ 0x00 ∷ 0x00 ∷ 0x00 ∷ []))
    ≡ Ok (ascii (0x41 ∷ 0x42 ∷ []))

-- mistake: `placed_text` allows ASCII alone
-- a text at an offset needs no zero, and may be UTF-8
abbrev pub text_utf8 : Type 0
text_utf8 =
    field_value Classic LittleEndian (0x41 ∷ 0x42 ∷ 0x43 ∷ 0xc3 ∷ 0xa4 ∷ []) unlimited
    (of ASCII 5 (0x00 ∷ 0x00
    ∷ 0x00 ∷ 0x00 ∷ 0x00 ∷ 0x00 ∷ 0x00 ∷ 0x00 ∷ []))
    ≡ Ok (ascii (0x41 ∷ 0x42 ∷ 0x43 ∷ 0xc3 ∷ 0xa4 ∷ []))

-- a text at an offset must be UTF-8
abbrev pub text_not_utf8 : Type 0
text_not_utf8 =
    field_value Classic LittleEndian (0x41 ∷ 0x42 ∷ 0x43 ∷ 0xc3 ∷ 0x28 ∷ []) unlimited
    (of ASCII 5 (0x00 ∷ 0x00
    ∷ 0x00 ∷ 0x00 ∷ 0x00 ∷ 0x00 ∷ 0x00 ∷ 0x00 ∷ []))
    ≡ Err (FormatError InvalidTag)

-- a text at an offset with more characters than the limit has bytes
abbrev pub text_limit : Type 0
text_limit =
    field_value Classic LittleEndian (0x41 ∷ 0x42 ∷ 0x43 ∷ 0x44 ∷ 0x45 ∷ []) (limited 4)
    (of ASCII 5 (0x00 ∷ 0x00
    ∷ 0x00 ∷ 0x00 ∷ 0x00 ∷ 0x00 ∷ 0x00 ∷ 0x00 ∷ []))
    ≡ Err LimitsExceeded

-- mistake: `items` reads each value one byte after the one before
-- three SHORTs at an offset: three values of 32 bytes fit into 96 bytes, and not into 95
abbrev pub three_shorts : Type 0
three_shorts =
    field_value Classic LittleEndian (0x01 ∷ 0x00 ∷ 0x02 ∷ 0x00 ∷ 0x03 ∷ 0x00 ∷ []) (limited 96)
    (of SHORT 3 (0x00
    ∷ 0x00 ∷ 0x00 ∷ 0x00 ∷ 0x00 ∷ 0x00 ∷ 0x00 ∷ 0x00 ∷ []))
    ≡ Ok (list (more (short 1) (more (short 2) (more (short 3) none))))

-- mistake: `is_allowed` counts 16 bytes for a value
abbrev pub list_limit : Type 0
list_limit =
    field_value Classic LittleEndian (0x01 ∷ 0x00 ∷ 0x02 ∷ 0x00 ∷ 0x03 ∷ 0x00 ∷ []) (limited 95)
    (of SHORT 3 (0x00
    ∷ 0x00 ∷ 0x00 ∷ 0x00 ∷ 0x00 ∷ 0x00 ∷ 0x00 ∷ 0x00 ∷ []))
    ≡ Err LimitsExceeded

-- mistake: `placed_value` tests the end of the source before the limit
-- the limit is checked before the end of the file
abbrev pub limit_first : Type 0
limit_first =
    field_value Classic LittleEndian [] (limited 95)
    (of SHORT 3 (0x00 ∷ 0x00 ∷ 0x00 ∷ 0x00 ∷ 0x00 ∷ 0x00 ∷ 0x00
    ∷ 0x00 ∷ [])) ≡ Err LimitsExceeded

abbrev pub past_end : Type 0
past_end =
    field_value Classic LittleEndian [] (limited 96)
    (of SHORT 3 (0x00 ∷ 0x00 ∷ 0x00 ∷ 0x00 ∷ 0x00 ∷ 0x00 ∷ 0x00
    ∷ 0x00 ∷ []))
    ≡ Err (IoError UnexpectedEof)

-- mistake: `is_allowed` limits a single value
-- one number of eight bytes is at an offset in a classic file; it has no limit
abbrev pub long8_placed : Type 0
long8_placed =
    field_value Classic LittleEndian (0x00 ∷ 0x00 ∷ 0x00 ∷ 0x00 ∷ 0x01 ∷ 0x00 ∷ 0x00 ∷ 0x00
    ∷ []) (limited 0) (of LONG8 1 (0x00 ∷ 0x00 ∷ 0x00 ∷ 0x00 ∷ 0x00 ∷ 0x00 ∷ 0x00 ∷ 0x00 ∷ []))
    ≡ Ok (unsigned_big 4294967296)

-- one number of eight bytes is in the entry of a BigTIFF file
abbrev pub long8_inline : Type 0
long8_inline =
    field_value Big LittleEndian [] (limited 0)
    (of LONG8 1 (0x00 ∷ 0x00 ∷ 0x00 ∷ 0x00 ∷ 0x01 ∷ 0x00 ∷ 0x00 ∷ 0x00
    ∷ [])) ≡ Ok (unsigned_big 4294967296)

-- a resolution of the file of one gray pixel
abbrev pub resolution : Type 0
resolution =
    field_value Classic LittleEndian gray_file unlimited
    (of RATIONAL 1 (0x08 ∷ 0x00 ∷ 0x00 ∷ 0x00 ∷ 0x00 ∷ 0x00
    ∷ 0x00 ∷ 0x00 ∷ [])) ≡ Ok (rational 1 1)

-- each of the two numbers of a rational is in the byte order
abbrev pub big_endian_rational : Type 0
big_endian_rational =
    field_value Classic BigEndian (0x00 ∷ 0x00 ∷ 0x00 ∷ 0x01 ∷ 0xff ∷ 0xff ∷ 0xff ∷ 0xff
    ∷ []) unlimited (of SRATIONAL 1 (0x00 ∷ 0x00 ∷ 0x00 ∷ 0x00 ∷ 0x00 ∷ 0x00 ∷ 0x00 ∷ 0x00 ∷ []))
    ≡ Ok (srational (pos 1) (negsuc 0))

-- more bytes than a 64-bit number can count
abbrev pub too_many : Type 0
too_many =
    field_value Big LittleEndian [] unlimited
    (of LONG (2 ^ 64 - 1) (0x00 ∷ 0x00 ∷ 0x00 ∷ 0x00 ∷ 0x00 ∷ 0x00 ∷ 0x00
    ∷ 0x00 ∷ [])) ≡ Err LimitsExceeded

-- the numbers of a list at an offset, and of one number at an offset
abbrev pub three_numbers : Type 0
three_numbers =
    field_numbers Classic LittleEndian (0x01 ∷ 0x00 ∷ 0x02 ∷ 0x00 ∷ 0x03 ∷ 0x00 ∷ []) (limited 96)
    (of SHORT 3 (0x00
    ∷ 0x00 ∷ 0x00 ∷ 0x00 ∷ 0x00 ∷ 0x00 ∷ 0x00 ∷ 0x00 ∷ []))
    ≡ Ok (1 ∷ 2 ∷ 3 ∷ [])

-- mistake: `field_numbers` takes one number elsewhere in the file for no list
abbrev pub one_number : Type 0
one_number =
    field_numbers Classic LittleEndian (0x00 ∷ 0x00 ∷ 0x00 ∷ 0x00 ∷ 0x01 ∷ 0x00 ∷ 0x00 ∷ 0x00
    ∷ []) (limited 0) (of LONG8 1 (0x00 ∷ 0x00 ∷ 0x00 ∷ 0x00 ∷ 0x00 ∷ 0x00 ∷ 0x00 ∷ 0x00 ∷ []))
    ≡ Ok (4294967296 ∷ [])

-- mistake: `placed_numbers` limits the number of bytes
-- the limit for numbers is that for values
abbrev pub numbers_limit : Type 0
numbers_limit =
    placed_numbers Classic LittleEndian [] (limited 95)
    (of SHORT 3 (0x00 ∷ 0x00 ∷ 0x00 ∷ 0x00 ∷ 0x00 ∷ 0x00 ∷ 0x00
    ∷ 0x00 ∷ []))
    ≡ Err LimitsExceeded
