-- Worked examples of tag queries in a directory: numbers, all tags, and bytes.
use Rattle.std.specs.Prelude.{◌≡◌, ℕ, ◌^◌, take, List, [], ◌∷◌, Some, None, Ok, Err}
use Rattle.tiff_base.specs.declared.error.TiffError.TheVariants.{FormatError, IoError, LimitsExceeded}
use Rattle.tiff_base.specs.declared.error.TiffFormatError.TheVariants.{InconsistentSizesEncountered, InvalidTag, InvalidTagValueType, InvalidTypeForTag, RequiredTagNotFound}
use Rattle.tiff_base.specs.declared.io.IoKind.TheVariants.{UnexpectedEof}
use Rattle.tiff_base.specs.declared.tags.ByteOrder.TheVariants.{LittleEndian, BigEndian}
use Rattle.tiff_base.specs.declared.tags.FileKind.TheVariants.{Classic, Big}
use Rattle.tiff_base.specs.declared.tags.Tag.TheVariants as tag
use Rattle.tiff_base.specs.declared.tags.«Type».TheVariants.{BYTE, ASCII, SHORT, LONG, RATIONAL, LONG8}
use Rattle.tiff_base.specs.Directory.{last_of_each}
use Rattle.tiff_base.specs.Field.{Field}
use Rattle.tiff_base.specs.Tags.{tag_of}
use Rattle.tiff_value.specs.Buffer.{empty_buffer}
use Rattle.tiff_ifd.specs.declared.limits.Limits.{Limits}
use Rattle.tiff_ifd.specs.Limits.{unlimited}
use Rattle.tiff_ifd.specs.OneNumber.{one_number}
use Rattle.tiff_ifd.specs.PlainValue.{none, more, list, short, unsigned, float, ascii}
use Rattle.tiff_ifd.specs.Into.{into_f32}
use Rattle.tiff_ifd.specs.TagLookup.{require}
use Rattle.tiff_ifd.specs.TagQueries.{find_unsigned, find_unsigned_vec, get_unsigned, tag_items, buffer_of, refused_buffer, part_of_field}
use Rattle.test_definitions.specs.Base.FieldBytes.{of}
use Rattle.test_definitions.specs.Ifd.TagLookup.{told, some_fields}

-- Artist, a text; a tag without a name, one SHORT; and ImageDescription, a text without a zero at
-- its end
abbrev pub other_fields : List (ℕ × Field)
other_fields =
    (315, of ASCII 2 (0x41 ∷ 0x00 ∷ 0x00 ∷ 0x00 ∷ 0x00 ∷ 0x00 ∷ 0x00 ∷ 0x00 ∷ []))
    ∷ (7, of SHORT 1 (0x00 ∷ 0x01 ∷ 0x00 ∷ 0x00 ∷ 0x00 ∷ 0x00 ∷ 0x00 ∷ 0x00 ∷ []))
    ∷ (270, of ASCII 1 (0x41 ∷ 0x00 ∷ 0x00 ∷ 0x00 ∷ 0x00 ∷ 0x00 ∷ 0x00 ∷ 0x00 ∷ []))
    ∷ []

-- a file with the LONG 1 twice, at 8
abbrev pub twice_one : List ℕ
twice_one =
    0x00 ∷ 0x00 ∷ 0x00 ∷ 0x00 ∷ 0x00 ∷ 0x00 ∷ 0x00 ∷ 0x00 ∷ 0x01 ∷ 0x00 ∷ 0x00 ∷ 0x00 ∷ 0x01 ∷ 0x00
    ∷ 0x00 ∷ 0x00 ∷ []

-- a limit with this number of bytes
abbrev pub limited : ℕ → Limits
limited n = record { decoding_buffer_size = n; ifd_value_size = 0; intermediate_buffer_size = 0 }

-- a number below the limit
abbrev pub width_fits : Type 0
width_fits =
    find_unsigned 65536 (told ((256, unsigned 65535) ∷ [])) tag.ImageWidth ≡ Ok (Some 65535)

-- mistake: `fit` cuts a number to the limit
-- mistake: `find_unsigned` doesn't test a number that is too large
-- a number at the limit doesn't fit the wanted type
abbrev pub width_too_great : Type 0
width_too_great =
    find_unsigned 65536 (told ((256, unsigned 65536) ∷ [])) tag.ImageWidth
    ≡ Err (FormatError (InvalidTagValueType tag.ImageWidth))

-- a text isn't a number
abbrev pub width_no_number : Type 0
width_no_number =
    find_unsigned 65536 (told ((256, ascii []) ∷ [])) tag.ImageWidth
    ≡ Err (FormatError InvalidTypeForTag)

abbrev pub width_none : Type 0
width_none =
    find_unsigned 65536 (told []) tag.ImageWidth ≡ Ok None

-- numbers below the limit, and numbers of which one isn't
abbrev pub widths_fit : Type 0
widths_fit =
    find_unsigned_vec 256 (told ((256, list (more (short 8) (more (short 255) none))) ∷ []))
    tag.ImageWidth ≡ Ok (Some (8 ∷ 255 ∷ []))

-- mistake: `fitted_numbers` tests the first number alone
-- mistake: `find_unsigned_vec` doesn't test a number that is too large
abbrev pub widths_too_great : Type 0
widths_too_great =
    find_unsigned_vec 256 (told ((256, list (more (short 8) (more (short 256) none))) ∷ []))
    tag.ImageWidth
    ≡ Err (FormatError (InvalidTagValueType tag.ImageWidth))

-- all values must be numbers before the first is compared with the limit
abbrev pub widths_no_number : Type 0
widths_no_number =
    find_unsigned_vec 256 (told ((256, list (more (short 256) (more (ascii []) none))) ∷ []))
    tag.ImageWidth ≡ Err (FormatError InvalidTypeForTag)

abbrev pub widths_none : Type 0
widths_none =
    find_unsigned_vec 256 (told []) tag.ImageWidth ≡ Ok None

-- mistake: `get_unsigned` returns another error
-- mistake: `get_unsigned` returns any number
-- a required tag
abbrev pub width_got : Type 0
width_got =
    get_unsigned 256 (told ((256, short 255) ∷ [])) tag.ImageWidth ≡ Ok 255

abbrev pub width_got_not : Type 0
width_got_not =
    get_unsigned 256 (told []) tag.ImageWidth
    ≡ Err (FormatError (RequiredTagNotFound tag.ImageWidth))

-- a required tag, converted to floating point
abbrev pub float_got : Type 0
float_got =
    require into_f32 (told ((256, float 1) ∷ [])) tag.ImageWidth ≡ Ok 1

abbrev pub float_got_not : Type 0
float_got_not =
    require into_f32 (told []) tag.ImageWidth
    ≡ Err (FormatError (RequiredTagNotFound tag.ImageWidth))

-- tags by their numbers
abbrev pub tag_256 : Type 0
tag_256 =
    tag_of 256 ≡ tag.ImageWidth

abbrev pub tag_42113 : Type 0
tag_42113 =
    tag_of 42113 ≡ tag.GdalNodata

-- mistake: `tag_of` names ChromaPositioning for 532
abbrev pub tag_531 : Type 0
tag_531 =
    tag_of 531 ≡ tag.ChromaPositioning

-- tag numbers without a name
abbrev pub tag_0 : Type 0
tag_0 =
    tag_of 0 ≡ tag.Unknown 0

abbrev pub tag_65000 : Type 0
tag_65000 =
    tag_of 65000 ≡ tag.Unknown 65000

-- three items in ascending order of tag numbers, the last of which is an error
abbrev pub three_items : Type 0
three_items =
    tag_items Classic LittleEndian [] unlimited (last_of_each some_fields)
    ≡ Ok (tag.ImageWidth, short 5)
    ∷ Ok (tag.BitsPerSample, list (more (short 8) (more (short 8) none)))
    ∷ Err (IoError UnexpectedEof) ∷ []

-- mistake: `tag_items` gives each item the same tag
-- an item follows an error; entries may be in any order
abbrev pub fault_between : Type 0
fault_between =
    tag_items Classic BigEndian [] unlimited (last_of_each other_fields)
    ≡ Ok (tag.Unknown 7, short 1) ∷ Err (FormatError InvalidTag)
    ∷ Ok (tag.Artist, ascii (0x41 ∷ [])) ∷ []

abbrev pub no_items : Type 0
no_items =
    tag_items Classic LittleEndian [] unlimited (last_of_each []) ≡ []

-- mistake: `unlimited` allows no bytes
-- the raw bytes of two LONGs at 8
abbrev pub raw_longs : Type 0
raw_longs =
    buffer_of Classic LittleEndian twice_one unlimited
    (of LONG 2 (0x08 ∷ 0x00 ∷ 0x00 ∷ 0x00 ∷ 0x00 ∷ 0x00 ∷ 0x00 ∷ 0x00 ∷ []))
    ≡ Ok (record {
      order = LittleEndian;
      data_type = LONG;
      bytes = 0x01 ∷ 0x00 ∷ 0x00 ∷ 0x00 ∷ 0x01 ∷ 0x00 ∷ 0x00 ∷ 0x00 ∷ [];
    })

-- the raw bytes of a big-endian SHORT in its entry, which stay in big-endian order
abbrev pub raw_short : Type 0
raw_short =
    buffer_of Classic BigEndian [] unlimited
    (of SHORT 1 (0x00 ∷ 0x08 ∷ 0x00 ∷ 0x00 ∷ 0x00 ∷ 0x00 ∷ 0x00 ∷ 0x00 ∷ []))
    ≡ Ok (record { order = BigEndian; data_type = SHORT; bytes = 0x00 ∷ 0x08 ∷ [] })

-- a limit of one byte refuses a SHORT, and a limit of two doesn't
abbrev pub raw_limit : Type 0
raw_limit =
    buffer_of Classic BigEndian [] (limited 1)
    (of SHORT 1 (0x00 ∷ 0x08 ∷ 0x00 ∷ 0x00 ∷ 0x00 ∷ 0x00 ∷ 0x00 ∷ 0x00 ∷ []))
    ≡ Err LimitsExceeded

-- mistake: `buffer_of` refuses the limit itself
abbrev pub raw_at_limit : Type 0
raw_at_limit =
    buffer_of Classic BigEndian [] (limited 2)
    (of SHORT 1 (0x00 ∷ 0x08 ∷ 0x00 ∷ 0x00 ∷ 0x00 ∷ 0x00 ∷ 0x00 ∷ 0x00 ∷ []))
    ≡ Ok (record { order = BigEndian; data_type = SHORT; bytes = 0x00 ∷ 0x08 ∷ [] })

-- bytes past the end of the source; the limit is checked first
abbrev pub raw_past_end : Type 0
raw_past_end =
    buffer_of Classic LittleEndian twice_one unlimited
    (of LONG 2 (0x09 ∷ 0x00 ∷ 0x00 ∷ 0x00 ∷ 0x00 ∷ 0x00 ∷ 0x00 ∷ 0x00 ∷ []))
    ≡ Err (IoError UnexpectedEof)

abbrev pub raw_limit_first : Type 0
raw_limit_first =
    buffer_of Classic LittleEndian twice_one (limited 7)
    (of LONG 2 (0x09 ∷ 0x00 ∷ 0x00 ∷ 0x00 ∷ 0x00 ∷ 0x00 ∷ 0x00 ∷ 0x00 ∷ []))
    ≡ Err LimitsExceeded

-- more than 2^64 bytes
abbrev pub raw_too_many : Type 0
raw_too_many =
    buffer_of Classic LittleEndian twice_one unlimited
    (of RATIONAL (2 ^ 61) (0x08 ∷ 0x00 ∷ 0x00 ∷ 0x00 ∷ 0x00 ∷ 0x00 ∷ 0x00 ∷ 0x00 ∷ []))
    ≡ Err LimitsExceeded

-- mistake: `refused_buffer` empties the buffer for a limit too
-- a buffer keeps its content after a limit error, and has no values after another error
abbrev pub held : Type 0
held =
    refused_buffer BigEndian
    (of SHORT 1 (0x00 ∷ 0x08 ∷ 0x00 ∷ 0x00 ∷ 0x00 ∷ 0x00 ∷ 0x00 ∷ 0x00 ∷ []))
    (empty_buffer BYTE) LimitsExceeded ≡ empty_buffer BYTE

abbrev pub not_held : Type 0
not_held =
    refused_buffer BigEndian
    (of SHORT 1 (0x00 ∷ 0x08 ∷ 0x00 ∷ 0x00 ∷ 0x00 ∷ 0x00 ∷ 0x00 ∷ 0x00 ∷ []))
    (empty_buffer BYTE) (IoError UnexpectedEof)
    ≡ record { order = BigEndian; data_type = SHORT; bytes = [] }

-- two LONGs at 8, from their byte 4 on, into a slice of three bytes
abbrev pub part_at_4 : Type 0
part_at_4 =
    part_of_field Classic LittleEndian twice_one
    (of LONG 2 (0x08 ∷ 0x00 ∷ 0x00 ∷ 0x00 ∷ 0x00 ∷ 0x00 ∷ 0x00 ∷ 0x00 ∷ [])) 3 4
    ≡ Ok (0x01 ∷ 0x00 ∷ 0x00 ∷ [])

-- mistake: `part_of_field` reads past the value's end
-- two LONGs from their last byte on, and from their end on
abbrev pub part_at_7 : Type 0
part_at_7 =
    part_of_field Classic LittleEndian twice_one
    (of LONG 2 (0x08 ∷ 0x00 ∷ 0x00 ∷ 0x00 ∷ 0x00 ∷ 0x00 ∷ 0x00 ∷ 0x00 ∷ [])) 3 7
    ≡ Ok (0x00 ∷ [])

abbrev pub part_at_8 : Type 0
part_at_8 =
    part_of_field Classic LittleEndian twice_one
    (of LONG 2 (0x08 ∷ 0x00 ∷ 0x00 ∷ 0x00 ∷ 0x00 ∷ 0x00 ∷ 0x00 ∷ 0x00 ∷ [])) 3 8 ≡ Ok []

-- a SHORT in the entry, from byte 1 on
abbrev pub part_inline : Type 0
part_inline =
    part_of_field Classic LittleEndian []
    (of SHORT 1 (0x00 ∷ 0x08 ∷ 0x00 ∷ 0x00 ∷ 0x00 ∷ 0x00 ∷ 0x00 ∷ 0x00 ∷ [])) 3 1
    ≡ Ok (0x08 ∷ [])

-- in a file of 12 bytes the first three bytes of the value can be read, and the last three can't
abbrev pub part_of_cut : Type 0
part_of_cut =
    part_of_field Classic LittleEndian (take 12 twice_one)
    (of LONG 2 (0x08 ∷ 0x00 ∷ 0x00 ∷ 0x00 ∷ 0x00 ∷ 0x00 ∷ 0x00 ∷ 0x00 ∷ [])) 3 0
    ≡ Ok (0x01 ∷ 0x00 ∷ 0x00 ∷ [])

abbrev pub part_cut : Type 0
part_cut =
    part_of_field Classic LittleEndian (take 12 twice_one)
    (of LONG 2 (0x08 ∷ 0x00 ∷ 0x00 ∷ 0x00 ∷ 0x00 ∷ 0x00 ∷ 0x00 ∷ 0x00 ∷ [])) 3 5
    ≡ Err (IoError UnexpectedEof)

-- zero bytes can be read even past the end of the file
abbrev pub part_of_none : Type 0
part_of_none =
    part_of_field Classic LittleEndian []
    (of LONG 2 (0x08 ∷ 0x00 ∷ 0x00 ∷ 0x00 ∷ 0x00 ∷ 0x00 ∷ 0x00 ∷ 0x00 ∷ [])) 0 0 ≡ Ok []

-- mistake: `part_of_field` doesn't test an offset past 2^64
-- an offset past 2^64
abbrev pub part_past_u64 : Type 0
part_past_u64 =
    part_of_field Big LittleEndian twice_one
    (of LONG8 2 (0xff ∷ 0xff ∷ 0xff ∷ 0xff ∷ 0xff ∷ 0xff ∷ 0xff ∷ 0xff ∷ [])) 3 1
    ≡ Err (FormatError InconsistentSizesEncountered)

-- the largest offset is past the end of the file
abbrev pub part_at_last : Type 0
part_at_last =
    part_of_field Big LittleEndian twice_one
    (of LONG8 2 (0xff ∷ 0xff ∷ 0xff ∷ 0xff ∷ 0xff ∷ 0xff ∷ 0xff ∷ 0xff ∷ [])) 3 0
    ≡ Err (IoError UnexpectedEof)

-- mistake: `part_of_field` doesn't test the end of the value first
-- the end of the value is checked before the offset
abbrev pub part_end_first : Type 0
part_end_first =
    part_of_field Big LittleEndian twice_one
    (of LONG8 2 (0xff ∷ 0xff ∷ 0xff ∷ 0xff ∷ 0xff ∷ 0xff ∷ 0xff ∷ 0xff ∷ [])) 3 16 ≡ Ok []

-- more than 2^64 bytes are refused first
abbrev pub part_too_many : Type 0
part_too_many =
    part_of_field Big LittleEndian twice_one
    (of RATIONAL (2 ^ 61) (0xff ∷ 0xff ∷ 0xff ∷ 0xff ∷ 0xff ∷ 0xff ∷ 0xff ∷ 0xff ∷ [])) 0 0
    ≡ Err LimitsExceeded

-- ---- one number

-- a file with the LONGs 1 and 2 at 8
abbrev pub one_two : List ℕ
one_two =
    0x00 ∷ 0x00 ∷ 0x00 ∷ 0x00 ∷ 0x00 ∷ 0x00 ∷ 0x00 ∷ 0x00 ∷ 0x01 ∷ 0x00 ∷ 0x00 ∷ 0x00 ∷ 0x02 ∷ 0x00
    ∷ 0x00 ∷ 0x00 ∷ []

abbrev pub longs_at_8 : Field
longs_at_8 = of LONG 2 (0x08 ∷ 0x00 ∷ 0x00 ∷ 0x00 ∷ 0x00 ∷ 0x00 ∷ 0x00 ∷ 0x00 ∷ [])

abbrev pub number_second : Type 0
number_second = one_number Classic LittleEndian one_two longs_at_8 1 ≡ Ok 2

-- in a file of 12 bytes the first number can be read, and the second can't
abbrev pub number_of_cut : Type 0
number_of_cut = one_number Classic LittleEndian (take 12 one_two) longs_at_8 0 ≡ Ok 1

abbrev pub number_cut : Type 0
number_cut =
    one_number Classic LittleEndian (take 12 one_two) longs_at_8 1 ≡ Err (IoError UnexpectedEof)

-- the second of two SHORTs in the entry
abbrev pub number_inline : Type 0
number_inline =
    one_number Classic BigEndian []
    (of SHORT 2 (0x00 ∷ 0x01 ∷ 0x00 ∷ 0x02 ∷ 0x00 ∷ 0x00 ∷ 0x00 ∷ 0x00 ∷ [])) 1 ≡ Ok 2

abbrev pub number_past : Type 0
number_past =
    one_number Classic LittleEndian one_two longs_at_8 2
    ≡ Err (FormatError InconsistentSizesEncountered)

abbrev pub number_of_byte : Type 0
number_of_byte =
    one_number Classic LittleEndian one_two
    (of BYTE 2 (0x01 ∷ 0x02 ∷ 0x00 ∷ 0x00 ∷ 0x00 ∷ 0x00 ∷ 0x00 ∷ 0x00 ∷ [])) 0
    ≡ Err (FormatError InvalidTypeForTag)
