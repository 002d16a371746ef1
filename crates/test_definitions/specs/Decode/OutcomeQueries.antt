-- Worked examples of calls of decoders that return the tags of a page.
use Rattle.std.specs.Prelude.{◌≡◌, [], ◌∷◌, Some, None, Ok, Err}
use Rattle.tiff_base.specs.declared.error.TiffError.TheVariants.{FormatError, IntSizeError}
use Rattle.tiff_base.specs.declared.error.TiffFormatError.TheVariants.{RequiredTagNotFound, InvalidTypeForTag}
use Rattle.tiff_base.specs.declared.tags.ByteOrder.TheVariants.{LittleEndian}
use Rattle.tiff_base.specs.declared.tags.Tag.TheVariants as tag
use Rattle.tiff_base.specs.declared.tags.«Type».TheVariants.{BYTE, ASCII, SHORT, LONG, LONG8, FLOAT, DOUBLE, RATIONAL, UNDEFINED}
use Rattle.tiff_base.specs.Field.{Field}
use Rattle.tiff_value.specs.Buffer.{empty_buffer}
use Rattle.tiff_ifd.specs.PlainValue as d
use Rattle.tiff_decode.specs.Machine.{Decoding, stays}
use Rattle.tiff_decode.specs.Outcome as outcome
use Rattle.test_definitions.specs.Files.{gray_file, one_short}
use Rattle.test_definitions.specs.Decoders.{fields_decoder}

-- a decoder of `gray_file` whose page has only this field
abbrev pub one_field : Field → Decoding
one_field f = fields_decoder gray_file ((65000, f) ∷ [])

-- a value, and a missing tag
abbrev pub value_found : Type 0
value_found =
    outcome.find_tag
    (one_field (one_short (0x01 ∷ 0x00 ∷ 0x00 ∷ 0x00 ∷ 0x00 ∷ 0x00 ∷ 0x00 ∷ 0x00 ∷ [])))
    (tag.Unknown 65000)
    ≡ stays (one_field (one_short (0x01 ∷ 0x00 ∷ 0x00 ∷ 0x00 ∷ 0x00 ∷ 0x00 ∷ 0x00 ∷ 0x00 ∷ [])))
    (Ok (Some (d.short 1)))

-- mistake: `find_tag` returns an error for a missing tag
abbrev pub value_none : Type 0
value_none =
    outcome.find_tag (fields_decoder gray_file []) (tag.Unknown 65000)
    ≡ stays (fields_decoder gray_file []) (Ok None)

-- a number, and a text
abbrev pub unsigned_found : Type 0
unsigned_found =
    outcome.find_tag_unsigned
    (one_field (one_short (0x01 ∷ 0x00 ∷ 0x00 ∷ 0x00 ∷ 0x00 ∷ 0x00 ∷ 0x00 ∷ 0x00 ∷ [])))
    (tag.Unknown 65000)
    ≡ stays (one_field (one_short (0x01 ∷ 0x00 ∷ 0x00 ∷ 0x00 ∷ 0x00 ∷ 0x00 ∷ 0x00 ∷ 0x00 ∷ [])))
    (Ok (Some 1))

abbrev pub unsigned_text : Type 0
unsigned_text =
    outcome.find_tag_unsigned
    (one_field
    (record {
      field_type = ASCII;
      count = 2;
      value = 0x41 ∷ 0x00 ∷ 0x00 ∷ 0x00 ∷ 0x00 ∷ 0x00 ∷ 0x00 ∷ 0x00 ∷ [];
    }))
    (tag.Unknown 65000)
    ≡ stays (one_field
    (record {
      field_type = ASCII;
      count = 2;
      value = 0x41 ∷ 0x00 ∷ 0x00 ∷ 0x00 ∷ 0x00 ∷ 0x00 ∷ 0x00 ∷ 0x00 ∷ [];
    }))
    (Err (FormatError InvalidTypeForTag))

-- a list of integers, and a list of floating-point numbers
abbrev pub unsigned_list : Type 0
unsigned_list =
    outcome.find_tag_unsigned_vec
    (one_field
    (record {
      field_type = LONG;
      count = 2;
      value = 0x08 ∷ 0x00 ∷ 0x00 ∷ 0x00 ∷ 0x00 ∷ 0x00 ∷ 0x00 ∷ 0x00 ∷ [];
    }))
    (tag.Unknown 65000)
    ≡ stays (one_field
    (record {
      field_type = LONG;
      count = 2;
      value = 0x08 ∷ 0x00 ∷ 0x00 ∷ 0x00 ∷ 0x00 ∷ 0x00 ∷ 0x00 ∷ 0x00 ∷ [];
    }))
    (Ok (Some (1 ∷ 1 ∷ [])))

abbrev pub unsigned_float : Type 0
unsigned_float =
    outcome.find_tag_unsigned_vec
    (one_field
    (record {
      field_type = FLOAT;
      count = 1;
      value = 0x00 ∷ 0x00 ∷ 0x80 ∷ 0x3f ∷ 0x00 ∷ 0x00 ∷ 0x00 ∷ 0x00 ∷ [];
    }))
    (tag.Unknown 65000)
    ≡ stays (one_field
    (record {
      field_type = FLOAT;
      count = 1;
      value = 0x00 ∷ 0x00 ∷ 0x80 ∷ 0x3f ∷ 0x00 ∷ 0x00 ∷ 0x00 ∷ 0x00 ∷ [];
    }))
    (Err (FormatError InvalidTypeForTag))

-- a required value
abbrev pub value_got : Type 0
value_got =
    outcome.get_tag
    (one_field (one_short (0x01 ∷ 0x00 ∷ 0x00 ∷ 0x00 ∷ 0x00 ∷ 0x00 ∷ 0x00 ∷ 0x00 ∷ [])))
    (tag.Unknown 65000)
    ≡ stays (one_field (one_short (0x01 ∷ 0x00 ∷ 0x00 ∷ 0x00 ∷ 0x00 ∷ 0x00 ∷ 0x00 ∷ 0x00 ∷ [])))
    (Ok (d.short 1))

abbrev pub value_missing : Type 0
value_missing =
    outcome.get_tag (fields_decoder gray_file []) (tag.Unknown 65000)
    ≡ stays (fields_decoder gray_file [])
    (Err (FormatError (RequiredTagNotFound (tag.Unknown 65000))))

-- mistake: `get_tag_unsigned` reads 32 bits for 64
-- a required number
abbrev pub number_got : Type 0
number_got =
    outcome.get_tag_unsigned
    (one_field
    (record {
      field_type = LONG8;
      count = 1;
      value = 0x08 ∷ 0x00 ∷ 0x00 ∷ 0x00 ∷ 0x00 ∷ 0x00 ∷ 0x00 ∷ 0x00 ∷ [];
    }))
    (tag.Unknown 65000)
    ≡ stays (one_field
    (record {
      field_type = LONG8;
      count = 1;
      value = 0x08 ∷ 0x00 ∷ 0x00 ∷ 0x00 ∷ 0x00 ∷ 0x00 ∷ 0x00 ∷ 0x00 ∷ [];
    }))
    (Ok 4294967297)

abbrev pub number_missing : Type 0
number_missing = outcome.get_tag_unsigned (fields_decoder gray_file []) (tag.Unknown 65000)
    ≡ stays (fields_decoder gray_file [])
    (Err (FormatError (RequiredTagNotFound (tag.Unknown 65000))))

-- a required number that fits into 32 bits, and one that doesn't
abbrev pub u32_got : Type 0
u32_got =
    outcome.get_tag_u32
    (one_field (one_short (0x01 ∷ 0x00 ∷ 0x00 ∷ 0x00 ∷ 0x00 ∷ 0x00 ∷ 0x00 ∷ 0x00 ∷ [])))
    (tag.Unknown 65000)
    ≡ stays (one_field (one_short (0x01 ∷ 0x00 ∷ 0x00 ∷ 0x00 ∷ 0x00 ∷ 0x00 ∷ 0x00 ∷ 0x00 ∷ [])))
    (Ok 1)

abbrev pub u32_too_great : Type 0
u32_too_great =
    outcome.get_tag_u32
    (one_field
    (record {
      field_type = LONG8;
      count = 1;
      value = 0x08 ∷ 0x00 ∷ 0x00 ∷ 0x00 ∷ 0x00 ∷ 0x00 ∷ 0x00 ∷ 0x00 ∷ [];
    }))
    (tag.Unknown 65000)
    ≡ stays (one_field
    (record {
      field_type = LONG8;
      count = 1;
      value = 0x08 ∷ 0x00 ∷ 0x00 ∷ 0x00 ∷ 0x00 ∷ 0x00 ∷ 0x00 ∷ 0x00 ∷ [];
    }))
    (Err IntSizeError)

-- a required number of 64 bits
abbrev pub u64_got : Type 0
u64_got =
    outcome.get_tag_u64
    (one_field
    (record {
      field_type = LONG8;
      count = 1;
      value = 0x08 ∷ 0x00 ∷ 0x00 ∷ 0x00 ∷ 0x00 ∷ 0x00 ∷ 0x00 ∷ 0x00 ∷ [];
    }))
    (tag.Unknown 65000)
    ≡ stays (one_field
    (record {
      field_type = LONG8;
      count = 1;
      value = 0x08 ∷ 0x00 ∷ 0x00 ∷ 0x00 ∷ 0x00 ∷ 0x00 ∷ 0x00 ∷ 0x00 ∷ [];
    }))
    (Ok 4294967297)

abbrev pub u64_text : Type 0
u64_text =
    outcome.get_tag_u64
    (one_field
    (record {
      field_type = ASCII;
      count = 2;
      value = 0x41 ∷ 0x00 ∷ 0x00 ∷ 0x00 ∷ 0x00 ∷ 0x00 ∷ 0x00 ∷ 0x00 ∷ [];
    }))
    (tag.Unknown 65000)
    ≡ stays (one_field
    (record {
      field_type = ASCII;
      count = 2;
      value = 0x41 ∷ 0x00 ∷ 0x00 ∷ 0x00 ∷ 0x00 ∷ 0x00 ∷ 0x00 ∷ 0x00 ∷ [];
    }))
    (Err (FormatError InvalidTypeForTag))

-- a floating-point number as its bits
abbrev pub f32_got : Type 0
f32_got =
    outcome.get_tag_f32
    (one_field
    (record {
      field_type = FLOAT;
      count = 1;
      value = 0x00 ∷ 0x00 ∷ 0x80 ∷ 0x3f ∷ 0x00 ∷ 0x00 ∷ 0x00 ∷ 0x00 ∷ [];
    }))
    (tag.Unknown 65000)
    ≡ stays (one_field
    (record {
      field_type = FLOAT;
      count = 1;
      value = 0x00 ∷ 0x00 ∷ 0x80 ∷ 0x3f ∷ 0x00 ∷ 0x00 ∷ 0x00 ∷ 0x00 ∷ [];
    }))
    (Ok 0x3f80_0000)

abbrev pub f32_short : Type 0
f32_short =
    outcome.get_tag_f32
    (one_field (one_short (0x01 ∷ 0x00 ∷ 0x00 ∷ 0x00 ∷ 0x00 ∷ 0x00 ∷ 0x00 ∷ 0x00 ∷ [])))
    (tag.Unknown 65000)
    ≡ stays (one_field (one_short (0x01 ∷ 0x00 ∷ 0x00 ∷ 0x00 ∷ 0x00 ∷ 0x00 ∷ 0x00 ∷ 0x00 ∷ [])))
    (Err (FormatError InvalidTypeForTag))

abbrev pub f64_got : Type 0
f64_got =
    outcome.get_tag_f64
    (one_field
    (record {
      field_type = DOUBLE;
      count = 1;
      value = 0x08 ∷ 0x00 ∷ 0x00 ∷ 0x00 ∷ 0x00 ∷ 0x00 ∷ 0x00 ∷ 0x00 ∷ [];
    }))
    (tag.Unknown 65000)
    ≡ stays (one_field
    (record {
      field_type = DOUBLE;
      count = 1;
      value = 0x08 ∷ 0x00 ∷ 0x00 ∷ 0x00 ∷ 0x00 ∷ 0x00 ∷ 0x00 ∷ 0x00 ∷ [];
    }))
    (Ok 0x0000_0001_0000_0001)

abbrev pub f64_float : Type 0
f64_float =
    outcome.get_tag_f64
    (one_field
    (record {
      field_type = FLOAT;
      count = 1;
      value = 0x00 ∷ 0x00 ∷ 0x80 ∷ 0x3f ∷ 0x00 ∷ 0x00 ∷ 0x00 ∷ 0x00 ∷ [];
    }))
    (tag.Unknown 65000)
    ≡ stays (one_field
    (record {
      field_type = FLOAT;
      count = 1;
      value = 0x00 ∷ 0x00 ∷ 0x80 ∷ 0x3f ∷ 0x00 ∷ 0x00 ∷ 0x00 ∷ 0x00 ∷ [];
    }))
    (Err (FormatError InvalidTypeForTag))

-- a list of numbers of 32 bits
abbrev pub u32s_got : Type 0
u32s_got =
    outcome.get_tag_u32_vec
    (one_field
    (record {
      field_type = LONG;
      count = 2;
      value = 0x08 ∷ 0x00 ∷ 0x00 ∷ 0x00 ∷ 0x00 ∷ 0x00 ∷ 0x00 ∷ 0x00 ∷ [];
    }))
    (tag.Unknown 65000)
    ≡ stays (one_field
    (record {
      field_type = LONG;
      count = 2;
      value = 0x08 ∷ 0x00 ∷ 0x00 ∷ 0x00 ∷ 0x00 ∷ 0x00 ∷ 0x00 ∷ 0x00 ∷ [];
    }))
    (Ok (1 ∷ 1 ∷ []))

abbrev pub u32s_float : Type 0
u32s_float =
    outcome.get_tag_u32_vec
    (one_field
    (record {
      field_type = FLOAT;
      count = 1;
      value = 0x00 ∷ 0x00 ∷ 0x80 ∷ 0x3f ∷ 0x00 ∷ 0x00 ∷ 0x00 ∷ 0x00 ∷ [];
    }))
    (tag.Unknown 65000)
    ≡ stays (one_field
    (record {
      field_type = FLOAT;
      count = 1;
      value = 0x00 ∷ 0x00 ∷ 0x80 ∷ 0x3f ∷ 0x00 ∷ 0x00 ∷ 0x00 ∷ 0x00 ∷ [];
    }))
    (Err (FormatError InvalidTypeForTag))

abbrev pub u16s_got : Type 0
u16s_got =
    outcome.get_tag_u16_vec
    (one_field
    (record {
      field_type = SHORT;
      count = 2;
      value = 0x01 ∷ 0x00 ∷ 0x02 ∷ 0x00 ∷ 0x00 ∷ 0x00 ∷ 0x00 ∷ 0x00 ∷ [];
    }))
    (tag.Unknown 65000)
    ≡ stays (one_field
    (record {
      field_type = SHORT;
      count = 2;
      value = 0x01 ∷ 0x00 ∷ 0x02 ∷ 0x00 ∷ 0x00 ∷ 0x00 ∷ 0x00 ∷ 0x00 ∷ [];
    }))
    (Ok (1 ∷ 2 ∷ []))

abbrev pub u16s_rational : Type 0
u16s_rational =
    outcome.get_tag_u16_vec
    (one_field
    (record {
      field_type = RATIONAL;
      count = 1;
      value = 0x08 ∷ 0x00 ∷ 0x00 ∷ 0x00 ∷ 0x00 ∷ 0x00 ∷ 0x00 ∷ 0x00 ∷ [];
    }))
    (tag.Unknown 65000)
    ≡ stays (one_field
    (record {
      field_type = RATIONAL;
      count = 1;
      value = 0x08 ∷ 0x00 ∷ 0x00 ∷ 0x00 ∷ 0x00 ∷ 0x00 ∷ 0x00 ∷ 0x00 ∷ [];
    }))
    (Err (FormatError InvalidTypeForTag))

-- a rational as two numbers
abbrev pub u64s_got : Type 0
u64s_got =
    outcome.get_tag_u64_vec
    (one_field
    (record {
      field_type = RATIONAL;
      count = 1;
      value = 0x08 ∷ 0x00 ∷ 0x00 ∷ 0x00 ∷ 0x00 ∷ 0x00 ∷ 0x00 ∷ 0x00 ∷ [];
    }))
    (tag.Unknown 65000)
    ≡ stays (one_field
    (record {
      field_type = RATIONAL;
      count = 1;
      value = 0x08 ∷ 0x00 ∷ 0x00 ∷ 0x00 ∷ 0x00 ∷ 0x00 ∷ 0x00 ∷ 0x00 ∷ [];
    }))
    (Ok (1 ∷ 1 ∷ []))

abbrev pub u64s_float : Type 0
u64s_float =
    outcome.get_tag_u64_vec
    (one_field
    (record {
      field_type = FLOAT;
      count = 1;
      value = 0x00 ∷ 0x00 ∷ 0x80 ∷ 0x3f ∷ 0x00 ∷ 0x00 ∷ 0x00 ∷ 0x00 ∷ [];
    }))
    (tag.Unknown 65000)
    ≡ stays (one_field
    (record {
      field_type = FLOAT;
      count = 1;
      value = 0x00 ∷ 0x00 ∷ 0x80 ∷ 0x3f ∷ 0x00 ∷ 0x00 ∷ 0x00 ∷ 0x00 ∷ [];
    }))
    (Err (FormatError InvalidTypeForTag))

abbrev pub f32s_got : Type 0
f32s_got =
    outcome.get_tag_f32_vec
    (one_field
    (record {
      field_type = FLOAT;
      count = 2;
      value = 0x08 ∷ 0x00 ∷ 0x00 ∷ 0x00 ∷ 0x00 ∷ 0x00 ∷ 0x00 ∷ 0x00 ∷ [];
    }))
    (tag.Unknown 65000)
    ≡ stays (one_field
    (record {
      field_type = FLOAT;
      count = 2;
      value = 0x08 ∷ 0x00 ∷ 0x00 ∷ 0x00 ∷ 0x00 ∷ 0x00 ∷ 0x00 ∷ 0x00 ∷ [];
    }))
    (Ok (1 ∷ 1 ∷ []))

abbrev pub f32s_long : Type 0
f32s_long =
    outcome.get_tag_f32_vec
    (one_field
    (record {
      field_type = LONG;
      count = 2;
      value = 0x08 ∷ 0x00 ∷ 0x00 ∷ 0x00 ∷ 0x00 ∷ 0x00 ∷ 0x00 ∷ 0x00 ∷ [];
    }))
    (tag.Unknown 65000)
    ≡ stays (one_field
    (record {
      field_type = LONG;
      count = 2;
      value = 0x08 ∷ 0x00 ∷ 0x00 ∷ 0x00 ∷ 0x00 ∷ 0x00 ∷ 0x00 ∷ 0x00 ∷ [];
    }))
    (Err (FormatError InvalidTypeForTag))

abbrev pub f64s_got : Type 0
f64s_got =
    outcome.get_tag_f64_vec
    (one_field
    (record {
      field_type = DOUBLE;
      count = 2;
      value = 0x08 ∷ 0x00 ∷ 0x00 ∷ 0x00 ∷ 0x00 ∷ 0x00 ∷ 0x00 ∷ 0x00 ∷ [];
    }))
    (tag.Unknown 65000)
    ≡ stays (one_field
    (record {
      field_type = DOUBLE;
      count = 2;
      value = 0x08 ∷ 0x00 ∷ 0x00 ∷ 0x00 ∷ 0x00 ∷ 0x00 ∷ 0x00 ∷ 0x00 ∷ [];
    }))
    (Ok (0x0000_0001_0000_0001 ∷ 0x0000_0001_0000_0001 ∷ []))

abbrev pub f64s_float : Type 0
f64s_float =
    outcome.get_tag_f64_vec
    (one_field
    (record {
      field_type = FLOAT;
      count = 2;
      value = 0x08 ∷ 0x00 ∷ 0x00 ∷ 0x00 ∷ 0x00 ∷ 0x00 ∷ 0x00 ∷ 0x00 ∷ [];
    }))
    (tag.Unknown 65000)
    ≡ stays (one_field
    (record {
      field_type = FLOAT;
      count = 2;
      value = 0x08 ∷ 0x00 ∷ 0x00 ∷ 0x00 ∷ 0x00 ∷ 0x00 ∷ 0x00 ∷ 0x00 ∷ [];
    }))
    (Err (FormatError InvalidTypeForTag))

-- bytes at an offset; bytes in the entry have a wider type
abbrev pub bytes_got : Type 0
bytes_got =
    outcome.get_tag_u8_vec
    (one_field
    (record {
      field_type = UNDEFINED;
      count = 5;
      value = 0x08 ∷ 0x00 ∷ 0x00 ∷ 0x00 ∷ 0x00 ∷ 0x00 ∷ 0x00 ∷ 0x00 ∷ [];
    }))
    (tag.Unknown 65000)
    ≡ stays (one_field
    (record {
      field_type = UNDEFINED;
      count = 5;
      value = 0x08 ∷ 0x00 ∷ 0x00 ∷ 0x00 ∷ 0x00 ∷ 0x00 ∷ 0x00 ∷ 0x00 ∷ [];
    }))
    (Ok (1 ∷ 0 ∷ 0 ∷ 0 ∷ 1 ∷ []))

-- mistake: `get_tag_u8_vec` accepts BYTEs in the entry as bytes
abbrev pub bytes_inline : Type 0
bytes_inline =
    outcome.get_tag_u8_vec
    (one_field
    (record {
      field_type = BYTE;
      count = 2;
      value = 0x01 ∷ 0x02 ∷ 0x00 ∷ 0x00 ∷ 0x00 ∷ 0x00 ∷ 0x00 ∷ 0x00 ∷ [];
    }))
    (tag.Unknown 65000)
    ≡ stays (one_field
    (record {
      field_type = BYTE;
      count = 2;
      value = 0x01 ∷ 0x02 ∷ 0x00 ∷ 0x00 ∷ 0x00 ∷ 0x00 ∷ 0x00 ∷ 0x00 ∷ [];
    }))
    (Err (FormatError InvalidTypeForTag))

abbrev pub text_got : Type 0
text_got =
    outcome.get_tag_ascii_string
    (one_field
    (record {
      field_type = ASCII;
      count = 2;
      value = 0x41 ∷ 0x00 ∷ 0x00 ∷ 0x00 ∷ 0x00 ∷ 0x00 ∷ 0x00 ∷ 0x00 ∷ [];
    }))
    (tag.Unknown 65000)
    ≡ stays (one_field
    (record {
      field_type = ASCII;
      count = 2;
      value = 0x41 ∷ 0x00 ∷ 0x00 ∷ 0x00 ∷ 0x00 ∷ 0x00 ∷ 0x00 ∷ 0x00 ∷ [];
    }))
    (Ok (0x41 ∷ []))

abbrev pub text_number : Type 0
text_number =
    outcome.get_tag_ascii_string
    (one_field (one_short (0x01 ∷ 0x00 ∷ 0x00 ∷ 0x00 ∷ 0x00 ∷ 0x00 ∷ 0x00 ∷ 0x00 ∷ [])))
    (tag.Unknown 65000)
    ≡ stays (one_field (one_short (0x01 ∷ 0x00 ∷ 0x00 ∷ 0x00 ∷ 0x00 ∷ 0x00 ∷ 0x00 ∷ 0x00 ∷ [])))
    (Err (FormatError InvalidTypeForTag))

-- a field as it is in the directory, and a missing one
abbrev pub field_got : Type 0
field_got =
    outcome.find_entry
    (one_field (one_short (0x01 ∷ 0x00 ∷ 0x00 ∷ 0x00 ∷ 0x00 ∷ 0x00 ∷ 0x00 ∷ 0x00 ∷ [])))
    (tag.Unknown 65000)
    ≡ Some (one_short (0x01 ∷ 0x00 ∷ 0x00 ∷ 0x00 ∷ 0x00 ∷ 0x00 ∷ 0x00 ∷ 0x00 ∷ []))

abbrev pub field_none : Type 0
field_none = outcome.find_entry (fields_decoder gray_file []) (tag.Unknown 65000) ≡ None

-- the bytes of a field in a buffer; a missing tag leaves the buffer unchanged
abbrev pub buffer_found : Type 0
buffer_found =
    outcome.find_tag_buf
    (one_field
    (record {
      field_type = LONG;
      count = 2;
      value = 0x08 ∷ 0x00 ∷ 0x00 ∷ 0x00 ∷ 0x00 ∷ 0x00 ∷ 0x00 ∷ 0x00 ∷ [];
    }))
    (tag.Unknown 65000) (empty_buffer BYTE)
    ≡ stays (one_field
    (record {
      field_type = LONG;
      count = 2;
      value = 0x08 ∷ 0x00 ∷ 0x00 ∷ 0x00 ∷ 0x00 ∷ 0x00 ∷ 0x00 ∷ 0x00 ∷ [];
    }))
    (Ok (
      Some
          (record {
            field_type = LONG;
            count = 2;
            value = 0x08 ∷ 0x00 ∷ 0x00 ∷ 0x00 ∷ 0x00 ∷ 0x00 ∷ 0x00 ∷ 0x00 ∷ [];
          }),
      record {
        order = LittleEndian;
        data_type = LONG;
        bytes = 0x01 ∷ 0x00 ∷ 0x00 ∷ 0x00 ∷ 0x01 ∷ 0x00 ∷ 0x00 ∷ 0x00 ∷ [];
      },
    ))

-- mistake: `find_tag_buf` changes the buffer where there is no tag
abbrev pub buffer_none : Type 0
buffer_none =
    outcome.find_tag_buf (fields_decoder gray_file []) (tag.Unknown 65000) (empty_buffer BYTE)
    ≡ stays (fields_decoder gray_file []) (Ok (None, empty_buffer BYTE))

-- mistake: `find_tag_bytes` cuts the slice to what was copied
-- the bytes of a field from the fourth on, in a slice of six bytes
abbrev pub slice_from_4 : Type 0
slice_from_4 =
    outcome.find_tag_bytes
    (one_field
    (record {
      field_type = LONG;
      count = 2;
      value = 0x08 ∷ 0x00 ∷ 0x00 ∷ 0x00 ∷ 0x00 ∷ 0x00 ∷ 0x00 ∷ 0x00 ∷ [];
    }))
    (tag.Unknown 65000) (0xaa ∷ 0xaa ∷ 0xaa ∷ 0xaa ∷ 0xaa ∷ 0xaa ∷ []) 4
    ≡ stays (one_field
    (record {
      field_type = LONG;
      count = 2;
      value = 0x08 ∷ 0x00 ∷ 0x00 ∷ 0x00 ∷ 0x00 ∷ 0x00 ∷ 0x00 ∷ 0x00 ∷ [];
    }))
    (Ok (Some 4, 0x01 ∷ 0x00 ∷ 0x00 ∷ 0x00 ∷ 0xaa ∷ 0xaa ∷ []))

abbrev pub slice_from_8 : Type 0
slice_from_8 =
    outcome.find_tag_bytes
    (one_field
    (record {
      field_type = LONG;
      count = 2;
      value = 0x08 ∷ 0x00 ∷ 0x00 ∷ 0x00 ∷ 0x00 ∷ 0x00 ∷ 0x00 ∷ 0x00 ∷ [];
    }))
    (tag.Unknown 65000) (0xaa ∷ 0xaa ∷ 0xaa ∷ 0xaa ∷ 0xaa ∷ 0xaa ∷ []) 8
    ≡ stays (one_field
    (record {
      field_type = LONG;
      count = 2;
      value = 0x08 ∷ 0x00 ∷ 0x00 ∷ 0x00 ∷ 0x00 ∷ 0x00 ∷ 0x00 ∷ 0x00 ∷ [];
    }))
    (Ok (Some 0, 0xaa ∷ 0xaa ∷ 0xaa ∷ 0xaa ∷ 0xaa ∷ 0xaa ∷ []))

abbrev pub slice_none : Type 0
slice_none =
    outcome.find_tag_bytes (fields_decoder gray_file []) (tag.Unknown 65000)
    (0xaa ∷ 0xaa ∷ 0xaa ∷ 0xaa ∷ 0xaa ∷ 0xaa ∷ []) 4 ≡ stays (fields_decoder gray_file [])
    (Ok (None, 0xaa ∷ 0xaa ∷ 0xaa ∷ 0xaa ∷ 0xaa ∷ 0xaa ∷ []))
