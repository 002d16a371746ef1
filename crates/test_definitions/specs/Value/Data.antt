-- Worked examples of values that are written, and of bytes in both byte orders.
use Rattle.std.specs.Prelude.{◌≡◌, pos, negsuc, [], ◌∷◌, Ok, Err}
use Rattle.tiff_base.specs.declared.error.TiffError.TheVariants.{FormatError}
use Rattle.tiff_base.specs.declared.error.TiffFormatError.TheVariants.{InvalidTag}
use Rattle.tiff_base.specs.declared.tags.ByteOrder.TheVariants.{LittleEndian, BigEndian}
use Rattle.tiff_base.specs.declared.tags.«Type».TheVariants as t
use Rattle.tiff_base.specs.declared.tags.CompressionMethod.TheVariants as method
use Rattle.tiff_base.specs.declared.tags.PhotometricInterpretation.TheVariants as interpretation
use Rattle.tiff_base.specs.declared.tags.PlanarConfiguration.TheVariants as planar
use Rattle.tiff_base.specs.declared.tags.Predictor.TheVariants as predictor
use Rattle.tiff_base.specs.declared.tags.ResolutionUnit.TheVariants as unit
use Rattle.tiff_base.specs.declared.tags.SampleFormat.TheVariants as format
use Rattle.tiff_base.specs.declared.tags.ExtraSamples.TheVariants as extra
use Rattle.tiff_base.specs.ByteOrders.{convert}
use Rattle.tiff_value.specs.Data.{u8s, i8s, u16s, i16s, u32s, i32s, u64s, i64s, bits32s, bits64s, methods, interpretations, planars, predictors, units, formats, extras, ifds, ifd8s, rationals, srationals, data_of, text_data}
use Rattle.tiff_value.specs.Buffer.{buffer_count, empty_buffer, buffer_from, in_byte_order}

-- numbers as their little-endian bytes
abbrev pub one_u8 : Type 0
one_u8 =
    data_of (u8s (7 ∷ [])) ≡ record { field_type = t.BYTE; count = 1; bytes = (0x07 ∷ []) }

abbrev pub one_i8 : Type 0
one_i8 =
    data_of (i8s (negsuc 1 ∷ [])) ≡ record { field_type = t.SBYTE; count = 1; bytes = (0xfe ∷ []) }

-- mistake: `data_by` takes the count of bytes
abbrev pub two_u16 : Type 0
two_u16 =
    data_of (u16s (258 ∷ 3 ∷ []))
    ≡ record { field_type = t.SHORT; count = 2; bytes = (0x02 ∷ 0x01 ∷ 0x03 ∷ 0x00 ∷ []) }

-- mistake: `signed_le` takes one byte of a signed number
abbrev pub one_i16 : Type 0
one_i16 =
    data_of (i16s (negsuc 1 ∷ []))
    ≡ record { field_type = t.SSHORT; count = 1; bytes = (0xfe ∷ 0xff ∷ []) }

abbrev pub one_u32 : Type 0
one_u32 =
    data_of (u32s (1000000 ∷ []))
    ≡ record { field_type = t.LONG; count = 1; bytes = (0x40 ∷ 0x42 ∷ 0x0f ∷ 0x00 ∷ []) }

abbrev pub one_i32 : Type 0
one_i32 =
    data_of (i32s (negsuc 0 ∷ []))
    ≡ record { field_type = t.SLONG; count = 1; bytes = (0xff ∷ 0xff ∷ 0xff ∷ 0xff ∷ []) }

abbrev pub one_u64 : Type 0
one_u64 =
    data_of (u64s (4294967297 ∷ []))
    ≡ record {
      field_type = t.LONG8;
      count = 1;
      bytes = (0x01 ∷ 0x00 ∷ 0x00 ∷ 0x00 ∷ 0x01 ∷ 0x00 ∷ 0x00 ∷ 0x00 ∷ []);
    }

abbrev pub one_i64 : Type 0
one_i64 =
    data_of (i64s (negsuc 1 ∷ []))
    ≡ record {
      field_type = t.SLONG8;
      count = 1;
      bytes = (0xfe ∷ 0xff ∷ 0xff ∷ 0xff ∷ 0xff ∷ 0xff ∷ 0xff ∷ 0xff ∷ []);
    }

-- floating-point numbers as their bits
abbrev pub one_bits32 : Type 0
one_bits32 =
    data_of (bits32s (0x3f800000 ∷ []))
    ≡ record { field_type = t.FLOAT; count = 1; bytes = (0x00 ∷ 0x00 ∷ 0x80 ∷ 0x3f ∷ []) }

abbrev pub one_bits64 : Type 0
one_bits64 =
    data_of (bits64s (0x3ff0000000000000 ∷ []))
    ≡ record {
      field_type = t.DOUBLE;
      count = 1;
      bytes = (0x00 ∷ 0x00 ∷ 0x00 ∷ 0x00 ∷ 0x00 ∷ 0x00 ∷ 0xf0 ∷ 0x3f ∷ []);
    }

-- a value without numbers
abbrev pub no_numbers : Type 0
no_numbers =
    data_of (u32s []) ≡ record { field_type = t.LONG; count = 0; bytes = [] }

-- offsets of directories
abbrev pub one_ifd : Type 0
one_ifd =
    data_of (ifds (8 ∷ []))
    ≡ record { field_type = t.IFD; count = 1; bytes = (0x08 ∷ 0x00 ∷ 0x00 ∷ 0x00 ∷ []) }

abbrev pub one_ifd8 : Type 0
one_ifd8 =
    data_of (ifd8s (8 ∷ []))
    ≡ record {
      field_type = t.IFD8;
      count = 1;
      bytes = (0x08 ∷ 0x00 ∷ 0x00 ∷ 0x00 ∷ 0x00 ∷ 0x00 ∷ 0x00 ∷ 0x00 ∷ []);
    }

-- rationals
abbrev pub one_rational : Type 0
one_rational =
    data_of (rationals ((72, 1) ∷ []))
    ≡ record {
      field_type = t.RATIONAL;
      count = 1;
      bytes = (0x48 ∷ 0x00 ∷ 0x00 ∷ 0x00 ∷ 0x01 ∷ 0x00 ∷ 0x00 ∷ 0x00 ∷ []);
    }

abbrev pub one_srational : Type 0
one_srational =
    data_of (srationals ((negsuc 0, pos 2) ∷ [])) ≡ record {
      field_type = t.SRATIONAL;
      count = 1;
      bytes = (0xff ∷ 0xff ∷ 0xff ∷ 0xff ∷ 0x02 ∷ 0x00 ∷ 0x00 ∷ 0x00 ∷ []);
    }

-- enums as their numbers
abbrev pub packbits : Type 0
packbits =
    data_of (methods (method.PackBits ∷ []))
    ≡ record { field_type = t.SHORT; count = 1; bytes = (0x05 ∷ 0x80 ∷ []) }

abbrev pub unknown_method : Type 0
unknown_method =
    data_of (methods (method.Unknown 258 ∷ []))
    ≡ record { field_type = t.SHORT; count = 1; bytes = (0x02 ∷ 0x01 ∷ []) }

abbrev pub rgb : Type 0
rgb =
    data_of (interpretations (interpretation.RGB ∷ []))
    ≡ record { field_type = t.SHORT; count = 1; bytes = (0x02 ∷ 0x00 ∷ []) }

abbrev pub in_planes : Type 0
in_planes =
    data_of (planars (planar.Planar ∷ []))
    ≡ record { field_type = t.SHORT; count = 1; bytes = (0x02 ∷ 0x00 ∷ []) }

-- mistake: `data_of` takes the enums as BYTE
abbrev pub horizontal : Type 0
horizontal =
    data_of (predictors (predictor.Horizontal ∷ []))
    ≡ record { field_type = t.SHORT; count = 1; bytes = (0x02 ∷ 0x00 ∷ []) }

abbrev pub inch : Type 0
inch =
    data_of (units (unit.Inch ∷ []))
    ≡ record { field_type = t.SHORT; count = 1; bytes = (0x02 ∷ 0x00 ∷ []) }

abbrev pub int_uint : Type 0
int_uint =
    data_of (formats (format.Int ∷ format.Uint ∷ []))
    ≡ record { field_type = t.SHORT; count = 2; bytes = (0x02 ∷ 0x00 ∷ 0x01 ∷ 0x00 ∷ []) }

abbrev pub unspecified : Type 0
unspecified =
    data_of (extras (extra.Unspecified ∷ []))
    ≡ record { field_type = t.SHORT; count = 1; bytes = (0x00 ∷ 0x00 ∷ []) }

-- mistake: `text_data` doesn't count the zero
-- texts, with an appended zero
abbrev pub abcd : Type 0
abcd =
    text_data (0x61 ∷ 0x62 ∷ 0x63 ∷ 0x64 ∷ [])
    ≡ Ok (record {
      field_type = t.ASCII;
      count = 5;
      bytes = (0x61 ∷ 0x62 ∷ 0x63 ∷ 0x64 ∷ 0x00 ∷ []);
    })

abbrev pub no_text : Type 0
no_text =
    text_data [] ≡ Ok (record { field_type = t.ASCII; count = 1; bytes = 0x00 ∷ [] })

-- a text that isn't ASCII, and a text with a zero in it
abbrev pub not_ascii : Type 0
not_ascii =
    text_data (0x61 ∷ 0x80 ∷ []) ≡ Err (FormatError InvalidTag)

-- mistake: `text_data` takes a zero for a letter
abbrev pub with_zero : Type 0
with_zero =
    text_data (0x61 ∷ 0x00 ∷ 0x62 ∷ []) ≡ Err (FormatError InvalidTag)

-- mistake: `turned_units` loses a ragged end
-- the bytes of each SHORT are reversed, and an incomplete one stays
abbrev pub three_bytes : Type 0
three_bytes =
    convert t.SHORT LittleEndian (0x01 ∷ 0x02 ∷ 0x03 ∷ []) BigEndian ≡ (0x02 ∷ 0x01 ∷ 0x03 ∷ [])

abbrev pub shorts_back : Type 0
shorts_back =
    convert t.SHORT BigEndian (0x02 ∷ 0x01 ∷ 0x03 ∷ []) LittleEndian ≡ (0x01 ∷ 0x02 ∷ 0x03 ∷ [])

-- mistake: `convert` reverses the bytes if both orders are the same
-- a conversion to the same byte order changes nothing
abbrev pub same_order : Type 0
same_order =
    convert t.SHORT BigEndian (0x01 ∷ 0x02 ∷ 0x03 ∷ []) BigEndian ≡ (0x01 ∷ 0x02 ∷ 0x03 ∷ [])

-- a BYTE is the same in both byte orders
abbrev pub bytes : Type 0
bytes =
    convert t.BYTE LittleEndian (0x01 ∷ 0x02 ∷ 0x03 ∷ []) BigEndian ≡ (0x01 ∷ 0x02 ∷ 0x03 ∷ [])

-- one LONG and three more bytes
abbrev pub long_and_more : Type 0
long_and_more =
    convert t.LONG LittleEndian (0x01 ∷ 0x02 ∷ 0x03 ∷ 0x04 ∷ 0x05 ∷ 0x06 ∷ 0x07 ∷ []) BigEndian
    ≡ (0x04 ∷ 0x03 ∷ 0x02 ∷ 0x01 ∷ 0x05 ∷ 0x06 ∷ 0x07 ∷ [])

-- mistake: `unit_size` reverses a rational as 8 bytes
-- mistake: `turned_numbers` leaves half of a rational as it is
-- a RATIONAL is converted as two numbers
abbrev pub rational : Type 0
rational =
    convert t.RATIONAL LittleEndian (0x01 ∷ 0x02 ∷ 0x03 ∷ 0x04 ∷ 0x05 ∷ 0x06 ∷ 0x07 ∷ 0x08 ∷ [])
    BigEndian ≡ (0x04 ∷ 0x03 ∷ 0x02 ∷ 0x01 ∷ 0x08 ∷ 0x07 ∷ 0x06 ∷ 0x05 ∷ [])

abbrev pub half_rational : Type 0
half_rational =
    convert t.SRATIONAL LittleEndian (0x01 ∷ 0x02 ∷ 0x03 ∷ 0x04 ∷ 0x05 ∷ 0x06 ∷ []) BigEndian
    ≡ (0x04 ∷ 0x03 ∷ 0x02 ∷ 0x01 ∷ 0x05 ∷ 0x06 ∷ [])

abbrev pub double : Type 0
double =
    convert t.DOUBLE LittleEndian (0x01 ∷ 0x02 ∷ 0x03 ∷ 0x04 ∷ 0x05 ∷ 0x06 ∷ 0x07 ∷ 0x08 ∷ [])
    BigEndian ≡ (0x08 ∷ 0x07 ∷ 0x06 ∷ 0x05 ∷ 0x04 ∷ 0x03 ∷ 0x02 ∷ 0x01 ∷ [])

-- mistake: `buffer_count` counts the bytes
-- the number of values in a buffer, without an incomplete one
abbrev pub short_count : Type 0
short_count =
    buffer_count
    (record { order = LittleEndian; data_type = t.SHORT; bytes = 0x01 ∷ 0x02 ∷ 0x03 ∷ [] }) ≡ 1

abbrev pub rational_count : Type 0
rational_count =
    buffer_count
    (record {
      order = BigEndian;
      data_type = t.RATIONAL;
      bytes = (0x00 ∷ 0x00 ∷ 0x00 ∷ 0x01 ∷ 0x00 ∷ 0x00 ∷ 0x00 ∷ 0x01 ∷ []);
    }) ≡ 1

-- an empty buffer
abbrev pub empty_count : Type 0
empty_count =
    buffer_count (empty_buffer t.LONG) ≡ 0

-- mistake: `empty_buffer` has big-endian bytes
abbrev pub empty_longs : Type 0
empty_longs =
    empty_buffer t.LONG ≡ record { order = LittleEndian; data_type = t.LONG; bytes = [] }

-- mistake: `buffer_from` has big-endian bytes
-- a buffer of a value that is written
abbrev pub from_short : Type 0
from_short =
    buffer_from (data_of (u16s (258 ∷ []))) ≡ record {
      order = LittleEndian;
      data_type = t.SHORT;
      bytes = 0x02 ∷ 0x01 ∷ [];
    }

-- mistake: `in_byte_order` keeps the bytes
-- a buffer in the other byte order, and in its own
abbrev pub ordered_short : Type 0
ordered_short =
    in_byte_order (buffer_from (data_of (u16s (258 ∷ [])))) BigEndian
    ≡ record { order = BigEndian; data_type = t.SHORT; bytes = 0x01 ∷ 0x02 ∷ [] }

abbrev pub ordered_same : Type 0
ordered_same =
    in_byte_order (buffer_from (data_of (u16s (258 ∷ [])))) LittleEndian
    ≡ record { order = LittleEndian; data_type = t.SHORT; bytes = 0x02 ∷ 0x01 ∷ [] }
