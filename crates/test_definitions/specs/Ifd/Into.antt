-- Worked examples of conversions to signed and floating-point numbers, offsets, texts, and lists of
-- them.
use Rattle.std.specs.Prelude.{◌≡◌, pos, negsuc, [], ◌∷◌, Ok, Err}
use Rattle.tiff_base.specs.declared.error.TiffError.TheVariants.{FormatError, IntSizeError}
use Rattle.tiff_base.specs.declared.error.TiffFormatError.TheVariants.{InvalidTypeForTag}
use Rattle.tiff_ifd.specs.PlainValue.{none, more, list, byte, short, signed_byte, signed_short, signed, signed_big, unsigned, unsigned_big, float, double, rational, rational_big, srational, srational_big, ascii, ifd, ifd_big}
use Rattle.tiff_ifd.specs.Into.{into_u8, into_i8, into_i16, into_i32, into_i64, into_f32, into_f64, into_ifd_pointer, into_string, into_u8_vec, into_u32_vec, into_i32_vec, into_i64_vec, into_f32_vec, into_f64_vec, into_ifd_vec}

-- a BYTE is converted, and nothing else
abbrev pub u8_byte : Type 0
u8_byte =
    into_u8 (byte 8) ≡ Ok 8

-- mistake: `wrong_type` returns another error
-- mistake: `into_u8` accepts a SHORT
abbrev pub u8_short : Type 0
u8_short =
    into_u8 (short 8) ≡ Err (FormatError InvalidTypeForTag)

-- an SBYTE is converted, and nothing else
abbrev pub i8_minus_two : Type 0
i8_minus_two =
    into_i8 (signed_byte (negsuc 1)) ≡ Ok (negsuc 1)

-- mistake: `into_i8` accepts a BYTE
abbrev pub i8_byte : Type 0
i8_byte =
    into_i8 (byte 8) ≡ Err (FormatError InvalidTypeForTag)

-- signed numbers of two bytes: the largest, the smallest, and the numbers just outside
abbrev pub i16_most : Type 0
i16_most =
    into_i16 (signed (pos 32767)) ≡ Ok (pos 32767)

abbrev pub i16_least : Type 0
i16_least =
    into_i16 (signed_big (negsuc 32767)) ≡ Ok (negsuc 32767)

-- mistake: `into_i16` doesn't test a LONG
abbrev pub i16_too_great : Type 0
i16_too_great =
    into_i16 (signed (pos 32768)) ≡ Err IntSizeError

-- mistake: `in_signed_range` lets a number one below the least fit
abbrev pub i16_too_small : Type 0
i16_too_small =
    into_i16 (signed_big (negsuc 32768)) ≡ Err IntSizeError

-- an unsigned SHORT isn't a signed number
abbrev pub i16_short : Type 0
i16_short =
    into_i16 (short 8) ≡ Err (FormatError InvalidTypeForTag)

-- signed numbers of four bytes
abbrev pub i32_signed : Type 0
i32_signed =
    into_i32 (signed (negsuc 0)) ≡ Ok (negsuc 0)

abbrev pub i32_least : Type 0
i32_least =
    into_i32 (signed_big (negsuc 2147483647)) ≡ Ok (negsuc 2147483647)

-- mistake: `into_i32` doesn't test an SLONG8
abbrev pub i32_too_great : Type 0
i32_too_great =
    into_i32 (signed_big (pos 2147483648)) ≡ Err IntSizeError

abbrev pub i32_long : Type 0
i32_long =
    into_i32 (unsigned 8) ≡ Err (FormatError InvalidTypeForTag)

-- signed numbers of eight bytes
abbrev pub i64_least : Type 0
i64_least =
    into_i64 (signed_big (negsuc 9223372036854775807)) ≡ Ok (negsuc 9223372036854775807)

-- mistake: `into_i64` accepts a LONG8
abbrev pub i64_long : Type 0
i64_long =
    into_i64 (unsigned_big 8) ≡ Err (FormatError InvalidTypeForTag)

-- the bits of floating-point numbers; a number of four bytes isn't one of eight
abbrev pub f32_one : Type 0
f32_one =
    into_f32 (float 0x3F800000) ≡ Ok 0x3F800000

-- mistake: `into_f32` accepts a DOUBLE
abbrev pub f32_double : Type 0
f32_double =
    into_f32 (double 0x3FF0000000000000) ≡ Err (FormatError InvalidTypeForTag)

abbrev pub f64_one : Type 0
f64_one =
    into_f64 (double 0x3FF0000000000000) ≡ Ok 0x3FF0000000000000

-- mistake: `into_f64` accepts a FLOAT
abbrev pub f64_float : Type 0
f64_float =
    into_f64 (float 0x3F800000) ≡ Err (FormatError InvalidTypeForTag)

-- the offset of a directory: a LONG, but not a LONG8
abbrev pub pointer_long : Type 0
pointer_long =
    into_ifd_pointer (unsigned 8) ≡ Ok 8

abbrev pub pointer_big : Type 0
pointer_big =
    into_ifd_pointer (ifd_big 4294967296) ≡ Ok 4294967296

-- mistake: `into_ifd_pointer` accepts a LONG8
abbrev pub pointer_long8 : Type 0
pointer_long8 =
    into_ifd_pointer (unsigned_big 8) ≡ Err (FormatError InvalidTypeForTag)

-- a text is converted, and a byte isn't
abbrev pub string_a : Type 0
string_a =
    into_string (ascii (0x41 ∷ [])) ≡ Ok (0x41 ∷ [])

-- mistake: `into_string` accepts a BYTE
abbrev pub string_byte : Type 0
string_byte =
    into_string (byte 0x41) ≡ Err (FormatError InvalidTypeForTag)

-- lists of bytes
abbrev pub u8s_list : Type 0
u8s_list =
    into_u8_vec (list (more (byte 1) (more (byte 2) none))) ≡ Ok (1 ∷ 2 ∷ [])

-- mistake: `into_u8_vec` doesn't accept one BYTE
abbrev pub u8s_one : Type 0
u8s_one =
    into_u8_vec (byte 7) ≡ Ok (7 ∷ [])

-- two bytes in an entry are LONGs, and not a list of bytes
abbrev pub u8s_longs : Type 0
u8s_longs =
    into_u8_vec (list (more (unsigned 1) (more (unsigned 2) none)))
    ≡ Err (FormatError InvalidTypeForTag)

-- lists of numbers of four bytes
abbrev pub u32s_list : Type 0
u32s_list =
    into_u32_vec (list (more (short 8) (more (ifd_big 9) none))) ≡ Ok (8 ∷ 9 ∷ [])

-- mistake: `into_u32_vec` doesn't test a LONG8, nor a denominator (`u32s_rational_big` fails too)
abbrev pub u32s_too_great : Type 0
u32s_too_great =
    into_u32_vec (unsigned_big 4294967296) ≡ Err IntSizeError

abbrev pub u32s_rational : Type 0
u32s_rational =
    into_u32_vec (rational 72 1) ≡ Ok (72 ∷ 1 ∷ [])

abbrev pub u32s_rational_big : Type 0
u32s_rational_big =
    into_u32_vec (rational_big 72 4294967296) ≡ Err IntSizeError

abbrev pub u32s_big_fits : Type 0
u32s_big_fits =
    into_u32_vec (rational_big 72 1) ≡ Ok (72 ∷ 1 ∷ [])

-- the characters of a text as numbers
abbrev pub u32s_text : Type 0
u32s_text =
    into_u32_vec (ascii (0x41 ∷ 0xc3 ∷ 0xa4 ∷ [])) ≡ Ok (0x41 ∷ 0xe4 ∷ [])

-- a rational within a list isn't a number
abbrev pub u32s_rational_item : Type 0
u32s_rational_item =
    into_u32_vec (list (more (rational 72 1) none)) ≡ Err (FormatError InvalidTypeForTag)

-- lists of floating-point numbers
abbrev pub f32s_list : Type 0
f32s_list =
    into_f32_vec (list (more (float 1) (more (float 2) none))) ≡ Ok (1 ∷ 2 ∷ [])

-- mistake: `into_f32_vec` doesn't accept one number
abbrev pub f32s_one : Type 0
f32s_one =
    into_f32_vec (float 1) ≡ Ok (1 ∷ [])

abbrev pub f32s_double : Type 0
f32s_double =
    into_f32_vec (double 1) ≡ Err (FormatError InvalidTypeForTag)

abbrev pub f64s_one : Type 0
f64s_one =
    into_f64_vec (double 1) ≡ Ok (1 ∷ [])

-- mistake: `into_f64_vec` converts items by `into_f32`
abbrev pub f64s_floats : Type 0
f64s_floats =
    into_f64_vec (list (more (double 1) (more (float 2) none)))
    ≡ Err (FormatError InvalidTypeForTag)

-- a list of directory offsets
abbrev pub pointers : Type 0
pointers =
    into_ifd_vec (list (more (unsigned 8) (more (ifd 9) (more (ifd_big 10) none))))
    ≡ Ok (8 ∷ 9 ∷ 10 ∷ [])

-- mistake: `into_ifd_vec` doesn't accept one offset
abbrev pub pointers_one : Type 0
pointers_one =
    into_ifd_vec (ifd 8) ≡ Ok (8 ∷ [])

abbrev pub pointers_long8 : Type 0
pointers_long8 =
    into_ifd_vec (list (more (unsigned 8) (more (unsigned_big 9) none)))
    ≡ Err (FormatError InvalidTypeForTag)

-- mistake: `each_joined` joins the lists in the other order
-- mistake: `into_i32_vec` doesn't accept a list
-- within a list, a signed rational gives two numbers, and another number one
abbrev pub i32s_list : Type 0
i32s_list =
    into_i32_vec (list (more (srational (negsuc 0) (pos 2)) (more (signed_short (pos 3)) none)))
    ≡ Ok (negsuc 0 ∷ pos 2 ∷ pos 3 ∷ [])

abbrev pub i32s_empty : Type 0
i32s_empty =
    into_i32_vec (list none) ≡ Ok []

-- mistake: `single_number` lists the number twice
abbrev pub i32s_one : Type 0
i32s_one =
    into_i32_vec (signed_byte (negsuc 0)) ≡ Ok (negsuc 0 ∷ [])

abbrev pub i32s_rational : Type 0
i32s_rational =
    into_i32_vec (srational (pos 1) (negsuc 1)) ≡ Ok (pos 1 ∷ negsuc 1 ∷ [])

-- mistake: `into_i32_vec` doesn't test a large rational
abbrev pub i32s_too_great : Type 0
i32s_too_great =
    into_i32_vec (srational_big (pos 1) (pos 2147483648)) ≡ Err IntSizeError

-- mistake: `both_numbers` lists the denominator first
abbrev pub i32s_big_fits : Type 0
i32s_big_fits =
    into_i32_vec (srational_big (pos 1) (negsuc 2)) ≡ Ok (pos 1 ∷ negsuc 2 ∷ [])

-- the error is that of the first item that fails
abbrev pub i32s_first_fault : Type 0
i32s_first_fault =
    into_i32_vec (list (more (signed_big (pos 2147483648)) (more (ascii []) none)))
    ≡ Err IntSizeError

abbrev pub i32s_first_kind : Type 0
i32s_first_kind =
    into_i32_vec (list (more (ascii []) (more (signed_big (pos 2147483648)) none)))
    ≡ Err (FormatError InvalidTypeForTag)

-- a list within a list isn't a number
abbrev pub i32s_nested : Type 0
i32s_nested =
    into_i32_vec (list (more (list none) none)) ≡ Err (FormatError InvalidTypeForTag)

-- all numbers of eight bytes fit
abbrev pub i64s_rational : Type 0
i64s_rational =
    into_i64_vec (srational_big (pos 1) (pos 2147483648)) ≡ Ok (pos 1 ∷ pos 2147483648 ∷ [])

-- mistake: `into_i64_vec` doesn't accept a rational item
-- mistake: `into_i64_vec` doesn't accept a list
abbrev pub i64s_list : Type 0
i64s_list =
    into_i64_vec (list (more (signed_big (negsuc 0)) (more (srational (pos 1) (pos 2)) none)))
    ≡ Ok (negsuc 0 ∷ pos 1 ∷ pos 2 ∷ [])

abbrev pub i64s_long : Type 0
i64s_long =
    into_i64_vec (unsigned 8) ≡ Err (FormatError InvalidTypeForTag)
