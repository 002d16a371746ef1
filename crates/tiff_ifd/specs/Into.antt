-- The conversions of a value: the kinds that each accepts, and the results (as in the Rust crate).
use Rattle.std.specs.Prelude.{ℕ, ◌^◌, ℤ, pos, negsuc, List, [], ◌∷◌, ◌++◌, if◌then◌else◌, nat_lt, Result, Ok, Err}
use Rattle.std.specs.Str.{chars}
use Rattle.tiff_base.specs.declared.error.TiffError.{TiffError}
use Rattle.tiff_base.specs.declared.error.TiffError.TheVariants.{FormatError, IntSizeError}
use Rattle.tiff_base.specs.declared.error.TiffFormatError.TheVariants.{InvalidTypeForTag}
use Rattle.tiff_base.specs.Answers.{◌>>=◌}
use Rattle.tiff_ifd.specs.PlainValue.{PlainValue, PlainValueList, none, more, list, byte, short, signed_byte, signed_short, signed, signed_big, unsigned, unsigned_big, float, double, ifd, ifd_big, ascii, rational, rational_big, srational, srational_big}

-- the error of a conversion that does not accept the kind of value
abbrev pub wrong_type : {A : Type 0} → Result A TiffError
wrong_type = Err (FormatError InvalidTypeForTag)

-- a number that has to be below a limit
abbrev pub below_limit : ℕ → ℕ → Result ℕ TiffError
below_limit limit n = if nat_lt n limit then Ok n else Err IntSizeError

-- a signed number that has to be at least -half and below half
abbrev pub in_signed_range : ℕ → ℤ → Result ℤ TiffError
in_signed_range half (pos n) = if nat_lt n half then Ok (pos n) else Err IntSizeError
in_signed_range half (negsuc n) = if nat_lt n half then Ok (negsuc n) else Err IntSizeError

abbrev pub into_u8 : PlainValue → Result ℕ TiffError
into_u8 (byte n) = Ok n
into_u8 _ = wrong_type

abbrev pub into_i8 : PlainValue → Result ℤ TiffError
into_i8 (signed_byte n) = Ok n
into_i8 _ = wrong_type

abbrev pub into_u16 : PlainValue → Result ℕ TiffError
into_u16 (byte n) = Ok n
into_u16 (short n) = Ok n
into_u16 (unsigned n) = below_limit (2 ^ 16) n
into_u16 (unsigned_big n) = below_limit (2 ^ 16) n
into_u16 _ = wrong_type

abbrev pub into_u32 : PlainValue → Result ℕ TiffError
into_u32 (byte n) = Ok n
into_u32 (short n) = Ok n
into_u32 (unsigned n) = Ok n
into_u32 (unsigned_big n) = below_limit (2 ^ 32) n
into_u32 (ifd n) = Ok n
into_u32 (ifd_big n) = below_limit (2 ^ 32) n
into_u32 _ = wrong_type

abbrev pub into_u64 : PlainValue → Result ℕ TiffError
into_u64 (byte n) = Ok n
into_u64 (short n) = Ok n
into_u64 (unsigned n) = Ok n
into_u64 (unsigned_big n) = Ok n
into_u64 (ifd n) = Ok n
into_u64 (ifd_big n) = Ok n
into_u64 _ = wrong_type

abbrev pub into_i16 : PlainValue → Result ℤ TiffError
into_i16 (signed_byte n) = Ok n
into_i16 (signed_short n) = Ok n
into_i16 (signed n) = in_signed_range (2 ^ 15) n
into_i16 (signed_big n) = in_signed_range (2 ^ 15) n
into_i16 _ = wrong_type

abbrev pub into_i32 : PlainValue → Result ℤ TiffError
into_i32 (signed_byte n) = Ok n
into_i32 (signed_short n) = Ok n
into_i32 (signed n) = Ok n
into_i32 (signed_big n) = in_signed_range (2 ^ 31) n
into_i32 _ = wrong_type

abbrev pub into_i64 : PlainValue → Result ℤ TiffError
into_i64 (signed_byte n) = Ok n
into_i64 (signed_short n) = Ok n
into_i64 (signed n) = Ok n
into_i64 (signed_big n) = Ok n
into_i64 _ = wrong_type

-- the bits of a floating-point number
abbrev pub into_f32 : PlainValue → Result ℕ TiffError
into_f32 (float n) = Ok n
into_f32 _ = wrong_type

abbrev pub into_f64 : PlainValue → Result ℕ TiffError
into_f64 (double n) = Ok n
into_f64 _ = wrong_type

-- the offset of a directory
abbrev pub into_ifd_pointer : PlainValue → Result ℕ TiffError
into_ifd_pointer (unsigned n) = Ok n
into_ifd_pointer (ifd n) = Ok n
into_ifd_pointer (ifd_big n) = Ok n
into_ifd_pointer _ = wrong_type

-- the bytes of a text
abbrev pub into_string : PlainValue → Result (List ℕ) TiffError
into_string (ascii text) = Ok text
into_string _ = wrong_type

-- the results of the items of a list in order, or the error of the first item that fails
abbrev pub each_item : {A : Type 0} → (PlainValue → Result A TiffError) → PlainValueList
    → Result (List A) TiffError
each_item into none = Ok []
each_item into (more f fs) = into f >>= λ x. each_item into fs >>= λ xs. Ok (x ∷ xs)

-- the joined results of the items of a list, where each item gives a list, or the error of the
-- first item that fails
abbrev pub each_joined : {A : Type 0} → (PlainValue → Result (List A) TiffError) → PlainValueList
    → Result (List A) TiffError
each_joined into none = Ok []
each_joined into (more f fs) = into f >>= λ xs. each_joined into fs >>= λ ys. Ok (xs ++ ys)

-- the old numbers, followed by the converted ones
abbrev pub append_numbers : {A : Type 0} → List A → Result (List A) TiffError
    → Result (List A) TiffError
append_numbers old found = found >>= λ xs. Ok (old ++ xs)

-- one number, as a list
abbrev pub single_number : {A : Type 0} → Result A TiffError → Result (List A) TiffError
single_number found = found >>= λ x. Ok (x ∷ [])

-- two numbers, the first of which is checked first
abbrev pub both_numbers : {A : Type 0} → Result A TiffError → Result A TiffError
    → Result (List A) TiffError
both_numbers first second = first >>= λ x. second >>= λ y. Ok (x ∷ y ∷ [])

abbrev pub into_u8_vec : PlainValue → Result (List ℕ) TiffError
into_u8_vec (list items) = each_item into_u8 items
into_u8_vec (byte n) = Ok (n ∷ [])
into_u8_vec _ = wrong_type

abbrev pub into_u16_vec : PlainValue → Result (List ℕ) TiffError
into_u16_vec (list items) = each_item into_u16 items
into_u16_vec (byte n) = Ok (n ∷ [])
into_u16_vec (short n) = Ok (n ∷ [])
into_u16_vec _ = wrong_type

-- a rational gives two numbers, a text gives its characters
abbrev pub into_u32_vec : PlainValue → Result (List ℕ) TiffError
into_u32_vec (list items) = each_item into_u32 items
into_u32_vec (rational n d) = Ok (n ∷ d ∷ [])
into_u32_vec (rational_big n d) = both_numbers (below_limit (2 ^ 32) n) (below_limit (2 ^ 32) d)
into_u32_vec (ascii text) = Ok (chars text)
into_u32_vec f = single_number (into_u32 f)

-- a rational gives two numbers, a text gives its characters; the numbers may have 64 bits
abbrev pub into_u64_vec : PlainValue → Result (List ℕ) TiffError
into_u64_vec (list items) = each_item into_u64 items
into_u64_vec (rational n d) = Ok (n ∷ d ∷ [])
into_u64_vec (rational_big n d) = Ok (n ∷ d ∷ [])
into_u64_vec (ascii text) = Ok (chars text)
into_u64_vec f = single_number (into_u64 f)

-- a signed rational gives two numbers
abbrev pub i32s_of : PlainValue → Result (List ℤ) TiffError
i32s_of (srational n d) = Ok (n ∷ d ∷ [])
i32s_of (srational_big n d) = both_numbers (in_signed_range (2 ^ 31) n) (in_signed_range (2 ^ 31) d)
i32s_of f = single_number (into_i32 f)

abbrev pub into_i32_vec : PlainValue → Result (List ℤ) TiffError
into_i32_vec (list items) = each_joined i32s_of items
into_i32_vec f = i32s_of f

-- a signed rational gives two numbers, which may have 64 bits
abbrev pub i64s_of : PlainValue → Result (List ℤ) TiffError
i64s_of (srational n d) = Ok (n ∷ d ∷ [])
i64s_of (srational_big n d) = Ok (n ∷ d ∷ [])
i64s_of f = single_number (into_i64 f)

abbrev pub into_i64_vec : PlainValue → Result (List ℤ) TiffError
into_i64_vec (list items) = each_joined i64s_of items
into_i64_vec f = i64s_of f

abbrev pub into_f32_vec : PlainValue → Result (List ℕ) TiffError
into_f32_vec (list items) = each_item into_f32 items
into_f32_vec f = single_number (into_f32 f)

abbrev pub into_f64_vec : PlainValue → Result (List ℕ) TiffError
into_f64_vec (list items) = each_item into_f64 items
into_f64_vec f = single_number (into_f64 f)

-- the offsets of directories
abbrev pub into_ifd_vec : PlainValue → Result (List ℕ) TiffError
into_ifd_vec (list items) = each_item into_ifd_pointer items
into_ifd_vec f = single_number (into_ifd_pointer f)
