-- Worked examples of color types, differences, and PackBits lists that are written.
use Rattle.std.specs.Prelude.{◌≡◌, true, false, [], ◌∷◌, replicate, Some, None, Ok, Err}
use Rattle.tiff_base.specs.declared.error.TiffError.TheVariants.{IoError, UsageError}
use Rattle.tiff_base.specs.declared.error.UsageError.TheVariants.{PredictorIncompatible}
use Rattle.tiff_base.specs.declared.io.IoKind.TheVariants.{WriteZero}
use Rattle.tiff_base.specs.declared.tags.CompressionMethod.TheVariants as method
use Rattle.tiff_base.specs.declared.tags.PhotometricInterpretation.TheVariants.{BlackIsZero, RGB, CMYK, YCbCr}
use Rattle.tiff_base.specs.declared.tags.Predictor.TheVariants as predictor
use Rattle.tiff_base.specs.declared.tags.SampleFormat.TheVariants.{Uint, Int, IEEEFP}
use Rattle.tiff_value.specs.declared.encoder.colortype.ColorTypeName.TheVariants as n
use Rattle.tiff_value.specs.ColorType.{columns_of}
use Rattle.tiff_value.specs.ColorTypes.{color_type, inner_size, inner_type}
use Rattle.tiff_value.specs.Differences.{differences, restored_number}
use Rattle.tiff_value.specs.Predicted.{row_of_type}
use Rattle.tiff_value.specs.Packed.{is_sparing, packed_bound, ArePackedRows, IsPacked, IsStored, store_fault}

-- mistake: `color_type` takes a sample's bytes for its bits
-- the samples of color types
abbrev pub gray8 : Type 0
gray8 =
    color_type n.Gray8
    ≡ record { interpretation = BlackIsZero; bits = 8 ∷ []; formats = Uint ∷ [] }

-- mistake: `format_of_type` takes SSHORT for unsigned
abbrev pub gray_i16 : Type 0
gray_i16 =
    color_type n.GrayI16
    ≡ record { interpretation = BlackIsZero; bits = 16 ∷ []; formats = Int ∷ [] }

abbrev pub gray64_float : Type 0
gray64_float =
    color_type n.Gray64Float
    ≡ record { interpretation = BlackIsZero; bits = 64 ∷ []; formats = IEEEFP ∷ [] }

-- mistake: `color_type` takes the bits of one sample
abbrev pub rgb16 : Type 0
rgb16 =
    color_type n.RGB16
    ≡ record { interpretation = RGB; bits = 16 ∷ 16 ∷ 16 ∷ []; formats = Uint ∷ Uint ∷ Uint ∷ [] }

-- mistake: `count_of` gives RGBA three samples
-- RGBA is RGB with one more sample
abbrev pub rgba8 : Type 0
rgba8 =
    color_type n.RGBA8
    ≡ record {
      interpretation = RGB;
      bits = 8 ∷ 8 ∷ 8 ∷ 8 ∷ [];
      formats = Uint ∷ Uint ∷ Uint ∷ Uint ∷ [];
    }

abbrev pub cmyk32_float : Type 0
cmyk32_float =
    color_type n.CMYK32Float
    ≡ record {
      interpretation = CMYK;
      bits = 32 ∷ 32 ∷ 32 ∷ 32 ∷ [];
      formats = IEEEFP ∷ IEEEFP ∷ IEEEFP ∷ IEEEFP ∷ [];
    }

-- mistake: `family_and_type` gives YCbCr8 the family of RGB
abbrev pub ycbcr8 : Type 0
ycbcr8 =
    color_type n.YCbCr8
    ≡ record { interpretation = YCbCr; bits = 8 ∷ 8 ∷ 8 ∷ []; formats = Uint ∷ Uint ∷ Uint ∷ [] }

-- mistake: `meaning_of` gives CMYKA the meaning of RGB
abbrev pub cmyka8 : Type 0
cmyka8 =
    color_type n.CMYKA8
    ≡ record {
      interpretation = CMYK;
      bits = 8 ∷ 8 ∷ 8 ∷ 8 ∷ 8 ∷ [];
      formats = Uint ∷ Uint ∷ Uint ∷ Uint ∷ Uint ∷ [];
    }

-- bytes of packed pixels
abbrev pub gray1 : Type 0
gray1 =
    color_type n.Gray1
    ≡ record { interpretation = BlackIsZero; bits = 1 ∷ []; formats = Uint ∷ [] }

-- mistake: `depth_of` gives Gray4 the bits of its byte
abbrev pub gray4 : Type 0
gray4 =
    color_type n.Gray4
    ≡ record { interpretation = BlackIsZero; bits = 4 ∷ []; formats = Uint ∷ [] }

abbrev pub size_gray2 : Type 0
size_gray2 = inner_size n.Gray2 ≡ 1

-- mistake: `columns_of` drops the last, partly used byte
-- the columns of a row: nine bits are in two bytes, eight in one, and three pixels of 4 bits in two;
-- of whole bytes each pixel is one
abbrev pub columns_nine : Type 0
columns_nine = columns_of (color_type n.Gray1) 9 ≡ 2

abbrev pub columns_eight : Type 0
columns_eight = columns_of (color_type n.Gray1) 8 ≡ 1

abbrev pub columns_three : Type 0
columns_three = columns_of (color_type n.Gray4) 3 ≡ 2

-- mistake: `columns_of` counts a pixel of whole bytes by its bits
abbrev pub columns_whole : Type 0
columns_whole = columns_of (color_type n.RGB16) 9 ≡ 9

-- the number of bytes of a sample
abbrev pub size_gray8 : Type 0
size_gray8 =
    inner_size n.Gray8 ≡ 1

-- mistake: `inner_size` gives GrayI32 8 bytes
abbrev pub size_gray_i32 : Type 0
size_gray_i32 =
    inner_size n.GrayI32 ≡ 4

-- mistake: `inner_size` gives every number one byte
abbrev pub size_rgb64 : Type 0
size_rgb64 =
    inner_size n.RGB64 ≡ 8

abbrev pub size_rgba32_float : Type 0
size_rgba32_float =
    inner_size n.RGBA32Float ≡ 4

-- a row of two pixels of three numbers
abbrev pub two_pixels : Type 0
two_pixels =
    row_of_type (inner_type n.RGB8) 3 (10 ∷ 20 ∷ 30 ∷ 0 ∷ 0 ∷ 0 ∷ [])
    ≡ Ok (10 ∷ 20 ∷ 30 ∷ 246 ∷ 236 ∷ 226 ∷ [])

-- extra samples count in a pixel
abbrev pub extra_number : Type 0
extra_number =
    row_of_type (inner_type n.RGB8) 4 (1 ∷ 2 ∷ 3 ∷ 9 ∷ 2 ∷ 4 ∷ 6 ∷ 9 ∷ [])
    ≡ Ok (1 ∷ 2 ∷ 3 ∷ 9 ∷ 1 ∷ 2 ∷ 3 ∷ 0 ∷ [])

-- 2-byte numbers
abbrev pub wide_numbers : Type 0
wide_numbers =
    row_of_type (inner_type n.Gray16) 1 (1 ∷ 0 ∷ []) ≡ Ok (1 ∷ 65535 ∷ [])

-- signed numbers as their bits: 1 and -1
abbrev pub signed_numbers : Type 0
signed_numbers =
    row_of_type (inner_type n.GrayI8) 1 (1 ∷ 255 ∷ []) ≡ Ok (1 ∷ 254 ∷ [])

-- a pixel without numbers, and a row that is shorter than a pixel
abbrev pub no_pixel : Type 0
no_pixel =
    row_of_type (inner_type n.Gray8) 0 (1 ∷ 2 ∷ []) ≡ Ok []

-- mistake: `predicted_row` doesn't test a short row
abbrev pub short_row : Type 0
short_row =
    row_of_type (inner_type n.RGB8) 3 (1 ∷ 2 ∷ []) ≡ Ok []

-- a row of one pixel
abbrev pub one_pixel : Type 0
one_pixel =
    row_of_type (inner_type n.RGB8) 3 (1 ∷ 2 ∷ 3 ∷ []) ≡ Ok (1 ∷ 2 ∷ 3 ∷ [])

-- floating-point numbers have no differences, whatever the row is
abbrev pub floating_row : Type 0
floating_row =
    row_of_type (inner_type n.Gray32Float) 1 (1 ∷ 2 ∷ []) ≡ Err (UsageError PredictorIncompatible)

-- mistake: `is_floating` leaves out numbers of eight bytes
abbrev pub floating_no_pixel : Type 0
floating_no_pixel =
    row_of_type (inner_type n.Gray64Float) 0 [] ≡ Err (UsageError PredictorIncompatible)

-- mistake: `differences` continues from the first row in the second
-- mistake: `differences` leaves out the last number
-- two rows of two numbers: the differences begin anew in each row
abbrev pub two_rows : Type 0
two_rows =
    differences predictor.Horizontal 256 2 1 (1 ∷ 2 ∷ 5 ∷ 7 ∷ []) ≡ 1 ∷ 1 ∷ 5 ∷ 2 ∷ []

-- no differences without a predictor
abbrev pub no_predictor : Type 0
no_predictor =
    differences predictor.None 256 2 1 (1 ∷ 2 ∷ 5 ∷ 7 ∷ []) ≡ 1 ∷ 2 ∷ 5 ∷ 7 ∷ []

-- numbers restored from differences
abbrev pub restored_0 : Type 0
restored_0 =
    restored_number 256 3 (10 ∷ 20 ∷ 30 ∷ 246 ∷ 236 ∷ 226 ∷ []) 4 ≡ 0

-- mistake: `restored_number` sums all numbers before it
abbrev pub restored_6 : Type 0
restored_6 =
    restored_number 256 4 (1 ∷ 2 ∷ 3 ∷ 9 ∷ 1 ∷ 2 ∷ 3 ∷ 0 ∷ []) 6 ≡ 6

-- bytes that are packed
abbrev pub pack_one : Type 0
pack_one =
    IsPacked (0x3f ∷ []) (0x00 ∷ 0x3f ∷ [])

abbrev pub pack_pairs : Type 0
pack_pairs =
    IsPacked (0x41 ∷ 0x41 ∷ 0x42 ∷ 0x42 ∷ []) (0xff ∷ 0x41 ∷ 0xff ∷ 0x42 ∷ [])

abbrev pub pack_literal : Type 0
pack_literal =
    IsPacked (0x41 ∷ 0x42 ∷ 0x42 ∷ []) (0x02 ∷ 0x41 ∷ 0x42 ∷ 0x42 ∷ [])

-- 128 equal bytes, and 129
abbrev pub pack_128 : Type 0
pack_128 =
    IsPacked (replicate 128 0x41) (0x81 ∷ 0x41 ∷ [])

abbrev pub pack_129 : Type 0
pack_129 =
    IsPacked (replicate 129 0x41) (0x81 ∷ 0x41 ∷ 0x00 ∷ 0x41 ∷ [])

-- mistake: `may_be_written` allows any literal
-- a literal doesn't begin with two equal bytes, and doesn't contain three
abbrev pub literal_pair : Type 0
literal_pair =
    IsPacked (0x41 ∷ 0x41 ∷ []) (0x01 ∷ 0x41 ∷ 0x41 ∷ []) → ⊥

abbrev pub literal_three : Type 0
literal_three =
    IsPacked (0x40 ∷ 0x41 ∷ 0x41 ∷ 0x41 ∷ []) (0x03 ∷ 0x40 ∷ 0x41 ∷ 0x41 ∷ 0x41 ∷ []) → ⊥

-- mistake: `IsPacked` allows twice as many bytes
-- two literals of one byte each aren't written one after the other
abbrev pub literals_alone : Type 0
literals_alone =
    IsPacked (0x41 ∷ 0x42 ∷ []) (0x00 ∷ 0x41 ∷ 0x00 ∷ 0x42 ∷ []) → ⊥

-- mistake: `may_be_written` allows one that unpacks to nothing
-- a header 128 encodes nothing, and isn't written
abbrev pub with_128 : Type 0
with_128 =
    IsPacked (0x41 ∷ 0x41 ∷ []) (0xff ∷ 0x41 ∷ 0x80 ∷ []) → ⊥

-- mistake: `Packs` allows that the last is cut short
-- mistake: `Packs` allows that the blocks unpack to other bytes
-- a literal has all its bytes
abbrev pub literal_cut : Type 0
literal_cut =
    IsPacked (0x41 ∷ 0x42 ∷ []) (0x02 ∷ 0x41 ∷ 0x42 ∷ []) → ⊥

-- a list doesn't encode other bytes
abbrev pub pack_other : Type 0
pack_other =
    IsPacked (0x41 ∷ []) (0x00 ∷ 0x42 ∷ []) → ⊥

-- three runs and two literals (TIFF 6.0 section 9)
abbrev pub pack_standard : Type 0
pack_standard =
    IsPacked
    (0xaa ∷ 0xaa ∷ 0xaa ∷ 0x80 ∷ 0x00 ∷ 0x2a ∷ 0xaa ∷ 0xaa ∷ 0xaa ∷ 0xaa ∷ 0x80 ∷ 0x00 ∷ 0x2a ∷ 0x22
    ∷ 0xaa
    ∷ 0xaa ∷ 0xaa ∷ 0xaa ∷ 0xaa ∷ 0xaa ∷ 0xaa ∷ 0xaa ∷ 0xaa ∷ 0xaa ∷ [])
    (0xfe ∷ 0xaa ∷ 0x02 ∷ 0x80 ∷ 0x00 ∷ 0x2a ∷ 0xfd ∷ 0xaa ∷ 0x03 ∷ 0x80 ∷ 0x00 ∷ 0x2a ∷ 0x22 ∷ 0xf7
    ∷ 0xaa ∷ [])

-- two rows of two bytes, each packed by itself; and packed across the rows; and a cut row
abbrev pub rows_packed : Type 0
rows_packed =
    ArePackedRows 2 (0x01 ∷ 0x01 ∷ 0x01 ∷ 0x01 ∷ []) (0xff ∷ 0x01 ∷ 0xff ∷ 0x01 ∷ [])

-- mistake: `ArePackedRows` packs across rows
-- mistake: `IsCompressed` exchanges the two ways to pack
abbrev pub rows_across : Type 0
rows_across =
    ArePackedRows 2 (0x01 ∷ 0x01 ∷ 0x01 ∷ 0x01 ∷ []) (0xfd ∷ 0x01 ∷ []) → ⊥

-- mistake: `ArePackedRows` allows a part of a row
abbrev pub row_cut : Type 0
row_cut =
    ArePackedRows 2 (0x01 ∷ []) (0x00 ∷ 0x01 ∷ []) → ⊥

-- the largest number of packed bytes
abbrev pub bound_0 : Type 0
bound_0 =
    packed_bound 0 ≡ 0

abbrev pub bound_128 : Type 0
bound_128 =
    packed_bound 128 ≡ 129

-- mistake: `packed_bound` rounds down
abbrev pub bound_129 : Type 0
bound_129 =
    packed_bound 129 ≡ 131

-- bytes stored without compression
abbrev pub stored_plain : Type 0
stored_plain =
    IsStored method.None (0x01 ∷ 0x02 ∷ []) (0x01 ∷ 0x02 ∷ [])

-- mistake: `IsStored` exchanges packed and unpacked
-- bytes stored with PackBits: 01 four times
abbrev pub stored_packed : Type 0
stored_packed =
    IsStored method.PackBits (0xfd ∷ 0x01 ∷ []) (0x01 ∷ 0x01 ∷ 0x01 ∷ 0x01 ∷ [])

-- mistake: `IsStored` stores by other methods
-- bytes aren't stored with another method
abbrev pub stored_else : Type 0
stored_else =
    IsStored method.LZW (0x01 ∷ 0x02 ∷ []) (0x01 ∷ 0x02 ∷ []) → ⊥

-- mistake: `store_fault` allows no bytes to be packed
-- an empty list can't be packed, but can be stored without compression
abbrev pub fault_of_none : Type 0
fault_of_none =
    store_fault method.PackBits [] ≡ Some (IoError WriteZero)

abbrev pub plain_of_none : Type 0
plain_of_none =
    store_fault method.None [] ≡ None

abbrev pub no_fault : Type 0
no_fault =
    store_fault method.PackBits (1 ∷ []) ≡ None

-- mistake: `is_sparing` is never true
-- a literal that begins with two equal bytes, a literal that contains three, and a literal that
-- does neither
abbrev pub plain_literal : Type 0
plain_literal =
    is_sparing (0x41 ∷ 0x41 ∷ 0x42 ∷ []) ≡ false

-- mistake: `is_sparing` looks at the front alone
-- mistake: `is_sparing` doesn't test for three
abbrev pub three_literal : Type 0
three_literal =
    is_sparing (0x40 ∷ 0x41 ∷ 0x41 ∷ 0x41 ∷ []) ≡ false

abbrev pub sparing_literal : Type 0
sparing_literal =
    is_sparing (0x40 ∷ 0x41 ∷ 0x41 ∷ 0x42 ∷ []) ≡ true
