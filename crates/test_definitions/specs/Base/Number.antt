-- Worked examples of numbers, and of the bytes at an offset.
use Rattle.std.specs.Prelude.{◌≡◌, [], ◌∷◌, get_or, Ok, Err}
use Rattle.std.specs.Int.{w8, w16, w32, w64}
use Rattle.tiff_base.specs.declared.error.TiffError.TheVariants.{IoError}
use Rattle.tiff_base.specs.declared.io.IoKind.TheVariants.{UnexpectedEof}
use Rattle.tiff_base.specs.declared.tags.ByteOrder.TheVariants.{LittleEndian, BigEndian}
use Rattle.tiff_base.specs.Number.{number, number_at, le, sample_sum}
use Rattle.tiff_base.specs.SourceAndSink.{bytes_at, exactly_at, put}

-- one byte is itself
abbrev pub one_little : Type 0
one_little = number LittleEndian w8 (0x2a ∷ []) ≡ 42

abbrev pub one_big : Type 0
one_big = number BigEndian w8 (0x2a ∷ []) ≡ 42

-- two little-endian bytes
abbrev pub two_little : Type 0
two_little = number LittleEndian w16 (0x2a ∷ 0x01 ∷ []) ≡ 298

-- mistake: `number` reads big-endian as little-endian
-- two big-endian bytes
abbrev pub two_big : Type 0
two_big = number BigEndian w16 (0x2a ∷ 0x01 ∷ []) ≡ 10753

-- four little-endian bytes
abbrev pub four_little : Type 0
four_little = number LittleEndian w32 (0x40 ∷ 0x42 ∷ 0x0f ∷ 0x00 ∷ []) ≡ 1000000

abbrev pub four_big : Type 0
four_big = number BigEndian w32 (0x01 ∷ 0x02 ∷ 0x03 ∷ 0x04 ∷ []) ≡ 16909060

-- eight little-endian bytes
abbrev pub eight_little : Type 0
eight_little = number LittleEndian w64 (0x01 ∷ 0x00 ∷ 0x00 ∷ 0x00 ∷ 0x01 ∷ 0x00 ∷ 0x00 ∷ 0x00 ∷ [])
    ≡ 4294967297

abbrev pub eight_big : Type 0
eight_big = number BigEndian w64 (0x01 ∷ 0x00 ∷ 0x00 ∷ 0x00 ∷ 0x00 ∷ 0x00 ∷ 0x00 ∷ 0x02 ∷ [])
    ≡ 72057594037927938

-- the greatest number of eight bytes
abbrev pub greatest : Type 0
greatest = number LittleEndian w64 (0xff ∷ 0xff ∷ 0xff ∷ 0xff ∷ 0xff ∷ 0xff ∷ 0xff ∷ 0xff ∷ [])
    ≡ 18446744073709551615

-- mistake: `le` begins with the second byte
-- a million in four little-endian bytes
abbrev pub million : Type 0
million = le 4 1000000 ≡ (0x40 ∷ 0x42 ∷ 0x0f ∷ 0x00 ∷ [])

-- the lowest two bytes of a number of three bytes
abbrev pub lowest_two : Type 0
lowest_two = le 2 0x010203 ≡ (0x03 ∷ 0x02 ∷ [])

-- two bytes from offset 1 on
abbrev pub two_at_1 : Type 0
two_at_1 = exactly_at (0x0a ∷ 0x0b ∷ 0x0c ∷ []) 1 2 ≡ Ok (0x0b ∷ 0x0c ∷ [])

-- one byte more than the list has
abbrev pub one_too_many : Type 0
one_too_many = exactly_at (0x0a ∷ 0x0b ∷ 0x0c ∷ []) 1 3 ≡ Err (IoError UnexpectedEof)

-- mistake: `exactly_at` refuses to read no bytes past the end
-- zero bytes can be read at every offset, even past the end
abbrev pub nothing_past_end : Type 0
nothing_past_end = exactly_at (0x0a ∷ 0x0b ∷ 0x0c ∷ []) 9 0 ≡ Ok []

-- a byte can't be read past the end
abbrev pub byte_past_end : Type 0
byte_past_end = exactly_at (0x0a ∷ 0x0b ∷ 0x0c ∷ []) 9 1 ≡ Err (IoError UnexpectedEof)

-- fewer bytes at the end than wanted
abbrev pub fewer_at_end : Type 0
fewer_at_end = bytes_at (0x0a ∷ 0x0b ∷ 0x0c ∷ []) 2 5 ≡ (0x0c ∷ [])

-- mistake: `number_at` reads from the beginning
-- a number at an offset, and one that is cut off
abbrev pub number_at_1 : Type 0
number_at_1 = number_at BigEndian w16 (0x0a ∷ 0x0b ∷ 0x0c ∷ []) 1 ≡ Ok 2828

abbrev pub cut_number : Type 0
cut_number = number_at LittleEndian w32 (0x0a ∷ 0x0b ∷ 0x0c ∷ []) 0 ≡ Err (IoError UnexpectedEof)

-- mistake: `put` keeps what was written over, after the new bytes
-- one byte overwrites another, and the second of two bytes is past the end
abbrev pub put_one : Type 0
put_one = put (0x0a ∷ 0x0b ∷ 0x0c ∷ []) 1 (0xff ∷ []) ≡ (0x0a ∷ 0xff ∷ 0x0c ∷ [])

abbrev pub put_two : Type 0
put_two = put (0x0a ∷ 0x0b ∷ 0x0c ∷ []) 2 (0xfe ∷ 0xff ∷ []) ≡ (0x0a ∷ 0x0b ∷ 0xfe ∷ 0xff ∷ [])

-- mistake: `sample_sum` sums all numbers before it
-- mistake: `sample_sum` doesn't cut the sum to its width
-- mistake: `sample_sum` leaves out the number itself
-- the fifth number of a row with two samples per pixel, added to the first and the third, modulo
-- 256
abbrev pub fifth_summed : Type 0
fifth_summed = sample_sum 256 2 (λ i. get_or (1 ∷ 9 ∷ 250 ∷ 9 ∷ 10 ∷ []) i 0) 4 ≡ 5
