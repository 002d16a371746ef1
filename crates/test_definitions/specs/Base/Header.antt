-- Worked examples of headers.
use Rattle.std.specs.Prelude.{◌≡◌, [], ◌∷◌, Ok, Err}
use Rattle.tiff_base.specs.declared.error.TiffError.TheVariants.{FormatError, IoError}
use Rattle.tiff_base.specs.declared.error.TiffFormatError.TheVariants.{TiffSignatureNotFound, TiffSignatureInvalid, ImageFileDirectoryNotFound}
use Rattle.tiff_base.specs.declared.io.IoKind.TheVariants.{UnexpectedEof}
use Rattle.tiff_base.specs.declared.tags.ByteOrder.TheVariants.{LittleEndian, BigEndian}
use Rattle.tiff_base.specs.declared.tags.FileKind.TheVariants.{Classic, Big}
use Rattle.tiff_base.specs.Header.{header_at}

-- a file that begins with `XX` has no signature
abbrev pub marked_wrong : Type 0
marked_wrong = header_at (0x58 ∷ 0x58 ∷ []) ≡ Err (FormatError TiffSignatureNotFound)

-- an empty file has no signature
abbrev pub empty_file : Type 0
empty_file = header_at [] ≡ Err (FormatError TiffSignatureNotFound)

-- one byte isn't a signature
abbrev pub one_byte : Type 0
one_byte = header_at (0x49 ∷ []) ≡ Err (FormatError TiffSignatureNotFound)

-- mistake: `order_at` asks for at least three bytes
-- the version after the byte order is cut off
abbrev pub cut_version : Type 0
cut_version = header_at (0x49 ∷ 0x49 ∷ []) ≡ Err (IoError UnexpectedEof)

-- mistake: `version_at` takes any other version for BigTIFF
-- version 44 is unknown
abbrev pub unknown_version : Type 0
unknown_version =
    header_at (0x49 ∷ 0x49 ∷ 0x2c ∷ 0x00 ∷ []) ≡ Err (FormatError TiffSignatureInvalid)

-- mistake: `required_number` doesn't test the number
-- mistake: `big_at` doesn't test the size of offsets
-- a BigTIFF header whose offsets have 4 bytes is refused before its first offset is read
abbrev pub narrow_offsets : Type 0
narrow_offsets =
    header_at (0x49 ∷ 0x49 ∷ 0x2b ∷ 0x00 ∷ 0x04 ∷ 0x00 ∷ [])
    ≡ Err (FormatError TiffSignatureNotFound)

-- mistake: `header_of` doesn't test the offset
-- offset 0 isn't a directory
abbrev pub first_offset_0 : Type 0
first_offset_0 = header_at (0x49 ∷ 0x49 ∷ 0x2a ∷ 0x00 ∷ 0x00 ∷ 0x00 ∷ 0x00 ∷ 0x00 ∷ [])
    ≡ Err (FormatError ImageFileDirectoryNotFound)

-- mistake: `classic_at` reads an offset of two bytes
-- the first offset is cut off
abbrev pub cut_offset : Type 0
cut_offset =
    header_at (0x49 ∷ 0x49 ∷ 0x2a ∷ 0x00 ∷ 0x19 ∷ 0x00 ∷ 0x00 ∷ []) ≡ Err (IoError UnexpectedEof)

-- a classic little-endian file whose first directory is at 25
abbrev pub classic_little : Type 0
classic_little =
    header_at (0x49 ∷ 0x49 ∷ 0x2a ∷ 0x00 ∷ 0x19 ∷ 0x00 ∷ 0x00 ∷ 0x00 ∷ []) ≡ Ok (record {
      order = LittleEndian;
      kind = Classic;
      first = 25;
    })

-- mistake: `order_of` doesn't know MM
-- mistake: `header_at` reads the version as little-endian in every file
-- a classic big-endian file
abbrev pub classic_big_endian : Type 0
classic_big_endian =
    header_at (0x4d ∷ 0x4d ∷ 0x00 ∷ 0x2a ∷ 0x00 ∷ 0x00 ∷ 0x01 ∷ 0x02 ∷ []) ≡ Ok (record {
      order = BigEndian;
      kind = Classic;
      first = 258;
    })

-- a little-endian BigTIFF file
abbrev pub big_little : Type 0
big_little =
    header_at
    (0x49 ∷ 0x49 ∷ 0x2b ∷ 0x00 ∷ 0x08 ∷ 0x00 ∷ 0x00 ∷ 0x00 ∷ 0x10 ∷ 0x00 ∷ 0x00 ∷ 0x00 ∷ 0x00
    ∷ 0x00
    ∷ 0x00 ∷ 0x00 ∷ [])
    ≡ Ok (record { order = LittleEndian; kind = Big; first = 16 })

-- mistake: `big_at` doesn't test the zeros
-- a BigTIFF header whose two reserved bytes aren't zero
abbrev pub no_zeros : Type 0
no_zeros =
    header_at
    (0x49 ∷ 0x49 ∷ 0x2b ∷ 0x00 ∷ 0x08 ∷ 0x00 ∷ 0x01 ∷ 0x00 ∷ 0x10 ∷ 0x00 ∷ 0x00 ∷ 0x00 ∷ 0x00
    ∷ 0x00
    ∷ 0x00 ∷ 0x00 ∷ []) ≡ Err (FormatError TiffSignatureNotFound)
