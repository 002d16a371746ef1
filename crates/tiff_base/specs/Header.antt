-- The header of a file (TIFF 6.0 section 2; BigTIFF).
use Rattle.std.specs.Prelude.{ℕ, List, Result, Ok, Err, length, if◌then◌else◌, ◌==◌, nat_le}
use Rattle.std.specs.Int.{w16, w32, w64}
use Rattle.tiff_base.specs.declared.error.TiffError.{TiffError}
use Rattle.tiff_base.specs.declared.error.TiffError.TheVariants.{FormatError}
use Rattle.tiff_base.specs.declared.error.TiffFormatError.TheVariants.{TiffSignatureNotFound, TiffSignatureInvalid, ImageFileDirectoryNotFound}
use Rattle.tiff_base.specs.declared.tags.ByteOrder.{ByteOrder}
use Rattle.tiff_base.specs.declared.tags.ByteOrder.TheVariants.{LittleEndian, BigEndian}
use Rattle.tiff_base.specs.declared.tags.FileKind.{FileKind}
use Rattle.tiff_base.specs.declared.tags.FileKind.TheVariants.{Classic, Big}
use Rattle.tiff_base.specs.SourceAndSink.{bytes_at}
use Rattle.tiff_base.specs.Number.{number, number_at}
use Rattle.tiff_base.specs.Answers.{◌>>=◌}

-- the byte order and the kind of a file, and the offset of its first directory
pub record Header : Type 0 where
  pub order : ByteOrder
  pub kind : FileKind
  pub first : ℕ

-- the byte order of the mark II or MM, read as a number
abbrev pub order_of : ℕ → Result ByteOrder TiffError
order_of mark =
    if mark == 0x4949 then Ok LittleEndian else if mark == 0x4d4d then Ok BigEndian
    else Err (FormatError TiffSignatureNotFound)

abbrev pub order_at : List ℕ → Result ByteOrder TiffError
order_at bytes =
    if nat_le 2 (length bytes) then order_of (number LittleEndian w16 (bytes_at bytes 0 2))
    else Err (FormatError TiffSignatureNotFound)

-- a number of the header of BigTIFF that must be equal to m
abbrev pub required_number : ℕ → ℕ → Result ℕ TiffError
required_number n m = if n == m then Ok n else Err (FormatError TiffSignatureNotFound)

-- the header with the offset of its first directory, which must not be 0
abbrev pub header_of : ByteOrder → FileKind → ℕ → Result Header TiffError
header_of order kind first =
    if first == 0 then Err (FormatError ImageFileDirectoryNotFound)
    else Ok (record { order = order; kind = kind; first = first })

abbrev pub classic_at : ByteOrder → List ℕ → Result Header TiffError
classic_at order bytes = do
  first ← number_at order w32 bytes 4
  header_of order Classic first

abbrev pub big_at : ByteOrder → List ℕ → Result Header TiffError
big_at order bytes = do
  size ← number_at order w16 bytes 4
  _ ← required_number size 8
  zeros ← number_at order w16 bytes 6
  _ ← required_number zeros 0
  first ← number_at order w64 bytes 8
  header_of order Big first

abbrev pub version_at : ByteOrder → List ℕ → ℕ → Result Header TiffError
version_at order bytes version =
    if version == 42 then classic_at order bytes else if version == 43 then big_at order bytes
    else Err (FormatError TiffSignatureInvalid)

-- the header of a file; each number is tested before the next is read
unfoldable pub header_at : List ℕ → Result Header TiffError
header_at bytes = do
  order ← order_at bytes
  version ← number_at order w16 bytes 2
  version_at order bytes version
