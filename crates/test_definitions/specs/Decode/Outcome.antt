-- Worked examples of opening files: headers, directories, and the first page.
use Rattle.std.specs.Prelude.{◌≡◌, ℕ, List, take, reverse, [], ◌∷◌, ◌++◌, Some, None, false, Result, Ok, Err}
use Rattle.std.specs.FinMap.{from_entries}
use Rattle.tiff_base.specs.declared.error.TiffError.{TiffError}
use Rattle.tiff_base.specs.declared.error.TiffError.TheVariants.{FormatError, IoError, LimitsExceeded}
use Rattle.tiff_base.specs.declared.error.TiffFormatError.TheVariants.{TiffSignatureNotFound, TiffSignatureInvalid, ImageFileDirectoryNotFound, RequiredTagNotFound, InvalidDimensions}
use Rattle.tiff_base.specs.declared.io.IoKind.TheVariants.{UnexpectedEof}
use Rattle.tiff_base.specs.declared.tags.ByteOrder.TheVariants.{LittleEndian, BigEndian}
use Rattle.tiff_base.specs.declared.tags.CompressionMethod.TheVariants as method
use Rattle.tiff_base.specs.declared.tags.FileKind.TheVariants.{Classic, Big}
use Rattle.tiff_base.specs.declared.tags.Tag.TheVariants as tag
use Rattle.tiff_base.specs.declared.tags.«Type».TheVariants.{SHORT, LONG}
use Rattle.tiff_base.specs.Answers.{◌>>=◌}
use Rattle.tiff_base.specs.Field.{Field, DirectoryRecord}
use Rattle.tiff_base.specs.SourceAndSink.{put}
use Rattle.tiff_page.specs.Page.{PageRecord}
use Rattle.tiff_decode.specs.DefaultLimits.{default_limits}
use Rattle.tiff_decode.specs.Machine.{Decoding}
use Rattle.tiff_decode.specs.Outcome.{decoder_of}
use Rattle.test_definitions.specs.Decoders.{at, two_file, two_decoder}
use Rattle.test_definitions.specs.Base.FieldBytes.{of}
use Rattle.test_definitions.specs.Files.{gray_file}
use Rattle.test_definitions.specs.Page.Pixels.{pixel_page}

-- the page at which a file opens
abbrev pub first_page : List ℕ → Result PageRecord TiffError
first_page bytes = decoder_of bytes 0 >>= λ d. Ok d.state.page

-- ---- headers and directories

-- big-endian files with offset 0 and with version 44
abbrev pub big_endian_0 : Type 0
big_endian_0 = decoder_of (0x4d ∷ 0x4d ∷ 0x00 ∷ 0x2a ∷ 0x00 ∷ 0x00 ∷ 0x00 ∷ 0x00 ∷ []) 0
    ≡ Err (FormatError ImageFileDirectoryNotFound)

abbrev pub big_endian_44 : Type 0
big_endian_44 = decoder_of (0x4d ∷ 0x4d ∷ 0x00 ∷ 0x2c ∷ 0x00 ∷ 0x00 ∷ 0x00 ∷ 0x08 ∷ []) 0
    ≡ Err (FormatError TiffSignatureInvalid)

-- BigTIFF files with a first offset that is cut off, and with 4-byte offsets
abbrev pub big_file_cut : Type 0
big_file_cut =
    decoder_of (0x49 ∷ 0x49 ∷ 0x2b ∷ 0x00 ∷ 0x08 ∷ 0x00 ∷ 0x00 ∷ 0x00 ∷ 0x10 ∷ 0x00 ∷ 0x00 ∷ 0x00
    ∷ []) 0 ≡ Err (IoError UnexpectedEof)

abbrev pub big_file_4 : Type 0
big_file_4 =
    decoder_of (0x49 ∷ 0x49 ∷ 0x2b ∷ 0x00 ∷ 0x04 ∷ 0x00 ∷ 0x00 ∷ 0x00 ∷ 0x10 ∷ 0x00 ∷ 0x00 ∷ 0x00
    ∷ []) 0 ≡ Err (FormatError TiffSignatureNotFound)

-- a directory that links to itself, with the link cut off
abbrev pub directory_cut : Type 0
directory_cut =
    decoder_of
    (0x49 ∷ 0x49 ∷ 0x2a ∷ 0x00 ∷ 0x08 ∷ 0x00 ∷ 0x00 ∷ 0x00 ∷ 0x00 ∷ 0x00 ∷ 0x08 ∷ 0x00 ∷ 0x00
    ∷ []) 0 ≡ Err (IoError UnexpectedEof)

-- mistake: `decoder_of` returns "not found" for the chain's error
-- `gray_file` without its last byte
abbrev pub gray_cut : Type 0
gray_cut = decoder_of (take 198 gray_file) 0 ≡ Err (IoError UnexpectedEof)

-- ---- the first page

-- a file whose directory has no entries
abbrev pub bare_file : List ℕ
bare_file = 0x49 ∷ 0x49 ∷ 0x2a ∷ 0x00 ∷ 0x08 ∷ 0x00 ∷ 0x00 ∷ 0x00 ∷ 0x00 ∷ 0x00 ∷ 0x00 ∷ 0x00 ∷ 0x00
    ∷ 0x00 ∷ []

abbrev pub no_tags : Type 0
no_tags = decoder_of bare_file 0 ≡ Err (FormatError (RequiredTagNotFound tag.ImageWidth))

-- `gray_file` with width 0
abbrev pub width_0 : Type 0
width_0 = decoder_of (put gray_file 35 (0x00 ∷ [])) 0 ≡ Err (FormatError (InvalidDimensions 0 1))

-- `gray_file` with compression method 5, and with byte count 0: both open
abbrev pub lzw : Type 0
lzw = first_page (put gray_file 71 (0x05 ∷ [])) ≡ Ok (record pixel_page { method = method.LZW })

abbrev pub count_0 : Type 0
count_0 =
    first_page (put gray_file 131 (0x00 ∷ [])) ≡ Ok (record pixel_page { byte_counts = 0 ∷ [] })

-- mistake: `decoder_of` reads the page without limits
-- a list of more byte counts than the default limits allow, and a list of the allowed number that
-- the file doesn't contain
abbrev pub list_limited : Type 0
list_limited =
    decoder_of (put gray_file 127 (0x01 ∷ 0x00 ∷ 0x80 ∷ 0x00 ∷ [])) 0 ≡ Err LimitsExceeded

abbrev pub list_within : Type 0
list_within =
    decoder_of (put gray_file 127 (0x00 ∷ 0x00 ∷ 0x80 ∷ 0x00 ∷ [])) 0 ≡ Err (IoError UnexpectedEof)

-- mistake: `decoder_of` needs the next directory to be readable
-- mistake: `decoder_of` is never open
-- a file whose next directory is cut off opens, as that directory isn't read yet
abbrev pub next_unread : Type 0
next_unread = decoder_of (two_file []) 0 ≡ Ok (two_decoder [])

-- ---- other byte orders and kinds

-- the page of 3 by 2 samples of one bit, in two strips at 8 and 10
abbrev pub small_page : PageRecord
small_page = record pixel_page {
  width = 3;
  height = 2;
  depth = 1;
  chunk_width = 3;
  chunk_height = 1;
  offsets = 8 ∷ 10 ∷ [];
  byte_counts = 1 ∷ 2 ∷ [];
}

-- a directory with these entries and no next directory
abbrev pub alone : List (ℕ × Field) → DirectoryRecord
alone entries = record { entries = from_entries (reverse entries); next = None }

-- a big-endian file of `small_page`
abbrev pub big_endian_file : List ℕ
big_endian_file =
    (0x4d ∷ 0x4d ∷ 0x00 ∷ 0x2a ∷ 0x00 ∷ 0x00 ∷ 0x00 ∷ 0x08 ∷ 0x00 ∷ 0x06 ∷ [])
    ++ (0x01 ∷ 0x00 ∷ 0x00 ∷ 0x03 ∷ 0x00 ∷ 0x00 ∷ 0x00 ∷ 0x01 ∷ 0x00 ∷ 0x03 ∷ 0x00 ∷ 0x00 ∷ [])
    ++ (0x01 ∷ 0x01 ∷ 0x00 ∷ 0x03 ∷ 0x00 ∷ 0x00 ∷ 0x00 ∷ 0x01 ∷ 0x00 ∷ 0x02 ∷ 0x00 ∷ 0x00 ∷ [])
    ++ (0x01 ∷ 0x06 ∷ 0x00 ∷ 0x03 ∷ 0x00 ∷ 0x00 ∷ 0x00 ∷ 0x01 ∷ 0x00 ∷ 0x01 ∷ 0x00 ∷ 0x00 ∷ [])
    ++ (0x01 ∷ 0x11 ∷ 0x00 ∷ 0x03 ∷ 0x00 ∷ 0x00 ∷ 0x00 ∷ 0x02 ∷ 0x00 ∷ 0x08 ∷ 0x00 ∷ 0x0a ∷ [])
    ++ (0x01 ∷ 0x16 ∷ 0x00 ∷ 0x03 ∷ 0x00 ∷ 0x00 ∷ 0x00 ∷ 0x01 ∷ 0x00 ∷ 0x01 ∷ 0x00 ∷ 0x00 ∷ [])
    ++ (0x01 ∷ 0x17 ∷ 0x00 ∷ 0x03 ∷ 0x00 ∷ 0x00 ∷ 0x00 ∷ 0x02 ∷ 0x00 ∷ 0x01 ∷ 0x00 ∷ 0x02 ∷ [])
    ++ (0x00 ∷ 0x00 ∷ 0x00 ∷ 0x00 ∷ [])

abbrev pub big_endian_entries : List (ℕ × Field)
big_endian_entries =
    (256, of SHORT 1 (0x00 ∷ 0x03 ∷ 0x00 ∷ 0x00 ∷ 0x00 ∷ 0x00 ∷ 0x00 ∷ 0x00 ∷ []))
    ∷ (257, of SHORT 1 (0x00 ∷ 0x02 ∷ 0x00 ∷ 0x00 ∷ 0x00 ∷ 0x00 ∷ 0x00 ∷ 0x00 ∷ []))
    ∷ (262, of SHORT 1 (0x00 ∷ 0x01 ∷ 0x00 ∷ 0x00 ∷ 0x00 ∷ 0x00 ∷ 0x00 ∷ 0x00 ∷ []))
    ∷ (273, of SHORT 2 (0x00 ∷ 0x08 ∷ 0x00 ∷ 0x0a ∷ 0x00 ∷ 0x00 ∷ 0x00 ∷ 0x00 ∷ []))
    ∷ (278, of SHORT 1 (0x00 ∷ 0x01 ∷ 0x00 ∷ 0x00 ∷ 0x00 ∷ 0x00 ∷ 0x00 ∷ 0x00 ∷ []))
    ∷ (279, of SHORT 2 (0x00 ∷ 0x01 ∷ 0x00 ∷ 0x02 ∷ 0x00 ∷ 0x00 ∷ 0x00 ∷ 0x00 ∷ []))
    ∷ []

-- the decoder of the big-endian file
abbrev pub big_endian_decoder : Decoding
big_endian_decoder = record {
  bytes = big_endian_file;
  readable = None;
  kind = Classic;
  order = BigEndian;
  first = 8;
  failures = 0;
  state = record {
    pointer = Some (at 8);
    more = false;
    page = small_page;
    directory = alone big_endian_entries;
    offset = 8;
    limits = default_limits;
  };
}

-- mistake: `decoder_of` reads tags as little-endian
abbrev pub big_endian : Type 0
big_endian = decoder_of big_endian_file 0 ≡ Ok big_endian_decoder

-- a BigTIFF file of `small_page`: two 4-byte offsets are in their entry
abbrev pub big_file : List ℕ
big_file =
    (0x49 ∷ 0x49 ∷ 0x2b ∷ 0x00 ∷ 0x08 ∷ 0x00 ∷ 0x00 ∷ 0x00 ∷ 0x10 ∷ 0x00 ∷ 0x00 ∷ 0x00 ∷ 0x00 ∷ 0x00
    ∷ 0x00 ∷ 0x00 ∷ 0x06 ∷ 0x00 ∷ 0x00 ∷ 0x00 ∷ 0x00 ∷ 0x00 ∷ 0x00 ∷ 0x00 ∷ [])
    ++ (0x00 ∷ 0x01 ∷ 0x03 ∷ 0x00 ∷ 0x01 ∷ 0x00 ∷ 0x00 ∷ 0x00 ∷ 0x00 ∷ 0x00 ∷ 0x00 ∷ 0x00 ∷ 0x03
    ∷ 0x00 ∷ 0x00 ∷ 0x00 ∷ 0x00 ∷ 0x00 ∷ 0x00 ∷ 0x00 ∷ [])
    ++ (0x01 ∷ 0x01 ∷ 0x03 ∷ 0x00 ∷ 0x01 ∷ 0x00 ∷ 0x00 ∷ 0x00 ∷ 0x00 ∷ 0x00 ∷ 0x00 ∷ 0x00 ∷ 0x02
    ∷ 0x00 ∷ 0x00 ∷ 0x00 ∷ 0x00 ∷ 0x00 ∷ 0x00 ∷ 0x00 ∷ [])
    ++ (0x06 ∷ 0x01 ∷ 0x03 ∷ 0x00 ∷ 0x01 ∷ 0x00 ∷ 0x00 ∷ 0x00 ∷ 0x00 ∷ 0x00 ∷ 0x00 ∷ 0x00 ∷ 0x01
    ∷ 0x00 ∷ 0x00 ∷ 0x00 ∷ 0x00 ∷ 0x00 ∷ 0x00 ∷ 0x00 ∷ [])
    ++ (0x11 ∷ 0x01 ∷ 0x04 ∷ 0x00 ∷ 0x02 ∷ 0x00 ∷ 0x00 ∷ 0x00 ∷ 0x00 ∷ 0x00 ∷ 0x00 ∷ 0x00 ∷ 0x08
    ∷ 0x00 ∷ 0x00 ∷ 0x00 ∷ 0x0a ∷ 0x00 ∷ 0x00 ∷ 0x00 ∷ [])
    ++ (0x16 ∷ 0x01 ∷ 0x03 ∷ 0x00 ∷ 0x01 ∷ 0x00 ∷ 0x00 ∷ 0x00 ∷ 0x00 ∷ 0x00 ∷ 0x00 ∷ 0x00 ∷ 0x01
    ∷ 0x00 ∷ 0x00 ∷ 0x00 ∷ 0x00 ∷ 0x00 ∷ 0x00 ∷ 0x00 ∷ [])
    ++ (0x17 ∷ 0x01 ∷ 0x03 ∷ 0x00 ∷ 0x02 ∷ 0x00 ∷ 0x00 ∷ 0x00 ∷ 0x00 ∷ 0x00 ∷ 0x00 ∷ 0x00 ∷ 0x01
    ∷ 0x00 ∷ 0x02 ∷ 0x00 ∷ 0x00 ∷ 0x00 ∷ 0x00 ∷ 0x00 ∷ [])
    ++ (0x00 ∷ 0x00 ∷ 0x00 ∷ 0x00 ∷ 0x00 ∷ 0x00 ∷ 0x00 ∷ 0x00 ∷ [])

abbrev pub big_entries : List (ℕ × Field)
big_entries =
    (256, of SHORT 1 (0x03 ∷ 0x00 ∷ 0x00 ∷ 0x00 ∷ 0x00 ∷ 0x00 ∷ 0x00 ∷ 0x00 ∷ []))
    ∷ (257, of SHORT 1 (0x02 ∷ 0x00 ∷ 0x00 ∷ 0x00 ∷ 0x00 ∷ 0x00 ∷ 0x00 ∷ 0x00 ∷ []))
    ∷ (262, of SHORT 1 (0x01 ∷ 0x00 ∷ 0x00 ∷ 0x00 ∷ 0x00 ∷ 0x00 ∷ 0x00 ∷ 0x00 ∷ []))
    ∷ (273, of LONG 2 (0x08 ∷ 0x00 ∷ 0x00 ∷ 0x00 ∷ 0x0a ∷ 0x00 ∷ 0x00 ∷ 0x00 ∷ []))
    ∷ (278, of SHORT 1 (0x01 ∷ 0x00 ∷ 0x00 ∷ 0x00 ∷ 0x00 ∷ 0x00 ∷ 0x00 ∷ 0x00 ∷ []))
    ∷ (279, of SHORT 2 (0x01 ∷ 0x00 ∷ 0x02 ∷ 0x00 ∷ 0x00 ∷ 0x00 ∷ 0x00 ∷ 0x00 ∷ []))
    ∷ []

-- the decoder of the BigTIFF file is after the header of 16 bytes
abbrev pub big_decoder : Decoding
big_decoder = record {
  bytes = big_file;
  readable = None;
  kind = Big;
  order = LittleEndian;
  first = 16;
  failures = 0;
  state = record {
    pointer = Some (at 16);
    more = false;
    page = small_page;
    directory = alone big_entries;
    offset = 16;
    limits = default_limits;
  };
}

-- mistake: `decoder_of` takes each file for a classic one
-- mistake: `decoder_of` takes 8 for the offset in every file
abbrev pub big : Type 0
big = decoder_of big_file 0 ≡ Ok big_decoder
