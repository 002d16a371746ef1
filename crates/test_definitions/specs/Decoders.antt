-- Decoders for worked examples.
use Rattle.std.specs.Prelude.{ℕ, List, [], ◌∷◌, ◌++◌, Some, None, true, false, reverse}
use Rattle.std.specs.FinMap.{from_entries}
use Rattle.tiff_base.specs.declared.tags.ByteOrder.TheVariants.{LittleEndian}
use Rattle.tiff_base.specs.declared.tags.FileKind.TheVariants.{Classic}
use Rattle.tiff_base.specs.declared.tags.IfdPointer.{IfdPointer}
use Rattle.tiff_base.specs.Field.{Field, DirectoryRecord}
use Rattle.tiff_base.specs.SourceAndSink.{put}
use Rattle.tiff_decode.specs.DefaultLimits.{default_limits}
use Rattle.tiff_decode.specs.Machine.{State, Decoding}
use Rattle.test_definitions.specs.Files.{gray_file, gray_entries}
use Rattle.test_definitions.specs.Page.Pixels.{pixel_page}

abbrev pub at : ℕ → IfdPointer
at offset = record { 0 = offset }

-- the directory of the file of one gray pixel
abbrev pub gray_fields : DirectoryRecord
gray_fields = record { entries = from_entries (reverse gray_entries); next = None }

-- the state of the decoder of `gray_file` after opening
abbrev pub gray_state : State
gray_state = record {
  pointer = Some (at 25);
  more = false;
  page = pixel_page;
  directory = gray_fields;
  offset = 8;
  limits = default_limits;
}

-- the decoder of a classic little-endian file with these bytes and this first directory
abbrev pub decoder_at : List ℕ → ℕ → State → Decoding
decoder_at bytes first state =
    record {
      bytes = bytes;
      readable = None;
      kind = Classic;
      order = LittleEndian;
      first = first;
      failures = 0;
      state = state;
    }

abbrev pub gray_decoder : Decoding
gray_decoder = decoder_at gray_file 25 gray_state

-- `gray_file` with a second directory at 199, which has no entries and this link
abbrev pub two_file : List ℕ → List ℕ
two_file link = put gray_file 195 (0xc7 ∷ 0x00 ∷ 0x00 ∷ 0x00 ∷ []) ++ (0x00 ∷ 0x00 ∷ link)

-- the decoder at the first page of the file with two directories
abbrev pub two_decoder : List ℕ → Decoding
two_decoder link =
    decoder_at (two_file link) 25
    (record gray_state { more = true; directory = record gray_fields { next = Some 199 } })

-- three directories without entries, at 8, 14 and 20
abbrev pub three_file : List ℕ
three_file = 0x49 ∷ 0x49 ∷ 0x2a ∷ 0x00 ∷ 0x08 ∷ 0x00 ∷ 0x00 ∷ 0x00
    ∷ 0x00 ∷ 0x00 ∷ 0x0e ∷ 0x00 ∷ 0x00 ∷ 0x00
    ∷ 0x00 ∷ 0x00 ∷ 0x14 ∷ 0x00 ∷ 0x00 ∷ 0x00
    ∷ 0x00 ∷ 0x00 ∷ 0x00 ∷ 0x00 ∷ 0x00 ∷ 0x00 ∷ []

-- a decoder at the first of the three directories
abbrev pub three_decoder : Decoding
three_decoder = decoder_at three_file 8 (record gray_state { pointer = Some (at 8); more = true })

-- a decoder of these bytes at an offset
abbrev pub bytes_decoder : List ℕ → ℕ → Decoding
bytes_decoder bytes offset = decoder_at bytes 8 (record gray_state { offset = offset })

-- a decoder whose page has these fields
abbrev pub fields_decoder : List ℕ → List (ℕ × Field) → Decoding
fields_decoder bytes fields =
    decoder_at bytes 8
    (record gray_state { directory = record { entries = from_entries fields; next = None } })
