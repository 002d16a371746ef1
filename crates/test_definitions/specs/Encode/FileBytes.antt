-- Worked examples of files of the writer.
use Rattle.std.specs.Prelude.{◌≡◌, ℕ, ◌++◌, List, [], ◌∷◌, None}
use Rattle.std.specs.FinMap.{from_entries}
use Rattle.tiff_base.specs.declared.tags.CompressionMethod.TheVariants as method
use Rattle.tiff_base.specs.declared.tags.FileKind.TheVariants.{Classic, Big}
use Rattle.tiff_base.specs.declared.tags.Predictor.TheVariants as predictor
use Rattle.tiff_value.specs.Written.{Written, writer_after, writer_after_counted}
use Rattle.tiff_encode.specs.declared.encoder.settings.Compression.TheVariants.{Uncompressed}
use Rattle.tiff_value.specs.FileBytes.{header_bytes, entry_bytes, directory_bytes, padding, rows_per_strip}
use Rattle.tiff_encode.specs.Machine.{FileState}
use Rattle.test_definitions.specs.OneValue.{short_field, long_field}

-- headers without a first directory yet
abbrev pub classic_header : Type 0
classic_header = header_bytes Classic ≡ (0x49 ∷ 0x49 ∷ 0x2a ∷ 0x00 ∷ 0x00 ∷ 0x00 ∷ 0x00 ∷ 0x00 ∷ [])

-- mistake: `header_bytes` has offsets of 4 bytes in BigTIFF
abbrev pub big_header : Type 0
big_header = header_bytes Big
    ≡ (0x49 ∷ 0x49 ∷ 0x2b ∷ 0x00 ∷ 0x08 ∷ 0x00 ∷ 0x00 ∷ 0x00 ∷ 0x00 ∷ 0x00 ∷ 0x00 ∷ 0x00 ∷ 0x00
    ∷ 0x00 ∷ 0x00
    ∷ 0x00 ∷ [])

-- the entries BitsPerSample 8 of a classic file, and ImageWidth 5 of a BigTIFF file
abbrev pub classic_entry : Type 0
classic_entry = entry_bytes Classic (258, short_field 8)
    ≡ (0x02 ∷ 0x01 ∷ 0x03 ∷ 0x00 ∷ 0x01 ∷ 0x00 ∷ 0x00 ∷ 0x00 ∷ 0x08 ∷ 0x00 ∷ 0x00 ∷ 0x00 ∷ [])

-- mistake: `entry_bytes` writes a value field of 4 bytes in BigTIFF
abbrev pub big_entry : Type 0
big_entry =
    entry_bytes Big (256, long_field 5)
    ≡ (0x00 ∷ 0x01 ∷ 0x04 ∷ 0x00 ∷ 0x01 ∷ 0x00 ∷ 0x00 ∷ 0x00 ∷ 0x00 ∷ 0x00 ∷ 0x00 ∷ 0x00 ∷ 0x05
    ∷ 0x00 ∷ 0x00
    ∷ 0x00 ∷ 0x00 ∷ 0x00 ∷ 0x00 ∷ 0x00 ∷ [])

-- mistake: `padding` appends 4 zeros for none
-- zeros up to the next multiple of 4
abbrev pub padding_8 : Type 0
padding_8 = padding 8 ≡ []

abbrev pub padding_199 : Type 0
padding_199 = padding 199 ≡ (0x00 ∷ [])

abbrev pub padding_201 : Type 0
padding_201 = padding 201 ≡ (0x00 ∷ 0x00 ∷ 0x00 ∷ [])

-- mistake: `rows_per_strip` is one row off
-- a strip has 333334 rows of 3 bytes, 3334 rows of 300 bytes, or 1 row of two million bytes
abbrev pub rows_3 : Type 0
rows_3 = rows_per_strip 3 ≡ 333334

abbrev pub rows_300 : Type 0
rows_300 = rows_per_strip 300 ≡ 3334

abbrev pub rows_long : Type 0
rows_long = rows_per_strip 2000000 ≡ 1

-- a directory of two fields is written in ascending order of tag numbers
abbrev pub two_fields : Type 0
two_fields =
    directory_bytes Classic (from_entries ((258, short_field 8) ∷ (256, long_field 5) ∷ []))
    ≡ (0x02 ∷ 0x00 ∷ [])
    ++ (0x00 ∷ 0x01 ∷ 0x04 ∷ 0x00 ∷ 0x01 ∷ 0x00 ∷ 0x00 ∷ 0x00 ∷ 0x05 ∷ 0x00 ∷ 0x00 ∷ 0x00 ∷ [])
    ++ (0x02 ∷ 0x01 ∷ 0x03 ∷ 0x00 ∷ 0x01 ∷ 0x00 ∷ 0x00 ∷ 0x00 ∷ 0x08 ∷ 0x00 ∷ 0x00 ∷ 0x00 ∷ [])
    ++ (0x00 ∷ 0x00 ∷ 0x00 ∷ 0x00 ∷ [])

-- mistake: `directory_bytes` writes a link of 4 bytes in BigTIFF
-- a directory without fields
abbrev pub no_field : Type 0
no_field = directory_bytes Big (from_entries [])
    ≡ (0x00 ∷ 0x00 ∷ 0x00 ∷ 0x00 ∷ 0x00 ∷ 0x00 ∷ 0x00 ∷ 0x00 ∷ 0x00 ∷ 0x00 ∷ 0x00 ∷ 0x00 ∷ 0x00
    ∷ 0x00 ∷ 0x00
    ∷ 0x00 ∷ [])

-- an encoder with these bytes and no page yet
abbrev pub begun : List ℕ → FileState
begun bytes = record {
  kind = Classic;
  bytes = bytes;
  failures = 0;
  fault = None;
  chain = 4;
  predictor = predictor.None;
  compression = Uncompressed;
}

abbrev pub fresh : FileState
fresh = begun (header_bytes Classic)

-- a writer at the end of two bytes
abbrev pub at_end : Written
at_end = record {
  bytes = 1 ∷ 2 ∷ [];
  at = 2;
  fault = None;
  failures = 0;
  last = 0;
  method = method.None;
}

-- a byte is appended, and counted as the last write
abbrev pub appended : Type 0
appended =
    writer_after_counted at_end (3 ∷ []) ≡ record at_end {
      bytes = 1 ∷ 2 ∷ 3 ∷ [];
      at = 3;
      last = 1;
    }

-- two bytes at offset 1: the first overwrites a byte, and they aren't counted
abbrev pub over : Type 0
over =
    writer_after (record at_end { at = 1 }) (8 ∷ 9 ∷ [])
    ≡ record at_end { bytes = 1 ∷ 8 ∷ 9 ∷ []; at = 3 }
