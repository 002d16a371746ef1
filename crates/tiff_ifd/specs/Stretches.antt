-- The bytes of a source that reads of a header, of directories and of values need (TIFF 6.0 section
-- 2; BigTIFF).
use Rattle.std.specs.Int.{byte_len, w16}
use Rattle.std.specs.FinMap.{get}
use Rattle.std.specs.Prelude.{◌≡◌, ℕ, ◌+◌, ◌*◌, ◌<◌, ◌==◌, List, Some, Result, Ok, Err, if◌then◌else◌}
use Rattle.tiff_base.specs.declared.error.TiffError.{TiffError}
use Rattle.tiff_base.specs.declared.tags.ByteOrder.{ByteOrder}
use Rattle.tiff_base.specs.declared.tags.FileKind.{FileKind}
use Rattle.tiff_base.specs.declared.tags.Tag.{Tag}
use Rattle.tiff_base.specs.Answers.{◌>>=◌}
use Rattle.tiff_base.specs.Directory.{count_width, entry_len, link_offset, offset_width}
use Rattle.tiff_base.specs.Field.{DirectoryRecord, Field}
use Rattle.tiff_base.specs.FieldBytes.{field_len, field_offset}
use Rattle.tiff_base.specs.Header.{order_at}
use Rattle.tiff_base.specs.Number.{number_at}
use Rattle.tiff_base.specs.SourceAndSink.{AreReadable, SourceRecord}
use Rattle.tiff_base.specs.Tags.{tag_number}

-- the number of header bytes that a read needs: 16 for the version 43, which is BigTIFF, else 8
abbrev pub header_len_of : Result ℕ TiffError → ℕ
header_len_of (Ok version) = if version == 43 then 16 else 8
header_len_of (Err e) = 8

-- the number of bytes of a file's header that a read needs
abbrev pub header_len : List ℕ → ℕ
header_len bytes = header_len_of (order_at bytes >>= (λ order. number_at order w16 bytes 2))

-- The source can read the bytes of the header.
abbrev pub HeaderReadable : SourceRecord → Type 0
HeaderReadable source = AreReadable source 0 (header_len source.bytes)

-- The source can read the entry count and the link of the directory at an offset.
pub record LinkReadable (source : SourceRecord) (kind : FileKind) (order : ByteOrder) (at : ℕ)
    : Type 0 where
  pub count : AreReadable source at (byte_len (count_width kind))
  pub link : (n : ℕ) → number_at order (count_width kind) source.bytes at ≡ Ok n
      → AreReadable source (link_offset kind at n) (byte_len (offset_width kind))

-- The source can read the whole directory at an offset: its count, its entries and its link.
pub record DirectoryReadable (source : SourceRecord) (kind : FileKind) (order : ByteOrder) (at : ℕ)
    : Type 0 where
  pub count : AreReadable source at (byte_len (count_width kind))
  pub entries : (n : ℕ) → number_at order (count_width kind) source.bytes at ≡ Ok n
      → AreReadable source (at + byte_len (count_width kind))
      (entry_len kind * n + byte_len (offset_width kind))

-- The source can read the values of a field where they are outside the entry.
pub record FieldReadable (source : SourceRecord) (kind : FileKind) (order : ByteOrder) (f : Field)
    : Type 0 where
  pub placed : byte_len (offset_width kind) < field_len f
      → AreReadable source (field_offset kind order f) (field_len f)

-- The source can read n bytes of a field from the byte `at` on, where its values are outside the
-- entry.
pub record FieldPartReadable (source : SourceRecord) (kind : FileKind) (order : ByteOrder)
    (f : Field) (at n : ℕ) : Type 0 where
  pub placed : byte_len (offset_width kind) < field_len f
      → AreReadable source (field_offset kind order f + at) n

-- The source can read the values of a tag, if the directory has the tag.
pub record TagReadable (source : SourceRecord) (kind : FileKind) (order : ByteOrder)
    (directory : DirectoryRecord) (tag : Tag) : Type 0 where
  pub field : (f : Field) → get directory.entries (tag_number tag) ≡ Some f
      → FieldReadable source kind order f
