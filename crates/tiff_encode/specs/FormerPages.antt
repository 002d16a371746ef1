-- The directories, pages and samples of a file that an encoder goes on behind are read as before
-- (this project's).
use Rattle.std.specs.Prelude.{◌≡◌, ℕ, ◌+◌, ◌*◌, ◌%◌, ◌≤◌, ◌⊎◌, List, length, slice_index, Some, Ok}
use Rattle.std.specs.FinMap.{FinMap, get}
use Rattle.std.specs.Ordering.{nat_cmp}
use Rattle.tiff_base.specs.declared.tags.FileKind.{FileKind}
use Rattle.tiff_base.specs.declared.tags.ByteOrder.TheVariants.{LittleEndian}
use Rattle.tiff_base.specs.declared.tags.CompressionMethod.TheVariants as method
use Rattle.tiff_base.specs.Field.{Field, DirectoryRecord}
use Rattle.tiff_base.specs.FieldBytes.{field_len, field_offset}
use Rattle.tiff_base.specs.Directory.{count_width, offset_width, entry_len, link, link_offset, directory_at}
use Rattle.tiff_base.specs.Number.{number_at}
use Rattle.tiff_base.specs.SourceAndSink.{exactly_at}
use Rattle.tiff_ifd.specs.declared.limits.Limits.{Limits}
use Rattle.tiff_page.specs.Page.{PageRecord}
use Rattle.tiff_page.specs.Pixels.{planar_or, stored_row_bytes, shown_sample}
use Rattle.tiff_page.specs.Rect.{chunk_of_pixel}
use Rattle.tiff_encode.specs.Appending.{Continues}
use Rattle.tiff_value.specs.FileBytes.{offset_len, count_len}
use Rattle.tiff_value.specs.Model.{IsClear}
use Rattle.tiff_encode.specs.Shows.{page_at}

-- Each field of a directory has its values in its entry, or within the file and apart from the link
-- at q.
abbrev pub AreValuesClear : FileKind → List ℕ → ℕ → FinMap nat_cmp Field → Type 0
AreValuesClear kind file q fields =
    (t : ℕ) (f : Field) → get fields t ≡ Some f
    → (field_len f ≤ offset_len kind)
    ⊎ ((field_offset kind LittleEndian f + field_len f ≤ length file)
    × IsClear kind q (field_offset kind LittleEndian f) (field_len f))

-- A directory of the former file, with a number of entries that is apart from the link at q, as are
-- its entries, is read with the same fields: with the same link if its own link is apart from that
-- at q too, and with the link at q if it is its own. If its values are apart from the link at q, it
-- is the same page.
pub record DirectoryStays (kind : FileKind) (q : ℕ) (file new : List ℕ) (offset count : ℕ)
    (directory : DirectoryRecord) : Type 0 where
  pub clear : IsClear kind q (link_offset kind offset count) (offset_len kind)
      → directory_at kind LittleEndian new offset ≡ Ok directory
  pub own : link_offset kind offset count ≡ q → (target : ℕ)
      → number_at LittleEndian (offset_width kind) new q ≡ Ok target
      → directory_at kind LittleEndian new offset ≡ Ok (record directory { next = link target })
  pub page : (link_offset kind offset count ≡ q)
      ⊎ IsClear kind q (link_offset kind offset count) (offset_len kind)
      → AreValuesClear kind file q directory.entries → (limits : Limits)
      → page_at kind new offset limits ≡ page_at kind file offset limits

-- The law: bytes that are apart from the link at q are read as before, and so is each directory.
pub record FormerReads (kind : FileKind) (q : ℕ) (file new : List ℕ) : Type 0 where
  pub bytes : (at n : ℕ) (found : List ℕ) → IsClear kind q at n → exactly_at file at n ≡ Ok found
      → exactly_at new at n ≡ Ok found
  pub directories : (offset count : ℕ) (directory : DirectoryRecord)
      → directory_at kind LittleEndian file offset ≡ Ok directory
      → number_at LittleEndian (count_width kind) file offset ≡ Ok count
      → IsClear kind q offset (count_len kind + entry_len kind * count)
      → DirectoryStays kind q file new offset count directory

abbrev pub FormerPagesStay : Type 0
FormerPagesStay = (kind : FileKind) (q : ℕ) (file new : List ℕ) → q + offset_len kind ≤ length file
    → Continues kind q file new → FormerReads kind q file new

-- ---- samples

-- n bytes are within the file and apart from the link at q
abbrev pub AreBytesClear : FileKind → List ℕ → ℕ → ℕ → ℕ → Type 0
AreBytesClear kind file q at n = (at + n ≤ length file) × IsClear kind q at n

-- What is read for a row of a chunk is within the file and apart from the link at q: the bytes of
-- the row if the chunk isn't compressed, and all its counted bytes if it is PackBits data.
abbrev pub IsRowClear : FileKind → List ℕ → ℕ → PageRecord → ℕ → ℕ → Type 0
IsRowClear kind file q p chunk row =
    ((p.method ≡ method.None)
    × AreBytesClear kind file q (slice_index p.offsets chunk + row * stored_row_bytes p)
    (stored_row_bytes p))
    ⊎ ((p.method ≡ method.PackBits)
    × AreBytesClear kind file q (slice_index p.offsets chunk) (slice_index p.byte_counts chunk))

-- The law: each sample of a page is the same, if the row that has it is apart from the link at q.
abbrev pub FormerSamplesStay : Type 0
FormerSamplesStay = (kind : FileKind) (q : ℕ) (file new : List ℕ) → q + offset_len kind ≤ length file
    → Continues kind q file new → (p : PageRecord) (x y sample : ℕ)
    → IsRowClear kind file q p (chunk_of_pixel p (planar_or p.planar sample 0) x y)
    (y % p.chunk_height)
    → shown_sample new LittleEndian p x y sample ≡ shown_sample file LittleEndian p x y sample
