-- A chunk by its own numbers: of the lists of a page, a read of one chunk depends on the chunk's
-- offset and byte count, on how many chunks there are, and on what the color needs of the extra
-- samples.
use Rattle.std.specs.Prelude.{◌≡◌, ℕ, ◌<◌, ◌↔◌, List, length, slice_index}
use Rattle.tiff_base.specs.declared.tags.ByteOrder.{ByteOrder}
use Rattle.tiff_base.specs.declared.tags.ExtraSamples.{ExtraSamples}
use Rattle.tiff_base.specs.SourceAndSink.{SourceRecord}
use Rattle.tiff_ifd.specs.declared.limits.Limits.{Limits}
use Rattle.tiff_page.specs.Buffers.{image_chunk_buffer_layout}
use Rattle.tiff_page.specs.Counts.{all_chunks}
use Rattle.tiff_page.specs.EarlyFaults.{chunk_bytes_early}
use Rattle.tiff_page.specs.Layout.{first_is_alpha}
use Rattle.tiff_page.specs.Laws.{HasSides}
use Rattle.tiff_page.specs.Page.{PageRecord}
use Rattle.tiff_page.specs.PixelCalls.{read_chunk_bytes}
use Rattle.tiff_page.specs.Reach.{ChunksReadable}

-- a page with other lists
abbrev pub with_lists : PageRecord → List ExtraSamples → List ℕ → List ℕ → PageRecord
with_lists p extra offsets byte_counts =
    record p { extra = extra; offsets = offsets; byte_counts = byte_counts }

-- Lists that tell of chunk i what those of a page do: as many extra samples, of which the first is
-- an alpha or not, as many chunks, and the same offset and byte count of chunk i.
pub record TellOfChunk (p : PageRecord) (i : ℕ) (extra : List ExtraSamples)
    (offsets byte_counts : List ℕ) : Type 0 where
  pub extras : length extra ≡ length p.extra
  pub alpha : first_is_alpha extra ≡ first_is_alpha p.extra
  pub chunks : length offsets ≡ length p.offsets
  pub offset : slice_index offsets i ≡ slice_index p.offsets i
  pub byte_count : slice_index byte_counts i ≡ slice_index p.byte_counts i

-- With such lists, the read of chunk i into a slice has the same result, the same error before it
-- allocates memory, and the same bytes that it asks for. The layout of a buffer for a chunk depends
-- on what the color needs of the extra samples, and on no other list.
pub record ChunkAlone : Type 0 where
  pub bytes : (file : List ℕ) (order : ByteOrder) (p : PageRecord) (limits : Limits) (i : ℕ)
      (buf : List ℕ) (extra : List ExtraSamples) (offsets byte_counts : List ℕ)
      → HasSides p → 0 < p.samples → length p.offsets ≡ all_chunks p
      → TellOfChunk p i extra offsets byte_counts
      → read_chunk_bytes file order (with_lists p extra offsets byte_counts) limits i buf
      ≡ read_chunk_bytes file order p limits i buf
  pub early : (p : PageRecord) (limits : Limits) (i len : ℕ) (extra : List ExtraSamples)
      (offsets byte_counts : List ℕ)
      → TellOfChunk p i extra offsets byte_counts
      → chunk_bytes_early (with_lists p extra offsets byte_counts) limits i len
      ≡ chunk_bytes_early p limits i len
  pub asked : (source : SourceRecord) (p : PageRecord) (i : ℕ) (extra : List ExtraSamples)
      (offsets byte_counts : List ℕ)
      → TellOfChunk p i extra offsets byte_counts
      → ChunksReadable source (with_lists p extra offsets byte_counts) i (λ l. 1)
      ↔ ChunksReadable source p i (λ l. 1)
  pub layout : (p : PageRecord) (i : ℕ) (extra : List ExtraSamples) (offsets byte_counts : List ℕ)
      → length extra ≡ length p.extra → first_is_alpha extra ≡ first_is_alpha p.extra
      → image_chunk_buffer_layout (with_lists p extra offsets byte_counts) i
      ≡ image_chunk_buffer_layout p i
