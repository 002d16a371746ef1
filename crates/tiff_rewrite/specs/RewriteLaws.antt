-- Laws of a chunk that is rewritten in place.
use Rattle.std.specs.Prelude.{◌≡◌, ℕ, ◌+◌, ◌*◌, ◌<◌, ◌≤◌, ◌⊎◌, List, ◌++◌, drop, length, slice_index, Ok}
use Rattle.tiff_base.specs.declared.color.ColorType.{ColorType}
use Rattle.tiff_base.specs.declared.tags.ByteOrder.{ByteOrder}
use Rattle.tiff_base.specs.declared.tags.CompressionMethod.TheVariants as method
use Rattle.tiff_base.specs.SourceAndSink.{put}
use Rattle.tiff_ifd.specs.declared.limits.Limits.{Limits}
use Rattle.tiff_page.specs.BufferPositions.{chunk_byte}
use Rattle.tiff_page.specs.Counts.{all_chunks}
use Rattle.tiff_page.specs.Laws.{HasSides}
use Rattle.tiff_page.specs.Layout.{color_of}
use Rattle.tiff_page.specs.Page.{PageRecord}
use Rattle.tiff_page.specs.PixelCalls.{read_chunk_bytes}
use Rattle.tiff_page.specs.PixelFault.{form_fault}
use Rattle.tiff_page.specs.Pixels.{needed_bytes}
use Rattle.tiff_page.specs.Rect.{rect}
use Rattle.tiff_rewrite.specs.Rewrite.{ChunkRewritten, output_len, rewrite_fault}

-- a page has pixels and samples, and lists each of its chunks
pub record ListsChunks (p : PageRecord) (color : ColorType) : Type 0 where
  pub sides : HasSides p
  pub sampled : 0 < p.samples
  pub counted : length p.offsets ≡ all_chunks p
  pub colored : color_of p ≡ Ok color

-- What is read of chunk j lies apart from `len` bytes at an offset.
abbrev pub LiesApart : PageRecord → ColorType → ℕ → ℕ → ℕ → Type 0
LiesApart p color at len j =
    (slice_index p.offsets j + needed_bytes p color j ≤ at) ⊎ (at + len ≤ slice_index p.offsets j)

-- The stored bytes of chunk i were rewritten with samples, and lie in the file.
pub record IsRewrittenIn (file : List ℕ) (order : ByteOrder) (p : PageRecord) (limits : Limits)
    (color : ColorType) (i : ℕ) (samples old new : List ℕ) : Type 0 where
  pub page : ListsChunks p color
  pub passed : rewrite_fault p limits i (length samples) (length old) ≡ Ok tt
  pub rewritten : ChunkRewritten order p color i samples old new
  pub within : slice_index p.offsets i + length new ≤ length file

-- After the new bytes of chunk i are put at its offset, the page shows the samples there, and a
-- read of the chunk gives them.
pub record ShowsRewritten : Type 0 where
  pub shown : (file : List ℕ) (order : ByteOrder) (p : PageRecord) (limits : Limits)
      (color : ColorType) (i : ℕ) (samples old new : List ℕ) (r b : ℕ)
      → IsRewrittenIn file order p limits color i samples old new
      → r < (rect p i).height → b < output_len p color i
      → chunk_byte (put file (slice_index p.offsets i) new) order p color i r b
      ≡ slice_index samples (r * output_len p color i + b)
  pub read : (file : List ℕ) (order : ByteOrder) (p : PageRecord) (limits : Limits)
      (color : ColorType) (i : ℕ) (samples old new buf : List ℕ)
      → IsRewrittenIn file order p limits color i samples old new
      → length samples ≤ length buf
      → read_chunk_bytes (put file (slice_index p.offsets i) new) order p limits i buf
      ≡ Ok (samples ++ drop (length samples) buf)

-- After bytes are put into a file, a chunk of which what is read lies apart from them is as it was:
-- the page shows the same samples there, and a read of the chunk has the same result.
pub record KeepsApart : Type 0 where
  pub shown : (file : List ℕ) (order : ByteOrder) (p : PageRecord) (limits : Limits)
      (color : ColorType) (at : ℕ) (new : List ℕ) (j r b : ℕ)
      → ListsChunks p color → p.method ≡ method.None → at + length new ≤ length file
      → form_fault p limits color j ≡ Ok tt
      → LiesApart p color at (length new) j
      → r < (rect p j).height → b < output_len p color j
      → chunk_byte (put file at new) order p color j r b ≡ chunk_byte file order p color j r b
  pub read : (file : List ℕ) (order : ByteOrder) (p : PageRecord) (limits : Limits)
      (color : ColorType) (at : ℕ) (new : List ℕ) (j : ℕ) (buf : List ℕ)
      → ListsChunks p color → p.method ≡ method.None → at + length new ≤ length file
      → LiesApart p color at (length new) j
      → read_chunk_bytes (put file at new) order p limits j buf
      ≡ read_chunk_bytes file order p limits j buf
