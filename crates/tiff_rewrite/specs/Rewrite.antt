-- One chunk rewritten in place: the bytes that the file has of it, with other samples (this
-- project's).
use Rattle.std.specs.Prelude.{◌≡◌, ℕ, ◌*◌, ◌/◌, ◌%◌, ◌<◌, Bool, false, ◌&&◌, ◌==◌, not, if◌then◌else◌, nat_lt, List, length, slice_index, Result, Ok, Err}
use Rattle.tiff_base.specs.declared.color.ColorType.{ColorType}
use Rattle.tiff_base.specs.declared.error.TiffError.{TiffError}
use Rattle.tiff_base.specs.declared.error.TiffError.TheVariants.{IoError, UnsupportedError}
use Rattle.tiff_base.specs.declared.error.TiffUnsupportedError.TheVariants.{FloatingPointPredictor, UnsupportedCompressionMethod}
use Rattle.tiff_base.specs.declared.io.IoKind.TheVariants.{InvalidData}
use Rattle.tiff_base.specs.declared.tags.ByteOrder.{ByteOrder}
use Rattle.tiff_base.specs.declared.tags.CompressionMethod.{CompressionMethod}
use Rattle.tiff_base.specs.declared.tags.CompressionMethod.TheVariants as method
use Rattle.tiff_base.specs.Answers.{◌>>=◌}
use Rattle.tiff_base.specs.SourceAndSink.{bytes_at}
use Rattle.tiff_ifd.specs.declared.limits.Limits.{Limits}
use Rattle.tiff_page.specs.BufferPositions.{IsIn}
use Rattle.tiff_page.specs.Buffers.{planes_layout}
use Rattle.tiff_page.specs.Layout.{row_bytes, samples_in_chunk, wide}
use Rattle.tiff_page.specs.OutputRow.{handed_byte}
use Rattle.tiff_page.specs.Page.{PageRecord}
use Rattle.tiff_page.specs.PixelCalls.{room_fault}
use Rattle.tiff_page.specs.PixelFault.{fail_if, form_fault}
use Rattle.tiff_page.specs.Pixels.{is_byte_plane, needed_bytes, needed_of_row, number_size, stored_row_bytes, stored_samples}
use Rattle.tiff_page.specs.Rect.{rect}

-- ---- the bytes of a row

-- whether byte b of a stored row is one of a number that the first `width` pixels output; at depths
-- below 8, one of their bits
abbrev pub is_output : PageRecord → ColorType → ℕ → ℕ → Bool
is_output p color width b =
    if nat_lt p.depth 8 then nat_lt b (row_bytes p color width)
    else nat_lt (b / number_size p / stored_samples p) width
    && nat_lt (b / number_size p % stored_samples p) (samples_in_chunk p.planar color)

-- A stored row was changed into one that outputs these samples. Each byte that isn't output is as
-- before.
pub record RowRewritten (order : ByteOrder) (p : PageRecord) (color : ColorType) (width : ℕ)
    (samples old new : List ℕ) : Type 0 where
  pub same_length : length new ≡ length old
  pub output : (b : ℕ) → b < row_bytes p color width
      → handed_byte order p new color b ≡ slice_index samples b
  pub others : (b : ℕ) → is_output p color width b ≡ false
      → slice_index new b ≡ slice_index old b

-- ---- the bytes of a chunk

-- a page and the index of a chunk
module _ (p : PageRecord) (color : ColorType) (i : ℕ) where
  -- how many bytes a row of the chunk has in the output, and how many of a stored row are read
  abbrev pub output_len : ℕ
  output_len = row_bytes p color (rect p i).width

  abbrev pub read_len : ℕ
  read_len = needed_of_row p color output_len

  -- a row of samples, and what is read of a stored row
  abbrev pub samples_row : List ℕ → ℕ → List ℕ
  samples_row samples r = bytes_at samples (r * output_len) output_len

  abbrev pub read_row : List ℕ → ℕ → List ℕ
  read_row stored r = bytes_at stored (r * stored_row_bytes p) read_len

-- The stored bytes of a chunk were changed into those that output these samples. Each byte that
-- isn't read, or isn't output, is as before.
pub record ChunkRewritten (order : ByteOrder) (p : PageRecord) (color : ColorType) (i : ℕ)
    (samples old new : List ℕ) : Type 0 where
  pub same_length : length new ≡ length old
  pub rows : (r : ℕ) → r < (rect p i).height
      → RowRewritten order p color (rect p i).width (samples_row p color i samples r)
      (read_row p color i old r) (read_row p color i new r)
  pub others : (k : ℕ)
      → (IsIn (stored_row_bytes p) 0 (rect p i).height 0 (read_len p color i) k → ⊥)
      → slice_index new k ≡ slice_index old k

-- ---- the errors

-- a method whose data can't be changed in place
abbrev pub packed_fault : CompressionMethod → Result (Unit {0}) TiffError
packed_fault method.None = Ok tt
packed_fault m = Err (UnsupportedError (UnsupportedCompressionMethod m))

-- the error of a chunk that isn't rewritten, of `len` bytes of samples, and of stored bytes: those
-- of a read of the chunk; another number of samples; a method that packs; the byte-plane predictor;
-- fewer stored bytes than the rows need
abbrev pub rewrite_fault_of : PageRecord → Limits → ColorType → ℕ → ℕ → Result (Unit {0}) TiffError
rewrite_fault_of p limits color i stored = do
  _ ← form_fault p limits color i
  _ ← packed_fault p.method
  _ ← fail_if (is_byte_plane p.predictor) (UnsupportedError (FloatingPointPredictor color))
  needed ← wide (needed_bytes p color i)
  room_fault stored needed

unfoldable pub rewrite_fault : PageRecord → Limits → ℕ → ℕ → ℕ → Result (Unit {0}) TiffError
rewrite_fault p limits i len stored = do
  layout ← planes_layout p (rect p i).width (rect p i).height
  _ ← fail_if (not (len == layout.plane_stride)) (IoError InvalidData)
  rewrite_fault_of p limits layout.color i stored
