-- Laws of the specifications: each pixel belongs to one chunk of a plane, a call returns the first
-- error, a buffer is written position by position, no row is empty, and images and coding units
-- contain their chunks.
use Rattle.std.specs.Prelude.{◌≡◌, ℕ, ◌+◌, ◌*◌, ◌/◌, ◌<◌, ◌≤◌, ◌⊎◌, List, length, slice_index, unwrap_or, Result, Ok, Err}
use Rattle.tiff_base.specs.declared.color.ColorType.{ColorType}
use Rattle.tiff_base.specs.declared.error.TiffError.{TiffError}
use Rattle.tiff_base.specs.declared.tags.ByteOrder.{ByteOrder}
use Rattle.tiff_page.specs.Page.{PageRecord}
use Rattle.tiff_page.specs.Rect.{rect, across, chunks_of_plane, chunk_of_pixel}
use Rattle.tiff_page.specs.Layout.{LayoutRecord, layout_of, row_bits, row_bytes}
use Rattle.tiff_page.specs.PixelFault.{depth_fault, each_below}
use Rattle.tiff_page.specs.Pixels.{Region, byte_at, region_byte, image_region, chunk_region}
use Rattle.tiff_page.specs.PixelCalls.{bytes_with_region}

-- an image and its chunks have a width and a height
pub record HasSides (p : PageRecord) : Type 0 where
  pub wide : 0 < p.width
  pub high : 0 < p.height
  pub chunk_wide : 0 < p.chunk_width
  pub chunk_high : 0 < p.chunk_height

-- the rectangle of a chunk of a plane contains a pixel
pub record HasPixel (p : PageRecord) (i plane x y : ℕ) : Type 0 where
  pub of_plane : (rect p i).plane ≡ plane
  pub left : (rect p i).x ≤ x
  pub right : x < (rect p i).x + (rect p i).width
  pub top : (rect p i).y ≤ y
  pub bottom : y < (rect p i).y + (rect p i).height

-- each pixel of the image belongs to exactly one chunk of a plane
abbrev pub OneChunk : Type 0
OneChunk = (p : PageRecord) (plane x y : ℕ) → HasSides p → x < p.width → y < p.height
    → HasPixel p (chunk_of_pixel p plane x y) plane x y
    × ((i : ℕ) → HasPixel p i plane x y → i ≡ chunk_of_pixel p plane x y)

-- the rectangle of a chunk has at least one pixel, and lies within the image
pub record ChunkIsWithin (p : PageRecord) (i : ℕ) : Type 0 where
  pub some_column : 0 < (rect p i).width
  pub some_row : 0 < (rect p i).height
  pub columns : (rect p i).x + (rect p i).width ≤ p.width
  pub rows : (rect p i).y + (rect p i).height ≤ p.height

abbrev pub ChunksWithin : Type 0
ChunksWithin = (p : PageRecord) (i : ℕ) → HasSides p → ChunkIsWithin p i

-- n is the first number that has an error
pub record IsFirst (fault : ℕ → Result (Unit {0}) TiffError) (n : ℕ) (e : TiffError) : Type 0 where
  pub found : fault n ≡ Err e
  pub none : (k : ℕ) → k < n → fault k ≡ Ok tt

-- the error of the numbers below n is the first error of one of them
abbrev pub FirstFault : Type 0
FirstFault = (fault : ℕ → Result (Unit {0}) TiffError) (n : ℕ) (e : TiffError)
    → (each_below fault n ≡ Err e → (m : ℕ) × ((m < n) × IsFirst fault m e))
    × ((m : ℕ) → m < n → IsFirst fault m e → each_below fault n ≡ Err e)

-- there is no error below n exactly if no number below n has one
abbrev pub NoFault : Type 0
NoFault = (fault : ℕ → Result (Unit {0}) TiffError) (n : ℕ)
    → (each_below fault n ≡ Ok tt → (k : ℕ) → k < n → fault k ≡ Ok tt)
    × (((k : ℕ) → k < n → fault k ≡ Ok tt) → each_below fault n ≡ Ok tt)

-- a buffer in which a region is placed keeps its length, and has at each position the region's byte
-- or its own
abbrev pub PlacedEach : Type 0
PlacedEach =
    (file : List ℕ) (order : ByteOrder) (p : PageRecord) (color : ColorType) (region : Region)
    (stride planes : ℕ) (buf : List ℕ)
    → (length (bytes_with_region file order p color region stride planes buf) ≡ length buf)
    × ((i : ℕ) → i < length buf
    → slice_index (bytes_with_region file order p color region stride planes buf) i
    ≡ unwrap_or (byte_at file order p color region stride planes i) (slice_index buf i))

-- the rows and the planes of a layout of a page have at least one byte
abbrev pub SomeBytes : Type 0
SomeBytes = (p : PageRecord) (width height : ℕ) (layout : LayoutRecord) → 0 < width → 0 < height
    → 0 < p.depth → 0 < p.samples
    → layout_of p width height ≡ Ok layout → (0 < layout.row_bytes) × (0 < layout.plane_stride)

-- a page whose samples are of whole bytes or below 8 bits, and whose chunks have rows of whole
-- bytes if several lie side by side: other layouts are refused
pub record HasWholeRows (p : PageRecord) (color : ColorType) : Type 0 where
  pub depth : (p.depth < 8) ⊎ (p.depth ≡ p.depth / 8 * 8)
  pub rows : (across p ≤ 1)
      ⊎ (row_bits p color p.chunk_width ≡ row_bits p color p.chunk_width / 8 * 8)

-- the rows of a chunk are parts of the rows of the image, after the bytes of the columns to the
-- left of the chunk
abbrev pub ImageOfChunks : Type 0
ImageOfChunks =
    (file : List ℕ) (order : ByteOrder) (p : PageRecord) (color : ColorType) (i row k : ℕ)
    → HasSides p → HasWholeRows p color
    → row < (rect p i).height → k < row_bytes p color (rect p i).width
    → region_byte file order p color (image_region p) (rect p i).plane ((rect p i).y + row)
    (row_bits p color (rect p i).x / 8 + k)
    ≡ region_byte file order p color (chunk_region p i) (rect p i).plane row k

-- a page whose image has a layout, and whose depth and color are supported, has rows of whole bytes
abbrev pub WholeRows : Type 0
WholeRows = (p : PageRecord) (layout : LayoutRecord) → layout_of p p.width p.height ≡ Ok layout
    → depth_fault p layout.color ≡ Ok tt
    → HasWholeRows p layout.color

-- a coding unit contains the chunk of each plane
abbrev pub UnitOfChunks : Type 0
UnitOfChunks =
    (file : List ℕ) (order : ByteOrder) (p : PageRecord) (color : ColorType) (unit plane row k : ℕ)
    → unit < chunks_of_plane p
    → region_byte file order p color (chunk_region p unit) plane row k
    ≡ region_byte file order p color (chunk_region p (plane * chunks_of_plane p + unit)) plane row k
