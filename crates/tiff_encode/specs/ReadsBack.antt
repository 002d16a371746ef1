-- The reader returns the samples of a page that shows an image (this project's).
use Rattle.std.specs.Prelude.{◌≡◌, ℕ, ◌*◌, ◌/◌, ◌%◌, ◌^◌, ◌<◌, ◌≤◌, ◌⊎◌, true, nat_lt, if◌then◌else◌, List, [], length, slice_index, Ok}
use Rattle.tiff_base.specs.declared.color.ColorType.{ColorType}
use Rattle.tiff_base.specs.declared.tags.ByteOrder.TheVariants.{LittleEndian}
use Rattle.tiff_base.specs.declared.tags.FileKind.{FileKind}
use Rattle.tiff_base.specs.declared.tags.PlanarConfiguration.TheVariants.{Chunky}
use Rattle.tiff_value.specs.declared.encoder.colortype.ColorTypeName.{ColorTypeName}
use Rattle.tiff_value.specs.ColorType.{ColorTypeRecord, columns_of}
use Rattle.tiff_value.specs.ColorTypes.{color_type, inner_size}
use Rattle.tiff_ifd.specs.declared.limits.Limits.{Limits}
use Rattle.tiff_page.specs.declared.layout.DecodingSampleType.{DecodingSampleType}
use Rattle.tiff_page.specs.Page.{PageRecord}
use Rattle.tiff_page.specs.Rect.{chunks_of_plane}
use Rattle.tiff_page.specs.Layout.{samples_in_chunk, planes, row_bytes, whole_chunks, whole_chroma, color_of, sample_type_of}
use Rattle.tiff_page.specs.Methods.{method_fault}
use Rattle.tiff_page.specs.PixelFault.{is_supported_color, depth_fault, predictor_fault, inversion_fault}
use Rattle.tiff_page.specs.Pixels.{tabulate}
use Rattle.tiff_page.specs.Row.{IsSize}
use Rattle.tiff_page.specs.PixelCalls.{image_of}
use Rattle.tiff_page.specs.Image.{Decoded}
use Rattle.tiff_value.specs.Model.{Model}
use Rattle.tiff_encode.specs.Machine.{FileState, OpenImage}
use Rattle.tiff_encode.specs.Chunks.{all_samples, shown_page}
use Rattle.tiff_encode.specs.Open.{IsOpen}
use Rattle.tiff_encode.specs.Shows.{Image, shown_columns, Shows}
use Rattle.tiff_encode.specs.ImageData.{AreNumbers, LeavesImage, image_of_samples}

-- the number of samples of a column that the first plane of a page shows: of a pixel those that a
-- chunk contains; a byte of packed pixels is one sample
abbrev pub column_samples : PageRecord → ColorType → ℕ
column_samples p color = if nat_lt p.depth 8 then 1 else samples_in_chunk p.planar color

-- the samples of an image in row order that the first plane of a page shows: of a chunky page all
-- samples that the color has, column by column, of a planar page those of the first plane
abbrev pub samples_shown : Image → PageRecord → ColorType → List ℕ
samples_shown i p color =
    let s = column_samples p color in
    let c = shown_columns p color in
    tabulate (p.height * c * s) (λ n. i.sample_at (n / s % c) (n / s / c) (n % s))

-- if a plane shows all samples of a column, the samples of an image that was passed as one list are
-- in the order of that list
abbrev pub ShownInOrder : Type 0
ShownInOrder = (i : OpenImage) (samples : List ℕ) (p : PageRecord) (color : ColorType)
    → shown_columns p color ≡ i.width → column_samples p color ≡ all_samples i
    → length samples ≡ p.height * shown_columns p color * all_samples i
    → samples_shown (image_of_samples i samples) p color ≡ samples

-- Each sample of an image has `size` bytes, which is the depth of the page, or is a byte of packed
-- pixels; and it is a number of these bytes.
pub record HasSamplesOf (i : Image) (size : ℕ) : Type 0 where
  pub is_size : IsSize size
  pub depth : (i.page.depth ≡ 8 * size) ⊎ ((i.page.depth < 8) × (size ≡ 1))
  pub small : (x y sample : ℕ) → i.sample_at x y sample < 256 ^ size

-- The reader supports a page: its color, its predictor, its compression, its inversion of samples,
-- and its chroma subsampling; and if its pixels are packed, their depth, and the places where its
-- chunks meet.
pub record IsReadable (p : PageRecord) (color : ColorType) : Type 0 where
  pub plain : is_supported_color color ≡ true
  pub predictor : predictor_fault p color ≡ Ok tt
  pub packed_by : method_fault p.method ≡ Ok tt
  pub upright : inversion_fault p color ≡ Ok tt
  pub chroma : whole_chroma p color ≡ Ok color
  pub narrow : p.depth < 8
      → (depth_fault p color ≡ Ok tt) × (whole_chunks p color p.width ≡ Ok color)

-- The limits permit an image: the number of bytes of the rows of a chunk, across the whole image,
-- and that of all planes are less than 2^64; the number of bytes of the image that is read is at
-- most the limit of the decoding buffer; the number of bytes of each chunk of its first plane in
-- the file is at most the limit of the intermediate buffer.
pub record LetsPass (limits : Limits) (p : PageRecord) (color : ColorType) : Type 0 where
  pub rows : row_bytes p color p.width * p.chunk_height < 2 ^ 64
  pub whole : row_bytes p color p.width * p.height * planes p.planar color < 2 ^ 64
  pub image : row_bytes p color p.width * p.height ≤ limits.decoding_buffer_size
  pub chunks : (k : ℕ) → k < chunks_of_plane p
      → slice_index p.byte_counts k ≤ limits.intermediate_buffer_size

-- the samples that the reader returns for a page that shows an image are those of the image
abbrev pub ReadsShown : Type 0
ReadsShown =
    (kind : FileKind) (file : List ℕ) (offset : ℕ) (i : Image) (size : ℕ) (limits : Limits)
    (d : Decoded) → (s : Shows kind file offset i)
    → HasSamplesOf i size → image_of file LittleEndian s.page limits ≡ Ok d
    → (d.numbers ≡ samples_shown i s.page s.color) × (sample_type_of s.page ≡ Ok d.sample_type)

-- the reader reads a page that shows an image, if it supports the page and the limits permit it,
-- and returns the samples of the image
abbrev pub ReadsBack : Type 0
ReadsBack =
    (kind : FileKind) (file : List ℕ) (offset : ℕ) (i : Image) (size : ℕ) (limits : Limits)
    (type : DecodingSampleType) → (s : Shows kind file offset i)
    → HasSamplesOf i size → sample_type_of s.page ≡ Ok type → IsReadable s.page s.color
    → LetsPass limits s.page s.color
    → image_of file LittleEndian s.page limits
    ≡ Ok (record { sample_type = type; numbers = samples_shown i s.page s.color })

-- the reader reads each page of an image that an encoder can make, if the page shows samples of the
-- bytes of the color type and the limits permit it, and returns these samples
abbrev pub WrittenReadsBack : Type 0
WrittenReadsBack = (kind : FileKind) (file : List ℕ) (offset : ℕ) (i : OpenImage) (sample_at : ℕ → ℕ
    → ℕ → ℕ) (limits : Limits)
    → IsOpen i → ((x y sample : ℕ) → sample_at x y sample < 256 ^ i.size)
    → (s : Shows kind file offset (record { page = shown_page i; sample_at = sample_at }))
    → LetsPass limits s.page s.color
    → (type : DecodingSampleType) × ((sample_type_of s.page ≡ Ok type)
    × (image_of file LittleEndian s.page limits
    ≡ Ok (record {
      sample_type = type;
      numbers = samples_shown (record { page = shown_page i; sample_at = sample_at })
          s.page s.color;
    })))

-- a chunky page of an image that an encoder can make, without extra samples, shows all samples of a
-- pixel
abbrev pub AllShown : Type 0
AllShown = (i : OpenImage) (p : PageRecord) (color : ColorType) → IsOpen i → i.extra ≡ []
    → i.form.planar ≡ Chunky
    → p ≡ record (shown_page i) { offsets = p.offsets; byte_counts = p.byte_counts }
    → color_of p ≡ Ok color
    → samples_in_chunk p.planar color ≡ all_samples i

-- For a chunky page that shows an image that an encoder can make, without extra samples and passed
-- as one list, the reader returns nothing but the samples of that list, in their order.
abbrev pub ShownIsRead : Type 0
ShownIsRead =
    (kind : FileKind) (file : List ℕ) (offset : ℕ) (i : OpenImage) (samples : List ℕ)
    (limits : Limits) (d : Decoded)
    → (s : Shows kind file offset (image_of_samples i samples)) → IsOpen i → i.extra ≡ []
    → i.form.planar ≡ Chunky → AreNumbers i.size samples
    → length samples ≡ i.height * i.width * all_samples i
    → image_of file LittleEndian s.page limits ≡ Ok d → d.numbers ≡ samples

-- For a page that `write_image` wrote, of a named color type and as many samples as the image has,
-- the reader returns nothing but the samples that were passed, in their order.
abbrev pub WrittenIsRead : Type 0
WrittenIsRead =
    (color : ColorTypeRecord) (size width height : ℕ) (samples : List ℕ) (old new : FileState)
    (m : Model)
    (l : LeavesImage color size width height samples old new m) (name : ColorTypeName) (offset : ℕ)
    (limits : Limits) (d : Decoded)
    → (s : Shows old.kind new.bytes offset (image_of_samples l.image samples))
    → color ≡ color_type name → size ≡ inner_size name
    → AreNumbers size samples
    → length samples ≡ height * columns_of color width * length color.bits
    → image_of new.bytes LittleEndian s.page limits ≡ Ok d
    → d.numbers ≡ samples
