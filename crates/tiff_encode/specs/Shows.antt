-- What a written file shows: an image from the caller (this project's), by the definitions of the
-- reader.
use Rattle.std.specs.Prelude.{◌≡◌, ℕ, ◌+◌, ◌*◌, ◌<◌, false, if◌then◌else◌, nat_lt, List, [], slice_index, Result, Ok}
use Rattle.tiff_base.specs.declared.color.ChunkType.TheVariants.{Strip}
use Rattle.tiff_base.specs.declared.color.ColorType.{ColorType}
use Rattle.tiff_base.specs.declared.error.TiffError.{TiffError}
use Rattle.tiff_base.specs.declared.tags.ByteOrder.TheVariants.{LittleEndian}
use Rattle.tiff_base.specs.declared.tags.CompressionMethod.TheVariants as method
use Rattle.tiff_base.specs.declared.tags.FileKind.{FileKind}
use Rattle.tiff_base.specs.declared.tags.FileKind.TheVariants.{Classic}
use Rattle.tiff_base.specs.declared.tags.PhotometricInterpretation.TheVariants as meaning
use Rattle.tiff_base.specs.declared.tags.PlanarConfiguration.TheVariants.{Chunky}
use Rattle.tiff_base.specs.declared.tags.Predictor.TheVariants as predictor
use Rattle.tiff_base.specs.declared.tags.SampleFormat.TheVariants as format
use Rattle.tiff_base.specs.Answers.{◌>>=◌}
use Rattle.tiff_base.specs.Color.{num_samples}
use Rattle.tiff_base.specs.Directory.{directory_at}
use Rattle.tiff_base.specs.Header.{header_at}
use Rattle.tiff_ifd.specs.declared.limits.Limits.{Limits}
use Rattle.tiff_ifd.specs.Limits.{unlimited}
use Rattle.tiff_ifd.specs.TagLookup.{look_in}
use Rattle.tiff_page.specs.Page.{PageRecord}
use Rattle.tiff_page.specs.Checks.{page_of}
use Rattle.tiff_page.specs.Layout.{row_bytes, color_of}
use Rattle.tiff_page.specs.Counts.{all_chunks}
use Rattle.tiff_page.specs.Pixels.{planar_or, image_region, is_short, packed_byte, shown_sample}
use Rattle.tiff_value.specs.FileBytes.{rows_per_strip}
use Rattle.tiff_value.specs.Model.{IsLink, FileContains, header_model}

-- an image from the caller: its page, for any offsets and byte counts of its chunks; and its
-- sample, as bits, for a column, a row and a number of a sample of the pixel. A column is a pixel,
-- or a byte of packed pixels.
pub record Image : Type 0 where
  pub page : PageRecord
  pub sample_at : ℕ → ℕ → ℕ → ℕ

-- the page of the directory at an offset of a little-endian file
abbrev pub page_at : FileKind → List ℕ → ℕ → Limits → Result PageRecord TiffError
page_at kind file offset limits = do
  directory ← directory_at kind LittleEndian file offset
  page_of (look_in kind LittleEndian file limits directory.entries)

-- the number of columns of a page: its pixels, or at depths below 8 the bytes of a row
abbrev pub shown_columns : PageRecord → ColorType → ℕ
shown_columns p color = if nat_lt p.depth 8 then row_bytes p color p.width else p.width

-- the sample of a column that the reader outputs: a sample of a pixel, or a byte of packed pixels
abbrev pub shown_at : List ℕ → PageRecord → ColorType → ℕ → ℕ → ℕ → ℕ
shown_at file p color x y sample =
    if nat_lt p.depth 8
    then packed_byte file LittleEndian p color (image_region p) (planar_or p.planar sample 0) y x
    else shown_sample file LittleEndian p x y sample

-- The directory at an offset is a page that shows the image: without limits it is the image's page,
-- except for the offsets and byte counts of its chunks; it has a color; none of its chunks has too
-- few data; and each sample that its color shows is that of the image.
pub record Shows (kind : FileKind) (file : List ℕ) (offset : ℕ) (i : Image) : Type 0 where
  pub page : PageRecord
  pub is_page : page_at kind file offset unlimited ≡ Ok page
  pub is_image : page ≡ record i.page { offsets = page.offsets; byte_counts = page.byte_counts }
  pub color : ColorType
  pub is_color : color_of page ≡ Ok color
  pub whole : (chunk : ℕ) → chunk < all_chunks page
      → is_short file LittleEndian page color chunk ≡ false
  pub shows : (x y sample : ℕ) → x < shown_columns page color → y < page.height
      → sample < num_samples color
      → shown_at file page color x y sample ≡ i.sample_at x y sample

-- ---- gray samples of 8 bits

-- the page of 8-bit gray samples, without the offsets and byte counts of its strips
abbrev pub gray_page : ℕ → ℕ → PageRecord
gray_page width height = record {
  width = width;
  height = height;
  interpretation = meaning.BlackIsZero;
  method = method.None;
  samples = 1;
  extra = [];
  format = format.Uint;
  depth = 8;
  predictor = predictor.None;
  planar = Chunky;
  subsampling = (2, 2);
  chunk_type = Strip;
  chunk_width = width;
  chunk_height = rows_per_strip width;
  offsets = [];
  byte_counts = [];
}

-- an image of 8-bit gray samples
abbrev pub gray_image : ℕ → ℕ → List ℕ → Image
gray_image width height samples = record {
  page = gray_page width height;
  sample_at = λ x y sample. slice_index samples (y * width + x);
}

-- ---- what the file contains after the calls of the encoder

-- A header is written on an empty sink: the file contains it, and its link is the last link of the
-- IFD chain.
pub record LeavesHeader (kind : FileKind) (bytes : List ℕ) (chain : ℕ) : Type 0 where
  pub stands : FileContains kind bytes (header_model kind)
  pub link : IsLink kind (header_model kind) chain

-- The first directory of a little-endian file of a kind is a page that shows an image.
pub record ShowsFirst (kind : FileKind) (file : List ℕ) (i : Image) : Type 0 where
  pub offset : ℕ
  pub first : header_at file ≡ Ok (record { order = LittleEndian; kind = kind; first = offset })
  pub shows : Shows kind file offset i

-- The first directory of a classic little-endian file is a page that shows an image of 8-bit gray
-- samples.
abbrev pub ShowsGray : List ℕ → ℕ → ℕ → List ℕ → Type 0
ShowsGray file width height samples = ShowsFirst Classic file (gray_image width height samples)
