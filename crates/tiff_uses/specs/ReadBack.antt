-- An image that was written and read back.
use Rattle.std.specs.Prelude.{◌≡◌, ◌⊎◌, ℕ, ◌*◌, List, length, Result, Ok, Err}
use Rattle.tiff_base.specs.declared.error.TiffError.{TiffError}
use Rattle.tiff_base.specs.declared.error.TiffError.TheVariants.{OutOfMemory}
use Rattle.tiff_base.specs.declared.tags.«Type».{«Type»}
use Rattle.tiff_base.specs.Answers.{◌>>=◌}
use Rattle.tiff_base.specs.Types.{type_size}
use Rattle.tiff_value.specs.ColorType.{ColorTypeRecord}
use Rattle.tiff_value.specs.ColorTypes.{format_of_type}
use Rattle.tiff_page.specs.Layout.{sample_type_from}
use Rattle.tiff_base.specs.Directory.{directory_at}
use Rattle.tiff_base.specs.Field.{DirectoryRecord}
use Rattle.tiff_base.specs.Header.{Header, header_at}
use Rattle.tiff_ifd.specs.Limits.{unlimited}
use Rattle.tiff_page.specs.Page.{PageRecord}
use Rattle.tiff_page.specs.PixelCalls.{image_of}
use Rattle.tiff.specs.Image.{Decoded}
use Rattle.tiff.specs.Outcome.{decoder_of, page_in, read_image, seek_to_image, set_limits}
use Rattle.tiff_uses.specs.GrayFile.{WritesAlone}
use Rattle.tiff_uses.specs.Pages.{FileAnswers}

-- This is the image of the page in the first directory of a file, read without limits.
pub record IsFirstImage (file : List ℕ) (image : Decoded) : Type 0 where
  pub header : Header
  pub is_header : header_at file ≡ Ok header
  pub directory : DirectoryRecord
  pub is_directory : directory_at header.kind header.order file header.first ≡ Ok directory
  pub page : PageRecord
  pub is_page : page_in header.kind header.order file unlimited directory ≡ Ok page
  pub is_image : image_of file header.order page unlimited ≡ Ok image

-- the samples of a file's first page, read without limits
abbrev pub first_freely : List ℕ → Result Decoded TiffError
first_freely file = do
  d ← decoder_of file 0
  _ ← (seek_to_image (record d { state = (set_limits d unlimited).next }) 0).answer
  (read_image (record d {
    state = (seek_to_image (record d { state = (set_limits d unlimited).next }) 0).next;
  })).answer

-- The sample type is that of the field type of the samples in memory, and samples of an image with
-- so many columns and rows, and with so many samples in a column, come back as they were passed, if
-- they are as many as the image has. A column is a pixel, or a byte of packed pixels.
pub record ComesBack (inner : «Type») (columns rows samples_of_column : ℕ) (samples : List ℕ)
    (image : Decoded) : Type 0 where
  pub type : sample_type_from (format_of_type inner) (8 * type_size inner) ≡ Ok image.sample_type
  pub numbers : length samples ≡ rows * columns * samples_of_column → image.numbers ≡ samples

-- The image can't be written, for the first error of `write_image`; or the file is written, and
-- this is what a reader without limits returns of its first page. Or memory is out.
abbrev pub AnswersBack : ColorTypeRecord → ℕ → ℕ → ℕ → List ℕ → Result Decoded TiffError → Type 0
AnswersBack color size width height samples answer =
    (answer ≡ Err OutOfMemory)
    ⊎ (((e : TiffError) × ((answer ≡ Err e)
    × WritesAlone color size width height samples (Err e)))
    ⊎ ((file : List ℕ) × (WritesAlone color size width height samples (Ok file)
    × FileAnswers (λ image. image) answer (first_freely file))))
