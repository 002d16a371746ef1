-- Worked examples of whole images: their samples, how these are written, and what holds a finished
-- image.
use Rattle.std.specs.Prelude.{◌≡◌, ℕ, List, [], ◌∷◌, ◌++◌, Some, Ok, Err}
use Rattle.tiff_base.specs.declared.error.TiffError.TheVariants.{FormatError, IoError, OutOfMemory}
use Rattle.tiff_base.specs.declared.error.TiffFormatError.TheVariants.{InvalidDimensions}
use Rattle.tiff_base.specs.declared.io.IoKind.TheVariants.{InvalidData}
use Rattle.tiff_base.specs.declared.tags.ExtraSamples.TheVariants.{Unspecified}
use Rattle.tiff_base.specs.declared.tags.FileKind.TheVariants.{Classic}
use Rattle.tiff_base.specs.declared.tags.PlanarConfiguration.TheVariants.{Chunky}
use Rattle.tiff_value.specs.Model.{Model, header_model}
use Rattle.tiff_encode.specs.Machine.{FileState, OpenImage}
use Rattle.tiff_encode.specs.Calls as calls
use Rattle.tiff_encode.specs.Calls.{strips_of}
use Rattle.tiff_encode.specs.ImageData.{image_of_samples, WritesDataBy, WritesImageData, ImageIsNotBegun, WritesImage}
use Rattle.tiff_encode.specs.Open.{HoldsEnded}
use Rattle.test_definitions.specs.Encode.Calls.{header}
use Rattle.test_definitions.specs.Encode.Causes.{new_file, file_with, gray, rgb, pixel}
use Rattle.test_definitions.specs.Encode.Chunks.{new_pixel, pixel_in_file, two_strips}
use Rattle.test_definitions.specs.Encode.ImageJobs.{after_begin, after_data, after_end}

-- ---- samples

-- two rows of two RGB pixels
abbrev pub four_pixels : OpenImage
four_pixels = record pixel { width = 2; height = 2; color = rgb; form = strips_of 2 2 Chunky }

abbrev pub twelve : List ℕ
twelve = 1 ∷ 2 ∷ 3 ∷ 4 ∷ 5 ∷ 6 ∷ 7 ∷ 8 ∷ 9 ∷ 10 ∷ 11 ∷ 12 ∷ []

-- the second pixel of the first row, the first pixel of the second row, and the last sample
abbrev pub second_pixel : Type 0
second_pixel = (image_of_samples four_pixels twelve).sample_at 1 0 0 ≡ 4

abbrev pub second_row : Type 0
second_row = (image_of_samples four_pixels twelve).sample_at 0 1 0 ≡ 7

abbrev pub last_sample : Type 0
last_sample = (image_of_samples four_pixels twelve).sample_at 1 1 2 ≡ 12

-- extra samples count in the position of a sample
abbrev pub behind_extra : Type 0
behind_extra =
    (image_of_samples (record four_pixels { extra = Unspecified ∷ [] }) twelve).sample_at 1 0 0 ≡ 5

-- ---- how samples are written

-- mistake: `WritesDataBy` refuses with another error
-- if there is a cause, it is returned and nothing is done
abbrev pub data_refused : Type 0
data_refused =
    WritesDataBy {A = ℕ} (Some (IoError InvalidData)) pixel [] (Err (IoError InvalidData))
    (new_file Classic) (new_file Classic)

abbrev pub data_changed : Type 0
data_changed =
    WritesDataBy {A = ℕ} (Some (IoError InvalidData)) pixel [] (Err (IoError InvalidData))
    (new_file Classic) (file_with Classic (header ++ (7 ∷ [])))
    → ⊥

abbrev pub data_wanting : Type 0
data_wanting = (new : FileState)
    → WritesDataBy {A = ℕ} (Some (IoError InvalidData)) pixel [] (Err OutOfMemory)
    (new_file Classic) new → ⊥

abbrev pub data_answered : Type 0
data_answered = (new : FileState)
    → WritesDataBy {A = ℕ} (Some (IoError InvalidData)) pixel [] (Ok 0) (new_file Classic) new → ⊥

-- too few samples, one too many, and memory only for the first of two strips
abbrev pub data_few : Type 0
data_few =
    WritesImageData {A = ℕ} pixel [] (Err (IoError InvalidData)) (new_file Classic)
    (new_file Classic)

abbrev pub data_whole : Type 0
data_whole = WritesImageData {A = ℕ} new_pixel (7 ∷ 8 ∷ []) (Ok 0) after_begin.file after_data.file

abbrev pub data_within : Type 0
data_within =
    WritesImageData {A = ℕ} two_strips (1 ∷ 2 ∷ 3 ∷ []) (Err OutOfMemory) (new_file Classic)
    (file_with Classic (header ++ (1 ∷ 2 ∷ [])))

-- an image with a dimension of 0 doesn't begin; there may be no memory for it; a successful call
-- has begun
abbrev pub not_begun : Type 0
not_begun =
    ImageIsNotBegun {A = ℕ} (calls.new_image gray 1 0 5 (new_file Classic))
    (Err (FormatError (InvalidDimensions 0 5))) (new_file Classic) (new_file Classic)

abbrev pub not_begun_wanting : Type 0
not_begun_wanting =
    ImageIsNotBegun {A = ℕ} (calls.new_image gray 1 1 1 (new_file Classic)) (Err OutOfMemory)
    (new_file Classic) (new_file Classic)

-- mistake: `ImageIsNotBegun` returns Ok for an image that isn't begun
abbrev pub not_begun_answered : Type 0
not_begun_answered = (new : FileState)
    → ImageIsNotBegun {A = ℕ} (calls.new_image gray 1 0 5 (new_file Classic)) (Ok 0)
    (new_file Classic) new → ⊥

-- the image of one pixel is written, and one with a dimension of 0 isn't
abbrev pub image_written : Type 0
image_written =
    WritesImage {A = ℕ} gray 1 1 1 (7 ∷ 8 ∷ []) (Ok 0) (new_file Classic) after_data.file

abbrev pub image_sideless : Type 0
image_sideless = (samples : List ℕ) (new : FileState)
    → WritesImage {A = ℕ} gray 1 0 5 samples (Ok 0) (new_file Classic) new → ⊥

-- ---- what holds a finished image

-- the image of one pixel, which is finished at 25
abbrev pub held : Type 0
held = HoldsEnded Classic after_end.model pixel_in_file ((7 ∷ []) ∷ []) 25

-- mistake: `HoldsEnded` has samples of another number
-- the image has one sample and a strip; a file with only a header holds no image
abbrev pub held_more : Type 0
held_more = (m : Model) (offset : ℕ) → HoldsEnded Classic m pixel_in_file ((7 ∷ 8 ∷ []) ∷ []) offset
    → ⊥

-- mistake: `HoldsEnded` has no strip
abbrev pub held_unwritten : Type 0
held_unwritten = (m : Model) (samples : List (List ℕ)) (offset : ℕ)
    → HoldsEnded Classic m new_pixel samples offset → ⊥

abbrev pub held_nowhere : Type 0
held_nowhere = (i : OpenImage) (samples : List (List ℕ)) (offset : ℕ)
    → HoldsEnded Classic (header_model Classic) i samples offset → ⊥
