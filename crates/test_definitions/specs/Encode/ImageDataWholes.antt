-- Worked examples of whole images: what the file contains if their samples are written, and if they
-- aren't.
use Rattle.std.specs.Prelude.{◌≡◌, ℕ, List, [], ◌∷◌, ◌++◌, drop, Ok, Err}
use Rattle.tiff_base.specs.declared.error.TiffError.{TiffError}
use Rattle.tiff_base.specs.declared.error.TiffError.TheVariants.{FormatError}
use Rattle.tiff_base.specs.declared.error.TiffFormatError.TheVariants.{InvalidDimensions}
use Rattle.tiff_base.specs.declared.tags.FileKind.TheVariants.{Classic}
use Rattle.tiff_value.specs.Model.{header_model}
use Rattle.tiff_encode.specs.Machine.{FileState}
use Rattle.tiff_encode.specs.ImageData.{LeavesWhole, LeavesData, ShowsFinished, LeavesImage, LeavesNewImage}
use Rattle.test_definitions.specs.Encode.Calls.{header}
use Rattle.test_definitions.specs.Encode.Causes.{new_file, file_with, gray}
use Rattle.test_definitions.specs.Files.{gray_file}
use Rattle.test_definitions.specs.Encode.Chunks.{new_pixel, pixel_in_file, page_file}
use Rattle.test_definitions.specs.Encode.ImageJobs.{after_begin, after_strip, after_end, after_data}

-- a header with a changed link, and a page without a link to it
abbrev pub changed_file : FileState
changed_file = file_with Classic (0x49 ∷ 0x49 ∷ 0x2a ∷ 0x00 ∷ 0x09 ∷ 0x00 ∷ 0x00 ∷ 0x00 ∷ [])

abbrev pub unlinked_file : FileState
unlinked_file = file_with Classic (header ++ drop 8 gray_file)

-- ---- samples of an image that has begun

-- one gray pixel: the file contains it and shows it
abbrev pub data_left : Type 0
data_left =
    LeavesData {A = ℕ} new_pixel (7 ∷ 8 ∷ []) (Ok 0) after_begin.file after_data.file
    after_begin.model

-- the file shows no other sample
abbrev pub data_other : Type 0
data_other = (l : LeavesWhole new_pixel (8 ∷ []) after_begin.file page_file after_begin.model)
    → l.offsets.pointer ≡ 25 → ⊥

-- too few samples: the file is unchanged
abbrev pub data_refused : Type 0
data_refused = (e : TiffError)
    → LeavesData {A = ℕ} new_pixel [] (Err e) (new_file Classic) (new_file Classic)
    (header_model Classic)

-- mistake: `LeavesData` lets a refusal change what the file contained
abbrev pub data_changed : Type 0
data_changed = (e : TiffError)
    → LeavesData {A = ℕ} new_pixel [] (Err e) (new_file Classic) changed_file (header_model Classic)
    → ⊥

-- ---- the end of an image with its chunk

abbrev pub end_shown : Type 0
end_shown =
    ShowsFinished {A = ℕ} pixel_in_file ((7 ∷ []) ∷ []) (Ok 0) after_strip.file after_end.file

-- mistake: `ShowsFinished` compares no sample
-- the file shows no other sample, and the last link of the chain isn't the header's any more
abbrev pub end_other : Type 0
end_other =
    ShowsFinished {A = ℕ} pixel_in_file ((8 ∷ []) ∷ []) (Ok 0) after_strip.file after_end.file → ⊥

-- mistake: `ShowsFinished` doesn't compare the chain's link
abbrev pub end_unchained : Type 0
end_unchained =
    ShowsFinished {A = ℕ} pixel_in_file ((7 ∷ []) ∷ []) (Ok 0) after_strip.file
    (record page_file { chain = 4 }) → ⊥

-- ---- whole images

-- a new image of one gray pixel
abbrev pub image_left : Type 0
image_left =
    LeavesNewImage {A = Unit {0}} gray 1 1 1 (7 ∷ 8 ∷ []) (Ok tt) (new_file Classic) after_data.file
    (header_model Classic)

-- the file shows no other sample, no wider image, and no image without a link to its page
abbrev pub image_other : Type 0
image_other = LeavesImage gray 1 1 1 (8 ∷ []) (new_file Classic) page_file (header_model Classic)
    → ⊥

abbrev pub image_wider : Type 0
image_wider =
    LeavesImage gray 1 2 1 (7 ∷ 7 ∷ []) (new_file Classic) page_file (header_model Classic) → ⊥

abbrev pub image_unlinked : Type 0
image_unlinked = (samples : List ℕ)
    → LeavesImage gray 1 1 1 samples (new_file Classic) unlinked_file (header_model Classic) → ⊥

-- an image with a dimension of 0 doesn't begin, and the file is unchanged
abbrev pub image_refused : Type 0
image_refused =
    LeavesNewImage {A = ℕ} gray 1 0 5 [] (Err (FormatError (InvalidDimensions 0 5)))
    (new_file Classic) (new_file Classic) (header_model Classic)

abbrev pub image_sideless : Type 0
image_sideless = (samples : List ℕ) (new : FileState)
    → LeavesImage gray 1 0 5 samples (new_file Classic) new (header_model Classic) → ⊥

-- mistake: `LeavesNewImage` lets a refusal change what the file contained
abbrev pub image_changed : Type 0
image_changed = (e : TiffError)
    → LeavesNewImage {A = ℕ} gray 1 1 1 (7 ∷ []) (Err e) (new_file Classic) changed_file
    (header_model Classic) → ⊥
