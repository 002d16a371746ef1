-- Worked examples of images of packed pixels.
use Rattle.std.specs.Prelude.{◌≡◌, ℕ, true, List, [], ◌∷◌, Some, Ok}
use Rattle.tiff_base.specs.declared.color.ColorType.TheVariants.{Gray}
use Rattle.tiff_base.specs.declared.error.TiffError.TheVariants.{IoError, UsageError}
use Rattle.tiff_base.specs.declared.error.UsageError.TheVariants.{PredictorIncompatible}
use Rattle.tiff_base.specs.declared.io.IoKind.TheVariants.{InvalidInput}
use Rattle.tiff_base.specs.declared.tags.ExtraSamples.TheVariants.{Unspecified}
use Rattle.tiff_base.specs.declared.tags.FileKind.TheVariants.{Classic}
use Rattle.tiff_base.specs.declared.tags.Predictor.TheVariants as predictor
use Rattle.tiff_value.specs.declared.encoder.colortype.ColorTypeName.TheVariants as n
use Rattle.tiff_value.specs.ColorTypes.{color_type}
use Rattle.tiff_page.specs.Layout.{color_of}
use Rattle.tiff_page.specs.Page.{PageRecord}
use Rattle.tiff_encode.specs.Machine.{OpenImage}
use Rattle.tiff_encode.specs.Causes as causes
use Rattle.tiff_encode.specs.Causes.{image_samples}
use Rattle.tiff_encode.specs.Calls.{new_directory, image_in}
use Rattle.tiff_encode.specs.Chunks.{shown_page, next_chunk_sample_count}
use Rattle.tiff_encode.specs.Shows.{shown_at, shown_columns}
use Rattle.test_definitions.specs.Encode.Causes.{new_file}

-- two rows of nine pixels of one bit
abbrev pub nine : OpenImage
nine = image_in (new_file Classic) (new_directory (Some 4) true) (color_type n.Gray1) 1 9 2

-- a row has two bytes; all are in one strip
abbrev pub nine_columns : Type 0
nine_columns = nine.width ≡ 2

abbrev pub nine_bytes : Type 0
nine_bytes = image_samples nine ≡ 4

abbrev pub nine_in_strip : Type 0
nine_in_strip = next_chunk_sample_count nine ≡ 4

-- mistake: `shown_page` keeps the columns as its width
-- the page has nine pixels in a row, and its strip too
abbrev pub nine_wide : Type 0
nine_wide = (shown_page nine).width ≡ 9

-- mistake: `shown_page` keeps the columns for its strips
abbrev pub strip_wide : Type 0
strip_wide = (shown_page nine).chunk_width ≡ 9

-- mistake: `shown_page` keeps a depth of whole bytes
abbrev pub one_deep : Type 0
one_deep = (shown_page nine).depth ≡ 1

-- the page with its strip at the begin of a file
abbrev pub nine_page : PageRecord
nine_page = record (shown_page nine) { offsets = 0 ∷ []; byte_counts = 4 ∷ [] }

abbrev pub nine_gray : Type 0
nine_gray = color_of nine_page ≡ Ok (Gray 1)

-- mistake: `shown_columns` counts packed pixels one by one
abbrev pub two_shown : Type 0
two_shown = shown_columns nine_page (Gray 1) ≡ 2

-- the second byte of the first row, and the first of the second row
abbrev pub bytes : List ℕ
bytes = 11 ∷ 128 ∷ 33 ∷ 0 ∷ []

abbrev pub byte_beside : Type 0
byte_beside = shown_at bytes nine_page (Gray 1) 1 0 0 ≡ 128

-- mistake: `shown_at` takes the byte of another row
abbrev pub byte_below : Type 0
byte_below = shown_at bytes nine_page (Gray 1) 0 1 0 ≡ 33

-- what packed pixels can't have: tiles, extra samples, a predictor
abbrev pub no_tiles : Type 0
no_tiles = causes.tiles_cause (new_file Classic) nine 16 16 ≡ Some (IoError InvalidInput)

abbrev pub no_extra : Type 0
no_extra =
    causes.extra_samples_cause (new_file Classic) nine (Unspecified ∷ [])
    ≡ Some (IoError InvalidInput)

-- mistake: `is_not_whole` allows packed pixels
abbrev pub no_differences : Type 0
no_differences =
    causes.new_image_cause (record (new_file Classic) { predictor = predictor.Horizontal })
    (color_type n.Gray1) 9 2
    ≡ Some (UsageError PredictorIncompatible)
