-- The errors of reading pixels, in their order (which is this project's).
use Rattle.std.specs.Prelude.{ℕ, zero, suc, ◌/◌, Bool, true, false, length, slice_index, Result, Ok, Err, if◌then◌else◌, ◌==◌, ◌&&◌, ◌||◌, nat_lt, nat_le, not}
use Rattle.tiff_base.specs.declared.error.TiffError.{TiffError}
use Rattle.tiff_base.specs.declared.error.TiffError.TheVariants.{FormatError, UnsupportedError, IoError, LimitsExceeded}
use Rattle.tiff_base.specs.declared.io.IoKind.TheVariants.{UnexpectedEof}
use Rattle.tiff_base.specs.declared.error.TiffFormatError.TheVariants.{InconsistentSizesEncountered}
use Rattle.tiff_base.specs.declared.error.TiffUnsupportedError.TheVariants.{UnsupportedColorType, HorizontalPredictor, FloatingPointPredictor, UnknownInterpretation}
use Rattle.tiff_base.specs.declared.tags.PhotometricInterpretation.{PhotometricInterpretation}
use Rattle.tiff_base.specs.declared.tags.PhotometricInterpretation.TheVariants as meaning
use Rattle.tiff_base.specs.declared.color.ColorType.{ColorType}
use Rattle.tiff_base.specs.declared.color.ColorType.TheVariants.{Gray, Palette, GrayA, Lab, Multiband}
use Rattle.tiff_base.specs.declared.tags.Predictor.{Predictor}
use Rattle.tiff_base.specs.declared.tags.Predictor.TheVariants as predictor
use Rattle.tiff_base.specs.declared.tags.SampleFormat.{SampleFormat}
use Rattle.tiff_base.specs.declared.tags.SampleFormat.TheVariants as format
use Rattle.tiff_base.specs.Answers.{◌>>=◌}
use Rattle.std.specs.Int.{div_ceil}
use Rattle.tiff_ifd.specs.declared.limits.Limits.{Limits}
use Rattle.tiff_page.specs.Methods.{method_fault}
use Rattle.tiff_page.specs.Page.{PageRecord}

-- an error if a test holds
abbrev pub fail_if : Bool → TiffError → Result (Unit {0}) TiffError
fail_if true fault = Err fault
fail_if false fault = Ok tt

abbrev pub is_byte_multiple : ℕ → Bool
is_byte_multiple depth = depth == 8 || depth == 16 || depth == 32 || depth == 64

abbrev pub is_supported_color : ColorType → Bool
is_supported_color (Palette d) = false
is_supported_color (GrayA d) = false
is_supported_color (Lab d) = false
is_supported_color _ = true

abbrev pub is_gray : ColorType → Bool
is_gray (Gray d) = true
is_gray (Multiband d n) = true
is_gray _ = false

abbrev pub refuse_predictor : Predictor → ColorType → Result (Unit {0}) TiffError
refuse_predictor predictor.None color = Ok tt
refuse_predictor predictor.Horizontal color = Err (UnsupportedError (HorizontalPredictor color))
refuse_predictor predictor.FloatingPoint color =
    Err (UnsupportedError (FloatingPointPredictor color))

unfoldable pub depth_fault : PageRecord → ColorType → Result (Unit {0}) TiffError
depth_fault p color =
    if is_byte_multiple p.depth && is_supported_color color then Ok tt
    else if nat_lt p.depth 8 && is_gray color then refuse_predictor p.predictor color
    else Err (UnsupportedError (UnsupportedColorType color))

abbrev pub is_number : SampleFormat → Bool
is_number format.Uint = true
is_number format.Int = true
is_number format.IEEEFP = true
is_number _ = false

abbrev pub is_float : SampleFormat → Bool
is_float format.IEEEFP = true
is_float _ = false

abbrev pub fault_of_predictor : Predictor → PageRecord → ColorType → Result (Unit {0}) TiffError
fault_of_predictor predictor.None p color = Ok tt
fault_of_predictor predictor.Horizontal p color =
    fail_if (not (is_number p.format)) (UnsupportedError (HorizontalPredictor color))
fault_of_predictor predictor.FloatingPoint p color =
    fail_if (not (is_float p.format) || p.depth == 8)
    (UnsupportedError (FloatingPointPredictor color))

unfoldable pub predictor_fault : PageRecord → ColorType → Result (Unit {0}) TiffError
predictor_fault p color = fault_of_predictor p.predictor p color

abbrev pub can_invert : SampleFormat → ColorType → Bool
can_invert format.Uint (Gray d) = is_byte_multiple d || d == 1 || d == 2 || d == 4
can_invert _ _ = false

abbrev pub white_from : PhotometricInterpretation → PageRecord → ColorType
    → Result (Unit {0}) TiffError
white_from meaning.WhiteIsZero p color =
    fail_if (not (can_invert p.format color)) (UnsupportedError UnknownInterpretation)
white_from _ p color = Ok tt

unfoldable pub inversion_fault : PageRecord → ColorType → Result (Unit {0}) TiffError
inversion_fault p color = white_from p.interpretation p color

-- the errors of a chunk, except for too few data: an index past the list, the depth, the predictor,
-- the limit of its bytes in the file, the compression method, an image that can't be inverted
unfoldable pub form_fault : PageRecord → Limits → ColorType → ℕ → Result (Unit {0}) TiffError
form_fault p limits color i = do
  _ ← fail_if (nat_le (length p.offsets) i) (FormatError InconsistentSizesEncountered)
  _ ← depth_fault p color
  _ ← predictor_fault p color
  _ ← fail_if (nat_lt limits.intermediate_buffer_size (slice_index p.byte_counts i)) LimitsExceeded
  _ ← method_fault p.method
  inversion_fault p color

-- the errors of a chunk, where `short` says whether its data are too few
abbrev pub chunk_fault : PageRecord → Limits → (ℕ → Bool) → ColorType → ℕ
    → Result (Unit {0}) TiffError
chunk_fault p limits short color i = do
  _ ← form_fault p limits color i
  fail_if (short i) (IoError UnexpectedEof)

-- the first error of the numbers below n
abbrev pub each_below : (ℕ → Result (Unit {0}) TiffError) → ℕ → Result (Unit {0}) TiffError
each_below fault zero = Ok tt
each_below fault (suc n) = do
  _ ← each_below fault n
  fault n

-- no more samples than fit into the limit
abbrev pub limit_fault : Limits → ℕ → ℕ → Result (Unit {0}) TiffError
limit_fault limits size bytes =
    fail_if (nat_lt (limits.decoding_buffer_size / size) (div_ceil bytes size)) LimitsExceeded
