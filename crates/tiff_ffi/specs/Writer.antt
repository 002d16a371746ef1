-- What the library writes for an image that C passes: a file, or the first error.
use Rattle.std.specs.Prelude.{◌≡◌, ◌⊎◌, ℕ, ◌+◌, ◌<◌, ◌≤◌, ◌*◌, ◌^◌, ◌==◌, ◌++◌, List, [], length, take, drop, slice_get, if◌then◌else◌, false, Option, None, Some, Result, Ok, Err, IfOk}
use Rattle.tiff_base.specs.declared.error.TiffError.{TiffError}
use Rattle.tiff_base.specs.declared.error.TiffError.TheVariants.{FormatError, UnsupportedError, IoError, UsageError, OutOfMemory}
use Rattle.tiff_base.specs.declared.error.TiffFormatError.TheVariants.{TiffSignatureInvalid, UnknownPredictor}
use Rattle.tiff_base.specs.declared.error.TiffUnsupportedError.TheVariants.{UnsupportedCompressionMethod}
use Rattle.tiff_base.specs.declared.error.UsageError.TheVariants.{InsufficientOutputBufferSize}
use Rattle.tiff_base.specs.declared.io.IoKind.TheVariants.{InvalidInput}
use Rattle.tiff_base.specs.declared.io.SinkFault.TheVariants as sink
use Rattle.tiff_base.specs.declared.tags.FileKind.{FileKind}
use Rattle.tiff_base.specs.declared.tags.FileKind.TheVariants.{Classic, Big}
use Rattle.tiff_base.specs.declared.tags.Predictor.{Predictor}
use Rattle.tiff_base.specs.declared.tags.Predictor.TheVariants as predictor
use Rattle.tiff_base.specs.Answers.{◌>>=◌}
use Rattle.tiff_base.specs.Tags.{method_of, predictor_of}
use Rattle.tiff_value.specs.declared.encoder.colortype.ColorTypeName.{ColorTypeName}
use Rattle.tiff_value.specs.ColorTypes.{color_type, color_types, inner_size, inner_type}
use Rattle.tiff_ifd.specs.TagLookup.{ok_or_fault}
use Rattle.tiff_encode.specs.declared.encoder.settings.Compression.{Compression}
use Rattle.tiff_encode.specs.declared.encoder.settings.Compression.TheVariants.{Uncompressed, PackbitsRows}
use Rattle.tiff_encode.specs.Machine.{FileState, begun_file}
use Rattle.tiff_encode.specs.Calls.{image_in, new_directory}
use Rattle.tiff_encode.specs.Shows.{Image, ShowsFirst}
use Rattle.tiff_encode.specs.ImageData.{WritesImage, image_of_samples}
use Rattle.tiff_encode.specs.JobSamples.{samples_of_type}
use Rattle.tiff_ffi.specs.declared.frame.FrameLengths.{FrameLengths}
use Rattle.tiff_ffi.specs.declared.writer.NewImage.{NewImage}
use Rattle.tiff_ffi.specs.declared.writer.Settings.{Settings}
use Rattle.tiff_decode.specs.NextState.{view_of_result}
use Rattle.tiff_ffi.specs.Status.{fault_number}

-- ---- the settings and the samples

-- the kind of file with this version in its header
abbrev pub kind_of : ℕ → Option FileKind
kind_of n = if n == 42 then Some Classic else if n == 43 then Some Big else None

-- the compression with this number of a method: PackBits is row by row (TIFF 6.0 section 9)
abbrev pub packing_of : ℕ → Option Compression
packing_of n = if n == 1 then Some Uncompressed else if n == 32773 then Some PackbitsRows else None

-- the color type, the compression and the predictor of a number, or the error of a number that
-- names nothing
abbrev pub color_named : ℕ → Result ColorTypeName TiffError
color_named n = ok_or_fault (slice_get color_types n) (IoError InvalidInput)

abbrev pub packing_named : ℕ → Result Compression TiffError
packing_named n =
    ok_or_fault (packing_of n) (UnsupportedError (UnsupportedCompressionMethod (method_of n)))

abbrev pub predictor_named : ℕ → Result Predictor TiffError
predictor_named n = ok_or_fault (predictor_of n) (FormatError (UnknownPredictor n))

-- how to write an image, by name; or the error of the first number that names nothing
abbrev pub settings_of : NewImage → Result Settings TiffError
settings_of image = do
  kind ← ok_or_fault (kind_of image.version) (FormatError TiffSignatureInvalid)
  color ← color_named image.color
  compression ← packing_named image.method
  predictor ← predictor_named image.predictor
  Ok (record { kind = kind; color = color; compression = compression; predictor = predictor })

-- the samples that bytes are, the lowest byte of each first; an error where a part of one is left
-- over
abbrev pub samples_from_bytes : ColorTypeName → List ℕ → Result (List ℕ) TiffError
samples_from_bytes color bytes = samples_of_type (inner_type color) bytes

-- ---- what is written

-- the file of a new encoder over an empty sink, with these settings, where so many writes of the
-- sink failed
abbrev pub file_by : Settings → ℕ → FileState
file_by s failures =
    record (begun_file s.kind [] failures) {
      predictor = s.predictor;
      compression = s.compression;
    }

-- an encoder is new, over an empty sink, with these settings
abbrev pub IsBegun : Settings → FileState → Type 0
IsBegun s file = (failures : ℕ) × (file ≡ file_by s failures)

-- the image of these samples, row by row and pixel by pixel, in strips
abbrev pub image_by : Settings → ℕ → ℕ → List ℕ → Image
image_by s width height samples =
    image_of_samples
    (image_in (file_by s 0) (new_directory None false) (color_type s.color) (inner_size s.color)
    width height) samples

-- The answer is what an encoder's `write_image` returns over a sink that fails only when memory is
-- out: the file, whose first page shows the image; or the error.
pub record IsWritten (s : Settings) (width height : ℕ) (samples : List ℕ)
    (answer : Result (List ℕ) TiffError) : Type 0 where
  pub failures : ℕ
  pub last : FileState
  pub written : WritesImage (color_type s.color) (inner_size s.color) width height samples
      (view_of_result {Y = Unit {0}} (λ _. tt) answer) (file_by s failures) last
  pub fault : (last.fault ≡ None) ⊎ (last.fault ≡ Some sink.OutOfMemory)
  pub file : IfOk answer (λ file. file ≡ last.bytes)
  pub shows : IfOk answer (λ file. ShowsFirst s.kind file (image_by s width height samples))

-- the image is written, or memory is out
abbrev pub WritesImageFile : Settings → ℕ → ℕ → List ℕ → Result (List ℕ) TiffError → Type 0
WritesImageFile s width height samples answer =
    (answer ≡ Err OutOfMemory) ⊎ IsWritten s width height samples answer

-- the image of samples that bytes are is written, or memory is out; bytes that are no samples give
-- their error
abbrev pub WritesBytes : Settings → ℕ → ℕ → Result (List ℕ) TiffError → Result (List ℕ) TiffError
    → Type 0
WritesBytes s width height (Ok samples) answer = WritesImageFile s width height samples answer
WritesBytes s width height (Err e) answer = answer ≡ Err e

abbrev pub WritesBy : Result Settings TiffError → ℕ → ℕ → List ℕ → Result (List ℕ) TiffError
    → Type 0
WritesBy (Ok s) width height bytes answer =
    WritesBytes s width height (samples_from_bytes s.color bytes) answer
WritesBy (Err e) width height bytes answer = answer ≡ Err e

-- the answer for an image that C passes
abbrev pub WritesNew : NewImage → List ℕ → Result (List ℕ) TiffError → Type 0
WritesNew image bytes answer = WritesBy (settings_of image) image.width image.height bytes answer

-- ---- what C gets

-- the status of a buffer that is too short
abbrev pub too_short : ℕ → ℕ → ℕ
too_short needed provided =
    fault_number (UsageError (InsufficientOutputBufferSize needed provided))

-- A file is put at the front of a buffer if it fits, and the rest of the buffer stays; else the
-- whole buffer stays.
abbrev pub Puts : List ℕ → ℕ → List ℕ → List ℕ → Type 0
Puts file status old new =
    ((length file ≤ length old) × ((status ≡ 0) × (new ≡ file ++ drop (length file) old)))
    ⊎ ((length old < length file)
    × ((status ≡ too_short (length file) (length old)) × (new ≡ old)))

-- The length of a file is delivered, whether the file fits or not. For an error, the number of the
-- error is delivered alone.
abbrev pub Delivers : Result (List ℕ) TiffError → ℕ → List ℕ → List ℕ → ℕ → ℕ → Type 0
Delivers (Ok file) status old new len_old len_new = (len_new ≡ length file)
    × Puts file status old new
Delivers (Err e) status old new len_old len_new = (status ≡ fault_number e)
    × ((new ≡ old) × (len_new ≡ len_old))

-- the status, the buffer and the length that C gets for an image that it passes
abbrev pub WriterTells : NewImage → List ℕ → ℕ → List ℕ → List ℕ → ℕ → ℕ → Type 0
WriterTells image bytes status old new len_old len_new =
    (answer : Result (List ℕ) TiffError)
    × (WritesNew image bytes answer × Delivers answer status old new len_old len_new)

-- ---- what C gets around its samples

-- the bytes of a buffer and the samples that were passed, as the parts of a file
abbrev pub joined_parts : FrameLengths → List ℕ → List ℕ → List ℕ
joined_parts len samples buffer = take len.front buffer
    ++ (take len.samples samples ++ take len.behind (drop len.front buffer))

-- The parts of a file that aren't samples are put at the front of a buffer, one behind the other,
-- if they fit, and the rest of the buffer stays; else the whole buffer stays.
abbrev pub PutsParts : List ℕ → List ℕ → ℕ → List ℕ → List ℕ → FrameLengths → Type 0
PutsParts file samples status old new len =
    ((len.front + len.behind ≤ length old)
    × ((status ≡ 0)
    × ((joined_parts len samples new ≡ file)
    × (drop (len.front + len.behind) new ≡ drop (len.front + len.behind) old))))
    ⊎ ((length old < len.front + len.behind)
    × ((status ≡ too_short (len.front + len.behind) (length old)) × (new ≡ old)))

-- The lengths of the parts of a file are delivered, whether these fit or not. For an error, the
-- number of the error is delivered alone.
abbrev pub DeliversParts : Result (List ℕ) TiffError → List ℕ → ℕ → List ℕ → List ℕ → FrameLengths
    → FrameLengths → Type 0
DeliversParts (Ok file) samples status old new len_old len_new =
    (len_new.front + (len_new.samples + len_new.behind) ≡ length file)
    × (((len_new.samples ≡ 0) ⊎ (len_new.samples ≡ length samples))
    × PutsParts file samples status old new len_new)
DeliversParts (Err e) samples status old new len_old len_new = (status ≡ fault_number e)
    × ((new ≡ old) × (len_new ≡ len_old))

-- the status, the buffer and the lengths that C gets for an image around whose samples it writes a
-- file
abbrev pub FrameTells : NewImage → List ℕ → ℕ → List ℕ → List ℕ → FrameLengths → FrameLengths
    → Type 0
FrameTells image samples status old new len_old len_new =
    (answer : Result (List ℕ) TiffError)
    × (WritesNew image samples answer × DeliversParts answer samples status old new len_old len_new)

-- ---- what follows of it

-- The image is in the buffer: its first `len` bytes are a file whose first page shows the samples
-- that were passed. The rest of the buffer stays.
pub record IsShown (image : NewImage) (bytes old new : List ℕ) (len : ℕ) : Type 0 where
  pub settings : Settings
  pub by : settings_of image ≡ Ok settings
  pub samples : List ℕ
  pub are : samples_from_bytes settings.color bytes ≡ Ok samples
  pub room : len ≤ length old
  pub shows : ShowsFirst settings.kind (take len new)
      (image_by settings image.width image.height samples)
  pub rest : drop len new ≡ drop len old

-- ---- the frame of a file

-- how many bytes are before the first strip of a file of one image: those of the header, and, in a
-- classic file, those of the two resolutions, which don't fit into their entries
abbrev pub front_len : FileKind → ℕ
front_len Classic = 24
front_len Big = 16

-- The bytes are all samples of an image, `size` bytes each, and are in its file as they are.
pub record AreKept (s : Settings) (all size len : ℕ) : Type 0 where
  pub packs : s.compression ≡ Uncompressed
  pub differs : s.predictor ≡ predictor.None
  pub whole : len ≡ all * size
  pub few : all < 2 ^ 64
