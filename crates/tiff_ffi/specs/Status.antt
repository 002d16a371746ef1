-- The numbers that C gets for errors. 0 is none of them: a call that returns 0 is done.
use Rattle.std.specs.Prelude.{◌≡◌, ◌⊎◌, ℕ, Result, Ok, Err}
use Rattle.tiff_base.specs.declared.error.TiffError.{TiffError}
use Rattle.tiff_base.specs.declared.error.TiffError.TheVariants.{FormatError, UnsupportedError, IoError, UsageError, LimitsExceeded, IntSizeError, OutOfMemory}
use Rattle.tiff_base.specs.declared.error.TiffFormatError.{TiffFormatError}
use Rattle.tiff_base.specs.declared.error.TiffFormatError.TheVariants.{TiffSignatureNotFound, TiffSignatureInvalid, ImageFileDirectoryNotFound, InconsistentSizesEncountered, InvalidDimensions, InvalidTag, InvalidTagValueType, RequiredTagNotFound, UnknownPredictor, UnknownPlanarConfiguration, InvalidTypeForTag, InvalidCountForTag, StripTileTagConflict, CycleInOffsets, SamplesPerPixelIsZero, CompressedDataCorrupt}
use Rattle.tiff_base.specs.declared.error.TiffUnsupportedError.{TiffUnsupportedError}
use Rattle.tiff_base.specs.declared.error.TiffUnsupportedError.TheVariants.{FloatingPointPredictor, HorizontalPredictor, InconsistentBitsPerSample, InterpretationWithBits, UnknownInterpretation, UnknownCompressionMethod, UnsupportedCompressionMethod, UnsupportedSampleDepth, UnsupportedSampleFormat, UnsupportedColorType, UnsupportedBitsPerChannel, UnsupportedPlanarConfig, UnsupportedDataType, UnsupportedInterpretation, ChromaSubsampling, MisalignedTileBoundaries}
use Rattle.tiff_base.specs.declared.error.UsageError.{UsageError as Usage}
use Rattle.tiff_base.specs.declared.error.UsageError.TheVariants.{InvalidChunkType, InvalidChunkIndex, InvalidPlaneIndex, InvalidCodingUnit, PredictorCompressionMismatch, PredictorIncompatible, PredictorUnavailable, InsufficientOutputBufferSize, InsufficientOutputRowStride, ZeroIfdPointer, ReconfiguredAfterImageWrite, ByteOrderMismatch, MismatchedEntryLength, ParentNotWritten, WriterFailed}
use Rattle.tiff_base.specs.declared.io.IoKind.{IoKind}
use Rattle.tiff_base.specs.declared.io.IoKind.TheVariants.{UnexpectedEof, InvalidData, InvalidInput, WriteZero, Device}

-- the number of an error of a file that doesn't have TIFF's form
abbrev pub format_fault_number : TiffFormatError → ℕ
format_fault_number TiffSignatureNotFound = 20
format_fault_number TiffSignatureInvalid = 21
format_fault_number ImageFileDirectoryNotFound = 22
format_fault_number InconsistentSizesEncountered = 23
format_fault_number (InvalidDimensions a b) = 24
format_fault_number InvalidTag = 25
format_fault_number (InvalidTagValueType a) = 26
format_fault_number (RequiredTagNotFound a) = 27
format_fault_number (UnknownPredictor a) = 28
format_fault_number (UnknownPlanarConfiguration a) = 29
format_fault_number InvalidTypeForTag = 30
format_fault_number (InvalidCountForTag a b) = 31
format_fault_number StripTileTagConflict = 32
format_fault_number CycleInOffsets = 33
format_fault_number SamplesPerPixelIsZero = 34
format_fault_number (CompressedDataCorrupt a) = 35

-- the number of an error for what is not supported
abbrev pub unsupported_fault_number : TiffUnsupportedError → ℕ
unsupported_fault_number (FloatingPointPredictor a) = 40
unsupported_fault_number (HorizontalPredictor a) = 41
unsupported_fault_number (InconsistentBitsPerSample a) = 42
unsupported_fault_number (InterpretationWithBits a b) = 43
unsupported_fault_number UnknownInterpretation = 44
unsupported_fault_number UnknownCompressionMethod = 45
unsupported_fault_number (UnsupportedCompressionMethod a) = 46
unsupported_fault_number (UnsupportedSampleDepth a) = 47
unsupported_fault_number (UnsupportedSampleFormat a) = 48
unsupported_fault_number (UnsupportedColorType a) = 49
unsupported_fault_number (UnsupportedBitsPerChannel a) = 50
unsupported_fault_number (UnsupportedPlanarConfig a) = 51
unsupported_fault_number UnsupportedDataType = 52
unsupported_fault_number (UnsupportedInterpretation a) = 53
unsupported_fault_number ChromaSubsampling = 54
unsupported_fault_number MisalignedTileBoundaries = 55

-- the number of an error for a call that doesn't fit
abbrev pub usage_fault_number : Usage → ℕ
usage_fault_number (InvalidChunkType a b) = 60
usage_fault_number (InvalidChunkIndex a) = 61
usage_fault_number (InvalidPlaneIndex a) = 62
usage_fault_number (InvalidCodingUnit a b) = 63
usage_fault_number PredictorCompressionMismatch = 64
usage_fault_number PredictorIncompatible = 65
usage_fault_number PredictorUnavailable = 66
usage_fault_number (InsufficientOutputBufferSize a b) = 67
usage_fault_number (InsufficientOutputRowStride a b) = 68
usage_fault_number ZeroIfdPointer = 69
usage_fault_number ReconfiguredAfterImageWrite = 70
usage_fault_number ByteOrderMismatch = 71
usage_fault_number (MismatchedEntryLength a b) = 72
usage_fault_number ParentNotWritten = 73
usage_fault_number WriterFailed = 74

-- the number of an error of input or output
abbrev pub io_fault_number : IoKind → ℕ
io_fault_number UnexpectedEof = 10
io_fault_number InvalidData = 11
io_fault_number InvalidInput = 12
io_fault_number WriteZero = 13
io_fault_number Device = 14

-- the number of an error of any kind
abbrev pub fault_number : TiffError → ℕ
fault_number (FormatError e) = format_fault_number e
fault_number (UnsupportedError e) = unsupported_fault_number e
fault_number (IoError k) = io_fault_number k
fault_number (UsageError e) = usage_fault_number e
fault_number LimitsExceeded = 1
fault_number IntSizeError = 2
fault_number OutOfMemory = 3

-- the status of a result: 0, or the number of its error
abbrev pub status : {X : Type 0} → Result X TiffError → ℕ
status (Ok x) = 0
status (Err e) = fault_number e

-- The status of a call is that of its result: 0, and what the call left is the value; or the number
-- of the error. Or else memory is out. What a call that is refused leaves in a slice is not
-- specified.
abbrev pub StatusTells : {X : Type 0} → Result X TiffError → ℕ → X → Type 0
StatusTells (Ok x) status left = ((status ≡ 0) × (left ≡ x)) ⊎ (status ≡ fault_number OutOfMemory)
StatusTells (Err e) status left = (status ≡ fault_number e) ⊎ (status ≡ fault_number OutOfMemory)

-- The status of a call that takes no memory is that of its result; the call puts its value into a
-- variable of the caller's, which stays where the status isn't 0.
abbrev pub StatusIs : {X : Type 0} → Result X TiffError → ℕ → X → X → Type 0
StatusIs (Ok x) status old new = (status ≡ 0) × (new ≡ x)
StatusIs (Err e) status old new = (status ≡ fault_number e) × (new ≡ old)

-- The status of a call is that of its result, or memory is out; the call puts its value into a
-- variable of the caller's, which stays where the status isn't 0.
abbrev pub StatusPuts : {X : Type 0} → Result X TiffError → ℕ → X → X → Type 0
StatusPuts (Ok x) status old new =
    ((status ≡ 0) × (new ≡ x)) ⊎ ((status ≡ fault_number OutOfMemory) × (new ≡ old))
StatusPuts (Err e) status old new =
    ((status ≡ fault_number e) ⊎ (status ≡ fault_number OutOfMemory)) × (new ≡ old)
