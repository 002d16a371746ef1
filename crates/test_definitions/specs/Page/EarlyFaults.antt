-- Worked examples of errors found before samples are allocated, and of out-of-memory errors.
use Rattle.std.specs.Prelude.{◌≡◌, ℕ, [], ◌∷◌, Ok, Err}
use Rattle.tiff_base.specs.declared.error.TiffError.TheVariants.{UnsupportedError, UsageError, IoError, LimitsExceeded, OutOfMemory}
use Rattle.tiff_base.specs.declared.error.TiffUnsupportedError.TheVariants.{UnsupportedCompressionMethod, UnsupportedSampleFormat}
use Rattle.tiff_base.specs.declared.error.UsageError.TheVariants.{InsufficientOutputBufferSize, InsufficientOutputRowStride, InvalidCodingUnit}
use Rattle.tiff_base.specs.declared.io.IoKind.TheVariants.{UnexpectedEof}
use Rattle.tiff_base.specs.declared.tags.CompressionMethod.TheVariants as method
use Rattle.tiff_base.specs.declared.tags.SampleFormat.TheVariants as format
use Rattle.tiff_base.specs.Sparing.{IsListFault}
use Rattle.tiff_ifd.specs.Limits.{unlimited}
use Rattle.tiff_page.specs.Page.{PageRecord}
use Rattle.tiff_page.specs.EarlyFaults.{WantsWhere, AllocatesAfter, chunk_bytes_early, image_bytes_early, unit_bytes_early, image_early, planes_early, chunk_early, strided_early}
use Rattle.test_definitions.specs.Files.{gray_file}
use Rattle.test_definitions.specs.Page.Pixels.{pixel_page, limits}
use Rattle.test_definitions.specs.Page.PixelCalls.{two_planes, two_faults, tiles}

-- a page of 16384 by 16384 pixels, in a file of a few bytes
abbrev pub claiming_page : PageRecord
claiming_page =
    record pixel_page { width = 16384; height = 16384; chunk_width = 16384; chunk_height = 16384 }

-- mistake: `check_first_chunk` doesn't look for the first chunk
-- the file doesn't contain the last byte of the claimed image
abbrev pub claim_cut : Type 0
claim_cut = image_early gray_file claiming_page unlimited ≡ Err (IoError UnexpectedEof)

-- mistake: `check_first_chunk` ignores the limit
-- the limit is checked before the end of the file
abbrev pub claim_past_limit : Type 0
claim_past_limit = image_early gray_file claiming_page (limits 99 99) ≡ Err LimitsExceeded

-- mistake: `least_stored` needs one packed byte for each unpacked one
-- mistake: `bytes_held` ignores a byte count
-- mistake: `is_cut` needs one packed byte for each unpacked one
-- 2^28 bytes need at least 2^22 packed bytes, and the byte count is smaller
abbrev pub packed_claim_cut : Type 0
packed_claim_cut =
    image_early gray_file
    (record claiming_page { method = method.PackBits; byte_counts = 4194303 ∷ [] }) unlimited
    ≡ Err (IoError UnexpectedEof)

-- the page of one pixel has no early error
abbrev pub pixel_held : Type 0
pixel_held = image_early gray_file pixel_page unlimited ≡ Ok tt

-- mistake: `check_first_chunk` ignores its form
-- an unsupported compression method is found early, and a missing number type before it
abbrev pub unpacked_not : Type 0
unpacked_not =
    image_early gray_file (record pixel_page { method = method.LZW }) unlimited
    ≡ Err (UnsupportedError (UnsupportedCompressionMethod method.LZW))

-- mistake: `image_early` tests the number type after the chunk
abbrev pub type_first : Type 0
type_first =
    image_early gray_file (record pixel_page { method = method.LZW; format = format.Void })
    unlimited
    ≡ Err (UnsupportedError (UnsupportedSampleFormat (format.Void ∷ [])))

-- mistake: `planes_within` counts all planes in every case
-- mistake: `planes_early` counts all planes where one is within the limit (`no_plane_within` fails
--   too)
-- of two planes of 9 bytes, a limit of 17 allows the first, and a limit of 8 none
abbrev pub first_plane_within : Type 0
first_plane_within = planes_early tiles two_planes (limits 17 99) ≡ Ok tt

-- mistake: `planes_within` counts one plane in every case
abbrev pub no_plane_within : Type 0
no_plane_within = planes_early tiles two_planes (limits 8 99) ≡ Err LimitsExceeded

-- the file contains the first tile, and the second is past its end
abbrev pub first_chunk_held : Type 0
first_chunk_held = chunk_early tiles two_faults unlimited 0 ≡ Ok tt

-- mistake: `chunk_early` takes the first chunk for each (`first_chunk_held` fails too)
abbrev pub second_chunk_cut : Type 0
second_chunk_cut = chunk_early tiles two_faults unlimited 1 ≡ Err (IoError UnexpectedEof)

-- mistake: `strided_early` ignores the stride
-- the rows of the tile have two bytes
abbrev pub stride_first : Type 0
stride_first =
    strided_early tiles two_planes unlimited 0 1
    ≡ Err (UsageError (InsufficientOutputRowStride 2 1))

-- mistake: `strided_early` counts the bytes of rows without the gaps
-- two rows 7 bytes apart take 14 bytes
abbrev pub strided_past_limit : Type 0
strided_past_limit = strided_early tiles two_planes (limits 13 99) 0 7 ≡ Err LimitsExceeded

-- mistake: `AllocatesAfter` allows out of memory in every case (`method_wants_none` fails too)
-- a call doesn't return an out-of-memory error for a file that claims too much
abbrev pub claim_wants_none : Type 0
claim_wants_none =
    AllocatesAfter {X = ℕ} (image_early gray_file claiming_page unlimited) (Err OutOfMemory) → ⊥

-- mistake: `AllocatesAfter` never allows out of memory (`format_may_want` fails too)
-- a call may return an out-of-memory error for a page of one pixel
abbrev pub pixel_may_want : Type 0
pixel_may_want = AllocatesAfter {X = ℕ} (image_early gray_file pixel_page unlimited) (Err OutOfMemory)

-- mistake: `IsListFault` counts the end of the source
-- an error without a list, and no error
abbrev pub end_has_no_list : Type 0
end_has_no_list = IsListFault {Y = ℕ} (Err (IoError UnexpectedEof)) → ⊥

-- mistake: `IsListFault` counts an `Ok`
abbrev pub answer_has_no_list : Type 0
answer_has_no_list = IsListFault {Y = ℕ} (Ok 7) → ⊥

-- mistake: `IsListFault` counts a method that isn't unpacked
abbrev pub method_has_no_list : Type 0
method_has_no_list =
    IsListFault {Y = ℕ} (Err (UnsupportedError (UnsupportedCompressionMethod method.LZW))) → ⊥

-- mistake: `IsListFault` counts no error at all
abbrev pub format_has_list : Type 0
format_has_list =
    IsListFault {Y = ℕ} (Err (UnsupportedError (UnsupportedSampleFormat (format.Void ∷ []))))

-- an unsupported method isn't an out-of-memory error; the list of an error may be out of memory
abbrev pub method_wants_none : Type 0
method_wants_none =
    AllocatesAfter {X = ℕ} (image_early gray_file (record pixel_page { method = method.LZW }) unlimited)
    (Err OutOfMemory) → ⊥

abbrev pub format_may_want : Type 0
format_may_want =
    AllocatesAfter {X = ℕ}
    (image_early gray_file (record pixel_page { format = format.Void }) unlimited) (Err OutOfMemory)

-- mistake: `image_bytes_early` tests the form before the room (`chunk_without_room` fails too)
-- a slice's room is checked before the form of the first chunk, and the coding unit before the room
abbrev pub room_first : Type 0
room_first = image_bytes_early (record pixel_page { method = method.LZW }) unlimited 0
    ≡ Err (UsageError (InsufficientOutputBufferSize 1 0))

-- mistake: `image_bytes_early` ignores the form
abbrev pub form_next : Type 0
form_next =
    image_bytes_early (record pixel_page { method = method.LZW }) unlimited 1
    ≡ Err (UnsupportedError (UnsupportedCompressionMethod method.LZW))

abbrev pub chunk_without_room : Type 0
chunk_without_room =
    chunk_bytes_early pixel_page unlimited 0 0 ≡ Err (UsageError (InsufficientOutputBufferSize 1 0))

-- mistake: `unit_bytes_early` tests the room before the unit (`unit_held` fails too)
abbrev pub unit_first : Type 0
unit_first = unit_bytes_early pixel_page unlimited 1 0 ≡ Err (UsageError (InvalidCodingUnit 1 1))

abbrev pub unit_held : Type 0
unit_held = unit_bytes_early pixel_page unlimited 0 1 ≡ Ok tt

-- mistake: `WantsWhere` restricts an `Ok` too
-- a successful result isn't an out-of-memory error
abbrev pub answer_wants_none : Type 0
answer_wants_none = WantsWhere {X = ℕ} ⊥ (Ok 7)
