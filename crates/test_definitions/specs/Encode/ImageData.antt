-- Worked examples of chunks of an open image: how they are written, and what the file contains
-- then.
use Rattle.std.specs.Prelude.{ℕ, List, [], ◌∷◌, ◌++◌, Ok, Err}
use Rattle.tiff_base.specs.declared.error.TiffError.TheVariants.{IoError, OutOfMemory}
use Rattle.tiff_base.specs.declared.io.IoKind.TheVariants.{InvalidData, Device}
use Rattle.tiff_base.specs.declared.io.SinkFault.TheVariants as fault
use Rattle.tiff_base.specs.declared.tags.FileKind.TheVariants.{Classic}
use Rattle.tiff_value.specs.Model.{Model, header_model, with_link}
use Rattle.tiff_encode.specs.Machine.{FileState, OpenImage}
use Rattle.tiff_encode.specs.Calls as calls
use Rattle.tiff_encode.specs.Calls.{with_chunk}
use Rattle.tiff_encode.specs.ImageData.{StopsWithin, WritesChunks, LeavesChunk}
use Rattle.test_definitions.specs.Encode.Calls.{header}
use Rattle.test_definitions.specs.Encode.Causes.{new_file, file_with, pixel}
use Rattle.test_definitions.specs.Encode.Chunks.{two_strips}
use Rattle.test_definitions.specs.Encode.Jobs.{failed_with}

-- ---- chunks one after another

-- the samples of two strips, and the samples with an extra one in the second strip
abbrev pub two_parts : List (List ℕ)
two_parts = (1 ∷ 2 ∷ []) ∷ (3 ∷ []) ∷ []

abbrev pub more_parts : List (List ℕ)
more_parts = (1 ∷ 2 ∷ []) ∷ (3 ∷ 4 ∷ []) ∷ []

-- the image with its first strip, and with both
abbrev pub first_counted : OpenImage
first_counted = with_chunk two_strips 8 2

abbrev pub both_counted : OpenImage
both_counted = with_chunk first_counted 10 1

-- the file with the bytes of the first strip, of both, and of the refused one
abbrev pub first_file : FileState
first_file = file_with Classic (header ++ (1 ∷ 2 ∷ []))

abbrev pub both_file : FileState
both_file = file_with Classic (header ++ (1 ∷ 2 ∷ 3 ∷ []))

abbrev pub more_file : FileState
more_file = file_with Classic (header ++ (1 ∷ 2 ∷ 3 ∷ 4 ∷ []))

-- both strips are written
abbrev pub both_written : Type 0
both_written =
    WritesChunks {A = ℕ} two_strips two_parts (Ok 0) (new_file Classic) both_file both_counted

-- mistake: `WritesChunks` writes some of the chunks
-- not all chunks are written if only the first strip is, or if other bytes are
abbrev pub first_alone : Type 0
first_alone =
    WritesChunks {A = ℕ} two_strips two_parts (Ok 0) (new_file Classic) first_file first_counted → ⊥

-- mistake: `WritesChunks` allows any bytes
abbrev pub other_bytes : Type 0
other_bytes =
    WritesChunks {A = ℕ} two_strips two_parts (Ok 0) (new_file Classic)
    (file_with Classic (header ++ (1 ∷ 2 ∷ 4 ∷ []))) both_counted → ⊥

-- mistake: `WritesChunks` doesn't compare the file
-- each counted strip is written, and each written strip is counted
abbrev pub only_counted : Type 0
only_counted =
    WritesChunks {A = ℕ} two_strips two_parts (Ok 0) (new_file Classic) first_file both_counted → ⊥

-- mistake: `WritesChunks` doesn't compare the image (`refused_counted` fails too)
abbrev pub not_counted : Type 0
not_counted =
    WritesChunks {A = ℕ} two_strips two_parts (Ok 0) (new_file Classic) both_file first_counted → ⊥

-- a refused strip isn't counted
abbrev pub refused_counted : Type 0
refused_counted = (new : FileState) (next : OpenImage)
    → WritesChunks {A = ℕ} two_strips more_parts (Ok 0) (new_file Classic) new next → ⊥

-- the second strip is refused after the first, and its bytes aren't in the file
abbrev pub second_refused : Type 0
second_refused =
    StopsWithin two_strips more_parts (IoError InvalidData) (new_file Classic) first_file

-- mistake: `StopsWithin` keeps the bytes of a refused chunk
abbrev pub refused_stands : Type 0
refused_stands =
    StopsWithin two_strips more_parts (IoError InvalidData) (new_file Classic) more_file → ⊥

-- the sink fails before the second strip
abbrev pub second_cut : Type 0
second_cut =
    StopsWithin two_strips two_parts (IoError Device) (new_file Classic)
    (failed_with fault.Device (header ++ (1 ∷ 2 ∷ [])))

-- an out-of-memory error for the second strip, but not if both are stored
abbrev pub second_wanting : Type 0
second_wanting = StopsWithin two_strips two_parts OutOfMemory (new_file Classic) first_file

-- mistake: `StopsWithin` allows out of memory after the last
abbrev pub both_wanting : Type 0
both_wanting = StopsWithin two_strips two_parts OutOfMemory (new_file Classic) both_file → ⊥

-- ---- what one chunk leaves

-- the chunk of one pixel is after the header
abbrev pub chunk_left : Type 0
chunk_left =
    LeavesChunk {A = ℕ} calls.write_chunk pixel (7 ∷ []) (Ok 0) (new_file Classic)
    (file_with Classic (header ++ (7 ∷ []))) (with_chunk pixel 8 1) (header_model Classic)

-- mistake: `LeavesChunk` allows any bytes
-- the chunk contains no other sample, and is counted
abbrev pub chunk_other : Type 0
chunk_other =
    LeavesChunk {A = ℕ} calls.write_chunk pixel (7 ∷ []) (Ok 0) (new_file Classic)
    (file_with Classic (header ++ (8 ∷ []))) (with_chunk pixel 8 1) (header_model Classic)
    → ⊥

-- mistake: `LeavesChunk` doesn't compare the image (`chunk_counted` fails too)
abbrev pub chunk_uncounted : Type 0
chunk_uncounted =
    LeavesChunk {A = ℕ} calls.write_chunk pixel (7 ∷ []) (Ok 0) (new_file Classic)
    (file_with Classic (header ++ (7 ∷ []))) pixel (header_model Classic) → ⊥

-- mistake: `LeavesChunk` allows any model
-- the chunk leaves the header's link unchanged
abbrev pub chunk_link : Type 0
chunk_link =
    LeavesChunk {A = ℕ} calls.write_chunk pixel (7 ∷ []) (Ok 0) (new_file Classic)
    (file_with Classic (header ++ (7 ∷ []))) (with_chunk pixel 8 1)
    (with_link Classic (header_model Classic) 4 9)
    → ⊥

-- a chunk with two samples in place of one is refused, and isn't counted
abbrev pub chunk_counted : Type 0
chunk_counted = (new : FileState) (next : OpenImage) (m : Model)
    → LeavesChunk {A = ℕ} calls.write_chunk pixel (7 ∷ 8 ∷ []) (Ok 0) (new_file Classic) new next m
    → ⊥

-- a refused chunk leaves the file and its model unchanged
abbrev pub chunk_refused : Type 0
chunk_refused =
    LeavesChunk {A = ℕ} calls.write_chunk pixel (7 ∷ 8 ∷ []) (Err (IoError InvalidData))
    (new_file Classic) (new_file Classic) pixel (header_model Classic)

-- mistake: `LeavesChunk` lets a refusal change what the file contained
abbrev pub chunk_changed : Type 0
chunk_changed =
    LeavesChunk {A = ℕ} calls.write_chunk pixel (7 ∷ 8 ∷ []) (Err (IoError InvalidData))
    (new_file Classic)
    (file_with Classic (0x49 ∷ 0x49 ∷ 0x2a ∷ 0x00 ∷ 0x09 ∷ 0x00 ∷ 0x00 ∷ 0x00 ∷ [])) pixel
    (header_model Classic)
    → ⊥
