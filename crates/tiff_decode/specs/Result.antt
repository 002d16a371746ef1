-- A decoding result as its number type and the bits of its numbers.
use Rattle.std.specs.Prelude.{◌≡◌, ℕ, ◌-◌, ◌%◌, List, ◌++◌, length, map, replicate}
use Rattle.std.specs.List.{flat_map}
use Rattle.std.specs.Int.{w8, w16, w32, w64, cast_unsigned}
use Rattle.tiff_base.specs.Number.{le}
use Rattle.tiff_base.specs.SourceAndSink.{AreOctets}
use Rattle.tiff_page.specs.declared.layout.DecodingSampleType.{DecodingSampleType}
use Rattle.tiff_page.specs.declared.layout.DecodingSampleType.TheVariants as type
use Rattle.tiff_page.specs.Layout.{size_of}
use Rattle.tiff_page.specs.Image.{Decoded, decoded_samples}
use Rattle.tiff_decode.specs.declared.result.DecodingResult.{DecodingResult}
use Rattle.tiff_decode.specs.declared.result.DecodingResult.TheVariants as result
use Rattle.tiff_decode.specs.declared.buffer.DecodingBuffer.{DecodingBuffer}
use Rattle.tiff_decode.specs.declared.buffer.DecodingBuffer.TheVariants as buffer

abbrev pub decoded_as : DecodingResult → Decoded
decoded_as (result.U8 v) = record { sample_type = type.U8; numbers = v.items }
decoded_as (result.U16 v) = record { sample_type = type.U16; numbers = v.items }
decoded_as (result.U32 v) = record { sample_type = type.U32; numbers = v.items }
decoded_as (result.U64 v) = record { sample_type = type.U64; numbers = v.items }
decoded_as (result.F16 v) = record { sample_type = type.F16; numbers = map (λ b. b.0) v.items }
decoded_as (result.F32 v) = record { sample_type = type.F32; numbers = map (λ b. b.0) v.items }
decoded_as (result.F64 v) = record { sample_type = type.F64; numbers = map (λ b. b.0) v.items }
decoded_as (result.I8 v) =
    record { sample_type = type.I8; numbers = map (cast_unsigned w8) v.items }
decoded_as (result.I16 v) =
    record { sample_type = type.I16; numbers = map (cast_unsigned w16) v.items }
decoded_as (result.I32 v) =
    record { sample_type = type.I32; numbers = map (cast_unsigned w32) v.items }
decoded_as (result.I64 v) =
    record { sample_type = type.I64; numbers = map (cast_unsigned w64) v.items }

-- a buffer as its number type and the bits of its numbers
abbrev pub buffered_as : DecodingBuffer → Decoded
buffered_as (buffer.U8 s) = record { sample_type = type.U8; numbers = s.now }
buffered_as (buffer.U16 s) = record { sample_type = type.U16; numbers = s.now }
buffered_as (buffer.U32 s) = record { sample_type = type.U32; numbers = s.now }
buffered_as (buffer.U64 s) = record { sample_type = type.U64; numbers = s.now }
buffered_as (buffer.F16 s) = record { sample_type = type.F16; numbers = map (λ b. b.0) s.now }
buffered_as (buffer.F32 s) = record { sample_type = type.F32; numbers = map (λ b. b.0) s.now }
buffered_as (buffer.F64 s) = record { sample_type = type.F64; numbers = map (λ b. b.0) s.now }
buffered_as (buffer.I8 s) = record { sample_type = type.I8; numbers = map (cast_unsigned w8) s.now }
buffered_as (buffer.I16 s) =
    record { sample_type = type.I16; numbers = map (cast_unsigned w16) s.now }
buffered_as (buffer.I32 s) =
    record { sample_type = type.I32; numbers = map (cast_unsigned w32) s.now }
buffered_as (buffer.I64 s) =
    record { sample_type = type.I64; numbers = map (cast_unsigned w64) s.now }

-- the little-endian bytes of all numbers
abbrev pub bytes_of : Decoded → List ℕ
bytes_of samples = flat_map (le (size_of samples.sample_type)) samples.numbers

-- the bytes, followed by as many zeros as complete the last number of this size
abbrev pub whole_numbers : ℕ → List ℕ → List ℕ
whole_numbers size bytes = bytes ++ replicate ((size - length bytes % size) % size) 0

-- the bytes of the numbers that are decoded from bytes are these bytes, completed with zeros
abbrev pub BytesAgain : Type 0
BytesAgain = (t : DecodingSampleType) (bytes : List ℕ) → AreOctets bytes
    → bytes_of (decoded_samples t bytes) ≡ whole_numbers (size_of t) bytes
