-- The state of an encoder: its file, an open directory, an open image; and the effect of calls on
-- it (this project's).
use Rattle.std.specs.Prelude.{ℕ, ◌+◌, Bool, List, [], ◌++◌, length, Option, Some, None, Result, Ok, Err}
use Rattle.std.specs.FinMap.{FinMap}
use Rattle.std.specs.Ordering.{nat_cmp}
use Rattle.tiff_base.specs.declared.error.TiffError.{TiffError}
use Rattle.tiff_base.specs.declared.io.SinkFault.{SinkFault}
use Rattle.tiff_base.specs.declared.tags.CompressionMethod.{CompressionMethod}
use Rattle.tiff_base.specs.declared.tags.CompressionMethod.TheVariants as method
use Rattle.tiff_base.specs.declared.tags.ExtraSamples.{ExtraSamples}
use Rattle.tiff_base.specs.declared.tags.FileKind.{FileKind}
use Rattle.tiff_base.specs.declared.tags.Predictor.{Predictor}
use Rattle.tiff_base.specs.declared.tags.Predictor.TheVariants as predictor
use Rattle.tiff_base.specs.Field.{Field}
use Rattle.tiff_value.specs.ColorType.{ColorTypeRecord}
use Rattle.tiff_encode.specs.declared.encoder.settings.Compression.{Compression}
use Rattle.tiff_encode.specs.declared.encoder.settings.Compression.TheVariants.{Uncompressed, Packbits, PackbitsRows}
pub use Rattle.tiff_encode.specs.declared.encoder.image.state.ChunkLayout.{ChunkLayout}
pub use Rattle.tiff_encode.specs.declared.encoder.image.state.Chunk.{Chunk}
use Rattle.tiff_value.specs.FileBytes.{header_mark, header_bytes}
use Rattle.tiff_value.specs.WriteOps.{WriteOp, bytes_after}

-- the compression method of the chunks
abbrev pub compression_method : Compression → CompressionMethod
compression_method Uncompressed = method.None
compression_method Packbits = method.PackBits
compression_method PackbitsRows = method.PackBits

-- the file of an encoder: its kind, its bytes, the number of failed writes of its sink, the error
-- of the write that ended all writing, the offset of the last link of the IFD chain, and the
-- settings of the next images
pub record FileState : Type 0 where
  pub kind : FileKind
  pub bytes : List ℕ
  pub failures : ℕ
  pub fault : Option SinkFault
  pub chain : ℕ
  pub predictor : Predictor
  pub compression : Compression

-- an open directory: its fields by their tag numbers, the offset of the link that points to it when
-- it ends, and whether its own link becomes the last link of the IFD chain
pub record OpenDirectory : Type 0 where
  pub fields : FinMap nat_cmp Field
  pub parent : Option ℕ
  pub chained : Bool

-- an open image: its directory; its width and height, where a column is a pixel, or a byte of
-- packed pixels; the number of pixels of a row; its color type, the number of bytes of a sample,
-- its extra samples, its predictor, its compression, the layout of its chunks in columns and rows,
-- and the chunks in the file
pub record OpenImage : Type 0 where
  pub directory : OpenDirectory
  pub width : ℕ
  pub height : ℕ
  pub pixels : ℕ
  pub color : ColorTypeRecord
  pub size : ℕ
  pub extra : List ExtraSamples
  pub predictor : Predictor
  pub compression : Compression
  pub form : ChunkLayout
  pub chunks : List Chunk

-- the file of an encoder that begins on a sink with these bytes
abbrev pub begun_file : FileKind → List ℕ → ℕ → FileState
begun_file kind contents failures = record {
  kind = kind;
  bytes = contents ++ header_bytes kind;
  failures = failures;
  fault = None;
  chain = length contents + length (header_mark kind);
  predictor = predictor.None;
  compression = Uncompressed;
}

-- the result of a call, its writes, and the file after it; an error in the result is neither that
-- of the device nor `OutOfMemory`
pub record WriteOutcome (A : Type 0) : Type 0 where
  pub answer : Result A TiffError
  pub ops : List WriteOp
  pub next : FileState

-- the specification of a call: its outcome, depending on the file before it
abbrev pub WriteCall : Type 0 → Type 0
WriteCall A = FileState → WriteOutcome A

-- returns a result, and does nothing
abbrev pub answers : {A : Type 0} → Result A TiffError → WriteCall A
answers answer file = record { answer = answer; ops = []; next = file }

abbrev pub gives : {A : Type 0} → A → WriteCall A
gives x = answers (Ok x)

-- makes some writes
abbrev pub does : List WriteOp → WriteCall (Unit {0})
does ops file =
    record {
      answer = Ok tt;
      ops = ops;
      next = record file { bytes = bytes_after file.kind file.bytes ops };
    }

-- an outcome with additional writes before its own
abbrev pub after_ops : {A : Type 0} → List WriteOp → WriteOutcome A → WriteOutcome A
after_ops ops told = record { answer = told.answer; ops = ops ++ told.ops; next = told.next }

-- an outcome continues with the next call, unless its result is an error
abbrev pub and_then : {A B : Type 0} → Result A TiffError → List WriteOp → FileState
    → (A → WriteCall B) → WriteOutcome B
and_then (Ok x) ops next rest = after_ops ops (rest x next)
and_then (Err e) ops next rest = record { answer = Err e; ops = ops; next = next }

-- a call, and then another call unless the first returns an error
infixl 10 ◌>>=◌
abbrev pub ◌>>=◌ : {A B : Type 0} → WriteCall A → (A → WriteCall B) → WriteCall B
(call >>= rest) file = and_then (call file).answer (call file).ops (call file).next rest

-- a call that returns an error if one applies, and otherwise does its work
abbrev pub by_cause : {A : Type 0} → Option TiffError → WriteCall A → WriteCall A
by_cause None call = call
by_cause (Some e) call = answers (Err e)
