-- The ways in which the sink fails while an encoder writes its header, appends bytes or overwrites
-- a link.
use Rattle.std.specs.Prelude.{◌≡◌, ℕ, ◌+◌, ◌^◌, ◌<◌, Bool, List, ◌++◌, length, take, Option, Some, None, IsSome, nat_le}
use Rattle.tiff_base.specs.declared.error.TiffError.{TiffError}
use Rattle.tiff_base.specs.declared.error.TiffError.TheVariants.{UsageError}
use Rattle.tiff_base.specs.declared.error.UsageError.TheVariants.{WriterFailed}
use Rattle.tiff_base.specs.declared.io.SinkFault.{SinkFault}
use Rattle.tiff_base.specs.declared.tags.FileKind.{FileKind}
use Rattle.tiff_base.specs.Number.{le}
use Rattle.tiff_base.specs.SourceAndSink.{put, sink_error}
use Rattle.tiff_encode.specs.Machine.{FileState}
use Rattle.tiff_value.specs.FileBytes.{offset_len, header_bytes}

-- The sink failed while the header was written: it has the first bytes of the header, one more
-- failure, and the cause of that failure.
pub record HeaderFails {S : Type 0} (kind : FileKind) (contents : S → List ℕ) (failures : S
    → ℕ) (fault : S → Option SinkFault)
    (sink : S) (e : TiffError) : Type 0 where
  pub last : S
  pub count : ℕ
  pub within : count < length (header_bytes kind)
  pub bytes : contents last ≡ contents sink ++ take count (header_bytes kind)
  pub grew : failures last ≡ failures sink + 1
  pub cause : SinkFault
  pub tells : fault last ≡ Some cause
  pub answer : e ≡ sink_error cause

-- whether a number is an offset or a length that a classic file can't hold
abbrev pub is_too_far : ℕ → Bool
is_too_far n = nat_le (2 ^ 32) n

-- An earlier write failed: the call does nothing.
pub record AppendIsStopped (e : TiffError) (old new : FileState) : Type 0 where
  pub fault : e ≡ UsageError WriterFailed
  pub failed : IsSome old.fault
  pub same : new ≡ old

-- The sink failed while these bytes were appended: the file has the first of these bytes, and
-- nothing is written after them.
pub record AppendIsCut (appended : List ℕ) (e : TiffError) (old new : FileState) : Type 0 where
  pub fresh : old.fault ≡ None
  pub fault : SinkFault
  pub answer : e ≡ sink_error fault
  pub count : ℕ
  pub within : count < length appended
  pub state : new ≡ record old {
    bytes = old.bytes ++ take count appended;
    failures = old.failures + 1;
    fault = Some fault;
  }

-- All bytes were appended, and the sink failed while the link at an offset was written: the link
-- has the first of the new bytes.
pub record IsTorn (appended : List ℕ) (parent directory : ℕ) (e : TiffError) (old new : FileState)
    : Type 0 where
  pub fresh : old.fault ≡ None
  pub fault : SinkFault
  pub answer : e ≡ sink_error fault
  pub count : ℕ
  pub within : count < offset_len old.kind
  pub state : new ≡ record old {
    bytes = put (old.bytes ++ appended) parent (take count (le (offset_len old.kind) directory));
    failures = old.failures + 1;
    fault = Some fault;
  }
