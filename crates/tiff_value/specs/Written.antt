-- What a writer has written, and what each write does to the writer.
use Rattle.std.specs.Prelude.{◌≡◌, ℕ, ◌+◌, ◌<◌, ◌⊎◌, List, length, take, Option, Some, None, IsSome, Result, MatchResult}
use Rattle.tiff_base.specs.SourceAndSink.{put, sink_error}
use Rattle.tiff_base.specs.declared.error.TiffError.{TiffError}
use Rattle.tiff_base.specs.declared.error.TiffError.TheVariants.{UsageError}
use Rattle.tiff_base.specs.declared.error.UsageError.TheVariants.{WriterFailed}
use Rattle.tiff_base.specs.declared.io.SinkFault.{SinkFault}
use Rattle.tiff_base.specs.declared.tags.CompressionMethod.{CompressionMethod}
use Rattle.tiff_base.specs.declared.tags.CompressionMethod.TheVariants as method

-- a writer: the bytes of its sink, the offset of the next write, the error of the sink that ended
-- all writing, the number of failed writes of its sink, the number of bytes of the last write, and
-- its compression method
pub record Written : Type 0 where
  pub bytes : List ℕ
  pub at : ℕ
  pub fault : Option SinkFault
  pub failures : ℕ
  pub last : ℕ
  pub method : CompressionMethod

-- a fresh writer over a sink that contains these bytes, after some failed writes of the sink
abbrev pub new_writer : List ℕ → ℕ → Written
new_writer contents failures =
    record {
      bytes = contents;
      at = length contents;
      fault = None;
      failures = failures;
      last = 0;
      method = method.None;
    }

-- the writer after a write of bytes at its offset
abbrev pub writer_after : Written → List ℕ → Written
writer_after w xs = record w { bytes = put w.bytes w.at xs; at = w.at + length xs }

-- the writer after a write of bytes at its offset, with their number as `last_written`
abbrev pub writer_after_counted : Written → List ℕ → Written
writer_after_counted w xs =
    record w { bytes = put w.bytes w.at xs; at = w.at + length xs; last = length xs }

-- One call of the sink fails: its bytes are unchanged, and its error ends all writing.
pub record SinkFails (e : TiffError) (old new : Written) : Type 0 where
  pub fault : SinkFault
  pub answer : e ≡ sink_error fault
  pub state : new ≡ record old { fault = Some fault; failures = old.failures + 1 }

-- An earlier write failed: nothing is done.
pub record IsStopped (e : TiffError) (old new : Written) : Type 0 where
  pub answer : e ≡ UsageError WriterFailed
  pub failed : IsSome old.fault
  pub same : new ≡ old

-- The sink fails during the write of these bytes: a part of them, from the front, is written, and
-- nothing after it.
pub record IsCut (xs : List ℕ) (e : TiffError) (old new : Written) : Type 0 where
  pub fresh : old.fault ≡ None
  pub fault : SinkFault
  pub answer : e ≡ sink_error fault
  pub count : ℕ
  pub within : count < length xs
  pub state : new ≡ record old {
    bytes = put old.bytes old.at (take count xs);
    at = old.at + count;
    fault = Some fault;
    failures = old.failures + 1;
  }

module _ {A : Type 0} where
  -- the bytes are written; or a part of them, from the front, because the sink fails; or nothing,
  -- because an earlier write failed
  abbrev pub WritesRaw : List ℕ → Written → Written → Result A TiffError → Type 0
  WritesRaw xs old new r =
      MatchResult r (λ _. (old.fault ≡ None) × (new ≡ writer_after old xs))
      (λ e. IsStopped e old new ⊎ IsCut xs e old new)

  -- the bytes are written, with their number as `last_written`; or a part of them, from the front,
  -- because the sink fails; or nothing, because an earlier write failed
  abbrev pub WritesCounted : List ℕ → Written → Written → Result A TiffError → Type 0
  WritesCounted xs old new r =
      MatchResult r (λ _. (old.fault ≡ None) × (new ≡ writer_after_counted old xs))
      (λ e. IsStopped e old new ⊎ IsCut xs e old new)
