-- The steps by which a file is written.
use Rattle.std.specs.Prelude.{◌≡◌, ℕ, ◌+◌, ◌≤◌, ◌⊎◌, List, [], ◌++◌, length, None, Result, MatchResult}
use Rattle.tiff_base.specs.declared.error.TiffError.{TiffError}
use Rattle.tiff_base.specs.declared.tags.FileKind.{FileKind}
use Rattle.tiff_base.specs.declared.tags.Predictor.{Predictor}
use Rattle.tiff_base.specs.Number.{le}
use Rattle.tiff_base.specs.SourceAndSink.{put}
use Rattle.tiff_value.specs.Written.{Written}
use Rattle.tiff_value.specs.FileBytes.{offset_len}
use Rattle.tiff_encode.specs.declared.encoder.settings.Compression.{Compression}
use Rattle.tiff_encode.specs.Machine.{FileState}
use Rattle.tiff_encode.specs.Encoder.{AppendIsStopped, AppendIsCut, IsTorn}

-- the file of an encoder, from its kind, its writer, the offset of the last link of the IFD chain,
-- and the settings of images
abbrev pub file_of : FileKind → Written → ℕ → Predictor → Compression → FileState
file_of kind w chain predictor compression = record {
  kind = kind;
  bytes = w.bytes;
  failures = w.failures;
  fault = w.fault;
  chain = chain;
  predictor = predictor;
  compression = compression;
}

-- The writer is at the end of the file if no write failed, and the last link of the IFD chain is
-- within the bytes of the file.
pub record StandsAtEnd (kind : FileKind) (w : Written) (chain : ℕ) : Type 0 where
  pub at_end : w.fault ≡ None → w.at ≡ length w.bytes
  pub linked : chain + offset_len kind ≤ length w.bytes

-- the file with bytes appended
abbrev pub file_with_bytes : FileState → List ℕ → FileState
file_with_bytes file xs = record file { bytes = file.bytes ++ xs }

module _ {A : Type 0} where
  -- bytes are appended; or an earlier write failed; or the sink fails
  abbrev pub AppendsToFile : List ℕ → FileState → FileState → Result A TiffError → Type 0
  AppendsToFile xs old new r =
      MatchResult r (λ _. (old.fault ≡ None) × (new ≡ file_with_bytes old xs))
      (λ e. AppendIsStopped e old new ⊎ AppendIsCut xs e old new)

  -- the link at an offset points to a directory; or an earlier write failed; or the sink fails
  abbrev pub PointsLink : ℕ → ℕ → FileState → FileState → Result A TiffError → Type 0
  PointsLink parent directory old new r =
      MatchResult r
      (λ _. (old.fault ≡ None)
      × (new ≡ record old
      { bytes = put old.bytes parent (le (offset_len old.kind) directory) }))
      (λ e. AppendIsStopped e old new ⊎ IsTorn [] parent directory e old new)
