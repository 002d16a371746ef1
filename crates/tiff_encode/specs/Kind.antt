-- How a kind of file writes its offsets and counts (TIFF 6.0 section 2; BigTIFF).
use Rattle.std.specs.Prelude.{◌≡◌, ℕ, ◌⊎◌, Bool, true, false, List, None, Result, Err, MatchResult}
use Rattle.tiff_base.specs.declared.error.TiffError.{TiffError}
use Rattle.tiff_base.specs.declared.error.TiffError.TheVariants.{IntSizeError}
use Rattle.tiff_base.specs.declared.tags.FileKind.{FileKind}
use Rattle.tiff_value.specs.Written.{Written, WritesCounted, writer_after, IsStopped, IsCut}
use Rattle.tiff_value.specs.FileBytes.{offset_len, header_bytes}

-- a number is written as these bytes; a number that exceeds its bytes returns `IntSizeError`, and
-- nothing is written
abbrev pub WritesWithin : {A : Type 0} → Bool → List ℕ → Written → Written → Result A TiffError
    → Type 0
WritesWithin true bytes old new result = (result ≡ Err IntSizeError) × (new ≡ old)
WritesWithin false bytes old new result = WritesCounted bytes old new result

-- a header is written; its link is 0 and is the last write
abbrev pub WritesHeader : {A : Type 0} → FileKind → Written → Written → Result A TiffError → Type 0
WritesHeader kind old new result =
    MatchResult result
    (λ _. (old.fault ≡ None)
    × (new ≡ record (writer_after old (header_bytes kind)) { last = offset_len kind }))
    (λ e. IsStopped e old new ⊎ IsCut (header_bytes kind) e old new)
