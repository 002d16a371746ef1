-- A file with other bytes over its link, and more bytes behind it (this project's).
use Rattle.std.specs.Prelude.{◌≡◌, ℕ, ◌+◌, ◌≤◌, ◌<◌, ◌⊎◌, List, [], ◌++◌, length, drop}
use Rattle.tiff_base.specs.SourceAndSink.{put}

-- a file with these bytes over its link at q, and more bytes behind it
abbrev pub added_to : List ℕ → ℕ → List ℕ → List ℕ → List ℕ
added_to file q link more = put file q link ++ more

-- From an offset on, which isn't behind `at`, bytes begin with a part that has the byte at `at`, or
-- is all of them.
pub record HasPart (bytes part : List ℕ) (from at : ℕ) : Type 0 where
  pub before : from ≤ at
  pub rest : List ℕ
  pub is : drop from bytes ≡ part ++ rest
  pub here : (at < from + length part) ⊎ (rest ≡ [])
