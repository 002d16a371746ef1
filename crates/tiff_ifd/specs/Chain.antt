-- The chain of a file's directories: each directory links to the next one (TIFF 6.0 section 2).
-- This project defines where the chain ends.
use Rattle.std.specs.Prelude.{◌≡◌, ℕ, zero, suc, ◌<◌, List, [], ◌∷◌, ◌++◌, length, Option, None, Some, true, Result, Ok, Err, if◌then◌else◌, nat_eq}
use Rattle.std.specs.List.{list_any, IsDistinct}
use Rattle.tiff_base.specs.declared.error.TiffError.{TiffError}
use Rattle.tiff_base.specs.declared.error.TiffError.TheVariants.{FormatError}
use Rattle.tiff_base.specs.declared.error.TiffFormatError.TheVariants.{CycleInOffsets}
use Rattle.tiff_base.specs.declared.tags.ByteOrder.{ByteOrder}
use Rattle.tiff_base.specs.declared.tags.FileKind.{FileKind}
use Rattle.tiff_base.specs.Answers.{◌>>=◌}
use Rattle.tiff_base.specs.Directory.{count_width, directory_at, link, link_offset, offset_width}
use Rattle.tiff_base.specs.Number.{number_at}

-- the link of the directory at an offset
abbrev pub link_from : FileKind → ByteOrder → List ℕ → ℕ → Result (Option ℕ) TiffError
link_from kind order bytes at = do
  directory ← directory_at kind order bytes at
  Ok directory.next

-- the link of the directory at an offset, from its count and its link alone
abbrev pub link_of : FileKind → ByteOrder → List ℕ → ℕ → Result (Option ℕ) TiffError
link_of kind order bytes at = do
  count ← number_at order (count_width kind) bytes at
  next ← number_at order (offset_width kind) bytes (link_offset kind at count)
  Ok (link next)

-- a link, or `CycleInOffsets` where it is one of these offsets
abbrev pub unless_met : List ℕ → Option ℕ → Result (Option ℕ) TiffError
unless_met met None = Ok None
unless_met met (Some next) = if list_any (nat_eq next) met then Err (FormatError CycleInOffsets)
    else Ok (Some next)

module _ (link : ℕ → Result (Option ℕ) TiffError) where
  -- the link of the directory at an offset that is entered after these others, or the error: the
  -- directory is unreadable, or its link is this offset or one of the others
  abbrev pub enter_at : List ℕ → ℕ → Result (Option ℕ) TiffError
  enter_at met offset = link offset >>= unless_met (offset ∷ met)

  -- These offsets are entered one after another, from the next one on, after the offsets of `met`.
  abbrev pub AreEntered : List ℕ → Option ℕ → List ℕ → Type 0
  AreEntered met next [] = Unit {0}
  AreEntered met None (offset ∷ offsets) = ⊥
  AreEntered met (Some next) (offset ∷ offsets) = (offset ≡ next) × (after : Option ℕ)
      × (enter_at met next ≡ Ok after) × AreEntered (next ∷ met) after offsets

  -- The list of all offsets that are entered from the next one on, after the offsets of `met`, and
  -- the end of the chain: none at a link of 0, else the error of the directory that cannot be
  -- entered.
  abbrev pub IsChain : List ℕ → Option ℕ → List ℕ → Option TiffError → Type 0
  IsChain met None [] end = end ≡ None
  IsChain met None (offset ∷ offsets) end = ⊥
  IsChain met (Some next) [] end = (e : TiffError) × (enter_at met next ≡ Err e) × (end ≡ Some e)
  IsChain met (Some next) (offset ∷ offsets) end = (offset ≡ next) × (after : Option ℕ)
      × (enter_at met next ≡ Ok after) × IsChain (next ∷ met) after offsets end

-- the offsets of a chain, and its end: none at a link of 0, else the error of the directory that
-- cannot be entered
pub record Chain : Type 0 where
  pub offsets : List ℕ
  pub end : Option TiffError

-- a chain with one more offset at its front, or a chain that ends here with an error
abbrev pub onto : ℕ → Result (Option ℕ) TiffError → (Option ℕ → Chain) → Chain
onto offset (Ok after) rest =
    record { offsets = offset ∷ (rest after).offsets; end = (rest after).end }
onto offset (Err e) rest = record { offsets = []; end = Some e }

-- the chain from a next offset on, after the offsets of `met`, in at most `steps` steps
abbrev pub walk : (ℕ → Result (Option ℕ) TiffError) → ℕ → List ℕ → Option ℕ → Chain
walk link steps met None = record { offsets = []; end = None }
walk link zero met (Some next) =
    onto next (enter_at link met next) (λ _. record { offsets = []; end = None })
walk link (suc steps) met (Some next) =
    onto next (enter_at link met next) (walk link steps (next ∷ met))

-- the chain of a file from its first offset on; no chain has more offsets than the file has bytes
unfoldable pub chain : FileKind → ByteOrder → List ℕ → ℕ → Chain
chain kind order bytes first = walk (link_from kind order bytes) (length bytes) [] (Some first)

-- ---- its laws

-- the count and the link of a directory decide its link, and whether the directory is readable
abbrev pub IsLinkOfDirectory : Type 0
IsLinkOfDirectory = (kind : FileKind) (order : ByteOrder) (bytes : List ℕ) (at : ℕ)
    → link_of kind order bytes at ≡ link_from kind order bytes at

-- the result of `chain` is a chain
abbrev pub IsTheChain : Type 0
IsTheChain = (kind : FileKind) (order : ByteOrder) (bytes : List ℕ) (first : ℕ)
    → IsChain (link_from kind order bytes) [] (Some first) (chain kind order bytes first).offsets
    (chain kind order bytes first).end

-- a file has at most one chain from an offset
abbrev pub IsOneChain : Type 0
IsOneChain =
    (kind : FileKind) (order : ByteOrder) (bytes : List ℕ) (met : List ℕ) (next : Option ℕ)
    (ps qs : List ℕ) (e f : Option TiffError)
    → IsChain (link_from kind order bytes) met next ps e
    → IsChain (link_from kind order bytes) met next qs f → (ps ≡ qs) × (e ≡ f)

-- The longest list of offsets that is empty or begins with the first offset. Each offset of the
-- list has a readable directory, whose link is 0 or differs from this offset and all before it.
-- Each next offset is that link, which is not 0.
pub record IsLongest (kind : FileKind) (order : ByteOrder) (bytes : List ℕ) (first : ℕ)
    (offsets : List ℕ) : Type 0 where
  pub entered : AreEntered (link_from kind order bytes) [] (Some first) offsets
  pub longest : (others : List ℕ) → AreEntered (link_from kind order bytes) [] (Some first) others
      → (rest : List ℕ) × (offsets ≡ others ++ rest)

abbrev pub IsLongestChain : Type 0
IsLongestChain = (kind : FileKind) (order : ByteOrder) (bytes : List ℕ) (first : ℕ)
    → IsLongest kind order bytes first (chain kind order bytes first).offsets

-- The offsets differ, and each is below the number of bytes of the file.
pub record AreApart (bytes : List ℕ) (offsets : List ℕ) : Type 0 where
  pub differ : IsDistinct nat_eq offsets
  pub below : (offset : ℕ) → list_any (nat_eq offset) offsets ≡ true → offset < length bytes

abbrev pub IsChainApart : Type 0
IsChainApart = (kind : FileKind) (order : ByteOrder) (bytes : List ℕ) (first : ℕ)
    → AreApart bytes (chain kind order bytes first).offsets
