-- How far a decoder has entered the chain of a file's directories (this project's).
use Rattle.std.specs.Prelude.{◌≡◌, ℕ, ◌≤◌, List, [], ◌∷◌, ◌++◌, length, reverse, Option, None, Some, Bool, true, false, Result, Ok, Err}
use Rattle.std.specs.List.{last_or}
use Rattle.tiff_base.specs.declared.error.TiffError.{TiffError}
use Rattle.tiff_base.specs.declared.tags.ByteOrder.{ByteOrder}
use Rattle.tiff_base.specs.declared.tags.FileKind.{FileKind}
use Rattle.tiff_base.specs.Field.{DirectoryRecord}
use Rattle.tiff_base.specs.Directory.{directory_at}
use Rattle.tiff_base.specs.SourceAndSink.{SourceRecord}
use Rattle.tiff_ifd.specs.Chain.{link_from, enter_at, IsChain, chain}
use Rattle.tiff_ifd.specs.Stretches.{DirectoryReadable, LinkReadable}

-- the offsets that were entered one after another, and the link of the last one; before any offset
-- is entered, `next` is the first offset
pub record Walked : Type 0 where
  pub offsets : List ℕ
  pub next : Option ℕ

module _ (kind : FileKind) (order : ByteOrder) (bytes : List ℕ) where
  -- The walk enters its next offset, where the file contains this directory.
  pub record Enters (before : Walked) (directory : DirectoryRecord) (after : Walked) : Type 0 where
    pub offset : ℕ
    pub next : before.next ≡ Some offset
    pub read : directory_at kind order bytes offset ≡ Ok directory
    pub entered : enter_at (link_from kind order bytes) (reverse before.offsets) offset
        ≡ Ok directory.next
    pub walked : after ≡ record { offsets = before.offsets ++ offset ∷ []; next = directory.next }

  -- The walk cannot enter its next offset, because of this error.
  pub record NextIsRefused (before : Walked) (fault : TiffError) : Type 0 where
    pub offset : ℕ
    pub next : before.next ≡ Some offset
    pub refused : enter_at (link_from kind order bytes) (reverse before.offsets) offset ≡ Err fault

  -- The result of a step, and the walk after it: the directory that was entered, none where there
  -- is no next offset, or the error of the next offset.
  abbrev pub WalkSteps : Walked → Result (Option DirectoryRecord) TiffError → Walked → Type 0
  WalkSteps before (Ok (Some directory)) after = Enters before directory after
  WalkSteps before (Ok None) after = (before.next ≡ None) × (after ≡ before)
  WalkSteps before (Err e) after = NextIsRefused before e × (after ≡ before)

  -- The walk after a step that skips the directory: it has entered the next offset, or there is no
  -- next offset.
  abbrev pub StepsOver : Walked → Bool → Walked → Type 0
  StepsOver before true after = (directory : DirectoryRecord) × Enters before directory after
  StepsOver before false after = (before.next ≡ None) × (after ≡ before)

  module _ (first : ℕ) where
    -- The link of the last entered offset; before any offset is entered, the first offset.
    abbrev pub link_behind : Option ℕ → Result (Option ℕ) TiffError
    link_behind None = Ok (Some first)
    link_behind (Some offset) = link_from kind order bytes offset

    -- The chain from `first` begins with the offsets of the walk, and continues from its next
    -- offset.
    pub record ChainBegins (walk : Walked) : Type 0 where
      pub linked : link_behind (last_or None walk.offsets) ≡ Ok walk.next
      pub rest : List ℕ
      pub offsets : (chain kind order bytes first).offsets ≡ walk.offsets ++ rest
      pub goes_on : IsChain (link_from kind order bytes) (reverse walk.offsets) walk.next rest
          (chain kind order bytes first).end

    -- The chain has exactly the offsets of the walk, and this end.
    abbrev pub ChainEnds : Walked → Option TiffError → Type 0
    ChainEnds walk end = chain kind order bytes first ≡ record { offsets = walk.offsets; end = end }

-- The source can read the whole next directory of a walk, if there is one.
pub record NextReadable (source : SourceRecord) (kind : FileKind) (order : ByteOrder)
    (walk : Walked) : Type 0 where
  pub directory : (at : ℕ) → walk.next ≡ Some at → DirectoryReadable source kind order at

-- The source can read the entry count and the link of the next directory of a walk, if there is
-- one.
pub record NextLinkReadable (source : SourceRecord) (kind : FileKind) (order : ByteOrder)
    (walk : Walked) : Type 0 where
  pub link : (at : ℕ) → walk.next ≡ Some at → LinkReadable source kind order at

-- The source can read the entry count and the link of each directory that a walk along the chain
-- enters after at most `index` others.
pub record WayReadable (source : SourceRecord) (kind : FileKind) (order : ByteOrder) (first : ℕ)
    (index : ℕ) : Type 0 where
  pub link : (walk : Walked) → ChainBegins kind order source.bytes first walk
      → length walk.offsets ≤ index
      → NextLinkReadable source kind order walk
