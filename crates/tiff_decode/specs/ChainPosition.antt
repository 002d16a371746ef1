-- The position of a decoder in the chain of its file's directories (this project's).
use Rattle.std.specs.Prelude.{◌≡◌, ℕ, ◌+◌, List, Option, None, Some}
use Rattle.std.specs.List.{slice_get}
use Rattle.tiff_base.specs.declared.tags.ByteOrder.{ByteOrder}
use Rattle.tiff_base.specs.declared.tags.FileKind.{FileKind}
use Rattle.tiff_base.specs.declared.tags.IfdPointer.{IfdPointer}
use Rattle.tiff_ifd.specs.IfdChainWalk.{Walked, ChainBegins}

-- the pointer is the offset of this index; without a pointer, a decoder is before the first offset,
-- or past the end
abbrev pub IsAt : List ℕ → Option IfdPointer → ℕ → Type 0
IsAt offsets (Some pointer) at = slice_get offsets at ≡ Some pointer.0
IsAt offsets None at = Unit {0}

-- the index that follows the pointer of this index
abbrev pub index_behind : Option IfdPointer → ℕ → ℕ
index_behind (Some pointer) at = at + 1
index_behind None at = 0

-- The entered offsets are a beginning of the file's chain, and the pointer is one of them.
pub record IsInChain (kind : FileKind) (order : ByteOrder) (bytes : List ℕ) (first : ℕ)
    (walk : Walked) (pointer : Option IfdPointer) (at : ℕ) : Type 0 where
  pub begins : ChainBegins kind order bytes first walk
  pub stands : IsAt walk.offsets pointer at
