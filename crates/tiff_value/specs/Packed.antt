-- What a writer may write for bytes, packed by PackBits or as they are (TIFF 6.0 section 9).
use Rattle.std.specs.Prelude.{◌≡◌, ℕ, ◌+◌, ◌*◌, ◌/◌, ◌<◌, ◌≤◌, Bool, true, false, not, ◌&&◌, ◌||◌, ◌==◌, List, [], ◌∷◌, length, Option, Some, None}
use Rattle.std.specs.List.{flat_map, list_all, concat, AllZip}
use Rattle.tiff_base.specs.declared.error.TiffError.{TiffError}
use Rattle.tiff_base.specs.declared.error.TiffError.TheVariants.{IoError}
use Rattle.tiff_base.specs.declared.io.IoKind.TheVariants.{WriteZero}
use Rattle.tiff_base.specs.declared.tags.CompressionMethod.{CompressionMethod}
use Rattle.tiff_base.specs.declared.tags.CompressionMethod.TheVariants as method
use Rattle.tiff_base.specs.Blocks.{Block, Nothing, Literal, Repeated, AreBlocks, packed_block, plain_block}
use Rattle.tiff_base.specs.Runs.{Plain, runs}

abbrev pub begins_with_two : List ℕ → Bool
begins_with_two [] = false
begins_with_two (a ∷ []) = false
begins_with_two (a ∷ b ∷ bytes) = a == b

abbrev pub holds_three : List ℕ → Bool
holds_three [] = false
holds_three (a ∷ bytes) =
    (begins_with_two (a ∷ bytes) && begins_with_two bytes) || holds_three bytes

-- a literal that does not begin with two equal bytes, and does not contain three equal bytes in a
-- row
abbrev pub is_sparing : List ℕ → Bool
is_sparing literal = not (begins_with_two literal) && not (holds_three literal)

-- the largest number of bytes that n bytes are packed to: one more for each 128 bytes or part of
-- 128
abbrev pub packed_bound : ℕ → ℕ
packed_bound n = n + (n + 127) / 128

-- a block that may be written: neither a block that encodes nothing, nor a literal that isn't
-- sparing
abbrev pub may_be_written : Block → Bool
may_be_written Nothing = false
may_be_written (Literal bytes) = is_sparing bytes
may_be_written (Repeated n value) = true

-- The list is whole blocks that may be written, and these encode the bytes.
pub record Packs (list bytes : List ℕ) : Type 0 where
  pub blocks : List Block
  pub are_blocks : AreBlocks blocks
  pub written : list_all may_be_written blocks ≡ true
  pub is_list : list ≡ flat_map packed_block blocks
  pub stands : bytes ≡ flat_map plain_block blocks

-- The packed list may be written for these bytes: it consists of blocks that may be written, and is
-- at most one byte longer than the bytes for each 128 bytes or part of 128.
pub record IsPacked (bytes list : List ℕ) : Type 0 where
  pub packs : Packs list bytes
  pub bound : length list ≤ packed_bound (length bytes)

-- Whole rows of `row` bytes each, packed one by one: "Pack each row separately. Do not compress
-- across row boundaries." The bytes are the rows, one after another, and the list is the packed
-- list of each row, one after another.
pub record ArePackedRows (row : ℕ) (bytes list : List ℕ) : Type 0 where
  pub rows : List (List ℕ)
  pub lists : List (List ℕ)
  pub packed : AllZip (λ one packed. (length one ≡ row) × IsPacked one packed) rows lists
  pub are_rows : bytes ≡ concat rows
  pub is_list : list ≡ concat lists

-- The stored form of bytes by a method: the bytes themselves, or a packed list of them. No other
-- method stores bytes.
abbrev pub IsStored : CompressionMethod → List ℕ → List ℕ → Type 0
IsStored method.None stored bytes = stored ≡ bytes
IsStored method.PackBits stored bytes = IsPacked bytes stored
IsStored method stored bytes = ⊥

-- the error if bytes can't be stored: the method packs bytes and there are none
abbrev pub store_fault : CompressionMethod → List ℕ → Option TiffError
store_fault method.PackBits [] = Some (IoError WriteZero)
store_fault method bytes = None

-- ---- its laws

-- a packed list unpacks to the bytes that it is packed from, and ends at the end of a block
abbrev pub PackedUnpacks : Type 0
PackedUnpacks = (bytes list : List ℕ) → IsPacked bytes list
    → runs false list ≡ record { out = bytes; end = Plain }

-- rows packed one by one unpack to the bytes that they are packed from, and end at the end of a
-- block
abbrev pub PackedRowsUnpack : Type 0
PackedRowsUnpack = (row : ℕ) (bytes list : List ℕ) → ArePackedRows row bytes list
    → runs false list ≡ record { out = bytes; end = Plain }

-- rows packed one by one are at most as long as each row's largest number of packed bytes, together
abbrev pub PackedRowsFit : Type 0
PackedRowsFit = (row : ℕ) (bytes list : List ℕ) → 0 < row → ArePackedRows row bytes list
    → length list ≤ length bytes / row * packed_bound row
