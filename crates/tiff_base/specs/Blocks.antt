-- PackBits by its blocks, as a relation between whole lists (TIFF 6.0 section 9).
use Rattle.std.specs.Prelude.{◌≡◌, ℕ, ◌-◌, ◌≤◌, ◌<◌, Bool, if◌then◌else◌, List, [], ◌∷◌, ◌++◌, length, replicate, flat_map}
use Rattle.tiff_base.specs.Runs.{End, Plain, Broken, Unpacked, runs}

-- a block of a packed list: one that encodes nothing, one with literal bytes, or one with a byte
-- repeated n times
pub data Block : Type 0 where
  Nothing : Block
  Literal : List ℕ → Block
  Repeated : ℕ → ℕ → Block

-- a literal has 1 to 128 bytes, and a byte is repeated 2 to 128 times
abbrev pub IsBlock : Block → Type 0
IsBlock Nothing = Unit {0}
IsBlock (Literal bytes) = (0 < length bytes) × (length bytes ≤ 128)
IsBlock (Repeated n value) = (1 < n) × (n ≤ 128)

-- the packed bytes of a block: the header 128 alone; the number of literal bytes minus 1, and these
-- bytes; 257 minus the number of repetitions, and the repeated byte
abbrev pub packed_block : Block → List ℕ
packed_block Nothing = 128 ∷ []
packed_block (Literal bytes) = (length bytes - 1) ∷ bytes
packed_block (Repeated n value) = (257 - n) ∷ value ∷ []

-- the unpacked bytes that a block encodes
abbrev pub plain_block : Block → List ℕ
plain_block Nothing = []
plain_block (Literal bytes) = bytes
plain_block (Repeated n value) = replicate n value

-- what follows the last whole block: nothing; a literal that is cut short; a header without its
-- byte
pub data Rest : Type 0 where
  Empty : Rest
  Short : ℕ → List ℕ → Rest
  Headless : ℕ → Rest

abbrev pub IsRest : Rest → Type 0
IsRest Empty = Unit {0}
IsRest (Short header bytes) = (header < 128) × (length bytes ≤ header)
IsRest (Headless n) = (1 < n) × (n ≤ 128)

abbrev pub rest_bytes : Rest → List ℕ
rest_bytes Empty = []
rest_bytes (Short header bytes) = header ∷ bytes
rest_bytes (Headless n) = (257 - n) ∷ []

-- what the rest after the blocks encodes, and how the list ends there. With no rest, the list ends
-- plainly, or broken if the source ends before the packed bytes do. A literal that is cut short
-- ends plainly. A header without its byte is a broken end.
abbrev pub unpacked_end : Bool → Rest → Unpacked
unpacked_end early Empty = record { out = []; end = if early then Broken else Plain }
unpacked_end early (Short header bytes) = record { out = bytes; end = Plain }
unpacked_end early (Headless n) = record { out = []; end = Broken }

-- each member of the list is a valid block
abbrev pub AreBlocks : List Block → Type 0
AreBlocks [] = Unit {0}
AreBlocks (block ∷ blocks) = IsBlock block × AreBlocks blocks

-- A list is blocks and a rest, and unpacks to what these encode.
pub record Unpacks (bytes : List ℕ) (early : Bool) (out : List ℕ) (end : End) : Type 0 where
  pub blocks : List Block
  pub are_blocks : AreBlocks blocks
  pub rest : Rest
  pub is_rest : IsRest rest
  pub list : bytes ≡ flat_map packed_block blocks ++ rest_bytes rest
  pub gives : out ≡ flat_map plain_block blocks ++ (unpacked_end early rest).out
  pub ends : end ≡ (unpacked_end early rest).end

-- each number of the list is below 256
abbrev pub AreBytes : List ℕ → Type 0
AreBytes [] = Unit {0}
AreBytes (byte ∷ bytes) = (byte < 256) × AreBytes bytes

-- ---- its laws

-- each list of bytes unpacks to what `runs` says
abbrev pub IsUnpacked : Type 0
IsUnpacked = (bytes : List ℕ) (early : Bool) → AreBytes bytes
    → Unpacks bytes early (runs early bytes).out (runs early bytes).end

-- each list of bytes unpacks to nothing else than what `runs` says
abbrev pub IsOneUnpacked : Type 0
IsOneUnpacked = (bytes : List ℕ) (early : Bool) (out : List ℕ) (end : End)
    → Unpacks bytes early out end → runs early bytes ≡ record { out = out; end = end }
