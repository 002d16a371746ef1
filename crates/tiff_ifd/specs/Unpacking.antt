-- A reader of packed bytes, and the bytes that it reads (TIFF 6.0 section 9).
use Rattle.std.specs.Prelude.{◌≡◌, ℕ, ◌+◌, ◌-◌, ◌≤◌, ◌<◌, Bool, nat_lt, List, [], ◌++◌, length, take, drop, replicate, slice_index, Option, Some, None, Result, Ok, Err}
use Rattle.tiff_base.specs.declared.error.TiffError.{TiffError}
use Rattle.tiff_base.specs.declared.error.TiffError.TheVariants.{IoError}
use Rattle.tiff_base.specs.declared.io.IoKind.TheVariants.{UnexpectedEof}
use Rattle.tiff_base.specs.Answers.{IsCause}
use Rattle.tiff_base.specs.Runs.{End, Plain, Broken, Unpacked, with_front, runs, runs_after}
use Rattle.tiff_base.specs.SourceAndSink.{AreReadable, SourceRecord, bytes_at}
use Rattle.tiff_ifd.specs.declared.packbits.Block.{Block}
use Rattle.tiff_ifd.specs.declared.packbits.Block.TheVariants.{Literal, Run}
use Rattle.tiff_ifd.specs.declared.packbits.PackBitsCursor.{PackBitsCursor}

-- what the source contains, the number of failed reads so far, the offset and the number of the
-- packed bytes that are left, and the unpacked bytes that are left
pub record Unpacking : Type 0 where
  pub contents : SourceRecord
  pub failures : ℕ
  pub at : ℕ
  pub len : ℕ
  pub rest : Unpacked

-- the bytes that `len` packed bytes at an offset unpack to; the source may end before the last of
-- them
abbrev pub unpacked_at : List ℕ → ℕ → ℕ → Unpacked
unpacked_at bytes at len = runs (nat_lt (length bytes - at) len) (bytes_at bytes at len)

-- no bytes are left
abbrev pub nothing_left : End → Unpacked
nothing_left end = record { out = []; end = end }

-- The front of the buffer `new` has the next n bytes, and the rest of it is as in `old`. n is at
-- least one while bytes are left, but 0 for an empty buffer.
pub record GivesNext (left : Unpacked) (old : List ℕ) (n : ℕ) (new : List ℕ) (rest : Unpacked)
    : Type 0 where
  pub in_buffer : n ≤ length old
  pub next : left ≡ with_front (take n new) rest
  pub behind : drop n new ≡ drop n old
  pub none : 0 < length old → n ≡ 0 → left ≡ nothing_left Plain

-- no bytes are left, the packed bytes end in the middle of a block, and the call asks for a byte
pub record IsBroken (left : Unpacked) (wanted : ℕ) (e : TiffError) : Type 0 where
  pub fault : e ≡ IoError UnexpectedEof
  pub broken : left ≡ nothing_left Broken
  pub some : 0 < wanted

-- A read into a buffer, given before and after the read. An error leaves all bytes to be read.
abbrev pub PieceReads : Result ℕ TiffError → Unpacking → Unpacking → List ℕ → List ℕ → Type 0
PieceReads (Ok n) old new with_front after = GivesNext old.rest with_front n after new.rest
PieceReads (Err e) old new with_front after = (new.rest ≡ old.rest)
    × IsCause ⊥ (old.failures < new.failures) e (IsBroken old.rest (length with_front) e)

-- fewer bytes are left than the call asks for
pub record HasTooFew (left : Unpacked) (wanted : ℕ) (e : TiffError) : Type 0 where
  pub fault : e ≡ IoError UnexpectedEof
  pub short : length left.out < wanted

-- A read fills the buffer with the next bytes, or fewer bytes are left.
abbrev pub Fills : {X : Type 0} → Result X TiffError → Unpacking → Unpacking → List ℕ → Type 0
Fills (Ok x) old new filled = old.rest ≡ with_front filled new.rest
Fills (Err e) old new filled = (new.rest ≡ old.rest)
    × IsCause ⊥ (old.failures < new.failures) e (HasTooFew old.rest (length filled) e)

-- ---- the position of a reader

-- the bytes that packed bytes unpack to behind a block, with the rest of that block
abbrev pub left_in : Block → Bool → List ℕ → Unpacked
left_in (Literal n) early packed = with_front (take n packed) (runs_after n early packed)
left_in (Run value n) early packed = with_front (replicate n value) (runs early packed)

abbrev pub left_at : List ℕ → PackBitsCursor → Unpacked
left_at bytes offset =
    left_in offset.block (nat_lt (length bytes - offset.at) offset.len)
    (bytes_at bytes offset.at offset.len)

-- the state of a reader, from its source and its position
abbrev pub unpacking : {S : Type 0} → (S → SourceRecord) → (S → ℕ) → S → PackBitsCursor → Unpacking
unpacking contents_of failures_of source offset =
    record {
      contents = contents_of source;
      failures = failures_of source;
      at = offset.at;
      len = offset.len;
      rest = left_at (contents_of source).bytes offset;
    }

-- the source can read the packed bytes behind a position
abbrev pub PackedReadable : SourceRecord → PackBitsCursor → Type 0
PackedReadable source offset = AreReadable source offset.at offset.len

-- The packed bytes behind a position are the last ones of the `len` bytes from an offset on.
pub record IsLastPart (at len : ℕ) (rest : PackBitsCursor) : Type 0 where
  pub start : at ≤ rest.at
  pub end : rest.at + rest.len ≡ at + len

-- where a position is found, its packed bytes are the last ones of the `len` bytes from an offset
-- on
abbrev pub FindsLastPart : ℕ → ℕ → Result (Option PackBitsCursor) TiffError → Type 0
FindsLastPart at len (Ok (Some rest)) = IsLastPart at len rest
FindsLastPart at len (Ok None) = Unit {0}
FindsLastPart at len (Err e) = Unit {0}

-- the number of bytes left of a block
abbrev pub count_of : Block → ℕ
count_of (Literal n) = n
count_of (Run value n) = n

-- a read of the byte at an offset, or the error where the source ends before it
abbrev pub ReadsByte : List ℕ → ℕ → Type 0 → Result ℕ TiffError → Type 0
ReadsByte bytes at failed (Ok byte) = (at < length bytes) × (byte ≡ slice_index bytes at)
ReadsByte bytes at failed (Err e) =
    IsCause ⊥ failed e ((e ≡ IoError UnexpectedEof) × (length bytes ≤ at))

-- the position of the next block that has bytes left, or none
abbrev pub Finds : List ℕ → Unpacked → Type 0 → Result (Option PackBitsCursor) TiffError → Type 0
Finds bytes left failed (Ok (Some offset)) = (0 < count_of offset.block)
    × (left ≡ left_at bytes offset)
Finds bytes left failed (Ok None) = left ≡ nothing_left Plain
Finds bytes left failed (Err e) = IsCause ⊥ failed e (IsBroken left 1 e)

-- a read of bytes of a block into a buffer
abbrev pub ReadsBlock : List ℕ → PackBitsCursor → Type 0 → List ℕ → List ℕ
    → Result (ℕ × PackBitsCursor) TiffError → Type 0
ReadsBlock bytes offset failed old new (Ok r) =
    GivesNext (left_at bytes offset) old r.0 new (left_at bytes r.1)
ReadsBlock bytes offset failed old new (Err e) = IsCause ⊥ failed e ⊥

-- The first `used` packed bytes unpack to the first n bytes of the buffer `new`, and the rest of it
-- is as in `old`, whatever bytes follow the packed ones.
pub record UnpacksFront (packed old : List ℕ) (used n : ℕ) (new : List ℕ) : Type 0 where
  pub in_packed : used ≤ length packed
  pub in_buffer : n ≤ length old
  pub next : (early : Bool) (rest : List ℕ)
      → runs early (packed ++ rest) ≡ with_front (take n new)
      (runs early (drop used packed ++ rest))
  pub behind : drop n new ≡ drop n old
