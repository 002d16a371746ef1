-- Worked examples of reads of packed bytes in pieces.
use Rattle.std.specs.Prelude.{◌≡◌, ℕ, List, [], ◌∷◌, None, Ok, Err, false}
use Rattle.tiff_base.specs.declared.error.TiffError.{TiffError}
use Rattle.tiff_base.specs.declared.error.TiffError.TheVariants.{IoError, OutOfMemory}
use Rattle.tiff_base.specs.declared.io.IoKind.TheVariants.{Device, UnexpectedEof}
use Rattle.tiff_base.specs.Runs.{End, Plain, Broken, Unpacked}
use Rattle.tiff_ifd.specs.declared.packbits.Block.TheVariants.{Literal, Run}
use Rattle.tiff_ifd.specs.Unpacking.{Unpacking, unpacked_at, left_in, IsLastPart, GivesNext, PieceReads, Fills}

abbrev pub gives : List ℕ → End → Unpacked
gives out end = record { out = out; end = end }

-- mistake: `unpacked_at` reads from the front
-- a run after another byte
abbrev pub at_offset : Type 0
at_offset = unpacked_at (0x09 ∷ 0xfe ∷ 0x07 ∷ []) 1 2 ≡ gives (0x07 ∷ 0x07 ∷ 0x07 ∷ []) Plain

-- mistake: `unpacked_at` reads to the end of the source
-- no more than this number of packed bytes
abbrev pub of_length : Type 0
of_length = unpacked_at (0x00 ∷ 0x41 ∷ 0x00 ∷ 0x42 ∷ []) 0 2 ≡ gives (0x41 ∷ []) Plain

-- mistake: `unpacked_at` ends plainly where the source ends early
-- the source ends before the packed length, and nothing past its end is asked for
abbrev pub past_end : Type 0
past_end = unpacked_at (0x00 ∷ 0x41 ∷ []) 0 3 ≡ gives (0x41 ∷ []) Broken

-- mistake: `unpacked_at` breaks where no bytes past the end are asked for
abbrev pub none_past_end : Type 0
none_past_end = unpacked_at (0x00 ∷ []) 5 0 ≡ gives [] Plain

-- mistake: `left_in` takes the block's rest for a header
-- unpacking goes on within a literal, and within a run
abbrev pub in_literal : Type 0
in_literal =
    left_in (Literal 2) false (0x01 ∷ 0x02 ∷ 0xff ∷ 0x07 ∷ [])
    ≡ gives (0x01 ∷ 0x02 ∷ 0x07 ∷ 0x07 ∷ []) Plain

-- mistake: `left_in` gives one byte less of the run
abbrev pub in_run : Type 0
in_run = left_in (Run 0x07 2) false (0x00 ∷ 0x41 ∷ []) ≡ gives (0x07 ∷ 0x07 ∷ 0x41 ∷ []) Plain

-- the last three of seven packed bytes at 5 are the last part
abbrev pub last_of_packed : Type 0
last_of_packed = IsLastPart 5 7 (record { block = Literal 0; at = 9; len = 3 })

-- mistake: `IsLastPart` allows an earlier end (`last_of_packed` fails too)
-- two bytes at 9 aren't the last part of seven packed bytes at 5
abbrev pub not_the_last : Type 0
not_the_last = IsLastPart 5 7 (record { block = Literal 0; at = 9; len = 2 }) → ⊥

-- ---- a piece

-- the unpacked bytes that are left: three, or none
abbrev pub some : Unpacked
some = gives (0x01 ∷ 0x02 ∷ 0x03 ∷ []) Plain

-- a read gives two bytes, or one, and leaves the rest
abbrev pub two_read : Type 0
two_read = GivesNext some (0x09 ∷ 0x09 ∷ []) 2 (0x01 ∷ 0x02 ∷ []) (gives (0x03 ∷ []) Plain)

abbrev pub one_read : Type 0
one_read = GivesNext some (0x09 ∷ 0x09 ∷ []) 1 (0x01 ∷ 0x09 ∷ []) (gives (0x02 ∷ 0x03 ∷ []) Plain)

-- mistake: `GivesNext` allows that bytes of the buffer behind those that were read are changed
abbrev pub one_spills : Type 0
one_spills = GivesNext some (0x09 ∷ 0x09 ∷ []) 1 (0x01 ∷ 0x00 ∷ []) (gives (0x02 ∷ 0x03 ∷ []) Plain)
    → ⊥

-- mistake: `GivesNext` passes over a byte, or gives it again (`one_again` fails too)
-- a read doesn't skip a byte, and doesn't repeat one
abbrev pub one_passed : Type 0
one_passed = GivesNext some (0x09 ∷ []) 1 (0x01 ∷ []) (gives (0x03 ∷ []) Plain) → ⊥

abbrev pub one_again : Type 0
one_again = GivesNext some (0x09 ∷ []) 1 (0x01 ∷ []) some → ⊥

-- mistake: `GivesNext` exchanges the end
-- a read doesn't change the kind of end
abbrev pub end_turned : Type 0
end_turned = GivesNext some (0x09 ∷ []) 1 (0x01 ∷ []) (gives (0x02 ∷ 0x03 ∷ []) Broken) → ⊥

-- mistake: `GivesNext` reads none while there are bytes
-- a read gives at least one byte while there are some, except into an empty buffer
abbrev pub none_read : Type 0
none_read = GivesNext some (0x09 ∷ []) 0 (0x09 ∷ []) some → ⊥

-- mistake: `GivesNext` takes a byte for an empty buffer
abbrev pub empty_read : Type 0
empty_read = GivesNext some [] 0 [] some

-- a read gives no bytes at a plain end, but not at a broken one
abbrev pub plain_read : Type 0
plain_read = GivesNext (gives [] Plain) (0x09 ∷ []) 0 (0x09 ∷ []) (gives [] Plain)

-- mistake: `nothing_left` has the other end
-- mistake: `GivesNext` returns 0 at a broken end
abbrev pub broken_read : Type 0
broken_read = GivesNext (gives [] Broken) (0x09 ∷ []) 0 (0x09 ∷ []) (gives [] Broken) → ⊥

-- ---- errors

abbrev pub left : Unpacked → ℕ → Unpacking
left rest failures = record {
  contents = record { bytes = []; readable = None };
  failures = failures;
  at = 0;
  len = 0;
  rest = rest;
}

-- a refused read into a buffer of one byte, which then contains any byte
abbrev pub Refused : Unpacked → Unpacked → ℕ → TiffError → Type 0
Refused before after failures e =
    PieceReads (Err e) (left before 0) (left after failures) (0x09 ∷ []) (0x00 ∷ [])

-- a broken end is an error, and stays one
abbrev pub broken_told : Type 0
broken_told = Refused (gives [] Broken) (gives [] Broken) 0 (IoError UnexpectedEof)

-- mistake: `IsBroken` refuses an empty buffer too
-- a broken end isn't an error for an empty buffer; there is no such error at a plain end, or while
-- there are bytes
abbrev pub broken_empty : Type 0
broken_empty =
    PieceReads (Err (IoError UnexpectedEof)) (left (gives [] Broken) 0) (left (gives [] Broken) 0)
    [] [] → ⊥

-- mistake: `IsBroken` refuses at a plain end
abbrev pub plain_told : Type 0
plain_told = Refused (gives [] Plain) (gives [] Plain) 0 (IoError UnexpectedEof) → ⊥

-- mistake: `IsBroken` refuses while there are bytes
abbrev pub told_early : Type 0
told_early = Refused (gives (0x01 ∷ []) Broken) (gives (0x01 ∷ []) Broken) 0 (IoError UnexpectedEof)
    → ⊥

-- a device error, with a failed read and without one; it loses no byte, and a read allocates
-- nothing
abbrev pub device_told : Type 0
device_told = Refused some some 1 (IoError Device)

-- mistake: `PieceReads` allows a device error without a failed read
abbrev pub device_untold : Type 0
device_untold = Refused some some 0 (IoError Device) → ⊥

-- mistake: `PieceReads` loses a byte at a refused read
abbrev pub device_loses : Type 0
device_loses = Refused some (gives (0x02 ∷ 0x03 ∷ []) Plain) 1 (IoError Device) → ⊥

-- mistake: `PieceReads` allows out of memory
abbrev pub memory_told : Type 0
memory_told = Refused some some 0 OutOfMemory → ⊥

-- ---- whole rows

-- a row of two bytes is filled
abbrev pub row_filled : Type 0
row_filled =
    Fills {X = ℕ} (Ok 0) (left some 0) (left (gives (0x03 ∷ []) Plain) 0) (0x01 ∷ 0x02 ∷ [])

-- three bytes don't fill a row of four and stay to be read; they fill a row of three
abbrev pub row_short : Type 0
row_short =
    Fills {X = ℕ} (Err (IoError UnexpectedEof)) (left some 0) (left some 0)
    (0x01 ∷ 0x02 ∷ 0x03 ∷ 0x00 ∷ [])

-- mistake: `Fills` loses bytes at a refused read
abbrev pub row_short_loses : Type 0
row_short_loses =
    Fills {X = ℕ} (Err (IoError UnexpectedEof)) (left some 0) (left (gives [] Plain) 0)
    (0x01 ∷ 0x02 ∷ 0x03 ∷ 0x00 ∷ []) → ⊥

-- mistake: `Fills` refuses if just enough bytes are left
abbrev pub row_enough : Type 0
row_enough =
    Fills {X = ℕ} (Err (IoError UnexpectedEof)) (left some 0) (left some 0)
    (0x01 ∷ 0x02 ∷ 0x03 ∷ []) → ⊥
