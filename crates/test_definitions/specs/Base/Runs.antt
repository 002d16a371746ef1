-- Worked examples of PackBits lists.
use Rattle.std.specs.Prelude.{◌≡◌, true, false, [], ◌∷◌, replicate}
use Rattle.tiff_base.specs.Blocks.{IsBlock, Literal, Repeated, Unpacks}
use Rattle.tiff_base.specs.Runs.{Plain, Broken, runs}

-- mistake: `with_front` loses the rest
-- mistake: `runs` leaves out the first byte
-- three runs and two literals (TIFF 6.0 section 9)
abbrev pub three_runs : Type 0
three_runs =
    runs false
    (0xfe ∷ 0xaa ∷ 0x02 ∷ 0x80 ∷ 0x00 ∷ 0x2a ∷ 0xfd ∷ 0xaa ∷ 0x03 ∷ 0x80 ∷ 0x00 ∷ 0x2a ∷ 0x22
    ∷ 0xf7
    ∷ 0xaa ∷ [])
    ≡ record {
      out = (0xaa ∷ 0xaa ∷ 0xaa ∷ 0x80 ∷ 0x00 ∷ 0x2a ∷ 0xaa ∷ 0xaa ∷ 0xaa ∷ 0xaa ∷ 0x80 ∷ 0x00
          ∷ 0x2a ∷ 0x22 ∷ 0xaa
          ∷ 0xaa ∷ 0xaa ∷ 0xaa ∷ 0xaa ∷ 0xaa ∷ 0xaa ∷ 0xaa ∷ 0xaa ∷ 0xaa ∷ []);
      end = Plain;
    }

-- an empty list unpacks to nothing
abbrev pub nothing : Type 0
nothing = runs false [] ≡ record { out = []; end = Plain }

-- mistake: `runs_after` takes 128 for a run
-- a header 128 unpacks to nothing
abbrev pub nothing_told : Type 0
nothing_told = runs false (0x80 ∷ []) ≡ record { out = []; end = Plain }

-- a header 128 between blocks is skipped
abbrev pub skipped : Type 0
skipped =
    runs false (0x00 ∷ 0x01 ∷ 0x80 ∷ 0x00 ∷ 0x02 ∷ [])
    ≡ record { out = (0x01 ∷ 0x02 ∷ []); end = Plain }

-- mistake: `with_repeated` ends such a list plainly
-- a run without its byte is broken
abbrev pub broken_run : Type 0
broken_run = runs false (0xfe ∷ []) ≡ record { out = []; end = Broken }

-- the bytes before a broken run are kept
abbrev pub broken_second : Type 0
broken_second =
    runs false (0xff ∷ 0x07 ∷ 0xfe ∷ []) ≡ record { out = (0x07 ∷ 0x07 ∷ []); end = Broken }

-- a literal of three bytes that the packed length cuts gives the bytes that are there
abbrev pub short_literal : Type 0
short_literal =
    runs false (0x02 ∷ 0xaa ∷ 0xbb ∷ []) ≡ record { out = (0xaa ∷ 0xbb ∷ []); end = Plain }

-- a literal that the end of the source cuts gives the bytes that are there
abbrev pub early_literal : Type 0
early_literal =
    runs true (0x02 ∷ 0xaa ∷ 0xbb ∷ []) ≡ record { out = (0xaa ∷ 0xbb ∷ []); end = Plain }

-- mistake: `runs_after` ends plainly where the source ends early
-- the source ends before a block, earlier than the packed length
abbrev pub early_end : Type 0
early_end = runs true (0x00 ∷ 0xaa ∷ []) ≡ record { out = (0xaa ∷ []); end = Broken }

-- mistake: `runs_after` repeats 256 less the header times
-- the shortest run and the longest one: 2 and 128 bytes
abbrev pub shortest_run : Type 0
shortest_run = runs false (0xff ∷ 0xaa ∷ []) ≡ record { out = (0xaa ∷ 0xaa ∷ []); end = Plain }

abbrev pub longest_run : Type 0
longest_run = runs false (0x81 ∷ 0x41 ∷ []) ≡ record { out = replicate 128 0x41; end = Plain }

-- ---- by blocks

-- mistake: `plain_block` counts all bytes in the header, not one fewer
-- mistake: `packed_block` repeats 256 less the header times
-- mistake: `packed_block` gives a repeated byte once
-- mistake: `Unpacks` allows blocks of any size
-- three blocks: a byte three times, nothing, and three literal bytes
abbrev pub three_blocks : Type 0
three_blocks =
    Unpacks (0xfe ∷ 0xaa ∷ 0x80 ∷ 0x02 ∷ 0x80 ∷ 0x00 ∷ 0x2a ∷ []) false
    (0xaa ∷ 0xaa ∷ 0xaa ∷ 0x80 ∷ 0x00 ∷ 0x2a ∷ []) Plain

-- mistake: `unpacked_end` breaks the list at a cut literal
-- mistake: `Unpacks` gives nothing for the rest
-- a literal with two of its four bytes has a plain end, even if the source ends early
abbrev pub short_block : Type 0
short_block = Unpacks (0x03 ∷ 0x01 ∷ 0x02 ∷ []) true (0x01 ∷ 0x02 ∷ []) Plain

-- mistake: `IsRest` refuses a literal of which no byte is there
-- a literal with none of its bytes has a plain end
abbrev pub bare_block : Type 0
bare_block = Unpacks (0x00 ∷ []) false [] Plain

-- mistake: `rest_bytes` repeats 256 less the header times
-- runs of 128 bytes and of two bytes without their byte
abbrev pub headless_128 : Type 0
headless_128 = Unpacks (0x81 ∷ []) false [] Broken

abbrev pub headless_2 : Type 0
headless_2 = Unpacks (0xff ∷ []) true [] Broken

-- mistake: `unpacked_end` ends plainly where the source ends early
-- no bytes, with and without an early end of the source
abbrev pub empty_early : Type 0
empty_early = Unpacks [] true [] Broken

abbrev pub empty_whole : Type 0
empty_whole = Unpacks [] false [] Plain

-- mistake: `IsBlock` allows 129 times
-- mistake: `IsBlock` allows a byte repeated once
-- mistake: `IsBlock` allows a literal of no bytes
-- no block is a run of 1 byte or of 129 bytes, or an empty literal
abbrev pub no_block : Type 0
no_block = (IsBlock (Repeated 1 7) → ⊥) × (IsBlock (Repeated 129 7) → ⊥)
    × (IsBlock (Literal []) → ⊥)
