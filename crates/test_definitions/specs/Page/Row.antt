-- Worked examples of the numbers of a row after the predictor is undone.
use Rattle.std.specs.Prelude.{◌≡◌, ℕ, List, [], ◌∷◌}
use Rattle.tiff_base.specs.declared.tags.ByteOrder.TheVariants.{LittleEndian, BigEndian}
use Rattle.tiff_page.specs.Pixels.{row_number, summed_number, summed_byte, joined_number}
use Rattle.tiff_page.specs.Row.{RowReplaced, SwapsBytes}

-- mistake: `row_number` takes the first one
-- the second 2-byte number, in either byte order
abbrev pub little_second : Type 0
little_second = row_number LittleEndian 2 (0x01 ∷ 0x02 ∷ 0x03 ∷ 0x04 ∷ []) 1 ≡ 0x0403

abbrev pub big_second : Type 0
big_second = row_number BigEndian 2 (0x01 ∷ 0x02 ∷ 0x03 ∷ 0x04 ∷ []) 1 ≡ 0x0304

abbrev pub eight_bytes : Type 0
eight_bytes = row_number BigEndian 8 (0x00 ∷ 0x00 ∷ 0x00 ∷ 0x00 ∷ 0x00 ∷ 0x00 ∷ 0x01 ∷ 0x02 ∷ []) 0
    ≡ 0x0102

-- three pixels of two samples: each sample is added up alone, modulo 256
abbrev pub pixels : List ℕ
pixels = 0x01 ∷ 0x10 ∷ 0x02 ∷ 0x20 ∷ 0xff ∷ 0x40 ∷ []

abbrev pub first_stays : Type 0
first_stays = summed_number LittleEndian 1 2 pixels 1 ≡ 0x10

-- mistake: `summed_number` adds the other samples too
abbrev pub second_summed : Type 0
second_summed = summed_number LittleEndian 1 2 pixels 3 ≡ 0x30

-- mistake: `summed_number` doesn't cut the sum to its width (`difference_sample` of `Page/Pixels`
--   fails too)
abbrev pub third_wraps : Type 0
third_wraps = summed_number LittleEndian 1 2 pixels 4 ≡ 0x02

-- mistake: `summed_number` adds byte by byte
-- a sum of 2-byte numbers carries over to the next byte
abbrev pub carried : Type 0
carried = summed_number LittleEndian 2 1 (0xff ∷ 0x00 ∷ 0x01 ∷ 0x00 ∷ []) 1 ≡ 0x0100

-- a byte of byte planes, added to the bytes one pixel before it: with two samples every other byte
abbrev pub byte_summed : Type 0
byte_summed = summed_byte 2 pixels 4 ≡ 0x02

abbrev pub byte_first : Type 0
byte_first = summed_byte 2 pixels 1 ≡ 0x10

-- two 4-byte numbers, 1.0 and 2.0 in floating point, as differences of byte planes
abbrev pub planes : List ℕ
planes = 0x3f ∷ 0x01 ∷ 0x40 ∷ 0x80 ∷ 0x00 ∷ 0x00 ∷ 0x00 ∷ 0x00 ∷ []

-- mistake: `joined_number` joins with the least significant byte first
abbrev pub joined_one : Type 0
joined_one = joined_number 4 1 2 planes 0 ≡ 0x3f80_0000

-- mistake: `joined_number` takes the first number for each
abbrev pub joined_two : Type 0
joined_two = joined_number 4 1 2 planes 1 ≡ 0x4000_0000

-- a row of one number and an incomplete number, in the other byte order; the incomplete number
-- stays
abbrev pub turned : List ℕ → Type 0
turned new =
    RowReplaced 2 (row_number BigEndian 2 (0x01 ∷ 0x02 ∷ 0x09 ∷ [])) (0x01 ∷ 0x02 ∷ 0x09 ∷ []) new

-- mistake: `RowReplaced` allows any numbers
abbrev pub row_unturned : Type 0
row_unturned = turned (0x01 ∷ 0x02 ∷ 0x09 ∷ []) → ⊥

-- mistake: `RowReplaced` allows any end
abbrev pub row_end_changed : Type 0
row_end_changed = turned (0x02 ∷ 0x01 ∷ 0x00 ∷ []) → ⊥

-- a row of two numbers with the byte order reversed; the second number doesn't stay unchanged
abbrev pub second_unturned : Type 0
second_unturned = SwapsBytes 2 (0x01 ∷ 0x02 ∷ 0x03 ∷ 0x04 ∷ []) (0x02 ∷ 0x01 ∷ 0x03 ∷ 0x04 ∷ [])
    → ⊥
