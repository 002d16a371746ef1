-- Worked examples of the bytes that the calls of decoders ask a source for.
use Rattle.std.specs.Prelude.{ℕ, List, [], ◌∷◌, Some, true, Err}
use Rattle.tiff_base.specs.declared.error.TiffError.TheVariants.{IoError}
use Rattle.tiff_base.specs.declared.io.IoKind.TheVariants.{Device}
use Rattle.tiff_base.specs.declared.tags.ByteOrder.TheVariants.{LittleEndian}
use Rattle.tiff_base.specs.declared.tags.FileKind.TheVariants.{Classic}
use Rattle.tiff_base.specs.declared.tags.Tag.TheVariants as tag
use Rattle.tiff_base.specs.SourceAndSink.{SourceRecord}
use Rattle.tiff_decode.specs.Asked.{AsksForTag, AsksHere, EntryReadable, NextPageReadable, OpenReadable, SeekReadable}
use Rattle.tiff_decode.specs.Machine.{Decoding}
use Rattle.test_definitions.specs.Files.{gray_file}
use Rattle.test_definitions.specs.Decoders.{at, decoder_at, gray_decoder, gray_state, two_decoder}

-- ---- opening

-- the file of one gray pixel, in a source with these readable stretches
abbrev pub gray_source : List (ℕ × ℕ) → SourceRecord
gray_source stretches = record { bytes = gray_file; readable = Some stretches }

-- mistake: `OpenReadable` asks for one byte after the header
-- mistake: `OpenReadable` asks for all bytes of the file
-- opening `gray_file` needs its header and its directory, but not its resolutions or its pixel
abbrev pub opens : Type 0
opens = OpenReadable (gray_source ((0, 8) ∷ (25, 174) ∷ []))

-- mistake: `OpenReadable` leaves out the directory
-- opening `gray_file` needs the directory's last byte and the whole header
abbrev pub opens_cut : Type 0
opens_cut = OpenReadable (gray_source ((0, 8) ∷ (25, 173) ∷ [])) → ⊥

-- mistake: `OpenReadable` leaves out the header
abbrev pub opens_headless : Type 0
opens_headless = OpenReadable (gray_source ((0, 7) ∷ (25, 174) ∷ [])) → ⊥

-- a file of two directories: one without entries at 8, and one at 14 with StripOffsets, three LONGs
-- at 32
abbrev pub placed_file : List ℕ
placed_file = 0x49 ∷ 0x49 ∷ 0x2a ∷ 0x00 ∷ 0x08 ∷ 0x00 ∷ 0x00 ∷ 0x00
    ∷ 0x00 ∷ 0x00 ∷ 0x0e ∷ 0x00 ∷ 0x00 ∷ 0x00
    ∷ 0x01 ∷ 0x00 ∷ 0x11 ∷ 0x01 ∷ 0x04 ∷ 0x00 ∷ 0x03 ∷ 0x00 ∷ 0x00 ∷ 0x00 ∷ 0x20 ∷ 0x00 ∷ 0x00
    ∷ 0x00 ∷ 0x00 ∷ 0x00 ∷ 0x00 ∷ 0x00 ∷ []

abbrev pub placed_source : List (ℕ × ℕ) → SourceRecord
placed_source stretches = record { bytes = placed_file; readable = Some stretches }

-- entering the second directory needs its 18 bytes and its 12 bytes of offsets
abbrev pub enters : Type 0
enters = EntryReadable (placed_source ((14, 30) ∷ [])) Classic LittleEndian 14

-- mistake: `EntryReadable` leaves out what the checks read
abbrev pub enters_cut : Type 0
enters_cut = EntryReadable (placed_source ((14, 29) ∷ [])) Classic LittleEndian 14 → ⊥

-- ---- the page with a number

-- the decoder of `gray_file`, in a source with these readable stretches
abbrev pub gray_reader : List (ℕ × ℕ) → Decoding
gray_reader stretches = record gray_decoder { readable = Some stretches }

-- mistake: `SeekReadable` asks for whole directories on the way
-- to find that there is no page 1, only the count and the link of page 0 are read
abbrev pub seeks_1 : Type 0
seeks_1 = SeekReadable (gray_reader ((25, 2) ∷ (195, 4) ∷ [])) 1

-- mistake: `SeekReadable` leaves out the way
abbrev pub seeks_1_cut : Type 0
seeks_1_cut = SeekReadable (gray_reader ((25, 2) ∷ (195, 3) ∷ [])) 1 → ⊥

-- seeking page 0 reads the entries of its directory as well
abbrev pub seeks_0 : Type 0
seeks_0 = SeekReadable (gray_reader ((25, 174) ∷ [])) 0

-- mistake: `EntryReadable` leaves out the entries
-- mistake: `SeekReadable` leaves out the directory
abbrev pub seeks_0_cut : Type 0
seeks_0_cut = SeekReadable (gray_reader ((25, 2) ∷ (195, 4) ∷ [])) 0 → ⊥

-- ---- the next page

-- after the only page nothing is read
abbrev pub none_behind : Type 0
none_behind = NextPageReadable (gray_reader [])

-- a decoder at the first of two directories
abbrev pub placed_reader : List (ℕ × ℕ) → Decoding
placed_reader stretches =
    record (decoder_at placed_file 8 (record gray_state { pointer = Some (at 8); more = true }))
    { readable = Some stretches }

-- mistake: `NextPageReadable` asks for the first directory once more
-- the next page needs the second directory and its offsets, but not the first directory again
abbrev pub second_behind : Type 0
second_behind = NextPageReadable (placed_reader ((14, 30) ∷ []))

-- mistake: `NextPageReadable` leaves out its page
abbrev pub second_behind_cut : Type 0
second_behind_cut = NextPageReadable (placed_reader ((14, 29) ∷ [])) → ⊥

-- a second directory that links back to the first isn't in the chain, but is read
abbrev pub back_reader : List (ℕ × ℕ) → Decoding
back_reader stretches =
    record (two_decoder (0x19 ∷ 0x00 ∷ 0x00 ∷ 0x00 ∷ [])) { readable = Some stretches }

-- mistake: `NextPageReadable` asks for a directory that isn't in the chain
abbrev pub back_behind : Type 0
back_behind = NextPageReadable (back_reader ((199, 6) ∷ []))

abbrev pub back_behind_cut : Type 0
back_behind_cut = NextPageReadable (back_reader ((199, 5) ∷ [])) → ⊥

-- to find that a chain with a link back has no page 1, the counts and links of both directories are
-- read
abbrev pub seeks_back : Type 0
seeks_back = SeekReadable (back_reader ((25, 2) ∷ (195, 4) ∷ (199, 6) ∷ [])) 1

abbrev pub seeks_back_cut : Type 0
seeks_back_cut = SeekReadable (back_reader ((25, 2) ∷ (195, 4) ∷ (199, 5) ∷ [])) 1 → ⊥

-- ---- reads at the offset, and of tags

-- mistake: `AsksHere` reads from the front of the file
-- two bytes at 8, the offset of the decoder
abbrev pub here_readable : Type 0
here_readable = AsksHere {X = ℕ} (gray_reader ((8, 2) ∷ [])) 2 (Err (IoError Device)) → ⊥

-- mistake: `AsksHere` lets all bytes be read
-- mistake: `AsksHere` asks for one byte for any number
-- three bytes at 8, of which the third isn't readable
abbrev pub here_unreadable : Type 0
here_unreadable = AsksHere {X = ℕ} (gray_reader ((8, 2) ∷ [])) 3 (Err (IoError Device))

-- mistake: `AsksForTag` allows a device error in every case
-- the eight bytes of a resolution at 8
abbrev pub tag_readable : Type 0
tag_readable = AsksForTag {X = ℕ} (gray_reader ((8, 8) ∷ [])) tag.XResolution (Err (IoError Device))
    → ⊥

-- mistake: `AsksForTag` allows a device error in no case
abbrev pub tag_unreadable : Type 0
tag_unreadable =
    AsksForTag {X = ℕ} (gray_reader ((8, 7) ∷ [])) tag.XResolution (Err (IoError Device))

-- mistake: `AsksForTag` asks for the values of one tag for each
-- a width in its entry needs no bytes
abbrev pub tag_in_entry : Type 0
tag_in_entry = AsksForTag {X = ℕ} (gray_reader []) tag.ImageWidth (Err (IoError Device)) → ⊥
