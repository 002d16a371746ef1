-- Worked examples of reads of consecutive numbers, and of texts at an offset.
use Rattle.std.specs.Prelude.{◌≡◌, ℕ, pos, negsuc, [], ◌∷◌, Some, Result, Ok, Err}
use Rattle.std.specs.Int.{w16, w32, w64, cast_signed}
use Rattle.tiff_base.specs.declared.error.TiffError.{TiffError}
use Rattle.tiff_base.specs.declared.error.TiffError.TheVariants.{FormatError, IoError, OutOfMemory}
use Rattle.tiff_base.specs.declared.error.TiffFormatError.TheVariants.{InvalidTag}
use Rattle.tiff_base.specs.declared.io.IoKind.TheVariants.{Device, UnexpectedEof}
use Rattle.tiff_base.specs.declared.tags.ByteOrder.TheVariants.{LittleEndian, BigEndian}
use Rattle.tiff_ifd.specs.FieldValue.{text_at}
use Rattle.tiff_ifd.specs.Stream.{Reading, offset_behind, NumberRead, of_bits_32, of_bits_64}

-- mistake: `offset_behind` moves by one byte in every case
-- the offset after a number of two bytes; a refused read keeps the offset
abbrev pub behind_read : Type 0
behind_read = offset_behind {X = ℕ} (Ok 7) 2 5 ≡ 7

-- mistake: `offset_behind` moves after a refused read too
abbrev pub behind_refused : Type 0
behind_refused = offset_behind {X = ℕ} (Err (IoError UnexpectedEof)) 2 5 ≡ 5

-- a reader of nine bytes at an offset
abbrev pub at : ℕ → Reading
at offset = record {
  contents = record {
    bytes = 0xff ∷ 0xfe ∷ 0x3f ∷ 0x80 ∷ 0x00 ∷ 0x00 ∷ 0x00 ∷ 0x00 ∷ 0x01 ∷ [];
    readable = Some ((0, 9) ∷ []);
  };
  failures = 0;
  order = BigEndian;
  offset = offset;
}

-- the read of a number of two bytes, which returns the number itself
abbrev pub Reads16 : Result ℕ TiffError → Reading → Reading → Type 0
Reads16 result old new = NumberRead w16 (λ n. n) result old new

abbrev pub short_read : Type 0
short_read = Reads16 (Ok 0xfffe) (at 0) (at 2)

-- mistake: `NumberRead` reads little-endian in every case
-- a read doesn't return the number in the other byte order
abbrev pub short_turned : Type 0
short_turned = Reads16 (Ok 0xfeff) (at 0) (at 2) → ⊥

abbrev pub short_little : Type 0
short_little =
    Reads16 (Ok 0xfeff) (record (at 0) { order = LittleEndian })
    (record (at 2) { order = LittleEndian })

-- mistake: `NumberRead` keeps the offset
-- a read moves the offset by two bytes
abbrev pub short_stays : Type 0
short_stays = Reads16 (Ok 0xfffe) (at 0) (at 0) → ⊥

-- mistake: `NumberRead` allows another byte order
-- a read changes nothing else of the reader
abbrev pub short_reordered : Type 0
short_reordered = Reads16 (Ok 0xfffe) (at 0) (record (at 2) { order = LittleEndian }) → ⊥

-- a read of two bytes at the last byte reads nothing and keeps the offset
abbrev pub short_cut : Type 0
short_cut = Reads16 (Err (IoError UnexpectedEof)) (at 8) (at 8)

abbrev pub short_cut_moved : Type 0
short_cut_moved = Reads16 (Err (IoError UnexpectedEof)) (at 8) (at 10) → ⊥

abbrev pub short_refused : Type 0
short_refused = Reads16 (Err (IoError UnexpectedEof)) (at 0) (at 0) → ⊥

-- mistake: `NumberRead` allows out of memory
-- a read allocates nothing; a device error, with a failed read and without one
abbrev pub short_wanting : Type 0
short_wanting = Reads16 (Err OutOfMemory) (at 0) (at 0) → ⊥

abbrev pub short_failed : Type 0
short_failed = Reads16 (Err (IoError Device)) (at 0) (record (at 0) { failures = 1 })

-- mistake: `NumberRead` allows a device error without a failed read
abbrev pub short_not_failed : Type 0
short_not_failed = Reads16 (Err (IoError Device)) (at 0) (at 0) → ⊥

-- mistake: `NumberRead` passes over failed reads
-- a failed read within the call isn't hidden
abbrev pub short_swallowed : Type 0
short_swallowed = Reads16 (Ok 0xfffe) (at 0) (record (at 2) { failures = 1 }) → ⊥

-- mistake: `NumberRead` forgets failed reads
-- an earlier failed read isn't forgotten
abbrev pub short_forgotten : Type 0
short_forgotten = Reads16 (Ok 0xfffe) (record (at 0) { failures = 1 }) (at 2) → ⊥

-- the two bytes as a signed number
abbrev pub signed_read : Type 0
signed_read = NumberRead w16 (cast_signed w16) (Ok (negsuc 1)) (at 0) (at 2)

-- mistake: `NumberRead` allows another number
abbrev pub signed_positive : Type 0
signed_positive = NumberRead w16 (cast_signed w16) (Ok (pos 0xfffe)) (at 0) (at 2) → ⊥

-- mistake: `NumberRead` reads from the front
-- the bits of floating-point numbers: 1 in four bytes, and a number of eight bytes
abbrev pub float_read : Type 0
float_read = NumberRead w32 of_bits_32 (Ok (record { 0 = 0x3f80_0000 })) (at 2) (at 6)

abbrev pub double_read : Type 0
double_read = NumberRead w64 of_bits_64 (Ok (record { 0 = 0xfe3f_8000_0000_0001 })) (at 1) (at 9)

-- mistake: `of_bits_32` allows other bits
abbrev pub bits_32 : Type 0
bits_32 = of_bits_32 0x3f80_0000 ≡ record { 0 = 0x3f80_0000 }

-- mistake: `of_bits_64` allows other bits
abbrev pub bits_64 : Type 0
bits_64 = of_bits_64 0x3ff0_0000_0000_0000 ≡ record { 0 = 0x3ff0_0000_0000_0000 }

-- ---- texts

-- mistake: `text_at` reads from the front
-- a text of four bytes at offset 1 ends before its first zero
abbrev pub text_read : Type 0
text_read = text_at (0xff ∷ 0x41 ∷ 0x42 ∷ 0x00 ∷ 0xff ∷ []) 1 4 ≡ Ok (0x41 ∷ 0x42 ∷ [])

-- mistake: `text_at` reads a text in the entry
-- a text of two bytes reads no byte after them
abbrev pub text_open : Type 0
text_open = text_at (0xff ∷ 0x41 ∷ 0x42 ∷ 0x43 ∷ []) 1 2 ≡ Ok (0x41 ∷ 0x42 ∷ [])

-- a text that isn't UTF-8, and a text past the end, which is refused first
abbrev pub text_wild : Type 0
text_wild = text_at (0x41 ∷ 0xff ∷ []) 0 2 ≡ Err (FormatError InvalidTag)

-- mistake: `text_at` reads fewer bytes where the source ends
abbrev pub text_cut : Type 0
text_cut = text_at (0x41 ∷ 0xff ∷ []) 0 3 ≡ Err (IoError UnexpectedEof)

-- a text without bytes can be read at every offset
abbrev pub text_none : Type 0
text_none = text_at (0x41 ∷ []) 9 0 ≡ Ok []
