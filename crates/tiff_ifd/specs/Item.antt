-- The value that some bytes of a type encode (TIFF 6.0 section 2; BigTIFF).
use Rattle.std.specs.Prelude.{ℕ, ◌*◌, Bool, if◌then◌else◌, List, take, drop, map}
use Rattle.std.specs.List.{range_with_len}
use Rattle.std.specs.Int.{w8, w16, w32, w64, cast_signed}
use Rattle.tiff_base.specs.declared.tags.ByteOrder.{ByteOrder}
use Rattle.tiff_base.specs.declared.tags.«Type».{«Type»}
use Rattle.tiff_base.specs.declared.tags.«Type».TheVariants as t
use Rattle.tiff_base.specs.Number.{number}
use Rattle.tiff_base.specs.SourceAndSink.{bytes_at}
use Rattle.tiff_ifd.specs.PlainValue.{PlainValue}
use Rattle.tiff_ifd.specs.PlainValue as f

-- one value: UNDEFINED is a byte, signed types are two's complement, floating-point types are their
-- bits
abbrev pub item : «Type» → ByteOrder → List ℕ → PlainValue
item t.BYTE o bs = f.byte (number o w8 bs)
item t.ASCII o bs = f.byte (number o w8 bs)
item t.SHORT o bs = f.short (number o w16 bs)
item t.LONG o bs = f.unsigned (number o w32 bs)
item t.RATIONAL o bs = f.rational (number o w32 (take 4 bs)) (number o w32 (drop 4 bs))
item t.SBYTE o bs = f.signed_byte (cast_signed w8 (number o w8 bs))
item t.UNDEFINED o bs = f.byte (number o w8 bs)
item t.SSHORT o bs = f.signed_short (cast_signed w16 (number o w16 bs))
item t.SLONG o bs = f.signed (cast_signed w32 (number o w32 bs))
item t.SRATIONAL o bs =
    f.srational (cast_signed w32 (number o w32 (take 4 bs)))
    (cast_signed w32 (number o w32 (drop 4 bs)))
item t.FLOAT o bs = f.float (number o w32 bs)
item t.DOUBLE o bs = f.double (number o w64 bs)
item t.IFD o bs = f.ifd (number o w32 bs)
item t.LONG8 o bs = f.unsigned_big (number o w64 bs)
item t.SLONG8 o bs = f.signed_big (cast_signed w64 (number o w64 bs))
item t.IFD8 o bs = f.ifd_big (number o w64 bs)

-- one of several values in the entry itself: a BYTE or an SBYTE becomes a wider number (as in the
-- Rust crate)
abbrev pub inline_item : «Type» → ByteOrder → List ℕ → PlainValue
inline_item t.BYTE o bs = f.unsigned (number o w8 bs)
inline_item t.SBYTE o bs = f.signed (cast_signed w8 (number o w8 bs))
inline_item type o bs = item type o bs

-- one of several values, in the entry itself or elsewhere in the file
abbrev pub list_item : Bool → «Type» → ByteOrder → List ℕ → PlainValue
list_item inline type o bs = if inline then inline_item type o bs else item type o bs

-- n consecutive values of `width` bytes each
abbrev pub items : {A : Type 0} → (List ℕ → A) → ℕ → ℕ → List ℕ → List A
items read width n bs = map (λ i. read (bytes_at bs (width * i) width)) (range_with_len 0 n)
