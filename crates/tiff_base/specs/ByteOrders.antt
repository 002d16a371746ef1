-- The bytes of values, converted from one byte order to the other (TIFF 6.0 section 2).
use Rattle.std.specs.Prelude.{◌≡◌, ℕ, ◌*◌, ◌/◌, List, ◌++◌, length, drop, reverse}
use Rattle.std.specs.List.{flat_map, range_with_len}
use Rattle.tiff_base.specs.declared.tags.ByteOrder.{ByteOrder}
use Rattle.tiff_base.specs.declared.tags.ByteOrder.TheVariants.{LittleEndian, BigEndian}
use Rattle.tiff_base.specs.declared.tags.«Type».{«Type»}
use Rattle.tiff_base.specs.declared.tags.«Type».TheVariants.{RATIONAL, SRATIONAL}
use Rattle.tiff_base.specs.SourceAndSink.{bytes_at}
use Rattle.tiff_base.specs.Types.{type_size}

-- the number of bytes of one number of a type; a rational is two numbers
abbrev pub unit_size : «Type» → ℕ
unit_size RATIONAL = 4
unit_size SRATIONAL = 4
unit_size type = type_size type

-- the bytes of each of `count` numbers of `size` bytes in reverse order, followed by the remaining
-- bytes unchanged
abbrev pub turned_units : ℕ → ℕ → List ℕ → List ℕ
turned_units size count bytes =
    flat_map (λ i. reverse (bytes_at bytes (size * i) size)) (range_with_len 0 count)
    ++ drop (size * count) bytes

-- the bytes of each whole number in reverse order; the bytes after the last whole number are
-- unchanged
unfoldable pub turned_numbers : «Type» → List ℕ → List ℕ
turned_numbers type bytes = turned_units (unit_size type) (length bytes / unit_size type) bytes

-- the bytes of values of a type, converted from the first byte order to the second
abbrev pub convert : «Type» → ByteOrder → List ℕ → ByteOrder → List ℕ
convert type LittleEndian bytes BigEndian = turned_numbers type bytes
convert type BigEndian bytes LittleEndian = turned_numbers type bytes
convert type from bytes to = bytes

-- The law: a conversion there and back restores the bytes.
abbrev pub TurnsBack : Type 0
TurnsBack = (type : «Type») (from to : ByteOrder) (bytes : List ℕ)
    → convert type to (convert type from bytes to) from ≡ bytes
