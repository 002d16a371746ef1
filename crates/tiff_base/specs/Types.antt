-- The number of bytes of a value of each type (TIFF 6.0 section 2; BigTIFF).
use Rattle.std.specs.Prelude.{ℕ}
use Rattle.tiff_base.specs.declared.tags.«Type».{«Type»}
use Rattle.tiff_base.specs.declared.tags.«Type».TheVariants.{BYTE, ASCII, SHORT, LONG, RATIONAL, SBYTE, UNDEFINED, SSHORT, SLONG, SRATIONAL, FLOAT, DOUBLE, IFD, LONG8, SLONG8, IFD8}

abbrev pub type_size : «Type» → ℕ
type_size BYTE = 1
type_size ASCII = 1
type_size SHORT = 2
type_size LONG = 4
type_size RATIONAL = 8
type_size SBYTE = 1
type_size UNDEFINED = 1
type_size SSHORT = 2
type_size SLONG = 4
type_size SRATIONAL = 8
type_size FLOAT = 4
type_size DOUBLE = 8
type_size IFD = 4
type_size LONG8 = 8
type_size SLONG8 = 8
type_size IFD8 = 8
