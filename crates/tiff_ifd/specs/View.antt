-- A `Value` as a `PlainValue`.
use Rattle.std.specs.Prelude.{List, map, string_bytes}
use Rattle.tiff_ifd.specs.declared.value.Value.{Value, fold-Value}
use Rattle.tiff_ifd.specs.declared.value.Value.TheOpen.{Value-F}
use Rattle.tiff_ifd.specs.PlainValue as f
use Rattle.tiff_ifd.specs.PlainValue.{PlainValue, plain_value_list_of}

-- one level of a value, where each item of a list is already a `PlainValue`
abbrev pub plain_value_step : Value-F PlainValue → PlainValue
plain_value_step (Value-F.Byte n) = f.byte n
plain_value_step (Value-F.Short n) = f.short n
plain_value_step (Value-F.SignedByte n) = f.signed_byte n
plain_value_step (Value-F.SignedShort n) = f.signed_short n
plain_value_step (Value-F.Signed n) = f.signed n
plain_value_step (Value-F.SignedBig n) = f.signed_big n
plain_value_step (Value-F.Unsigned n) = f.unsigned n
plain_value_step (Value-F.UnsignedBig n) = f.unsigned_big n
plain_value_step (Value-F.Float n) = f.float n.0
plain_value_step (Value-F.Double n) = f.double n.0
plain_value_step (Value-F.List l) = f.list (plain_value_list_of l.items)
plain_value_step (Value-F.Rational n d) = f.rational n d
plain_value_step (Value-F.RationalBig n d) = f.rational_big n d
plain_value_step (Value-F.SRational n d) = f.srational n d
plain_value_step (Value-F.SRationalBig n d) = f.srational_big n d
plain_value_step (Value-F.Ascii t) = f.ascii (string_bytes t)
plain_value_step (Value-F.Ifd n) = f.ifd n
plain_value_step (Value-F.IfdBig n) = f.ifd_big n

-- a whole value
abbrev pub plain_value : Value → PlainValue
plain_value = fold-Value PlainValue plain_value_step

abbrev pub plain_values : List Value → List PlainValue
plain_values vs = map plain_value vs
