-- The worked examples of `Ifd.TagQueries` hold.
use Rattle.std.specs.Prelude.{ℕ, [], map, reverse, Result, Ok}
use Rattle.std.proofs.Common.{ap}
use Rattle.tiff_base.specs.declared.error.TiffError.{TiffError}
use Rattle.tiff_base.specs.declared.tags.ByteOrder.TheVariants.{LittleEndian, BigEndian}
use Rattle.tiff_base.specs.declared.tags.FileKind.TheVariants.{Classic}
use Rattle.tiff_base.specs.declared.tags.Tag.{Tag}
use Rattle.tiff_base.specs.Answers.{◌>>=◌}
use Rattle.tiff_base.specs.Field.{Field}
use Rattle.tiff_base.specs.Tags.{tag_of}
use Rattle.tiff_ifd.specs.Limits.{unlimited}
use Rattle.tiff_ifd.specs.PlainValue.{PlainValue}
use Rattle.tiff_ifd.specs.FieldValue.{field_value}
use Rattle.test_definitions.specs.Ifd.TagLookup.{some_fields}
use Rattle.test_definitions.proofs.Maps.{entries_puts}
use Rattle.test_definitions.specs.Ifd.TagQueries as s
use Rattle.tiff.proofs.OnLiterals.{tiff_on_literals}

-- the item of an entry, in a file without bytes
abbrev item_of : ℕ × Field → Result (Tag × PlainValue) TiffError
item_of e = field_value Classic LittleEndian [] unlimited e.1 >>= λ value. Ok (tag_of e.0, value)

abbrev item_of_big : ℕ × Field → Result (Tag × PlainValue) TiffError
item_of_big e = field_value Classic BigEndian [] unlimited e.1 >>= λ value. Ok (tag_of e.0, value)

pub three_items : s.three_items
unfolding tiff_on_literals
three_items = ap (map item_of) (entries_puts (reverse some_fields))

pub fault_between : s.fault_between
unfolding tiff_on_literals
fault_between = ap (map item_of_big) (entries_puts (reverse s.other_fields))

pub no_items : s.no_items
unfolding tiff_on_literals
no_items = ap (map item_of) (entries_puts [])

pub ruleset worked = (three_items, fault_between, no_items)
