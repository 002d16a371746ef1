-- Fields of one number, as examples write them.
use Rattle.std.specs.Prelude.{ℕ, List, ◌++◌}
use Rattle.tiff_base.specs.declared.tags.«Type».TheVariants.{SHORT, LONG, RATIONAL}
use Rattle.tiff_base.specs.Field.{Field}
use Rattle.tiff_base.specs.Number.{le}

-- a field of one number of 2 or 4 bytes in its entry, or of one rational at an offset
abbrev pub short_field : ℕ → Field
short_field n = record { field_type = SHORT; count = 1; value = le 8 n }

abbrev pub long_field : ℕ → Field
long_field n = record { field_type = LONG; count = 1; value = le 8 n }

abbrev pub rational_field : ℕ → Field
rational_field offset = record { field_type = RATIONAL; count = 1; value = le 8 offset }

-- the bytes of the resolution 1/1
abbrev pub one_to_one : List ℕ
one_to_one = le 4 1 ++ le 4 1
