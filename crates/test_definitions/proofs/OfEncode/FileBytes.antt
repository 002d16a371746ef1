-- The worked examples of `Encode.FileBytes` hold.
use Rattle.std.specs.Prelude.{◌≡◌, ℕ, List, [], ◌∷◌, ◌++◌, length}
use Rattle.std.specs.Ordering.{nat_cmp}
use Rattle.std.specs.List.{flat_map}
use Rattle.std.specs.FinMap.{from_entries}
use Rattle.tiff_base.specs.declared.tags.FileKind.{FileKind}
use Rattle.tiff_base.specs.declared.tags.FileKind.TheVariants.{Classic, Big}
use Rattle.tiff_base.specs.Field.{Field}
use Rattle.tiff_base.specs.Number.{le}
use Rattle.tiff_value.specs.FileBytes.{count_len, offset_len, entry_bytes, directory_bytes}
use Rattle.test_definitions.specs.OneValue.{short_field, long_field}
use Rattle.test_definitions.proofs.Maps.{puts, entries_puts, len_puts}
use Rattle.test_definitions.specs.Encode.FileBytes as s
use Rattle.tiff.proofs.OnLiterals.{tiff_on_literals}

-- the bytes of a directory, computed from the list that its fields are made from
abbrev pub bytes_by : FileKind → ℕ → List (ℕ × Field) → List ℕ
bytes_by kind count fields =
    le (count_len kind) count ++ (flat_map (entry_bytes kind) fields ++ le (offset_len kind) 0)

pub directory_by : (kind : FileKind) (fields : List (ℕ × Field))
    → directory_bytes kind (from_entries {R = nat_cmp} fields)
    ≡ bytes_by kind (length (puts fields)) (puts fields)
unfolding tiff_on_literals
directory_by kind fields = λ i. bytes_by kind (len_puts fields i) (entries_puts fields i)

pub two_fields : s.two_fields
two_fields = directory_by Classic ((258, short_field 8) ∷ (256, long_field 5) ∷ [])

pub no_field : s.no_field
no_field = directory_by Big []

pub ruleset worked = (two_fields, no_field)
