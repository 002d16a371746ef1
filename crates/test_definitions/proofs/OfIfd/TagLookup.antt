-- The worked examples of `Ifd.TagLookup` hold.
use Rattle.std.specs.Prelude.{refl}
use Rattle.std.specs.Prelude.{◌≡◌, ℕ, List, [], ◌∷◌, None, reverse, is_some}
use Rattle.std.proofs.Common.{ap, arith, sym}
use Rattle.std.proofs.lemmas.Bool.{false≢true}
use Rattle.std.specs.Ordering.{nat_cmp}
use Rattle.std.specs.Cmp.{nat_cmp_total}
use Rattle.std.specs.FinMap.{find, get, from_entries, get-from_entries}
use Rattle.tiff_base.specs.declared.tags.ByteOrder.TheVariants.{LittleEndian}
use Rattle.tiff_base.specs.declared.tags.FileKind.TheVariants.{Classic}
use Rattle.tiff_base.specs.declared.tags.Tag.TheVariants as tag
use Rattle.tiff_base.specs.Field.{Field}
use Rattle.tiff_ifd.specs.Limits.{unlimited}
use Rattle.tiff_ifd.specs.FieldValue.{field_value}
use Rattle.tiff_ifd.specs.TagLookup.{if_found}
use Rattle.test_definitions.specs.Ifd.Stretches.{one_entry, shorts}
use Rattle.test_definitions.specs.Ifd.TagLookup as s
use Rattle.test_definitions.proofs.Stretches.{in_first}
use Rattle.test_definitions.proofs.TagsHeld.{tag_held, tag_unheld}
use Rattle.tiff.proofs.OnLiterals.{tiff_on_literals}

-- a look-up in a directory's fields is a search in the list that they are made from
by_list : (fields : List (ℕ × Field)) (q : ℕ)
    → get (from_entries {R = nat_cmp} fields) q ≡ find nat_cmp q fields
by_list = get-from_entries nat_cmp_total

abbrev looks : (tag : ℕ)
    → get (from_entries {R = nat_cmp} (reverse s.some_fields)) tag
    ≡ find nat_cmp tag (reverse s.some_fields)
looks tag = by_list (reverse s.some_fields) tag

pub list_read : s.list_read
unfolding tiff_on_literals
list_read = ap (if_found (field_value Classic LittleEndian [] unlimited)) (looks 258)

pub list_past_end : s.list_past_end
unfolding tiff_on_literals
list_past_end = ap (if_found (field_value Classic LittleEndian [] unlimited)) (looks 273)

pub single_read : s.single_read
unfolding tiff_on_literals
single_read = ap (if_found (field_value Classic LittleEndian [] unlimited)) (looks 256)

pub single_missing : s.single_missing
unfolding tiff_on_literals
single_missing = ap (if_found (field_value Classic LittleEndian [] unlimited)) (looks 257)

pub has_width : s.has_width
unfolding tiff_on_literals
has_width = ap is_some (looks 256)

pub has_length : s.has_length
unfolding tiff_on_literals
has_length = ap is_some (looks 257)

pub value_readable : s.value_readable
unfolding tiff_on_literals
value_readable =
    tag_held (one_entry ((8, 6) ∷ [])) ((258, shorts 3)
    ∷ []) None tag.BitsPerSample (record { placed = λ w k l h. in_first 8 6 [] k l h })

pub value_unreadable : s.value_unreadable
unfolding tiff_on_literals
value_unreadable =
    tag_unheld (one_entry ((8, 5) ∷ [])) ((258, shorts 3)
    ∷ []) None tag.BitsPerSample (shorts 3) refl
    (λ r. false≢true (r.placed (omega arith) 13 (omega arith) (omega arith)))

pub other_readable : s.other_readable
other_readable = tag_held (one_entry []) ((258, shorts 3) ∷ []) None tag.ImageWidth tt

pub value_asked : s.value_asked
value_asked = λ r. absurd (value_unreadable r)

pub value_asked_alone : s.value_asked_alone
value_asked_alone = λ h. false≢true (sym (h value_readable))

pub ruleset worked = (
  list_read,
  list_past_end,
  single_read,
  single_missing,
  has_width,
  has_length,
  value_readable,
  value_unreadable,
  other_readable,
  value_asked,
  value_asked_alone,
)
