-- The worked examples of `Encode.Tagging` hold.
use Rattle.std.specs.Prelude.{refl, zero, suc, take}
use Rattle.std.specs.FinMap.{entries, len}
use Rattle.std.proofs.Common.{◌≡◌, ℕ, ◌<◌, List, [], ◌∷◌, Ok, ap, sym, ◌∙◌, subst, inl, inr, arith, lit<, lit≤}
use Rattle.tiff_base.specs.declared.tags.FileKind.TheVariants.{Classic}
use Rattle.tiff_base.specs.Field.{Field}
use Rattle.tiff_encode.specs.Machine.{FileState, OpenDirectory, OpenImage}
use Rattle.tiff_encode.specs.Ends.{EndsAsDefined}
use Rattle.tiff_encode.specs.Tagging.{write_fields, StopsInPart}
use Rattle.tiff_base.specs.lemmas.Slices.{ok_inj}
use Rattle.test_definitions.specs.OneValue.{short_field, rational_field}
use Rattle.test_definitions.specs.Encode.Calls.{with_fields}
use Rattle.test_definitions.specs.Encode.Causes.{new_file}
use Rattle.test_definitions.specs.Encode.Tagging as s
use Rattle.test_definitions.specs.Encode.Tagging.{three_fields, none_set, unit_set, x_set, all_set}
use Rattle.test_definitions.proofs.OfEncode.Causes.{resolutions_far}
use Rattle.test_definitions.proofs.OfEncode.Jobs.{some_none}
use Rattle.test_definitions.proofs.Maps.{entries_puts, len_puts}
use Rattle.test_definitions.proofs.OfEncode.Model.{unequal}
use Rattle.tiff.proofs.OnLiterals.{tiff_on_literals}

-- the number of fields of a directory, and the tag of the first field
abbrev count_of : OpenDirectory → ℕ
count_of d = len d.fields

abbrev tag_of_first : List (ℕ × Field) → ℕ
tag_of_first [] = 0
tag_of_first (e ∷ es) = e.0

abbrev first_of : OpenDirectory → ℕ
first_of d = tag_of_first (entries d.fields)

none_count : count_of none_set ≡ 0
none_count = len_puts []

unit_count : count_of unit_set ≡ 1
unit_count = len_puts ((296, short_field 2) ∷ [])

two_count : count_of (with_fields none_set ((282, rational_field 8) ∷ (296, short_field 2) ∷ []))
    ≡ 2
two_count = len_puts ((282, rational_field 8) ∷ (296, short_field 2) ∷ [])

x_count : count_of x_set ≡ 1
x_count = len_puts ((282, rational_field 8) ∷ [])

all_count : count_of all_set ≡ 3
all_count =
    len_puts ((283, rational_field 16) ∷ (282, rational_field 8) ∷ (296, short_field 2) ∷ [])

unit_first : first_of unit_set ≡ 296
unit_first = ap tag_of_first (entries_puts ((296, short_field 2) ∷ []))

x_first : first_of x_set ≡ 282
x_first = ap tag_of_first (entries_puts ((282, rational_field 8) ∷ []))

-- writing the first `k` of the three fields gives this directory and this file
abbrev Set : ℕ → OpenDirectory → FileState → Type 0
Set k next mid =
    EndsAsDefined (write_fields none_set (take k three_fields) (new_file Classic)) (Ok next) mid

set_none : (next : OpenDirectory) (mid : FileState) → Set 0 next mid → none_set ≡ next
set_none next mid t = ok_inj none_set next t.answer

set_one : (next : OpenDirectory) (mid : FileState) → Set 1 next mid → unit_set ≡ next
unfolding tiff_on_literals
set_one next mid t = ok_inj unit_set next t.answer

set_two : (next : OpenDirectory) (mid : FileState) → Set 2 next mid
    → with_fields none_set ((282, rational_field 8) ∷ (296, short_field 2) ∷ []) ≡ next
unfolding tiff_on_literals
set_two next mid t =
    ok_inj (with_fields none_set ((282, rational_field 8) ∷ (296, short_field 2)
    ∷ [])) next t.answer

not_all : (k : ℕ) (mid : FileState) → k < 3 → Set k all_set mid → ⊥
not_all zero mid l t =
    unequal 0 3 (lit< tt) (sym none_count ∙ (ap count_of (set_none all_set mid t) ∙ all_count))
not_all (suc zero) mid l t =
    unequal 1 3 (lit< tt) (sym unit_count ∙ (ap count_of (set_one all_set mid t) ∙ all_count))
not_all (suc (suc zero)) mid l t =
    unequal 2 3 (lit< tt) (sym two_count ∙ (ap count_of (set_two all_set mid t) ∙ all_count))
not_all (suc (suc (suc k))) mid l t = omega (arith, l)

not_left : (k : ℕ) (mid : FileState) → k < 3 → Set k x_set mid → ⊥
not_left zero mid l t =
    unequal 0 1 (lit< tt) (sym none_count ∙ (ap count_of (set_none x_set mid t) ∙ x_count))
not_left (suc zero) mid l t =
    unequal 282 296 (lit< tt) (sym x_first ∙ (sym (ap first_of (set_one x_set mid t)) ∙ unit_first))
not_left (suc (suc zero)) mid l t =
    unequal 1 2 (lit< tt) (sym x_count ∙ (sym (ap count_of (set_two x_set mid t)) ∙ two_count))
not_left (suc (suc (suc k))) mid l t = omega (arith, l)

part : s.unit_alone
unfolding tiff_on_literals
part = (
  1,
  (
    lit< tt,
    (
      new_file Classic,
      (
        record { answer = refl; state = refl },
        inr (inr (inr (record { fresh = refl; fault = refl; begun = tt; count = 0; within = lit≤ tt; state = refl }))),
      ),
    ),
  ),
)

pub unit_alone : s.unit_alone
unit_alone = part

pub all_stopped : s.all_stopped
all_stopped = λ e new h. not_all h.0 h.1.1.0 h.1.0 h.1.1.1.0

pub left_out : s.left_out
left_out = λ e new h. not_left h.0 h.1.1.0 h.1.0 h.1.1.1.0

-- ---- the resolution of an image

pub resolving_unit : s.resolving_unit
unfolding tiff_on_literals
resolving_unit = inr (refl, (unit_set, (refl, part)))

not_refused : s.resolving_refused
unfolding tiff_on_literals
not_refused e new (inl h) =
    unequal 0 1 (lit< tt) (sym none_count ∙ (sym (ap (λ (i : OpenImage). count_of i.directory) h.0)
    ∙ unit_count))
not_refused e new (inr h) = some_none h.0

pub resolving_refused : s.resolving_refused
resolving_refused = not_refused

not_far : s.resolving_far
not_far bytes e new l (inl h) =
    unequal 0 1 (lit< tt) (sym none_count ∙ (sym (ap (λ (i : OpenImage). count_of i.directory) h.0)
    ∙ unit_count))
not_far bytes e new l (inr h) = some_none (sym (resolutions_far bytes l) ∙ h.0)

pub resolving_far : s.resolving_far
resolving_far = not_far

not_resolved : s.resolving_all
not_resolved e new (inl h) =
    unequal 0 3 (lit< tt) (sym none_count ∙ (sym (ap (λ (i : OpenImage). count_of i.directory) h.0)
    ∙ all_count))
not_resolved e new (inr h) =
    let same : all_set ≡ h.1.0 = ap (λ (i : OpenImage). i.directory) h.1.1.0 in
    all_stopped e new (subst (λ d. StopsInPart none_set three_fields e (new_file Classic) new d) (sym same) h.1.1.1)

pub resolving_all : s.resolving_all
resolving_all = not_resolved
