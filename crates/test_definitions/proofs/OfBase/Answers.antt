-- The worked examples of `Base.Answers` hold.
use Rattle.std.specs.Prelude.{◌≡◌, refl, ℕ, List, [], ◌∷◌, length}
use Rattle.std.proofs.Common.{ap, sym, ◌∙◌, subst, arith, inl}
use Rattle.std.specs.Cmp.{nat_cmp_total}
use Rattle.std.specs.FinMap.{empty, insert, entries, put, entries-insert, len-entries, len-empty}
use Rattle.std.specs.Ordering.{nat_cmp}
use Rattle.tiff_base.specs.Field.{Field, In, IsEntry}
use Rattle.test_definitions.specs.Base.Answers as s

pub fails_from : s.fails_from
fails_from = record { last = (7, 2); contents = refl; grew = omega arith }

none_in : (e : ℕ × Field) → In e [] → IsEntry e
none_in e h = absurd h

empty_list : (es : List (ℕ × Field)) → length es ≡ 0 → es ≡ []
empty_list [] e = refl
empty_list (x ∷ es) e = absurd (omega arith)

no_entries : entries (empty {X = Field} {R = nat_cmp}) ≡ []
no_entries =
    empty_list (entries (empty {X = Field} {R = nat_cmp})) (sym (len-entries (empty {X = Field} {R = nat_cmp})) ∙ len-empty nat_cmp Field)

-- the entries of a directory with one entry
one_entry : (n : ℕ) (f : Field) → entries (insert (empty {R = nat_cmp}) n f) ≡ (n, f) ∷ []
one_entry n f = entries-insert nat_cmp_total empty n f ∙ ap (put nat_cmp n f) no_entries

pub entries_fit : s.entries_fit
entries_fit = (
  subst (λ es. (e : ℕ × Field) → In e es → IsEntry e) (sym no_entries) none_in,
  λ h. omega (arith, (h (65536, s.shorts 1 s.ones) (subst (In (65536, s.shorts 1 s.ones)) (sym (one_entry 65536 (s.shorts 1 s.ones))) (inl refl))).tag),
)

pub ruleset worked = (fails_from, entries_fit)
