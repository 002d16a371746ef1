-- Each entry of a directory is an entry that memory can hold, and remains one.
use Rattle.std.proofs.Common.{ℕ, ◌^◌, ◌<◌, List, [], ◌∷◌, refl, sym, subst, inl, inr}
use Rattle.std.specs.declared.cmp.Ordering.{Ordering}
use Rattle.std.specs.declared.cmp.Ordering.TheVariants.{Less, Equal, Greater}
use Rattle.std.specs.Cmp.{nat_cmp_total}
use Rattle.std.specs.FinMap.{entries, put, from_entries, entries-insert}
use Rattle.std.specs.FinMap.Entries.{by_order}
use Rattle.std.specs.Ordering.{nat_cmp}
use Rattle.tiff_base.specs.lemmas.Maps.{entries_of_empty}
use Rattle.tiff_base.specs.Field.{Field, In, IsEntry, AreEntries}

-- each member of the list is an entry that memory can hold
abbrev pub Fit : List (ℕ × Field) → Type 0
Fit es = (e : ℕ × Field) → In e es → IsEntry e

pub none_fits : Fit []
none_fits e h = absurd h

more_fits : (x : ℕ × Field) (es : List (ℕ × Field)) → IsEntry x → Fit es → Fit (x ∷ es)
more_fits x es new old e (inl h) = subst IsEntry (sym h) new
more_fits x es new old e (inr h) = old e h

fewer_fit : (x : ℕ × Field) (es : List (ℕ × Field)) → Fit (x ∷ es) → Fit es
fewer_fit x es all e h = all e (inr h)

first_fits : (x : ℕ × Field) (es : List (ℕ × Field)) → Fit (x ∷ es) → IsEntry x
first_fits x es all = all x (inl refl)

-- an entry remains valid when its field gets another tag number
under : (k n : ℕ) (f : Field) → n < 2 ^ 16 → IsEntry (k, f) → IsEntry (n, f)
under k n f h e = record { tag = h; count = e.count; whole = e.whole; octets = e.octets }

choice_fits : (o : Ordering) (a b c : List (ℕ × Field)) → Fit a → Fit b → Fit c
    → Fit (by_order o a b c)
choice_fits Less a b c p q r = p
choice_fits Equal a b c p q r = q
choice_fits Greater a b c p q r = r

put_fits : (k : ℕ) (f : Field) (es : List (ℕ × Field)) → IsEntry (k, f) → Fit es
    → Fit (put nat_cmp k f es)
put_fits k f [] new all = more_fits (k, f) [] new all
put_fits k f (x ∷ es) new all =
    choice_fits (nat_cmp k x.0) ((k, f) ∷ x ∷ es) ((x.0, f) ∷ es) (x ∷ put nat_cmp k f es)
    (more_fits (k, f) (x ∷ es) new all)
    (more_fits (x.0, f) es (under k x.0 f (first_fits x es all).tag new) (fewer_fit x es all))
    (more_fits x (put nat_cmp k f es) (first_fits x es all) (put_fits k f es new (fewer_fit x es all)))

-- the map of valid entries contains only valid entries
pub tree_fits : (es : List (ℕ × Field)) → Fit es → AreEntries (from_entries es)
tree_fits [] all = subst Fit (sym entries_of_empty) none_fits
tree_fits (x ∷ es) all =
    subst Fit (sym (entries-insert nat_cmp_total (from_entries es) x.0 x.1))
    (put_fits x.0 x.1 (entries (from_entries es)) (first_fits x es all) (tree_fits es (fewer_fit x es all)))
