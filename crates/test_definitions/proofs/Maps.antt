-- Maps made of lists of entries.
use Rattle.std.proofs.Common.{◌≡◌, ℕ, List, [], ◌∷◌, length, refl, ap, sym, ◌∙◌, arith}
use Rattle.std.specs.Ordering.{nat_cmp}
use Rattle.std.specs.Cmp.{nat_cmp_total}
use Rattle.std.specs.FinMap.{empty, entries, len, put, from_entries, entries-insert, len-entries, len-empty}

none_long : {A : Type 0} (es : List A) → length es ≡ 0 → es ≡ []
none_long [] e = refl
none_long (x ∷ es) e = absurd (omega arith)

module _ {X : Type 0} where
  -- the entries of a list, put one by one into a sorted list, the last entry first
  abbrev pub puts : List (ℕ × X) → List (ℕ × X)
  puts [] = []
  puts (e ∷ es) = put nat_cmp e.0 e.1 (puts es)

  -- `puts` gives the entries of a map that is made from a list
  pub entries_puts : (es : List (ℕ × X)) → entries (from_entries {R = nat_cmp} es) ≡ puts es
  entries_puts [] =
      none_long (entries (empty {X = X} {R = nat_cmp}))
      (sym (len-entries (empty {X = X} {R = nat_cmp})) ∙ len-empty nat_cmp X)
  entries_puts (e ∷ es) =
      entries-insert nat_cmp_total (from_entries es) e.0 e.1
      ∙ ap (put nat_cmp e.0 e.1) (entries_puts es)

  -- `puts` gives the number of entries of a map that is made from a list
  pub len_puts : (es : List (ℕ × X)) → len (from_entries {R = nat_cmp} es) ≡ length (puts es)
  len_puts es = len-entries (from_entries {R = nat_cmp} es) ∙ ap length (entries_puts es)
