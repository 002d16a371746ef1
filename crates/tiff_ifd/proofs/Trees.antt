-- An ordered map of the library as a finite map.
use Rattle.std.proofs.Common.{◌≡◌, ℕ, cond, List, [], ◌∷◌, Some, refl, ap, sym, ◌∙◌}
use Rattle.std.specs.BTreeMap.{is_at}
use Rattle.std.specs.Cmp.{nat_cmp_total, eq_by_cmp_equiv}
use Rattle.std.specs.FinMap.{find, get, insert, from_entries, get-insert, get-from_entries, same_map, nat_cmp-IsAntisymmetric}
use Rattle.std.specs.Map.{lookup}
use Rattle.std.specs.Ordering.{nat_cmp, is_eq}

find_lookup : {X : Type 0} (q : ℕ) (es : List (ℕ × X))
    → lookup (is_at (nat_cmp q)) es ≡ find nat_cmp q es
find_lookup q [] = refl
find_lookup q (e ∷ es) = ap (cond (is_eq (nat_cmp q e.0)) (Some e.1)) (find_lookup q es)

-- the map of a tree's entries has what the tree has
pub get_of_tree : {X : Type 0} (q : ℕ) (es : List (ℕ × X))
    → lookup (is_at (nat_cmp q)) es ≡ get (from_entries {R = nat_cmp} es) q
get_of_tree q es = find_lookup q es ∙ sym (get-from_entries nat_cmp_total es q)

-- to put an entry into a tree is to put it into the map
pub insert_of_tree : {X : Type 0} (es fs : List (ℕ × X)) (k : ℕ) (v : X)
    → ((q : ℕ) → lookup (is_at (nat_cmp q)) fs
    ≡ cond (is_at (nat_cmp k) q) (Some v) (lookup (is_at (nat_cmp q)) es))
    → from_entries {R = nat_cmp} fs ≡ insert (from_entries es) k v
insert_of_tree es fs k v updates =
    same_map nat_cmp_total nat_cmp-IsAntisymmetric _ _
    (λ q. sym (get_of_tree q fs) ∙ updates q
    ∙ ap (λ b. cond b (Some v) (lookup (is_at (nat_cmp q)) es)) ((eq_by_cmp_equiv nat_cmp_total).symm k q)
    ∙ ap (cond (is_eq (nat_cmp q k)) (Some v)) (get_of_tree q es)
    ∙ sym (get-insert nat_cmp_total (from_entries es) k v q))
