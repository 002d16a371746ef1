use Rattle.std.proofs.Common.{◌≡◌, ℕ, suc, ◌+◌, ◌-◌, ◌<◌, ◌≤◌, List, [], ◌∷◌, length, get_or, take, drop, Bool, Some, false, cond, ap, sym, ◌∙◌, arith}
use Rattle.std.proofs.lemmas.Bool.Decides.{nat_tests}
use Rattle.std.proofs.Math.Seq.{take-length}
use Rattle.std.specs.Prelude.{◌==◌, ◌&&◌}
use Rattle.tiff_uses.specs.GeoKeys.{value_in}
use Rattle.tiff_uses.proofs.value_of.Goals as goal
use Rattle.tiff_uses.proofs.value_of.Goals.{else-key-id-via-then-key-id+else-location-eq0, else-key-id-via-else-key-id}

other_key : (key location id : ℕ) → (key ≡ id → location ≡ 0 → ⊥)
    → ((key == id) && (location == 0)) ≡ false
other_key key location id h = grind (arith, nat_tests)

whole : (n : ℕ) (xs : List ℕ) → n ≡ length xs → take n xs ≡ xs
whole n xs e = ap (λ (m : ℕ). take m xs) e ∙ take-length xs

-- An entry of another key is skipped.
passed : (id n i : ℕ) (left : List ℕ) → i < n → 4 ≤ length left
    → (get_or left 0 0 ≡ id → get_or left 1 0 ≡ 0 → ⊥)
    → value_in id (n - i) left ≡ value_in id (n - (i + 1)) (take (length left - 4) (drop 4 left))
passed id n i [] l m h = absurd (omega arith)
passed id n i (k ∷ []) l m h = absurd (omega arith)
passed id n i (k ∷ p ∷ []) l m h = absurd (omega arith)
passed id n i (k ∷ p ∷ c ∷ []) l m h = absurd (omega arith)
passed id n i (k ∷ p ∷ c ∷ v ∷ rest) l m h =
    let e : n - i ≡ suc (n - (i + 1)) = omega arith in
    let r : length (k ∷ p ∷ c ∷ v ∷ rest) - 4 ≡ length rest = omega arith in
    ap (λ (j : ℕ). value_in id j (k ∷ p ∷ c ∷ v ∷ rest)) e
    ∙ ap (λ (b : Bool). cond b (Some v) (value_in id (n - (i + 1)) rest)) (other_key k p id h)
    ∙ ap (value_in id (n - (i + 1))) (sym (whole _ rest r))

pub keys-preserved : goal.keys-preserved
keys-preserved c =
    let other : get_or c.keys.left.now 0 0 ≡ c.args.id → get_or c.keys.left.now 1 0 ≡ 0 → ⊥ =
    (λ k p. elim c.else-key-id.branch [
      | else-key-id-via-then-key-id+else-location-eq0 w ↦ w.if-location-eq0.false p
      | else-key-id-via-else-key-id w ↦ w.if-key-id.false k
    ]) in
    c.keys.invariant ∙ passed c.args.id _ c.keys.i c.keys.left.now c.keys-test.true c.in-len4-up-left.len_at_least other
