-- Undoing the differences along the rows of a chunk restores its numbers.
use Rattle.std.proofs.Common.{◌≡◌, ℕ, suc, ◌+◌, ◌-◌, ◌*◌, ◌%◌, ◌<◌, ◌≤◌, ◌⊎◌, List, get_or, refl, ap, sym, ◌∙◌, subst, inl, inr, arith, add-one}
use Rattle.std.specs.Prelude.{sum_by}
use Rattle.std.specs.List.{range_with_len}
use Rattle.std.proofs.lemmas.Bool.{cases_lt, lt-ltb, le-ltb}
use Rattle.std.proofs.lemmas.Nat.{mod-mul-add, mod_below}
use Rattle.std.proofs.Math.Nat.{mul-le-mul_right}
use Rattle.tiff_base.specs.declared.tags.Predictor.{Predictor}
use Rattle.tiff_base.specs.declared.tags.Predictor.TheVariants as predictor
use Rattle.tiff_base.specs.declared.tags.Predictor.TheVariants.{Horizontal}
use Rattle.tiff_value.specs.Differences.{stored_difference}
use Rattle.tiff_value.specs.lemmas.Differences.{total, undone}
use Rattle.tiff_page.specs.lemmas.Rows.{sum_same}

-- rows of l numbers, with s numbers per pixel
module _ (m l s : ℕ) (numbers : List ℕ) (small : (k : ℕ) → get_or numbers k 0 < m) (row sample last : ℕ)
    (first : sample < s) (within : last * s + sample < l) where
  -- the index of a number of this sample
  abbrev at : ℕ → ℕ
  at c = row * l + (c * s + sample)

  -- the index is within the row
  in_row : (c : ℕ) → c ≤ last → at c % l ≡ c * s + sample
  in_row c h =
      let u : c * s ≤ last * s = mul-le-mul_right s h in
      mod-mul-add row l (c * s + sample) (omega (arith, u, within))

  -- the first pixel of a row stays as it is
  begun : stored_difference Horizontal m l s numbers (at 0) ≡ get_or numbers (at 0) 0
  begun = rw (in_row 0 (omega arith), lt-ltb (0 * s + sample) s (omega (arith, first))) refl

  -- each later pixel is kept as a difference
  goes_on : (c : ℕ) → c < last
      → stored_difference Horizontal m l s numbers (at (suc c))
      ≡ (get_or numbers (at (suc c)) 0 + m - get_or numbers (at c) 0) % m
  goes_on c h =
      let u : at (suc c) - s ≡ at c = omega arith in
      rw (in_row (suc c) (omega (arith, h)), le-ltb (suc c * s + sample) s (omega arith), u) refl

  -- the sum of the kept numbers is the number
  pub summed : (d : ℕ → ℕ) → ((c : ℕ) → c ≤ last
      → d c ≡ stored_difference Horizontal m l s numbers (at c))
      → sum_by d (range_with_len 0 (last + 1)) % m ≡ get_or numbers (at last) 0
  summed d e =
      let f : ℕ → ℕ = λ c. stored_difference Horizontal m l s numbers (at c) in
      ap (λ (n : ℕ). n % m) (sum_same (last + 1) 0 d f (λ j a b. e j (omega (arith, b))))
      ∙ ap (λ (n : ℕ). total f n % m) (add-one last)
      ∙ undone (λ c. get_or numbers (at c) 0) f m last (λ c. small (at c)) begun goes_on last (omega arith)

-- the kept numbers are as small as the numbers
pub kept_small : (p : Predictor) (m l s : ℕ) (numbers : List ℕ) (k : ℕ)
    → (p ≡ predictor.None) ⊎ (p ≡ predictor.Horizontal)
    → 0 < m → ((k : ℕ) → get_or numbers k 0 < m) → stored_difference p m l s numbers k < m
kept_small p m l s numbers k c h b =
    let P : Predictor → Type 0 = λ q. stored_difference q m l s numbers k < m in
    elim c as (λ _. P p) [
      | inl e ↦ subst P (sym e) (b k)
      | inr e ↦ subst P (sym e) (elim (cases_lt (k % l) s) as (λ _. P predictor.Horizontal) [
        | inl a ↦ rw (lt-ltb (k % l) s a) (b k)
        | inr a ↦ rw (le-ltb (k % l) s a) (mod_below (get_or numbers k 0
            + m - get_or numbers (k - s) 0) m h)
      ])
    ]
