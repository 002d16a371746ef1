-- Items that are put into a slice.
use Rattle.std.proofs.Common.{◌≡◌, ℕ, List, ◌++◌, length, take, drop, min, ap, ◌∙◌, arith}
use Rattle.std.proofs.lemmas.List.{drop_min, take_min}

-- As many items as fit are in front.
pub put_front : {A : Type 0} (items old part : List A) (n : ℕ) → n ≡ min (length old) (length items)
    → part ≡ take n items
    → part ++ drop n old ≡ take (length old) items ++ drop (length items) old
put_front items old part n e p =
    let front : part ≡ take (length old) items =
    p ∙ ap (λ (k : ℕ). take k items) e ∙ take_min (length old) items in
    let other : n ≡ min (length items) (length old) = omega (arith, e) in
    let back : drop n old ≡ drop (length items) old =
    ap (λ (k : ℕ). drop k old) other ∙ drop_min (length items) old in
    (λ i. front i ++ back i)
