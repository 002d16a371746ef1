-- Steps of the comparison of two lists.
use Rattle.std.proofs.Common.{◌≡◌, suc, List, [], ◌∷◌, Bool, true, false, ◌&&◌, length, refl, ap}
use Rattle.tiff_ifd.specs.PlainValue.{plain_value_list_of}
use Rattle.tiff_ifd.specs.Same.{same, all_same}
use Rattle.tiff_ifd.specs.View.{plain_value, plain_values}
use Rattle.tiff_ifd.specs.declared.value.Value.{Value}

and_false : (b : Bool) → (b && false) ≡ false
and_false true = refl
and_false false = refl

pub lengths_differ : (xs ys : List Value) → (length xs ≡ length ys → ⊥)
    → all_same (plain_value_list_of (plain_values xs)) (plain_value_list_of (plain_values ys))
    ≡ false
lengths_differ [] [] h = absurd (h refl)
lengths_differ [] (y ∷ ys) h = refl
lengths_differ (x ∷ xs) [] h = refl
lengths_differ (x ∷ xs) (y ∷ ys) h =
    rw (lengths_differ xs ys (λ e. h (ap suc e))) (and_false (same (plain_value x) (plain_value y)))
