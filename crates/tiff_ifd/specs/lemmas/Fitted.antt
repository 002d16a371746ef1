-- Numbers that are all below a limit.
use Rattle.std.proofs.Common.{◌≡◌, ◌<◌, ℕ, suc, List, [], ◌∷◌, Ok, refl, get_or}
use Rattle.std.proofs.lemmas.Bool.{lt-ltb}
use Rattle.tiff_base.specs.declared.tags.Tag.{Tag}
use Rattle.tiff_ifd.specs.Fitted.{fit, fitted_numbers}

fits : (tag : Tag) (limit n : ℕ) → n < limit → fit tag limit n ≡ Ok n
fits tag limit n h = rw (lt-ltb n limit h) refl

pub all_fit : (tag : Tag) (limit : ℕ) (ns : List ℕ) → ((i : ℕ) → get_or ns i 0 < limit)
    → fitted_numbers tag limit ns ≡ Ok ns
all_fit tag limit [] h = refl
all_fit tag limit (n ∷ ns) h =
    rw (fits tag limit n (h 0), all_fit tag limit ns (λ i. h (suc i))) refl
