-- Numbers that are fitted one by one.
use Rattle.std.proofs.Common.{◌≡◌, ◌++◌, ℕ, List, Ok}
use Rattle.tiff_base.specs.declared.tags.Tag.{Tag}
use Rattle.tiff_base.specs.Answers.{◌>>=◌}
use Rattle.tiff_ifd.specs.Fitted.{fitted_numbers}

-- all numbers give what the numbers that are left give, behind those that are done
abbrev pub AreDone : Tag → ℕ → List ℕ → List ℕ → List ℕ → Type 0
AreDone tag limit all left done =
    fitted_numbers tag limit all ≡ (fitted_numbers tag limit left >>= (λ ns. Ok (done ++ ns)))
