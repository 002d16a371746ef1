-- Rows of samples as differences.
use Rattle.std.proofs.Common.{◌≡◌, ℕ, ◌+◌, ◌-◌, ◌%◌, ◌^◌, ◌<◌, List, map, length, ap, ◌∙◌, arith}
use Rattle.std.specs.List.{range_with_len}
use Rattle.tiff_base.specs.declared.tags.Predictor.TheVariants.{Horizontal}
use Rattle.tiff_value.specs.Differences.{stored_difference}
use Rattle.std.specs.Int.{Width, cast_unsigned, cast_signed, int_wrapping_sub}
use Rattle.std.specs.Int.RustNames.{FitsSigned}
use Rattle.std.proofs.lemmas.Int.{of_z-to_z}
use mir.Val.{bits}
use mir.ValLaws as laws
use lib.IntN.{ℤ}
use lib.Pow.{pow_pos}
use Rattle.std.proofs.Math.Nat.{mod-lt, mod-mod}

-- a signed number minus another, modulo the modulus
pub signed_less : (w : Width) (x y : ℤ) → FitsSigned w y
    → cast_unsigned w (int_wrapping_sub w x y)
    ≡ (cast_unsigned w x + 2 ^ bits w - cast_unsigned w y) % 2 ^ bits w
signed_less w x y f =
    let small : cast_unsigned w y < 2 ^ bits w = (laws.of_z_fits w y f).fits in
    let e : cast_unsigned w x + (2 ^ bits w - cast_unsigned w y) ≡ cast_unsigned w x
    + 2 ^ bits w - cast_unsigned w y = omega (arith, small) in
    of_z-to_z w ((cast_unsigned w x + (2 ^ bits w - cast_unsigned w y)) % 2 ^ bits w)
    (mod-lt (cast_unsigned w x + (2 ^ bits w - cast_unsigned w y)) (pow_pos (bits w)))
    ∙ ap (λ (q : ℕ). q % 2 ^ bits w) e

-- the lowest bits of a number, as a signed number
pub signed_cut : (w : Width) (n : ℕ)
    → cast_unsigned w (cast_signed w (n % 2 ^ bits w)) % 2 ^ bits w ≡ n % 2 ^ bits w
signed_cut w n =
    ap (λ (q : ℕ). q % 2 ^ bits w) (of_z-to_z w (n % 2 ^ bits w) (mod-lt n (pow_pos (bits w))))
    ∙ mod-mod n (2 ^ bits w)

-- the bits of a signed number
pub signed_below : (w : Width) (x : ℤ) → FitsSigned w x → cast_unsigned w x < 2 ^ bits w
signed_below w x f = (laws.of_z_fits w x f).fits

module _ {A : Type 0} (b : A → ℕ) (m s : ℕ) (row : List A) where
  -- the first n differences of a row
  abbrev pub made : ℕ → List ℕ
  made n =
      map (stored_difference Horizontal m (length (map b row)) s (map b row)) (range_with_len 0 n)
