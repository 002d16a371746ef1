-- The bytes of samples that were made of bytes.
use Rattle.std.proofs.Common.{◌≡◌, ℕ, ◌%◌, List, length, get_or, Fits, w8, ap, sym, ◌∙◌, subst, arith, flat_map}
use Rattle.tiff_base.specs.Number.{le}
use Rattle.tiff_value.specs.declared.encoder.colortype.ColorTypeName.{ColorTypeName}
use Rattle.tiff_value.specs.ColorTypes.{inner_size}
use Rattle.tiff_page.specs.Pixels.{numbers_in}
use Rattle.tiff_page.specs.Row.{IsSize}
use Rattle.tiff_encode.specs.lemmas.NumbersIn.{bytes_again}
use Rattle.tiff_encode.specs.lemmas.Shown.Color.{of_family}

-- Samples that were made of bytes have these bytes.
pub bytes_back : (name : ColorTypeName) (size : ℕ) (bytes samples : List ℕ) → size ≡ inner_size name
    → ((i : ℕ) → Fits w8 (get_or bytes i 0))
    → length bytes % size ≡ 0 → samples ≡ numbers_in size bytes → flat_map (le size) samples ≡ bytes
bytes_back name size bytes samples is octets none are =
    ap (flat_map (le size)) are
    ∙ bytes_again size bytes (subst IsSize (sym is) (of_family name).is_size)
    (λ k. let f = octets k in omega (arith, f)) none
