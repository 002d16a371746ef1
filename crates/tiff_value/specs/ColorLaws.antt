-- Lemmas for the laws of color types.
use Rattle.std.specs.Prelude.{◌≡◌, ℕ, ◌*◌, ◌^◌, ◌<◌, ◌⊎◌, [], ◌∷◌}
use Rattle.std.proofs.Common.{inl, inr, refl, ap, sym, ◌∙◌, arith, lit<}
use Rattle.std.proofs.lemmas.List.{length-replicate}
use Rattle.std.proofs.lemmas.List.Elements.{All-replicate}
use Rattle.tiff_base.specs.declared.tags.PhotometricInterpretation.{PhotometricInterpretation}
use Rattle.tiff_base.specs.declared.tags.SampleFormat.{SampleFormat}
use Rattle.tiff_value.specs.ColorType.{IsColorType}
use Rattle.tiff_value.specs.ColorTypes.{samples_of}

-- a color type may have `samples` samples of one sample format, each with all the bits of its
-- `size` bytes in memory
pub samples_alike : (interpretation : PhotometricInterpretation) (samples size : ℕ)
    (format : SampleFormat)
    → 0 < samples → samples < 2 ^ 16
    → IsColorType size (samples_of interpretation samples (8 * size) format)
samples_alike interpretation samples size format some few = record {
  some = omega (arith, some, length-replicate samples (8 * size));
  few = omega (arith, few, length-replicate samples (8 * size));
  as_many = length-replicate samples format ∙ sym (length-replicate samples (8 * size));
  full = inl (All-replicate (λ (bits : ℕ). bits ≡ 8 * size) samples (8 * size) refl);
  format = format;
  alike = All-replicate (λ (f : SampleFormat). f ≡ format) samples format refl;
}

-- a list of one of these numbers
listed : (bits : ℕ) → (bits ≡ 1) ⊎ ((bits ≡ 2) ⊎ (bits ≡ 4))
    → (bits ∷ [] ≡ 1 ∷ []) ⊎ ((bits ∷ [] ≡ 2 ∷ []) ⊎ (bits ∷ [] ≡ 4 ∷ []))
listed bits narrow = elim narrow [
  | inl e ↦ inl (ap (λ n. n ∷ []) e)
  | inr t ↦ elim t [
    | inl e ↦ inr (inl (ap (λ n. n ∷ []) e))
    | inr e ↦ inr (inr (ap (λ n. n ∷ []) e))
  ]
]

-- a color type may have one sample of 1, 2 or 4 bits, packed into bytes
pub samples_packed : (interpretation : PhotometricInterpretation) (bits : ℕ) (format : SampleFormat)
    → (bits ≡ 1) ⊎ ((bits ≡ 2) ⊎ (bits ≡ 4))
    → IsColorType 1 (samples_of interpretation 1 bits format)
samples_packed interpretation bits format narrow = record {
  some = lit< tt;
  few = lit< tt;
  as_many = refl;
  full = inr (record { byte = refl; narrow = listed bits narrow });
  format = format;
  alike = All-replicate (λ (f : SampleFormat). f ≡ format) 1 format refl;
}
