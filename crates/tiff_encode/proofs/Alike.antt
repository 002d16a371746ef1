-- The samples of a color type are alike, so their number and the first of them say what all are.
use Rattle.std.proofs.Common.{zero, suc, ◌≡◌, ℕ, ◌+◌, ◌*◌, ◌<◌, inl, inr, List, [], ◌∷◌, ◌++◌, length, replicate, get_or, refl, ap, sym, ◌∙◌, subst, arith}
use Rattle.std.specs.Prelude.{All}
use Rattle.std.proofs.lemmas.List.Elements.{All-head, All-tail}
use Rattle.tiff_base.specs.declared.tags.SampleFormat.{SampleFormat}
use Rattle.tiff_value.specs.ColorType.{ColorTypeRecord, IsColorType}
use Rattle.tiff_encode.specs.Calls.{extended_by_first}

-- a list of equal values repeats its first
module _ {A : Type 0} (y d : A) where
  all_equal : (xs : List A) → All (λ x. x ≡ y) xs → xs ≡ replicate (length xs) y
  all_equal [] h = refl
  all_equal (x ∷ xs) h =
      ap (λ z. z ∷ xs) (All-head (λ x. x ≡ y) x xs h)
      ∙ ap (λ zs. y ∷ zs) (all_equal xs (All-tail (λ x. x ≡ y) x xs h))

  repeats_first : (xs : List A) → All (λ x. x ≡ y) xs → replicate (length xs) (get_or xs 0 d) ≡ xs
  repeats_first [] h = refl
  repeats_first (x ∷ xs) h =
      ap (λ zs. x ∷ zs) (ap (replicate (length xs)) (All-head (λ x. x ≡ y) x xs h)
      ∙ sym (all_equal xs (All-tail (λ x. x ≡ y) x xs h)))

module _ (size : ℕ) (c : ColorTypeRecord) (l : IsColorType size c) where
  bits_repeat : replicate (length c.bits) (get_or c.bits 0 0) ≡ c.bits
  bits_repeat =
      let P : List ℕ → Type 0 = λ bs. replicate (length bs) (get_or bs 0 0) ≡ bs in
      elim l.full [
        | inl full ↦ repeats_first (8 * size) 0 c.bits full
        | inr packed ↦ elim packed.narrow [
          | inl e ↦ subst P (sym e) refl
          | inr t ↦ elim t [ inl e ↦ subst P (sym e) refl | inr e ↦ subst P (sym e) refl ]
        ]
      ]

  -- a color type is what the number of its samples and the first of them say
  pub described_by_first : (d : SampleFormat) (n b : ℕ) (f : SampleFormat) → n ≡ length c.bits
      → b ≡ get_or c.bits 0 0 → f ≡ get_or c.formats 0 d
      → record {
        interpretation = c.interpretation;
        bits = replicate n b;
        formats = replicate n f;
      } ≡ c
  described_by_first d n b f count bits format =
      let bs : replicate n b ≡ c.bits =
      ap (λ k. replicate k b) count ∙ ap (replicate (length c.bits)) bits ∙ bits_repeat in
      let fs : replicate n f ≡ c.formats =
      ap (λ k. replicate k f) (count ∙ sym l.as_many)
      ∙ ap (replicate (length c.formats)) format ∙ repeats_first l.format d c.formats l.alike in
      ap (λ xs. record c { bits = xs; formats = replicate n f }) bs
      ∙ ap (λ xs. record c { formats = xs }) fs

-- a repeated value, extended by more of the same
many_more : {A : Type 0} (k e : ℕ) (x : A) → replicate k x ++ replicate e x ≡ replicate (k + e) x
many_more zero e x = let z : 0 + e ≡ e = omega arith in ap (λ n. replicate n x) (sym z)
many_more (suc k) e x =
    let z : suc k + e ≡ suc (k + e) = omega arith in
    ap (λ xs. x ∷ xs) (many_more k e x) ∙ ap (λ n. replicate n x) (sym z)

-- extending a repeated value by its first element repeats it more often
pub repeated_is : {A : Type 0} (k e : ℕ) (x : A)
    → extended_by_first (replicate (suc k) x) e ≡ replicate (suc (k + e)) x
repeated_is k e x = ap (λ xs. x ∷ xs) (many_more k e x)

pub extended_repeats : {A : Type 0} (x : A) (n e : ℕ) → 0 < n
    → replicate (n + e) x ≡ extended_by_first (replicate n x) e
extended_repeats x zero e some = absurd (omega (arith, some))
extended_repeats x (suc k) e some =
    let z : suc k + e ≡ suc (k + e) = omega arith in
    ap (λ n. replicate n x) z ∙ sym (repeated_is k e x)
