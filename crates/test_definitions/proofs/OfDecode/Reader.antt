-- The worked examples of `Decode.Reader` hold.
use Rattle.std.specs.Prelude.{refl, get_or, length}
use Rattle.std.proofs.Common.{◌≡◌, ℕ, ◌≤◌, List, [], ◌∷◌, ◌++◌, ap, inr, arith, lit<, lit≤}
use Rattle.tiff_base.specs.declared.tags.Tag.TheVariants as tag
use Rattle.tiff_base.specs.lemmas.Causes.{named_cause}
use Rattle.tiff_decode.specs.Reader.{EachGives, FirstUnfit}
use Rattle.test_definitions.specs.Decode.Reader as s

-- the third number isn't the first that doesn't fit, as the second doesn't fit either
later : (before fitting after : List ℕ) (n : ℕ) → 7 ∷ 256 ∷ 300 ∷ [] ≡ before ++ n ∷ after
    → EachGives s.byte before fitting → n ≡ 300 → ⊥
later [] fitting after n e f p = omega (arith, ap (λ xs. get_or xs 0 0) e, p)
later (b ∷ []) fitting after n e f p = omega (arith, ap (λ xs. get_or xs 1 0) e, p)
later (b ∷ c ∷ bs) [] after n e f p = f
later (b ∷ c ∷ bs) (x ∷ []) after n e f p = f.1
later (b ∷ c ∷ bs) (x ∷ y ∷ ys) after n e f p = omega (arith, ap (λ xs. get_or xs 1 0) e, f.1.0.1)

-- both numbers fit into a byte
both_fit : (before after : List ℕ) (n : ℕ) → 7 ∷ 255 ∷ [] ≡ before ++ n ∷ after → 256 ≤ n → ⊥
both_fit [] after n e l = omega (arith, ap (λ xs. get_or xs 0 0) e, l)
both_fit (b ∷ []) after n e l = omega (arith, ap (λ xs. get_or xs 1 0) e, l)
both_fit (b ∷ c ∷ []) after n e l = omega (arith, ap length e)
both_fit (b ∷ c ∷ d ∷ bs) after n e l = omega (arith, ap length e)

-- an empty list contains no number
none_in : (before after : List ℕ) (n : ℕ) → [] ≡ before ++ n ∷ after → ⊥
none_in [] after n e = omega (arith, ap length e)
none_in (b ∷ bs) after n e = omega (arith, ap length e)

pub fits : s.fits
fits = (refl, lit< tt)

pub second_unfit : s.second_unfit
second_unfit =
    record { before = 7 ∷ []; fitting = 7 ∷ []; n = 256; after = 300 ∷ []; is = refl; fits = ((refl, lit< tt), tt); unfit = (tt, lit≤ tt, refl) }

pub third_later : s.third_later
third_later = λ u. later u.before u.fitting u.after u.n u.is u.fits

pub none_is_unfit : s.none_is_unfit
none_is_unfit = λ e u. both_fit u.before u.after u.n u.is u.unfit.1

pub no_list_unfit : s.no_list_unfit
no_list_unfit = λ e u. none_in u.before u.after u.n u.is

great : FirstUnfit {X = ℕ} {E = Unit {0}} s.byte tag.ImageWidth (7 ∷ 256 ∷ []) s.unfit
great =
    record { before = 7 ∷ []; fitting = 7 ∷ []; n = 256; after = []; is = refl; fits = ((refl, lit< tt), tt); unfit = (tt, lit≤ tt, refl) }

pub numbers_great : s.numbers_great
numbers_great = named_cause _ refl great

pub numbers_refused : s.numbers_refused
numbers_refused = λ u. none_is_unfit s.unfit (u.other refl)

pub list_great : s.list_great
list_great = named_cause _ refl (inr (7 ∷ 256 ∷ [], refl, great))

pub ruleset worked =
    (second_unfit, none_is_unfit, no_list_unfit, numbers_great, numbers_refused, list_great)
