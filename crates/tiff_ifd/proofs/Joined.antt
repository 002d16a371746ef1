-- Lists that are joined.
use Rattle.std.proofs.Common.{◌≡◌, List, [], ◌∷◌, ◌++◌, length, take, map, Vec, Result, Ok, Err, refl, rules, ap, ◌∙◌, arith, append_assoc, ℤ}
use Rattle.std.specs.Prelude.{IsErrAnd}
use Rattle.std.specs.declared.alloc.Global.{Global}
use Rattle.std.proofs.lemmas.Result.{err_from_is_err_and}
use Rattle.tiff_base.specs.declared.error.TiffError.{TiffError}
use Rattle.std.proofs.Math.Seq.{take-append_seam}
use Rattle.std.proofs.lemmas.List.{map-append, take_all}
use Rattle.tiff_base.specs.Answers.{AnswersWithoutSource, Gives}
use Rattle.tiff_base.specs.lemmas.Causes.{cause_along}
use Rattle.tiff_ifd.specs.Into.{append_numbers, into_i32, into_i64, i32s_of, i64s_of, single_number}
use Rattle.tiff_ifd.specs.View.{plain_value}
use Rattle.tiff_ifd.specs.declared.value.Value.{Value, the_lemmas}
use Rattle.tiff_ifd.specs.declared.value.Value.TheVariants.{SRational, SRationalBig}

pub two_more : {A : Type 0} (xs ys zs : List A) (x y : A) → ys ≡ xs ++ x ∷ [] → zs ≡ ys ++ y ∷ []
    → zs ≡ xs ++ x ∷ y ∷ []
two_more xs ys zs x y p q = q ∙ ap (λ ws. ws ++ y ∷ []) p ∙ append_assoc xs (x ∷ []) (y ∷ [])

pub one_seen : {A B : Type 0} (f : A → B) (xs ys : List A) (x : A) → ys ≡ xs ++ x ∷ []
    → map f ys ≡ map f xs ++ f x ∷ []
one_seen f xs ys x p = ap (map f) p ∙ map-append f xs (x ∷ [])

map_same : {A : Type 0} (xs : List A) → map (λ (x : A). x) xs ≡ xs
map_same [] = refl
map_same (x ∷ xs) = ap (λ ys. x ∷ ys) (map_same xs)

-- the identity on each item leaves a list as it is
pub as_they_are : {A : Type 0} (r : Result (Vec A Global) TiffError) (given : Result (List A) TiffError)
    → AnswersWithoutSource (λ v. map (λ (x : A). x) v.items) r given
    → AnswersWithoutSource (λ v. v.items) r given
as_they_are (Ok v) given h = h ∙ ap (λ xs. Ok xs) (map_same v.items)
as_they_are (Err e) given h = h

-- the front of a list stays when items are appended
pub front_appended : {A : Type 0} (new old xs : List A) → new ≡ old ++ xs
    → take (length old) new ≡ old
front_appended new old xs e = ap (take (length old)) e ∙ take-append_seam old xs

pub front_same : {A : Type 0} (new old : List A) → new ≡ old → take (length old) new ≡ old
front_same new old e = ap (take (length old)) e ∙ take_all (length old) old (omega arith)

-- a value that is no rational has one number at most
pub no_rational : (v : Value)
    → ((n d : ℤ) → v ≡ SRational n d → ⊥) → ((n d : ℤ) → v ≡ SRationalBig n d → ⊥)
    → (i32s_of (plain_value v) ≡ single_number (into_i32 (plain_value v)))
    × (i64s_of (plain_value v) ≡ single_number (into_i64 (plain_value v)))
no_rational (SRational n d) small big = absurd (small n d refl)
no_rational (SRationalBig n d) small big = absurd (big n d refl)
no_rational v small big = search (rules, the_lemmas)

-- a number that is refused leaves the old numbers as they are
pub number_refused : (r : Result (Unit {0}) TiffError) (e : TiffError) (old : List ℤ)
    (one : Result ℤ TiffError) (all : Result (List ℤ) TiffError)
    → IsErrAnd r (λ y. y ≡ e) → all ≡ single_number one → Gives (λ (n : ℤ). n) (Err e) one
    → AnswersWithoutSource (λ _. old) r (append_numbers old all)
number_refused r e old one all answered single refused =
    let a = err_from_is_err_and r answered in
    rw (a.1, a.2, single) (cause_along e (λ w. absurd w) (λ f. f)
    (λ g. ap (λ x. append_numbers old (single_number x)) g) refused)
