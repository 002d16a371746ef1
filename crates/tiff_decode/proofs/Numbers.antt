-- The conversion of numbers to another type, one by one.
use Rattle.std.proofs.Common.{ℕ, ◌+◌, ◌<◌, List, [], ◌∷◌, ◌++◌, length, take, drop, get_or, Result, Ok, Err, refl, ap, sym, ◌∙◌, subst}
use Rattle.std.proofs.lemmas.List.{take_more, take-append-drop, drop_more}
use Rattle.tiff_base.specs.declared.error.TiffError.{TiffError}
use Rattle.tiff_base.specs.declared.tags.Tag.{Tag}
use Rattle.tiff_base.specs.Answers.{IsCause}
use Rattle.tiff_base.specs.lemmas.Causes.{named_cause}
use Rattle.tiff_decode.specs.Reader.{EachGives, FirstUnfit, IsNumber}

each_more : {X E : Type 0} (gives : ℕ → Result X E → Type 0) (ns : List ℕ) (xs : List X) (n : ℕ) (x : X)
    → EachGives gives ns xs → gives n (Ok x) → EachGives gives (ns ++ n ∷ []) (xs ++ x ∷ [])
each_more gives [] [] n x h g = (g, tt)
each_more gives [] (y ∷ xs) n x h g = absurd h
each_more gives (m ∷ ns) [] n x h g = absurd h
each_more gives (m ∷ ns) (y ∷ xs) n x h g = (h.0, each_more gives ns xs n x h.1 g)

-- one more number
pub next_number : {X E : Type 0} (gives : ℕ → Result X E → Type 0) (ns : List ℕ) (xs : List X)
    (i : ℕ) (d : ℕ) (x : X)
    → i < length ns → EachGives gives (take i ns) xs → gives (get_or ns i d) (Ok x)
    → EachGives gives (take (i + 1) ns) (xs ++ x ∷ [])
next_number gives ns xs i d x l h g =
    let P : List ℕ → Type 0 = λ ms. EachGives gives ms (xs ++ x ∷ []) in
    subst P (sym (take_more ns i d l)) (each_more gives (take i ns) xs (get_or ns i d) x h g)

-- the first number that does not fit
pub first_unfit : {X E : Type 0} (gives : ℕ → Result X E → Type 0) (tag : Tag) (ns : List ℕ)
    (xs : List X) (i : ℕ) (d : ℕ) (e : TiffError)
    → i < length ns → EachGives gives (take i ns) xs
    → IsNumber {X = X} gives tag (get_or ns i d) (Err e)
    → IsCause (Unit {0}) ⊥ e (FirstUnfit {X = X} gives tag ns e)
first_unfit {X} gives tag ns xs i d e l h u =
    let P : TiffError → Type 0 = λ x. IsCause (Unit {0}) ⊥ x (FirstUnfit {X = X} gives tag ns x) in
    subst P (sym u.2) (named_cause _ refl (record {
      before = take i ns;
      fitting = xs;
      n = get_or ns i d;
      after = drop (i + 1) ns;
      is =
          sym (take-append-drop i ns) ∙ ap (λ (rest : List ℕ). take i ns
          ++ rest) (drop_more ns i d l);
      fits = h;
      unfit = (u.0, u.1, refl);
    }))
