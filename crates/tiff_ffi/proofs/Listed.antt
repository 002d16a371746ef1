-- Lists of which a slice holds as many items as fit.
use Rattle.std.proofs.Common.{◌≡◌, ℕ, zero, suc, ◌+◌, ◌<◌, List, [], ◌∷◌, ◌++◌, length, map, take, drop, get_or, slice_set, Some, ap, sym, ◌∙◌, arith}
use Rattle.std.specs.List.{slice_get}

-- ---- as many as there is room for

module _ {A : Type 0} where
  set_next : (xs ys : List A) (i : ℕ) (x : A) → slice_get xs i ≡ Some x → i < length ys
      → slice_set (take i xs ++ drop i ys) i x ≡ take (suc i) xs ++ drop (suc i) ys
  set_next [] ys i x h l = absurd (cc)
  set_next (a ∷ xs) [] i x h l = absurd (omega arith)
  set_next (a ∷ xs) (b ∷ ys) zero x h l = (let e : a ≡ x = cc in ap (λ (y : A). y ∷ ys) (sym e))
  set_next (a ∷ xs) (b ∷ ys) (suc i) x h l =
      (let m : i < length ys = omega (arith, l) in ap (λ (zs : List A). a ∷ zs) (set_next xs ys i x h m))

map_at : {A B : Type 0} (f : A → B) (xs : List A) (i : ℕ) (x : A) → slice_get xs i ≡ Some x
    → slice_get (map f xs) i ≡ Some (f x)
map_at f [] i x h = absurd (cc)
map_at f (a ∷ xs) zero x h = (let e : a ≡ x = cc in ap (λ y. Some (f y)) e)
map_at f (a ∷ xs) (suc i) x h = map_at f xs i x h

-- The item at an index.
pub item_there : {A : Type 0} (xs : List A) (i : ℕ) (x : A) → i < length xs → x ≡ get_or xs i x
    → slice_get xs i ≡ Some x
item_there [] i x l h = absurd (omega arith)
item_there (a ∷ xs) zero x l h = (let e : x ≡ a = h in cc)
item_there (a ∷ xs) (suc i) x l h =
    (let m : i < length xs = omega (arith, l) in item_there xs i x m h)

-- One more item is in its place.
module _ {A B : Type 0} (f : A → B) where
  pub filled_more : (items : List A) (old out : List B) (i : ℕ) (item : A) (told : B)
      → out ≡ take i (map f items) ++ drop i old → slice_get items i ≡ Some item
      → told ≡ f item → i < length old
      → slice_set out i told ≡ take (i + 1) (map f items) ++ drop (i + 1) old
  filled_more items old out i item told h is t l =
      let n : suc i ≡ i + 1 = omega arith in
      ap (λ (xs : List B). slice_set xs i told) h
      ∙ set_next (map f items) old i told (map_at f items i item is
      ∙ ap (λ (y : B). Some y) (sym t)) l
      ∙ ap (λ (k : ℕ). take k (map f items) ++ drop k old) n
