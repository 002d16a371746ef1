-- Accepted links that are followed from an offset: as many steps as there are links are enough.
use Rattle.std.proofs.Common.{◌≡◌, ℕ, suc, ◌+◌, ◌-◌, ◌<◌, ◌≤◌, List, [], ◌∷◌, length, Option, None, Some, Bool, true, false, cond, refl, ap, sym, ◌∙◌, subst, arith}
use Rattle.std.specs.Prelude.{is_some}
use Rattle.std.specs.Ordering.{eq_by_cmp, nat_cmp}
use Rattle.std.specs.Cmp.{nat_cmp_total}
use Rattle.std.specs.FinMap.{get, remove, len, entries, find, get-entries, len-entries, get-remove, len-remove, nat_cmp-IsAntisymmetric}
use Rattle.tiff_ifd.specs.Links.{Links, Goes, Closes}
use Rattle.tiff_ifd.specs.lemmas.Links.{Found, IsFound, IsLinked, some_or, found_or, equal_order}

next_of : (links : Links) (offset n m : ℕ) → get links offset ≡ Some (Some n)
    → get links offset ≡ Some (Some m) → n ≡ m
next_of links offset n m a b = ap (λ (x : Found). some_or n (found_or None x)) (sym a ∙ b)

pub no_link_and_link : (x : Found) (t : Option ℕ) → x ≡ Some t → x ≡ None → ⊥
no_link_and_link x t a b = subst IsFound (sym a ∙ b) tt

-- ---- offsets on the way differ

-- at most one way leads to an offset that has no link
same_length : (links : Links) (from : ℕ) → get links from ≡ None → (p : ℕ) (xs ys : List ℕ)
    → Goes links p xs from → Goes links p ys from → length xs ≡ length ys
same_length links from free p [] [] a b = refl
same_length links from free p [] (y ∷ ys) a b =
    let P : ℕ → Type 0 = λ k. get links k ≡ Some (Some y) in
    absurd (no_link_and_link (get links from) (Some y) (subst P a b.0) free)
same_length links from free p (x ∷ xs) [] a b =
    let P : ℕ → Type 0 = λ k. get links k ≡ Some (Some x) in
    absurd (no_link_and_link (get links from) (Some x) (subst P b a.0) free)
same_length links from free p (x ∷ xs) (y ∷ ys) a b =
    let P : ℕ → Type 0 = λ k. Goes links k ys from in
    ap suc (same_length links from free x xs ys a.1 (subst P (sym (next_of links p x y a.0 b.0)) b.1))

kept_by : (b : Bool) (links : Links) (from to : ℕ) → get links from ≡ None → (all : List ℕ)
    → Goes links to all from
    → (p x : ℕ) (xs : List ℕ) → length (x ∷ xs) < length all → Goes links p (x ∷ xs) from
    → eq_by_cmp nat_cmp p to ≡ b → get (remove links to) p ≡ get links p
kept_by true links from to free all h p x xs less g e =
    let same : p ≡ to = nat_cmp-IsAntisymmetric p to (equal_order (nat_cmp p to) e) in
    let P : ℕ → Type 0 = λ k. Goes links k (x ∷ xs) from in
    let as_long : length (x ∷ xs) ≡ length all =
    same_length links from free to (x ∷ xs) all (subst P same g) h in
    absurd (omega (arith, less, as_long))
kept_by false links from to free all h p x xs less g e =
    get-remove nat_cmp_total links to p ∙ ap (λ (b : Bool). cond b None (get links p)) e

-- the way stays the same without the link of an earlier offset
kept : (links : Links) (from to : ℕ) → get links from ≡ None → (all : List ℕ)
    → Goes links to all from
    → (p : ℕ) (xs : List ℕ) → length xs < length all → Goes links p xs from
    → Goes (remove links to) p xs from
kept links from to free all h p [] less g = g
kept links from to free all h p (x ∷ xs) less g =
    (kept_by (eq_by_cmp nat_cmp p to) links from to free all h p x xs less g refl ∙ g.0, kept links from to free all h x xs (omega (arith, less)) g.1)

still_by : (b : Bool) (x : Found) → x ≡ None → cond b None x ≡ None
still_by true x h = refl
still_by false x h = h

still_free : (links : Links) (from to : ℕ) → get links from ≡ None
    → get (remove links to) from ≡ None
still_free links from to free =
    get-remove nat_cmp_total links to from
    ∙ still_by (eq_by_cmp nat_cmp from to) (get links from) free

some_entry : (q : ℕ) (es : List (ℕ × Option ℕ)) (x : Option ℕ) → find nat_cmp q es ≡ Some x
    → 0 < length es
some_entry q [] x h = absurd (subst IsFound (sym h) tt)
some_entry q (e ∷ es) x h = omega arith

-- the map with one link less
one_less : (links : Links) (to : ℕ) (x : Option ℕ) → get links to ≡ Some x
    → len (remove links to) + 1 ≡ len links
one_less links to x h =
    let some : 0 < length (entries links) =
    some_entry to (entries links) x (sym (get-entries links to) ∙ h) in
    let less : len (remove links to) ≡ len links - 1 =
    len-remove nat_cmp_total links to
    ∙ ap (λ (y : Found). cond (is_some y) (len links - 1) (len links)) h in
    omega (arith, some, less, len-entries links)

-- a way to an offset that has no link has at most as many steps as there are links
pub no_longer : (links : Links) (from : ℕ) → get links from ≡ None → (to : ℕ) (others : List ℕ)
    → Goes links to others from → length others ≤ len links
no_longer links from free to [] h = omega arith
no_longer links from free to (n ∷ others) h =
    let rest = kept links from to free (n ∷ others) h n others (omega arith) h.1 in
    let fewer : length others ≤ len (remove links to) =
    no_longer (remove links to) from (still_free links from to free) n others rest in
    omega (arith, fewer, one_less links to (Some n) h.0)

-- ---- the walk

-- so many accepted links lead from one offset to another
pub record Gone (links : Links) (from to offset steps : ℕ) : Type 0 where
  pub there : (others : List ℕ) → Goes links offset others from
      → (all : List ℕ) × Goes links to all from
  pub back : (others : List ℕ) → Goes links to others from
      → (rest : List ℕ) × (length others ≡ steps + length rest) × Goes links offset rest from

pub still_here : (links : Links) (from to : ℕ) → Gone links from to to 0
still_here links from to =
    record { there = λ others h. (others, h); back = λ others h. (others, omega arith, h) }

on_by : (links : Links) (from to offset next steps : ℕ) → (offset ≡ from → ⊥)
    → get links offset ≡ Some (Some next)
    → (others rest : List ℕ) → length others ≡ steps + length rest → Goes links offset rest from
    → (left : List ℕ) × (length others ≡ steps + 1 + length left) × Goes links next left from
on_by links from to offset next steps apart g others [] e h = absurd (apart h)
on_by links from to offset next steps apart g others (n ∷ rest) e h =
    let P : ℕ → Type 0 = λ k. Goes links k rest from in
    (rest, omega (arith, e), subst P (sym (next_of links offset next n g h.0)) h.1)

pub gone_on : (links : Links) (from to offset next steps : ℕ) → (offset ≡ from → ⊥)
    → get links offset ≡ Some (Some next)
    → Gone links from to offset steps → Gone links from to next (steps + 1)
gone_on links from to offset next steps apart g w = record {
  there = λ others h. w.there (next ∷ others) (g, h);
  back =
      λ others h. (let r = w.back others h in
      on_by links from to offset next steps apart g others r.0 r.1 r.2);
}

-- the search meets the offset
pub met : (links : Links) (from to offset steps : ℕ) → offset ≡ from
    → Gone links from to offset steps → Closes links from (Some to)
met links from to offset steps e w = w.there [] e

stuck : (links : Links) (from offset : ℕ) → (offset ≡ from → ⊥) → (IsLinked (get links offset) → ⊥)
    → (rest : List ℕ) → Goes links offset rest from → ⊥
stuck links from offset apart none [] h = apart h
stuck links from offset apart none (n ∷ rest) h = none (subst IsLinked (sym h.0) tt)

-- the way ends before the offset
pub ended : (links : Links) (from to offset steps : ℕ) → (offset ≡ from → ⊥)
    → (IsLinked (get links offset) → ⊥)
    → Gone links from to offset steps → Closes links from (Some to) → ⊥
ended links from to offset steps apart none w c =
    (let r = w.back c.0 c.1 in stuck links from offset apart none r.0 r.2)

longer : (links : Links) (from offset : ℕ) → (offset ≡ from → ⊥) → (rest : List ℕ)
    → Goes links offset rest from → 0 < length rest
longer links from offset apart [] h = absurd (apart h)
longer links from offset apart (n ∷ rest) h = omega arith

-- where so many steps are not enough, no number of steps is
pub too_far : (links : Links) (from to offset steps : ℕ) → get links from ≡ None
    → (offset ≡ from → ⊥) → len links ≤ steps
    → Gone links from to offset steps → Closes links from (Some to) → ⊥
too_far links from to offset steps free apart all w c =
    let r = w.back c.0 c.1 in
    let some : 0 < length r.0 = longer links from offset apart r.0 r.2 in
    let most : length c.0 ≤ len links = no_longer links from free to c.0 c.1 in
    let e : length c.0 ≡ steps + length r.0 = r.1 in
    omega (arith, all, some, most, e)
