-- Each link that is offered has exactly one result.
use Rattle.std.proofs.Common.{◌≡◌, ◌⊎◌, inl, inr, ℕ, zero, suc, ◌+◌, ◌<◌, ◌≤◌, List, [], ◌∷◌, length, Option, None, Some, Bool, true, false, cond, Result, Ok, Err, refl, ap, sym, ◌∙◌, subst, arith, nat_eq, ◌||◌}
use Rattle.std.specs.List.{list_any}
use Rattle.std.proofs.Common.{Ordering, Less, Equal, Greater}
use Rattle.std.specs.Ordering.{is_eq, eq_by_cmp, nat_cmp}
use Rattle.std.specs.FinMap.{get, insert, entries, find, get-entries, nat_cmp-IsAntisymmetric}
use Rattle.std.proofs.lemmas.Bool.Decides.{nat_tests}
use Rattle.tiff_base.specs.declared.error.TiffError.{TiffError}
use Rattle.tiff_base.specs.declared.error.TiffError.TheVariants.{FormatError}
use Rattle.tiff_base.specs.declared.error.TiffFormatError.TheVariants.{CycleInOffsets}
use Rattle.tiff_ifd.specs.Links.{Links, link_target, Goes, Closes, HasAnother, IsClosing, IsNew, Inserts, IsAnswered, IsOneAnswer}
use Rattle.tiff_ifd.specs.lemmas.Chain.{IsFalseBit, Known, known_more, none_known, full, equal_numbers}

abbrev pub Found : Type 0
Found = Option (Option ℕ)

abbrev pub IsFound : Found → Type 0
IsFound (Some x) = Unit {0}
IsFound None = ⊥

abbrev pub IsLinked : Found → Type 0
IsLinked (Some (Some n)) = Unit {0}
IsLinked (Some None) = ⊥
IsLinked None = ⊥

abbrev pub found_or : Option ℕ → Found → Option ℕ
found_or d (Some x) = x
found_or d None = d

abbrev pub some_or : ℕ → Option ℕ → ℕ
some_or d (Some x) = x
some_or d None = d

-- ---- at most one result

both : (x : Found) (t : Option ℕ) → x ≡ Some t → x ≡ None → ⊥
both x t a b = subst IsFound (sym a ∙ b) tt

same_target : (x : Found) (t u : Option ℕ) → x ≡ Some t → x ≡ Some u → t ≡ u
same_target x t u a b = ap (found_or t) (sym a ∙ b)

accepted_not_refused : (links : Links) (from : ℕ) (t : Option ℕ) → get links from ≡ Some t
    → HasAnother links from t ⊎ IsClosing links from t → ⊥
accepted_not_refused links from t a (inl h) =
    h.differs (same_target (get links from) h.other t h.accepted a)
accepted_not_refused links from t a (inr h) = both (get links from) t a h.free

new_not_refused : (links : Links) (from : ℕ) (t : Option ℕ) → IsNew links from t
    → HasAnother links from t ⊎ IsClosing links from t → ⊥
new_not_refused links from t n (inl h) = both (get links from) h.other h.accepted n.free
new_not_refused links from t n (inr h) = n.unclosed h.closes

pub one_answer : IsOneAnswer
one_answer links from to (Ok false) (Ok false) after last c d = (refl, c.1 ∙ sym d.1)
one_answer links from to (Ok true) (Ok true) after last c d = (refl, c.1 ∙ sym d.1)
one_answer links from to (Ok false) (Ok true) after last c d =
    absurd (both (get links from) (link_target to) c.0 d.0.free)
one_answer links from to (Ok true) (Ok false) after last c d =
    absurd (both (get links from) (link_target to) d.0 c.0.free)
one_answer links from to (Ok false) (Err e) after last c d =
    absurd (accepted_not_refused links from (link_target to) c.0 d.1)
one_answer links from to (Err e) (Ok false) after last c d =
    absurd (accepted_not_refused links from (link_target to) d.0 c.1)
one_answer links from to (Ok true) (Err e) after last c d =
    absurd (new_not_refused links from (link_target to) c.0 d.1)
one_answer links from to (Err e) (Ok true) after last c d =
    absurd (new_not_refused links from (link_target to) d.0 c.1)
one_answer links from to (Err e) (Err f) after last c d = (ap Err (c.0 ∙ sym d.0), c.2 ∙ sym d.2)

-- ---- at least one result

-- each offset that has a link is below this number
abbrev most : List (ℕ × Option ℕ) → ℕ
most [] = 0
most (e ∷ es) = e.0 + 1 + most es

pub equal_order : (r : Ordering) → is_eq r ≡ true → r ≡ Equal
equal_order Equal h = refl
equal_order Less h = absurd (subst IsFalseBit h tt)
equal_order Greater h = absurd (subst IsFalseBit h tt)

below_by : (b : Bool) (q : ℕ) (e : ℕ × Option ℕ) (es : List (ℕ × Option ℕ)) (x : Option ℕ)
    → eq_by_cmp nat_cmp q e.0 ≡ b
    → (find nat_cmp q es ≡ Some x → q < most es) → cond b (Some e.1) (find nat_cmp q es) ≡ Some x
    → q < most (e ∷ es)
below_by true q e es x t f h =
    (let same = nat_cmp-IsAntisymmetric q e.0 (equal_order (nat_cmp q e.0) t) in
    omega (arith, same))
below_by false q e es x t f h = (let rest = f h in omega (arith, rest))

found_below : (q : ℕ) (es : List (ℕ × Option ℕ)) (x : Option ℕ) → find nat_cmp q es ≡ Some x
    → q < most es
found_below q [] x h = absurd (subst IsFound (sym h) tt)
found_below q (e ∷ es) x h = below_by (eq_by_cmp nat_cmp q e.0) q e es x refl (found_below q es x) h

linked_below : (links : Links) (q : ℕ) (x : Option ℕ) → get links q ≡ Some x
    → q < most (entries links)
linked_below links q x h = found_below q (entries links) x (sym (get-entries links q) ∙ h)

-- membership
abbrev pub In : ℕ → List ℕ → Type 0
In q met = list_any (nat_eq q) met ≡ true

in_more : (b c : Bool) → c ≡ true → (b || c) ≡ true
in_more true c h = refl
in_more false c h = h

in_head : (b c : Bool) → b ≡ true → (b || c) ≡ true
in_head true c h = refl
in_head false c h = absurd (subst IsFalseBit h tt)

pub either : (b c : Bool) → (b || c) ≡ true → (b ≡ true) ⊎ (c ≡ true)
either true c h = inl refl
either false c h = inr h

pub itself : (n : ℕ) → nat_eq n n ≡ true
itself n = grind (arith, nat_tests)

pub here : (n : ℕ) (met : List ℕ) → In n (n ∷ met)
here n met = in_head (nat_eq n n) (list_any (nat_eq n) met) (itself n)

pub more : (q n : ℕ) (met : List ℕ) → In q met → In q (n ∷ met)
more q n met h = in_more (nat_eq q n) (list_any (nat_eq q) met) h

not_equal : (q p : ℕ) → nat_eq q p ≡ false → q ≡ p → ⊥
not_equal q p h e =
    let P : ℕ → Type 0 = λ k. nat_eq q k ≡ true in
    let same : nat_eq q p ≡ true = subst P e (itself q) in
    subst IsFalseBit (sym h ∙ same) tt

abbrev IsSome : Option ℕ → Type 0
IsSome (Some n) = Unit {0}
IsSome None = ⊥

by_numbers : (b : Bool) (n m : ℕ) → nat_eq n m ≡ b → (Some n ≡ Some m) ⊎ (Some n ≡ Some m → ⊥)
by_numbers true n m h = inl (ap Some (equal_numbers n m h))
by_numbers false n m h = inr (λ e. not_equal n m h (ap (some_or n) e))

same_option : (t u : Option ℕ) → (t ≡ u) ⊎ (t ≡ u → ⊥)
same_option None None = inl refl
same_option None (Some m) = inr (λ e. subst IsSome (sym e) tt)
same_option (Some n) None = inr (λ e. subst IsSome e tt)
same_option (Some n) (Some m) = by_numbers (nat_eq n m) n m refl

module _ (links : Links) (from : ℕ) where
  -- the offsets passed so far: none is the target of the search, and the link of each, if it has
  -- one, leads to one of them or to `offset`
  record Walked (met : List ℕ) (offset : ℕ) : Type 0 where
    apart : (q : ℕ) → In q met → q ≡ from → ⊥
    on : (q next : ℕ) → In q met → get links q ≡ Some (Some next) → In next (offset ∷ met)

  abbrev Decided : ℕ → Type 0
  Decided offset =
      ((others : List ℕ) × Goes links offset others from)
      ⊎ ((others : List ℕ) → Goes links offset others from → ⊥)

  stuck : (offset : ℕ) (x : Found) → get links offset ≡ x → (IsLinked x → ⊥) → (offset ≡ from → ⊥)
      → (others : List ℕ) → Goes links offset others from → ⊥
  stuck offset x e none apart [] h = apart h
  stuck offset x e none apart (next ∷ others) h = none (subst IsLinked (sym h.0 ∙ e) tt)

  -- the link of each of these offsets, if it has one, leads to one of them
  abbrev Stays : List ℕ → Type 0
  Stays met = (q next : ℕ) → In q met → get links q ≡ Some (Some next) → In next met

  trapped : (met : List ℕ) → ((q : ℕ) → In q met → q ≡ from → ⊥) → Stays met → (q : ℕ) → In q met
      → (others : List ℕ) → Goes links q others from → ⊥
  trapped met apart stays q i [] h = apart q i h
  trapped met apart stays q i (next ∷ others) h =
      trapped met apart stays next (stays q next i h.0) others h.1

  next_of : (offset n m : ℕ) → get links offset ≡ Some (Some n) → get links offset ≡ Some (Some m)
      → n ≡ m
  next_of offset n m a b = ap (λ (x : Found). some_or n (found_or None x)) (sym a ∙ b)

  apart_by : (met : List ℕ) (offset q : ℕ) → Walked met offset → (offset ≡ from → ⊥)
      → (nat_eq q offset ≡ true) ⊎ In q met → q ≡ from → ⊥
  apart_by met offset q w a (inl h) e = a (sym (equal_numbers q offset h) ∙ e)
  apart_by met offset q w a (inr h) e = w.apart q h e

  apart_more : (met : List ℕ) (offset : ℕ) → Walked met offset → (offset ≡ from → ⊥) → (q : ℕ)
      → In q (offset ∷ met) → q ≡ from → ⊥
  apart_more met offset w a q i =
      apart_by met offset q w a (either (nat_eq q offset) (list_any (nat_eq q) met) i)

  -- where these offsets and this one lead, if it is known where this one leads
  leads_by : (met : List ℕ) (offset next : ℕ) (all : List ℕ) → Walked met offset
      → get links offset ≡ Some (Some next)
      → In next all → ((q : ℕ) → In q (offset ∷ met) → In q all)
      → (q n : ℕ) → (nat_eq q offset ≡ true) ⊎ In q met → get links q ≡ Some (Some n) → In n all
  leads_by met offset next all w g i wide q n (inl h) l =
      let same : q ≡ offset = equal_numbers q offset h in
      let P : ℕ → Type 0 = λ k. get links k ≡ Some (Some n) in
      let Q : ℕ → Type 0 = λ k. In k all in
      subst Q (next_of offset next n g (subst P same l)) i
  leads_by met offset next all w g i wide q n (inr h) l = wide n (w.on q n h l)

  leads : (met : List ℕ) (offset next : ℕ) (all : List ℕ) → Walked met offset
      → get links offset ≡ Some (Some next)
      → In next all → ((q : ℕ) → In q (offset ∷ met) → In q all)
      → (q n : ℕ) → In q (offset ∷ met) → get links q ≡ Some (Some n) → In n all
  leads met offset next all w g i wide q n j =
      leads_by met offset next all w g i wide q n (either (nat_eq q offset) (list_any (nat_eq q) met) j)

  turn_back : (met : List ℕ) (offset next : ℕ) → Walked met offset → (offset ≡ from → ⊥)
      → get links offset ≡ Some (Some next)
      → In next (offset ∷ met) → Decided offset
  turn_back met offset next w a g i =
      inr (trapped (offset ∷ met) (apart_more met offset w a) (leads met offset next (offset
      ∷ met) w g i (λ q h. h)) offset (here offset met))

  not_on : (offset next : ℕ) → (offset ≡ from → ⊥) → get links offset ≡ Some (Some next)
      → ((others : List ℕ) → Goes links next others from → ⊥) → (others : List ℕ)
      → Goes links offset others from → ⊥
  not_on offset next a g h [] e = a e
  not_on offset next a g h (n ∷ others) e =
      let P : ℕ → Type 0 = λ k. Goes links k others from in
      h others (subst P (sym (next_of offset next n g e.0)) e.1)

  go_on : (offset next : ℕ) → (offset ≡ from → ⊥) → get links offset ≡ Some (Some next)
      → Decided next → Decided offset
  go_on offset next a g (inl h) = inl (next ∷ h.0, (g, h.1))
  go_on offset next a g (inr h) = inr (not_on offset next a g h)

  by_member : (b : Bool) (met : List ℕ) (offset next : ℕ)
      → list_any (nat_eq next) (offset ∷ met) ≡ b → Walked met offset → (offset ≡ from → ⊥)
      → get links offset ≡ Some (Some next)
      → (list_any (nat_eq next) (offset ∷ met) ≡ false → Decided next) → Decided offset
  by_member true met offset next h w a g rest = turn_back met offset next w a g h
  by_member false met offset next h w a g rest = go_on offset next a g (rest h)

  -- a decision for the next offset is also a decision for this one
  abbrev Rest : List ℕ → ℕ → Type 0
  Rest met offset =
      (next : ℕ) → (offset ≡ from → ⊥) → get links offset ≡ Some (Some next)
      → list_any (nat_eq next) (offset ∷ met) ≡ false → Decided next

  by_found : (x : Found) (met : List ℕ) (offset : ℕ) → get links offset ≡ x → Walked met offset
      → (offset ≡ from → ⊥) → Rest met offset → Decided offset
  by_found None met offset e w a rest = inr (stuck offset None e (λ x. x) a)
  by_found (Some None) met offset e w a rest = inr (stuck offset (Some None) e (λ x. x) a)
  by_found (Some (Some next)) met offset e w a rest =
      by_member (list_any (nat_eq next) (offset ∷ met)) met offset next refl w a e (rest next a e)

  by_here : (b : Bool) (met : List ℕ) (offset : ℕ) → nat_eq offset from ≡ b → Walked met offset
      → Rest met offset → Decided offset
  by_here true met offset h w rest = inl ([], equal_numbers offset from h)
  by_here false met offset h w rest =
      by_found (get links offset) met offset refl w (λ e. not_equal offset from h e) rest

  walked_more : (met : List ℕ) (offset next : ℕ) → Walked met offset → (offset ≡ from → ⊥)
      → get links offset ≡ Some (Some next) → Walked (offset ∷ met) next
  walked_more met offset next w a g = record {
    apart = apart_more met offset w a;
    on =
        leads met offset next (next ∷ offset ∷ met) w g (here next (offset
        ∷ met)) (λ q h. more q next (offset ∷ met) h);
  }

  decide : (steps : ℕ) (met : List ℕ) (offset : ℕ) → most (entries links) ≤ steps + length met
      → Known (most (entries links)) met
      → list_any (nat_eq offset) met ≡ false → Walked met offset → Decided offset
  decide zero met offset f k n w =
      by_here (nat_eq offset from) met offset refl w (λ next a g m.
      absurd (full (most (entries links)) offset met (linked_below links offset (Some next) g) n k (omega (arith, f))))
  decide (suc steps) met offset f k n w =
      by_here (nat_eq offset from) met offset refl w (λ next a g m.
      decide steps (offset ∷ met) next (omega (arith, f))
      (known_more (most (entries links)) offset met (linked_below links offset (Some next) g) n k) m (walked_more met offset next w a g))

  decided_of : (to : ℕ) → Decided to
      → Closes links from (Some to) ⊎ (Closes links from (Some to) → ⊥)
  decided_of to (inl h) = inl h
  decided_of to (inr h) = inr (λ c. h c.0 c.1)

  closes_or_not : (to : Option ℕ) → Closes links from to ⊎ (Closes links from to → ⊥)
  closes_or_not None = inr (λ h. h)
  closes_or_not (Some to) =
      decided_of to (decide (most (entries links)) [] to (omega arith) (none_known (most (entries links))) refl
      (record { apart = λ q h. absurd (subst IsFalseBit h tt); on = λ q next h. absurd (subst IsFalseBit h tt) }))

  -- one of the results
  abbrev Answered : Option ℕ → Type 0
  Answered to =
      (answer : Result Bool TiffError) × (after : Links) × Inserts links from to answer after

  refused : (to : Option ℕ) → HasAnother links from (link_target to)
      ⊎ IsClosing links from (link_target to) → Answered to
  refused to h = (Err (FormatError CycleInOffsets), links, (refl, h, refl))

  by_target : (to t : Option ℕ) → get links from ≡ Some t
      → (t ≡ link_target to) ⊎ (t ≡ link_target to → ⊥) → Answered to
  by_target to t g (inl h) = (Ok false, links, (g ∙ ap Some h, refl))
  by_target to t g (inr h) = refused to (inl (record { other = t; accepted = g; differs = h }))

  by_closing : (to : Option ℕ) → get links from ≡ None
      → Closes links from (link_target to) ⊎ (Closes links from (link_target to) → ⊥) → Answered to
  by_closing to g (inl h) = refused to (inr (record { free = g; closes = h }))
  by_closing to g (inr h) =
      (Ok true, insert links from (link_target to), (record { free = g; unclosed = h }, refl))

  by_look : (to : Option ℕ) (x : Found) → get links from ≡ x → Answered to
  by_look to None g = by_closing to g (closes_or_not (link_target to))
  by_look to (Some t) g = by_target to t g (same_option t (link_target to))

pub some_answer : IsAnswered
some_answer links from to = by_look links from to (get links from) refl
