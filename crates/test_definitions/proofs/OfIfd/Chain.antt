-- The worked examples of `Ifd.Chain` hold.
use Rattle.std.specs.Prelude.{refl, ◌≡◌, ℕ, Bool, true, false, List, [], ◌∷◌, ◌++◌, length, Option, Some, None, Result, Ok, Err}
use Rattle.std.proofs.Common.{subst, sym, ap, ◌∙◌, arith, inl, inr}
use Rattle.std.specs.List.{IsDistinct}
use Rattle.std.proofs.lemmas.Bool.Decides.{nat_tests}
use Rattle.std.specs.Ordering.{nat_cmp}
use Rattle.std.specs.Cmp.{nat_cmp_total}
use Rattle.std.specs.FinMap.{find, get, get-from_entries}
use Rattle.tiff_base.specs.declared.error.TiffError.{TiffError}
use Rattle.tiff_base.specs.declared.tags.ByteOrder.TheVariants.{LittleEndian}
use Rattle.tiff_base.specs.declared.tags.FileKind.TheVariants.{Classic}
use Rattle.tiff_ifd.specs.Chain.{link_from, AreEntered}
use Rattle.tiff_ifd.specs.Links.{Links, Goes}
use Rattle.test_definitions.specs.Ifd.Chain as s
use Rattle.tiff.proofs.OnLiterals.{tiff_on_literals}

-- a look-up in links that are made from a list is a search in that list
pub looked : (links : List (ℕ × Option ℕ)) (q : ℕ) → get (s.accepted links) q ≡ find nat_cmp q links
looked = get-from_entries nat_cmp_total

abbrev IsTrue : Bool → Type 0
IsTrue true = Unit {0}
IsTrue false = ⊥

abbrev IsFault : Result (Option ℕ) TiffError → Type 0
IsFault (Ok x) = ⊥
IsFault (Err e) = Unit {0}

-- in an empty file no offset is entered
only_none : (others : List ℕ) → AreEntered (link_from Classic LittleEndian []) [] (Some 0) others
    → (rest : List ℕ) × ([] ≡ others ++ rest)
unfolding tiff_on_literals
only_none [] h = ([], refl)
only_none (offset ∷ others) h = absurd (subst IsFault h.2 tt)

abbrev pub IsLinked : Option (Option ℕ) → Type 0
IsLinked (Some (Some n)) = Unit {0}
IsLinked (Some None) = ⊥
IsLinked None = ⊥

abbrev IsOffset : ℕ → Option ℕ → Type 0
IsOffset n (Some m) = n ≡ m
IsOffset n None = ⊥

-- accepted links end at an offset whose link leads nowhere
pub stuck : (links : Links) (at last : ℕ) (x : Option (Option ℕ)) → get links at ≡ x
    → (IsLinked x → ⊥) → (at ≡ last → ⊥) → (others : List ℕ) → Goes links at others last → ⊥
stuck links at last x e none apart [] h = apart h
stuck links at last x e none apart (next ∷ others) h = none (subst IsLinked (sym h.0 ∙ e) tt)

pub the_first : s.the_first
unfolding tiff_on_literals
the_first = (refl, Some 6, refl, tt)

pub both : s.both
unfolding tiff_on_literals
both = (refl, Some 6, refl, (refl, None, refl, tt))

pub a_chain : s.a_chain
unfolding tiff_on_literals
a_chain = (refl, Some 6, refl, (refl, None, refl, refl))

pub none_longest : s.none_longest
unfolding tiff_on_literals
none_longest = record { entered = tt; longest = only_none }

pub one_not_longest : s.one_not_longest
unfolding tiff_on_literals
one_not_longest =
    λ h. (let more = h.longest (0 ∷ 6 ∷ []) (refl, Some 6, refl, (refl, None, refl, tt)) in let e =
    ap length more.1 in omega (arith, e))

pub offsets_apart : s.offsets_apart
unfolding IsDistinct
offsets_apart =
    record { differ = ((refl, tt), (tt, tt)); below = λ offset h. grind (arith, nat_tests) }

pub offset_twice : s.offset_twice
unfolding IsDistinct
offset_twice = λ h. subst IsTrue h.differ.0.0 tt

pub offset_past_end : s.offset_past_end
offset_past_end = λ h. omega (arith, h.below 7 refl)

pub first_link : s.first_link
first_link =
    (record { free = looked [] 8; unclosed = λ h. stuck (s.accepted []) 20 8 None (looked [] 20) (λ x. x) (λ e. omega (arith, e)) h.0 h.1 }, refl)

pub same_link : s.same_link
same_link = (looked ((8, Some 20) ∷ []) 8, refl)

pub other_link : s.other_link
other_link =
    (refl, inl (record { other = Some 20; accepted = looked ((8, Some 20) ∷ []) 8; differs = λ e. omega (arith, subst (IsOffset 20) e refl) }), refl)

pub closing_link : s.closing_link
closing_link =
    (refl, inr (record { free = looked ((8, Some 20) ∷ []) 20; closes = (20 ∷ [], (looked ((8, Some 20) ∷ []) 8, refl)) }), refl)

pub last_link : s.last_link
last_link = (record { free = looked ((8, Some 20) ∷ []) 20; unclosed = λ h. h }, refl)

pub zero_link : s.zero_link
zero_link = (looked ((20, None) ∷ (8, Some 20) ∷ []) 20, refl)

pub second_parent : s.second_parent
second_parent =
    (record { free = looked ((20, None) ∷ (8, Some 20) ∷ []) 30; unclosed = λ h. stuck (s.accepted ((20, None) ∷ (8, Some 20) ∷ [])) 20 30 (Some None) (looked ((20, None) ∷ (8, Some 20) ∷ []) 20) (λ x. x) (λ e. omega (arith, e)) h.0 h.1 }, refl)

pub own_link : s.own_link
own_link =
    (refl, inr (record { free = looked ((30, Some 20) ∷ (20, None) ∷ (8, Some 20) ∷ []) 40; closes = ([], refl) }), refl)

pub ruleset worked = (
  the_first,
  both,
  a_chain,
  none_longest,
  one_not_longest,
  offsets_apart,
  offset_twice,
  offset_past_end,
  first_link,
  same_link,
  other_link,
  closing_link,
  last_link,
  zero_link,
  second_parent,
  own_link,
)
