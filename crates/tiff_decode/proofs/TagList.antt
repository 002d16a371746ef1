-- The list of a page's tags.
use Rattle.std.proofs.Common.{◌≡◌, ℕ, ◌≤◌, List, [], ◌∷◌, ◌++◌, Option, None, Some, Result, refl, ap, sym, ◌∙◌, subst, arith}
use Rattle.std.proofs.lemmas.List.{append_assoc, append-nil}
use Rattle.tiff_base.specs.declared.error.TiffError.{TiffError}
use Rattle.tiff_base.specs.declared.tags.Tag.{Tag}
use Rattle.tiff_ifd.specs.PlainValue.{PlainValue}
use Rattle.tiff_ifd.specs.declared.value.Value.{Value}
use Rattle.tiff_ifd.specs.TagQueries.{tag_items}
use Rattle.tiff_decode.specs.Items.{items_left, NextItem}
use Rattle.tiff_decode.specs.Machine.{Decoding}
use Rattle.tiff_decode.specs.Outcome.{tag_iter}
use Rattle.tiff_decode.specs.Step.{ItemIs, ItemsAre}

-- the decoder has returned some items of a page, and those after the last tag number are left
pub record Taken (old now : Decoding) (last : Option ℕ) (made : List (Result (Tag × Value) TiffError)) : Type 0 where
  pub state : now ≡ record old { failures = now.failures }
  pub count : old.failures ≤ now.failures
  pub given : List (Result (Tag × PlainValue) TiffError)
  pub is : tag_iter old ≡ given ++ items_left old last
  pub items : ItemsAre given made old.failures now.failures

pub begun : (d : Decoding) → Taken d d None []
unfolding tag_iter tag_items
begun d = record { state = refl; count = omega arith; given = []; is = refl; items = refl }

-- an item from an equal count of failed reads
earlier : (g : Result (Tag × PlainValue) TiffError) (x : Result (Tag × Value) TiffError) (a b c : ℕ)
    → b ≡ a → ItemIs g x b c → ItemIs g x a c
earlier g x a b c e h = (let P : ℕ → Type 0 = λ n. ItemIs g x n c in subst P e h)

-- one more item after the others
behind : (gs : List (Result (Tag × PlainValue) TiffError)) (xs : List (Result (Tag × Value) TiffError)) (g : Result (Tag × PlainValue) TiffError) (x : Result (Tag × Value) TiffError) (a b c : ℕ)
    → ItemsAre gs xs a b → ItemIs g x b c → ItemsAre (gs ++ g ∷ []) (xs ++ x ∷ []) a c
behind [] [] g x a b c h i = (c, earlier g x a b c h i, refl)
behind [] (y ∷ xs) g x a b c h i = absurd h
behind (f ∷ gs) [] g x a b c h i = absurd h
behind (f ∷ gs) (y ∷ xs) g x a b c h i = (h.0, h.1, behind gs xs g x h.0 b c h.2 i)

-- the items of the decoder are the same as before
same_left : (old now : Decoding) → now ≡ record old { failures = now.failures } → (last : Option ℕ)
    → items_left now last ≡ items_left old last
same_left old now s last = ap (λ (d : Decoding). items_left d last) s

-- the decoder returns one more item
pub one_more : (old now new : Decoding) (last after : Option ℕ)
    (made more : List (Result (Tag × Value) TiffError)) (item : Result (Tag × Value) TiffError)
    → Taken old now last made → new ≡ record now { failures = new.failures }
    → now.failures ≤ new.failures
    → NextItem (items_left now last) (Some item) (items_left now after) now.failures new.failures
    → more ≡ made ++ item ∷ [] → Taken old new after more
one_more old now new last after made more item t s l n m = record {
  state = s ∙ ap (λ (d : Decoding). record d { failures = new.failures }) t.state;
  count = omega (arith, t.count, l);
  given = t.given ++ n.0 ∷ [];
  is = t.is
      ∙ ap (λ (gs : List (Result (Tag × PlainValue) TiffError)). t.given
      ++ gs) (sym (same_left old now t.state last) ∙ n.1
      ∙ ap (λ (gs : List (Result (Tag × PlainValue) TiffError)). n.0 ∷ gs) (same_left old now t.state after))
      ∙ sym (append_assoc t.given (n.0 ∷ []) (items_left old after));
  items =
      subst (λ (xs : List (Result (Tag × Value) TiffError)). ItemsAre (t.given ++ n.0
      ∷ []) xs old.failures new.failures) (sym m)
      (behind t.given made n.0 item old.failures now.failures new.failures t.items n.2);
}

-- at the end the decoder has returned all items
pub ended : (old now : Decoding) (last : Option ℕ) (made : List (Result (Tag × Value) TiffError))
    → Taken old now last made → items_left now last ≡ []
    → ItemsAre (tag_iter old) made old.failures now.failures
ended old now last made t e =
    let all : tag_iter old ≡ t.given =
    t.is ∙ ap (λ (gs : List (Result (Tag × PlainValue) TiffError)). t.given
    ++ gs) (sym (same_left old now t.state last) ∙ e) ∙ append-nil t.given in
    subst (λ (gs : List (Result (Tag × PlainValue) TiffError)). ItemsAre gs made old.failures now.failures) (sym all) t.items
