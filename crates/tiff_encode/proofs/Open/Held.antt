-- What a model holds of a directory stays held if more is written and if tags are set.
use Rattle.std.proofs.Common.{◌≡◌, ℕ, List, Ordering, Less, Equal, Greater, Bool, true, false, cond, Option, Some, None, refl, ap, sym, ◌∙◌, subst}
use Rattle.std.proofs.lemmas.Bool.{false≢true}
use Rattle.std.specs.FinMap.{FinMap, get, insert, remove, empty, get-insert, get-remove, get-empty, nat_cmp-IsAntisymmetric}
use Rattle.std.specs.Ordering.{nat_cmp, is_eq, eq_by_cmp}
use Rattle.std.specs.Cmp.{nat_cmp_total}
use Rattle.tiff_base.specs.declared.tags.FileKind.{FileKind}
use Rattle.tiff_base.specs.Field.{Field}
use Rattle.tiff_value.specs.Data.{Scalars}
use Rattle.tiff_page.specs.Checks.{is_page_tag}
use Rattle.tiff_value.specs.Model.{Model, Grows}
use Rattle.tiff_encode.specs.Machine.{OpenDirectory, OpenImage}
use Rattle.tiff_encode.specs.Calls.{with_directory_of}
use Rattle.tiff_encode.specs.Held.{Given, HasValues, HoldsAt, HoldsValues}
use Rattle.tiff_encode.specs.Open.{HoldsChunks, GrownOpen}
use Rattle.tiff_encode.specs.Stored.{unpacked_chunk}
use Rattle.tiff_encode.proofs.Given.{IsLocal}

-- ---- more is written

-- one tag stays held in a model that grows
at_grown : (m n : Model) (f : Option Field) (v : Option Scalars) → Grows m n → HoldsAt m f v
    → HoldsAt n f v
at_grown m n (Some f) (Some v) g h =
    record { field_type = h.field_type; count = h.count; whole = h.whole; supplied = g.supplied _ h.supplied }
at_grown m n None None g h = tt
at_grown m n (Some f) None g h = absurd h
at_grown m n None (Some v) g h = absurd h

-- all tags stay held in a model that grows
pub holds_grown : (m n : Model) (fields : FinMap nat_cmp Field) (given : Given) → Grows m n
    → HoldsValues m fields given → HoldsValues n fields given
holds_grown m n fields given g h t p = at_grown m n (get fields t) (given t) g (h t p)

-- the chunks stay held in a model that grows, also for an image with another directory
pub chunks_moved : (kind : FileKind) (m n : Model) (i : OpenImage) (d : OpenDirectory)
    (samples : List (List ℕ))
    → Grows m n
    → HoldsChunks kind m i samples → HoldsChunks kind n (with_directory_of i d) samples
unfolding unpacked_chunk
chunks_moved kind m n i d samples g h = record {
  as_many = h.as_many;
  within = h.within;
  few = h.few;
  lengths = h.lengths;
  small = h.small;
  regions = λ k b. let r = h.regions k b in (r.0, (g.regions _ r.1.0, r.1.1));
  fit = h.fit;
}

pub chunks_grown : (kind : FileKind) (m n : Model) (i : OpenImage) (samples : List (List ℕ))
    → Grows m n
    → HoldsChunks kind m i samples → HoldsChunks kind n i samples
chunks_grown kind m n i samples g h = chunks_moved kind m n i i.directory samples g h

pub grown_open : GrownOpen
grown_open kind m n i samples h g = record {
  given = h.given;
  holds = holds_grown m n i.directory.fields h.given g h.holds;
  tells = h.tells;
  open_so = h.open_so;
  chunks = chunks_grown kind m n i samples g h.chunks;
}

-- ---- tags are set

-- an order that tests as equal is `Equal`
is_equal : (r : Ordering) → is_eq r ≡ true → r ≡ Equal
is_equal Equal e = refl
is_equal Less e = absurd (false≢true e)
is_equal Greater e = absurd (false≢true e)

-- the values with the values of one tag, or without that tag
abbrev pub set : Given → ℕ → Option Scalars → Given
set given n v = λ t. cond (eq_by_cmp nat_cmp t n) v (given t)

pub set_local : (n : ℕ) (v : Option Scalars) → IsLocal (λ given. set given n v)
set_local n v f g t e = ap (cond (eq_by_cmp nat_cmp t n) v) e

-- a value that is absent stays so
pub unset_same : (given : Given) (n t : ℕ) (b : Bool) → eq_by_cmp nat_cmp t n ≡ b → given n ≡ None
    → given t ≡ cond b None (given t)
unset_same given n t true q h =
    ap given (nat_cmp-IsAntisymmetric t n (is_equal (nat_cmp t n) q)) ∙ h
unset_same given n t false q h = refl

module _ (m : Model) where
  set_by : (b : Bool) (x : Option Field) (g : Option Scalars) (f : Field) (v : Scalars)
      → HasValues m f v → HoldsAt m x g
      → HoldsAt m (cond b (Some f) x) (cond b (Some v) g)
  set_by true x g f v h o = h
  set_by false x g f v h o = o

  unset_by : (b : Bool) (x : Option Field) (g : Option Scalars) → HoldsAt m x g
      → HoldsAt m (cond b None x) (cond b None g)
  unset_by true x g o = tt
  unset_by false x g o = o

  -- a field is set for a tag
  pub set_held : (fields : FinMap nat_cmp Field) (given : Given) (n : ℕ) (f : Field) (v : Scalars)
      → HasValues m f v
      → HoldsValues m fields given → HoldsValues m (insert fields n f) (set given n (Some v))
  set_held fields given n f v h o t p =
      subst (λ x. HoldsAt m x (set given n (Some v) t)) (sym (get-insert nat_cmp_total fields n f t))
      (set_by (eq_by_cmp nat_cmp t n) (get fields t) (given t) f v h (o t p))

  -- the field of a tag is removed
  pub unset_held : (fields : FinMap nat_cmp Field) (given : Given) (n : ℕ)
      → HoldsValues m fields given
      → HoldsValues m (remove fields n) (set given n None)
  unset_held fields given n o t p =
      subst (λ x. HoldsAt m x (set given n None t)) (sym (get-remove nat_cmp_total fields n t))
      (unset_by (eq_by_cmp nat_cmp t n) (get fields t) (given t) (o t p))

  other_by : (b : Bool) (x : Option Field) (g : Option Scalars) (f : Field) (t n : ℕ)
      → eq_by_cmp nat_cmp t n ≡ b → is_page_tag n ≡ false → is_page_tag t ≡ true
      → HoldsAt m x g → HoldsAt m (cond b (Some f) x) g
  other_by false x g f t n e q p o = o
  other_by true x g f t n e q p o =
      let same : t ≡ n = nat_cmp-IsAntisymmetric t n (is_equal (nat_cmp t n) e) in
      absurd (false≢true (sym q ∙ ap is_page_tag (sym same) ∙ p))

  -- a field is set for a tag that a page isn't read by
  pub other_held : (fields : FinMap nat_cmp Field) (given : Given) (n : ℕ) (f : Field)
      → is_page_tag n ≡ false
      → HoldsValues m fields given → HoldsValues m (insert fields n f) given
  other_held fields given n f q o t p =
      subst (λ x. HoldsAt m x (given t)) (sym (get-insert nat_cmp_total fields n f t))
      (other_by (eq_by_cmp nat_cmp t n) (get fields t) (given t) f t n refl q p (o t p))

  -- an empty directory holds no values
  pub none_held : HoldsValues m empty (λ t. None)
  none_held t p = subst (λ x. HoldsAt m x None) (sym (get-empty nat_cmp t)) tt
