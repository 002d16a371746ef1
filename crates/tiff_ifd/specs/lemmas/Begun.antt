-- Where a link leads back into a walk, and why the entered offsets are a beginning of the chain.
use Rattle.std.proofs.Common.{◌≡◌, ◌+◌, ℕ, zero, suc, ◌<◌, List, [], ◌∷◌, ◌++◌, length, reverse, Option, None, Some, Bool, true, false, ◌||◌, cond, Result, Ok, Err, refl, ap, sym, ◌∙◌, subst, arith, nat_eq, append_assoc}
use Rattle.std.proofs.lemmas.List.{append-nil, length-append, reverse-append}
use Rattle.std.proofs.lemmas.List.Sorted.{IsPermutation-reverse, list_any-IsPermutation}
use Rattle.std.proofs.lemmas.Bool.Decides.{nat_tests}
use Rattle.std.specs.Prelude.{is_some, IfNone}
use Rattle.std.specs.List.{last_or, list_any, slice_get}
use Rattle.std.proofs.lemmas.Option.{slice_get-get_or}
use Rattle.tiff_base.specs.declared.error.TiffError.{TiffError}
use Rattle.tiff_base.specs.declared.error.TiffError.TheVariants.{FormatError}
use Rattle.tiff_base.specs.declared.error.TiffFormatError.TheVariants.{CycleInOffsets}
use Rattle.tiff_base.specs.declared.tags.ByteOrder.{ByteOrder}
use Rattle.tiff_base.specs.declared.tags.FileKind.{FileKind}
use Rattle.tiff_base.specs.Answers.{IsCause, ◌>>=◌}
use Rattle.tiff_base.specs.Field.{DirectoryRecord}
use Rattle.tiff_base.specs.Directory.{directory_at, link}
use Rattle.tiff_base.specs.lemmas.Causes.{cause_along}
use Rattle.tiff_ifd.specs.Chain.{link_from, unless_met, enter_at, IsChain, Chain, chain}
use Rattle.tiff_ifd.specs.IfdChainWalk.{Walked, Enters, NextIsRefused, WalkSteps, ChainBegins, ChainEnds, link_behind}
use Rattle.tiff_ifd.specs.lemmas.Chain.{IsFalseBit, not_both, same_ok, same_err, the_chain}
use Rattle.tiff_ifd.specs.lemmas.Links.{here}

abbrev IsSomeNumber : Option ℕ → Type 0
IsSomeNumber (Some n) = Unit {0}
IsSomeNumber None = ⊥

-- ---- a link that leads back into the walk

any_turned : (test : ℕ → Bool) (xs : List ℕ) → list_any test (reverse xs) ≡ list_any test xs
any_turned test xs = sym (list_any-IsPermutation test xs (reverse xs) (IsPermutation-reverse xs))

or_not : (b c : Bool) → b ≡ false → c ≡ (b || c)
or_not false c h = refl
or_not true c h = absurd (subst IsFalseBit (sym h) tt)

-- a link that leads to the next offset itself
pub is_itself : (offset link : ℕ) (met : List ℕ) → link ≡ offset
    → true ≡ list_any (nat_eq link) (offset ∷ met)
is_itself offset link met h =
    sym (subst (λ (k : ℕ). list_any (nat_eq k) (offset ∷ met) ≡ true) (sym h) (here offset met))

-- a link that leads to an entered offset
pub is_among : (offset link : ℕ) (offsets : List ℕ) (b : Bool) → (link ≡ offset → ⊥)
    → b ≡ list_any (nat_eq link) offsets → b ≡ list_any (nat_eq link) (offset ∷ reverse offsets)
is_among offset link offsets b apart h =
    h ∙ sym (any_turned (nat_eq link) offsets)
    ∙ or_not (nat_eq link offset) (list_any (nat_eq link) (reverse offsets))
    (grind (arith, nat_tests, apart))

module _ (offsets : List ℕ) (next : Option ℕ) where
  pub none_met : next ≡ None → unless_met offsets next ≡ Ok next
  none_met n = subst (λ (x : Option ℕ). unless_met offsets x ≡ Ok x) (sym n) refl

  pub unmet : (link : ℕ) → next ≡ Some link → false ≡ list_any (nat_eq link) offsets
      → unless_met offsets next ≡ Ok next
  unmet link n h =
      let told =
      ap (λ (b : Bool). cond b (Err (FormatError CycleInOffsets)) (Ok (Some link))) (sym h) in
      subst (λ (x : Option ℕ). unless_met offsets x ≡ Ok x) (sym n) told

  pub met : (link : ℕ) → next ≡ Some link → true ≡ list_any (nat_eq link) offsets
      → unless_met offsets next ≡ Err (FormatError CycleInOffsets)
  met link n h =
      let told =
      ap (λ (b : Bool). cond b (Err (FormatError CycleInOffsets)) (Ok (Some link))) (sym h) in
      subst (λ (x : Option ℕ). unless_met offsets x ≡ Err (FormatError CycleInOffsets)) (sym n) told

-- ---- the chain

pub none_begun : (kind : FileKind) (order : ByteOrder) (bytes : List ℕ) (first : ℕ)
    → ChainBegins kind order bytes first (record { offsets = []; next = Some first })
none_begun kind order bytes first =
    record { linked = refl; rest = (chain kind order bytes first).offsets; offsets = refl; goes_on = the_chain kind order bytes first }

module _ (kind : FileKind) (order : ByteOrder) (bytes : List ℕ) where
  -- an offset is entered, or an error says why not
  told : (met : List ℕ) (offset : ℕ) (r : Result DirectoryRecord TiffError)
      → directory_at kind order bytes offset ≡ r
      → enter_at (link_from kind order bytes) met offset
      ≡ (r >>= (λ d. Ok d.next) >>= unless_met (offset ∷ met))
  told met offset r h =
      ap (λ (x : Result DirectoryRecord TiffError). x >>= (λ d. Ok d.next)
      >>= unless_met (offset ∷ met)) h

  pub unread : (before : Walked) (offset : ℕ) (e : TiffError) → before.next ≡ Some offset
      → directory_at kind order bytes offset ≡ Err e → NextIsRefused kind order bytes before e
  unread before offset e n h =
      record { offset = offset; next = n; refused = told (reverse before.offsets) offset (Err e) h }

  pub unentered : (before : Walked) (offset : ℕ) (d : DirectoryRecord) (e : TiffError)
      → before.next ≡ Some offset → directory_at kind order bytes offset ≡ Ok d
      → unless_met (offset ∷ reverse before.offsets) d.next ≡ Err e
      → NextIsRefused kind order bytes before e
  unentered before offset d e n h m =
      record { offset = offset; next = n; refused = told (reverse before.offsets) offset (Ok d) h ∙ m }

  one_entered : (before after : Walked) (offset : ℕ) (d : DirectoryRecord)
      → before.next ≡ Some offset → directory_at kind order bytes offset ≡ Ok d
      → unless_met (offset ∷ reverse before.offsets) d.next ≡ Ok d.next
      → after ≡ record { offsets = before.offsets ++ offset ∷ []; next = d.next }
      → Enters kind order bytes before d after
  one_entered before after offset d n h m w =
      record { offset = offset; next = n; read = h; entered = told (reverse before.offsets) offset (Ok d) h ∙ m; walked = w }

  -- the rest of a chain whose next offset is entered
  rest_on : (met : List ℕ) (offset : ℕ) (after : Option ℕ) (rest : List ℕ) (end : Option TiffError)
      → enter_at (link_from kind order bytes) met offset ≡ Ok after
      → IsChain (link_from kind order bytes) met (Some offset) rest end
      → (left : List ℕ) × (rest ≡ offset ∷ left)
      × IsChain (link_from kind order bytes) (offset ∷ met) after left end
  rest_on met offset after [] end h c =
      absurd (not_both (enter_at (link_from kind order bytes) met offset) after c.0 h c.1)
  rest_on met offset after (q ∷ rest) end h c =
      let same : c.1 ≡ after =
      same_ok (enter_at (link_from kind order bytes) met offset) c.1 after c.2 h in
      let P : Option ℕ → Type 0 =
      λ a. IsChain (link_from kind order bytes) (offset ∷ met) a rest end in
      (rest, ap (λ (x : ℕ). x ∷ rest) c.0, subst P same c.3)

  -- a chain whose next offset is not entered has no more offsets
  rest_cut : (met : List ℕ) (offset : ℕ) (e : TiffError) (rest : List ℕ) (end : Option TiffError)
      → enter_at (link_from kind order bytes) met offset ≡ Err e
      → IsChain (link_from kind order bytes) met (Some offset) rest end
      → (rest ≡ []) × (end ≡ Some e)
  rest_cut met offset e [] end h c =
      (refl, c.2 ∙ ap Some (same_err (enter_at (link_from kind order bytes) met offset) c.0 e c.1 h))
  rest_cut met offset e (q ∷ rest) end h c =
      absurd (not_both (enter_at (link_from kind order bytes) met offset) c.1 e c.2 h)

  rest_none : (met rest : List ℕ) (end : Option TiffError)
      → IsChain (link_from kind order bytes) met None rest end → (rest ≡ []) × (end ≡ None)
  rest_none met [] end c = (refl, c)
  rest_none met (q ∷ rest) end c = absurd c

  last_added : (before : Option ℕ) (offsets : List ℕ) (offset : ℕ)
      → last_or before (offsets ++ offset ∷ []) ≡ Some offset
  last_added before [] offset = refl
  last_added before (p ∷ offsets) offset = last_added (Some p) offsets offset

  module _ (first : ℕ) where
    begins_by : (offsets : List ℕ) (offset : ℕ) (after : Option ℕ) (rest left : List ℕ)
        → link_from kind order bytes offset ≡ Ok after
        → (chain kind order bytes first).offsets ≡ offsets ++ rest → rest ≡ offset ∷ left
        → IsChain (link_from kind order bytes) (offset
        ∷ reverse offsets) after left (chain kind order bytes first).end
        → ChainBegins kind order bytes first (record { offsets = offsets ++ offset ∷ []; next = after })
    begins_by offsets offset after rest left l e f c =
        let P : List ℕ → Type 0 =
        λ met. IsChain (link_from kind order bytes) met after left (chain kind order bytes first).end in
        record {
          linked = ap (link_behind kind order bytes first) (last_added None offsets offset) ∙ l;
          rest = left;
          offsets =
              e ∙ ap (λ (xs : List ℕ). offsets ++ xs) f
              ∙ sym (append_assoc offsets (offset ∷ []) left);
          goes_on = subst P (sym (reverse-append offsets (offset ∷ []))) c;
        }

    begins_on : (before after : Walked) (d : DirectoryRecord)
        → Enters kind order bytes before d after → ChainBegins kind order bytes first before
        → ChainBegins kind order bytes first after
    begins_on before after d h b =
        let P : Option ℕ → Type 0 =
        λ n. IsChain (link_from kind order bytes) (reverse before.offsets) n b.rest
        (chain kind order bytes first).end in
        let r =
        rest_on (reverse before.offsets) h.offset d.next b.rest (chain kind order bytes first).end h.entered (subst P h.next b.goes_on) in
        let l = ap (λ (x : Result DirectoryRecord TiffError). x >>= λ y. Ok y.next) h.read in
        let Q : Walked → Type 0 = λ w. ChainBegins kind order bytes first w in
        subst Q (sym h.walked) (begins_by before.offsets h.offset d.next b.rest r.0 l b.offsets r.1 r.2)

    ends_by : (walk : Walked) (rest : List ℕ) (end : Option TiffError)
        → (chain kind order bytes first).offsets ≡ walk.offsets ++ rest → rest ≡ []
        → (chain kind order bytes first).end ≡ end → ChainEnds kind order bytes first walk end
    ends_by walk rest end e f g =
        let all : (chain kind order bytes first).offsets ≡ walk.offsets =
        e ∙ ap (λ (xs : List ℕ). walk.offsets ++ xs) f ∙ append-nil walk.offsets in
        let P : List ℕ → Chain =
        λ ps. record { offsets = ps; end = (chain kind order bytes first).end } in
        let Q : Option TiffError → Chain = λ x. record { offsets = walk.offsets; end = x } in
        ap P all ∙ ap Q g

    pub ends_none : (walk : Walked) → walk.next ≡ None → ChainBegins kind order bytes first walk
        → ChainEnds kind order bytes first walk None
    ends_none walk n b =
        let P : Option ℕ → Type 0 =
        λ x. IsChain (link_from kind order bytes) (reverse walk.offsets) x b.rest
        (chain kind order bytes first).end in
        let r =
        rest_none (reverse walk.offsets) b.rest (chain kind order bytes first).end
        (subst P n b.goes_on) in
        ends_by walk b.rest None b.offsets r.0 r.1

    pub ends_cut : (walk : Walked) (e : TiffError) → NextIsRefused kind order bytes walk e
        → ChainBegins kind order bytes first walk → ChainEnds kind order bytes first walk (Some e)
    ends_cut walk e h b =
        let P : Option ℕ → Type 0 =
        λ n. IsChain (link_from kind order bytes) (reverse walk.offsets) n b.rest
        (chain kind order bytes first).end in
        let r =
        rest_cut (reverse walk.offsets) h.offset e b.rest (chain kind order bytes first).end h.refused (subst P h.next b.goes_on) in
        ends_by walk b.rest (Some e) b.offsets r.0 r.1

-- ---- the facts that a step shows about the chain

pub entered_by : (kind : FileKind) (order : ByteOrder) (bytes : List ℕ) (before after : Walked)
    (offset : ℕ) (d : DirectoryRecord) (next : Option ℕ)
    → before.next ≡ Some offset → directory_at kind order bytes offset ≡ Ok d → next ≡ d.next
    → unless_met (offset ∷ reverse before.offsets) next ≡ Ok next
    → after ≡ record { offsets = before.offsets ++ offset ∷ []; next = next }
    → Enters kind order bytes before d after
entered_by kind order bytes before after offset d next n h e m w =
    let P : Option ℕ → Type 0 = λ x. unless_met (offset ∷ reverse before.offsets) x ≡ Ok x in
    let Q : Option ℕ → Type 0 =
    λ x. after ≡ record { offsets = before.offsets ++ offset ∷ []; next = x } in
    one_entered kind order bytes before after offset d n h (subst P e m) (subst Q e w)

pub begins_entered : (kind : FileKind) (order : ByteOrder) (bytes : List ℕ) (first : ℕ)
    (before after : Walked) (offset : ℕ) (d : DirectoryRecord) (next : Option ℕ)
    → before.next ≡ Some offset → directory_at kind order bytes offset ≡ Ok d → next ≡ d.next
    → unless_met (offset ∷ reverse before.offsets) next ≡ Ok next
    → after ≡ record { offsets = before.offsets ++ offset ∷ []; next = next }
    → ChainBegins kind order bytes first before → ChainBegins kind order bytes first after
begins_entered kind order bytes first before after offset d next n h e m w b =
    begins_on kind order bytes first before after d (entered_by kind order bytes before after offset d next n h e m w) b

-- a beginning of a file's chain is one for the same bytes
pub begun_same : {seen bytes : List ℕ} (kind : FileKind) (order : ByteOrder) (first : ℕ)
    (before after : Walked) → seen ≡ bytes → ChainBegins kind order bytes first before
    → (ChainBegins kind order seen first before → ChainBegins kind order seen first after)
    → ChainBegins kind order bytes first after
begun_same kind order first before after same b on =
    subst (λ (bs : List ℕ). ChainBegins kind order bs first after) same
    (on (subst (λ (bs : List ℕ). ChainBegins kind order bs first before) (sym same) b))

-- an error of the next offset, where the walk stays
pub refused_unread : (kind : FileKind) (order : ByteOrder) (bytes : List ℕ) (failed : Type 0)
    (before after : Walked) (offset : ℕ) (e : TiffError) → before.next ≡ Some offset
    → after ≡ before
    → IsCause (Unit {0}) failed e (directory_at kind order bytes offset ≡ Err e)
    → IsCause (after ≡ before) (failed × (after
    ≡ before)) e (NextIsRefused kind order bytes before e × (after ≡ before))
refused_unread kind order bytes failed before after offset e n s h =
    cause_along e (λ w. s) (λ f. (f, s)) (λ g. (unread kind order bytes before offset e n g, s)) h

pub refused_unentered : (kind : FileKind) (order : ByteOrder) (bytes : List ℕ) (failed : Type 0)
    (before after : Walked) (offset : ℕ) (d : DirectoryRecord) (next : Option ℕ) (e : TiffError)
    → before.next ≡ Some offset → directory_at kind order bytes offset ≡ Ok d → next ≡ d.next
    → after ≡ before
    → IsCause (Unit {0}) ⊥ e (unless_met (offset ∷ reverse before.offsets) next ≡ Err e)
    → IsCause (after ≡ before) (failed × (after
    ≡ before)) e (NextIsRefused kind order bytes before e × (after ≡ before))
refused_unentered kind order bytes failed before after offset d next e n h l s c =
    let P : Option ℕ → Type 0 = λ x. unless_met (offset ∷ reverse before.offsets) x ≡ Err e in
    cause_along e (λ w. s) (λ f. absurd f) (λ g. (unentered kind order bytes before offset d e n h (subst P l g), s)) c

pub cut_unread : (kind : FileKind) (order : ByteOrder) (bytes : List ℕ) (failed : Type 0)
    (walk : Walked) (offset : ℕ) (e : TiffError) → walk.next ≡ Some offset
    → IsCause (Unit {0}) failed e (directory_at kind order bytes offset ≡ Err e)
    → IsCause (Unit {0}) failed e ((first : ℕ) → ChainBegins kind order bytes first walk
    → ChainEnds kind order bytes first walk (Some e))
cut_unread kind order bytes failed walk offset e n h =
    cause_along e (λ w. w) (λ f. f) (λ g first b. ends_cut kind order bytes first walk e (unread kind order bytes walk offset e n g) b) h

pub cut_unentered : (kind : FileKind) (order : ByteOrder) (bytes : List ℕ) (failed : Type 0)
    (walk : Walked) (offset : ℕ) (d : DirectoryRecord) (next : Option ℕ) (e : TiffError)
    → walk.next ≡ Some offset → directory_at kind order bytes offset ≡ Ok d → next ≡ d.next
    → IsCause (Unit {0}) ⊥ e (unless_met (offset ∷ reverse walk.offsets) next ≡ Err e)
    → IsCause (Unit {0}) failed e ((first : ℕ) → ChainBegins kind order bytes first walk
    → ChainEnds kind order bytes first walk (Some e))
cut_unentered kind order bytes failed walk offset d next e n h s c =
    let P : Option ℕ → Type 0 = λ x. unless_met (offset ∷ reverse walk.offsets) x ≡ Err e in
    cause_along e (λ w. w) (λ f. absurd f) (λ g first b. ends_cut kind order bytes first walk e (unentered kind order bytes walk offset d e n h (subst P s g)) b) c

-- ---- the offsets of the chain

front : (xs ys : List ℕ) (k : ℕ) → k < length xs → slice_get (xs ++ ys) k ≡ slice_get xs k
front [] ys k h = absurd (omega (arith, h))
front (x ∷ xs) ys zero h = refl
front (x ∷ xs) ys (suc k) h = front xs ys k (omega (arith, h))

pub offset_begun : (kind : FileKind) (order : ByteOrder) (bytes : List ℕ) (first : ℕ)
    (walk : Walked) (index : ℕ) → index < length walk.offsets
    → ChainBegins kind order bytes first walk
    → slice_get (chain kind order bytes first).offsets index ≡ slice_get walk.offsets index
offset_begun kind order bytes first walk index h b =
    ap (λ (ps : List ℕ). slice_get ps index) b.offsets ∙ front walk.offsets b.rest index h

-- one more offset
pub grown : (kind : FileKind) (order : ByteOrder) (bytes old : List ℕ) (before after : Walked)
    (found : Option DirectoryRecord) → is_some found ≡ true
    → WalkSteps kind order bytes before (Ok found) after
    → (more : List ℕ) × (before.offsets ≡ old ++ more)
    → (more : List ℕ) × (after.offsets ≡ old ++ more)
grown kind order bytes old before after None f h m = absurd (subst IsFalseBit f tt)
grown kind order bytes old before after (Some d) f h m =
    (m.0 ++ h.offset ∷ [], ap (λ (w : Walked). w.offsets) h.walked ∙ ap (λ (ps : List ℕ). ps ++ h.offset ∷ []) m.1 ∙ append_assoc old m.0 (h.offset ∷ []))

pub one_longer : (kind : FileKind) (order : ByteOrder) (bytes : List ℕ) (before after : Walked)
    (found : Option DirectoryRecord) → is_some found ≡ true
    → WalkSteps kind order bytes before (Ok found) after
    → length after.offsets ≡ length before.offsets + 1
one_longer kind order bytes before after None f h = absurd (subst IsFalseBit f tt)
one_longer kind order bytes before after (Some d) f h =
    ap (λ (w : Walked). length w.offsets) h.walked ∙ length-append before.offsets (h.offset ∷ [])

-- an offset of the walk is an offset of the chain
pub is_there : (P : Type 0) (offsets : List ℕ) (index : ℕ) (r : Option ℕ)
    → r ≡ slice_get offsets index → index < length offsets → IfNone r P
is_there P offsets index (Some p) e h = tt
is_there P offsets index None e h =
    absurd (subst IsSomeNumber (sym (slice_get-get_or offsets index 0 h) ∙ sym e) tt)
