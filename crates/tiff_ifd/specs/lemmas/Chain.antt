-- There is one chain from each offset of each file, it is the longest, and its offsets differ.
use Rattle.std.proofs.Common.{◌≡◌, ℕ, zero, suc, ◌+◌, ◌<◌, ◌≤◌, List, [], ◌∷◌, ◌++◌, length, Option, None, Some, Bool, true, false, cond, Result, Ok, Err, refl, ap, sym, ◌∙◌, subst, arith, nat_eq, ◌||◌, lit<}
use Rattle.std.specs.Prelude.{nat_lt}
use Rattle.std.specs.Int.{byte_len}
use Rattle.std.specs.List.{list_any, IsDistinct, AllByRecursion}
use Rattle.std.proofs.lemmas.Map.Keys.{IsDistinct-cons}
use Rattle.std.proofs.lemmas.Bool.Decides.{nat_tests}
use Rattle.std.proofs.lemmas.Map.Steps.{length-le_from_distinct_below}
use Rattle.tiff_base.specs.lemmas.Common.{neither}
use Rattle.tiff_base.specs.declared.error.TiffError.{TiffError}
use Rattle.tiff_base.specs.declared.error.TiffError.TheVariants.{FormatError, IoError}
use Rattle.tiff_base.specs.declared.error.TiffFormatError.TheVariants.{CycleInOffsets}
use Rattle.tiff_base.specs.declared.io.IoKind.TheVariants.{UnexpectedEof}
use Rattle.tiff_base.specs.declared.tags.ByteOrder.{ByteOrder}
use Rattle.tiff_base.specs.declared.tags.FileKind.{FileKind}
use Rattle.tiff_base.specs.declared.tags.FileKind.TheVariants.{Classic, Big}
use Rattle.tiff_base.specs.Answers.{◌>>=◌}
use Rattle.tiff_base.specs.Number.{number_at}
use Rattle.tiff_base.specs.Field.{DirectoryRecord}
use Rattle.tiff_base.specs.Directory.{directory_at, count_width, offset_width, link_offset, first_entry, entries_from, last_of_each, link}
use Rattle.tiff_ifd.specs.lemmas.Entries.{number_past}
use Rattle.tiff_ifd.specs.Chain.{link_from, unless_met, enter_at, AreEntered, IsChain, Chain, onto, walk, chain, IsTheChain, IsOneChain, IsLongestChain, IsChainApart}

abbrev Link : Type 0
Link = Result (Option ℕ) TiffError

abbrev ok_or : Option ℕ → Link → Option ℕ
ok_or d (Ok x) = x
ok_or d (Err e) = d

abbrev err_or : TiffError → Link → TiffError
err_or d (Ok x) = d
err_or d (Err e) = e

abbrev some_or : ℕ → Option ℕ → ℕ
some_or d (Some x) = x
some_or d None = d

abbrev IsOkLink : Link → Type 0
IsOkLink (Ok x) = Unit {0}
IsOkLink (Err e) = ⊥

abbrev IsSomeLink : Option ℕ → Type 0
IsSomeLink (Some x) = Unit {0}
IsSomeLink None = ⊥

pub not_both : (r : Link) (x : Option ℕ) (e : TiffError) → r ≡ Ok x → r ≡ Err e → ⊥
not_both r x e a b = subst IsOkLink (sym a ∙ b) tt

pub same_ok : (r : Link) (x y : Option ℕ) → r ≡ Ok x → r ≡ Ok y → x ≡ y
same_ok r x y a b = ap (ok_or x) (sym a ∙ b)

pub same_err : (r : Link) (x y : TiffError) → r ≡ Err x → r ≡ Err y → x ≡ y
same_err r x y a b = ap (err_or x) (sym a ∙ b)

-- a file has at most one chain
one_of : (link : ℕ → Link) (met : List ℕ) (next : Option ℕ) (ps qs : List ℕ) (e f : Option TiffError)
    → IsChain link met next ps e → IsChain link met next qs f → (ps ≡ qs) × (e ≡ f)
one_of link met None [] [] e f c d = (refl, c ∙ sym d)
one_of link met None [] (q ∷ qs) e f c d = absurd d
one_of link met None (p ∷ ps) qs e f c d = absurd c
one_of link met (Some n) [] [] e f c d =
    (refl, c.2 ∙ ap Some (same_err (enter_at link met n) c.0 d.0 c.1 d.1) ∙ sym d.2)
one_of link met (Some n) [] (q ∷ qs) e f c d =
    absurd (not_both (enter_at link met n) d.1 c.0 d.2 c.1)
one_of link met (Some n) (p ∷ ps) [] e f c d =
    absurd (not_both (enter_at link met n) c.1 d.0 c.2 d.1)
one_of link met (Some n) (p ∷ ps) (q ∷ qs) e f c d =
    let same : c.1 ≡ d.1 = same_ok (enter_at link met n) c.1 d.1 c.2 d.2 in
    let P : Option ℕ → Type 0 = λ a. IsChain link (n ∷ met) a qs f in
    let rest = one_of link (n ∷ met) c.1 ps qs e f c.3 (subst P (sym same) d.3) in
    let head : p ≡ q = c.0 ∙ sym d.0 in
    (ap (λ (x : ℕ). x ∷ ps) head ∙ ap (λ (xs : List ℕ). q ∷ xs) rest.0, rest.1)

pub one_chain : IsOneChain
one_chain kind order bytes = one_of (link_from kind order bytes)

-- the offsets of a chain are entered
offsets_entered : (link : ℕ → Link) (met : List ℕ) (next : Option ℕ) (ps : List ℕ) (e : Option TiffError)
    → IsChain link met next ps e → AreEntered link met next ps
offsets_entered link met next [] e c = tt
offsets_entered link met None (p ∷ ps) e c = absurd c
offsets_entered link met (Some n) (p ∷ ps) e c =
    (c.0, c.1, c.2, offsets_entered link (n ∷ met) c.1 ps e c.3)

-- a list of entered offsets is a beginning of the chain
begins : (link : ℕ → Link) (met : List ℕ) (next : Option ℕ) (ps qs : List ℕ) (e : Option TiffError)
    → IsChain link met next ps e → AreEntered link met next qs → (rest : List ℕ) × (ps ≡ qs ++ rest)
begins link met next ps [] e c d = (ps, refl)
begins link met None ps (q ∷ qs) e c d = absurd d
begins link met (Some n) [] (q ∷ qs) e c d = absurd (not_both (enter_at link met n) d.1 c.0 d.2 c.1)
begins link met (Some n) (p ∷ ps) (q ∷ qs) e c d =
    let same : c.1 ≡ d.1 = same_ok (enter_at link met n) c.1 d.1 c.2 d.2 in
    let P : Option ℕ → Type 0 = λ a. AreEntered link (n ∷ met) a qs in
    let rest = begins link (n ∷ met) c.1 ps qs e c.3 (subst P (sym same) d.3) in
    let head : p ≡ q = c.0 ∙ sym d.0 in
    (rest.0, ap (λ (x : ℕ). x ∷ ps) head ∙ ap (λ (xs : List ℕ). q ∷ xs) rest.1)

-- a link that is followed differs from all offsets before it
free_by : (b : Bool) (met : List ℕ) (n q : ℕ) → list_any (nat_eq n) met ≡ b
    → cond b (Err (FormatError CycleInOffsets)) (Ok (Some n)) ≡ Ok (Some q)
    → list_any (nat_eq q) met ≡ false
free_by true met n q h e = absurd (subst IsOkLink (sym e) tt)
free_by false met n q h e =
    let same : n ≡ q = ap (λ (r : Link). some_or n (ok_or None r)) e in
    let P : ℕ → Type 0 = λ k. list_any (nat_eq k) met ≡ false in
    subst P same h

free : (met : List ℕ) (r : Link) (q : ℕ) → (r >>= unless_met met) ≡ Ok (Some q)
    → list_any (nat_eq q) met ≡ false
free met (Err e) q h = absurd (subst IsOkLink (sym h) tt)
free met (Ok None) q h = absurd (subst IsSomeLink (sym (ap (ok_or None) h)) tt)
free met (Ok (Some n)) q h = free_by (list_any (nat_eq n) met) met n q refl h

-- the directory of an entered offset is read
was_read : (met : List ℕ) (r : Link) (after : Option ℕ) → (r >>= unless_met met) ≡ Ok after
    → (next : Option ℕ) × (r ≡ Ok next)
was_read met (Ok n) after h = (n, refl)
was_read met (Err e) after h = absurd (subst IsOkLink (sym h) tt)

abbrev pub IsFalseBit : Bool → Type 0
IsFalseBit true = ⊥
IsFalseBit false = Unit {0}

-- the list does not contain this offset
apart : (p : ℕ) (met : List ℕ) → list_any (nat_eq p) met ≡ false
    → AllByRecursion (λ y. nat_eq p y ≡ false) met
apart p [] h = tt
apart p (q ∷ met) h =
    (let n = neither (nat_eq p q) (list_any (nat_eq p) met) h in (n.0, apart p met n.1))

-- an offset to enter differs from all offsets before it
abbrev IsNew : List ℕ → Option ℕ → Type 0
IsNew met None = Unit {0}
IsNew met (Some p) = list_any (nat_eq p) met ≡ false

abbrev pub AreBelow : ℕ → List ℕ → Type 0
AreBelow len met = (q : ℕ) → list_any (nat_eq q) met ≡ true → q < len

abbrev Within : ℕ → (ℕ → Link) → Type 0
Within len link = (offset : ℕ) (next : Option ℕ) → link offset ≡ Ok next → offset < len

pub equal_numbers : (q p : ℕ) → nat_eq q p ≡ true → q ≡ p
equal_numbers q p h = grind (arith, nat_tests)

below_by : (b : Bool) (len p : ℕ) (met : List ℕ) (q : ℕ) → nat_eq q p ≡ b → p < len
    → AreBelow len met → (b || list_any (nat_eq q) met) ≡ true → q < len
below_by true len p met q e l b h = (let same = equal_numbers q p e in omega (arith, same, l))
below_by false len p met q e l b h = b q h

below_more : (len p : ℕ) (met : List ℕ) → p < len → AreBelow len met → AreBelow len (p ∷ met)
below_more len p met l b q h = below_by (nat_eq q p) len p met q refl l b h

is_new : (met : List ℕ) (r : Link) (after : Option ℕ) → (r >>= unless_met met) ≡ Ok after
    → IsNew met after
is_new met r None h = tt
is_new met r (Some q) h = free met r q h

-- the facts about the entered offsets
pub record Known (len : ℕ) (met : List ℕ) : Type 0 where
  pub distinct : IsDistinct nat_eq met
  pub below : AreBelow len met

pub known_more : (len p : ℕ) (met : List ℕ) → p < len → list_any (nat_eq p) met ≡ false
    → Known len met → Known len (p ∷ met)
known_more len p met l n k = record {
  distinct = IsDistinct-cons nat_eq p met (apart p met n) k.distinct;
  below = below_more len p met l k.below;
}

-- once as many offsets are entered as the file has bytes, no offset of the file is left
pub full : (len p : ℕ) (met : List ℕ) → p < len → list_any (nat_eq p) met ≡ false → Known len met
    → len ≤ length met → ⊥
full len p met l n k f =
    let more = known_more len p met l n k in
    let most : length (p ∷ met) ≤ len =
    length-le_from_distinct_below (p ∷ met) len more.distinct more.below in
    omega (arith, most, f)

read_within : (link : ℕ → Link) (len : ℕ) → Within len link
    → (met : List ℕ) (p : ℕ) (after : Option ℕ) → enter_at link met p ≡ Ok after → p < len
read_within link len w met p after h = (let r = was_read (p ∷ met) (link p) after h in w p r.0 r.1)

none_distinct : IsDistinct nat_eq []
unfolding IsDistinct
none_distinct = tt

pub none_known : (len : ℕ) → Known len []
none_known len = record { distinct = none_distinct; below = λ q h. absurd (subst IsFalseBit h tt) }

-- the walk is the chain
abbrev Walked : (ℕ → Link) → List ℕ → Option ℕ → Chain → Type 0
Walked link met next c = IsChain link met next c.offsets c.end

on : (link : ℕ → Link) (met : List ℕ) (p : ℕ) (rest : Option ℕ → Chain) (r : Link)
    → enter_at link met p ≡ r
    → ((after : Option ℕ) → enter_at link met p ≡ Ok after
    → Walked link (p ∷ met) after (rest after)) → Walked link met (Some p) (onto p r rest)
on link met p rest (Err e) h f = (e, h, refl)
on link met p rest (Ok after) h f = (refl, after, h, f after h)

walked : (link : ℕ → Link) (len : ℕ) → Within len link → (fuel : ℕ) (met : List ℕ) (next : Option ℕ)
    → len ≤ fuel + length met → Known len met → IsNew met next
    → Walked link met next (walk link fuel met next)
walked link len w fuel met None f k n = refl
walked link len w zero met (Some p) f k n =
    on link met p (λ _. record { offsets = []; end = None }) (enter_at link met p) refl (λ after h.
    absurd (full len p met (read_within link len w met p after h) n k (omega (arith, f))))
walked link len w (suc fuel) met (Some p) f k n =
    on link met p (walk link fuel (p ∷ met)) (enter_at link met p) refl (λ after h.
    walked link len w fuel (p ∷ met) after (omega (arith, f))
    (known_more len p met (read_within link len w met p after h) n k)
    (is_new (p ∷ met) (link p) after h))

-- a directory that is read begins before the end of the file
some_count : (kind : FileKind) → 0 < byte_len (count_width kind)
some_count Classic = lit< tt
some_count Big = lit< tt

past_fault : (kind : FileKind) (order : ByteOrder) (bytes : List ℕ) (at : ℕ) → length bytes ≤ at
    → link_from kind order bytes at ≡ Err (IoError UnexpectedEof)
unfolding directory_at
past_fault kind order bytes at past =
    ap (λ (r : Result ℕ TiffError). (r >>= λ count. number_at order (offset_width kind) bytes (link_offset kind at count) >>= λ next. Ok (record { entries = last_of_each (entries_from kind order bytes (first_entry kind at) count); next = link next })) >>= λ (d : DirectoryRecord). Ok d.next)
    (number_past order (count_width kind) bytes at (some_count kind) past)

within_by : (b : Bool) (at len : ℕ) (r : Link) (next : Option ℕ) → nat_lt at len ≡ b
    → (len ≤ at → r ≡ Err (IoError UnexpectedEof)) → r ≡ Ok next → at < len
within_by true at len r next t f h = grind (arith, nat_tests)
within_by false at len r next t f h =
    let past : len ≤ at = grind (arith, nat_tests) in
    absurd (not_both r next (IoError UnexpectedEof) h (f past))

within : (kind : FileKind) (order : ByteOrder) (bytes : List ℕ)
    → Within (length bytes) (link_from kind order bytes)
within kind order bytes at next =
    within_by (nat_lt at (length bytes)) at (length bytes) (link_from kind order bytes at) next refl
    (past_fault kind order bytes at)

pub the_chain : IsTheChain
unfolding chain
the_chain kind order bytes first =
    walked (link_from kind order bytes) (length bytes) (within kind order bytes) (length bytes) []
    (Some first) (omega arith) (none_known (length bytes)) refl

pub longest : IsLongestChain
longest kind order bytes first =
    let offsets = (chain kind order bytes first).offsets in
    let end = (chain kind order bytes first).end in
    let is = the_chain kind order bytes first in
    record {
      entered = offsets_entered (link_from kind order bytes) [] (Some first) offsets end is;
      longest =
          λ others h. begins (link_from kind order bytes) [] (Some first) offsets others end is h;
    }

-- ---- the offsets of a chain differ

-- offsets that are entered after other ones differ from these
abbrev AreNoneOf : List ℕ → List ℕ → Type 0
AreNoneOf met offsets = AllByRecursion (λ q. list_any (nat_eq q) met ≡ false) offsets

fewer_by : (p : ℕ) (met offsets : List ℕ) → AreNoneOf (p ∷ met) offsets → AreNoneOf met offsets
fewer_by p met [] h = tt
fewer_by p met (q ∷ offsets) h =
    ((neither (nat_eq q p) (list_any (nat_eq q) met) h.0).1, fewer_by p met offsets h.1)

flip : (p q : ℕ) → nat_eq q p ≡ false → nat_eq p q ≡ false
flip p q h = grind (arith, nat_tests)

apart_by : (p : ℕ) (met offsets : List ℕ) → AreNoneOf (p ∷ met) offsets
    → AllByRecursion (λ y. nat_eq p y ≡ false) offsets
apart_by p met [] h = tt
apart_by p met (q ∷ offsets) h =
    (flip p q (neither (nat_eq q p) (list_any (nat_eq q) met) h.0).0, apart_by p met offsets h.1)

-- the facts about offsets that are entered after other ones
record Entered (len : ℕ) (met offsets : List ℕ) : Type 0 where
  new : AreNoneOf met offsets
  known : Known len offsets

entered_apart : (link : ℕ → Link) (len : ℕ) → Within len link
    → (met : List ℕ) (next : Option ℕ) (offsets : List ℕ)
    → IsNew met next → AreEntered link met next offsets → Entered len met offsets
entered_apart link len w met next [] n d = record { new = tt; known = none_known len }
entered_apart link len w met None (p ∷ offsets) n d = absurd d
entered_apart link len w met (Some q) (p ∷ offsets) n d =
    let rest =
    entered_apart link len w (q ∷ met) d.1 offsets (is_new (q ∷ met) (link q) d.1 d.2) d.3 in
    let below : q < len = read_within link len w met q d.1 d.2 in
    let P : ℕ → Type 0 = λ x. Entered len met (x ∷ offsets) in
    let here : Entered len met (q ∷ offsets) = record {
      new = (n, fewer_by q met offsets rest.new);
      known = record {
        distinct =
            IsDistinct-cons nat_eq q offsets (apart_by q met offsets rest.new) rest.known.distinct;
        below = below_more len q offsets below rest.known.below;
      };
    } in
    subst P (sym d.0) here

pub apart_chain : IsChainApart
apart_chain kind order bytes first =
    let offsets = (chain kind order bytes first).offsets in
    let end = (chain kind order bytes first).end in
    let known =
    (entered_apart (link_from kind order bytes) (length bytes) (within kind order bytes) [] (Some first) offsets refl
    (offsets_entered (link_from kind order bytes) [] (Some first) offsets end (the_chain kind order bytes first))).known in
    record { differ = known.distinct; below = known.below }
