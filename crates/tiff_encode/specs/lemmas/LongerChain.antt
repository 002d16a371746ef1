-- The chain of a file goes on where its last link points to a directory behind its former end.
use Rattle.std.proofs.Common.{◌≡◌, ℕ, ◌+◌, ◌<◌, ◌≤◌, ◌⊎◌, List, [], ◌∷◌, ◌++◌, length, Option, None, Some, Bool, true, false, cond, Result, Ok, Err, refl, ap, sym, ◌∙◌, inl, inr, subst, arith, nat_eq, lit<}
use Rattle.std.proofs.lemmas.Bool.{cases_eq, ne_eqb}
use Rattle.std.proofs.lemmas.List.Folds.{list_any-append}
use Rattle.std.specs.Int.{Width, byte_len}
use Rattle.std.specs.List.{list_any}
use Rattle.tiff_base.specs.lemmas.Common.{bind_ok}
use Rattle.tiff_base.specs.declared.error.TiffError.{TiffError}
use Rattle.tiff_base.specs.declared.error.TiffError.TheVariants.{FormatError}
use Rattle.tiff_base.specs.declared.error.TiffFormatError.TheVariants.{CycleInOffsets}
use Rattle.tiff_base.specs.declared.tags.FileKind.{FileKind}
use Rattle.tiff_base.specs.declared.tags.FileKind.TheVariants.{Classic, Big}
use Rattle.tiff_base.specs.declared.tags.ByteOrder.TheVariants.{LittleEndian}
use Rattle.tiff_base.specs.Answers.{◌>>=◌}
use Rattle.tiff_base.specs.Field.{DirectoryRecord}
use Rattle.tiff_base.specs.Directory.{count_width, offset_width, entries_from, last_of_each, first_entry, link, link_offset, directory_at}
use Rattle.tiff_base.specs.Number.{number_at}
use Rattle.tiff_ifd.specs.Chain.{link_from, unless_met, IsChain, Chain}
use Rattle.tiff_ifd.specs.lemmas.Chain.{the_chain, one_chain}
use Rattle.tiff_encode.specs.Appending.{Continues}
use Rattle.tiff_value.specs.FileBytes.{offset_len, count_len}
use Rattle.tiff_value.specs.Model.{IsClear, header_link}
use Rattle.tiff_encode.specs.LongerChain.{chain_behind, link_offset_at, link_behind, unless_cut, IsReadOnce, LinkBehind, ChainGoesOn}
use Rattle.tiff_base.specs.lemmas.Slices.{ok_bind, ok_inj, some_inj, none_some, number_kept}
use Rattle.tiff_value.specs.lemmas.File.Kept.{directory_from}
use Rattle.tiff_encode.specs.lemmas.GoingOn.{some_offset, number_within, bytes_stay}

abbrev Link : Type 0
Link = Result (Option ℕ) TiffError

-- ---- the link of one directory

-- a directory that is read has a count, entries and a link
pub directory_split : (kind : FileKind) (file : List ℕ) (p : ℕ) (d : DirectoryRecord)
    → directory_at kind LittleEndian file p ≡ Ok d
    → (count x : ℕ) × ((number_at LittleEndian (count_width kind) file p ≡ Ok count)
    × ((number_at LittleEndian (offset_width kind) file (link_offset kind p count) ≡ Ok x)
    × (d ≡ record { entries = last_of_each (entries_from kind LittleEndian file (first_entry kind p) count); next = link x })))
unfolding directory_at
directory_split kind file p d h =
    let made : ℕ → ℕ → DirectoryRecord = λ count next. record {
      entries = last_of_each (entries_from kind LittleEndian file (first_entry kind p) count);
      next = link next;
    } in
    let Made : ℕ → ℕ → Result DirectoryRecord TiffError = λ count next. Ok (made count next) in
    let Counted : ℕ → Result DirectoryRecord TiffError =
    λ count. number_at LittleEndian (offset_width kind) file (link_offset kind p count)
    >>= Made count in
    let c = bind_ok (number_at LittleEndian (count_width kind) file p) Counted d h in
    let x =
    bind_ok (number_at LittleEndian (offset_width kind) file (link_offset kind p c.0))
    (Made c.0) d c.1.1 in
    (c.0, x.0, (c.1.0, (x.1.0, sym (ok_inj (made c.0 x.0) d x.1.1))))

-- a directory whose link is read has a count and a link
pub link_parts : (kind : FileKind) (file : List ℕ) (p : ℕ) (after : Option ℕ)
    → link_from kind LittleEndian file p ≡ Ok after
    → (count x : ℕ) × ((number_at LittleEndian (count_width kind) file p ≡ Ok count)
    × ((number_at LittleEndian (offset_width kind) file (link_offset kind p count) ≡ Ok x) × (after ≡ link x)))
link_parts kind file p after h =
    let Next : DirectoryRecord → Link = λ d. Ok d.next in
    let d = bind_ok (directory_at kind LittleEndian file p) Next after h in
    let s = directory_split kind file p d.0 d.1.0 in
    (s.0, s.1, (s.2.0, (s.2.1.0, sym (ok_inj d.0.next after d.1.1) ∙ ap (λ (r : DirectoryRecord). r.next) s.2.1.1)))

-- the link of a directory whose count and link are read
link_whole : (kind : FileKind) (file : List ℕ) (p count x : ℕ)
    → number_at LittleEndian (count_width kind) file p ≡ Ok count
    → number_at LittleEndian (offset_width kind) file (link_offset kind p count) ≡ Ok x
    → link_from kind LittleEndian file p ≡ Ok (link x)
link_whole kind file p count x c l =
    let Next : DirectoryRecord → Link = λ d. Ok d.next in
    let fields = last_of_each (entries_from kind LittleEndian file (first_entry kind p) count) in
    ok_bind (directory_at kind LittleEndian file p) Next (record { entries = fields; next = link x }) (link x) (directory_from kind file p count fields x c refl l) refl

some_count : (kind : FileKind) → 0 < count_len kind
some_count Classic = lit< tt
some_count Big = lit< tt

-- ---- entered links

-- none of the offsets is at or behind an end
pub NotMet : ℕ → List ℕ → Type 0
NotMet len met = (z : ℕ) → len ≤ z → list_any (nat_eq z) met ≡ false

pub none_met : (len : ℕ) → NotMet len []
unfolding NotMet
none_met len z l = refl

pub more_met : (len p : ℕ) (met : List ℕ) → p < len → NotMet len met → NotMet len (p ∷ met)
unfolding NotMet
more_met len p met l n z b = rw (ne_eqb z p (λ s. omega (arith, s, l, b))) (n z b)

-- offsets are met only before a later end, too
pub later : (len least : ℕ) (met : List ℕ) → len ≤ least → NotMet len met → NotMet least met
unfolding NotMet
later len least met l n z b = n z (omega (arith, l, b))

pub not_met : (len : ℕ) (met : List ℕ) → NotMet len met → (z : ℕ) → len ≤ z
    → list_any (nat_eq z) met ≡ false
unfolding NotMet
not_met len met n = n

-- a link that is entered is the link of the directory, and isn't met
entered_by : (b : Bool) (n : ℕ) (after : Option ℕ)
    → cond b (Err (FormatError CycleInOffsets)) (Ok (Some n)) ≡ Ok after
    → (b ≡ false) × (after ≡ Some n)
entered_by true n after h = absurd cc
entered_by false n after h = (refl, cc)

-- what is known of an entered directory: its link, which is none or not met
pub Entered : List ℕ → Link → Option ℕ → Type 0
Entered met r after = (r ≡ Ok after) × ((n : ℕ) → after ≡ Some n → list_any (nat_eq n) met ≡ false)

pub entered : (met : List ℕ) (r : Link) (after : Option ℕ) → (r >>= unless_met met) ≡ Ok after
    → Entered met r after
unfolding Entered
entered met (Err e) after h = absurd cc
entered met (Ok None) after h = (h, λ n s. absurd cc)
entered met (Ok (Some n)) after h =
    let t = entered_by (list_any (nat_eq n) met) n after h in (
      ap (λ (o : Option ℕ). let r : Link = Ok o in r) (sym t.1),
      λ m s. (
          let same : n ≡ m = some_inj n m (sym t.1 ∙ s) in
          let P : ℕ → Type 0 = λ k. list_any (nat_eq k) met ≡ false in
          subst P same t.0),
    )

pub entered_link : (met : List ℕ) (r : Link) (after : Option ℕ) → (r >>= unless_met met) ≡ Ok after
    → r ≡ Ok after
unfolding Entered
entered_link met r after h = (entered met r after h).0

-- a link is entered if it is none, or not met
pub enters : (met : List ℕ) (r : Link) (after : Option ℕ) → r ≡ Ok after
    → ((n : ℕ) → after ≡ Some n → list_any (nat_eq n) met ≡ false)
    → (r >>= unless_met met) ≡ Ok after
enters met r None h f = ap (λ z. z >>= unless_met met) h
enters met r (Some n) h f = ap (λ z. z >>= unless_met met) h ∙ (rw (f n refl) refl)

-- a link that fails still fails behind more offsets
failed_by : (b : Bool) (n : ℕ) (e : TiffError)
    → cond b (Err (FormatError CycleInOffsets)) (Ok (Some n)) ≡ Err e
    → (b ≡ true) × (FormatError CycleInOffsets ≡ e)
failed_by true n e h = (refl, cc)
failed_by false n e h = absurd cc

still_fails : (former met : List ℕ) (r : Link) (e : TiffError) → (r >>= unless_met met) ≡ Err e
    → (r >>= unless_met (met ++ former)) ≡ Err e
still_fails former met (Err f) e h = h
still_fails former met (Ok None) e h = absurd cc
still_fails former met (Ok (Some n)) e h =
    let t = failed_by (list_any (nat_eq n) met) n e h in
    let m : list_any (nat_eq n) (met ++ former) ≡ true =
    list_any-append (nat_eq n) met former ∙ (rw t.0 refl) in
    rw m (ap (λ (x : TiffError). let r : Link = Err x in r) t.1)

-- a chain whose links are at or behind an end stays the same behind offsets that are not
behind_more : (kind : FileKind) (new : List ℕ) (len : ℕ) (former : List ℕ) → NotMet len former
    → (met : List ℕ) (next : Option ℕ) (rest : List ℕ) (end : Option TiffError)
    → LinkBehind kind new len rest
    → IsChain (link_from kind LittleEndian new) met next rest end
    → IsChain (link_from kind LittleEndian new) (met ++ former) next rest end
unfolding NotMet Entered
behind_more kind new len former f met None [] end b c = c
behind_more kind new len former f met None (x ∷ xs) end b c = absurd c
behind_more kind new len former f met (Some p) [] end b c =
    (c.0, still_fails former (p ∷ met) (link_from kind LittleEndian new p) c.0 c.1, c.2)
behind_more kind new len former f met (Some p) (x ∷ xs) end b c =
    let e = entered (p ∷ met) (link_from kind LittleEndian new p) c.1 c.2 in
    let free : (n : ℕ) → c.1 ≡ Some n → list_any (nat_eq n) ((p ∷ met) ++ former) ≡ false = λ n s.
    let P : ℕ → Type 0 = λ y. link_from kind LittleEndian new y ≡ Ok (Some n) in
    let own : link_from kind LittleEndian new x ≡ Ok (Some n) =
    subst P (sym c.0) (e.0 ∙ ap (λ (o : Option ℕ). let r : Link = Ok o in r) s) in
    list_any-append (nat_eq n) (p ∷ met) former ∙ (rw (e.1 n s) (f n (b x n (inl refl) own))) in (
      c.0,
      c.1,
      enters ((p ∷ met) ++ former) (link_from kind LittleEndian new p) c.1 e.0 free,
      behind_more kind new len former f (p ∷ met) c.1 xs end (λ o n i. b o n (inr i)) c.3,
    )

-- ---- the longer file

-- a link of another number than 0 is to a directory, and a link to none is 0
pub other_link : (x : ℕ) → (x ≡ 0 → ⊥) → link x ≡ Some x
other_link x d = rw (ne_eqb x 0 d) refl

pub some_link : (x : ℕ) → 0 < x → link x ≡ Some x
some_link x p = other_link x (λ s. omega (arith, s, p))

pub zero_link : (x : ℕ) → link x ≡ None → x ≡ 0
zero_link x h =
    elim (cases_eq x 0) [ inl s ↦ s | inr d ↦ absurd (none_some {x = x} (sym h ∙ other_link x d)) ]

-- a chain without an offset that ends well begins at no directory
pub ended : (l : ℕ → Link) (met : List ℕ) (next : Option ℕ) → IsChain l met next [] None
    → next ≡ None
ended l met None c = refl
ended l met (Some n) c = absurd (none_some c.2)

-- the link of a directory, by its count
pub own_link_at : (kind : FileKind) (file : List ℕ) (p count : ℕ)
    → number_at LittleEndian (count_width kind) file p ≡ Ok count
    → link_offset_at kind file p ≡ Ok (link_offset kind p count)
own_link_at kind file p count c =
    let F : ℕ → Result ℕ TiffError = λ n. Ok (link_offset kind p n) in
    ok_bind (number_at LittleEndian (count_width kind) file p) F count (link_offset kind p count) c refl

module _ (kind : FileKind) (file : List ℕ) (q : ℕ) where
  -- the former link of a directory
  former_link : ℕ → Link
  former_link = link_from kind LittleEndian file

  -- the link behind a chain that ends well is 0
  last_zero : (met : List ℕ) (next : Option ℕ) (p : ℕ) (ps : List ℕ)
      → IsChain former_link met next (p ∷ ps) None
      → link_behind kind file (p ∷ ps) ≡ Ok q
      → number_at LittleEndian (offset_width kind) file q ≡ Ok 0
  unfolding former_link Entered
  last_zero met None p ps c l = absurd c
  last_zero met (Some n) p [] c l =
      let e = entered (n ∷ met) (former_link n) c.1 c.2 in
      let parts = link_parts kind file n c.1 e.0 in
      let zero : parts.1 ≡ 0 =
      zero_link parts.1 (sym parts.2.1.1 ∙ ended former_link (n ∷ met) c.1 c.3) in
      let P : ℕ → Type 0 = λ y. link_offset_at kind file y ≡ Ok q in
      let here : link_offset kind n parts.0 ≡ q =
      ok_inj (link_offset kind n parts.0) q (sym (own_link_at kind file n parts.0 parts.2.0)
      ∙ subst P c.0 l) in
      let Q : ℕ → Type 0 = λ y. number_at LittleEndian (offset_width kind) file y ≡ Ok 0 in
      subst Q here (parts.2.1.0 ∙ ap (λ (y : ℕ). let r : Result ℕ TiffError = Ok y in r) zero)
  last_zero met (Some n) p (p2 ∷ ps) c l = last_zero (n ∷ met) c.1 p2 ps c.3 l

  module _ (new : List ℕ) (d : ℕ) (room : q + offset_len kind ≤ length file)
      (behind : (d ≡ 0) ⊎ (length file ≤ d)) (continues : Continues kind q file new)
      (here : number_at LittleEndian (offset_width kind) new q ≡ Ok d) where
    -- numbers apart from the link stay
    number_stays : (w : Width) (p x : ℕ) → IsClear kind q p (byte_len w)
        → number_at LittleEndian w file p ≡ Ok x → number_at LittleEndian w new p ≡ Ok x
    number_stays w p x c =
        number_kept file new w p x (λ s. bytes_stay kind q file new room continues p (byte_len w) s c)

    -- the new link is to a directory behind the former end, if to any
    link_far : (y : ℕ) → link d ≡ Some y → length file ≤ y
    link_far y s = elim (cases_eq d 0) [
      | inl z ↦ absurd (none_some {x = y} (ap link (sym z) ∙ s))
      | inr o ↦
          (let same = some_inj d y (sym (other_link d o) ∙ s) in
          elim behind [ inl z ↦ absurd (o z) | inr f ↦ omega (arith, same, f) ])
    ]

    module _ (rest : List ℕ) (end : Option TiffError) (goes : IsChain (link_from kind LittleEndian new) [] (link d) rest end)
        (links : LinkBehind kind new (length file) rest) where
      -- a chain goes on
      chain_on : (met : List ℕ) (next : Option ℕ) (p : ℕ) (ps : List ℕ) → NotMet (length file) met
          → IsChain former_link met next (p ∷ ps) None
          → link_behind kind file (p ∷ ps) ≡ Ok q
          → number_at LittleEndian (offset_width kind) file q ≡ Ok 0
          → IsReadOnce kind file q (p ∷ ps)
          → IsChain (link_from kind LittleEndian new) met next ((p ∷ ps) ++ rest) end
      unfolding former_link Entered NotMet
      chain_on met None p ps m c l z r = absurd c
      chain_on met (Some n) p [] m c l z r =
          let e = entered (n ∷ met) (former_link n) c.1 c.2 in
          let parts = link_parts kind file n c.1 e.0 in
          let C : ℕ → Type 0 = λ y. IsClear kind q y (count_len kind) in
          let P : ℕ → Type 0 = λ y. link_offset_at kind file y ≡ Ok q in
          let place : link_offset kind n parts.0 ≡ q =
          ok_inj (link_offset kind n parts.0) q (sym (own_link_at kind file n parts.0 parts.2.0)
          ∙ subst P c.0 l) in
          let count =
          number_stays (count_width kind) n parts.0 (subst C c.0 (r.counts p (inl refl))) parts.2.0 in
          let Q : ℕ → Type 0 = λ y. number_at LittleEndian (offset_width kind) new y ≡ Ok d in
          let own = link_whole kind new n parts.0 d count (subst Q (sym place) here) in
          let w = number_within file (count_width kind) n parts.0 (some_count kind) parts.2.0 in
          let so_far = more_met (length file) n met (omega (arith, w, some_count kind)) m in (
            c.0,
            link d,
            enters (n ∷ met) (link_from kind LittleEndian new n) (link d) own
                (λ y s. so_far y (link_far y s)),
            behind_more kind new (length file) (n ∷ met) so_far [] (link d) rest end links goes,
          )
      chain_on met (Some n) p (p2 ∷ ps) m c l z r =
          let e = entered (n ∷ met) (former_link n) c.1 c.2 in
          let parts = link_parts kind file n c.1 e.0 in
          let C : ℕ → Type 0 = λ y. IsClear kind q y (count_len kind) in
          let own : ℕ = link_offset kind n parts.0 in
          let P : ℕ → Type 0 = λ y. link_offset_at kind file y ≡ Ok own in
          let count =
          number_stays (count_width kind) n parts.0 (subst C c.0 (r.counts p (inl refl))) parts.2.0 in
          let w = number_within file (count_width kind) n parts.0 (some_count kind) parts.2.0 in
          let below : n < length file = omega (arith, w, some_count kind) in
          let kept : link_from kind LittleEndian new n ≡ Ok c.1 =
          elim (r.links p own (inl refl) (subst P (sym c.0) (own_link_at kind file n parts.0 parts.2.0))) as (λ _. link_from kind LittleEndian new n ≡ Ok c.1) [
            | inl s ↦
                (let Q : ℕ → Type 0 = λ y. number_at LittleEndian (offset_width kind) file y ≡ Ok parts.1 in
                let none : parts.1 ≡ 0 = ok_inj parts.1 0 (sym (subst Q s parts.2.1.0) ∙ z) in
                let stop : c.1 ≡ None = parts.2.1.1 ∙ ap link none in
                let R : Option ℕ → Type 0 = λ a. IsChain former_link (n ∷ met) a (p2 ∷ ps) None in
                absurd (subst R stop c.3))
            | inr a ↦ link_whole kind new n parts.0 parts.1 count (number_stays (offset_width kind) own parts.1 a parts.2.1.0)
                ∙ ap (λ (o : Option ℕ). let r : Link = Ok o in r) (sym parts.2.1.1)
          ] in (
            c.0,
            c.1,
            enters (n ∷ met) (link_from kind LittleEndian new n) c.1 kept e.1,
            chain_on (n ∷ met) c.1 p2 ps (more_met (length file) n met below m) c.3 l z
                (record { header = r.header; counts = λ o i. r.counts o (inr i); links = λ o y i. r.links o y (inr i) }),
          )

-- ---- the chain from the header on

pub chain_of : (kind : FileKind) (file : List ℕ) (next : Option ℕ)
    → IsChain (link_from kind LittleEndian file) [] next (chain_behind kind file next).offsets
    (chain_behind kind file next).end
chain_of kind file None = refl
chain_of kind file (Some first) = the_chain kind LittleEndian file first

pub chain_is : (kind : FileKind) (file : List ℕ) (next : Option ℕ) (offsets : List ℕ) (end : Option TiffError)
    → IsChain (link_from kind LittleEndian file) [] next offsets end
    → chain_behind kind file next ≡ record { offsets = offsets; end = end }
chain_is kind file next offsets end h =
    let e =
    one_chain kind LittleEndian file [] next (chain_behind kind file next).offsets offsets
    (chain_behind kind file next).end end (chain_of kind file next) h in
    λ i. record { offsets = e.0 i; end = e.1 i }

pub uncut : (end : Option TiffError) (r : Result ℕ TiffError) (q : ℕ) → unless_cut end r ≡ Ok q
    → (end ≡ None) × (r ≡ Ok q)
uncut None r q h = (refl, h)
uncut (Some e) r q h = absurd cc

-- the header's link and the chain from it on, in the longer file
from_header : (kind : FileKind) (file new : List ℕ) (q d first : ℕ) (offsets rest : List ℕ)
    (end : Option TiffError)
    → number_at LittleEndian (offset_width kind) file (header_link kind) ≡ Ok first
    → IsChain (link_from kind LittleEndian file) [] (link first) offsets None
    → link_behind kind file offsets ≡ Ok q → IsReadOnce kind file q offsets
    → Continues kind q file new → number_at LittleEndian (offset_width kind) new q ≡ Ok d
    → (d ≡ 0) ⊎ (length file ≤ d)
    → IsChain (link_from kind LittleEndian new) [] (link d) rest end
    → LinkBehind kind new (length file) rest
    → (begin : ℕ) × ((number_at LittleEndian (offset_width kind) new (header_link kind) ≡ Ok begin)
    × IsChain (link_from kind LittleEndian new) [] (link begin) (offsets ++ rest) end)
unfolding former_link
from_header kind file new q d first [] rest end n c l r on here behind goes b =
    let Q : ℕ → Type 0 = λ y. number_at LittleEndian (offset_width kind) new y ≡ Ok d in
    (d, (subst Q (sym (ok_inj (header_link kind) q l)) here, goes))
from_header kind file new q d first (p ∷ ps) rest end n c l r on here behind goes b =
    let z = last_zero kind file q [] (link first) p ps c l in
    let room : q + offset_len kind ≤ length file =
    number_within file (offset_width kind) q 0 (some_offset kind) z in
    let Q : ℕ → Type 0 = λ y. number_at LittleEndian (offset_width kind) file y ≡ Ok 0 in
    let P : ℕ → Type 0 =
    λ y. IsChain (link_from kind LittleEndian file) [] (link y) (p ∷ ps) None in
    let header : number_at LittleEndian (offset_width kind) new (header_link kind) ≡ Ok first =
    elim r.header as (λ _. number_at LittleEndian (offset_width kind) new (header_link kind)
    ≡ Ok first) [
      | inl s ↦ absurd (subst P (ok_inj first 0 (sym n ∙ subst Q s z)) c)
      | inr a ↦ number_stays kind file q new d room behind on here (offset_width kind)
          (header_link kind) first (inl a) n
    ] in
    (first, (header, chain_on kind file q new d room behind on here rest end goes b [] (link first) p ps (none_met (length file)) c l z r))

pub chain_goes_on : ChainGoesOn
chain_goes_on kind file new q d former rest f l r on here behind c b =
    let F : ℕ → Result Chain TiffError = λ first. Ok (chain_behind kind file (link first)) in
    let G : ℕ → Result Chain TiffError = λ first. Ok (chain_behind kind new (link first)) in
    let Last : Chain → Result ℕ TiffError =
    λ found. unless_cut found.end (link_behind kind file found.offsets) in
    let i =
    bind_ok (number_at LittleEndian (offset_width kind) file (header_link kind)) F former f in
    let same : chain_behind kind file (link i.0) ≡ former =
    ok_inj (chain_behind kind file (link i.0)) former i.1.1 in
    let u =
    uncut former.end (link_behind kind file former.offsets) q (sym (ap (λ x. x >>= Last) f)
    ∙ l) in
    let P : Chain → Type 0 =
    λ x. IsChain (link_from kind LittleEndian file) [] (link i.0) x.offsets x.end in
    let E : Option TiffError → Type 0 =
    λ e. IsChain (link_from kind LittleEndian file) [] (link i.0) former.offsets e in
    let walked = subst E u.0 (subst P same (chain_of kind file (link i.0))) in
    let R : Chain → Type 0 =
    λ x. IsChain (link_from kind LittleEndian new) [] (link d) x.offsets x.end in
    let goes = subst R c (chain_of kind new (link d)) in
    let h =
    from_header kind file new q d i.0 former.offsets rest.offsets rest.end i.1.0 walked u.1 r on here behind goes b in
    let all : Chain = record { offsets = former.offsets ++ rest.offsets; end = rest.end } in
    ok_bind (number_at LittleEndian (offset_width kind) new (header_link kind)) G h.0 all h.1.0
    (ap (λ (x : Chain). let y : Result Chain TiffError = Ok x in
    y) (chain_is kind new (link h.0) (former.offsets ++ rest.offsets) rest.end h.1.1))
