-- The chain of a file goes on with the directories that are linked in its model, and the last link
-- of a file is where an encoder can go on.
use Rattle.std.proofs.Common.{◌≡◌, ℕ, ◌+◌, ◌<◌, ◌≤◌, ◌⊎◌, List, [], ◌∷◌, ◌++◌, length, Option, None, Some, false, Result, Ok, refl, ap, sym, ◌∙◌, inl, inr, subst, arith, nat_eq}
use Rattle.std.proofs.lemmas.Bool.{cases_eq}
use Rattle.std.specs.Prelude.{map}
use Rattle.std.specs.List.{list_any}
use Rattle.std.specs.FinMap.{len}
use Rattle.tiff_base.specs.lemmas.Common.{bind_ok}
use Rattle.tiff_base.specs.declared.error.TiffError.{TiffError}
use Rattle.tiff_base.specs.declared.tags.FileKind.{FileKind}
use Rattle.tiff_base.specs.declared.tags.ByteOrder.TheVariants.{LittleEndian}
use Rattle.tiff_base.specs.Answers.{◌>>=◌}
use Rattle.tiff_base.specs.Field.{DirectoryRecord}
use Rattle.tiff_base.specs.Directory.{offset_width, link, directory_at}
use Rattle.tiff_base.specs.Number.{number_at}
use Rattle.tiff_ifd.specs.Chain.{link_from, IsChain, Chain}
use Rattle.tiff_encode.specs.Appending.{HasHeader}
use Rattle.tiff_value.specs.Model.{In, FinishedDirectory, Model, FileContains, IsLink, header_link, own_link}
use Rattle.tiff_encode.specs.LongerChain.{chain_behind, link_offset_at, link_behind, unless_cut, LinkBehind, AreLinked, PagesGoOn, LastLinkEnds}
use Rattle.tiff_base.specs.lemmas.Slices.{ok_bind, ok_inj, some_inj, none_some}
use Rattle.tiff_value.specs.lemmas.File.Kept.{own_parts}
use Rattle.tiff_encode.specs.lemmas.GoingOn.{some_offset, number_within}
use Rattle.tiff_encode.specs.lemmas.LongerChain.{NotMet, later, not_met, more_met, none_met, enters, entered_link, other_link, zero_link, some_link, ended, own_link_at, chain_of, chain_is, uncut, chain_goes_on}

abbrev Link : Type 0
Link = Result (Option ℕ) TiffError

-- the target of a link to a directory
cases_zero : (x y : ℕ) → link x ≡ Some y → x ≡ y
cases_zero x y s =
    elim (cases_eq x 0) [ inl z ↦ absurd (none_some {x = y} (ap link (sym z) ∙ s)) | inr d ↦ some_inj x y (sym (other_link x d) ∙ s) ]

-- ---- linked directories

module _ (kind : FileKind) (new : List ℕ) (m : Model) (stands : FileContains kind new m) where
  -- a link of a model has its number
  number_of_link : (q : ℕ) → IsLink kind m q
      → number_at LittleEndian (offset_width kind) new q ≡ Ok (m.links q)
  number_of_link q l =
      let Here : ℕ → Type 0 =
      λ y. number_at LittleEndian (offset_width kind) new y ≡ Ok (m.links y) in
      elim l as (λ _. Here q) [
        | inl s ↦ subst Here (sym s) stands.first
        | inr y ↦ subst Here (sym y.1.1) (own_parts kind m new y.0 y.1.0 stands).1
      ]

  -- the link of a directory of the model
  own_of : (d : FinishedDirectory) → In d m.directories
      → link_from kind LittleEndian new d.offset ≡ Ok (link (m.links (own_link kind d)))
  own_of d i =
      let Next : DirectoryRecord → Link = λ d. Ok d.next in
      ok_bind (directory_at kind LittleEndian new d.offset) Next (record { entries = d.fields; next = link (m.links (own_link kind d)) }) (link (m.links (own_link kind d))) (stands.directories d i) refl

  -- the first of the linked directories, if there is one, is behind the offset
  far : (least q : ℕ) (ds : List FinishedDirectory) → AreLinked kind m least q ds
      → (m.links q ≡ 0) ⊎ (least ≤ m.links q)
  far least q [] l = inl l
  far least q (d ∷ ds) l = (let s = l.1.0 in let b = l.1.1.0 in inr (omega (arith, s, b)))

  far_link : (least q : ℕ) (ds : List FinishedDirectory) → AreLinked kind m least q ds → (y : ℕ)
      → link (m.links q) ≡ Some y → least ≤ y
  far_link least q [] l y s = absurd (none_some {x = y} (ap link (sym l) ∙ s))
  far_link least q (d ∷ ds) l y s = elim (far least q (d ∷ ds) l) [
    | inl z ↦ absurd (none_some {x = y} (ap link (sym z) ∙ s))
    | inr b ↦ (let t = cases_zero (m.links q) y s in omega (arith, t, b))
  ]

  -- they are the chain from the link on
  linked_chain : (least q : ℕ) (ds : List FinishedDirectory) (met : List ℕ) → 0 < least
      → AreLinked kind m least q ds → NotMet least met
      → IsChain (link_from kind LittleEndian new) met (link (m.links q))
      (map (λ (d : FinishedDirectory). d.offset) ds) None
  linked_chain least q [] met p l n =
      let P : ℕ → Type 0 = λ y. IsChain (link_from kind LittleEndian new) met (link y) [] None in
      subst P (sym l) refl
  linked_chain least q (d ∷ ds) met p l n =
      let offsets : List ℕ = map (λ (d : FinishedDirectory). d.offset) ds in
      let b : least ≤ d.offset = l.1.1.0 in
      let P : Option ℕ → Type 0 =
      λ y. IsChain (link_from kind LittleEndian new) met y (d.offset ∷ offsets) None in
      let here : Some d.offset ≡ link (m.links q) =
      sym (ap link l.1.0 ∙ some_link d.offset (omega (arith, p, b))) in
      let after : Option ℕ = link (m.links (own_link kind d)) in
      let so_far : NotMet (d.offset + 1) (d.offset ∷ met) =
      more_met (d.offset + 1) d.offset met (omega arith) (later least (d.offset
      + 1) met (omega (arith, b)) n) in
      let free : (y : ℕ) → after ≡ Some y → list_any (nat_eq y) (d.offset ∷ met) ≡ false = λ y s.
      not_met (d.offset + 1) (d.offset ∷ met) so_far y (far_link (d.offset
      + 1) (own_link kind d) ds l.1.1.1 y s) in
      subst P here (
        refl,
        after,
        enters (d.offset ∷ met) (link_from kind LittleEndian new d.offset) after (own_of d l.0) free,
        linked_chain (d.offset + 1) (own_link kind d) ds (d.offset
            ∷ met) (omega arith) l.1.1.1 so_far,
      )

  -- none of them links back
  links_on : (size least q : ℕ) (ds : List FinishedDirectory) → size ≤ least
      → AreLinked kind m least q ds
      → LinkBehind kind new size (map (λ (d : FinishedDirectory). d.offset) ds)
  links_on size least q [] s l offset next i h = absurd i
  links_on size least q (d ∷ ds) s l offset next i h =
      let b : least ≤ d.offset = l.1.1.0 in
      elim i as (λ _. size ≤ next) [
        | inl e ↦
            (let P : ℕ → Type 0 = λ y. link_from kind LittleEndian new y ≡ Ok (Some next) in
            let own : link (m.links (own_link kind d)) ≡ Some next =
            ok_inj (link (m.links (own_link kind d))) (Some next) (sym (own_of d l.0)
            ∙ subst P e h) in
            let f = far_link (d.offset + 1) (own_link kind d) ds l.1.1.1 next own in
            omega (arith, s, b, f))
        | inr j ↦ links_on size (d.offset + 1) (own_link kind d) ds (omega (arith, s, b)) l.1.1.1 offset next j h
      ]

pub pages_go_on : PagesGoOn
pages_go_on kind file new q former m ds f l r on stands is links =
    let F : ℕ → Result Chain TiffError = λ first. Ok (chain_behind kind file (link first)) in
    let i =
    bind_ok (number_at LittleEndian (offset_width kind) file (header_link kind)) F former f in
    let w =
    number_within file (offset_width kind) (header_link kind) i.0 (some_offset kind) i.1.0 in
    let some : 0 < length file = omega (arith, w, some_offset kind) in
    let offsets : List ℕ = map (λ (d : FinishedDirectory). d.offset) ds in
    chain_goes_on kind file new q (m.links q) former (record { offsets = offsets; end = None }) f l r on
    (number_of_link kind new m stands q is) (far kind new m stands (length file) q ds links)
    (chain_is kind new (link (m.links q)) offsets None (linked_chain kind new m stands (length file) q ds [] some links (none_met (length file))))
    (links_on kind new m stands (length file) (length file) q ds (omega arith) links)

-- ---- the last link

-- the link behind a chain that ends well is that of its last directory, which links to none
last_of : (kind : FileKind) (file : List ℕ) (met : List ℕ) (next : Option ℕ) (before : List ℕ) (p q : ℕ)
    → IsChain (link_from kind LittleEndian file) met next (before ++ p ∷ []) None
    → link_behind kind file (before ++ p ∷ []) ≡ Ok q
    → (link_from kind LittleEndian file p ≡ Ok None) × (link_offset_at kind file p ≡ Ok q)
last_of kind file met None [] p q c l = absurd c
last_of kind file met (Some n) [] p q c l =
    let L : ℕ → Link = link_from kind LittleEndian file in
    let e : L n ≡ Ok c.1 = entered_link (n ∷ met) (L n) c.1 c.2 in
    let P : ℕ → Type 0 = λ y. L y ≡ Ok None in
    (subst P (sym c.0) (e ∙ ap (λ (o : Option ℕ). let r : Link = Ok o in r) (ended L (n ∷ met) c.1 c.3)), l)
last_of kind file met None (x ∷ before) p q c l = absurd c
last_of kind file met (Some n) (x ∷ []) p q c l = last_of kind file (n ∷ met) c.1 [] p q c.3 l
last_of kind file met (Some n) (x ∷ y ∷ before) p q c l =
    last_of kind file (n ∷ met) c.1 (y ∷ before) p q c.3 l

pub last_link_ends : LastLinkEnds
last_link_ends kind file q first former h f l =
    let F : ℕ → Result Chain TiffError = λ first. Ok (chain_behind kind file (link first)) in
    let Last : Chain → Result ℕ TiffError =
    λ found. unless_cut found.end (link_behind kind file found.offsets) in
    let i =
    bind_ok (number_at LittleEndian (offset_width kind) file (header_link kind)) F former f in
    let same_first : i.0 ≡ first = ok_inj i.0 first (sym i.1.0 ∙ h.link) in
    let same : chain_behind kind file (link i.0) ≡ former =
    ok_inj (chain_behind kind file (link i.0)) former i.1.1 in
    let u =
    uncut former.end (link_behind kind file former.offsets) q (sym (ap (λ x. x >>= Last) f)
    ∙ l) in
    let P : Chain → Type 0 =
    λ x. IsChain (link_from kind LittleEndian file) [] (link i.0) x.offsets x.end in
    let E : Option TiffError → Type 0 =
    λ e. IsChain (link_from kind LittleEndian file) [] (link i.0) former.offsets e in
    let walked = subst E u.0 (subst P same (chain_of kind file (link i.0))) in
    record {
      none = λ e.
          let N : List ℕ → Type 0 =
          λ x. IsChain (link_from kind LittleEndian file) [] (link i.0) x None in
          let zero : first ≡ 0 =
          sym same_first ∙ zero_link i.0 (ended (link_from kind LittleEndian file) [] (link i.0) (subst N e walked)) in
          let B : List ℕ → Type 0 = λ x. link_behind kind file x ≡ Ok q in
          (subst (HasHeader kind file) zero h, sym (ok_inj (header_link kind) q (subst B e u.1)));
      last = λ before d next e read count behind.
          let N : List ℕ → Type 0 =
          λ x. IsChain (link_from kind LittleEndian file) [] (link i.0) x None in
          let B : List ℕ → Type 0 = λ x. link_behind kind file x ≡ Ok q in
          let t =
          last_of kind file [] (link i.0) before d.offset q (subst N e walked) (subst B e u.1) in
          let Next : DirectoryRecord → Link = λ d. Ok d.next in
          let none : next ≡ None = ok_inj next None (sym (ap (λ x. x >>= Next) read) ∙ t.0) in (
            record {
              header = h;
              behind = behind;
              last =
                  read ∙ ap (λ (n : Option ℕ). let r : Result DirectoryRecord TiffError =
                  Ok (record { entries = d.fields; next = n }) in r) none;
              count = count;
            },
            sym (ok_inj (own_link kind d) q (sym (own_link_at kind file d.offset (len d.fields) count) ∙ t.1)),
          );
    }
