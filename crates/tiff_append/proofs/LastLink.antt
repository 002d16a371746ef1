-- The last link of a file is that of the last directory of its chain, and is within the file.
use Rattle.std.proofs.Common.{◌≡◌, ℕ, ◌+◌, ◌-◌, ◌≤◌, List, [], ◌∷◌, length, Option, Some, None, Result, Ok, Err, refl, ap, sym, ◌∙◌, subst, arith}
use Rattle.std.proofs.lemmas.Bool.{ne_eqb}
use Rattle.std.proofs.lemmas.Option.{slice_get_within}
use Rattle.std.specs.Prelude.{IfSome, IsOk, slice_get}
use Rattle.std.specs.List.{last_or}
use Rattle.tiff_base.specs.declared.error.TiffError.{TiffError}
use Rattle.tiff_base.specs.declared.tags.FileKind.{FileKind}
use Rattle.tiff_base.specs.declared.tags.ByteOrder.TheVariants.{LittleEndian}
use Rattle.tiff_base.specs.Answers.{◌>>=◌}
use Rattle.tiff_base.specs.Directory.{count_width, offset_width, link, link_offset}
use Rattle.tiff_base.specs.Number.{number_at}
use Rattle.tiff_ifd.specs.Chain.{Chain, chain, link_from}
use Rattle.tiff_ifd.specs.IfdChainWalk.{Walked, ChainBegins, ChainEnds}
use Rattle.tiff_ifd.specs.IfdChainWalk as walk
use Rattle.tiff_value.specs.FileBytes.{offset_len}
use Rattle.tiff_encode.specs.LongerChain.{chain_behind, last_link_at, link_behind, link_offset_at, unless_cut}
use Rattle.tiff_value.specs.Model.{header_link}
use Rattle.tiff_encode.specs.lemmas.GoingOn.{number_within, some_offset}
use Rattle.tiff_encode.specs.lemmas.LongerChain.{link_parts}
use Rattle.tiff_base.specs.lemmas.Slices.{ok_inj}
use Rattle.tiff_append.specs.LastLink.{last_by, last_in}

-- ---- within the file

pub header_within : (kind : FileKind) (file : List ℕ) (first : ℕ)
    → number_at LittleEndian (offset_width kind) file (header_link kind) ≡ Ok first
    → header_link kind + offset_len kind ≤ length file
header_within kind file first h =
    number_within file (offset_width kind) (header_link kind) first (some_offset kind) h

module _ (kind : FileKind) (file : List ℕ) (p count : ℕ) (counted : number_at LittleEndian (count_width kind) file p ≡ Ok count) where
  within_by : (r : Result (Option ℕ) TiffError) → link_from kind LittleEndian file p ≡ r → IsOk r
      → link_offset kind p count + offset_len kind ≤ length file
  within_by (Ok after) h ok =
      let s = link_parts kind file p after h in
      let same : s.0 ≡ count = ok_inj s.0 count (sym s.2.0 ∙ counted) in
      let Within : ℕ → Type 0 = λ n. link_offset kind p n + offset_len kind ≤ length file in
      subst Within same (number_within file (offset_width kind) (link_offset kind p s.0) s.1 (some_offset kind) s.2.1.0)
  within_by (Err e) h ok = absurd (cc)

  -- the link of a directory that is read is within the file
  pub link_within : IsOk (link_from kind LittleEndian file p)
      → link_offset kind p count + offset_len kind ≤ length file
  link_within ok = within_by (link_from kind LittleEndian file p) refl ok

-- ---- the last directory

last_more : (x : ℕ) (xs : List ℕ) → last_or (Some x) xs ≡ slice_get (x ∷ xs) (length xs)
last_more x [] = refl
last_more x (y ∷ ys) = last_more y ys

last_of : (offsets : List ℕ) → last_or None offsets ≡ slice_get offsets (length offsets - 1)
last_of [] = refl
last_of (x ∷ xs) =
    let e : length (x ∷ xs) - 1 ≡ length xs = omega arith in
    last_more x xs ∙ ap (slice_get (x ∷ xs)) (sym e)

-- no list has an item at a number of 64 bits that is the greatest
pub none_there : (offsets : List ℕ) (n x : ℕ) → slice_get offsets n ≡ Some x → length offsets ≤ n
    → ⊥
none_there offsets n x h l = let w = slice_get_within offsets n x h in omega (arith, w, l)

module _ (kind : FileKind) (file : List ℕ) (first : ℕ) (w : Walked) where
  pub ended : (last : Option ℕ) → ChainEnds kind LittleEndian file first w None
      → last ≡ slice_get w.offsets (length w.offsets - 1)
      → last_in (chain kind LittleEndian file first) ≡ Ok last
  ended last e h =
      let Told : Option ℕ → Result (Option ℕ) TiffError = λ o. Ok o in
      ap last_in e ∙ ap Told (last_of w.offsets ∙ sym h)

  reads : ChainBegins kind LittleEndian file first w → (last : Option ℕ)
      → last_or None w.offsets ≡ last → IfSome last (λ p. IsOk (link_from kind LittleEndian file p))
  reads b None h = tt
  reads b (Some p) h =
      let is : link_from kind LittleEndian file p ≡ Ok w.next =
      ap (walk.link_behind kind LittleEndian file first) (sym h) ∙ b.linked in
      let Reads : Result (Option ℕ) TiffError → Type 0 = λ r. IsOk r in
      subst Reads (sym is) refl

  -- the last directory that was entered can be read
  pub last_reads : (last : Option ℕ) → ChainBegins kind LittleEndian file first w
      → last ≡ slice_get w.offsets (length w.offsets - 1)
      → IfSome last (λ p. IsOk (link_from kind LittleEndian file p))
  last_reads last b h = reads b last (last_of w.offsets ∙ sym h)

-- ---- the last link

link_some : (n : ℕ) → (n ≡ 0 → ⊥) → link n ≡ Some n
link_some n some = rw (ne_eqb n 0 some) refl

module _ (kind : FileKind) (file : List ℕ) where
  -- the link behind a list of directories, of which the last is given
  abbrev by_last : Option ℕ → Result ℕ TiffError
  by_last None = Ok (header_link kind)
  by_last (Some p) = link_offset_at kind file p

  behind_last : (offsets : List ℕ) → link_behind kind file offsets ≡ by_last (last_or None offsets)
  behind_last [] = refl
  behind_last (x ∷ []) = refl
  behind_last (x ∷ y ∷ ys) = behind_last (y ∷ ys)

  -- the last link of a chain, of which the last directory is given, or the error by which it ends
  abbrev by_end : Result (Option ℕ) TiffError → Result ℕ TiffError
  by_end (Ok last) = by_last last
  by_end (Err e) = Err e

  linked_by : (offsets : List ℕ) (end : Option TiffError)
      → unless_cut end (link_behind kind file offsets) ≡ by_end (last_by offsets end)
  linked_by offsets None = behind_last offsets
  linked_by offsets (Some e) = refl

  abbrev Behind : ℕ → Result Chain TiffError
  Behind n = Ok (chain_behind kind file (link n))

  abbrev Linked : Chain → Result ℕ TiffError
  Linked c = unless_cut c.end (link_behind kind file c.offsets)

  -- the header's link can't be read
  pub unread : (e : TiffError) → number_at LittleEndian (offset_width kind) file (header_link kind)
      ≡ Err e → last_link_at kind file ≡ Err e
  unread e h = ap (λ r. r >>= Behind >>= Linked) h

  module _ (first : ℕ) (read : number_at LittleEndian (offset_width kind) file (header_link kind) ≡ Ok first) where
    by_first : last_link_at kind file ≡ by_end (last_in (chain_behind kind file (link first)))
    by_first =
        let c = chain_behind kind file (link first) in
        ap (λ r. r >>= Behind >>= Linked) read ∙ linked_by c.offsets c.end

    -- the header links to no directory
    pub no_chain : first ≡ 0 → last_link_at kind file ≡ Ok (header_link kind)
    no_chain none = by_first ∙ ap (λ n. by_end (last_in (chain_behind kind file (link n)))) none

    by_chain : (first ≡ 0 → ⊥) → last_link_at kind file
        ≡ by_end (last_in (chain kind LittleEndian file first))
    by_chain some =
        by_first ∙ ap (λ o. by_end (last_in (chain_behind kind file o))) (link_some first some)

    -- the chain has no directory, or this last one, or ends by an error
    pub in_header : (first ≡ 0 → ⊥) → last_in (chain kind LittleEndian file first) ≡ Ok None
        → last_link_at kind file ≡ Ok (header_link kind)
    in_header some h = by_chain some ∙ ap by_end h

    pub in_last : (first ≡ 0 → ⊥) → (p : ℕ)
        → last_in (chain kind LittleEndian file first) ≡ Ok (Some p)
        → last_link_at kind file ≡ link_offset_at kind file p
    in_last some p h = by_chain some ∙ ap by_end h

    pub cut_off : (first ≡ 0 → ⊥) → (e : TiffError)
        → last_in (chain kind LittleEndian file first) ≡ Err e → last_link_at kind file ≡ Err e
    cut_off some e h = by_chain some ∙ ap by_end h
