-- Lists that grow along the pages of a file.
use Rattle.std.proofs.Common.{◌≡◌, ℕ, zero, suc, ◌-◌, ◌<◌, List, [], ◌∷◌, ◌++◌, length, length-append, map, take, Option, Some, refl, ap, sym, ◌∙◌, arith}
use Rattle.std.proofs.lemmas.List.{length-map, map-append}
use Rattle.std.proofs.lemmas.Option.{slice_get_within}
use Rattle.std.proofs.Math.Seq.{take-length}
use Rattle.std.specs.List.{slice_get}
use Rattle.tiff_base.specs.declared.error.TiffError.{TiffError}
use Rattle.tiff_decode.specs.Machine.{Decoding}
use Rattle.tiff_decode.specs.Outcome.{chain_of}
use Rattle.tiff_laws.specs.Pages.{IsAlong, EndsBehind, ListedAlong}

-- one more offset
pub take_next : (ps : List ℕ) (i p : ℕ) → slice_get ps i ≡ Some p
    → take (suc i) ps ≡ take i ps ++ p ∷ []
take_next [] i p h = absurd (cc)
take_next (q ∷ qs) zero p h = (let e : q ≡ p = cc in ap (λ (x : ℕ). x ∷ []) e)
take_next (q ∷ qs) (suc i) p h = ap (λ (xs : List ℕ). q ∷ xs) (take_next qs i p h)

take_long : (ps : List ℕ) (i p : ℕ) → slice_get ps i ≡ Some p → length (take (suc i) ps) ≡ suc i
take_long [] i p h = absurd (cc)
take_long (q ∷ qs) zero p h = refl
take_long (q ∷ qs) (suc i) p h = ap suc (take_long qs i p h)

module _ {A : Type 0} (item : ℕ → A) (start : Decoding) where
  abbrev offsets : List ℕ
  offsets = (chain_of start).offsets

  -- The first page was listed.
  abbrev pub listed_first : (d : Decoding) (a : IsAlong start 0 d) (none items : List A) → none ≡ []
      → items ≡ none ++ item a.offset ∷ [] → ListedAlong item start d items
  listed_first d a none items n e = record {
    number = 0;
    along = a;
    listed =
        e ∙ ap (λ (xs : List A). xs ++ item a.offset ∷ []) n
        ∙ sym (ap (map item) (take_next offsets 0 a.offset a.is_offset));
  }

  -- The next page was listed.
  abbrev pub listed_next : (old new : Decoding) (before items : List A)
      (l : ListedAlong item start old before) (a : IsAlong start (suc l.number) new)
      → items ≡ before ++ item a.offset ∷ [] → ListedAlong item start new items
  listed_next old new before items l a e = record {
    number = suc l.number;
    along = a;
    listed =
        e ∙ ap (λ (xs : List A). xs ++ item a.offset ∷ []) l.listed
        ∙ sym (map-append item (take (suc l.number) offsets) (a.offset ∷ []))
        ∙ ap (map item) (sym (take_next offsets (suc l.number) a.offset a.is_offset));
  }

  -- As many pages were listed as were passed.
  pub listed_count : (d : Decoding) (items : List A) (l : ListedAlong item start d items)
      → length items ≡ suc l.number
  listed_count d items l =
      ap length l.listed ∙ length-map (take (suc l.number) offsets) item
      ∙ take_long offsets l.number l.along.offset l.along.is_offset

  -- Fewer pages are left.
  pub listed_fewer : (old new : Decoding) (before items : List A)
      → ListedAlong item start old before → ListedAlong item start new items → (x : A)
      → items ≡ before ++ x ∷ []
      → length offsets - length items < length offsets - length before
  listed_fewer old new before items l m x e =
      let n = listed_count new items m in
      let k = ap length e ∙ length-append before (x ∷ []) in
      let within = slice_get_within offsets m.number m.along.offset m.along.is_offset in
      omega arith

  -- All pages are listed.
  pub listed_all : (d : Decoding) (items : List A) (l : ListedAlong item start d items)
      (end : Option TiffError) → EndsBehind start l.number end → items ≡ map item offsets
  listed_all d items l end e =
      l.listed ∙ ap (λ (n : ℕ). map item (take n offsets)) (sym e.last)
      ∙ ap (map item) (take-length offsets)
