-- A decoder walks along the chain of a file, and collects the sides of the pages.
use Rattle.std.proofs.Common.{◌≡◌, ℕ, zero, suc, ◌-◌, ◌<◌, List, [], ◌∷◌, ◌++◌, length, map, take, drop, Option, None, Some, false, true, Result, Ok, Err, refl, ap, sym, ◌∙◌, subst}
use Rattle.std.proofs.lemmas.List.{length-map, map-append}
use Rattle.std.specs.List.{slice_get}
use Rattle.tiff_base.specs.declared.error.TiffError.{TiffError}
use Rattle.tiff_base.specs.Answers.{◌>>=◌, IsCause}
use Rattle.tiff.specs.lemmas.Causes.{cause_along}
use Rattle.tiff_base.specs.Directory.{directory_at}
use Rattle.tiff_base.specs.Field.{DirectoryRecord}
use Rattle.tiff_page.specs.Page.{PageRecord}
use Rattle.tiff_page.specs.Image.{Decoded}
use Rattle.tiff_ifd.specs.Limits.{unlimited}
use Rattle.tiff_decode.specs.Machine.{Decoding, FollowsWithoutEither, GivesOutcome, Outcome, Refused}
use Rattle.tiff_decode.specs.Outcome.{decoder_of, chain_of, dimensions, next_image, page_in, seek_to_image, set_limits}
use Rattle.tiff_laws.specs.Pages.{IsAlong, PageAnswers, GoesOn, ListedAlong, WalkOpens, WalkGoesOn, WalkEnds, page_at}
use Rattle.tiff_laws.specs.lemmas.Listed.{listed_first, listed_next, listed_fewer, listed_all}
use Rattle.tiff_uses.specs.ReadBack.{first_freely}
use Rattle.tiff_uses.specs.Pages.{FileAnswers, each_sides, page_chunk, page_sides, sides_at, told_at}

abbrev ok : ℕ × ℕ → Result (ℕ × ℕ) TiffError
ok s = Ok s

-- the decoder as it was opened, before any read failed
abbrev pub begun : Decoding → Decoding
begun d = record d { readable = None; failures = 0 }

-- the sides of the pages from the first one up to that of a decoder
abbrev pub Standing : Decoding → List (ℕ × ℕ) → Decoding → Type 0
Standing start sides d = ListedAlong (sides_at start) start d (map ok sides)

-- ---- a page that is sought

-- A decoder as it was opened from a file.
module _ (file : List ℕ) (d : Decoding) (opened : decoder_of file 0 ≡ Ok (begun d))
    (readable : d.readable ≡ None) (failures : d.failures ≡ 0) where
  opens : decoder_of file 0 ≡ Ok d
  opens =
      opened
      ∙ ap (λ r. Ok (record d { readable = r; failures = 0 })) (sym readable)
      ∙ ap (λ n. Ok (record d { failures = n })) (sym failures)

  -- A page isn't found.
  pub unsought : (wanting : Type 0) (page chunk : ℕ) (new : Decoding) (e : TiffError)
      → Refused wanting e (seek_to_image d page) d new
      → FileAnswers {X = Decoded} (λ x. x) (Err e) (page_chunk file page chunk)
  unsought wanting page chunk new e =
      let o = opens in
      cause_along e (λ w. tt) (λ f. tt) (λ g. let a = g.answer in cc)

  -- Without limits the first page isn't found.
  pub unsought_freely : (wanting : Type 0) (free new : Decoding) (e : TiffError)
      → free ≡ record d { state = (set_limits d unlimited).next }
      → Refused wanting e (seek_to_image free 0) free new
      → FileAnswers {X = Decoded} (λ x. x) (Err e) (first_freely file)
  unsought_freely wanting free new e is =
      let o = opens in
      cause_along e (λ w. tt) (λ f. tt) (λ g. let a = g.answer in cc)

-- ---- the sides of a page

sides_told : (start d : Decoding) (offset : ℕ) → PageAnswers start offset (Ok tt) d
    → sides_at start offset ≡ Ok (d.state.page.width, d.state.page.height)
sides_told start d offset p =
    ap (λ (r : Result DirectoryRecord TiffError). r
    >>= λ x. page_in start.kind start.order start.bytes start.state.limits x >>= λ page. ok (page.width, page.height)) p.0
    ∙ ap (λ (r : Result PageRecord TiffError). r >>= λ page. ok (page.width, page.height)) p.1

asked : (d new : Decoding) (s : ℕ × ℕ) → FollowsWithoutEither (λ x. x) (dimensions d) (Ok s) d new
    → (new ≡ d) × (Ok (d.state.page.width, d.state.page.height) ≡ ok s)
unfolding dimensions
asked d new s f = (f.1, f.0)

-- One more pair of sides is collected.
one_more : (start d : Decoding) (offset : ℕ) (s : ℕ × ℕ) (before sides : List (ℕ × ℕ))
    → PageAnswers start offset (Ok tt) d → Ok (d.state.page.width, d.state.page.height) ≡ ok s
    → sides ≡ before ++ s ∷ [] → map ok sides ≡ map ok before ++ sides_at start offset ∷ []
one_more start d offset s before sides p is e =
    ap (map ok) e ∙ map-append ok before (s ∷ [])
    ∙ ap (λ (x : Result (ℕ × ℕ) TiffError). map ok before ++ x
    ∷ []) (sym (sides_told start d offset p ∙ is))

-- ---- the steps of the caller

-- The decoder stands where it was opened.
abbrev along_begun : (d : Decoding) (n : ℕ) → IsAlong (begun d) n (begun d) → IsAlong (begun d) n d
along_begun d n a = record {
  same = record { bytes = refl; kind = refl; order = refl; first = refl; limits = refl };
  offset = a.offset;
  is_offset = a.is_offset;
  pointer = a.pointer;
  directory = a.directory;
  is_directory = a.is_directory;
  more = a.more;
}

-- The file was opened, and the sides of its first page were collected.
pub first_listed : WalkOpens → (d new : Decoding) (s : ℕ × ℕ) (none sides : List (ℕ × ℕ))
    → decoder_of d.bytes 0 ≡ Ok (begun d)
    → FollowsWithoutEither (λ x. x) (dimensions d) (Ok s) d new → none ≡ [] → sides ≡ none ++ s ∷ []
    → Standing (begun d) sides new
first_listed opens d new s none sides h f n e =
    let start = begun d in
    let at = opens d.bytes 0 start h in
    let told = asked d new s f in
    let S : Decoding → Type 0 = λ x. Standing start sides x in
    let a : IsAlong start 0 d = along_begun d 0 at.arrives.along in
    subst S (sym told.0)
    (listed_first (sides_at start) start d a (map ok none) (map ok sides) (ap (map ok) n) (one_more start start a.offset s none sides at.arrives.page told.1 e))

-- The next page was entered, and its sides were collected.
pub next_listed : WalkGoesOn → (start old mid new : Decoding) (s : ℕ × ℕ)
    (before sides : List (ℕ × ℕ)) → Standing start before old → old.state.more ≡ true
    → GivesOutcome (Ok tt) (next_image old) old mid
    → FollowsWithoutEither (λ x. x) (dimensions mid) (Ok s) mid new → sides ≡ before ++ s ∷ []
    → Standing start sides new
next_listed goes_on start old mid new s before sides l more g f e =
    went (slice_get (chain_of start).offsets (suc l.number)) (goes_on start old mid l.number (Ok tt) l.along more g)
  where
    went : (next : Option ℕ) → GoesOn start l.number next old (Ok tt) mid → Standing start sides new
    went None w = (let a = w.1 in absurd (cc))
    went (Some offset) w =
        let told = asked mid new s f in
        let S : Decoding → Type 0 = λ x. Standing start sides x in
        subst S (sym told.0)
        (listed_next (sides_at start) start old mid (map ok before) (map ok sides) l w.along (one_more start mid w.along.offset s before sides w.page told.1 e))

-- ---- the first error

-- The sides of pages without an error.
each_told : (d : Decoding) (offsets : List ℕ) (sides : List (ℕ × ℕ))
    → map ok sides ≡ map (sides_at d) offsets → each_sides d offsets ≡ Ok sides
each_told d [] [] h = refl
each_told d [] (s ∷ sides) h = absurd (cc)
each_told d (offset ∷ offsets) [] h = absurd (cc)
each_told d (offset ∷ offsets) (s ∷ sides) h =
    let first : sides_at d offset ≡ ok s = cc in
    let others : map ok sides ≡ map (sides_at d) offsets = cc in
    ap (λ (r : Result (ℕ × ℕ) TiffError). r >>= λ x. each_sides d offsets
    >>= λ xs. Ok (x ∷ xs)) first
    ∙ ap (λ (r : Result (List (ℕ × ℕ)) TiffError). r
    >>= λ xs. Ok (s ∷ xs)) (each_told d offsets sides others)

-- Behind pages without an error, one page has an error.
each_refused : (d : Decoding) (before : List ℕ) (sides : List (ℕ × ℕ)) (offset : ℕ)
    (behind : List ℕ) (e : TiffError) → map ok sides ≡ map (sides_at d) before
    → sides_at d offset ≡ Err e → each_sides d (before ++ offset ∷ behind) ≡ Err e
each_refused d [] [] offset behind e h f =
    ap (λ (r : Result (ℕ × ℕ) TiffError). r >>= λ x. each_sides d behind >>= λ xs. Ok (x ∷ xs)) f
each_refused d [] (s ∷ sides) offset behind e h f = absurd (cc)
each_refused d (other ∷ before) [] offset behind e h f = absurd (cc)
each_refused d (other ∷ before) (s ∷ sides) offset behind e h f =
    let first : sides_at d other ≡ ok s = cc in
    let others : map ok sides ≡ map (sides_at d) before = cc in
    ap (λ (r : Result (ℕ × ℕ) TiffError). r >>= λ x. each_sides d (before ++ offset ∷ behind)
    >>= λ xs. Ok (x ∷ xs)) first
    ∙ ap (λ (r : Result (List (ℕ × ℕ)) TiffError). r
    >>= λ xs. Ok (s ∷ xs)) (each_refused d before sides offset behind e others f)

-- The error of a page is the error of its sides.
module _ (start : Decoding) (e : TiffError) where
  abbrev page_by : DirectoryRecord → Result PageRecord TiffError
  page_by x = page_in start.kind start.order start.bytes start.state.limits x

  by_directory : (r : Result DirectoryRecord TiffError) → r >>= page_by ≡ Err e
      → (r >>= λ x. page_by x >>= λ page. ok (page.width, page.height)) ≡ Err e
  by_directory (Ok x) f =
      ap (λ (r : Result PageRecord TiffError). r >>= λ page. ok (page.width, page.height)) f
  by_directory (Err g) f = (let t : g ≡ e = cc in ap (λ (x : TiffError). Err x) t)

  sides_refused : (offset : ℕ) → page_at start offset ≡ Err e → sides_at start offset ≡ Err e
  sides_refused offset h = by_directory (directory_at start.kind start.order start.bytes offset) h

-- What stands behind other items begins with the one at the index.
from_next : (ps : List ℕ) (i p : ℕ) → slice_get ps i ≡ Some p
    → ps ≡ take i ps ++ p ∷ drop (suc i) ps
from_next [] i p h = absurd (cc)
from_next (q ∷ qs) zero p h = (let e : q ≡ p = cc in ap (λ (x : ℕ). x ∷ qs) e)
from_next (q ∷ qs) (suc i) p h = ap (λ (xs : List ℕ). q ∷ xs) (from_next qs i p h)

-- The sides of a file's pages, by those of its chain and by the chain's end.
sides_by : (file : List ℕ) (start : Decoding) (told : Result (List (ℕ × ℕ)) TiffError)
    (end : Option TiffError) → decoder_of file 0 ≡ Ok start
    → each_sides start (chain_of start).offsets ≡ told → (chain_of start).end ≡ end
    → page_sides file ≡ told >>= told_at end
sides_by file start told end h t e =
    ap (λ (r : Result Decoding TiffError). r >>= λ d. each_sides d (chain_of d).offsets
    >>= told_at (chain_of d).end) h
    ∙ ap (λ (r : Result (List (ℕ × ℕ)) TiffError). r >>= told_at (chain_of start).end) t
    ∙ ap (λ (x : Option TiffError). told >>= told_at x) e

-- Behind the last page, all sides are collected.
pub all_sides : WalkEnds → (file : List ℕ) (start d : Decoding) (sides : List (ℕ × ℕ))
    → decoder_of file 0 ≡ Ok start → Standing start sides d → d.state.more ≡ false
    → page_sides file ≡ Ok sides
all_sides ends file start d sides h l more =
    let end = ends start d l.number l.along more in
    let all = listed_all (sides_at start) start d (map ok sides) l None end in
    sides_by file start (Ok sides) None h (each_told start (chain_of start).offsets sides all) end.is_end

-- The next page has an error, or the chain ends by one.
stopped : (file : List ℕ) (start old new : Decoding) (sides : List (ℕ × ℕ)) (e : TiffError)
    (l : Standing start sides old) (next : Option ℕ) → decoder_of file 0 ≡ Ok start
    → GoesOn start l.number next old (Err e) new → page_sides file ≡ Err e
stopped file start old new sides e l (Some offset) h w =
    let offsets = (chain_of start).offsets in
    let split = from_next offsets (suc l.number) w.along.offset w.along.is_offset in
    let told =
    each_refused start (take (suc l.number) offsets) sides w.along.offset
    (drop (suc (suc l.number)) offsets) e l.listed (sides_refused start e w.along.offset w.page) in
    sides_by file start (Err e) (chain_of start).end h (ap (each_sides start) split ∙ told) refl
stopped file start old new sides e l None h w =
    let is : e ≡ w.0 = (let a = w.1 in cc) in
    let all = listed_all (sides_at start) start old (map ok sides) l (Some w.0) w.2 in
    sides_by file start (Ok sides) (Some w.0) h (each_told start (chain_of start).offsets sides all) w.2.is_end ∙ ap (λ (x : TiffError). Err x) (sym is)

refused : WalkGoesOn → (file : List ℕ) (start old : Decoding) (sides : List (ℕ × ℕ)) (e : TiffError)
    → decoder_of file 0 ≡ Ok start → Standing start sides old → old.state.more ≡ true
    → (next_image old).answer ≡ Err e → page_sides file ≡ Err e
refused goes_on file start old sides e h l more a =
    let new : Decoding = record old { state = (next_image old).next } in
    stopped file start old new sides e l (slice_get (chain_of start).offsets (suc l.number)) h
    (goes_on start old new l.number (Err e) l.along more (record { answer = a; at = refl }))

-- The error of a call on the way is the error of the whole.
by_fault : {Y given : Type 0} (wanting : Type 0) (o : Outcome Y) (old new : Decoding)
    (e : TiffError) → (o.answer ≡ Err e → given) → Refused wanting e o old new
    → IsCause (Unit {0}) (Unit {0}) e given
by_fault wanting o old new e f h = cause_along e (λ w. tt) (λ d. tt) (λ g. f g.answer) h

-- An error of going on is the error of the whole.
pub refused_next : WalkGoesOn
    → (file : List ℕ) (start old new : Decoding) (sides : List (ℕ × ℕ)) (wanting : Type 0)
    (e : TiffError) → decoder_of file 0 ≡ Ok start
    → Standing start sides old → old.state.more ≡ true → Refused wanting e (next_image old) old new
    → FileAnswers {X = List (ℕ × ℕ)} (λ x. x) (Err e) (page_sides file)
refused_next goes_on file start old new sides wanting e h l more =
    by_fault wanting (next_image old) old new e (refused goes_on file start old sides e h l more)

-- A page has sides.
pub sides_told_always : (given : Type 0) (d new : Decoding) (e : TiffError)
    → FollowsWithoutEither {X = ℕ × ℕ} (λ x. x) (dimensions d) (Err e) d new
    → IsCause (Unit {0}) (Unit {0}) e given
unfolding dimensions
sides_told_always given d new e f =
    cause_along {wanting = ⊥} {failed = ⊥} {wanting' = Unit {0}} {failed' = Unit {0}} e absurd absurd (λ h. absurd (never h)) f.0
  where
    never : ok (d.state.page.width, d.state.page.height) ≡ Err e → ⊥
    never h = cc

-- With one more page entered, fewer offsets are left.
pub fewer_left : WalkGoesOn → (start old mid new : Decoding) (s : ℕ × ℕ)
    (before sides : List (ℕ × ℕ)) → Standing start before old → old.state.more ≡ true
    → GivesOutcome (Ok tt) (next_image old) old mid
    → FollowsWithoutEither (λ x. x) (dimensions mid) (Ok s) mid new → sides ≡ before ++ s ∷ []
    → length (chain_of start).offsets - length sides
    < length (chain_of start).offsets - length before
fewer_left goes_on start old mid new s before sides l more g f e =
    let offsets = (chain_of start).offsets in
    let P : ℕ → ℕ → Type 0 = λ n m. length offsets - n < length offsets - m in
    subst (λ (n : ℕ). P n (length before)) (length-map sides ok)
    (subst (λ (m : ℕ). P (length (map ok sides)) m) (length-map before ok)
    (listed_fewer (sides_at start) start old new (map ok before) (map ok sides) l (next_listed goes_on start old mid new s before sides l more g f e) (ok s)
    (ap (map ok) e ∙ map-append ok before (s ∷ []))))
