-- Long files, by parts of them.
use denote.Ref.{Bor}
use Rattle.std.proofs.Common.{◌≡◌, inl, inr, ℕ, zero, suc, ◌+◌, ◌<◌, Bool, true, false, cond, List, [], ◌∷◌, ◌++◌, length, get_or, map, take, All, Option, Result, Ok, Err, MatchResult, refl, sym, ap, ◌∙◌, arith, subst}
use Rattle.std.proofs.lemmas.List.{map-append, take_more}
use Rattle.std.proofs.Math.Seq.{take-length}
use Rattle.std.specs.Prelude.{is_err, is_ok}
use Rattle.std.specs.Result.{IsErrAnd}
use Rattle.tiff_base.specs.declared.error.TiffError.{TiffError}
use Rattle.tiff_base.specs.declared.windows.Stretch.{Stretch}
use Rattle.tiff_base.specs.declared.windows.Windows.{Windows}
use Rattle.tiff_base.specs.Answers.{◌>>=◌, AnswersWithoutSource}
use Rattle.tiff_base.specs.Windows.{AreWindowsOf, IsWanted, IsWindowOf, file_of}
use Rattle.tiff_base.specs.lemmas.Causes.{cause_along}
use Rattle.tiff_base.specs.lemmas.Seen.{same_file}
use Rattle.tiff_pages.specs.declared.check.PageCheck.{PageCheck}
use Rattle.tiff_pages.specs.declared.lines.Lines.{Lines}
use Rattle.tiff_ifd.specs.declared.limits.Limits.{Limits}
use Rattle.tiff_pages.specs.declared.pages.PageItem.{PageItem}
use Rattle.tiff_pages.specs.Check.{Checks, are_well, check_at, checks_in, checks_of}
use Rattle.tiff_decode.specs.Machine.{Decoding}
use Rattle.tiff_decode.specs.Opened.{opened_of}
use Rattle.tiff_decode.specs.Outcome.{chain_of}
use Rattle.tiff_pages.specs.OfFile.{check_of, list_of, tree_of, under}
use Rattle.tiff_pages.specs.Pages.{Pages, item_at, pages_of}
use Rattle.tiff_pages.specs.Tree.{directories_in}
use Rattle.tiffpage_lib.specs.declared.failure.Failure.{Failure}
use Rattle.tiffpage_lib.specs.declared.failure.Failure.TheVariants as failure
use Rattle.tiffpage_lib.specs.Check.{checks_under, told_under}
use Rattle.tiffpage_lib.specs.Directories.{told_of_directories}
use Rattle.tiffpage_lib.specs.Files.{failure_of}
use Rattle.tiffpage_lib.specs.Parts.{Gave, Piece, Saw, SeesBy, window}

-- An answer of the file that the windows are of is one of this file, if they are of it.
pub asked : {A : Type 0} (P : List ℕ → A → Type 0) (file : List ℕ) (seen : Windows) (r : Result A Stretch)
    → MatchResult r (P (file_of file seen)) (IsWanted seen)
    → MatchResult r (λ a. AreWindowsOf file seen → P file a) (IsWanted seen)
asked P file seen (Ok a) h = λ of. subst (λ f. P f a) (same_file file seen of) h
asked P file seen (Err s) h = h

-- ---- one answer after another

module _ {B : Type 0} where
  abbrev fails : Failure → Result B Failure
  fails e = Err e

  is_error : (e : Failure) (r : Result B Failure) → IsErrAnd r (λ d. d ≡ e) → r ≡ Err e
  is_error e (Ok x) h = absurd h
  is_error e (Err d) h = ap (λ (x : Failure). fails x) h

module _ {F : Type 0} (reads : F → List ℕ → ℕ → ℕ → Result (List ℕ) TiffError → F → Type 0)
    (name : Bor (List ℕ)) (len : ℕ) (file : List ℕ) where
  gave_more : (ps qs : List Piece) (old mid new : F) → Gave reads name.now old qs mid
      → Gave reads name.now mid ps new → Gave reads name.now old (ps ++ qs) new
  gave_more [] qs old mid new g h =
      (let P : F → Type 0 = λ x. Gave reads name.now old qs x in subst P (sym h) g)
  gave_more (p ∷ ps) qs old mid new g h = (h.0, gave_more ps qs old mid h.0 g h.1, h.2)

  first_all : (ps qs : List Piece) → All (IsWindowOf file) (map window (ps ++ qs))
      → All (IsWindowOf file) (map window ps)
  first_all [] qs h k d l = absurd (omega (arith, l))
  first_all (p ∷ ps) qs h zero d l = h 0 d (omega arith)
  first_all (p ∷ ps) qs h (suc k) d l =
      first_all ps qs (λ j e m. h (suc j) e (omega (arith, m))) k d (omega (arith, l))

  last_all : (ps qs : List Piece) → All (IsWindowOf file) (map window (ps ++ qs))
      → All (IsWindowOf file) (map window qs)
  last_all [] qs h k d l = h k d l
  last_all (p ∷ ps) qs h k d l = last_all ps qs (λ j e m. h (suc j) e (omega (arith, m))) k d l

  -- What is claimed of parts that were read, and of those that were read behind them.
  pub saw_both : {A B : Type 0} (old mid new : F) → Saw reads name.now len file A old mid
      → Saw reads name.now len file B mid new → Saw reads name.now len file (A × B) old new
  saw_both old mid new a b = (
    b.0 ++ a.0,
    gave_more b.0 a.0 old mid new a.1 b.1,
    λ of. (
      a.2 (record { len = of.len; octets = of.octets; each = last_all b.0 a.0 of.each }),
      b.2 (record { len = of.len; octets = of.octets; each = first_all b.0 a.0 of.each }),
    ),
  )

  pub saw_nothing : (files : F) → Saw reads name.now len file (Unit {0}) files files
  saw_nothing files = ([], refl, λ of. tt)

  pub saw_if : {A B : Type 0} (old new : F) → (A → B) → Saw reads name.now len file A old new
      → Saw reads name.now len file B old new
  saw_if old new f s = (s.0, s.1, λ of. f (s.2 of))

  module _ {A : Type 0} where
    abbrev answered : A → Result A Failure
    answered x = Ok x

    abbrev failed : Failure → Result A Failure
    failed e = Err e

    same_answer : (x y : A) → answered x ≡ answered y → x ≡ y
    same_answer x y h = cc

    same_failure : (e f : Failure) → failed e ≡ failed f → e ≡ f
    same_failure e f h = cc

    -- What is claimed of an answer.
    pub saw_answer : (may : Result A TiffError → Type 0) (old new : F) (x : A)
        → SeesBy reads name len file may old (Ok x) new
        → Saw reads name.now len file (may (Ok x)) old new
    saw_answer may old new x (inr r) = (let h = r.is in absurd (cc))
    saw_answer may old new x (inl (Err e, s, is)) = absurd (cc)
    saw_answer may old new x (inl (Ok y, s, is)) =
        let e : x ≡ y = same_answer x y is in
        saw_if old new (λ m. subst (λ z. may (Ok z)) (sym e) m) s

    module _ {B : Type 0} (result : Result B Failure) where
      -- An error of a step, behind others, is that of the whole.
      pub sees_refused : {C : Type 0} (may : Result A TiffError → Type 0)
          (whole : Result B TiffError → Type 0) (old mid new : F) (e : Failure)
          → ((f : TiffError) → may (Err f) → whole (Err f)) → Saw reads name.now len file C old mid
          → SeesBy reads name len file may mid (Err e) new
          → IsErrAnd result (λ d. d ≡ e) → SeesBy reads name len file whole old result new
      sees_refused may whole old mid new e f s (inl (Ok y, t, is)) r = absurd (cc)
      sees_refused may whole old mid new e f s (inl (Err g, t, is)) r =
          inl (Err g, saw_if old new (λ p. f g p.1) (saw_both old mid new s t), is_error e result r ∙ ap (λ x. fails x) (same_failure e (failure.Tiff g) is))
      sees_refused may whole old mid new e f s (inr x) r = inr (record {
        parts = x.parts ++ s.0;
        mid = x.mid;
        gave = gave_more x.parts s.0 old mid x.mid s.1 x.gave;
        at = x.at;
        len = x.len;
        fault = x.fault;
        fails = x.fails;
        is =
            is_error e result r ∙ ap (λ y. fails y) (same_failure e (failure_of (failure.Read name) x.fault) x.is);
      })

-- ---- lines

fault_then : {X Y Z : Type 0} (r : Result X TiffError) (f : X → Result Y TiffError)
    (g : X → Result Z TiffError) (e : TiffError) → ((x : X) → f x ≡ Err e → ⊥)
    → (r >>= f) ≡ Err e → (r >>= g) ≡ Err e
fault_then (Ok x) f g e n h = absurd (n x h)
fault_then (Err d) f g e n h = cc

no_tree : (file : List ℕ) (e : TiffError)
    → AnswersWithoutSource directories_in (Err e) (tree_of file)
    → AnswersWithoutSource (λ (lines : Lines). (lines.well, lines.end)) (Err e) (told_of_directories file)
no_tree file e h = cause_along e (λ w. w) (λ f. f) (ap (λ r. r >>= λ t. Ok (true, t.end))) h

pub tree_refused : (file : List ℕ) (e : TiffError)
    → AnswersWithoutSource directories_in (Err e) (tree_of file)
    → AnswersWithoutSource (λ (lines : Lines). (lines.well, lines.end)) (Err e) (told_of_directories file)
tree_refused = no_tree

pub checks_refused : (limits : Limits) (file : List ℕ) (e : TiffError)
    → AnswersWithoutSource checks_in (Err e) (checks_under limits file)
    → AnswersWithoutSource (λ (lines : Lines). (lines.well, lines.end)) (Err e) (told_under limits file)
checks_refused limits file e h =
    cause_along e (λ w. w) (λ f. f) (ap (λ r. r >>= λ c. Ok (are_well c.items, c.end))) h

-- ---- checks, page by page

-- A check was put behind others.
pub pushed : {E : Type 0} (r : Result (Unit {0}) E) (b : Bool) (old new : List PageCheck)
    (check : PageCheck) → new ≡ cond (is_ok r) (old ++ check ∷ []) old → b ≡ is_err r → b ≡ false
    → new ≡ old ++ check ∷ []
pushed (Ok u) b old new check h n f = h
pushed (Err x) b old new check h n f = absurd (cc)

module _ (limits : Limits) (file : List ℕ) where
  -- So many pages of a file were checked, of those that are listed.
  pub record ChecksSoFar (pages : List PageItem) (end : Option TiffError) (n : ℕ)
      (checks : List PageCheck) : Type 0 where
    pub listed : list_of file ≡ Ok (record { items = pages; end = end })
    pub checked : (d : Decoding) → opened_of file 0 ≡ Ok d
        → checks ≡ map (λ p. check_at (under limits d) p.place.0) (take n pages)

  pub none_so_far : (pages : List PageItem) (end : Option TiffError) (checks : List PageCheck)
      → checks ≡ [] → list_of file ≡ Ok (record { items = pages; end = end })
      → ChecksSoFar pages end 0 checks
  none_so_far pages end checks e h = record { listed = h; checked = λ d o. e }

  abbrev one : PageCheck → Result PageCheck TiffError
  one check = Ok check

  same_check : (a b : PageCheck) → one a ≡ one b → a ≡ b
  same_check a b h = cc

  check_is : (d : Decoding) (offset : ℕ) (check : PageCheck) → opened_of file 0 ≡ Ok d
      → check_of file limits offset ≡ Ok check → check ≡ check_at (under limits d) offset
  check_is d offset check o h =
      same_check check (check_at (under limits d) offset) (sym h
      ∙ ap (λ (r : Result Decoding TiffError). r >>= λ x. Ok (check_at (under limits x) offset)) o)

  pub one_so_far : (pages : List PageItem) (end : Option TiffError) (n : ℕ) (page : PageItem)
      (check : PageCheck) (before after : List PageCheck) → n < length pages
      → page ≡ get_or pages n page → after ≡ before ++ check ∷ []
      → ChecksSoFar pages end n before × (check_of file limits page.place.0 ≡ Ok check)
      → ChecksSoFar pages end (n + 1) after
  one_so_far pages end n page check before after l p e h = record {
    listed = h.0.listed;
    checked = λ d o.
        (let f : PageItem → PageCheck = λ q. check_at (under limits d) q.place.0 in
        let more : take (n + 1) pages ≡ take n pages ++ page ∷ [] =
        take_more pages n page l ∙ ap (λ q. take n pages ++ q ∷ []) (sym p) in
        e ∙ ap (λ xs. xs ++ check ∷ []) (h.0.checked d o)
        ∙ ap (λ x. map f (take n pages) ++ x ∷ []) (check_is d page.place.0 check o h.1)
        ∙ sym (map-append f (take n pages) (page ∷ [])) ∙ ap (map f) (sym more));
  }

  at_offsets : (d : Decoding) (offsets : List ℕ)
      → map (λ (p : PageItem). check_at (under limits d) p.place.0) (map (item_at d) offsets)
      ≡ map (check_at (under limits d)) offsets
  at_offsets d [] = refl
  at_offsets d (o ∷ offsets) = ap (λ xs. check_at (under limits d) o ∷ xs) (at_offsets d offsets)

  abbrev some_pages : Pages → Result Pages TiffError
  some_pages pages = Ok pages

  same_pages : (a b : Pages) → some_pages a ≡ some_pages b → a ≡ b
  same_pages a b h = cc

  abbrev some_checks : Checks → Result Checks TiffError
  some_checks checks = Ok checks

  all_by : (r : Result Decoding TiffError) (pages : List PageItem) (end : Option TiffError)
      (checks : List PageCheck) → (r >>= λ x. Ok (pages_of x))
      ≡ Ok (record { items = pages; end = end })
      → ((d : Decoding) → r ≡ Ok d → checks ≡ map (λ p. check_at (under limits d) p.place.0) pages)
      → (r >>= λ x. Ok (checks_of (under limits x)))
      ≡ some_checks (record { items = checks; end = end })
  all_by (Err e) pages end checks h f = absurd (cc)
  all_by (Ok d) pages end checks h f =
      let same : pages_of d ≡ record { items = pages; end = end } =
      same_pages (pages_of d) (record { items = pages; end = end }) h in
      let items : checks ≡ map (check_at (under limits d)) (chain_of d).offsets =
      f d refl ∙ ap (λ (x : Pages). map (λ (p : PageItem). check_at (under limits d) p.place.0) x.items) (sym same) ∙ at_offsets d (chain_of d).offsets in
      λ i. some_checks (record { items = sym items i; end = (same i).end })

  pub all_so_far : (pages : List PageItem) (end : Option TiffError) (n : ℕ)
      (checks : List PageCheck) → n ≡ length pages → ChecksSoFar pages end n checks
      → checks_under limits file ≡ Ok (record { items = checks; end = end })
  all_so_far pages end n checks l h =
      all_by (opened_of file 0) pages end checks h.listed
      (λ d o. h.checked d o ∙ ap (λ ps. map (λ p. check_at (under limits d) p.place.0) ps) (ap (λ k. take k pages) l ∙ take-length pages))

  pub pages_refused : (e : TiffError) → AnswersWithoutSource (λ p. p) (Err e) (list_of file)
      → AnswersWithoutSource checks_in (Err e) (checks_under limits file)
  pages_refused e h =
      cause_along e (λ w. w) (λ f. f) (fault_then (opened_of file 0) (λ x. Ok (pages_of x)) (λ x. Ok (checks_of (under limits x))) e (λ x k. cc)) h

  pub check_refused : (offset : ℕ) (e : TiffError)
      → AnswersWithoutSource {X = PageCheck} (λ c. c) (Err e) (check_of file limits offset)
      → AnswersWithoutSource checks_in (Err e) (checks_under limits file)
  check_refused offset e h =
      cause_along e (λ w. w) (λ f. f) (fault_then (opened_of file 0) (λ x. Ok (check_at (under limits x) offset)) (λ x. Ok (checks_of (under limits x))) e (λ x k. cc)) h
