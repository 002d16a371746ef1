-- Pages with parents, run one after another.
use Rattle.std.proofs.Common.{◌≡◌, ◌≢◌, inl, inr, ℕ, ◌+◌, ◌<◌, List, [], ◌∷◌, ◌++◌, length, take, drop, get_or, slice_get, slice_set, true, false, is_some, Option, None, Some, Result, Ok, Err, refl, ap, sym, ◌∙◌, subst, arith}
use Rattle.std.proofs.lemmas.List.{take_more}
use Rattle.std.proofs.lemmas.Option.{get_or_from_slice_get, slice_get-get_or, slice_get_within}
use Rattle.tiff_base.specs.declared.error.TiffError.{TiffError}
use Rattle.tiff_base.specs.declared.tags.FileKind.{FileKind}
use Rattle.tiff_ffi.specs.declared.pages.ChildJobs.{ChildJobs}
use Rattle.tiff_ffi.specs.declared.pages.RefusedPage.{RefusedPage}
use Rattle.tiff_ffi.specs.Pages.{By, ChildRan, ChildrenRan, GoesOn, LeftPages, Unless, chain_at, chain_places, child_slot, link_at}
use Rattle.tiff_ffi.proofs.PagesMade.{drop_here}
use Rattle.tiff_ffi.specs.Parents.{RanAt, StepFails, StepRan}

taken : (xs : List ℕ) (i x : ℕ) → slice_get xs i ≡ Some x → take i xs ++ x ∷ [] ≡ take (i + 1) xs
taken xs i x is =
    let within : i < length xs = slice_get_within xs i x is in
    let at : get_or xs i x ≡ x = get_or_from_slice_get xs i x x is in
    ap (λ (y : ℕ). take i xs ++ y ∷ []) (sym at) ∙ sym (take_more xs i x within)

-- an index has an item
pub some_there : (xs : List ℕ) (i : ℕ) → i < length xs → slice_get xs i ≡ None → ⊥
some_there xs i within none =
    let x : ℕ = 0 in
    let is : slice_get xs i ≡ Some (get_or xs i x) = slice_get-get_or xs i x within in
    cc

-- one more of the offsets
pub one_further : (xs : List ℕ) (i x : ℕ) (done all : List ℕ) → done ≡ take i xs
    → slice_get xs i ≡ Some x → all ≡ done ++ x ∷ [] → all ≡ take (i + 1) xs
one_further xs i x done all so is more =
    more ∙ ap (λ (l : List ℕ). l ++ x ∷ []) so ∙ taken xs i x is

module _ (kind : FileKind) (floor : ℕ) (child : ChildJobs) (rest : List ChildJobs)
    (places file : List ℕ) where
  abbrev Follows : List ℕ → ℕ → Result LeftPages TiffError → Type 0
  Follows left at = ChildrenRan kind floor rest (slice_set places child.page at) left

  abbrev Slot : Result ℕ TiffError
  Slot = child_slot kind floor child places file

  -- what follows a page that was run at its link
  at_slot : (q : ℕ) (outcome : Result LeftPages TiffError) → Slot ≡ Ok q
      → ChildRan kind child file q Follows outcome
      → ChildrenRan kind floor (child ∷ rest) places file outcome
  at_slot q outcome is ran =
      let Ends : Result ℕ TiffError → Type 0 =
      λ r. By r (λ slot. ChildRan kind child file slot Follows) outcome in
      subst Ends (sym is) ran

  ran_by : (q : ℕ) (left : List ℕ) (refused : Option RefusedPage) (outcome : Result LeftPages TiffError)
      → RanAt kind file q (child.page ∷ []) child.jobs.items left refused
      → Unless refused left (By (link_at kind left q) (Follows left)) outcome
      → ChildRan kind child file q Follows outcome
  ran_by q left refused outcome ran goes_on =
      let Ends : Option RefusedPage → Type 0 =
      λ r. Unless r left (By (link_at kind left q) (Follows left)) outcome in
      record { left = left; replies = ran.replies; runs = ran.runs; goes_on = subst Ends ran.refused_is goes_on }

  -- A page was run, and the others are run behind it.
  pub step_ran : (placed left : List ℕ) (outcome : Result LeftPages TiffError)
      → StepRan kind floor child places file placed left None
      → ChildrenRan kind floor rest placed left outcome
      → ChildrenRan kind floor (child ∷ rest) places file outcome
  step_ran placed left outcome s behind =
      let at : ℕ = s.puts.0 in
      let Placed : List ℕ → Type 0 = λ p. ChildrenRan kind floor rest p left outcome in
      let follows : Follows left at outcome = subst Placed s.puts.1.1 behind in
      let Linked : Result ℕ TiffError → Type 0 = λ r. By r (Follows left) outcome in
      at_slot s.slot outcome s.slot_is (ran_by s.slot left None outcome s.ran (subst Linked (sym s.puts.1.0) follows))

  -- A page was refused.
  pub step_refused : (placed left : List ℕ) (refused : RefusedPage)
      → StepRan kind floor child places file placed left (Some refused)
      → ChildrenRan kind floor (child ∷ rest) places file (Ok (left, Some refused))
  step_refused placed left refused s =
      let outcome : Result LeftPages TiffError =
      Ok (left, Some refused) in
      at_slot s.slot outcome s.slot_is (ran_by s.slot left (Some refused) outcome s.ran refl)

  -- A page has no link, or its own link can't be read.
  pub step_fails : (e : TiffError) → StepFails kind floor child places file e
      → ChildrenRan kind floor (child ∷ rest) places file (Err e)
  step_fails e (inl none) =
      let outcome : Result LeftPages TiffError = Err e in
      let Ends : Result ℕ TiffError → Type 0 =
      λ r. By r (λ slot. ChildRan kind child file slot Follows) outcome in
      subst Ends (sym none) refl
  step_fails e (inr (slot, (left, (is, (ran, unread))))) =
      let outcome : Result LeftPages TiffError = Err e in
      let Linked : Result ℕ TiffError → Type 0 = λ r. By r (Follows left) outcome in
      at_slot slot outcome is (ran_by slot left None outcome ran (subst Linked (sym unread) refl))

-- ---- one more page

-- The page at an index is run, and those behind it.
module _ (kind : FileKind) (floor : ℕ) (children : List ChildJobs) (i : ℕ) (child : ChildJobs)
    (within : i < length children) (is : child ≡ get_or children i child)
    (places file : List ℕ) where
  abbrev Rest : List ChildJobs
  Rest = drop (i + 1) children

  from_here : (outcome : Result LeftPages TiffError)
      → ChildrenRan kind floor (child ∷ Rest) places file outcome
      → ChildrenRan kind floor (drop i children) places file outcome
  from_here outcome ran =
      let Left : List ChildJobs → Type 0 =
      λ left. ChildrenRan kind floor left places file outcome in
      let here : drop i children ≡ child ∷ Rest =
      drop_here children i child within ∙ ap (λ (c : ChildJobs). c ∷ Rest) (sym is) in
      subst Left (sym here) ran

  pub one_ran : (placed left : List ℕ) (refused : Option RefusedPage)
      (outcome : Result LeftPages TiffError) → is_some refused ≡ false
      → StepRan kind floor child places file placed left refused
      → ChildrenRan kind floor Rest placed left outcome
      → ChildrenRan kind floor (drop i children) places file outcome
  one_ran placed left None outcome none s behind =
      from_here outcome (step_ran kind floor child Rest places file placed left outcome s behind)
  one_ran placed left (Some page) outcome none s behind = absurd (cc)

  pub one_refused : (placed left : List ℕ) (refused : Option RefusedPage) → is_some refused ≡ true
      → StepRan kind floor child places file placed left refused
      → ChildrenRan kind floor (drop i children) places file (Ok (left, refused))
  one_refused placed left None some s = absurd (cc)
  one_refused placed left (Some page) some s =
      let outcome : Result LeftPages TiffError = Ok (left, Some page) in
      from_here outcome (step_refused kind floor child Rest places file placed left page s)

-- ---- behind the chain

module _ (kind : FileKind) (floor q : ℕ) (numbers file : List ℕ) where
  -- No page has a parent.
  pub no_children : (children : List ChildJobs) → length children ≡ 0
      → GoesOn kind floor q numbers children file (Ok (file, None))
  no_children [] none = refl
  no_children (child ∷ children) none = absurd (omega (arith, none))

  -- The directories of the chain are found, and the pages with parents are run.
  pub some_children : (children : List ChildJobs) (offsets : List ℕ)
      (outcome : Result LeftPages TiffError) → length children ≢ 0
      → chain_at kind file q ≡ Ok offsets
      → ChildrenRan kind floor children (chain_places (length numbers
      + length children) numbers offsets) file outcome
      → GoesOn kind floor q numbers children file outcome
  some_children [] offsets outcome some is ran = absurd (some refl)
  some_children (child ∷ children) offsets outcome some is ran =
      let pages : ℕ = length numbers + length (child ∷ children) in
      let Ends : Result (List ℕ) TiffError → Type 0 =
      λ r. By r (λ o. ChildrenRan kind floor (child
      ∷ children) (chain_places pages numbers o) file) outcome in
      subst Ends (sym is) ran

  -- The directories of the chain can't be read.
  pub no_chain : (children : List ChildJobs) (e : TiffError) → length children ≢ 0
      → chain_at kind file q ≡ Err e → GoesOn kind floor q numbers children file (Err e)
  no_chain [] e some is = absurd (some refl)
  no_chain (child ∷ children) e some is =
      let outcome : Result LeftPages TiffError = Err e in
      let pages : ℕ = length numbers + length (child ∷ children) in
      let Ends : Result (List ℕ) TiffError → Type 0 =
      λ r. By r (λ o. ChildrenRan kind floor (child
      ∷ children) (chain_places pages numbers o) file) outcome in
      subst Ends (sym is) refl
