-- What pages leave behind a file continues it: the bytes over its last link, and those behind it.
use Rattle.std.proofs.Common.{◌≡◌, ◌⊎◌, inl, inr, ℕ, ◌+◌, ◌≤◌, List, [], ◌∷◌, length, Option, None, Some, Result, Ok, Err, slice_set, refl, ap, sym, subst}
use Rattle.tiff_base.specs.declared.error.TiffError.{TiffError}
use Rattle.tiff_base.specs.declared.error.TiffError.TheVariants.{OutOfMemory}
use Rattle.tiff_base.specs.declared.tags.FileKind.{FileKind}
use Rattle.tiff_encode.specs.Appending.{Continues}
use Rattle.tiff_value.specs.FileBytes.{offset_len}
use Rattle.tiff_append.specs.declared.sink.Addition.{Addition}
use Rattle.tiff_append.specs.Behind.{IsAddedTo, RunsAt, added_to}
use Rattle.tiff_append.specs.lemmas.Behind.{continues, gathered, goes_on}
use Rattle.tiff_ffi.specs.declared.pages.ChildJobs.{ChildJobs}
use Rattle.tiff_ffi.specs.declared.pages.PagesJobs.{PagesJobs}
use Rattle.tiff_ffi.specs.declared.pages.RefusedPage.{RefusedPage}
use Rattle.tiff_ffi.specs.Appended.{RanBehind}
use Rattle.tiff_ffi.specs.Parents.{RanAt}
use Rattle.tiff_ffi.proofs.Links.{bound, slot_bounds}
use Rattle.tiff_ffi.specs.Pages.{By, ChildRan, ChildrenRan, GoesOn, LeftPages, PagesGoOn, Unless, chain_at, chain_places, child_slot, link_at, place_of, refused_in, slot_at}

-- the file of an outcome
abbrev file_of : Result LeftPages TiffError → List ℕ
file_of (Ok pages) = pages.0
file_of (Err e) = []

-- ---- a link isn't before the floor

child_floor : (kind : FileKind) (floor : ℕ) (child : ChildJobs) (places file : List ℕ) (slot : ℕ)
    → child_slot kind floor child places file ≡ Ok slot
    → floor ≤ slot
child_floor kind floor child places file slot h =
    let p =
    bound (place_of places child.parent) (λ at. slot_at kind floor file at child.index) slot h in
    (slot_bounds kind floor file p.0 child.index slot p.1).0

-- ---- the pages

module _ (kind : FileKind) (q : ℕ) (file : List ℕ) (room : q + offset_len kind ≤ length file)
    (final : List ℕ) (refused : Option RefusedPage) where
  abbrev Outcome : Result LeftPages TiffError
  Outcome = Ok (final, refused)

  abbrev Continued : List ℕ → Type 0
  Continued left = Continues kind q file left

  -- the outcome is this file
  by_file : (left : List ℕ) (page : Option RefusedPage) → Outcome ≡ Ok (left, page) → Continued left
      → Continued final
  by_file left page is c = subst (Continues kind q file) (sym (ap file_of is)) c

  -- the outcome is behind a page that may have been refused, or behind a result that may be an
  -- error
  by_page : (page : Option RefusedPage) (left : List ℕ) (Follows : Result LeftPages TiffError → Type 0) → Continued left → (Follows Outcome → Continued final)
      → Unless page left Follows Outcome → Continued final
  by_page None left Follows c next u = next u
  by_page (Some page) left Follows c next u = by_file left (Some page) u c

  by_result : {A : Type 0} (r : Result A TiffError) (Follows : A → Result LeftPages TiffError → Type 0) → ((x : A) → r ≡ Ok x → Follows x Outcome → Continued final)
      → By r Follows Outcome → Continued final
  by_result (Ok x) Follows next b = next x refl b
  by_result (Err e) Follows next b = absurd (cc)

  abbrev Rest : List ChildJobs → Type 0
  Rest children =
      (places left : List ℕ) → Continued left
      → ChildrenRan kind (length file) children places left Outcome → Continued final

  -- a page that was run at a link behind the former file
  by_child : (child : ChildJobs) (contents : List ℕ) (slot : ℕ)
      (Follows : List ℕ → ℕ → Result LeftPages TiffError → Type 0) → length file ≤ slot
      → Continued contents
      → ((left : List ℕ) (at : ℕ) → Continued left → Follows left at Outcome → Continued final)
      → ChildRan kind child contents slot Follows Outcome → Continued final
  by_child child contents slot Follows from c next ran =
      let there : Continued ran.left =
      goes_on kind q slot file contents ran.left room from c (continues kind contents slot child.jobs.items [] ran.replies ran.left ran.runs) in
      by_page (refused_in (child.page ∷ []) child.jobs.items ran.replies) ran.left
      (By (link_at kind ran.left slot) (Follows ran.left)) there
      (λ b. by_result (link_at kind ran.left slot) (Follows ran.left) (λ at is f. next ran.left at there f) b) ran.goes_on

  children_continue : (children : List ChildJobs) → Rest children
  children_continue [] places told c ran = by_file told None ran c
  children_continue (child ∷ children) places told c ran =
      let Follows : List ℕ → ℕ → Result LeftPages TiffError → Type 0 =
      λ left at. ChildrenRan kind (length file) children (slice_set places child.page at) left in
      by_result (child_slot kind (length file) child places told) (λ slot. ChildRan kind child told slot Follows)
      (λ slot is r. by_child child told slot Follows (child_floor kind (length file) child places told slot is) c
      (λ left at c' f. children_continue children (slice_set places child.page at) left c' f) r)
      ran

  goes_on_continue : (children : List ChildJobs) (first : ℕ) (numbers contents : List ℕ)
      → Continued contents → GoesOn kind (length file) first numbers children contents Outcome
      → Continued final
  goes_on_continue [] first numbers contents c g = by_file contents None g c
  goes_on_continue (child ∷ children) first numbers contents c g =
      let Places : List ℕ → List ℕ =
      λ offsets. chain_places (length numbers + length (child ∷ children)) numbers offsets in
      by_result (chain_at kind contents first) (λ offsets. ChildrenRan kind (length file) (child
      ∷ children) (Places offsets) contents)
      (λ offsets is r. children_continue (child ∷ children) (Places offsets) contents c r) g

  pages_continue : (pages : PagesJobs) (first : ℕ) (contents : List ℕ) (page : Option RefusedPage)
      → Continued contents → PagesGoOn kind (length file) first pages contents page Outcome
      → Continued final
  pages_continue pages first contents page c g =
      by_page page contents (GoesOn kind (length file) first pages.numbers.items pages.children.items contents) c
      (λ u. goes_on_continue pages.children.items first pages.numbers.items contents c u) g

-- What the pages leave is the former file with the bytes over its link, and more behind it.
pub behind_ran : (kind : FileKind) (q : ℕ) (file final : List ℕ) (refused : Option RefusedPage)
    (pages : PagesJobs) (a : Addition)
    → RanBehind kind file q pages (Ok (final, refused))
    → IsAddedTo final (length file) q (offset_len kind) a
    → (length a.link.items ≡ offset_len kind)
    × RanBehind kind file q pages (Ok (added_to file q a.link.items a.more.items, refused))
behind_ran kind q file final refused pages a ran added =
    let room = ran.runs.within in
    let first : Continues kind q file ran.left =
    continues kind file q pages.chain.items [] ran.replies ran.left ran.runs in
    let last : Continues kind q file final =
    pages_continue kind q file room final refused pages q ran.left
    (refused_in pages.numbers.items pages.chain.items ran.replies) first ran.goes_on in
    let g = gathered kind q file final a room last added in
    let Ran : List ℕ → Type 0 = λ bytes. RanBehind kind file q pages (Ok (bytes, refused)) in
    (g.1, subst Ran g.0 ran)

-- ---- the pages behind the chain

module _ (kind : FileKind) (q : ℕ) (file contents left : List ℕ) (refused : Option RefusedPage)
    (pages : PagesJobs) (is : contents ≡ file)
    (ran : RanAt kind contents q pages.numbers.items pages.chain.items left refused) where
  -- The jobs of the chain were run, and the other pages behind them.
  pub ran_behind : (outcome : Result LeftPages TiffError)
      → PagesGoOn kind (length file) q pages left refused outcome
      → RanBehind kind file q pages outcome
  ran_behind outcome goes_on =
      let Told : List ℕ → Type 0 =
      λ bytes. RunsAt kind bytes q pages.chain.items [] ran.replies left in
      let Page : Option RefusedPage → Type 0 =
      λ page. PagesGoOn kind (length file) q pages left page outcome in
      record { left = left; replies = ran.replies; runs = subst Told is ran.runs; goes_on = subst Page ran.refused_is goes_on }

  pub fails_behind : (e : TiffError)
      → (e ≡ OutOfMemory) ⊎ PagesGoOn kind (length file) q pages left refused (Err e)
      → (e ≡ OutOfMemory) ⊎ RanBehind kind file q pages (Err e)
  fails_behind e (inl out) = inl out
  fails_behind e (inr goes_on) = inr (ran_behind (Err e) goes_on)

  -- They leave the former file with the bytes over its link, and more behind it.
  pub added_behind : (final : List ℕ) (page : Option RefusedPage) (a : Addition)
      → PagesGoOn kind (length file) q pages left refused (Ok (final, page))
      → IsAddedTo final (length file) q (offset_len kind) a
      → (length a.link.items ≡ offset_len kind)
      × RanBehind kind file q pages (Ok (added_to file q a.link.items a.more.items, page))
  added_behind final page a goes_on added =
      behind_ran kind q file final page pages a (ran_behind (Ok (final, page)) goes_on) added
