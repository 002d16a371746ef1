-- Pages with parents: how many a page has, and one that is run behind a file.
use Rattle.std.specs.Prelude.{◌≡◌, ◌⊎◌, ℕ, ◌<◌, List, [], ◌∷◌, length, take, slice_get, slice_index, slice_set, Option, None, Some, Ok, Err}
use Rattle.tiff_base.specs.declared.error.TiffError.{TiffError}
use Rattle.tiff_base.specs.declared.tags.FileKind.{FileKind}
use Rattle.tiff_append.specs.Behind.{RunsAt}
use Rattle.tiff_encode.specs.declared.encoder.script.Job.{Job}
use Rattle.tiff_encode.specs.declared.encoder.script.JobReply.{JobReply}
use Rattle.tiff_ffi.specs.declared.pages.ChildJobs.{ChildJobs}
use Rattle.tiff_ffi.specs.declared.pages.NewPage.{NewPage}
use Rattle.tiff_ffi.specs.declared.pages.RefusedPage.{RefusedPage}
use Rattle.tiff_ffi.specs.Pages.{child_slot, count_of, link_at, refused_in}

-- ---- counts

-- These are counts of pages, each at the number of a parent.
abbrev pub AreCounts : List ℕ → List NewPage → Type 0
AreCounts counts pages = (p : ℕ) → p < length counts → slice_index counts p ≡ count_of pages p

-- how many pages before the one at an index have its parent, if its parent is below n
abbrev pub CountsBefore : ℕ → List NewPage → ℕ → ℕ → Type 0
CountsBefore n pages i before = (page : NewPage) → slice_get pages i ≡ Some page → page.parent < n
    → before ≡ count_of (take i pages) page.parent

-- ---- a page with a parent

-- The jobs of pages with these numbers are run behind a file at the link at q.
pub record RanAt (kind : FileKind) (file : List ℕ) (q : ℕ) (numbers : List ℕ) (jobs : List Job)
    (left : List ℕ) (refused : Option RefusedPage) : Type 0 where
  pub replies : List JobReply
  pub runs : RunsAt kind file q jobs [] replies left
  pub refused_is : refused ≡ refused_in numbers jobs replies

-- The offset of a page's directory is put at its number, unless the page is refused.
abbrev pub Puts : FileKind → ℕ → ℕ → List ℕ → List ℕ → List ℕ → Option RefusedPage → Type 0
Puts kind q page left old new None = (at : ℕ)
    × ((link_at kind left q ≡ Ok at) × (new ≡ slice_set old page at))
Puts kind q page left old new (Some refused) = Unit {0}

-- A page with a parent is run, and the offset of its directory put at its number, unless the page
-- is refused.
pub record StepRan (kind : FileKind) (floor : ℕ) (child : ChildJobs) (old file new left : List ℕ)
    (refused : Option RefusedPage) : Type 0 where
  pub slot : ℕ
  pub slot_is : child_slot kind floor child old file ≡ Ok slot
  pub ran : RanAt kind file slot (child.page ∷ []) child.jobs.items left refused
  pub puts : Puts kind slot child.page left old new refused

-- The link of a page isn't found; or the page isn't refused, and its link can't be read.
abbrev pub StepFails : FileKind → ℕ → ChildJobs → List ℕ → List ℕ → TiffError → Type 0
StepFails kind floor child places file e = (child_slot kind floor child places file ≡ Err e)
    ⊎ ((slot : ℕ) × ((left : List ℕ)
    × ((child_slot kind floor child places file ≡ Ok slot)
    × (RanAt kind file slot (child.page ∷ []) child.jobs.items left None
    × (link_at kind left slot ≡ Err e)))))
