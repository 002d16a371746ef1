-- Links between directories that are accepted one by one, so that they never close a cycle (this
-- project's).
use Rattle.std.specs.Prelude.{◌≡◌, ◌≢◌, ◌⊎◌, ℕ, List, [], ◌∷◌, Bool, true, false, Option, None, Some, Result, Ok, Err}
use Rattle.std.specs.FinMap.{FinMap, get, insert}
use Rattle.std.specs.Ordering.{nat_cmp}
use Rattle.tiff_base.specs.declared.error.TiffError.{TiffError}
use Rattle.tiff_base.specs.declared.error.TiffError.TheVariants.{FormatError}
use Rattle.tiff_base.specs.declared.error.TiffFormatError.TheVariants.{CycleInOffsets}
use Rattle.tiff_base.specs.Directory.{link}

-- the accepted links: each offset has at most one link, to an offset or to none
abbrev pub Links : Type 0
Links = FinMap nat_cmp (Option ℕ)

-- the target of a link; the offset 0 is no target
abbrev pub link_target : Option ℕ → Option ℕ
link_target None = None
link_target (Some to) = link to

module _ (links : Links) where
  -- Accepted links lead from `offset` along these other offsets, the last of which is `last`. An
  -- empty list leads from an offset to itself.
  abbrev pub Goes : ℕ → List ℕ → ℕ → Type 0
  Goes offset [] last = offset ≡ last
  Goes offset (next ∷ others) last = (get links offset ≡ Some (Some next)) × Goes next others last

  -- A link closes a cycle where accepted links lead from its target back to its start.
  abbrev pub Closes : ℕ → Option ℕ → Type 0
  Closes from None = ⊥
  Closes from (Some to) = (others : List ℕ) × Goes to others from

  -- The offset has another accepted link.
  pub record HasAnother (from : ℕ) (to : Option ℕ) : Type 0 where
    pub other : Option ℕ
    pub accepted : get links from ≡ Some other
    pub differs : other ≢ to

  -- The offset has no accepted link, and the link closes a cycle.
  pub record IsClosing (from : ℕ) (to : Option ℕ) : Type 0 where
    pub free : get links from ≡ None
    pub closes : Closes from to

  -- The offset has no accepted link, and the link does not close a cycle.
  pub record IsNew (from : ℕ) (to : Option ℕ) : Type 0 where
    pub free : get links from ≡ None
    pub unclosed : Closes from to → ⊥

-- The result of offering a link: false where it is already accepted, `CycleInOffsets` where its
-- offset has another link or where it closes a cycle, else true. Only the result true changes the
-- accepted links: it adds this link.
abbrev pub Inserts : Links → ℕ → Option ℕ → Result Bool TiffError → Links → Type 0
Inserts links from to (Ok false) after = (get links from ≡ Some (link_target to)) × (after ≡ links)
Inserts links from to (Ok true) after = IsNew links from (link_target to)
    × (after ≡ insert links from (link_target to))
Inserts links from to (Err e) after =
    (e ≡ FormatError CycleInOffsets)
    × (HasAnother links from (link_target to) ⊎ IsClosing links from (link_target to))
    × (after ≡ links)

-- ---- its laws

-- each link that is offered has a result, whatever links are accepted
abbrev pub IsAnswered : Type 0
IsAnswered = (links : Links) (from : ℕ) (to : Option ℕ)
    → (answer : Result Bool TiffError) × (after : Links) × Inserts links from to answer after

-- each link that is offered has at most one result, and one set of accepted links after it
abbrev pub IsOneAnswer : Type 0
IsOneAnswer =
    (links : Links) (from : ℕ) (to : Option ℕ) (answer other : Result Bool TiffError)
    (after last : Links)
    → Inserts links from to answer after → Inserts links from to other last → (answer ≡ other)
    × (after ≡ last)
