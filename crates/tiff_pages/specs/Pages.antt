-- The pages of a file, each with its facts or its error (this project's).
use Rattle.std.specs.Prelude.{◌≡◌, ◌⊎◌, ℕ, zero, suc, ◌-◌, ◌<◌, ◌≤◌, List, [], length, false, IfErr, OnOk, map, Option, None, Some, Result, Ok, Err}
use Rattle.tiff_base.specs.declared.color.ChunkType.{ChunkType}
use Rattle.tiff_base.specs.declared.color.ChunkType.TheVariants.{Strip, Tile}
use Rattle.tiff_base.specs.declared.error.TiffError.{TiffError}
use Rattle.tiff_base.specs.Answers.{◌>>=◌, IsCause}
use Rattle.tiff_page.specs.Page.{PageRecord}
use Rattle.tiff_page.specs.Counts.{strip_count, tile_count}
use Rattle.tiff_page.specs.Layout.{color_of}
use Rattle.tiff_decode.specs.Machine.{State, Decoding, StandsAt, keeps_state}
use Rattle.tiff_decode.specs.Opened.{rewound}
use Rattle.tiff_decode.specs.Outcome.{chain_of, next_image, page_in, seek_to_image}
use Rattle.tiff_laws.specs.Pages.{page_at}
use Rattle.tiff_pages.specs.declared.pages.PageFacts.{PageFacts}
use Rattle.tiff_pages.specs.declared.pages.PageItem.{PageItem}
use Rattle.tiff_pages.specs.declared.pages.PageList.{PageList}

-- how many chunks of its kind a page has
abbrev pub chunk_count : ChunkType → PageRecord → Result ℕ TiffError
chunk_count Strip page = strip_count page
chunk_count Tile page = tile_count page

-- the facts of a page
abbrev pub facts_of : PageRecord → PageFacts
facts_of page = record {
  width = page.width;
  height = page.height;
  colour = color_of page;
  method = page.method;
  kind = page.chunk_type;
  chunks = chunk_count page.chunk_type page;
}

-- the facts of the page at an offset of the chain, or its first error
abbrev pub facts_at : Decoding → ℕ → Result PageFacts TiffError
facts_at d offset = do
  page ← page_at d offset
  Ok (facts_of page)

abbrev pub item_at : Decoding → ℕ → PageItem
item_at d offset = record { place = record { 0 = offset }; page = facts_at d offset }

-- the pages of a file, and how their chain ends
pub record Pages : Type 0 where
  pub items : List PageItem
  pub end : Option TiffError

abbrev pub pages_in : PageList → Pages
pages_in list = record { items = list.pages.items; end = list.end }

-- the pages of a decoder's file: one for each offset of the chain, in their order, under the
-- decoder's limits; and the error by which the chain ends, or none
abbrev pub pages_of : Decoding → Pages
pages_of d = record { items = map (item_at d) (chain_of d).offsets; end = (chain_of d).end }

-- ---- where the decoder is left

-- the state of a decoder that sought the first page, and then went on `n` times
abbrev pub state_along : Decoding → ℕ → State
state_along d zero = (seek_to_image d 0).next
state_along d (suc n) = (next_image (record d { state = state_along d n })).next

-- how often a decoder goes on along a chain of `offsets` offsets: to each offset after the first,
-- and once more if the chain ends by an error
abbrev pub times_on : ℕ → Option TiffError → ℕ
times_on offsets None = offsets - 1
times_on offsets (Some e) = offsets

-- how often a decoder goes on to the end of its chain
abbrev pub times_to_end : Decoding → ℕ
times_to_end d = times_on (length (chain_of d).offsets) (chain_of d).end

-- the state is the decoder's own, or one on its way along the chain, or, for a chain without
-- directories, that before the first page: the state after the last call that neither ran out of
-- memory nor failed by the device
abbrev pub WasOnItsWay : Decoding → State → Type 0
WasOnItsWay d state =
    (state ≡ d.state)
    ⊎ (((n : ℕ) × (n ≤ times_to_end d) × (state ≡ state_along d n))
    ⊎ (((chain_of d).offsets ≡ []) × (state ≡ (rewound d).state)))

-- The list leaves the decoder at the chain's end. An error leaves it where the last call left it,
-- and its file is the same.
abbrev pub LeavesPages : Result PageList TiffError → Decoding → Decoding → Type 0
LeavesPages (Ok list) old new = new ≡ record old { state = state_along old (times_to_end old) }
LeavesPages (Err e) old new = StandsAt new.state old new × WasOnItsWay old new.state

-- ---- one page

-- the facts of a page that was entered, or the error of the call that entered it
abbrev pub facts_told : Result (Unit {0}) TiffError → PageRecord → Result PageFacts TiffError
facts_told (Ok u) page = Ok (facts_of page)
facts_told (Err e) page = Err e

-- a result that is neither out of memory nor an error of the device
abbrev pub IsOfFile : {X : Type 0} → Result X TiffError → Type 0
IsOfFile answer = IfErr answer (λ e. keeps_state e ≡ false)

-- The page that a decoder has is that of its directory, under its limits.
abbrev pub HasItsPage : Decoding → Type 0
HasItsPage d = page_in d.kind d.order d.bytes d.state.limits d.state.directory ≡ Ok d.state.page

-- a call that reads: a result leaves the decoder as it was; an error, only out of memory or of the
-- device, changes at most the count of failed reads, which grew if the device failed
pub record OnlyReads {X : Type 0} (result : Result X TiffError) (old new : Decoding) : Type 0 where
  pub stays : OnOk result (new ≡ old)
  pub file : StandsAt old.state old new
  pub refused : IfErr result (λ e. IsCause (Unit {0}) (old.failures < new.failures) e ⊥)
