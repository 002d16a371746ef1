-- The tree of the directories of a file stands on its chain.
use Rattle.std.proofs.Common.{◌≡◌, ℕ, zero, suc, List, [], ◌∷◌, map, Result, Ok, refl, ap, sym, ◌∙◌}
use Rattle.tiff_base.specs.declared.error.TiffError.{TiffError}
use Rattle.tiff_decode.specs.Machine.{Decoding, State}
use Rattle.tiff_decode.specs.Outcome.{chain_of}
use Rattle.tiff_pages.specs.declared.pages.PageItem.{PageItem}
use Rattle.tiff_pages.specs.declared.pages.PageList.{PageList}
use Rattle.tiff_pages.specs.declared.tree.DirectoryItem.{DirectoryItem}
use Rattle.tiff_pages.specs.Listed.{ListingRecord}
use Rattle.tiff_pages.specs.Pages.{Pages, item_at, pages_in, pages_of}
use Rattle.tiff_pages.specs.Tree.{Directories, Shows, below, chain_item, chain_list, deepest, directories_of, level, most_values, page_item}
use Rattle.tiff_pages.proofs.Shown.{level_same}

-- The decoder went along the chain of its file, under the same limits.
pub record WentAlong (old mid : Decoding) : Type 0 where
  pub state : State
  pub at : mid ≡ record old { state = state }
  pub limits : mid.state.limits ≡ old.state.limits

pub went : (old mid : Decoding) (s : State) → mid ≡ record old { state = s }
    → mid.state.limits ≡ old.state.limits → WentAlong old mid
went old mid s h l = record { state = s; at = h; limits = l }

abbrev pub listing : Pages → Result Pages TiffError
listing pages = Ok pages

abbrev pub told : Directories → Result Directories TiffError
told directories = Ok directories

-- ---- the chain

items_listed : (d : Decoding) (offsets : List ℕ)
    → map (page_item d) (map (item_at d) offsets) ≡ map (chain_item d) offsets
items_listed d [] = refl
items_listed d (p ∷ ps) = ap (λ (xs : List DirectoryItem). chain_item d p ∷ xs) (items_listed d ps)

abbrev place_of : PageItem → ℕ
place_of page = page.place.0

met_listed : (d : Decoding) (offsets : List ℕ) → map place_of (map (item_at d) offsets) ≡ offsets
met_listed d [] = refl
met_listed d (p ∷ ps) = ap (λ (xs : List ℕ). p ∷ xs) (met_listed d ps)

pages_are : (old : Decoding) (listed : PageList)
    → listing (pages_of old) ≡ listing (pages_in listed) → pages_in listed ≡ pages_of old
pages_are old listed h = cc

-- The items of the pages are those of the chain.
chain_listed : (old mid : Decoding) (listed : PageList) (l : ListingRecord) → WentAlong old mid
    → listing (pages_of old) ≡ listing (pages_in listed)
    → l.items ≡ map (page_item mid) listed.pages.items
    → l.met ≡ map (λ page. page.place.0) listed.pages.items → l.left ≡ most_values
    → l ≡ chain_list old
chain_listed old mid listed l w p i m f =
    let all : listed.pages.items ≡ map (item_at old) (chain_of old).offsets =
    ap (λ (x : Pages). x.items) (pages_are old listed p) in
    let items =
    i ∙ ap (λ (d : Decoding). map (page_item d) listed.pages.items) w.at
    ∙ ap (map (page_item old)) all ∙ items_listed old (chain_of old).offsets in
    let met = m ∙ ap (map place_of) all ∙ met_listed old (chain_of old).offsets in
    λ k. record { items = items k; met = met k; left = f k }

-- ---- the levels

along_level : (old mid : Decoding) → WentAlong old mid → (depth : ℕ) (l : ListingRecord)
    → level mid depth l ≡ level old depth l
along_level old mid w depth l =
    let limits : w.state.limits ≡ old.state.limits =
    sym (ap (λ (d : Decoding). d.state.limits) w.at) ∙ w.limits in
    ap (λ (d : Decoding). level d depth l) w.at
    ∙ ap (λ k. level (record old { state = record old.state { limits = k } }) depth l) limits

below_same : (a b : Decoding)
    → ((depth : ℕ) (l : ListingRecord) → level b depth l ≡ level a depth l)
    → (n : ℕ) (l : ListingRecord) → below b n l ≡ below a n l
below_same a b h zero l = refl
below_same a b h (suc n) l = h n (below b n l) ∙ ap (level a n) (below_same a b h n l)

-- All directories are listed.
pub all_found : {X : Type 0} (x : X) (old mid last : Decoding) (listed : PageList)
    (first l : ListingRecord) (items : List DirectoryItem) → WentAlong old mid
    → listing (pages_of old) ≡ listing (pages_in listed)
    → Shows (Ok x) mid last → first.items ≡ map (page_item mid) listed.pages.items
    → first.met ≡ map (λ page. page.place.0) listed.pages.items → first.left ≡ most_values
    → l ≡ below last (suc deepest) first → items ≡ l.items
    → told (directories_of old) ≡ told (record { items = items; end = listed.end })
all_found x old mid last listed first l items w p s i m f h k =
    let start = chain_listed old mid listed first w p i m f in
    let levels : (depth : ℕ) (t : ListingRecord) → level last depth t ≡ level old depth t =
    λ depth t. level_same (Ok x) mid last s depth t ∙ along_level old mid w depth t in
    let whole =
    h ∙ below_same old last levels (suc deepest) first ∙ ap (below old (suc deepest)) start in
    let found : items ≡ (directories_of old).items =
    k ∙ ap (λ (t : ListingRecord). t.items) whole in
    let ends : listed.end ≡ (chain_of old).end =
    ap (λ (t : Pages). t.end) (pages_are old listed p) in
    λ j. told (record { items = sym found j; end = sym ends j })
