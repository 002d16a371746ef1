-- The tree of a file's directories: those of the chain, and those that tags name (TIFF 6.0,
-- Technical Note 1; BigTIFF; Exif 2.3; this project's).
use Rattle.std.specs.Prelude.{◌≡◌, ℕ, zero, suc, ◌+◌, ◌-◌, ◌≤◌, ◌<◌, ◌==◌, List, [], ◌∷◌, ◌++◌, length, map, Bool, true, false, if◌then◌else◌, nat_eq, nat_lt, Option, None, Some, Result, Ok, Err, IfErr, OnOk}
use Rattle.std.specs.List.{filter_map, fold, list_any}
use Rattle.std.specs.FinMap.{FinMap, entries, len}
use Rattle.std.specs.Ordering.{nat_cmp}
use Rattle.tiff_base.specs.declared.error.TiffError.{TiffError}
use Rattle.tiff_base.specs.declared.error.TiffError.TheVariants.{LimitsExceeded}
use Rattle.tiff_base.specs.declared.tags.IfdPointer.{IfdPointer}
use Rattle.tiff_base.specs.declared.tags.Tag.{Tag}
use Rattle.tiff_base.specs.declared.tags.«Type».{«Type»}
use Rattle.tiff_base.specs.declared.tags.«Type».TheVariants as y
use Rattle.tiff_base.specs.Answers.{IsCause}
use Rattle.tiff_base.specs.Directory.{directory_at}
use Rattle.tiff_base.specs.Field.{Field, DirectoryRecord}
use Rattle.tiff_base.specs.Tags.{tag_number, tag_of}
use Rattle.tiff_ifd.specs.Into.{into_u64_vec}
use Rattle.tiff_ifd.specs.TagLookup.{look_in, require}
use Rattle.tiff_decode.specs.Machine.{Decoding}
use Rattle.tiff_decode.specs.Outcome.{chain_of}
use Rattle.tiff_laws.specs.Pages.{SameFile}
use Rattle.tiff_pages.specs.declared.pages.PageFacts.{PageFacts}
use Rattle.tiff_pages.specs.declared.pages.PageItem.{PageItem}
use Rattle.tiff_pages.specs.declared.tree.DirectoryItem.{DirectoryItem}
use Rattle.tiff_pages.specs.declared.tree.DirectoryList.{DirectoryList}
use Rattle.tiff_pages.specs.declared.tree.Found.{Found}
use Rattle.tiff_pages.specs.declared.tree.Found.TheVariants.{Directory, DirectoryError, ValuesError, Met, TooDeep}
use Rattle.tiff_pages.specs.declared.tree.NamedBy.{NamedBy}
use Rattle.tiff_pages.specs.Listed.{ListingRecord}
use Rattle.tiff_pages.specs.Pages.{facts_at, state_along, times_to_end}

-- the depth of the deepest directories that are listed; the chain has depth 0
abbrev pub deepest : ℕ
deepest = 8

-- the most values of tags, of all directories of a file, that a list takes. The fields of a forged
-- directory can share their values, of which there are then as many as fields times values.
abbrev pub most_values : ℕ
most_values = 1048576

-- ---- the tags that name directories

-- the types whose values are offsets of directories (TIFF 6.0 Technical Note 1; BigTIFF)
abbrev pub is_offset_type : «Type» → Bool
is_offset_type y.IFD = true
is_offset_type y.IFD8 = true
is_offset_type type = false

-- the tags whose values of any type are offsets of directories: SubIFDs (TIFF 6.0 Technical Note
-- 1), and the directories of Exif, GPS and interoperability (Exif 2.3 section 4.6.3)
abbrev pub offset_tags : List ℕ
offset_tags = 330 ∷ 34665 ∷ 34853 ∷ 40965 ∷ []

abbrev pub names_directories : Tag → «Type» → Bool
names_directories tag type =
    if is_offset_type type then true else list_any (nat_eq (tag_number tag)) offset_tags

-- the tag of a field, and how many values it has, if it names directories
abbrev pub pointer : ℕ × Field → Option (Tag × ℕ)
pointer e =
    if names_directories (tag_of e.0) e.1.field_type then Some (tag_of e.0, e.1.count) else None

-- the tags of a directory that name directories, by ascending number
abbrev pub pointers : FinMap nat_cmp Field → List (Tag × ℕ)
pointers fields = filter_map pointer (entries fields)

-- the numbers of a tag of a directory, under the decoder's limits
abbrev pub values_of : Decoding → DirectoryRecord → Tag → Result (List ℕ) TiffError
values_of d directory tag =
    require into_u64_vec (look_in d.kind d.order d.bytes d.state.limits directory.entries) tag

-- the numbers of a tag of a directory, if a list that takes `left` more values takes so many
abbrev pub values_within : Decoding → DirectoryRecord → ℕ → Tag × ℕ → Result (List ℕ) TiffError
values_within d directory left pointer =
    if nat_lt left pointer.1 then Err LimitsExceeded else values_of d directory pointer.0

-- ---- an item

-- a directory with the facts of its page, or the error by which it can't be read
abbrev pub found_in : Result DirectoryRecord TiffError → Result PageFacts TiffError → Found
found_in (Ok directory) page =
    Directory (record { fields = len directory.entries; page = page })
found_in (Err e) page = DirectoryError e

abbrev pub found_at : Decoding → ℕ → Found
found_at d offset = found_in (directory_at d.kind d.order d.bytes offset) (facts_at d offset)

-- the item of a directory of the chain
abbrev pub chain_item : Decoding → ℕ → DirectoryItem
chain_item d offset = record {
  place = record { 0 = offset };
  depth = 0;
  by = None;
  found = found_at d offset;
}

-- a directory is not listed again, and not deeper than the deepest
abbrev pub found_named : Decoding → List ℕ → ℕ → ℕ → Found
found_named d met depth offset =
    if list_any (nat_eq offset) met then Met
    else if nat_lt deepest depth then TooDeep
    else found_at d offset

-- the offsets that were met, after this one is named
abbrev pub met_by : List ℕ → ℕ → ℕ → List ℕ
met_by met depth offset =
    if list_any (nat_eq offset) met then met
    else if nat_lt deepest depth then met
    else met ++ offset ∷ []

-- ---- the directories that a directory names

abbrev pub with_item : ListingRecord → DirectoryItem → ListingRecord
with_item l item = record l { items = l.items ++ item ∷ [] }

-- the list with the directory that a tag names by one of its values
abbrev pub list_offset : Decoding → NamedBy → ℕ → ListingRecord → ℕ → ListingRecord
list_offset d by depth l offset = record {
  items = l.items ++ record {
    place = record { 0 = offset };
    depth = depth;
    by = Some by;
    found = found_named d l.met depth offset;
  } ∷ [];
  met = met_by l.met depth offset;
  left = l.left;
}

-- the list with the directories that a tag names by its values, or with the error of the values
abbrev pub list_values : Decoding → NamedBy → ℕ → ListingRecord → Result (List ℕ) TiffError
    → ListingRecord
list_values d by depth l (Ok offsets) =
    fold (list_offset d by depth) (record l { left = l.left - length offsets }) offsets
list_values d by depth l (Err e) =
    with_item l (record { place = by.directory; depth = depth; by = Some by; found = ValuesError e })

abbrev pub list_tag : Decoding → DirectoryRecord → IfdPointer → ℕ → ListingRecord → Tag × ℕ
    → ListingRecord
list_tag d directory place depth l pointer =
    list_values d (record { directory = place; tag = pointer.0 }) depth l
    (values_within d directory l.left pointer)

-- the list with the directories that the directory at a place names
abbrev pub list_named : Decoding → IfdPointer → ℕ → ListingRecord → Result DirectoryRecord TiffError
    → ListingRecord
list_named d place depth l (Ok directory) =
    fold (list_tag d directory place depth) l (pointers directory.entries)
list_named d place depth l (Err e) = l

-- ---- levels

-- the item is a directory of this depth
abbrev pub is_open_at : ℕ → ℕ → Found → Bool
is_open_at depth at (Directory facts) = at == depth
is_open_at depth at found = false

abbrev pub is_open : ℕ → DirectoryItem → Bool
is_open depth item = is_open_at depth item.depth item.found

-- the list with an item, and behind it, if it is a directory of this depth, with what it names
abbrev pub expand : Decoding → ℕ → ListingRecord → DirectoryItem → ListingRecord
expand d depth l item =
    if is_open depth item
    then list_named d item.place (depth + 1) (with_item l item)
    (directory_at d.kind d.order d.bytes item.place.0)
    else with_item l item

-- the list with the directories that the directories of this depth name
abbrev pub level : Decoding → ℕ → ListingRecord → ListingRecord
level d depth l = fold (expand d depth) (record l { items = [] }) l.items

-- the list with the directories at most this deep that those in it lead to
abbrev pub below : Decoding → ℕ → ListingRecord → ListingRecord
below d zero l = l
below d (suc depth) l = level d depth (below d depth l)

-- the directories of the chain
abbrev pub chain_list : Decoding → ListingRecord
chain_list d = record {
  items = map (chain_item d) (chain_of d).offsets;
  met = (chain_of d).offsets;
  left = most_values;
}

-- the directories of a file, and how their chain ends
pub record Directories : Type 0 where
  pub items : List DirectoryItem
  pub end : Option TiffError

abbrev pub directories_in : DirectoryList → Directories
directories_in list = record { items = list.directories.items; end = list.end }

-- the directories of a decoder's file, under its limits: those of the chain, behind each the
-- directories that it names, and so on down to the deepest, whose own are too deep; and the error
-- by which the chain ends, or none
abbrev pub directories_of : Decoding → Directories
directories_of d = record {
  items = (below d (suc deepest) (chain_list d)).items;
  end = (chain_of d).end;
}

-- ---- where the decoder is left

-- the decoder with the page and the directory of another one, and its count of failed reads
abbrev pub shown_as : Decoding → Decoding → Decoding
shown_as d new = record d {
  failures = new.failures;
  state = record d.state { page = new.state.page; directory = new.state.directory };
}

-- A call shows directories of the file: at most the decoder's page and its directory are others,
-- and the count of failed reads, which a result leaves unchanged. The only errors are out of memory
-- and an error of the device.
pub record Shows {X : Type 0} (result : Result X TiffError) (old new : Decoding) : Type 0 where
  pub shows : new ≡ shown_as old new
  pub failures : old.failures ≤ new.failures
  pub stays : OnOk result (new.failures ≡ old.failures)
  pub refused : IfErr result (λ e. IsCause (Unit {0}) (old.failures < new.failures) e ⊥)

-- The list leaves the decoder at the chain's end, where it shows any page. An error leaves it its
-- file and its limits.
abbrev pub LeavesTree : Result DirectoryList TiffError → Decoding → Decoding → Type 0
LeavesTree (Ok list) old new =
    new ≡ shown_as (record old { state = state_along old (times_to_end old) }) new
    × (new.failures ≡ old.failures)
LeavesTree (Err e) old new = SameFile old new × (old.failures ≤ new.failures)

-- ---- an item of a page of the chain

-- the item of a page that was listed
abbrev pub page_item : Decoding → PageItem → DirectoryItem
page_item d page = record {
  place = page.place;
  depth = 0;
  by = None;
  found = found_in (directory_at d.kind d.order d.bytes page.place.0) page.page;
}
