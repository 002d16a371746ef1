-- The directories of a file, as C gets them.
use Rattle.std.specs.Prelude.{◌⊎◌, ℕ, List, map, Option, None, Some, Result, Ok, Err}
use Rattle.tiff_base.specs.declared.error.TiffError.{TiffError}
use Rattle.tiff_base.specs.declared.error.TiffError.TheVariants.{OutOfMemory}
use Rattle.tiff_base.specs.Tags.{tag_number}
use Rattle.tiff_pages.specs.declared.tree.DirectoryItem.{DirectoryItem}
use Rattle.tiff_pages.specs.declared.tree.Found.{Found}
use Rattle.tiff_pages.specs.declared.tree.Found.TheVariants.{Directory, DirectoryError, ValuesError, Met, TooDeep}
use Rattle.tiff_pages.specs.declared.tree.NamedBy.{NamedBy}
use Rattle.tiff_pages.specs.Tree.{Directories}
use Rattle.tiff_ffi.specs.declared.directories.ListedDirectory.{ListedDirectory}
use Rattle.tiff_ffi.specs.declared.list.ListedPage.{ListedPage}
use Rattle.tiff_ffi.specs.List.{ListsAll, ListsNone, no_page, page_told}
use Rattle.tiff_ffi.specs.Status.{fault_number}

-- the offset of the directory with the tag that names a directory; 0 in the chain
abbrev pub parent_told : Option NamedBy → ℕ
parent_told None = 0
parent_told (Some by) = by.directory.0

-- the number of the tag that names a directory; 0 in the chain
abbrev pub tag_told : Option NamedBy → ℕ
tag_told None = 0
tag_told (Some by) = tag_number by.tag

-- what is found, by its number
abbrev pub found_number : Found → ℕ
found_number (Directory facts) = 0
found_number (DirectoryError e) = 1
found_number (ValuesError e) = 2
found_number Met = 3
found_number TooDeep = 4

-- the number of the error that is found; 0 for none
abbrev pub found_status : Found → ℕ
found_status (DirectoryError e) = fault_number e
found_status (ValuesError e) = fault_number e
found_status found = 0

-- the number of a directory's fields; 0 where there is no directory
abbrev pub found_fields : Found → ℕ
found_fields (Directory facts) = facts.fields
found_fields found = 0

-- the page of the directory at an offset; zeros where there is no directory
abbrev pub found_page : ℕ → Found → ListedPage
found_page offset (Directory facts) = page_told offset facts.page
found_page offset found = no_page

-- a place where a directory is named, by its numbers
abbrev pub directory_told : DirectoryItem → ListedDirectory
directory_told item = record {
  offset = item.place.0;
  parent = parent_told item.by;
  fields = found_fields item.found;
  depth = item.depth;
  tag = tag_told item.by;
  found = found_number item.found;
  status = found_status item.found;
  page = found_page item.place.0 item.found;
}

-- what the call returns and leaves: all directories, or none since memory is out; or none for the
-- error of the file
abbrev pub TreeTells : Result Directories TiffError → ℕ → List ListedDirectory
    → List ListedDirectory → ℕ → Type 0
TreeTells (Ok tree) result old new count =
    ListsAll (map directory_told tree.items) tree.end result old new count
    ⊎ ListsNone OutOfMemory result old new count
TreeTells (Err e) result old new count = ListsNone e result old new count
