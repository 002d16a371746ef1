-- A list of directories while it grows (this project's).
use Rattle.std.specs.Prelude.{ℕ, List}
use Rattle.tiff_pages.specs.declared.tree.DirectoryItem.{DirectoryItem}

-- items; the offsets of the directories among them, in the order in which they were met; and how
-- many more values of tags the list takes
pub record ListingRecord : Type 0 where
  pub items : List DirectoryItem
  pub met : List ℕ
  pub left : ℕ
