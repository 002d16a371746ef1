-- The result of listing the tree of a file's directories (this project's).
use Rattle.std.specs.Prelude.{ℕ, Bool, true, List, Option, Result, Ok}
use Rattle.tiff_base.specs.declared.error.TiffError.{TiffError}
use Rattle.tiff.specs.Answers.{◌>>=◌}
use Rattle.tiff_pages.specs.OfFile.{tree_of}

-- that all was done, and how the chain ends
abbrev pub told_of_directories : List ℕ → Result (Bool × Option TiffError) TiffError
told_of_directories file = do
  tree ← tree_of file
  Ok (true, tree.end)
