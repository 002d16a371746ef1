-- The result of listing the pages of a file that is opened at its first page (this project's).
use Rattle.std.specs.Prelude.{ℕ, Bool, true, List, Option, Result, Ok}
use Rattle.tiff_base.specs.declared.error.TiffError.{TiffError}
use Rattle.tiff.specs.Answers.{◌>>=◌}
use Rattle.tiff_decode.specs.Outcome.{decoder_of}
use Rattle.tiff_pages.specs.Pages.{Pages, pages_of}

-- the pages of a file, and how their chain ends; or the error of its header, or of its first page
abbrev pub pages_from_first : List ℕ → Result Pages TiffError
pages_from_first file = do
  d ← decoder_of file 0
  Ok (pages_of d)

-- that all was done, and how the chain ends
abbrev pub told_of_list : List ℕ → Result (Bool × Option TiffError) TiffError
told_of_list file = do
  pages ← pages_from_first file
  Ok (true, pages.end)
