-- What a file tells, by its bytes (this project's).
use Rattle.std.specs.Prelude.{ℕ, List, Result, Ok}
use Rattle.tiff_base.specs.declared.error.TiffError.{TiffError}
use Rattle.tiff_base.specs.Answers.{◌>>=◌}
use Rattle.tiff_decode.specs.Machine.{Decoding}
use Rattle.tiff_decode.specs.Opened.{opened_of}
use Rattle.tiff_decode.specs.Outcome.{set_limits}
use Rattle.tiff_ifd.specs.declared.limits.Limits.{Limits}
use Rattle.tiff_pages.specs.declared.check.PageCheck.{PageCheck}
use Rattle.tiff_pages.specs.Check.{check_at}
use Rattle.tiff_pages.specs.Pages.{Pages, pages_of}
use Rattle.tiff_pages.specs.Tree.{Directories, directories_of}

-- the pages of a file, and how their chain ends; or the error of its header
abbrev pub list_of : List ℕ → Result Pages TiffError
list_of file = do
  d ← opened_of file 0
  Ok (pages_of d)

-- the directories of a file, and how their chain ends; or the error of its header
abbrev pub tree_of : List ℕ → Result Directories TiffError
tree_of file = do
  d ← opened_of file 0
  Ok (directories_of d)

-- a decoder under limits
abbrev pub under : Limits → Decoding → Decoding
under limits d = record d { state = (set_limits d limits).next }

-- the page of the directory at an offset of a file, read whole under limits; or the error of the
-- file's header
abbrev pub check_of : List ℕ → Limits → ℕ → Result PageCheck TiffError
check_of file limits offset = do
  d ← opened_of file 0
  Ok (check_at (under limits d) offset)
