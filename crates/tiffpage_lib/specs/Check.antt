-- The result of reading each page of a file whole under limits (this project's).
use Rattle.std.specs.Prelude.{ℕ, Bool, List, Option, Result, Ok}
use Rattle.tiff_base.specs.declared.error.TiffError.{TiffError}
use Rattle.tiff.specs.Answers.{◌>>=◌}
use Rattle.tiff.specs.Opened.{opened_of}
use Rattle.tiff_ifd.specs.declared.limits.Limits.{Limits}
use Rattle.tiff_pages.specs.Check.{Checks, are_well, checks_of}
use Rattle.tiff_pages.specs.OfFile.{under}

-- the checks of the pages of a file under limits, or the error of its header
abbrev pub checks_under : Limits → List ℕ → Result Checks TiffError
checks_under limits file = do
  d ← opened_of file 0
  Ok (checks_of (under limits d))

-- whether the image of each page was read, and how the chain ends
abbrev pub told_under : Limits → List ℕ → Result (Bool × Option TiffError) TiffError
told_under limits file = do
  checks ← checks_under limits file
  Ok (are_well checks.items, checks.end)
