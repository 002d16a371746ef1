-- What the model records of an image that a job ends (this project's).
use Rattle.std.specs.Prelude.{◌≡◌, ℕ, ◌++◌, List, Option, Some}
use Rattle.tiff_encode.specs.Machine.{OpenImage}
use Rattle.tiff_encode.specs.Calls.{Offsets}
use Rattle.tiff_encode.specs.Chunks.{parts_left}
use Rattle.tiff_encode.specs.Held.{image_with}
use Rattle.tiff_encode.specs.Open.{RecordsImage}
use Rattle.tiff_encode.specs.Jobs.{FileAndModel}
use Rattle.tiff_encode.specs.Stepping.{IsHeld}

-- the model records an image that ended, if it recorded the open image: with the samples of its
-- chunks and those that the other chunks get
abbrev pub DataHeld : OpenImage → List ℕ → FileAndModel → FileAndModel → Option Offsets → Type 0
DataHeld i samples s t offset =
    (before all : List (List ℕ)) (o : Offsets) → RecordsImage s.file.kind s.model i before
    → offset ≡ Some o
    → Some (before ++ parts_left i samples) ≡ Some all
    → IsHeld t (record { offset = o.pointer; image = image_with i all })
