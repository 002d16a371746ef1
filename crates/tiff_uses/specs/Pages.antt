-- What calls return of the pages of a file, by the outcomes of a decoder's calls.
use Rattle.std.specs.Prelude.{ℕ, List, [], ◌∷◌, Option, None, Some, Result, Ok, Err}
use Rattle.tiff_base.specs.declared.error.TiffError.{TiffError}
use Rattle.tiff_base.specs.Answers.{◌>>=◌, AnswersBut}
use Rattle.tiff_base.specs.Directory.{directory_at}
use Rattle.tiff.specs.Image.{Decoded}
use Rattle.tiff.specs.Machine.{Decoding}
use Rattle.tiff.specs.Outcome.{decoder_of, chain_of, page_in, read_chunk, read_image, seek_to_image}

-- the result of a call that opens a file, seen by `view`, is the given one, unless memory is out or
-- the device fails
abbrev pub FileAnswers : {X Y : Type 0} → (X → Y) → Result X TiffError → Result Y TiffError → Type 0
FileAnswers view result given = AnswersBut (Unit {0}) (Unit {0}) view result given

-- the samples of the first page
abbrev pub first_image : List ℕ → Result Decoded TiffError
first_image file = do
  d ← decoder_of file 0
  (read_image d).answer

-- the samples of a chunk of the page with this number
abbrev pub page_chunk : List ℕ → ℕ → ℕ → Result Decoded TiffError
page_chunk file page chunk = do
  d ← decoder_of file 0
  _ ← (seek_to_image d page).answer
  (read_chunk (record d { state = (seek_to_image d page).next }) chunk).answer

-- the width and the height of the page at an offset of the chain
abbrev pub sides_at : Decoding → ℕ → Result (ℕ × ℕ) TiffError
sides_at d offset = do
  directory ← directory_at d.kind d.order d.bytes offset
  page ← page_in d.kind d.order d.bytes d.state.limits directory
  Ok (page.width, page.height)

-- the widths and heights of the pages at these offsets, or the first error
abbrev pub each_sides : Decoding → List ℕ → Result (List (ℕ × ℕ)) TiffError
each_sides d [] = Ok []
each_sides d (offset ∷ offsets) = do
  sides ← sides_at d offset
  others ← each_sides d offsets
  Ok (sides ∷ others)

-- the result at the end of a chain: its error, if it ends by one, else what is given
abbrev pub told_at : {A : Type 0} → Option TiffError → A → Result A TiffError
told_at None told = Ok told
told_at (Some e) told = Err e

-- the widths and heights of all pages of a file, one pair for each offset of its chain; or the
-- first error: of the header and the first page, of the other pages in their order, and then of the
-- chain's end
abbrev pub page_sides : List ℕ → Result (List (ℕ × ℕ)) TiffError
page_sides file = do
  d ← decoder_of file 0
  sides ← each_sides d (chain_of d).offsets
  told_at (chain_of d).end sides
