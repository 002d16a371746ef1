-- A decoder goes along the pages of its file, one by one, to the end of the chain of directories
-- (this project's).
use Rattle.std.specs.Prelude.{◌≡◌, ℕ, suc, ◌<◌, List, length, map, take, Option, None, Some, true, false, Result, Ok, Err, is_some}
use Rattle.std.specs.List.{slice_get}
use Rattle.tiff_base.specs.declared.error.TiffError.{TiffError}
use Rattle.tiff_base.specs.Answers.{◌>>=◌}
use Rattle.tiff_base.specs.Directory.{directory_at}
use Rattle.tiff_base.specs.Field.{DirectoryRecord}
use Rattle.tiff_base.specs.Header.{header_at}
use Rattle.tiff_page.specs.Page.{PageRecord}
use Rattle.tiff_decode.specs.Machine.{Decoding, GivesOutcome, stays}
use Rattle.tiff_decode.specs.Outcome.{chain_of, decoder_of, next_image, page_in, seek_to_image}

-- the page of the directory at an offset of a decoder's file, under the decoder's limits
abbrev pub page_at : Decoding → ℕ → Result PageRecord TiffError
page_at d offset = do
  directory ← directory_at d.kind d.order d.bytes offset
  page_in d.kind d.order d.bytes d.state.limits directory

-- Both decoders have the same file and the same limits.
pub record SameFile (a b : Decoding) : Type 0 where
  pub bytes : b.bytes ≡ a.bytes
  pub kind : b.kind ≡ a.kind
  pub order : b.order ≡ a.order
  pub first : b.first ≡ a.first
  pub limits : b.state.limits ≡ a.state.limits

-- A decoder of the same file is at the directory with this number, from 0, of the chain. It is open
-- if that directory links to another one.
pub record IsAlong (start : Decoding) (number : ℕ) (d : Decoding) : Type 0 where
  pub same : SameFile start d
  pub offset : ℕ
  pub is_offset : slice_get (chain_of start).offsets number ≡ Some offset
  pub pointer : d.state.pointer ≡ Some (record { 0 = offset })
  pub directory : DirectoryRecord
  pub is_directory : directory_at start.kind start.order start.bytes offset ≡ Ok directory
  pub more : d.state.more ≡ is_some directory.next

-- the result at an offset: the error of its page, or the decoder has that page and its directory
abbrev pub PageAnswers : Decoding → ℕ → Result (Unit {0}) TiffError → Decoding → Type 0
PageAnswers start offset (Ok u) d =
    (directory_at start.kind start.order start.bytes offset ≡ Ok d.state.directory)
    × (page_in start.kind start.order start.bytes start.state.limits d.state.directory
    ≡ Ok d.state.page)
PageAnswers start offset (Err e) d = page_at start offset ≡ Err e

-- A decoder is at the directory with this number. The call that moved it there has the result of a
-- seek to that number.
pub record Arrives (start : Decoding) (number : ℕ) (answer : Result (Unit {0}) TiffError)
    (d : Decoding) : Type 0 where
  pub along : IsAlong start number d
  pub sought : (seek_to_image start number).answer ≡ answer
  pub page : PageAnswers start along.offset answer d

-- The chain has no offset after this number, and ends by this error, or by none.
pub record EndsBehind (start : Decoding) (number : ℕ) (end : Option TiffError) : Type 0 where
  pub last : length (chain_of start).offsets ≡ suc number
  pub is_end : (chain_of start).end ≡ end

-- An open decoder went on, with this result: it is at the directory after the one with this number;
-- or there is none, the result is the error by which the chain ends, and the decoder stays where it
-- is and is no longer open.
abbrev pub GoesOn : Decoding → ℕ → Option ℕ → Decoding → Result (Unit {0}) TiffError → Decoding
    → Type 0
GoesOn start number (Some offset) old answer new = Arrives start (suc number) answer new
GoesOn start number None old answer new =
    (e : TiffError) × (answer ≡ Err e) × EndsBehind start number (Some e)
    × (new ≡ record old { state = record old.state { more = false } })

-- ---- the laws

-- A decoder that was opened on a file has the file's header, whose first directory is that of the
-- chain. It is at the first page, as after a seek to it.
pub record IsAtFirst (file : List ℕ) (d : Decoding) : Type 0 where
  pub bytes : d.bytes ≡ file
  pub header : header_at file ≡ Ok (record { order = d.order; kind = d.kind; first = d.first })
  pub first : slice_get (chain_of d).offsets 0 ≡ Some d.first
  pub stays : seek_to_image d 0 ≡ stays d (Ok tt)
  pub arrives : Arrives d 0 (Ok tt) d

abbrev pub WalkOpens : Type 0
WalkOpens = (file : List ℕ) (failures : ℕ) (d : Decoding) → decoder_of file failures ≡ Ok d
    → IsAtFirst file d

-- a decoder that seeks a directory of the chain comes to it from wherever it is
abbrev pub WalkSeeks : Type 0
WalkSeeks = (start old new : Decoding) (number : ℕ) (answer : Result (Unit {0}) TiffError)
    → SameFile start old → number < length (chain_of start).offsets
    → GivesOutcome answer (seek_to_image old number) old new → Arrives start number answer new

-- an open decoder goes on along the chain
abbrev pub WalkGoesOn : Type 0
WalkGoesOn = (start old new : Decoding) (number : ℕ) (answer : Result (Unit {0}) TiffError)
    → IsAlong start number old → old.state.more ≡ true
    → GivesOutcome answer (next_image old) old new
    → GoesOn start number (slice_get (chain_of start).offsets (suc number)) old answer new

-- a decoder that isn't open is at the end of the chain, which ends by no error
abbrev pub WalkEnds : Type 0
WalkEnds = (start d : Decoding) (number : ℕ) → IsAlong start number d → d.state.more ≡ false
    → EndsBehind start number None

-- the pointer of a decoder defines the number of its directory
abbrev pub WalkMoves : Type 0
WalkMoves = (start a b : Decoding) (n m : ℕ) → IsAlong start n a → IsAlong start m b
    → a.state.pointer ≡ b.state.pointer → n ≡ m

-- ---- lists that grow along the pages

-- The list has one item for each directory of the chain, up to the directory of the decoder.
pub record ListedAlong {A : Type 0} (item : ℕ → A) (start d : Decoding) (items : List A) : Type 0
  where
    pub number : ℕ
    pub along : IsAlong start number d
    pub listed : items ≡ map item (take (suc number) (chain_of start).offsets)
