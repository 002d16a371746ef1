-- The entries of a page as lines.
use Rattle.std.specs.Prelude.{ℕ, List, [], ◌∷◌, ◌++◌, Option, None, Some, Result, Ok, codes, flat_map, map}
use Rattle.std.specs.FinMap.{entries}
use Rattle.std.specs.Fmt.{decimal}
use Rattle.tiff_base.specs.declared.error.TiffError.{TiffError}
use Rattle.tiff_base.specs.declared.tags.IfdPointer.{IfdPointer}
use Rattle.tiff_decode.specs.declared.script.Call.{Call}
use Rattle.tiff_decode.specs.declared.script.Call.TheVariants as call
use Rattle.tiff.specs.Answers.{◌>>=◌}
use Rattle.tiff.specs.Field.{Field}
use Rattle.tiff.specs.Tags.{tag_of, type_number}
use Rattle.tiff.specs.TagQueries.{buffer_of}
use Rattle.tiff.specs.Machine.{Decoding}
use Rattle.tiff.specs.Outcome.{find_entry, ifd_pointer, read_directory}
use Rattle.tiff_script.specs.Digits.{two_digits}

-- bytes as two digits each; a dash for no bytes
abbrev pub shown_bytes : List ℕ → List ℕ
shown_bytes [] = codes "-"
shown_bytes (b ∷ bs) = flat_map two_digits (b ∷ bs)

-- the line of a field: the number of its tag, the number of its type, how many values it has, and
-- their bytes
abbrev pub line : ℕ → Field → List ℕ → List ℕ
line tag f bytes =
    decimal tag ++ codes " " ++ decimal (type_number f.field_type) ++ codes " " ++ decimal f.count
    ++ codes " " ++ shown_bytes bytes ++ codes "\n"

-- the line of a field, if there is one, or the error of its bytes
abbrev pub found_line : Decoding → ℕ → Option Field → Result (List ℕ) TiffError
found_line d tag None = Ok []
found_line d tag (Some f) = do
  found ← buffer_of d.kind d.order d.bytes d.state.limits f
  Ok (line tag f found.bytes)

-- the line of the field with this tag number
abbrev pub field_line : Decoding → ℕ → Result (List ℕ) TiffError
field_line d tag = found_line d tag (find_entry d (tag_of tag))

-- a text, and what follows it
abbrev pub after : List ℕ → Result (List ℕ) TiffError → Result (List ℕ) TiffError
after text more = more >>= λ l. Ok (text ++ l)

-- one line after another, or the first error
abbrev pub lines : Decoding → List ℕ → Result (List ℕ) TiffError
lines d [] = Ok []
lines d (tag ∷ tags) = do
  first ← field_line d tag
  after first (lines d tags)

-- the calls that find the fields with these tag numbers
abbrev pub finds : List ℕ → List Call
finds numbers = map (λ n. call.FindTagBuf (tag_of n)) numbers

-- the tag numbers of the directory at a pointer, in ascending order
abbrev pub numbers_at : Decoding → IfdPointer → Result (List ℕ) TiffError
numbers_at d pointer = do
  directory ← (read_directory d pointer).answer
  Ok (map (λ e. e.0) (entries directory.entries))

-- a line for each entry of the directory at a pointer, in ascending order of the tag number; none
-- if there is no pointer
abbrev pub listing_at : Decoding → Option IfdPointer → Result (List ℕ) TiffError
listing_at d None = Ok []
listing_at d (Some pointer) = do
  numbers ← numbers_at d pointer
  lines d numbers

-- the pointer of the directory that was entered last
abbrev pub page_pointer : Decoding → Result (Option IfdPointer) TiffError
page_pointer d = Ok (ifd_pointer d)

-- a line for each entry of the directory that was entered last
abbrev pub listing : Decoding → Result (List ℕ) TiffError
listing d = listing_at d (ifd_pointer d)
