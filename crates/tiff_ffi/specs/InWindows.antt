-- Calls on a file of which a caller has windows.
use Rattle.std.specs.FinMap.{get}
use Rattle.std.specs.Prelude.{◌≡◌, ◌⊎◌, ℕ, ◌++◌, List, length, drop, Option, None, Some, Result, Ok}
use Rattle.tiff_base.specs.declared.error.TiffError.{TiffError}
use Rattle.tiff_base.specs.declared.error.TiffError.TheVariants.{FormatError, IoError}
use Rattle.tiff_base.specs.declared.error.TiffFormatError.TheVariants.{RequiredTagNotFound}
use Rattle.tiff_base.specs.declared.io.IoKind.TheVariants.{InvalidInput}
use Rattle.tiff_base.specs.declared.windows.Stretch.{Stretch}
use Rattle.tiff_base.specs.declared.windows.Windows.{Windows}
use Rattle.tiff_base.specs.Answers.{◌>>=◌}
use Rattle.tiff_base.specs.Tags.{tag_of}
use Rattle.tiff_ifd.specs.TagLookup.{ok_or_fault}
use Rattle.tiff_ifd.specs.TagQueries.{part_of_field}
use Rattle.tiff_ffi.specs.declared.entries.TagEntry.{TagEntry}
use Rattle.tiff_ffi.specs.Entries.{counted, entries_told}
use Rattle.tiff_ffi.specs.Plan.{page_directory}
use Rattle.tiff_ffi.specs.Status.{fault_number}
use Rattle.tiff_base.specs.Windows.{IsWanted, behind_windows}

-- the status of a call that wants bytes of the file
abbrev pub bytes_wanted : ℕ
bytes_wanted = 5

-- What a call on windows returns and leaves: windows in disorder are refused, and the call leaves
-- what it leaves if it is refused; else it wants bytes that no window has, and leaves the same; or
-- it tells what the call on the whole file tells.
abbrev pub TellsBy : Option ℕ → Windows → ℕ → Stretch → Type 0 → Type 0 → Type 0
TellsBy None seen status wanted stays told =
    (status ≡ fault_number (IoError InvalidInput)) × stays
TellsBy (Some end) seen status wanted stays told =
    ((status ≡ bytes_wanted) × (IsWanted seen wanted × stays)) ⊎ told

abbrev pub SeenTells : Windows → ℕ → Stretch → Type 0 → Type 0 → Type 0
SeenTells seen = TellsBy (behind_windows seen.len seen.windows.now) seen

-- ---- tags

-- how many entries the directory of a page has, and a slice with as many of them in front as fit;
-- whether the directory is a page isn't asked
unfoldable pub list_tags : List ℕ → ℕ → List TagEntry → Result (ℕ × List TagEntry) TiffError
list_tags file page slice = do
  found ← page_directory file page
  counted (entries_told found.0 found.1 found.2) slice

-- how many bytes there are, and a slice after they were copied into it
abbrev pub copied : Result (List ℕ) TiffError → List ℕ → Result (ℕ × List ℕ) TiffError
copied part slice = part >>= λ bytes. Ok (length bytes, bytes ++ drop (length bytes) slice)

-- the error of a tag that a directory doesn't have
abbrev pub no_tag : ℕ → TiffError
no_tag number = FormatError (RequiredTagNotFound (tag_of number))

-- how many bytes of the values of a tag are copied from the byte `at` on, and a slice after them;
-- whether the directory is a page isn't asked
unfoldable pub tag_bytes : List ℕ → ℕ → ℕ → ℕ → List ℕ → Result (ℕ × List ℕ) TiffError
tag_bytes file page number at slice = do
  found ← page_directory file page
  field ← ok_or_fault (get found.2.entries number) (no_tag number)
  copied (part_of_field found.0 found.1 file field (length slice) at) slice
