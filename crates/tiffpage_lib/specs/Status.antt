-- The status with which the program ends.
use Rattle.std.specs.Prelude.{◌≡◌, ◌⊎◌, ℕ, ◌≤◌, Bool, true, false, List, [], ◌∷◌, Option, None, Some, Result, Ok, Err, codes, string_bytes}
use Rattle.std.specs.Io.KnownBytes.{Appends}
use Rattle.std.specs.Str.{bytes_eq}
use Rattle.tiff_base.specs.declared.error.TiffError.{TiffError}
use Rattle.tiff_pages.specs.declared.lines.Lines.{Lines}
use Rattle.tiffpage_lib.specs.declared.command.Command.{Command}
use Rattle.tiffpage_lib.specs.declared.failure.Failure.{Failure}
use Rattle.tiffpage_lib.specs.declared.failure.Failure.TheVariants as failure
use Rattle.tiffpage_lib.specs.Commands.{Does}
use Rattle.tiffpage_lib.specs.Words.{AskFor, output_of}

-- the status behind a failure: 2 for lines of standard input that are no calls or jobs, and for a
-- list of jobs without a page; else 1
abbrev pub status_of : Failure → ℕ
status_of (failure.NoCall line) = 2
status_of (failure.NoJob line) = 2
status_of (failure.NoText line) = 2
status_of failure.NoPage = 2
status_of failed = 1

-- Lines are printed: with the status 0 all of them, and nothing was refused; else the status is 1.
-- A stream holds these bytes before and after it, where they are known.
abbrev pub PrintsLines : Lines → Option (List ℕ) → Option (List ℕ) → ℕ → Type 0
PrintsLines lines old new status = (status ≤ 1)
    × (status ≡ 0 → Appends old new (string_bytes lines.text) × (lines.well ≡ true)
    × (lines.end ≡ None))

-- the line of the usage
abbrev pub usage : List ℕ
usage = codes "usage: tiffpage gray|raw|tags|list ..\n"

-- whether an output is standard output
abbrev pub is_stream : Option (List ℕ) → Bool
is_stream None = false
is_stream (Some name) = bytes_eq name (codes "-")

-- O and E are the types of standard output and of standard error, with the bytes that they hold,
-- where these are known
module _ {O E : Type 0} (printed : O → Option (List ℕ)) (contents : E → Option (List ℕ)) where
  -- What is printed of a command, and its status: its lines, on standard output, or on standard
  -- error if standard output has the file of the command; or nothing on standard output.
  abbrev pub Ends : Bool → Result Lines Failure → O → O → E → E → ℕ → Type 0
  Ends false (Ok lines) out new_out err new_err status =
      PrintsLines lines (printed out) (printed new_out) status
  Ends true (Ok lines) out new_out err new_err status =
      (new_out ≡ out) × PrintsLines lines (contents err) (contents new_err) status
  Ends aside (Err failed) out new_out err new_err status =
      (new_out ≡ out) × (status ≡ status_of failed)

  -- No words: the usage is printed on standard output, or that fails.
  abbrev pub PrintsUsage : O → O → E → E → ℕ → Type 0
  PrintsUsage out new_out err new_err status = (status ≤ 1)
      × (status ≡ 0 → Appends (printed out) (printed new_out) usage × (new_err ≡ err))

  -- Words that ask for nothing: the usage is printed on standard error, or that fails.
  abbrev pub RefusesWords : O → O → E → E → ℕ → Type 0
  RefusesWords out new_out err new_err status = (new_out ≡ out)
      × ((status ≡ 1) ⊎ ((status ≡ 2) × Appends (contents err) (contents new_err) usage))

  -- files are those of a type F, whose calls these relations describe; `seen` is a file, of which
  -- parts may be read
  module _ {F : Type 0} (reads : F → List ℕ → Result (List ℕ) TiffError → F → Type 0)
      (writes : F → List ℕ → List ℕ → Result (Unit {0}) TiffError → F → Type 0)
      (appends : F → List ℕ → List ℕ → ℕ → List ℕ → Result (Unit {0}) TiffError → F → Type 0)
      (compares : F → List ℕ → List ℕ → Result Bool TiffError → F → Type 0)
      (measures : F → List ℕ → Result (Option ℕ) TiffError → F → Type 0)
      (reads_part : F → List ℕ → ℕ → ℕ → Result (List ℕ) TiffError → F → Type 0)
      (seen : List ℕ) where
    -- What the words of a command line do with files and with the streams, and the status. Words
    -- that ask for no command, and no words, leave all files.
    abbrev pub Runs : List (List ℕ) → F → F → O → O → E → E → ℕ → Type 0
    Runs [] files new_files out new_out err new_err status = (new_files ≡ files)
        × PrintsUsage out new_out err new_err status
    Runs (word ∷ words) files new_files out new_out err new_err status =
        ((new_files ≡ files) × ((command : Command) → ¬ AskFor (word ∷ words) command)
        × RefusesWords out new_out err new_err status)
        ⊎ ((command : Command) × (outcome : Result Lines Failure) × AskFor (word ∷ words) command
        × Does reads writes appends compares measures reads_part seen command files outcome new_files
        × Ends (is_stream (output_of command)) outcome out new_out err new_err status)
