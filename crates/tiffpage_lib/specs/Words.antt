-- What the words of a command line ask for.
use Rattle.std.specs.Prelude.{◌≡◌, ◌≢◌, ◌⊎◌, ℕ, ◌<◌, ◌^◌, Bool, true, false, List, [], ◌∷◌, Option, None, Some, codes}
use Rattle.std.specs.Str.Parse.{IsNumeral, digits_value, without_leading_plus}
use Rattle.tiff_base.specs.declared.tags.FileKind.{FileKind}
use Rattle.tiff_base.specs.declared.tags.FileKind.TheVariants.{Classic, Big}
use Rattle.tiffpage_lib.specs.declared.command.Command.{Command}
use Rattle.tiffpage_lib.specs.declared.command.Command.TheVariants as command

-- This text is a number of so many bits, in decimal digits; a plus may stand before the first
-- digit.
abbrev pub IsNumber : ℕ → List ℕ → ℕ → Type 0
IsNumber bits text n =
    IsNumeral 10 (without_leading_plus text)
    × (digits_value 10 (without_leading_plus text) < 2 ^ bits)
    × (n ≡ digits_value 10 (without_leading_plus text))

-- These words, behind those of a command, ask for this limit, or for none.
abbrev pub AskForLimit : List (List ℕ) → Option ℕ → Type 0
AskForLimit words None = words ≡ []
AskForLimit words (Some limit) = (count : List ℕ) × (words ≡ codes "--limit" ∷ count ∷ [])
    × IsNumber 64 count limit

-- These words ask for all planes, and behind that for this limit, or for none.
abbrev pub AskForPlanesFirst : List (List ℕ) → Option ℕ → Type 0
AskForPlanesFirst (name ∷ options) limit = (name ≡ codes "--planes") × AskForLimit options limit
AskForPlanesFirst [] limit = ⊥

-- These words ask for this limit, and behind that for all planes.
abbrev pub AskForPlanesLast : List (List ℕ) → Option ℕ → Type 0
AskForPlanesLast (name ∷ count ∷ planes ∷ more) (Some limit) = (name ≡ codes "--limit")
    × IsNumber 64 count limit × (planes ≡ codes "--planes") × (more ≡ [])
AskForPlanesLast _ limit = ⊥

-- These words, behind those of `raw`, ask for all planes or for the first one, and for this limit,
-- or for none. Each option stands at most once, in any order.
abbrev pub AskForPlanes : List (List ℕ) → Bool → Option ℕ → Type 0
AskForPlanes words true limit = AskForPlanesFirst words limit ⊎ AskForPlanesLast words limit
AskForPlanes words false limit = AskForLimit words limit

-- These words ask for the samples of the page with this number of a file, for an output, for all
-- planes or for the first one, and for a limit or none.
abbrev pub AskForSamples : List (List ℕ) → List ℕ → ℕ → List ℕ → Bool → Option ℕ → Type 0
AskForSamples (input ∷ page ∷ output ∷ options) from number to planes limit = (from ≡ input)
    × IsNumber 32 page number × (to ≡ output) × AskForPlanes options planes limit
AskForSamples _ from number to planes limit = ⊥

-- This command is the `raw` that these words ask for.
abbrev pub IsRaw : List (List ℕ) → Command → Type 0
IsRaw words (command.Raw input page output planes limit) =
    AskForSamples words input.now page output.now planes limit
IsRaw words _ = ⊥

-- These words ask for the picture of the page with this number of a file, and for an output.
abbrev pub AskForPicture : List (List ℕ) → List ℕ → ℕ → List ℕ → Type 0
AskForPicture (input ∷ page ∷ output ∷ options) from number to = (from ≡ input)
    × IsNumber 32 page number × (to ≡ output) × (options ≡ [])
AskForPicture _ from number to = ⊥

-- This command is the `view` that these words ask for.
abbrev pub IsView : List (List ℕ) → Command → Type 0
IsView words (command.View input page output) = AskForPicture words input.now page output.now
IsView words _ = ⊥

-- These words ask for the check of a file, and for a limit or none.
abbrev pub AskForCheck : List (List ℕ) → List ℕ → Option ℕ → Type 0
AskForCheck (input ∷ options) from limit = (from ≡ input) × AskForLimit options limit
AskForCheck [] from limit = ⊥

-- This command is the `check` that these words ask for.
abbrev pub IsCheck : List (List ℕ) → Command → Type 0
IsCheck words (command.Check input limit) = AskForCheck words input.now limit
IsCheck words _ = ⊥

-- These words, behind the output of `jobs`, ask for a file of this kind, and for keeping going or
-- not. Each word stands at most once, in any order.
abbrev pub AskForJobs : List (List ℕ) → FileKind → Bool → Type 0
AskForJobs words Classic false = words ≡ []
AskForJobs words Classic true = words ≡ codes "--keep-going" ∷ []
AskForJobs words Big false = words ≡ codes "big" ∷ []
AskForJobs words Big true =
    (words ≡ codes "big" ∷ codes "--keep-going" ∷ [])
    ⊎ (words ≡ codes "--keep-going" ∷ codes "big" ∷ [])

-- These words ask for jobs whose file has this name: the first word is the name.
abbrev pub AskForFile : List (List ℕ) → List ℕ → FileKind → Bool → Type 0
AskForFile (output ∷ options) name kind keep_going = (name ≡ output)
    × AskForJobs options kind keep_going
AskForFile [] name kind keep_going = ⊥

-- This command is the `jobs` that these words ask for.
abbrev pub IsJobs : List (List ℕ) → Command → Type 0
IsJobs words (command.Jobs output kind keep_going) = AskForFile words output.now kind keep_going
IsJobs words _ = ⊥

-- This command is the `list` that these words ask for: the one word is the name of the file.
abbrev pub IsList : List (List ℕ) → Command → Type 0
IsList words (command.List input) = words ≡ input.now ∷ []
IsList words _ = ⊥

-- This command is the `directories` that these words ask for: the one word is the name of the file.
abbrev pub IsDirectories : List (List ℕ) → Command → Type 0
IsDirectories words (command.Directories input) = words ≡ input.now ∷ []
IsDirectories words _ = ⊥

-- This command is the `calls` that these words ask for: the one word is the name of the file.
abbrev pub IsCalls : List (List ℕ) → Command → Type 0
IsCalls words (command.Calls input) = words ≡ input.now ∷ []
IsCalls words _ = ⊥

-- This command is the `append` that these words ask for: the one word is the name of the file,
-- which is no stream.
abbrev pub IsAppend : List (List ℕ) → Command → Type 0
IsAppend words (command.Append file) = (words ≡ file.now ∷ []) × (file.now ≢ codes "-")
IsAppend words _ = ⊥

-- This name asks for the help.
abbrev pub IsHelp : List ℕ → Type 0
IsHelp name = (name ≡ codes "help") ⊎ (name ≡ codes "--help")

-- These words ask for a gray page of an output, with this width and height, and for a file with its
-- samples.
abbrev pub AskForGray : List (List ℕ) → List ℕ → ℕ → ℕ → List ℕ → Type 0
AskForGray (output ∷ columns ∷ rows ∷ input ∷ more) to width height from = (to ≡ output)
    × IsNumber 32 columns width × IsNumber 32 rows height × (from ≡ input) × (more ≡ [])
AskForGray _ to width height from = ⊥

-- This command is the `gray` that these words ask for.
abbrev pub IsGray : List (List ℕ) → Command → Type 0
IsGray words (command.Gray output width height input) =
    AskForGray words output.now width height input.now
IsGray words _ = ⊥

-- These words ask for the entries of the page with this number of a file.
abbrev pub AskForEntries : List (List ℕ) → List ℕ → ℕ → Type 0
AskForEntries (input ∷ page ∷ more) from number = (from ≡ input) × IsNumber 32 page number
    × (more ≡ [])
AskForEntries _ from number = ⊥

-- This command is the `tags` that these words ask for.
abbrev pub IsTags : List (List ℕ) → Command → Type 0
IsTags words (command.Tags input page) = AskForEntries words input.now page
IsTags words _ = ⊥

-- This name, with these words behind it, asks for this command.
abbrev pub IsAsked : List ℕ → List (List ℕ) → Command → Type 0
IsAsked name words (command.Raw input page output planes limit) = (name ≡ codes "raw")
    × IsRaw words (command.Raw input page output planes limit)
IsAsked name words (command.View input page output) = (name ≡ codes "view")
    × IsView words (command.View input page output)
IsAsked name words (command.Check input limit) = (name ≡ codes "check")
    × IsCheck words (command.Check input limit)
IsAsked name words (command.Jobs output kind keep_going) = (name ≡ codes "jobs")
    × IsJobs words (command.Jobs output kind keep_going)
IsAsked name words (command.Gray output width height input) = (name ≡ codes "gray")
    × IsGray words (command.Gray output width height input)
IsAsked name words (command.Tags input page) = (name ≡ codes "tags")
    × IsTags words (command.Tags input page)
IsAsked name words (command.List input) = (name ≡ codes "list")
    × IsList words (command.List input)
IsAsked name words (command.Directories input) = (name ≡ codes "directories")
    × IsDirectories words (command.Directories input)
IsAsked name words (command.Calls input) = (name ≡ codes "calls")
    × IsCalls words (command.Calls input)
IsAsked name words (command.Append file) = (name ≡ codes "append")
    × IsAppend words (command.Append file)
IsAsked name words command.Help = IsHelp name × (words ≡ [])
IsAsked name words command.Version = (name ≡ codes "--version") × (words ≡ [])

-- These words ask for this command.
abbrev pub AskFor : List (List ℕ) → Command → Type 0
AskFor [] command = ⊥
AskFor (name ∷ words) command = IsAsked name words command

-- the name of the file that a command writes, if it writes one
abbrev pub output_of : Command → Option (List ℕ)
output_of (command.Gray output width height input) = Some output.now
output_of (command.Raw input page output planes limit) = Some output.now
output_of (command.View input page output) = Some output.now
output_of (command.Jobs output kind keep_going) = Some output.now
output_of command = None
