-- What each command does with files, and what it returns: its lines, or its failure.
use Rattle.std.specs.Prelude.{◌≡◌, ◌⊎◌, ◌||◌, ℕ, ◌+◌, min, ◌-◌, ◌^◌, Bool, true, false, List, [], Option, None, Some, Result, Ok, Err, MatchResult, codes, map, option_map, string_bytes, take, if◌then◌else◌, ◌==◌}
use Rattle.std.specs.List.{count_by, list_any}
use Rattle.std.specs.Str.{IsUtf8}
use Rattle.std.specs.Str.Lossy.{utf8_valid_len}
use denote.Ref.{Bor}
use Rattle.tiff_base.specs.declared.error.TiffError.{TiffError}
use Rattle.tiff_base.specs.declared.error.TiffError.TheVariants.{OutOfMemory}
use Rattle.tiff_base.specs.declared.tags.FileKind.{FileKind}
use Rattle.tiff.specs.Answers.{AnswersBut, AnswersWithoutSource}
use Rattle.tiff.specs.Machine.{Decoding}
use Rattle.tiff_base.specs.Answers.{IsCause}
use Rattle.tiff_decode.specs.declared.script.Call.{Call}
use Rattle.tiff_decode.specs.declared.script.Reply.{Reply}
use Rattle.tiff_decode.specs.Outcome.{decoder_of}
use Rattle.tiff_decode.specs.Steps.{Ran}
use Rattle.tiff_encode.specs.declared.encoder.script.Job.{Job}
use Rattle.tiff_encode.specs.declared.encoder.script.Job.TheVariants as job
use Rattle.tiff_append.specs.declared.last_link.LastLink.{LastLink}
use Rattle.tiff_append.specs.declared.sink.Addition.{Addition}
use Rattle.tiff_append.specs.LastLink.{last_link}
use Rattle.tiff_script.specs.Jobs.{job_held, jobs_spelled}
use Rattle.tiff_pages.specs.declared.lines.Lines.{Lines}
use Rattle.tiff_uses.specs.GrayFile.{AnswersGray}
use Rattle.tiffpage_lib.specs.declared.command.Command.{Command}
use Rattle.tiffpage_lib.specs.declared.command.Command.TheVariants as command
use Rattle.tiffpage_lib.specs.declared.jobs.Written.{Written}
use Rattle.tiffpage_lib.specs.declared.failure.Failure.{Failure}
use Rattle.tiffpage_lib.specs.declared.failure.Failure.TheVariants as failure
use Rattle.tiffpage_lib.specs.AtPage.{AnswersIn, AnswersUnder, limits_for}
use Rattle.tiffpage_lib.specs.Check.{told_under}
use Rattle.tiffpage_lib.specs.Directories.{told_of_directories}
use Rattle.tiffpage_lib.specs.Files.{Appends, Compares, Makes, Measures, Reads, Then, Writes}
use Rattle.tiffpage_lib.specs.List.{told_of_list}
use Rattle.tiffpage_lib.specs.Listing.{listing}
use Rattle.tiffpage_lib.specs.Parts.{SeesBy}
use Rattle.tiffpage_lib.specs.Samples.{plane_bytes, sample_bytes}
use Rattle.tiffpage_lib.specs.View.{picture}
use Rattle.tiffpage_lib.specs.Wrote.{Wrote, WroteBehind}

-- Lines of this text, with no error behind them, of a command that did all.
abbrev pub AreLines : List ℕ → Lines → Type 0
AreLines text lines =
    (string_bytes lines.text ≡ text) × (lines.end ≡ None) × (lines.well ≡ true)

-- the samples of a page that `raw` writes: of all planes or of the first one
abbrev pub samples_of : Bool → Decoding → Result (List ℕ) TiffError
samples_of true d = plane_bytes d
samples_of false d = sample_bytes d

-- the number, from 1, of the line that goes on behind these bytes
abbrev pub line_after : List ℕ → ℕ
line_after bytes = min (count_by (λ byte. byte == 10) bytes + 1) (2 ^ 64 - 1)

-- whether a job makes a page
abbrev pub is_page : Job → Bool
is_page (job.Image image) = true
is_page (job.Directory directory) = true
is_page other = false

-- Bytes are a text; or the line is refused in which the first other character stands.
abbrev pub AreText : List ℕ → Result (List ℕ) Failure → Type 0
AreText bytes (Ok text) = (text ≡ bytes) × IsUtf8 bytes
AreText bytes (Err e) = (IsUtf8 bytes → ⊥)
    × (e ≡ failure.NoText (line_after (take (utf8_valid_len bytes) bytes)))

-- what jobs leave, and what they write behind a file; or memory is out
abbrev pub AnswersJobs : FileKind → Bool → List Job → Result Written TiffError → Type 0
AnswersJobs kind keep_going jobs answer = MatchResult answer
    (λ written. Wrote kind keep_going jobs (option_map (λ file. file.items) written.file)
    written.lines.well × (written.lines.end ≡ None)) (λ e. e ≡ OutOfMemory)

abbrev pub AnswersBehind : LastLink → List ℕ → List Job
    → Result (Option Addition × Lines) TiffError → Type 0
AnswersBehind place file jobs answer = MatchResult answer
    (λ r. WroteBehind place.kind file place.at jobs r.0 r.1.well × (r.1.end ≡ None))
    (λ e. e ≡ OutOfMemory)

-- A list of calls: some calls; or the number of a line that is none, or memory is out.
abbrev pub AreCalls : Result (List Call) Failure → Type 0
AreCalls (Ok calls) = Unit {0}
AreCalls (Err e) = (e ≡ failure.Tiff OutOfMemory) ⊎ ((line : ℕ) × (e ≡ failure.NoCall line))

-- The jobs that a text spells; or the number of its first line that spells none, or memory is out.
abbrev pub AreJobs : List ℕ → Result (List Job) Failure → Type 0
AreJobs text (Ok jobs) = jobs_spelled text ≡ Ok (map job_held jobs)
AreJobs text (Err e) = (e ≡ failure.Tiff OutOfMemory)
    ⊎ ((line : ℕ) × (jobs_spelled text ≡ Err line) × (e ≡ failure.NoJob line))

-- These replies are made to calls of a file's decoder, which is opened at its first page; or the
-- first error of that.
abbrev pub RepliesTo : List ℕ → List Call → Result (List ℕ) TiffError → Type 0
RepliesTo file calls (Ok text) = (d : Decoding) × (last : Decoding) × (replies : List Reply)
    × (decoder_of file 0 ≡ Ok (record d { readable = None; failures = 0 }))
    × Ran d calls [] replies last
RepliesTo file calls (Err e) =
    IsCause (Unit {0}) (Unit {0}) e (decoder_of file 0 ≡ Err e)

-- the result of asking for a page of a list of jobs
abbrev pub page_or_none : Bool → List Job → Result (Unit {0}) Failure
page_or_none keep_going jobs =
    if keep_going || list_any is_page jobs then Ok tt else Err failure.NoPage

-- ---- steps that leave files alone

module _ {F : Type 0} where
  -- A result that may be given, while files stay.
  abbrev pub Rests : {A : Type 0} → (Result A Failure → Type 0) → F → Result A Failure → F → Type 0
  Rests given old result new = given result × (new ≡ old)

  -- The lines of this text, and no failure.
  abbrev pub Prints : List ℕ → F → Result Lines Failure → F → Type 0
  Prints text = Rests (λ result. MatchResult result (AreLines text) (λ e. ⊥))

  -- The lines of some text, or memory is out.
  abbrev pub PrintsSome : F → Result Lines Failure → F → Type 0
  PrintsSome = Rests (λ result.
      MatchResult result (λ lines. AreLines (string_bytes lines.text) lines)
      (λ e. e ≡ failure.Tiff OutOfMemory))

  -- These lines, and no failure.
  abbrev pub Gives : Lines → F → Result Lines Failure → F → Type 0
  Gives lines = Rests (λ result. result ≡ Ok lines)

-- ---- steps that read; `reads` says what a read may return

module _ {F : Type 0} (reads : F → List ℕ → Result (List ℕ) TiffError → F → Type 0) where
  -- Standard input is read.
  abbrev pub ReadsInput : F → Result (List ℕ) Failure → F → Type 0
  ReadsInput old result new = (name : Bor (List ℕ)) × (name.now ≡ codes "-")
      × Reads reads name old result new

  -- Standard input is read, as a text.
  abbrev pub ReadsText : F → Result (List ℕ) Failure → F → Type 0
  ReadsText = Then ReadsInput (λ bytes. Rests (AreText bytes))

  -- The calls that standard input lists.
  abbrev pub ListsCalls : F → Result (List Call) Failure → F → Type 0
  ListsCalls = Then ReadsText (λ text. Rests AreCalls)

  -- The jobs that standard input lists.
  abbrev pub ListsJobs : F → Result (List Job) Failure → F → Type 0
  ListsJobs = Then ReadsText (λ text. Rests (AreJobs text))

  -- `tags`: the input is read, and the entries of a page printed.
  abbrev pub Tags : Bor (List ℕ) → ℕ → F → Result Lines Failure → F → Type 0
  Tags input page = Then (Reads reads input) (λ file.
      Then (Makes (λ answer. AnswersIn (λ t. t) listing answer file page)) (λ text.
      Prints text))

  -- `list`, and others of a file that is read whole: whether all was done, and how the chain ends,
  -- are given.
  abbrev pub Tells : (List ℕ → Result (Bool × Option TiffError) TiffError) → Bor (List ℕ) → F
      → Result Lines Failure → F → Type 0
  Tells told input = Then (Reads reads input) (λ file.
      Makes (λ answer. AnswersBut (Unit {0}) (Unit {0}) (λ lines. (lines.well, lines.end)) answer
      (told file)))

  -- `calls`: the input is read, then the calls, which are made, and the replies printed.
  abbrev pub Calls : Bor (List ℕ) → F → Result Lines Failure → F → Type 0
  Calls input = Then (Reads reads input) (λ file. Then ListsCalls (λ calls.
      Then (Makes (RepliesTo file calls)) (λ text. Prints text)))

-- ---- steps that read a long file by parts, and another one whole; `measures` and `reads_part` say
-- what its length may be told to be, and what a read of a part may return

module _ {F : Type 0} (reads : F → List ℕ → Result (List ℕ) TiffError → F → Type 0)
    (measures : F → List ℕ → Result (Option ℕ) TiffError → F → Type 0)
    (reads_part : F → List ℕ → ℕ → ℕ → Result (List ℕ) TiffError → F → Type 0)
    (seen : List ℕ) where
  -- Lines of a file, by its length if it is read by parts. What is told by parts is told of this
  -- file, which can be any, if they are its.
  abbrev pub TellsBy : (List ℕ → Result (Bool × Option TiffError) TiffError) → Bor (List ℕ)
      → Option ℕ → F → Result Lines Failure → F → Type 0
  TellsBy told input None = Tells reads told input
  TellsBy told input (Some len) = SeesBy reads_part input len seen (λ answer.
      AnswersWithoutSource (λ lines. (lines.well, lines.end)) answer (told seen))

  -- `directories` and `check`: the length of the input is asked for, and it is read.
  abbrev pub TellsLong : (List ℕ → Result (Bool × Option TiffError) TiffError) → Bor (List ℕ) → F
      → Result Lines Failure → F → Type 0
  TellsLong told input = Then (Measures measures input) (TellsBy told input)

-- ---- steps that write; `writes` says what a write may return

module _ {F : Type 0} (writes : F → List ℕ → List ℕ → Result (Unit {0}) TiffError → F → Type 0)
  where
    -- The output is written, and nothing is printed.
    abbrev pub WritesOutput : Bor (List ℕ) → List ℕ → F → Result Lines Failure → F → Type 0
    WritesOutput output bytes = Then (Writes writes output bytes) (λ done. Prints [])

    -- The file of jobs is written, if there is one, and their lines printed.
    abbrev pub WritesKept : Bor (List ℕ) → Option (List ℕ) → Lines → F → Result Lines Failure → F
        → Type 0
    WritesKept output None lines = Gives lines
    WritesKept output (Some file) lines = Then (Writes writes output file) (λ done. Gives lines)

-- ---- commands that read and write

module _ {F : Type 0} (reads : F → List ℕ → Result (List ℕ) TiffError → F → Type 0)
    (writes : F → List ℕ → List ℕ → Result (Unit {0}) TiffError → F → Type 0) where
  -- `gray`: the input is read, and the file of its samples written.
  abbrev pub Grays : Bor (List ℕ) → ℕ → ℕ → Bor (List ℕ) → F → Result Lines Failure → F → Type 0
  Grays output width height input = Then (Reads reads input) (λ samples.
      Then (Makes (AnswersGray width height samples)) (λ file. WritesOutput writes output file))

  -- `raw`: the input is read, and the samples of a page written.
  abbrev pub Raws : Bor (List ℕ) → ℕ → Bor (List ℕ) → Bool → Option ℕ → F → Result Lines Failure
      → F → Type 0
  Raws input page output planes limit = Then (Reads reads input) (λ file.
      Then (Makes (λ answer.
      AnswersUnder (λ s. s) (samples_of planes) (limits_for limit) answer file page)) (λ samples.
      WritesOutput writes output samples))

  -- `view`: the input is read, then compared with the output, and the picture of a page written.
  abbrev pub Views : (F → List ℕ → List ℕ → Result Bool TiffError → F → Type 0) → Bor (List ℕ) → ℕ
      → Bor (List ℕ) → F → Result Lines Failure → F → Type 0
  Views compares input page output = Then (Reads reads input) (λ file.
      Then (Compares compares input output) (λ other.
      Then (Makes (λ answer. AnswersIn (λ p. p) picture answer file page)) (λ made.
      WritesOutput writes output made)))

  -- `jobs`: the jobs are read and run, and their file is written.
  abbrev pub Jobs : Bor (List ℕ) → FileKind → Bool → F → Result Lines Failure → F → Type 0
  Jobs output kind keep_going = Then (ListsJobs reads) (λ jobs.
      Then (Rests (λ result. result ≡ page_or_none keep_going jobs)) (λ page.
      Then (Makes (AnswersJobs kind keep_going jobs)) (λ written.
      WritesKept writes output (option_map (λ file. file.items) written.file) written.lines)))

-- ---- what is added to a file; `appends` says what an append may return

module _ {F : Type 0} (reads : F → List ℕ → Result (List ℕ) TiffError → F → Type 0)
    (appends : F → List ℕ → List ℕ → ℕ → List ℕ → Result (Unit {0}) TiffError → F → Type 0) where
  -- A file gets what jobs wrote behind it, if there is such, and their lines are printed.
  abbrev pub Adds : Bor (List ℕ) → ℕ → Option Addition → Lines → F → Result Lines Failure → F
      → Type 0
  Adds name at None lines = Gives lines
  Adds name at (Some a) lines = Then (Appends appends name a.more.items at a.link.items) (λ done.
      Gives lines)

  -- `append`: the file is read, then the jobs, which are run behind it.
  abbrev pub AppendsJobs : Bor (List ℕ) → F → Result Lines Failure → F → Type 0
  AppendsJobs name = Then (Reads reads name) (λ file.
      Then (Makes (λ answer. AnswersWithoutSource (λ l. l) answer (last_link file))) (λ place.
      Then (ListsJobs reads) (λ jobs.
      Then (Rests (λ result. result ≡ page_or_none false jobs)) (λ page.
      Then (Makes (AnswersBehind place file jobs)) (λ r. Adds name place.at r.0 r.1)))))

-- ---- all commands

module _ {F : Type 0} (reads : F → List ℕ → Result (List ℕ) TiffError → F → Type 0)
    (writes : F → List ℕ → List ℕ → Result (Unit {0}) TiffError → F → Type 0)
    (appends : F → List ℕ → List ℕ → ℕ → List ℕ → Result (Unit {0}) TiffError → F → Type 0)
    (compares : F → List ℕ → List ℕ → Result Bool TiffError → F → Type 0)
    (measures : F → List ℕ → Result (Option ℕ) TiffError → F → Type 0)
    (reads_part : F → List ℕ → ℕ → ℕ → Result (List ℕ) TiffError → F → Type 0)
    (seen : List ℕ) where
  -- What a command does with files, and what it returns.
  abbrev pub Does : Command → F → Result Lines Failure → F → Type 0
  Does (command.Gray output width height input) = Grays reads writes output width height input
  Does (command.Raw input page output planes limit) =
      Raws reads writes input page output planes limit
  Does (command.View input page output) = Views reads writes compares input page output
  Does (command.Tags input page) = Tags reads input page
  Does (command.List input) = Tells reads told_of_list input
  Does (command.Directories input) =
      TellsLong reads measures reads_part seen told_of_directories input
  Does (command.Check input limit) =
      TellsLong reads measures reads_part seen (told_under (limits_for limit)) input
  Does (command.Calls input) = Calls reads input
  Does (command.Jobs output kind keep_going) = Jobs reads writes output kind keep_going
  Does (command.Append file) = AppendsJobs reads appends file
  Does command.Help = PrintsSome
  Does command.Version = PrintsSome
