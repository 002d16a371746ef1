-- Pages that C passes behind a file that is there: what the library writes, and what C gets.
use Rattle.std.specs.Prelude.{◌≡◌, ◌⊎◌, ℕ, ◌==◌, List, [], length, if◌then◌else◌, Result, Ok, Err}
use Rattle.std.specs.declared.alloc.Global.{Global}
use Rattle.std.specs.declared.vec.Vec.{Vec}
use Rattle.tiff_base.specs.declared.error.TiffError.{TiffError}
use Rattle.tiff_base.specs.declared.error.TiffError.TheVariants.{OutOfMemory}
use Rattle.tiff_base.specs.declared.tags.ByteOrder.TheVariants.{LittleEndian}
use Rattle.tiff_base.specs.declared.tags.FileKind.{FileKind}
use Rattle.tiff_base.specs.Directory.{offset_width}
use Rattle.tiff_base.specs.Number.{number}
use Rattle.tiff_encode.specs.declared.encoder.script.JobReply.{JobReply}
use Rattle.tiff_value.specs.FileBytes.{offset_len}
use Rattle.tiff_append.specs.declared.last_link.LastLink.{LastLink}
use Rattle.tiff_append.specs.Behind.{RunsAt, added_to}
use Rattle.tiff_append.specs.LastLink.{last_link}
use Rattle.tiff_ffi.specs.declared.appended.Appended.{Appended}
use Rattle.tiff_ffi.specs.declared.appended.BehindFile.{BehindFile}
use Rattle.tiff_ffi.specs.declared.pages.NewPage.{NewPage}
use Rattle.tiff_ffi.specs.declared.pages.PagesAnswer.{PagesAnswer}
use Rattle.tiff_ffi.specs.declared.pages.PagesAnswer.TheVariants.{Refused, Ran}
use Rattle.tiff_ffi.specs.declared.pages.PagesEnd.{PagesEnd}
use Rattle.tiff_ffi.specs.declared.pages.PagesJobs.{PagesJobs}
use Rattle.tiff_ffi.specs.declared.pages.WrittenPages.{WrittenPages}
use Rattle.tiff_ffi.specs.Pages.{LeftPages, PagesGoOn, RefusesPages, TellsPages, jobs_of_pages, no_page, pages_view, refused_in}
use Rattle.tiff_ffi.specs.Status.{fault_number}

-- ---- what is written

-- The jobs of the pages in the chain are run with an encoder that goes on behind a file at its last
-- link, at q, and then the other pages, whose links are behind the file.
pub record RanBehind (kind : FileKind) (file : List ℕ) (q : ℕ) (pages : PagesJobs)
    (outcome : Result LeftPages TiffError) : Type 0 where
  pub left : List ℕ
  pub replies : List JobReply
  pub runs : RunsAt kind file q pages.chain.items [] replies left
  pub goes_on : PagesGoOn kind (length file) q pages left
      (refused_in pages.numbers.items pages.chain.items replies) outcome

-- The bytes over the last link and behind the file, with the page that was refused, are an outcome
-- of the pages; or memory is out, or the pages end by an error.
abbrev pub EndsBehind : FileKind → List ℕ → ℕ → PagesJobs
    → Result (Vec ℕ Global × WrittenPages) TiffError → Type 0
EndsBehind kind file q pages (Ok (link, more)) = (length link.items ≡ offset_len kind)
    × RanBehind kind file q pages (Ok (added_to file q link.items more.file.items, more.refused))
EndsBehind kind file q pages (Err e) = (e ≡ OutOfMemory) ⊎ RanBehind kind file q pages (Err e)

-- The jobs of the pages were run behind a file.
abbrev pub RunsBehind : FileKind → List ℕ → ℕ → List NewPage → Result LeftPages TiffError → Type 0
RunsBehind kind file q pages outcome = (jobs : PagesJobs)
    × ((jobs_of_pages kind pages ≡ Ok (pages_view jobs)) × RanBehind kind file q jobs outcome)

-- The jobs of the pages were run behind a file: they leave it with these bytes over its last link,
-- which are the number `target`, and more bytes behind it. Or a page was refused, and no job was
-- run.
abbrev pub AnswersBehind : FileKind → List ℕ → ℕ → List NewPage → Result (ℕ × PagesAnswer) TiffError
    → Type 0
AnswersBehind kind file q pages (Ok (target, Ran ran)) = (link : List ℕ)
    × ((length link ≡ offset_len kind)
    × ((target ≡ number LittleEndian (offset_width kind) link)
    × RunsBehind kind file q pages (Ok (added_to file q link ran.file.items, ran.refused))))
AnswersBehind kind file q pages (Ok (target, Refused page refusal)) =
    RefusesPages kind pages page refusal
AnswersBehind kind file q pages (Err e) = (e ≡ OutOfMemory) ⊎ RunsBehind kind file q pages (Err e)

-- the answer to pages behind a file: behind its last link; or the error of the file, or out of
-- memory
abbrev pub AnswersAppend : List ℕ → List NewPage → Result BehindFile TiffError → Type 0
AnswersAppend file pages (Ok b) = (last_link file ≡ Ok b.place)
    × AnswersBehind b.place.kind file b.place.at pages (Ok (b.target, b.pages))
AnswersAppend file pages (Err e) = (e ≡ OutOfMemory) ⊎ ((last_link file ≡ Err e)
    ⊎ ((place : LastLink) × ((last_link file ≡ Ok place)
    × AnswersBehind place.kind file place.at pages (Err e))))

-- ---- what C gets

-- nothing, but for where a list of pages was refused
abbrev pub refused_at : ℕ → PagesEnd → Appended
refused_at len end = record { len = len; link = 0; target = 0; width = 0; end = end }

-- how many bytes are behind a file, and its last link with the number that it gets, unless a page
-- was refused
abbrev pub appended_to : LastLink → ℕ → ℕ → PagesEnd → Appended
appended_to place target len end =
    if end.page == 0
    then record { len = len; link = place.at; target = target; width = offset_len place.kind; end = end }
    else refused_at len end

-- The bytes behind the file are delivered as the file of `tiff_write_pages` is; so are refusals.
abbrev pub TellsAppended : Result BehindFile TiffError → ℕ → List ℕ → List ℕ → Appended → Type 0
TellsAppended (Ok b) status old new appended = (len : ℕ) × ((end : PagesEnd)
    × (TellsPages (Ok b.pages) status old new 0 len end
    × (appended ≡ appended_to b.place b.target len end)))
TellsAppended (Err e) status old new appended = (status ≡ fault_number e)
    × ((new ≡ old) × (appended ≡ refused_at 0 no_page))

-- the status, the buffer and what C gets for pages behind a file
abbrev pub AppendTells : List ℕ → List NewPage → ℕ → List ℕ → List ℕ → Appended → Type 0
AppendTells file pages status old new appended = (answer : Result BehindFile TiffError)
    × (AnswersAppend file pages answer × TellsAppended answer status old new appended)
