-- A file of pages around samples that the caller has.
use Rattle.std.specs.Prelude.{◌≡◌, ◌⊎◌, ℕ, ◌≤◌, List, ◌++◌, length, map, take, drop, Option, None, Some, Result, Ok, Err}
use Rattle.tiff_base.specs.declared.error.TiffError.{TiffError}
use Rattle.tiff_base.specs.declared.error.TiffError.TheVariants.{FormatError, OutOfMemory}
use Rattle.tiff_base.specs.declared.error.TiffFormatError.TheVariants.{TiffSignatureInvalid}
use Rattle.tiff_base.specs.declared.tags.FileKind.{FileKind}
use Rattle.tiff_ffi.specs.declared.pages_around.FramedAnswer.{FramedAnswer}
use Rattle.tiff_ffi.specs.declared.pages_around.FramedAnswer.TheVariants.{Ran, Refused}
use Rattle.tiff_ffi.specs.declared.pages_around.FramedPages.{FramedPages}
use Rattle.tiff_ffi.specs.declared.pages_around.PagesLengths.{PagesLengths}
use Rattle.tiff_ffi.specs.declared.pages.NewPage.{NewPage}
use Rattle.tiff_ffi.specs.declared.pages.PagesEnd.{PagesEnd}
use Rattle.tiff_ffi.specs.declared.pages.RefusedPage.{RefusedPage}
use Rattle.tiff_ffi.specs.Pages.{LeftPages, RefusesPages, RunsPages, field_number, no_page}
use Rattle.tiff_ffi.specs.Spliced.{spliced}
use Rattle.tiff_ffi.specs.Status.{fault_number}
use Rattle.tiff_ffi.specs.Writer.{Puts, kind_of}

-- ---- a file and its frame

-- the samples of so many of the first pages
abbrev pub samples_in : ℕ → List NewPage → List (List ℕ)
samples_in most pages = map (λ p. p.samples.now) (take most pages)

-- the file of a frame around the samples of so many of the first pages, and the page that was
-- refused
abbrev pub framed_file : ℕ → List NewPage → FramedPages → LeftPages
framed_file most pages f =
    (spliced f.around.items f.fronts.items (samples_in most pages), f.refused)

-- ---- pages are run

-- The answer of a call whose file has a frame, which has at most so many fronts, unless memory is
-- out.
abbrev pub EndsFramed : (Result LeftPages TiffError → Type 0) → ℕ → List NewPage
    → Result FramedPages TiffError → Type 0
EndsFramed Ends most pages (Ok f) =
    (length f.fronts.items ≤ most) × Ends (Ok (framed_file most pages f))
EndsFramed Ends most pages (Err e) = (e ≡ OutOfMemory) ⊎ Ends (Err e)

-- The jobs of the pages were run, or a page was refused, and no job was run. An error is that of
-- memory, or of a parent's directory that can't be read, which no clause excludes.
abbrev pub AnswersFramed : FileKind → ℕ → List NewPage → Result FramedAnswer TiffError → Type 0
AnswersFramed kind most pages (Ok (Ran f)) = EndsFramed (RunsPages kind pages) most pages (Ok f)
AnswersFramed kind most pages (Ok (Refused page refusal)) = RefusesPages kind pages page refusal
AnswersFramed kind most pages (Err e) = EndsFramed (RunsPages kind pages) most pages (Err e)

-- the answer to pages for a file of this kind; without a kind, the version is an error
abbrev pub AnswersKind : Option FileKind → ℕ → List NewPage → Result FramedAnswer TiffError → Type 0
AnswersKind None most pages answer = answer ≡ Err (FormatError TiffSignatureInvalid)
AnswersKind (Some kind) most pages answer = AnswersFramed kind most pages answer

-- A frame has at most so many fronts.
abbrev pub HasRoom : ℕ → Result FramedAnswer TiffError → Type 0
HasRoom most (Ok (Ran f)) = length f.fronts.items ≤ most
HasRoom most _ = Unit {0}

-- ---- what C gets

-- what a call has for its results: a buffer, fronts, lengths
pub record Results : Type 0 where
  pub buffer : List ℕ
  pub fronts : List ℕ
  pub lengths : PagesLengths

-- The frame of a file is put at the front of a buffer if it fits, and its fronts at the front of
-- those of the caller; the rest of both stays. The lengths are told whether it fits or not.
pub record PutsFrame (f : FramedPages) (status : ℕ) (old new : Results) : Type 0 where
  pub around : new.lengths.around ≡ length f.around.items
  pub framed : new.lengths.framed ≡ length f.fronts.items
  pub fronts : new.fronts ≡ f.fronts.items ++ drop (length f.fronts.items) old.fronts
  pub buffer : Puts f.around.items status old.buffer new.buffer

-- The frame is put if no page was refused; else C gets the status, and the page with its field.
abbrev pub TellsFrame : FramedPages → Option RefusedPage → ℕ → Results → Results → PagesEnd
    → Type 0
TellsFrame f None status old new end = PutsFrame f status old new × (end ≡ no_page)
TellsFrame f (Some page) status old new end = (status ≡ page.status)
    × ((new ≡ old) × (end ≡ record { page = page.page; field = field_number page.field }))

-- A page that is refused before any is written is told with its field and the number of the error.
abbrev pub TellsFramed : Result FramedAnswer TiffError → ℕ → Results → Results → PagesEnd → Type 0
TellsFramed (Ok (Ran f)) status old new end = TellsFrame f f.refused status old new end
TellsFramed (Ok (Refused page refusal)) status old new end =
    (status ≡ fault_number refusal.fault)
    × ((new ≡ old) × (end ≡ record { page = page; field = field_number refusal.field }))
TellsFramed (Err e) status old new end =
    (status ≡ fault_number e) × ((new ≡ old) × (end ≡ no_page))

-- the status, the results and the end that C gets for pages and the version in the header of their
-- file: there may be as many fronts as there are numbers for them
abbrev pub PagesFrameTells : ℕ → List NewPage → ℕ → Results → Results → PagesEnd → Type 0
PagesFrameTells version pages status old new end =
    (answer : Result FramedAnswer TiffError)
    × (AnswersKind (kind_of version) (length old.fronts) pages answer
    × TellsFramed answer status old new end)
