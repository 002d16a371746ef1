-- Pages whose jobs were made and run.
use Rattle.std.proofs.Common.{◌≡◌, ◌⊎◌, inl, inr, ℕ, List, Option, Result, Ok, Err, ap, length, subst}
use Rattle.std.specs.Result.{IsErrAnd}
use Rattle.tiff_base.specs.declared.error.TiffError.{TiffError}
use Rattle.tiff_base.specs.declared.error.TiffError.TheVariants.{OutOfMemory}
use Rattle.tiff_base.specs.declared.tags.ByteOrder.TheVariants.{LittleEndian}
use Rattle.tiff_base.specs.declared.tags.FileKind.{FileKind}
use Rattle.tiff_base.specs.Directory.{offset_width}
use Rattle.tiff_base.specs.Number.{number}
use Rattle.tiff_value.specs.FileBytes.{offset_len}
use Rattle.tiff_value.specs.Model.{header_link}
use Rattle.tiff_append.specs.Behind.{added_to}
use Rattle.tiff_append.specs.LastLink.{last_link}
use Rattle.tiff_append.specs.declared.last_link.LastLink.{LastLink}
use Rattle.tiff_ffi.specs.declared.pages.NewPage.{NewPage}
use Rattle.tiff_ffi.specs.declared.pages.PagesAnswer.TheVariants.{Ran}
use Rattle.tiff_ffi.specs.declared.pages.PagesJobs.{PagesJobs}
use Rattle.tiff_ffi.specs.declared.pages.RefusedPage.{RefusedPage}
use Rattle.tiff_ffi.specs.declared.pages.WrittenPages.{WrittenPages}
use Rattle.tiff_ffi.specs.Appended.{AnswersAppend, AnswersBehind, RanBehind, RunsBehind}
use Rattle.tiff_ffi.specs.Jobs.{RanJobs}
use Rattle.tiff_ffi.specs.Pages.{LeftPages, PagesGoOn, RanPages, RunsPages, jobs_of_pages, pages_view, refused_page}

-- a result that is some error is that error
pub is_error : {X : Type 0} (e : TiffError) (result : Result X TiffError)
    → IsErrAnd result (λ d. d ≡ e) → result ≡ Err e
is_error e (Ok x) h = absurd h
is_error e (Err d) h = ap (λ (x : TiffError). Err x) h

-- ---- in a new file

module _ (kind : FileKind) (pages : PagesJobs) (file : List ℕ) (refused : Option (ℕ × ℕ))
    (step : Option ℕ) (page : Option RefusedPage)
    (ran : RanJobs kind pages.chain.items file refused step) (is : page ≡ refused_page pages.numbers.items pages.chain.items refused step) where
  -- The jobs of the chain were run, and the other pages behind them.
  pub pages_ran : (outcome : Result LeftPages TiffError)
      → PagesGoOn kind 0 (header_link kind) pages file page outcome → RanPages kind pages outcome
  pages_ran outcome goes_on =
      let Page : Option RefusedPage → Type 0 =
      λ p. PagesGoOn kind 0 (header_link kind) pages file p outcome in
      record { file = file; refused = refused; step = step; ran = ran; goes_on = subst Page is goes_on }

  pub pages_fail : (e : TiffError)
      → (e ≡ OutOfMemory) ⊎ PagesGoOn kind 0 (header_link kind) pages file page (Err e)
      → (e ≡ OutOfMemory) ⊎ RanPages kind pages (Err e)
  pages_fail e (inl out) = inl out
  pages_fail e (inr goes_on) = inr (pages_ran (Err e) goes_on)

module _ (kind : FileKind) (pages : List NewPage) (jobs : PagesJobs)
    (made : jobs_of_pages kind pages ≡ Ok (pages_view jobs)) where
  -- The jobs are those of these pages.
  pub jobs_ran : (outcome : Result LeftPages TiffError) → RanPages kind jobs outcome
      → RunsPages kind pages outcome
  jobs_ran outcome ran = (jobs, (made, ran))

  pub jobs_fail : (e : TiffError) → (e ≡ OutOfMemory) ⊎ RanPages kind jobs (Err e)
      → (e ≡ OutOfMemory) ⊎ RunsPages kind pages (Err e)
  jobs_fail e (inl out) = inl out
  jobs_fail e (inr ran) = inr (jobs_ran (Err e) ran)

  -- ---- behind a file

  module _ (file : List ℕ) (q : ℕ) where
    pub behind_answered : (target : ℕ) (link : List ℕ) (ran : WrittenPages)
        → target ≡ number LittleEndian (offset_width kind) link
        → (length link ≡ offset_len kind)
        × RanBehind kind file q jobs (Ok (added_to file q link ran.file.items, ran.refused))
        → AnswersBehind kind file q pages (Ok (target, Ran ran))
    behind_answered target link ran is ends = (link, (ends.0, (is, (jobs, (made, ends.1)))))

    pub behind_fails : (e : TiffError) → (e ≡ OutOfMemory) ⊎ RanBehind kind file q jobs (Err e)
        → (e ≡ OutOfMemory) ⊎ RunsBehind kind file q pages (Err e)
    behind_fails e (inl out) = inl out
    behind_fails e (inr ran) = inr (jobs, (made, ran))

-- The jobs end by an error behind the last link of a file.
pub append_fails : (file : List ℕ) (pages : List NewPage) (place : LastLink) (e : TiffError)
    → last_link file ≡ Ok place
    → AnswersBehind place.kind file place.at pages (Err e) → AnswersAppend file pages (Err e)
append_fails file pages place e is fails = inr (inr (place, (is, fails)))
