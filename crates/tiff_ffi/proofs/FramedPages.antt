-- A file of pages that is written around their samples.
use Rattle.std.proofs.Common.{◌≡◌, ℕ, ◌⊎◌, inl, inr, List, [], Bor, Option, None, Some, Result, Ok, Err, length, map, take, min, refl, subst, sym, ap, ◌∙◌}
use Rattle.std.proofs.lemmas.List.{take_min}
use Rattle.std.proofs.lemmas.Simd.{map-map}
use Rattle.tiff_base.specs.declared.error.TiffError.{TiffError}
use Rattle.tiff_base.specs.declared.tags.FileKind.{FileKind}
use Rattle.tiff_value.specs.Model.{header_link}
use Rattle.tiff_ffi.specs.declared.pages_around.FramedAnswer.{FramedAnswer}
use Rattle.tiff_ffi.specs.declared.pages_around.FramedAnswer.TheVariants.{Ran, Refused}
use Rattle.tiff_ffi.specs.declared.pages_around.FramedPages.{FramedPages}
use Rattle.tiff_ffi.specs.declared.pages.NewPage.{NewPage}
use Rattle.tiff_ffi.specs.declared.pages.PagesEnd.{PagesEnd}
use Rattle.tiff_ffi.specs.declared.pages.PagesJobs.{PagesJobs}
use Rattle.tiff_ffi.specs.declared.pages.RefusedPage.{RefusedPage}
use Rattle.tiff_ffi.specs.Jobs.{RanJobs}
use Rattle.tiff_ffi.specs.Pages.{GoesOn, LeftPages, PagesGoOn, RanPages, jobs_of_pages, pages_view, refused_page}
use Rattle.tiff_ffi.specs.PagesFrame.{AnswersFramed, AnswersKind, EndsFramed, HasRoom, PagesFrameTells, Results, TellsFrame, TellsFramed, samples_in}
use Rattle.tiff_ffi.specs.Spliced.{spliced}
use Rattle.tiff_ffi.specs.Writer.{Puts, kind_of}
use Rattle.tiff_ffi.proofs.PagesRan.{pages_ran}

-- ---- samples

-- the samples of the first pages, as they are lent
pub first_samples : (most : ℕ) (pages : List NewPage) (items : List (Bor (List ℕ)))
    → items ≡ map (λ p. p.samples) (take (min most (length pages)) pages)
    → map (λ s. s.now) items ≡ samples_in most pages
first_samples most pages items is =
    ap (map (λ s. s.now)) is
    ∙ (ap (λ l. map (λ s. s.now) (map (λ p. p.samples) l)) (take_min most pages)
    ∙ map-map (λ s. s.now) (λ p. p.samples) (take most pages))

-- ---- pages are run

module _ (kind : FileKind) (pages : PagesJobs) (alone : pages.children.items ≡ []) where
  -- no page is run behind those of the chain
  ends_alone : (q : ℕ) (file : List ℕ) (page : Option RefusedPage)
      → PagesGoOn kind 0 q pages file page (Ok (file, page))
  ends_alone q file (Some page) = refl
  ends_alone q file None =
      let outcome : Result LeftPages TiffError = Ok (file, None) in
      subst (λ children. GoesOn kind 0 q pages.numbers.items children file outcome) (sym alone) refl

  -- The jobs of the chain left bytes that a frame and samples are.
  pub chain_framed : (contents : List ℕ) (refused : Option (ℕ × ℕ)) (step : Option ℕ)
      (page : Option RefusedPage) → RanJobs kind pages.chain.items contents refused step
      → page ≡ refused_page pages.numbers.items pages.chain.items refused step
      → (around fronts : List ℕ) (samples : List (List ℕ)) → contents ≡ spliced around fronts samples
      → (let outcome : Result LeftPages TiffError = Ok (spliced around fronts samples, page) in
      RanPages kind pages outcome)
  chain_framed contents refused step page ran is around fronts samples whole =
      let Left : List ℕ → Type 0 =
      λ file. (let outcome : Result LeftPages TiffError = Ok (file, page) in
      RanPages kind pages outcome) in
      let outcome : Result LeftPages TiffError = Ok (contents, page) in
      let all : RanPages kind pages outcome =
      pages_ran kind pages contents refused step page ran is outcome
      (ends_alone (header_link kind) contents page) in
      subst Left whole all

module _ (kind : FileKind) (pages : List NewPage) (jobs : PagesJobs)
    (made : jobs_of_pages kind pages ≡ Ok (pages_view jobs)) (most : ℕ) where
  -- The jobs are those of these pages.
  pub framed_ran : (framed : FramedPages) → EndsFramed (RanPages kind jobs) most pages (Ok framed)
      → AnswersFramed kind most pages (Ok (Ran framed))
  framed_ran framed ran = (ran.0, (jobs, (made, ran.1)))

  pub framed_fails : (e : TiffError) → EndsFramed (RanPages kind jobs) most pages (Err e)
      → AnswersFramed kind most pages (Err e)
  framed_fails e (inl out) = inl out
  framed_fails e (inr ran) = inr (jobs, (made, ran))

-- ---- what C gets

-- The frame of an answer has places for its fronts.
pub has_room : (kind : Option FileKind) (most : ℕ) (pages : List NewPage)
    (answer : Result FramedAnswer TiffError) → AnswersKind kind most pages answer
    → HasRoom most answer
has_room None most pages (Ok (Ran f)) h = absurd cc
has_room None most pages (Ok (Refused page refusal)) h = tt
has_room None most pages (Err e) h = tt
has_room (Some kind) most pages (Ok (Ran f)) h = h.0
has_room (Some kind) most pages (Ok (Refused page refusal)) h = tt
has_room (Some kind) most pages (Err e) h = tt

-- What C gets for pages around whose samples a file is written.
pub told_frame : (version : ℕ) (pages : List NewPage) (answer : Result FramedAnswer TiffError)
    (status : ℕ) (old new : Results) (end : PagesEnd)
    → AnswersKind (kind_of version) (length old.fronts) pages answer
    → TellsFramed answer status old new end → PagesFrameTells version pages status old new end
told_frame version pages answer status old new end a t = (answer, (a, t))

kept_put : (around : List ℕ) (status : ℕ) (old new : List ℕ) → Puts around status old new
    → (status ≡ 0) ⊎ (new ≡ old)
kept_put around status old new (inl put) = inl put.1.0
kept_put around status old new (inr short) = inr short.1.1

kept_of : (f : FramedPages) (page : Option RefusedPage) (status : ℕ) (old new : Results)
    (end : PagesEnd) → TellsFrame f page status old new end
    → (status ≡ 0) ⊎ (new.buffer ≡ old.buffer)
kept_of f None status old new end t = kept_put f.around.items status old.buffer new.buffer t.0.buffer
kept_of f (Some page) status old new end t = inr (ap (λ r. r.buffer) t.1.0)

pub kept_frame : (answer : Result FramedAnswer TiffError) (status : ℕ) (old new : Results)
    (end : PagesEnd) → TellsFramed answer status old new end
    → (status ≡ 0) ⊎ (new.buffer ≡ old.buffer)
kept_frame (Ok (Ran f)) status old new end t = kept_of f f.refused status old new end t
kept_frame (Ok (Refused page refusal)) status old new end t = inr (ap (λ r. r.buffer) t.1.0)
kept_frame (Err e) status old new end t = inr (ap (λ r. r.buffer) t.1.0)
