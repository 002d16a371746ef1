-- Reads of a page: what a call that reads pixels leaves, and what follows it.
use Rattle.std.proofs.Common.{◌≡◌, ℕ, Result, Ok, Err, ap, ◌∙◌}
use Rattle.tiff_base.specs.declared.error.TiffError.{TiffError}
use Rattle.tiff_base.specs.Answers.{◌>>=◌, Answers, AnswersWithoutSource}
use Rattle.tiff_base.specs.lemmas.Causes.{cause_along, from_cause}
use Rattle.tiff_decode.specs.Machine.{Decoding, Follows, stays}
use Rattle.tiff_pages.specs.Check.{ReadsPage}

-- What a call that reads pixels follows is a read of the page.
pub reads_page : {X Y : Type 0} (view : X → Y) (a : Result Y TiffError) (r : Result X TiffError)
    (d new : Decoding) → Follows view (stays d a) r d new → ReadsPage view a r d new
reads_page view a (Ok x) d new h =
    record { answer = h.answer; stays = λ k. h.at; readable = ap (λ (e : Decoding). e.readable) h.at }
reads_page view a (Err e) d new h = record {
  answer = cause_along e (λ w. tt) (λ f. f.grew) (λ g. g.answer) h;
  stays = λ k. (h.other k).at;
  readable =
      from_cause e (λ w. ap (λ (d : Decoding). d.readable) w.1)
      (λ f. ap (λ (d : Decoding). d.readable) f.at.stands) (λ g. ap (λ (d : Decoding). d.readable) g.at) h;
}

-- An error of a read is the error of what follows it.
pub read_refused : {X X' Y Y' : Type 0} (view : X → Y) (view' : X' → Y') (a : Result Y TiffError)
    (f : Y → Result Y' TiffError) (e : TiffError) (d new : Decoding)
    → ReadsPage {X = X} view a (Err e) d new → ReadsPage {X = X'} view' (a >>= f) (Err e) d new
read_refused view view' a f e d new h = record {
  answer = cause_along e (λ w. w) (λ x. x) (λ g. ap (λ r. r >>= f) g) h.answer;
  stays = h.stays;
  readable = h.readable;
}

then_answers : {X Y : Type 0} (view : X → Y) (r : Result X TiffError)
    (given given' : Result Y TiffError) (m n : ℕ) → given' ≡ given
    → AnswersWithoutSource view r given → Answers view r given' m n
then_answers view (Ok x) given given' m n e h = e ∙ h
then_answers view (Err x) given given' m n e h =
    cause_along x (λ w. w) (λ f. absurd f) (λ g. e ∙ g) h

-- A read, and behind it a result that reads nothing more.
pub read_then : {X X' Y Y' : Type 0} (view : X → Y) (view' : X' → Y') (a : Result Y TiffError)
    (f : Y → Result Y' TiffError) (x : X) (r : Result X' TiffError) (d new : Decoding)
    → ReadsPage view a (Ok x) d new → AnswersWithoutSource view' r (f (view x))
    → ReadsPage view' (a >>= f) r d new
read_then view view' a f x r d new h t = record {
  answer =
      then_answers view' r (f (view x)) (a >>= f) d.failures new.failures (ap (λ y. y
      >>= f) h.answer) t;
  stays = λ k. h.stays tt;
  readable = h.readable;
}
