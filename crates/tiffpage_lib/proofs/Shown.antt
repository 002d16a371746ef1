-- Calls of a decoder at a page, one after another.
use Rattle.std.proofs.Common.{◌≡◌, ℕ, Result, Ok, Err, ap, ◌∙◌, subst}
use Rattle.tiff_base.specs.declared.error.TiffError.{TiffError}
use Rattle.tiff.specs.lemmas.Causes.{cause_along}
use Rattle.tiff.specs.Answers.{◌>>=◌, Answers}
use Rattle.tiff.specs.Machine.{Decoding, FollowsWithoutSourceBut, stays}
use Rattle.tiff_pages.specs.Check.{ReadsPage}

-- What a call that reads nothing follows is a read of the page.
pub tells_page : {X Y : Type 0} (wanting : Type 0) (view : X → Y) (a : Result Y TiffError)
    (r : Result X TiffError) (d new : Decoding)
    → FollowsWithoutSourceBut wanting view (stays d a) r d new → ReadsPage view a r d new
tells_page wanting view a (Ok x) d new h =
    record { answer = h.0; stays = λ k. h.1; readable = ap (λ (e : Decoding). e.readable) h.1 }
tells_page wanting view a (Err e) d new h =
    record { answer = cause_along e (λ w. tt) (λ f. absurd f) (λ g. g) h.0; stays = λ k. h.1; readable = ap (λ (x : Decoding). x.readable) h.1 }

also : {X Y Y' : Type 0} (view : X → Y') (a : Result Y TiffError) (f : Y → Result Y' TiffError)
    (y : Y) (r : Result X TiffError) (m n : ℕ)
    → a ≡ Ok y → Answers view r (f y) m n → Answers view r (a >>= f) m n
also view a f y (Ok x) m n e h = ap (λ t. t >>= f) e ∙ h
also view a f y (Err x) m n e h = cause_along x (λ w. w) (λ g. g) (λ g. ap (λ t. t >>= f) e ∙ g) h

-- What follows a call reads the page too.
pub reads_more : {X X' Y Y' : Type 0} (view : X → Y) (view' : X' → Y') (a : Result Y TiffError)
    (g : Decoding → Y → Result Y' TiffError) (x : X) (r : Result X' TiffError)
    (d mid new : Decoding) → ReadsPage view a (Ok x) d mid
    → ReadsPage view' (g mid (view x)) r mid new → ReadsPage view' (a >>= g d) r d new
reads_more view view' a g x r d mid new h t =
    let P : Decoding → Type 0 = λ m. ReadsPage view' (g m (view x)) r m new in
    let then = subst P (h.stays tt) t in
    record {
      answer = also view' a (g d) (view x) r d.failures new.failures h.answer then.answer;
      stays = then.stays;
      readable = then.readable;
    }
