-- What a walk along the pages keeps.
use Rattle.std.proofs.Common.{◌≡◌, ℕ, zero, suc, Bool, true, false, cond, Option, None, Some, Result, Ok, Err, refl, ap, ◌∙◌, ⊎_elim}
use Rattle.std.specs.List.{slice_get}
use Rattle.tiff_base.specs.declared.error.TiffError.{TiffError}
use Rattle.tiff_base.specs.Directory.{directory_at}
use Rattle.tiff_base.specs.Field.{DirectoryRecord}
use Rattle.tiff_ifd.specs.declared.limits.Limits.{Limits}
use Rattle.tiff_page.specs.Page.{PageRecord}
use Rattle.tiff_decode.specs.Machine.{State, Decoding, Outcome}
use Rattle.tiff_decode.specs.Outcome.{chain_of, enter, entry_outcome, next_image, next_offset, next_outcome, page_in, seek_to_image, seek_outcome, with_page}
use Rattle.tiff_pages.specs.Pages.{WasOnItsWay, state_along}

abbrev Call : Type 0
Call = Outcome (Unit {0})

either : (b : Bool) (x y : Call) (l : Limits) → x.next.limits ≡ l → y.next.limits ≡ l
    → (cond b x y).next.limits ≡ l
either true x y l h k = h
either false x y l h k = k

page_limits : (s : State) (directory : DirectoryRecord) (r : Result PageRecord TiffError)
    → (with_page s directory r).next.limits ≡ s.limits
page_limits s directory (Ok page) = refl
page_limits s directory (Err e) = refl

entry_limits : (d : Decoding) (offset : ℕ) (r : Result DirectoryRecord TiffError)
    → (entry_outcome d offset r).next.limits ≡ d.state.limits
entry_limits d offset (Ok x) = page_limits _ x (page_in d.kind d.order d.bytes d.state.limits x)
entry_limits d offset (Err e) = refl

enter_limits : (d : Decoding) (offset : ℕ) → (enter d offset).next.limits ≡ d.state.limits
unfolding enter
enter_limits d offset = entry_limits d offset (directory_at d.kind d.order d.bytes offset)

outcome_limits : (d : Decoding) (next : Option ℕ)
    → (next_outcome d next).next.limits ≡ d.state.limits
outcome_limits d None = refl
outcome_limits d (Some offset) = enter_limits d offset

next_limits : (d : Decoding) → (next_image d).next.limits ≡ d.state.limits
unfolding next_image
next_limits d =
    either d.state.more _ _ d.state.limits (outcome_limits d (next_offset d.state.pointer (chain_of d).offsets)) refl

sought_limits : (d : Decoding) (to : Option ℕ) → (seek_outcome d to).next.limits ≡ d.state.limits
sought_limits d None = either d.state.more _ _ d.state.limits refl refl
sought_limits d (Some offset) = enter_limits d offset

seek_limits : (d : Decoding) (k : ℕ) → (seek_to_image d k).next.limits ≡ d.state.limits
unfolding seek_to_image
seek_limits d k = sought_limits d (slice_get (chain_of d).offsets k)

along_limits : (d : Decoding) (n : ℕ) → (state_along d n).limits ≡ d.state.limits
along_limits d zero = seek_limits d 0
along_limits d (suc n) = next_limits (record d { state = state_along d n }) ∙ along_limits d n

-- The limits are kept on the way, and at its end.
pub way_limits : (d : Decoding) (state : State) → WasOnItsWay d state
    → state.limits ≡ d.state.limits
way_limits d state w =
    ⊎_elim (λ h. ap (λ (s : State). s.limits) h)
    (λ v. ⊎_elim (λ h. ap (λ (s : State). s.limits) h.2
    ∙ along_limits d h.0) (λ h. ap (λ (s : State). s.limits) h.1) v) w

pub end_limits : (old new : Decoding) (n : ℕ) → new ≡ record old { state = state_along old n }
    → new.state.limits ≡ old.state.limits
end_limits old new n h = ap (λ (d : Decoding). d.state.limits) h ∙ along_limits old n
