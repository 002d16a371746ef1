use Rattle.std.proofs.Common.{ℕ, List, ap, subst, ◌∙◌}
use Rattle.tiff_decode.specs.Outcome.{decoder_of}
use Rattle.tiff_uses.specs.Pages as pages
use Rattle.tiff_uses.specs.Pages.{FileAnswers}
use Rattle.tiff_uses.proofs.page_sides.Goals as goal

pub sides_along-requires : goal.sides_along-requires
sides_along-requires c =
    let h = c.in_ok-decoder.ensures.answer in
    ap (λ (b : List ℕ). decoder_of b 0) (c.walk_opens.ensures _ 0 _ h).bytes ∙ h

pub returns : goal.returns
returns c =
    let bytes = (c.walk_opens.ensures _ 0 _ c.in_ok-decoder.ensures.answer).bytes ∙ c.new.ensures in
    let P : List ℕ → Type 0 =
    λ b. FileAnswers (λ v. v.items) c.sides_along.result (pages.page_sides b) in
    subst P bytes c.sides_along.ensures
