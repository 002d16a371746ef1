use Rattle.std.proofs.Common.{◌≡◌, ℕ, Result, Ok, Err, arith, subst, sym}
use Rattle.std.specs.Prelude.{IsErrAnd}
use Rattle.std.proofs.lemmas.Grind.{common_steps}
use Rattle.tiff_base.specs.lemmas.Causes.{cause_along}
use Rattle.tiff_base.specs.Answers.{AnswersBut, IsCause}
use Rattle.tiff_base.specs.Sparing.{IsFoundWithin}
use Rattle.tiff_base.specs.declared.error.TiffError.{TiffError}
use Rattle.tiff_base.specs.declared.tags.Tag.TheVariants as tag
use Rattle.tiff_ifd.specs.TagLookup.{TagLookup}
use Rattle.tiff_page.specs.Checks.{page_of, size_in}
use Rattle.tiff_page.specs.PageView as view
use Rattle.tiff_page.specs.lemmas.PassedChecks.{size_found}
use Rattle.tiff_page.proofs.read_page.read_page.Goals as goal

-- the error of a check behind the size is the error of the page
check_failed : {X Y : Type 0} (view : X → Y) (look : TagLookup) (size : ℕ × ℕ)
    (page : Result Y TiffError) (r : Result X TiffError) (e : TiffError)
    (wanting failed failed' given : Type 0) → IsErrAnd r (λ y. y ≡ e) → size_in look ≡ Ok size
    → (failed → failed') → (given → page ≡ Err e)
    → IsCause wanting failed e given
    → AnswersBut (IsFoundWithin (look.value tag.ImageWidth)) failed' view r page
check_failed view look size page (Ok x) e wanting failed failed' given q s grew fails c = absurd q
check_failed view look size page (Err y) e wanting failed failed' given q s grew fails c =
    subst (λ z. IsCause (IsFoundWithin (look.value tag.ImageWidth)) failed' z (page
    ≡ Err z)) (sym q) (cause_along e (λ w. size_found look size s) grew fails c)

pub returns-in_err-interpretation-clause-answer : goal.returns-in_err-interpretation-clause-answer
unfolding page_of
returns-in_err-interpretation-clause-answer g c =
    check_failed view.page (g.T.Tags.contents c.args.tags.now).look _ _ _ c.in_err-interpretation.field-0.0 _ _ _ _ c.from_residual-in_err-interpretation.ensures.1
    c.in_ok-width.ensures.answer (λ f. omega arith) (λ h. grind (arith, common_steps)) c.in_err-interpretation.ensures.answer

pub returns-in_err-method-clause-answer : goal.returns-in_err-method-clause-answer
unfolding page_of
returns-in_err-method-clause-answer g c =
    check_failed view.page (g.T.Tags.contents c.args.tags.now).look _ _ _ c.in_err-method.field-0.0 _ _ _ _ c.from_residual-in_err-method.ensures.1
    c.in_ok-width.ensures.answer (λ f. omega arith) (λ h. grind (arith, common_steps)) c.in_err-method.ensures.answer

pub returns-in_err-samples-clause-answer : goal.returns-in_err-samples-clause-answer
unfolding page_of
returns-in_err-samples-clause-answer g c =
    check_failed view.page (g.T.Tags.contents c.args.tags.now).look _ _ _ c.in_err-samples.field-0.0 _ _ _ _ c.from_residual-in_err-samples.ensures.1
    c.in_ok-width.ensures.answer (λ f. omega arith) (λ h. grind (arith, common_steps)) c.in_err-samples.ensures.answer

pub returns-in_err-extra-clause-answer : goal.returns-in_err-extra-clause-answer
unfolding page_of
returns-in_err-extra-clause-answer g c =
    check_failed view.page (g.T.Tags.contents c.args.tags.now).look _ _ _ c.in_err-extra.field-0.0 _ _ _ _ c.from_residual-in_err-extra.ensures.1
    c.in_ok-width.ensures.answer (λ f. omega arith) (λ h. grind (arith, common_steps)) c.in_err-extra.ensures.answer

pub returns-in_err-format-clause-answer : goal.returns-in_err-format-clause-answer
unfolding page_of
returns-in_err-format-clause-answer g c =
    check_failed view.page (g.T.Tags.contents c.args.tags.now).look _ _ _ c.in_err-format.field-0.0 _ _ _ _ c.from_residual-in_err-format.ensures.1
    c.in_ok-width.ensures.answer (λ f. omega arith) (λ h. grind (arith, common_steps)) c.in_err-format.ensures.answer

pub returns-in_err-depth-clause-answer : goal.returns-in_err-depth-clause-answer
unfolding page_of
returns-in_err-depth-clause-answer g c =
    check_failed view.page (g.T.Tags.contents c.args.tags.now).look _ _ _ c.in_err-depth.field-0.0 _ _ _ _ c.from_residual-in_err-depth.ensures.1
    c.in_ok-width.ensures.answer (λ f. omega arith) (λ h. grind (arith, common_steps)) c.in_err-depth.ensures.answer

pub returns-in_err-predictor-clause-answer : goal.returns-in_err-predictor-clause-answer
unfolding page_of
returns-in_err-predictor-clause-answer g c =
    check_failed view.page (g.T.Tags.contents c.args.tags.now).look _ _ _ c.in_err-predictor.field-0.0 _ _ _ _ c.from_residual-in_err-predictor.ensures.1
    c.in_ok-width.ensures.answer (λ f. omega arith) (λ h. grind (arith, common_steps)) c.in_err-predictor.ensures.answer

pub returns-in_err-planar-clause-answer : goal.returns-in_err-planar-clause-answer
unfolding page_of
returns-in_err-planar-clause-answer g c =
    check_failed view.page (g.T.Tags.contents c.args.tags.now).look _ _ _ c.in_err-planar.field-0.0 _ _ _ _ c.from_residual-in_err-planar.ensures.1
    c.in_ok-width.ensures.answer (λ f. omega arith) (λ h. grind (arith, common_steps)) c.in_err-planar.ensures.answer

pub returns-in_err-subsampling-clause-answer : goal.returns-in_err-subsampling-clause-answer
unfolding page_of
returns-in_err-subsampling-clause-answer g c =
    check_failed view.page (g.T.Tags.contents c.args.tags.now).look _ _ _ c.in_err-subsampling.field-0.0 _ _ _ _ c.from_residual-in_err-subsampling.ensures.1
    c.in_ok-width.ensures.answer (λ f. omega arith) (λ h. grind (arith, common_steps)) c.in_err-subsampling.ensures.answer

pub returns-in_err-chunk_type-clause-answer : goal.returns-in_err-chunk_type-clause-answer
unfolding page_of
returns-in_err-chunk_type-clause-answer g c =
    check_failed view.page (g.T.Tags.contents c.args.tags.now).look _ _ _ c.in_err-chunk_type.field-0.0 _ _ _ _ c.from_residual-in_err-chunk_type.ensures.1
    c.in_ok-width.ensures.answer (λ f. absurd f) (λ h. grind (arith, common_steps)) c.in_err-chunk_type.ensures

pub returns-in_err-chunks-in-Strip-clause-answer : goal.returns-in_err-chunks-in-Strip-clause-answer
unfolding page_of
returns-in_err-chunks-in-Strip-clause-answer g c =
    check_failed view.page (g.T.Tags.contents c.args.tags.now).look _ _ _ c.in_err-chunks-in-Strip.field-0.0 _ _ _ _ c.from_residual-in_err-chunks-in-Strip.ensures.1
    c.in_ok-width.ensures.answer (λ f. omega arith) (λ h. grind (arith, common_steps)) c.in_err-chunks-in-Strip.ensures.answer

pub returns-in_err-chunks-in-Tile-clause-answer : goal.returns-in_err-chunks-in-Tile-clause-answer
unfolding page_of
returns-in_err-chunks-in-Tile-clause-answer g c =
    check_failed view.page (g.T.Tags.contents c.args.tags.now).look _ _ _ c.in_err-chunks-in-Tile.field-0.0 _ _ _ _ c.from_residual-in_err-chunks-in-Tile.ensures.1
    c.in_ok-width.ensures.answer (λ f. omega arith) (λ h. grind (arith, common_steps)) c.in_err-chunks-in-Tile.ensures.answer
