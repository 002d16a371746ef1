use Rattle.std.proofs.Common.{rules, ℕ, List, Result, Ok, ap, sym, ◌∙◌}
use Rattle.std.specs.Prelude.{Vec}
use Rattle.std.specs.declared.alloc.Global.{Global}
use Rattle.tiff_base.specs.declared.error.TiffError.{TiffError}
use Rattle.tiff_base.specs.Answers.{◌>>=◌}
use Rattle.tiff_pages.specs.declared.check.ImageSum.{ImageSum}
use Rattle.tiff_pages.specs.Check.{sum_of, whole_image}
use Rattle.tiff_pages.specs.lemmas.PageReads.{read_refused}
use Rattle.tiff_pages.proofs.check.image_sum.Goals as goal

pub returns-in_err-image : goal.returns-in_err-image
returns-in_err-image g c =
    let told =
    read_refused {X = Vec ℕ Global} {X' = ImageSum} (λ v. v.items) (λ s. s)
    (whole_image c.args.decoder.now c.args.decoder.now.state.page)
    (λ bytes. Ok (sum_of bytes)) c.in_err-image.field-0.0 c.args.decoder.now c.whole_image.new.decoder c.in_err-image.ensures in search rules

pub returns : goal.returns
returns g c =
    let sum = c.sum_of.ensures ∙ ap sum_of c.deref.ensures.value in
    record {
      answer =
          ap (λ (r : Result (List ℕ) TiffError). r >>= λ b. Ok (sum_of b)) c.in_ok-image.ensures.answer ∙ ap (λ (s : ImageSum). Ok s) (sym sum);
      stays = c.in_ok-image.ensures.stays;
      readable = c.in_ok-image.ensures.readable;
    }
