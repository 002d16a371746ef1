use Rattle.std.proofs.Common.{List, ap, arith, ℕ, ◌∙◌}
use Rattle.std.proofs.lemmas.Result.{err_from_is_err_and}
use Rattle.tiff_base.specs.lemmas.Causes.{cause_along}
use Rattle.tiff_base.specs.lemmas.Contents.{same_bytes}
use Rattle.tiff_ifd.specs.Unpacking.{left_at}
use Rattle.tiff_ifd.proofs.packbits.PackBitsCursor.read.Goals as goal

pub returns-in_err-n-clause-piece : goal.returns-in_err-n-clause-piece
returns-in_err-n-clause-piece g c =
    let answered = err_from_is_err_and c.from_residual-in_err-n.result c.from_residual-in_err-n.ensures.1 in
    let same =
    same_bytes (c.in_err-n.ensures.kept.contents ∙ c.in_ok-offset.ensures.kept.contents) in
    rw (answered.1, answered.2) (
      ap (λ (bs : List ℕ). left_at bs c.args.self.now) same,
      cause_along c.in_err-n.field-0.0 (λ w. absurd w)
          (λ f. omega (arith, f, c.in_ok-offset.ensures.kept.failures)) (λ b. absurd b)
          c.in_err-n.ensures.bytes,
    )
