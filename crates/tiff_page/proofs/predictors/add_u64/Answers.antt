use Rattle.std.proofs.Common.{arith, ◌∙◌}
use Rattle.tiff_page.specs.lemmas.Rows.{adds_8}
use Rattle.tiff_page.proofs.predictors.add_u64.Goals as goal

pub returns : goal.returns
returns c =
    adds_8 c.args.row.now c.copy_from_slice.new.self c.args.from c.args.to _ _ _
    (omega arith) c.requires.before c.requires.within
    (c.copy_from_slice.ensures.after ∙ c.to_le_bytes.ensures) c.u64_in-before.ensures c.u64_in.ensures
