use Rattle.std.proofs.Common.{arith, ◌∙◌}
use Rattle.tiff_page.specs.lemmas.Rows.{adds_2}
use Rattle.tiff_page.proofs.predictors.add_u16.Goals as goal

pub returns : goal.returns
returns c =
    adds_2 c.args.row.now c.copy_from_slice.new.self c.args.from c.args.to _ _ _
    (omega arith) c.requires.before c.requires.within
    (c.copy_from_slice.ensures.after ∙ c.to_le_bytes.ensures) c.u16_in-before.ensures c.u16_in.ensures
