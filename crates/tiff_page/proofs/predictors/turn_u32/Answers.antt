use Rattle.std.proofs.Common.{arith, ◌∙◌}
use Rattle.tiff_page.specs.lemmas.Rows.{turns_4}
use Rattle.tiff_page.proofs.predictors.turn_u32.Goals as goal

pub returns : goal.returns
returns c =
    turns_4 c.args.row.now c.args.out.now c.copy_from_slice.new.self c.args.k _ _
    (omega arith) c.requires.row c.requires.out (omega (arith, c.u32_in-number.type_inv))
    (c.copy_from_slice.ensures.after ∙ c.to_le_bytes.ensures) c.u32_in-number.ensures
