use Rattle.std.proofs.Common.{arith}
use Rattle.tiff_page.specs.lemmas.OutputRow.{kept_more}
use Rattle.tiff_page.proofs.output_row.keep_bytes.Goals as goal

pub loop-column-preserved : goal.loop-column-preserved
loop-column-preserved c =
    kept_more c.args.row.now c.loop-column.out c.copy_from_slice.new.self c.loop-column.column c.args.pixel.stored c.args.pixel.shown c.args.width _ _ (omega arith) (omega arith) c.args.pixel.within
    c.loop-column-test.true c.requires.row (omega arith) c.copy_from_slice.ensures.after c.loop-column.invariant
