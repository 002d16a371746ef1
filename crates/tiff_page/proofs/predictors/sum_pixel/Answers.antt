use Rattle.std.proofs.Common.{◌∙◌, ◌+◌, ◌%◌, get_or, arith}
use Rattle.std.proofs.lemmas.List.{length-set}
use Rattle.tiff_page.specs.lemmas.Rows.{byte_done, byte_held, byte_kept}
use Rattle.tiff_page.proofs.predictors.sum_pixel.Goals as goal

pub loop-j-preserved : goal.loop-j-preserved
loop-j-preserved g c =
    let l = c.loop-j.last in
    let p = c.loop-j.pixel in
    let j = c.loop-j.j in
    let v = (get_or l j 0 + get_or p j 0) % 256 in
    record {
      done =
          byte_done c.args.last.now c.args.pixel.now l p j (omega (arith, c.loop-j-test.true, c.loop-j.auto.pixel, c.requires))
          c.loop-j.invariant.done c.loop-j.invariant.rest c.loop-j.invariant.kept;
      held =
          byte_held l p j v (omega (arith, c.loop-j-test.true, c.loop-j.invariant.size, c.told-last))
          (omega (arith, c.loop-j-test.true, c.loop-j.auto.pixel, c.requires)) c.loop-j.invariant.held;
      rest = byte_kept c.args.pixel.now p j v c.loop-j.invariant.rest;
      kept = byte_kept c.args.last.now l j v c.loop-j.invariant.kept;
      size = length-set l j v ∙ c.loop-j.invariant.size;
    }
