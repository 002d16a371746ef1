use Rattle.std.proofs.Common.{◌≤◌, length, take, drop, inr, ap, ◌∙◌, arith, length-drop}
use Rattle.std.proofs.lemmas.List.{take_rest}
use Rattle.std.proofs.lemmas.Result.{err_from_is_err_and}
use Rattle.tiff_value.specs.Written.{writer_after}
use Rattle.tiff_value.specs.lemmas.Put.{moved_more, cut_from}
use Rattle.tiff_value.proofs.encoder.writer.TiffWriter.write_raw.Goals as goal

pub returns-in_err-n : goal.returns-in_err-n
returns-in_err-n g c =
    let i = c.loop-done.invariant in
    let answered = err_from_is_err_and c.from_residual.result c.from_residual.ensures.1 in
    rw (answered.1, answered.2) (inr (cut_from _ _ _ c.args.bytes.now c.loop-done.done _ i.fresh c.loop-done-test.true i.same c.in_err-n.ensures.err))

pub write_some-requires-clause-fresh : goal.write_some-requires-clause-fresh
write_some-requires-clause-fresh g c =
    ap (λ w. w.fault) c.loop-done.invariant.same ∙ c.loop-done.invariant.fresh

pub loop-done-preserved : goal.loop-done-preserved
loop-done-preserved g c =
    let bytes = c.args.bytes.now in
    let done = c.loop-done.done in
    let rest = take_rest bytes done in
    let e = c.in_ok-n.ensures.ok in
    let n = c.in_ok-n.n in
    let i = c.loop-done.invariant in
    record {
      within =
          let l : n ≤ length (drop done bytes) =
          rw rest at e.1 in omega (arith, length-drop done bytes);
      offset = i.offset;
      same =
          rw rest at e.2 ∙ ap (λ w. writer_after w (take n (drop done bytes))) i.same
          ∙ moved_more c.args.self.now bytes done n i.offset;
      fresh = i.fresh;
    }
