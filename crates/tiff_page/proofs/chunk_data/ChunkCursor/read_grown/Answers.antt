use Rattle.std.proofs.Common.{arith, ◌+◌, ◌-◌, ◌≤◌, length, take, drop}
use Rattle.std.proofs.lemmas.Grind.{common_steps}
use Rattle.std.proofs.lemmas.Result.{err_from_is_err_and}
use Rattle.tiff_page.specs.lemmas.Requests.{more_asked, moves_on}
use Rattle.tiff_page.proofs.chunk_data.ChunkCursor.read_grown.Goals as goal

pub returns-in_err-read-clause-asked : goal.returns-in_err-read-clause-asked
returns-in_err-read-clause-asked g c =
    let piece =
    take (length c.deref_mut.result.now - c.len-from.result) (drop c.len-from.result c.deref_mut.result.now) in
    let within : length c.loop-row.row.items + length piece ≤ c.args.len =
    grind (arith, common_steps) in
    let answered =
    err_from_is_err_and c.from_residual-in_err-read.result c.from_residual-in_err-read.ensures.1 in
    rw (answered.1, answered.2) (more_asked c.args.self.now c.loop-row.self _ _ c.args.len _ (g.R.Source.contents c.args.source.now) (g.R.Source.contents c.loop-row.source) c.loop-row.invariant.same within c.loop-row.invariant.moves c.in_err-read.ensures.asked)

pub loop-row-preserved : goal.loop-row-preserved
loop-row-preserved g c =
    let piece =
    take (length c.deref_mut.result.now - c.len-from.result) (drop c.len-from.result c.deref_mut.result.now) in
    let within : length c.loop-row.row.items + length piece ≤ c.args.len =
    grind (arith, common_steps) in
    record {
      within = grind (arith, common_steps);
      same = grind (arith, common_steps);
      count = grind (arith, common_steps);
      moves =
          moves_on c.args.self.now c.loop-row.self c.read.new.self _ _ _
          (grind (arith, common_steps)) c.loop-row.invariant.moves c.in_ok-read.ensures.moves;
      read = grind (arith, common_steps);
    }
