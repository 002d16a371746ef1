use Rattle.std.proofs.Common.{arith, refl, ◌∙◌}
use Rattle.std.proofs.lemmas.Grind.{common_steps}
use Rattle.std.proofs.lemmas.Result.{err_from_is_err_and}
use Rattle.tiff_base.specs.lemmas.Causes.{cause_along, named_cause}
use Rattle.tiff_ffi.proofs.Ranges.{all_read, goes_on, stops_at_none, stops_short, stops_unread}
use Rattle.tiff_ffi.proofs.range.chunks_between.Goals as goal

pub returns-in_err-len-clause-answer : goal.returns-in_err-len-clause-answer
returns-in_err-len-clause-answer g c =
    let by = g.R.ReadsChunks.reading c.args.chunks.now in
    let i = c.loop-chunk.invariant in
    let answered = err_from_is_err_and c.from_residual.result c.from_residual.ensures.1 in
    rw (answered.1, answered.2) (cause_along c.in_err-len.field-0.0 (λ w. w) (λ f. omega (arith, f, i.failures))
    (stops_at_none by c.args.first c.args.end c.loop-chunk.chunk c.loop-chunk.at c.args.buffer.now c.loop-chunk.buffer c.loop-chunk-test.true i.room i.left c.in_err-len.field-0.0)
    (rw i.stays at c.in_err-len.ensures.answer))

pub loop-chunk-preserved : goal.loop-chunk-preserved
loop-chunk-preserved g c =
    let by = g.R.ReadsChunks.reading c.args.chunks.now in
    let i = c.loop-chunk.invariant in
    let len = rw i.stays at c.in_ok-len.ensures.answer in
    let same = c.in_ok-len.ensures.stays ∙ i.stays in
    let fits = c.if-provided-len.false in
    record {
      stays = c.in_ok-read.ensures.stays ∙ same;
      contents =
          c.in_ok-read.ensures.kept.contents ∙ c.in_ok-len.ensures.kept.contents ∙ i.contents;
      failures =
          c.in_ok-read.ensures.kept.swallowed ∙ c.in_ok-len.ensures.kept.swallowed ∙ i.failures;
      room = grind (arith, common_steps);
      left =
          goes_on by c.args.first c.args.end c.loop-chunk.chunk c.loop-chunk.at c.args.buffer.now c.loop-chunk.buffer c.loop-chunk-test.true i.room i.left c.in_ok-len.len len
          c.read.new.buffer _ (omega arith) (grind (arith, common_steps)) (omega (arith, fits))
          (rw same at c.in_ok-read.ensures.answer);
    }

pub returns-then-provided-len-clause-answer : goal.returns-then-provided-len-clause-answer
returns-then-provided-len-clause-answer g c =
    let by = g.R.ReadsChunks.reading c.args.chunks.now in
    let i = c.loop-chunk.invariant in
    let len = rw i.stays at c.in_ok-len.ensures.answer in
    rw c.into.ensures (named_cause _ refl
    (stops_short by c.args.first c.args.end c.loop-chunk.chunk c.loop-chunk.at c.args.buffer.now c.loop-chunk.buffer c.loop-chunk-test.true i.room i.left c.in_ok-len.len len (omega (arith, c.if-provided-len.true))))

pub returns-in_err-read-clause-answer : goal.returns-in_err-read-clause-answer
returns-in_err-read-clause-answer g c =
    let by = g.R.ReadsChunks.reading c.args.chunks.now in
    let i = c.loop-chunk.invariant in
    let len = rw i.stays at c.in_ok-len.ensures.answer in
    let same = c.in_ok-len.ensures.stays ∙ i.stays in
    let none = c.in_ok-len.ensures.kept.swallowed in
    let answered =
    err_from_is_err_and c.from_residual-in_err-read.result c.from_residual-in_err-read.ensures.1 in
    rw (answered.1, answered.2) (cause_along c.in_err-read.field-0.0 (λ w. w) (λ f. omega (arith, f, none, i.failures))
    (stops_unread by c.args.first c.args.end c.loop-chunk.chunk c.loop-chunk.at c.args.buffer.now c.loop-chunk.buffer c.loop-chunk-test.true i.room i.left c.in_ok-len.len len
    c.in_err-read.field-0.0 _ (omega arith) (omega (arith, c.if-provided-len.false)))
    (rw same at c.in_err-read.ensures.answer))

pub returns-clause-answer : goal.returns-clause-answer
returns-clause-answer g c =
    all_read (g.R.ReadsChunks.reading c.args.chunks.now) c.args.first c.args.end c.loop-chunk.chunk c.loop-chunk.at c.args.buffer.now c.loop-chunk.buffer (omega (arith, c.loop-chunk-test.false)) c.loop-chunk.invariant.left
