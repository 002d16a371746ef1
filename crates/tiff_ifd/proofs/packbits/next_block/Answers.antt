use Rattle.std.proofs.Common.{◌+◌, arith, refl, sym, ◌∙◌, inl}
use Rattle.std.proofs.lemmas.Result.{err_from_is_err_and}
use Rattle.tiff_base.specs.lemmas.Causes.{named_cause}
use Rattle.tiff_base.specs.lemmas.Contents.{same_bytes}
use Rattle.tiff_ifd.specs.lemmas.Unpacking.{same_byte, nothing_told, literal_begun, run_begun, header_cause, value_cause, value_missing, all_read}
use Rattle.tiff_ifd.proofs.packbits.next_block.Goals as goal

pub returns-in_err-header-clause-block : goal.returns-in_err-header-clause-block
returns-in_err-header-clause-block g c =
    let answered = err_from_is_err_and c.from_residual.result c.from_residual.ensures.1 in
    rw (answered.1, answered.2) (header_cause _ _ (g.R.Source.contents c.args.source.now).bytes (g.R.Source.contents c.loop-len.source).bytes c.loop-len.at c.loop-len.len _ c.in_err-header.field-0.0
    (same_bytes c.loop-len.invariant.same) (λ f. omega (arith, f, c.loop-len.invariant.count)) c.loop-len.invariant.same_rest c.loop-len-test.true c.in_err-header.ensures.byte)

pub returns-then-header-lt128-clause-block : goal.returns-then-header-lt128-clause-block
returns-then-header-lt128-clause-block g c =
    let b =
    same_byte (g.R.Source.contents c.args.source.now).bytes (g.R.Source.contents c.loop-len.source).bytes c.loop-len.at c.in_ok-header.header (same_bytes c.loop-len.invariant.same) c.in_ok-header.ensures.byte in (
      omega arith,
      c.loop-len.invariant.same_rest
          ∙ literal_begun (g.R.Source.contents c.args.source.now).bytes c.loop-len.at c.loop-len.len c.from.result c.loop-len-test.true b.0 (c.from.ensures ∙ b.1) (omega arith),
    )

pub returns-then-len-eq0-clause-block : goal.returns-then-len-eq0-clause-block
returns-then-len-eq0-clause-block g c =
    let b =
    same_byte (g.R.Source.contents c.args.source.now).bytes (g.R.Source.contents c.loop-len.source).bytes c.loop-len.at c.in_ok-header.header (same_bytes c.loop-len.invariant.same) c.in_ok-header.ensures.byte in
    let broken =
    c.loop-len.invariant.same_rest
    ∙ value_missing (g.R.Source.contents c.args.source.now).bytes c.loop-len.at c.loop-len.len c.in_ok-header.header c.loop-len-test.true b.0 b.1 c.if-header-gt128.true (inl c.if-len-eq0.true) in
    named_cause _ refl (record { fault = refl; broken = broken; some = omega arith })

pub returns-in_err-value-clause-block : goal.returns-in_err-value-clause-block
returns-in_err-value-clause-block g c =
    let b =
    same_byte (g.R.Source.contents c.args.source.now).bytes (g.R.Source.contents c.loop-len.source).bytes c.loop-len.at c.in_ok-header.header (same_bytes c.loop-len.invariant.same) c.in_ok-header.ensures.byte in
    let answered =
    err_from_is_err_and c.from_residual-in_err-value.result c.from_residual-in_err-value.ensures.1 in
    rw (answered.1, answered.2) (value_cause _ _ (g.R.Source.contents c.args.source.now).bytes (g.R.Source.contents c.read_byte.new.source).bytes c.loop-len.at c.loop-len.len c.in_ok-header.header _ c.in_err-value.field-0.0
    (same_bytes (c.in_ok-header.ensures.kept.contents
    ∙ c.loop-len.invariant.same)) (λ f. omega (arith, f, c.in_ok-header.ensures.kept.failures, c.loop-len.invariant.count)) c.loop-len.invariant.same_rest
    c.loop-len-test.true b.0 b.1 c.if-header-gt128.true c.in_err-value.ensures.byte)

pub returns-then-header-gt128-clause-block : goal.returns-then-header-gt128-clause-block
returns-then-header-gt128-clause-block g c =
    let b =
    same_byte (g.R.Source.contents c.args.source.now).bytes (g.R.Source.contents c.loop-len.source).bytes c.loop-len.at c.in_ok-header.header (same_bytes c.loop-len.invariant.same) c.in_ok-header.ensures.byte in
    let v =
    same_byte (g.R.Source.contents c.args.source.now).bytes (g.R.Source.contents c.read_byte.new.source).bytes (c.loop-len.at + 1) c.in_ok-value.value
    (same_bytes (c.in_ok-header.ensures.kept.contents
    ∙ c.loop-len.invariant.same)) c.in_ok-value.ensures.byte in (
      omega arith,
      c.loop-len.invariant.same_rest
          ∙ run_begun (g.R.Source.contents c.args.source.now).bytes c.loop-len.at c.loop-len.len c.from-then-header-gt128.result c.in_ok-value.value (omega arith) v.0
          (c.from-then-header-gt128.ensures ∙ b.1) (omega arith) v.1,
    )

pub loop-len-preserved : goal.loop-len-preserved
loop-len-preserved g c =
    let b =
    same_byte (g.R.Source.contents c.args.source.now).bytes (g.R.Source.contents c.loop-len.source).bytes c.loop-len.at c.in_ok-header.header (same_bytes c.loop-len.invariant.same) c.in_ok-header.ensures.byte in
    record {
      same = c.in_ok-header.ensures.kept.contents ∙ c.loop-len.invariant.same;
      count = omega (arith, c.in_ok-header.ensures.kept.swallowed, c.loop-len.invariant.count);
      start = omega (arith, c.loop-len.invariant.start);
      end = omega (arith, c.loop-len.invariant.end, c.loop-len-test.true);
      same_rest = c.loop-len.invariant.same_rest
          ∙ nothing_told (g.R.Source.contents c.args.source.now).bytes c.loop-len.at c.loop-len.len c.loop-len-test.true b.0 (sym b.1 ∙ omega arith);
    }

pub returns-clause-block : goal.returns-clause-block
returns-clause-block g c =
    c.loop-len.invariant.same_rest
    ∙ all_read (g.R.Source.contents c.args.source.now).bytes c.loop-len.at c.loop-len.len (omega arith)
