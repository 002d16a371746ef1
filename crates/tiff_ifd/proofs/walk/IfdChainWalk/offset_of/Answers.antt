use Rattle.std.proofs.Common.{arith, ap, sym, ◌∙◌, subst, length, List, ℕ, None}
use Rattle.std.proofs.lemmas.List.{length-append}
use Rattle.std.proofs.lemmas.Result.{err_from_is_err_and}
use Rattle.tiff_base.specs.lemmas.Contents.{same_bytes}
use Rattle.tiff_ifd.specs.IfdChainWalk.{ChainBegins}
use Rattle.tiff_ifd.specs.lemmas.Begun.{begun_same, offset_begun, is_there}
use Rattle.tiff_ifd.proofs.Passed.{grown_over, longer_over, none_further, none_over, refused_same, way_asked, way_cut}
use Rattle.tiff_ifd.proofs.walk.IfdChainWalk.offset_of.Goals as goal

pub way-preserved : goal.way-preserved
way-preserved g c =
    let i = c.way.invariant in
    let longer = ap length i.longer.1 in
    let both = length-append c.args.self.now.offsets i.longer.0 in
    record {
      same = c.pass_next.ensures.kept.contents ∙ i.same;
      failures = omega (arith, i.failures, c.in_ok-pass_next.ensures.kept.swallowed);
      longer =
          grown_over c.args.kind c.args.order (g.R.Source.contents c.way.source).bytes c.args.self.now.offsets c.way.self c.pass_next.new.self
          c.in_ok-pass_next.field-0 c.if-not-branch.false c.in_ok-pass_next.ensures.ok i.longer;
      no_further = λ h.
          (let one = longer_over c.args.kind c.args.order (g.R.Source.contents c.way.source).bytes c.way.self c.pass_next.new.self
          c.in_ok-pass_next.field-0 c.if-not-branch.false c.in_ok-pass_next.ensures.ok in
          omega (arith, one, c.way-test.true, c.len.ensures));
      known = λ h. absurd (omega (arith, h, longer, both, c.way-test.true, c.len.ensures));
      begins =
          λ first b. begun_same c.args.kind c.args.order first c.way.self c.pass_next.new.self
          (same_bytes i.same) (i.begins first b) (c.pass_next.ensures.begins first);
    }

pub returns-clause-offset : goal.returns-clause-offset
returns-clause-offset g c = λ first b.
    offset_begun c.args.kind c.args.order (g.R.Source.contents c.args.source.now).bytes first c.way.self c.args.index (omega (arith, c.way-test.false, c.len.ensures))
    (c.way.invariant.begins first b) ∙ sym c.get.ensures

pub returns-clause-end : goal.returns-clause-end
returns-clause-end g c =
    is_there _ c.way.self.offsets c.args.index c.get.result c.get.ensures
    (omega (arith, c.way-test.false, c.len.ensures))

pub returns-in_err-pass_next-clause-begins : goal.returns-in_err-pass_next-clause-begins
returns-in_err-pass_next-clause-begins g c = λ first b.
    let i = c.way.invariant in
    begun_same c.args.kind c.args.order first c.way.self c.pass_next.new.self (same_bytes i.same)
    (i.begins first b) (c.pass_next.ensures.begins first)

pub returns-in_err-pass_next-clause-asked : goal.returns-in_err-pass_next-clause-asked
returns-in_err-pass_next-clause-asked g c = λ first b.
    let answered = err_from_is_err_and c.from_residual.result c.from_residual.ensures.1 in
    rw (answered.1, answered.2) (way_asked c.args.kind c.args.order (g.R.Source.contents c.args.source.now) (g.R.Source.contents c.way.source) first c.args.index c.way.self
    c.in_err-pass_next.field-0.0 c.way.invariant.same (c.way.invariant.begins first b) (omega (arith, c.way-test.true, c.len.ensures)) c.in_err-pass_next.ensures.asked)

pub returns-in_err-pass_next-clause-cut : goal.returns-in_err-pass_next-clause-cut
returns-in_err-pass_next-clause-cut g c =
    let answered = err_from_is_err_and c.from_residual.result c.from_residual.ensures.1 in
    rw (answered.1, answered.2) (way_cut c.args.kind c.args.order (g.R.Source.contents c.args.source.now).bytes (g.R.Source.contents c.way.source).bytes c.args.self.now c.way.self c.pass_next.new.self
    c.args.index c.in_err-pass_next.field-0.0 (same_bytes c.way.invariant.same) c.way.invariant.begins (omega (arith, c.way-test.true, c.len.ensures))
    (refused_same _ _ _ _ c.way.self c.pass_next.new.self c.in_err-pass_next.field-0.0 c.in_err-pass_next.ensures.err)
    (λ f. omega (arith, f, c.way.invariant.failures)) c.in_err-pass_next.ensures.cut)

pub returns-then-not-branch-clause-there : goal.returns-then-not-branch-clause-there
returns-then-not-branch-clause-there g c =
    none_over c.args.kind c.args.order (g.R.Source.contents c.way.source).bytes c.way.self c.pass_next.new.self c.in_ok-pass_next.field-0 c.args.index c.if-not-branch.true
    c.in_ok-pass_next.ensures.ok (omega (arith, c.way-test.true, c.len.ensures))

pub returns-then-not-branch-clause-offset : goal.returns-then-not-branch-clause-offset
returns-then-not-branch-clause-offset g c = λ first b.
    none_further c.args.kind c.args.order (g.R.Source.contents c.args.source.now).bytes
    (g.R.Source.contents c.way.source).bytes first c.way.self None c.args.index
    (same_bytes c.way.invariant.same)
    (c.in_ok-pass_next.ensures.end c.if-not-branch.true first
    (subst (λ (bs : List ℕ). ChainBegins c.args.kind c.args.order bs first c.way.self) (sym (same_bytes c.way.invariant.same)) (c.way.invariant.begins first b)))
    (omega (arith, c.way-test.true, c.len.ensures))
