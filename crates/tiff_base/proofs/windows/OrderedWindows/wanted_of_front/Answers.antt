use Rattle.std.proofs.Common.{arith, rules}
use Rattle.tiff_base.specs.lemmas.Seen.{front_grows, front_seen}
use Rattle.tiff_base.proofs.windows.OrderedWindows.wanted_of_front.Goals as goal

pub windows-preserved : goal.windows-preserved
windows-preserved c =
    front_grows c.args.self.now.seen c.windows.at c.in-Some.i c.windows.invariant c.in-Some.ensures.has _ (omega (arith, c.saturating_add-at.ensures))

pub returns-clause-none : goal.returns-clause-none
returns-clause-none c =
    λ e. front_seen c.args.self.now.seen c.args.len c.windows.at (search rules) c.windows.invariant
    (omega (arith, c.windows-test.false, c.min-end.ensures))
