use Rattle.std.proofs.Common.{arith, ◌-◌, leb-true}
use Rattle.tiff_base.specs.lemmas.Seen.{no_window, nowhere, window_ends}
use Rattle.tiff_base.proofs.windows.OrderedWindows.window_at.Goals as goal

pub returns-then-count-eq0-clause-none : goal.returns-then-count-eq0-clause-none
returns-then-count-eq0-clause-none c =
    λ e. nowhere c.args.self.now.seen c.args.at c.count_until-count.result c.args.self.now.apart c.requires.within c.count_until-count.ensures.point c.count_until-count.ensures.count
    (λ d l. absurd (omega (arith, l, c.if-count-eq0.true)))

pub returns-then-at-window-clause-none : goal.returns-then-at-window-clause-none
returns-then-at-window-clause-none c =
    λ e. nowhere c.args.self.now.seen c.args.at c.count_until-count.result c.args.self.now.apart c.requires.within c.count_until-count.ensures.point c.count_until-count.ensures.count
    (λ d l. window_ends c.args.self.now.seen.windows.now (c.count_until-count.result - 1) c.args.at d (omega (arith, l, c.count_until-count.ensures.count))
    (omega (arith, c.if-at-window.true, leb-true _ _ (c.count_until-count.ensures.point.0 (c.count_until-count.result - 1) no_window (omega arith) (omega (arith, l))))))
