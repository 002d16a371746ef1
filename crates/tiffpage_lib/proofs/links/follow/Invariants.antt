use Rattle.std.proofs.Common.{◌≡◌}
use Rattle.tiffpage_lib.proofs.links.follow.Given as goal

abbrev pub invariant-loop : goal.invariant-loop
invariant-loop g l = g.R.Source.contents l.source ≡ g.R.Source.contents l.fn.source
