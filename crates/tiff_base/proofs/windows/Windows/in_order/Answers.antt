use Rattle.std.proofs.Common.{ap}
use Rattle.std.specs.Option.{is_some}
use Rattle.tiff_base.specs.lemmas.Seen.{apart_if, of_their_file_if}
use Rattle.tiff_base.proofs.windows.Windows.in_order.Goals as goal

pub invariant_of-result : goal.invariant_of-result
invariant_of-result c = record {
  apart =
      apart_if c.args.self.now c.behind_windows.result c.behind_windows.ensures.end (ap is_some c.in-Some.is);
}

pub returns-in-Some-clause-file : goal.returns-in-Some-clause-file
returns-in-Some-clause-file c =
    of_their_file_if c.args.self.now c.behind_windows.result c.behind_windows.ensures.end
    (ap is_some c.in-Some.is) c.behind_windows.ensures.octets
