use Rattle.std.proofs.Common.{sym, subst}
use Rattle.tiff_base.proofs.Places.{Pairs, Fit, none_ascends}
use Rattle.tiff_base.proofs.directory.Directory.empty.Goals as goal
use Rattle.tiff_base.specs.Place.{IsAscending}

pub invariant_of-result : goal.invariant_of-result
invariant_of-result c =
    subst {A = Pairs} (λ es. IsAscending es × Fit es) (sym c.new.ensures.items) none_ascends
