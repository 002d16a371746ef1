use Rattle.std.proofs.Common.{sym, subst}
use Rattle.tiff_base.proofs.Places.{Pairs, Fit}
use Rattle.tiff_base.proofs.directory.Directory.make_room.Goals as goal
use Rattle.tiff_base.specs.Place.{IsAscending}

pub invariant_of-self : goal.invariant_of-self
invariant_of-self c =
    subst {A = Pairs} (λ es. IsAscending es × Fit es) (sym c.reserve.ensures.items) c.self.invariant
