use Rattle.std.proofs.Common.{◌≡◌, ◌∙◌, false, sym, subst}
use Rattle.std.proofs.lemmas.Bool.{false≢true}
use Rattle.std.specs.FinMap as map
use Rattle.tiff_base.proofs.Places.{Pairs, Fit, contains_in_gap, insert_keeps, replace_keeps}
use Rattle.tiff_base.proofs.directory.Directory.insert.Goals as goal
use Rattle.tiff_base.specs.Field.{DirectoryRecord}
use Rattle.tiff_base.specs.Place.{IsAscending}

pub invariant_of-self : goal.invariant_of-self
invariant_of-self c =
    replace_keeps c.args.tag c.args.entry c.self.inside.entries.items c.in-Ok.at c.in-Ok.ensures.found (c.fits.ensures c.args.tag c.ranges.tag.fits) c.self.invariant

pub invariant_of-self-in-Continue-1 : goal.invariant_of-self-in-Continue-1
invariant_of-self-in-Continue-1 c =
    subst {A = Pairs} (λ es. IsAscending es × Fit es) (sym c.in_ok-insert-in-Err.ensures.items)
    (insert_keeps c.args.tag c.args.entry c.self.inside.entries.items c.in-Err.at c.in-Err.ensures.absent (c.fits.ensures c.args.tag c.ranges.tag.fits) c.self.invariant)

pub invariant_of-self-in_err-insert-in-Err : goal.invariant_of-self-in_err-insert-in-Err
invariant_of-self-in_err-insert-in-Err c =
    subst {A = Pairs} (λ es. IsAscending es × Fit es) (sym c.in_err-insert-in-Err.ensures.items) c.self.invariant

pub returns-in_err-insert-in-Err-clause-there : goal.returns-in_err-insert-in-Err-clause-there
returns-in_err-insert-in-Err-clause-there c =
    λ e. absurd (false≢true (subst {A = DirectoryRecord} (λ d. false
    ≡ map.contains_key d.entries c.args.tag) c.self.view_is
    (contains_in_gap c.args.tag c.self.inside.entries.items c.in-Err.at c.in-Err.ensures.absent) ∙ e))
