use Rattle.std.proofs.Common.{◌≡◌, None, sym, subst, ap}
use Rattle.std.specs.FinMap as map
use Rattle.std.specs.Ordering.{nat_cmp}
use Rattle.tiff_base.specs.Directory.{link}
use Rattle.tiff_base.specs.Field.{DirectoryRecord, Field}
use Rattle.tiff_base.specs.Tags.{tag_number}
use Rattle.tiff_base.proofs.Places.{Pairs, Fit, remove_keeps, get_none, removed_none, removed_here}
use Rattle.tiff_base.proofs.directory.Directory.remove.Goals as goal
use Rattle.tiff_base.specs.Place.{IsAscending}

pub invariant_of-self : goal.invariant_of-self
invariant_of-self c =
    subst {A = Pairs} (λ es. IsAscending es × Fit es) (sym c.remove.ensures.items)
    (remove_keeps c.self.inside.entries.items c.in-Ok.at c.self.invariant)

pub returns-in-Err-clause-taken : goal.returns-in-Err-clause-taken
returns-in-Err-clause-taken c =
    subst {A = DirectoryRecord} (λ d. None ≡ map.get d.entries (tag_number c.args.tag)) c.self.view_is
    (get_none (tag_number c.args.tag) c.to_u16.result c.self.inside.entries.items _ c.to_u16.ensures c.in-Err.ensures.absent)

pub returns-in-Err-clause-left : goal.returns-in-Err-clause-left
returns-in-Err-clause-left c =
    subst {A = DirectoryRecord} (λ d. d ≡ record d { entries = map.remove d.entries (tag_number c.args.tag) }) c.self.view_is
    (ap (λ (m : map.FinMap nat_cmp Field). record { entries = m; next = link c.self.inside.next }) (removed_none (tag_number c.args.tag) c.to_u16.result c.self.inside.entries.items _ c.to_u16.ensures c.in-Err.ensures.absent))

pub returns-in-Ok-clause-left : goal.returns-in-Ok-clause-left
returns-in-Ok-clause-left c =
    subst {A = DirectoryRecord} (λ d. record { entries = map.from_entries c.remove.new.self.items; next = link c.self.inside.next } ≡ record d { entries = map.remove d.entries (tag_number c.args.tag) }) c.self.view_is
    (ap (λ (m : map.FinMap nat_cmp Field). record { entries = m; next = link c.self.inside.next })
    (removed_here (tag_number c.args.tag) c.to_u16.result c.self.inside.entries.items c.remove.new.self.items c.in-Ok.at c.to_u16.ensures c.self.invariant.0 c.in-Ok.ensures.found c.remove.ensures.items))
