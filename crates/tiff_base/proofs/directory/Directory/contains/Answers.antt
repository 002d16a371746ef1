use Rattle.std.proofs.Common.{◌≡◌, false, subst}
use Rattle.std.specs.FinMap as map
use Rattle.tiff_base.proofs.Places.{contains_none}
use Rattle.tiff_base.proofs.directory.Directory.contains.Goals as goal
use Rattle.tiff_base.specs.Field.{DirectoryRecord}
use Rattle.tiff_base.specs.Tags.{tag_number}

pub returns-in-Err : goal.returns-in-Err
returns-in-Err c =
    subst {A = DirectoryRecord} (λ d. false ≡ map.contains_key d.entries (tag_number c.args.tag)) c.self.view_is
    (contains_none (tag_number c.args.tag) c.to_u16.result c.self.inside.entries.items _ c.to_u16.ensures c.in-Err.ensures.absent)
