use Rattle.std.proofs.Common.{◌≡◌, None, subst}
use Rattle.std.specs.FinMap as map
use Rattle.tiff_base.proofs.Places.{get_none}
use Rattle.tiff_base.proofs.directory.Directory.get.Goals as goal
use Rattle.tiff_base.specs.Field.{DirectoryRecord}
use Rattle.tiff_base.specs.Tags.{tag_number}

pub returns-in-Err : goal.returns-in-Err
returns-in-Err c =
    subst {A = DirectoryRecord} (λ d. None ≡ map.get d.entries (tag_number c.args.tag)) c.self.view_is
    (get_none (tag_number c.args.tag) c.to_u16.result c.self.inside.entries.items _ c.to_u16.ensures c.in-Err.ensures.absent)
