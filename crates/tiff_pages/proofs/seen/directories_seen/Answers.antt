use Rattle.std.proofs.Common.{refl}
use Rattle.tiff_pages.proofs.seen.directories_seen.Goals as goal

pub open_seen-requires-clause-header : goal.open_seen-requires-clause-header
open_seen-requires-clause-header g c = c.in_default.ensures.none refl g.F.SeenFile.bytes
