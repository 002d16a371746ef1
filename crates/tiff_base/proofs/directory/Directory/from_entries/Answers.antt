use Rattle.std.proofs.Common.{None, ap}
use Rattle.std.specs.FinMap.{FinMap}
use Rattle.std.specs.Ordering.{nat_cmp}
use Rattle.tiff_base.proofs.Lasts.{all_are}
use Rattle.tiff_base.proofs.directory.Directory.from_entries.Goals as goal
use Rattle.tiff_base.specs.Field.{DirectoryRecord, Field}

pub invariant_of-result : goal.invariant_of-result
invariant_of-result c =
    (c.in_ok-last_of_each_tag.ensures.ascending, all_are _ c.in_ok-last_of_each_tag.ensures.each)

pub returns : goal.returns
returns c =
    ap {B = DirectoryRecord} (λ (m : FinMap nat_cmp Field). record { entries = m; next = None }) c.in_ok-last_of_each_tag.ensures.last
