use Rattle.std.proofs.Common.{rules, nat_le}
use Rattle.std.proofs.lemmas.List.Sorted.{IsPartitionPoint-from_clause}
use Rattle.tiff_base.specs.declared.windows.Window.{Window}
use Rattle.tiff_base.specs.lemmas.Seen.{parted}
use Rattle.tiff_base.proofs.windows.count_until.Goals as goal

pub returns-clause-point : goal.returns-clause-point
returns-clause-point c =
    IsPartitionPoint-from_clause (λ (w : Window). nat_le w.offset c.args.at) _ _ c.partition_point.ensures.partitioned
    (parted c.args.windows.now c.args.at c.requires) (λ a r q k. search rules)
