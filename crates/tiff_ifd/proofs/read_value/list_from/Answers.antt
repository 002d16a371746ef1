use Rattle.std.proofs.Common.{arith}
use Rattle.tiff_base.specs.Types.{type_size}
use Rattle.tiff_ifd.specs.Item as spec
use Rattle.tiff_ifd.specs.lemmas.Items.{less_one, read_one_more}
use Rattle.tiff_ifd.proofs.read_value.list_from.Goals as goal

pub loop-left-preserved : goal.loop-left-preserved
loop-left-preserved c = record {
  room =
      omega (arith, less_one c.loop-left.left (type_size c.args.stored.field_type) (omega arith));
  so_far =
      read_one_more (spec.list_item c.args.stored.inline c.args.stored.field_type c.args.stored.order) (type_size c.args.stored.field_type) c.loop-left.left c.loop-left.rest.now _ _ c.loop-left.all.items _ c.list_item.result _
      c.loop-left.invariant.so_far (omega arith) (cc) (cc) c.list_item.ensures c.in_ok-push.ensures.items;
}
