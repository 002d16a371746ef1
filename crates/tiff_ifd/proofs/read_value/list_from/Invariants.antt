use Rattle.std.proofs.Common.{◌≡◌, ◌*◌, ◌++◌, length}
use Rattle.tiff_base.specs.Types.{type_size}
use Rattle.tiff_ifd.specs.View.{plain_values}
use Rattle.tiff_ifd.specs.Item as spec
use Rattle.tiff_ifd.proofs.read_value.list_from.Given as goal

abbrev pub invariant-loop-left : goal.invariant-loop-left
invariant-loop-left l = record {
  room : length l.rest ≡ l.left * type_size l.stored.field_type;
  so_far : spec.items (spec.list_item l.stored.inline l.stored.field_type l.stored.order)
      (type_size l.stored.field_type) l.fn.stored.count l.fn.bytes
      ≡ plain_values l.all.items ++ spec.items (spec.list_item l.stored.inline l.stored.field_type l.stored.order) (type_size l.stored.field_type) l.left l.rest;
}

abbrev pub decreases-loop-left : goal.decreases-loop-left
decreases-loop-left l = l.left
