use Rattle.std.proofs.Common.{◌≡◌, take}
use Rattle.tiff_ifd.specs.View.{plain_values}
use Rattle.tiff_ifd.proofs.value.+copy.Given as goal

abbrev pub invariant-copy_list-loop-item : goal.invariant-copy_list-loop-item
invariant-copy_list-loop-item l =
    plain_values l.items.items ≡ plain_values (take l.item-index l.item-items)
