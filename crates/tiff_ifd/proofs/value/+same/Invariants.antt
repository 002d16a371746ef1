use Rattle.std.proofs.Common.{◌≡◌, drop}
use Rattle.tiff_ifd.specs.PlainValue.{plain_value_list_of}
use Rattle.tiff_ifd.specs.Same as equal
use Rattle.tiff_ifd.specs.View.{plain_values}
use Rattle.tiff_ifd.proofs.value.+same.Given as goal

abbrev pub invariant-all_same-loop-i : goal.invariant-all_same-loop-i
invariant-all_same-loop-i l =
    equal.all_same (plain_value_list_of (plain_values l.a)) (plain_value_list_of (plain_values l.b))
    ≡ equal.all_same (plain_value_list_of (plain_values (drop l.i l.a)))
    (plain_value_list_of (plain_values (drop l.i l.b)))
