use Rattle.std.proofs.Common.{◌≡◌, ◌-◌}
use Rattle.tiff_uses.specs.GeoKeys.{key_value, value_in}
use Rattle.tiff_uses.proofs.value_of.Given as goal

abbrev pub invariant-keys : goal.invariant-keys
invariant-keys l = key_value l.id l.numbers ≡ value_in l.id (l.i-end - l.i) l.left
