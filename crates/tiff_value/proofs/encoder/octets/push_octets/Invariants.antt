use Rattle.std.proofs.Common.{◌≡◌, ◌++◌, ◌+◌, take}
use Rattle.std.specs.Vec.{vec_len, vec_capacity}
use Rattle.tiff_value.proofs.encoder.octets.push_octets.Given as goal

abbrev pub invariant-loop-k : goal.invariant-loop-k
invariant-loop-k g l = record {
  made : l.list.items ≡ l.initial.list.items ++ take l.k l.octets;
  len : vec_len l.list ≡ vec_len l.initial.list + l.k;
  capacity : vec_capacity l.list ≡ vec_capacity l.initial.list;
}
