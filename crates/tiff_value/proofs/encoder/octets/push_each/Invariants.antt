use Rattle.std.proofs.Common.{◌≡◌, ◌++◌, ◌+◌, ◌-◌, ◌*◌, ◌≤◌, length, take}
use Rattle.std.specs.List.{flat_map}
use Rattle.std.specs.Vec.{vec_len, vec_capacity}
use Rattle.tiff_value.proofs.encoder.octets.push_each.Given as goal

abbrev pub invariant-loop-k : goal.invariant-loop-k
invariant-loop-k g l = record {
  made : l.list.items ≡ l.initial.list.items
      ++ flat_map g.T.LittleEndianBytes.written (take l.k l.numbers);
  room : vec_len l.list + (length l.numbers - l.k) * g.row.N ≤ vec_capacity l.list;
}
