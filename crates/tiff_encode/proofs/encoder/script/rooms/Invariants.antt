use Rattle.std.proofs.Common.{◌≡◌, ◌≤◌, length, vec_len, vec_capacity}
use Rattle.tiff_encode.specs.Running.{AreRooms}
use Rattle.tiff_encode.proofs.encoder.script.rooms.Given as goal

-- there is room for the last jobs, and for the lists of the others
abbrev pub invariant-loop-behind : goal.invariant-loop-behind
invariant-loop-behind g l = record {
  count : vec_len l.rooms ≡ l.behind;
  room : length l.jobs ≤ vec_capacity l.rooms;
  made : AreRooms l.jobs l.rooms.items;
}
