use Rattle.std.proofs.Common.{◌≡◌, ◌+◌, ◌-◌, ◌*◌, ◌/◌, ◌≤◌, ◌++◌, map, length, take}
use Rattle.std.specs.Vec.{vec_len, vec_capacity}
use Rattle.tiff_page.specs.NumberBytes.{bytes_in}
use Rattle.tiff_page.proofs.numbers.push_row.Given as goal

-- the bytes so far follow, and there is room for the rest
abbrev pub invariant-loop-at : goal.invariant-loop-at
invariant-loop-at g l = record {
  within : l.at ≤ length l.row;
  whole : l.at / g.row.N * g.row.N ≡ l.at;
  room : vec_len l.list + (length l.row - l.at) / g.row.N ≤ vec_capacity l.list;
  written : bytes_in g.row.N (map g.T.Number.bits l.list.items)
      ≡ bytes_in g.row.N (map g.T.Number.bits l.fn.numbers.items) ++ take l.at l.row;
}

abbrev pub decreases-loop-at : goal.decreases-loop-at
decreases-loop-at g l = length l.row - l.at
