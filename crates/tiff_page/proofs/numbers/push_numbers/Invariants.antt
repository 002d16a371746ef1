use Rattle.std.proofs.Common.{◌≡◌, ◌+◌, ◌++◌, map}
use Rattle.std.specs.Vec.{vec_len, vec_capacity}
use Rattle.tiff_base.specs.declared.tags.ByteOrder.TheVariants.{LittleEndian}
use Rattle.tiff_page.specs.Pixels.{tabulate, row_number}
use Rattle.tiff_page.proofs.numbers.push_numbers.Given as goal

-- the numbers so far follow
abbrev pub invariant-loop-k : goal.invariant-loop-k
invariant-loop-k g l = record {
  made : map g.T.Number.bits l.list.items ≡ map g.T.Number.bits l.fn.numbers.items
      ++ tabulate l.k (row_number LittleEndian g.row.N l.row);
  len : vec_len l.list ≡ vec_len l.fn.numbers + l.k;
  capacity : vec_capacity l.list ≡ vec_capacity l.fn.numbers;
}
