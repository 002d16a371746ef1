use Rattle.std.proofs.Common.{◌≡◌, ◌++◌, drop, map}
use Rattle.tiff_base.specs.declared.tags.ByteOrder.TheVariants.{LittleEndian}
use Rattle.tiff_page.specs.Pixels.{tabulate, row_number}
use Rattle.tiff_page.proofs.numbers.put_front.Given as goal

-- the numbers so far are written
abbrev pub invariant-loop-k : goal.invariant-loop-k
invariant-loop-k g l =
    map g.T.Number.bits l.numbers ≡ tabulate l.k (row_number LittleEndian g.row.N l.row)
    ++ drop l.k (map g.T.Number.bits l.fn.numbers)
