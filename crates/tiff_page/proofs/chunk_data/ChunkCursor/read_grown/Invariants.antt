use Rattle.std.proofs.Common.{◌≡◌, ◌-◌, ◌≤◌, length, ◌++◌}
use Rattle.tiff_page.specs.ChunkData.{bytes_left}
use Rattle.tiff_page.specs.Reach.{Moves}
use Rattle.tiff_page.proofs.chunk_data.ChunkCursor.read_grown.Given as goal

-- what was read, then what is left
abbrev pub invariant-loop-row : goal.invariant-loop-row
invariant-loop-row g l =
    let bytes = (g.R.Source.contents l.fn.source).bytes in
    record {
      within : length l.row.items ≤ l.fn.len;
      same : g.R.Source.contents l.source ≡ g.R.Source.contents l.fn.source;
      count : g.R.Source.failures l.source ≡ g.R.Source.failures l.fn.source;
      moves : Moves l.fn.self (length l.row.items) l.self;
      read : bytes_left bytes l.fn.self ≡ l.row.items ++ bytes_left bytes l.self;
    }

abbrev pub decreases-loop-row : goal.decreases-loop-row
decreases-loop-row g l = l.fn.len - length l.row.items
