use Rattle.std.proofs.Common.{◌≡◌, ◌-◌, ◌≤◌, length, drop}
use Rattle.tiff_ifd.specs.Unpacking.{IsLastPart, left_at}
use Rattle.tiff_page.proofs.chunk_data.pass_packed.Given as goal

-- what is left after the bytes that were skipped
abbrev pub invariant-loop-left : goal.invariant-loop-left
invariant-loop-left g l =
    let bytes = (g.R.Source.contents l.fn.source).bytes in
    record {
      within : l.left ≤ l.fn.n;
      room : length l.piece ≡ 512;
      same : g.R.Source.contents l.source ≡ g.R.Source.contents l.fn.source;
      count : g.R.Source.failures l.source ≡ g.R.Source.failures l.fn.source;
      behind : IsLastPart l.fn.position.at l.fn.position.len l.position;
      passed : (left_at bytes l.position).out
          ≡ drop (l.fn.n - l.left) (left_at bytes l.fn.position).out;
    }

abbrev pub decreases-loop-left : goal.decreases-loop-left
decreases-loop-left g l = l.left
