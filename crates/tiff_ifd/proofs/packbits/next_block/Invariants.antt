use Rattle.std.proofs.Common.{◌≡◌, ◌≤◌, ◌+◌}
use Rattle.tiff_ifd.specs.Unpacking.{unpacked_at}
use Rattle.tiff_ifd.proofs.packbits.next_block.Given as goal

-- the rest of the packed bytes unpacks to the same bytes as all of them
abbrev pub invariant-loop-len : goal.invariant-loop-len
invariant-loop-len g l =
    let bytes = (g.R.Source.contents l.fn.source).bytes in
    record {
      same : g.R.Source.contents l.source ≡ g.R.Source.contents l.fn.source;
      count : g.R.Source.failures l.source ≡ g.R.Source.failures l.fn.source;
      start : l.fn.at ≤ l.at;
      end : l.at + l.len ≡ l.fn.at + l.fn.len;
      same_rest : unpacked_at bytes l.fn.at l.fn.len ≡ unpacked_at bytes l.at l.len;
    }

abbrev pub decreases-loop-len : goal.decreases-loop-len
decreases-loop-len g l = l.len
