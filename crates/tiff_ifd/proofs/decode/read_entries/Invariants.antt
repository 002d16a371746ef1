use Rattle.std.proofs.Common.{◌≡◌, ◌+◌, ◌*◌}
use Rattle.tiff_base.specs.Directory.{entry_len, entries_from}
use Rattle.tiff_ifd.proofs.decode.read_entries.Given as goal

abbrev pub invariant-loop-i : goal.invariant-loop-i
invariant-loop-i g l =
    let bytes = (g.R.Source.contents l.fn.source).bytes in
    record {
      same : g.R.Source.contents l.source ≡ g.R.Source.contents l.fn.source;
      failures : g.R.Source.failures l.source ≡ g.R.Source.failures l.fn.source;
      here : l.offset ≡ l.fn.table.first + entry_len l.kind * l.i;
      so_far : l.entries.items ≡ entries_from l.kind l.order bytes l.fn.table.first l.i;
    }
