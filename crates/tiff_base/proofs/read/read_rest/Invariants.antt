use Rattle.std.proofs.Common.{length, take, ◌-◌, ◌≡◌, ◌≤◌}
use Rattle.tiff_base.specs.SourceAndSink.{bytes_at}
use Rattle.tiff_base.proofs.read.read_rest.Given as goal

abbrev pub invariant-loop-done : goal.invariant-loop-done
invariant-loop-done g l =
    let bytes = (g.R.Source.contents l.fn.source).bytes in
    record {
      same : g.R.Source.contents l.source ≡ g.R.Source.contents l.fn.source;
      count : g.R.Source.failures l.source ≡ g.R.Source.failures l.fn.source;
      in_buffer : l.done ≤ length l.buf;
      in_bytes : l.done ≤ length bytes - l.at;
      so_far : take l.done l.buf ≡ bytes_at bytes l.at l.done;
    }

abbrev pub decreases-loop-done : goal.decreases-loop-done
decreases-loop-done g l = length l.initial.buf - l.done
