use Rattle.std.proofs.Common.{◌≡◌, ◌-◌, ◌≤◌, length, take, drop}
use Rattle.tiff_ffi.specs.Calls.{chunks_in}
use Rattle.tiff_ffi.proofs.Ranges.{behind}
use Rattle.tiff_ffi.proofs.range.chunks_between.Given as goal

-- The chunks that were read are in front, and those that are left are read behind them. No read
-- failed.
abbrev pub invariant-loop-chunk : goal.invariant-loop-chunk
invariant-loop-chunk g l =
    let by = g.R.ReadsChunks.reading l.fn.chunks in
    record {
      stays : g.R.ReadsChunks.reading l.chunks ≡ by;
      contents : g.R.ReadsChunks.contents l.chunks ≡ g.R.ReadsChunks.contents l.fn.chunks;
      failures : g.R.ReadsChunks.failures l.chunks ≡ g.R.ReadsChunks.failures l.fn.chunks;
      room : l.at ≤ length l.buffer;
      left : chunks_in by (l.fn.end - l.fn.first) l.fn.first l.fn.buffer
          ≡ behind (take l.at l.buffer) (chunks_in by (l.fn.end - l.chunk) l.chunk (drop l.at l.buffer));
    }
