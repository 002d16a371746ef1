use Rattle.std.proofs.Common.{◌≡◌, ◌-◌, ◌≤◌, length, take}
use Rattle.tiff_base.specs.Runs.{with_front}
use Rattle.tiff_ifd.specs.Unpacking.{IsLastPart, left_at}
use Rattle.tiff_ifd.proofs.packbits.PackBitsCursor.fill.Given as goal

-- the bytes that the call has read, followed by those that are left, are the bytes at its start
abbrev pub invariant-loop-done : goal.invariant-loop-done
invariant-loop-done g l =
    let bytes = (g.R.Source.contents l.fn.source).bytes in
    record {
      within : l.done ≤ length l.buf;
      same : g.R.Source.contents l.source ≡ g.R.Source.contents l.fn.source;
      count : g.R.Source.failures l.source ≡ g.R.Source.failures l.fn.source;
      behind : IsLastPart l.fn.self.at l.fn.self.len l.self;
      read : left_at bytes l.fn.self ≡ with_front (take l.done l.buf) (left_at bytes l.self);
    }

abbrev pub decreases-loop-done : goal.decreases-loop-done
decreases-loop-done g l = length l.initial.buf - l.done
