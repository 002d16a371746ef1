use Rattle.std.proofs.Common.{arith}
use Rattle.tiff_ffi.specs.PagesSink.{next_samples, page_samples}
use Rattle.tiff_ffi.proofs.Stored.{length_more, stored}
use Rattle.tiff_ffi.proofs.pages_sink.PagesSink.store.Goals as goal

pub invariant_of-self-2-clause-sized : goal.invariant_of-self-2-clause-sized
invariant_of-self-2-clause-sized g c =
    let s = c.args.self.now in
    let more =
    length_more s.around.items s.fronts.items (page_samples s) s.kept s.in_fronts s.in_around
    c.args.bytes.now c.grow.new.items.items c.in_ok-grow.ensures.ok in
    let size = s.sized in
    omega (arith, more, size)

pub returns-clause-ok : goal.returns-clause-ok
returns-clause-ok g c =
    let s = c.args.self.now in
    stored s.around.items s.fronts.items (page_samples s) s.kept s.in_fronts s.in_around
    c.args.bytes.now c.grow.new.items.items (next_samples s) s.count
    c.in_ok-grow.ensures.ok c.requires.count
