use Rattle.std.proofs.Common.{arith, take}
use Rattle.tiff_ffi.specs.PagesSink.{next_samples, page_samples}
use Rattle.tiff_ffi.proofs.Stretches.{in_bytes, overwritten, same_len}
use Rattle.tiff_ffi.proofs.pages_sink.PagesSink.put_in.Goals as goal

pub overwrite_in-requires : goal.overwrite_in-requires
overwrite_in-requires g c =
    let s = c.args.self.now in
    let p = c.args.stretch in
    in_bytes s.around.items s.fronts.items (page_samples s) p.at p.from p.len
    c.requires.is c.args.at c.args.bytes.now c.requires.has.0 c.requires.has.1

pub invariant_of-self-clause-sized : goal.invariant_of-self-clause-sized
invariant_of-self-clause-sized g c =
    let s = c.args.self.now in
    let p = c.args.stretch in
    let same =
    same_len s.around.items s.fronts.items (page_samples s) p.at p.from p.len
    c.requires.is c.args.at c.args.bytes.now c.requires.has.0 c.requires.has.1
    c.overwrite_in.new.items.items c.overwrite_in.ensures.bytes in
    let size = s.sized in
    omega (arith, same, size)

pub returns-clause-contents : goal.returns-clause-contents
returns-clause-contents g c =
    let s = c.args.self.now in
    let p = c.args.stretch in
    overwritten s.around.items s.fronts.items (page_samples s) p.at p.from p.len
    c.requires.is c.args.at c.args.bytes.now c.requires.has.0 c.requires.has.1
    c.overwrite_in.new.items.items c.overwrite_in.ensures.bytes (take s.count (next_samples s))
