use Rattle.std.proofs.Common.{refl}
use Rattle.tiff_ffi.proofs.Parts.{parts_put}
use Rattle.tiff_ffi.proofs.writer.put_file_around.Goals as goal

pub returns-else-buffer-needed : goal.returns-else-buffer-needed
returns-else-buffer-needed c =
    let len = c.lengths.result in
    let e = c.lengths.ensures in
    λ samples.
    rw (c.in-Ok.is) (λ around. parts_put c.in-Ok.file samples c.args.buffer.now c.put_around.new.buffer len e.front e.samples e.behind c.put_around.ensures 0 c.args.lengths.now c.if-buffer-needed.false refl around)
