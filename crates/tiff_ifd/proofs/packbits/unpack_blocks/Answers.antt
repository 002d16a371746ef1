use Rattle.tiff_ifd.proofs.Ahead.{front_step}
use Rattle.tiff_ifd.proofs.packbits.unpack_blocks.Goals as goal

pub loop-used-preserved : goal.loop-used-preserved
loop-used-preserved c =
    let l = c.loop-used in
    front_step c.args.packed.now c.args.buf.now l.buf c.unpack_block.new.buf l.used l.done c.in-Some.more c.in-Some.n l.invariant l.auto.buf c.unpack_block.auto.buf c.in-Some.ensures.some.1
