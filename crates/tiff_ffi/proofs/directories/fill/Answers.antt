use Rattle.std.proofs.Common.{◌<◌, length, arith}
use Rattle.tiff_ffi.specs.Directories.{directory_told}
use Rattle.tiff_ffi.proofs.Listed.{filled_more, item_there}
use Rattle.tiff_ffi.proofs.directories.fill.Goals as goal

pub loop-i-preserved : goal.loop-i-preserved
loop-i-preserved c =
    let room : c.loop-i.i < length c.args.out.now = omega (arith, c.min-count.ensures) in
    let some : c.loop-i.i < length c.args.items.now = omega (arith, c.min-count.ensures) in
    filled_more directory_told c.args.items.now c.args.out.now c.loop-i.out c.loop-i.i c.index-items-i.result c.directory_told.result c.loop-i.invariant (item_there c.args.items.now c.loop-i.i c.index-items-i.result some c.index-items-i.is) c.directory_told.ensures room
