use Rattle.std.proofs.Common.{◌≡◌, map, ◌∙◌, arith}
use Rattle.tiff_ffi.specs.Pages.{step_view, tile_step}
use Rattle.tiff_ffi.proofs.Tiles.{all_added}
use Rattle.tiff_ffi.proofs.image_samples.add_tiles.Goals as goal

pub returns : goal.returns
returns c =
    let end : c.loop-i.i ≡ c.args.count = omega (arith, c.loop-i.auto.i-end, c.loop-i-test.false) in
    c.loop-i.invariant
    ∙ all_added (tile_step c.args.color) (map step_view c.loop-i.steps.items) c.loop-i.i c.args.count c.args.size c.args.bytes.now end
