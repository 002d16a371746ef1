use Rattle.std.proofs.Common.{rules, ◌^◌, ◌<◌, ◌≤◌, length, if◌then◌else◌, Ok, Err, ap, sym}
use Rattle.tiff_base.specs.declared.error.TiffError.TheVariants.{IoError}
use Rattle.tiff_base.specs.declared.io.IoKind.TheVariants.{InvalidData}
use Rattle.tiff_ffi.specs.Pages.{tiles_of}
use Rattle.tiff_ffi.proofs.Tiles.{too_many}
use Rattle.tiff_ffi.proofs.image_samples.tile_count.Goals as goal

pub returns-in_default : goal.returns-in_default
returns-in_default c =
    let page = c.args.page.now in
    let tiles = tiles_of page c.args.names.now in
    let many : 2 ^ 64 ≤ tiles = search rules in
    let short : length page.samples.now < 2 ^ 64 = search rules in
    ap (λ b. if b then Ok tiles else Err (IoError InvalidData)) (sym (too_many page c.args.names.now short c.requires many))
