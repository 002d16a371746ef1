use Rattle.std.proofs.Common.{◌-◌, ◌*◌, ◌<◌, map}
use Rattle.tiff_base.specs.Types.{type_size}
use Rattle.tiff_value.specs.ColorType.{sample_number}
use Rattle.tiff_encode.specs.Chunks.{image_page}
use Rattle.tiff_encode.specs.Parts.{rect_of}
use Rattle.tiff_encode.specs.lemmas.Data.Cut.{told_on, row_pushed}
use Rattle.tiff_encode.proofs.encoder.image.state.ImageState.push_row.Goals as goal

pub returns : goal.returns
returns g c =
    let number = sample_number (type_size g.T.TiffValue.value_type) g.T.Sample.bits in
    let p = image_page c.args.self.now in
    let r = rect_of c.args.chunk_area in
    let some : c.args.row < r.height = c.if-row-chunk_area.false in
    told_on _ c.push_zeros-2.result
    (row_pushed p (map number c.args.samples.now) r c.args.row _
    (map number c.args.out.now.items) (map number c.push_pixels.new.out.items)
    (map number c.push_zeros-2.new.out.items) some c.requires.part.narrow
    (λ j. c.row_samples-2.ensures.count j - r.width * c.stored_samples.ensures.count j) c.in_ok-push_pixels.ensures) c.push_zeros-2.ensures
