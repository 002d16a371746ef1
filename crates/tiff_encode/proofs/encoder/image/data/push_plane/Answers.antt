use Rattle.std.proofs.Common.{◌+◌, ◌*◌, ◌<◌, length, map}
use Rattle.std.specs.Prelude.{slice_index}
use Rattle.tiff_base.specs.Types.{type_size}
use Rattle.tiff_value.specs.ColorType.{sample_number}
use Rattle.tiff_encode.specs.lemmas.Data.Cut.{one_pushed, number_at, plane_within}
use Rattle.tiff_encode.proofs.encoder.image.data.push_plane.Goals as goal

pub loop-column-preserved : goal.loop-column-preserved
loop-column-preserved g c =
    let number = sample_number (type_size g.T.TiffValue.value_type) g.T.Sample.bits in
    let at = c.loop-column.column * c.args.samples + c.args.plane in
    let w : at < length c.args.pixels.now =
    plane_within c.loop-column.column c.args.count c.args.samples c.args.plane
    (length c.args.pixels.now) c.loop-column-test.true c.requires.one c.requires.whole in
    one_pushed number c.args.out.now.items c.loop-column.out.items c.push.new.self.items c.index-pixels-column.result
    (λ column. slice_index (map number c.args.pixels.now) (column * c.args.samples
    + c.args.plane)) c.loop-column.column c.loop-column.invariant c.in_ok-push.ensures.items
    (number_at number c.args.pixels.now at c.index-pixels-column.result w c.index-pixels-column.is)
