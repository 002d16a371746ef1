use Rattle.std.proofs.Common.{map, ap, sym, ◌∙◌, ◌*◌}
use Rattle.tiff_base.specs.Types.{type_size}
use Rattle.tiff_value.specs.ColorType.{sample_number}
use Rattle.tiff_encode.proofs.Storing.{packs_whole, whole_stored, rows_stored}
use Rattle.tiff_encode.proofs.encoder.image.state.ImageState.pack_samples.Goals as goal

pub returns-in-PackbitsRows : goal.returns-in-PackbitsRows
returns-in-PackbitsRows g c =
    let i = c.args.self.now in
    let size = type_size g.T.TiffValue.value_type in
    let numbers = map (sample_number size g.T.Sample.bits) c.args.samples.now in
    let sized = sym (ap (λ i. i.size) c.self.view_is) in
    rows_stored i numbers c.pack_rows.new.self.packed.items _ c.pack_rows.result c.sample_rows-rows.ensures.bytes
    (c.sample_rows-rows.result.row * size) (λ j. c.sample_rows-rows.ensures.row j * sym sized j)
    (sym (ap (λ i. i.compression) c.self.view_is) ∙ c.in-PackbitsRows.is) c.pack_rows.ensures

pub returns-in_default : goal.returns-in_default
returns-in_default g c =
    let i = c.args.self.now in
    let size = type_size g.T.TiffValue.value_type in
    let numbers = map (sample_number size g.T.Sample.bits) c.args.samples.now in
    let kept = ap (λ i. i.compression) c.self.view_is in
    whole_stored i numbers c.pack.new.self.packed.items _ c.pack.result c.sample_rows-rows.ensures.bytes
    (packs_whole i.compression c.requires.packed (λ e. c.in_default.not-PackbitsRows (kept
    ∙ e))) c.pack.ensures
