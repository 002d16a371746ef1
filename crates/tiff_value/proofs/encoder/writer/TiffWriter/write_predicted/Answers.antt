use Rattle.std.proofs.Common.{◌≡◌, ◌^◌, None, map, ap, sym, refl, ◌∙◌}
use Rattle.std.specs.List.{flat_map}
use Rattle.tiff_base.specs.Number.{le}
use Rattle.tiff_base.specs.Types.{type_size}
use Rattle.tiff_value.specs.ColorType.{sample_number}
use Rattle.tiff_value.proofs.Bands.{told_raw}
use Rattle.tiff_value.proofs.Chunk.{left_plain}
use Rattle.tiff_value.proofs.encoder.writer.TiffWriter.write_predicted.Goals as goal

pub returns-in_default : goal.returns-in_default
returns-in_default g c =
    let size = type_size g.T.TiffValue.value_type in
    let num = sample_number size g.T.Sample.bits in
    let samples = c.args.rows.samples.now in
    let fresh : c.args.self.now.fault ≡ None =
    sym (ap (λ w. w.fault) c.self.view_is) ∙ rw c.if-self.false refl in
    told_raw c.write_unpredicted.result _ _ c.args.self.now c.write_unpredicted.new.self fresh
    (ap (flat_map (le size)) (sym (left_plain c.args.rows.predictor (256 ^ size) c.args.rows.row c.args.rows.stride (map num samples) c.in_default.not-Horizontal)))
    c.write_unpredicted.ensures
