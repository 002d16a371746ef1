use Rattle.std.proofs.Common.{ap, get_or, length, replicate, ◌∙◌}
use Rattle.tiff_base.specs.declared.tags.SampleFormat.TheVariants as format
use Rattle.tiff_base.specs.Types.{type_size}
use Rattle.tiff_encode.proofs.Alike.{described_by_first}
use Rattle.tiff_encode.proofs.encoder.image.color.ImageColor.of.Goals as goal

pub returns : goal.returns
returns g c =
    let bits = c.sample_bits-bits.ensures in
    let n = length c.sample_bits-bits.result.now in
    ap (λ i. record {
      interpretation = i;
      bits = replicate n c.first_of.result;
      formats = replicate n c.format_of.result;
    }) (c.TIFF_VALUE.ensures ∙ g.met.C.ColorType.interpreted)
    ∙ described_by_first (type_size g.C.Inner.TiffValue.value_type) g.C.ColorType.described
    g.met.C.ColorType.lawful format.Uint n c.first_of.result c.format_of.result (ap length bits)
    (c.first_of.ensures ∙ ap (λ bs. get_or bs 0 0) bits)
    (c.format_of.ensures ∙ ap (λ fs. get_or fs 0 format.Uint) c.sample_formats.ensures)
