use Rattle.std.proofs.Common.{rules, ◌≡◌, map, Ok, ap, sym, ◌∙◌}
use Rattle.tiff_base.specs.Types.{type_size}
use Rattle.tiff_value.specs.ColorType.{sample_number}
use Rattle.tiff_value.specs.ColorTypes.{inner_type}
use Rattle.tiff_encode.specs.JobSamples.{samples_of_type}
use Rattle.tiff_encode.specs.JobValues.{cut_to}
use Rattle.tiff_ffi.proofs.Writing.{lent_made}
use Rattle.tiff_ffi.proofs.writer.write_color.Goals as goal

pub write_samples-requires-clause-made : goal.write_samples-requires-clause-made
write_samples-requires-clause-made g c =
    let s = c.args.settings.now in
    let image = c.args.image.now in
    let bytes = c.args.bytes.now in
    let type = c.type_and_len-ty.result.0 in
    let lent = c.in-Ok.lent in
    let numbers =
    map (sample_number (type_size g.C.Inner.TiffValue.value_type) g.C.Inner.Sample.bits) c.as_slice.result.now in
    let typed : type ≡ inner_type s.color =
    c.type_and_len-ty.ensures.kind
    ∙ (g.met.C.NamedColorType.in_memory ∙ ap inner_type (sym c.requires.named)) in
    let is : Ok lent ≡ samples_of_type type bytes = search rules in
    let cut : numbers ≡ cut_to (type_size type) lent = search rules in
    lent_made s image.width image.height bytes type lent numbers typed is c.type_inv.bytes cut
