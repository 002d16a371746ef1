use Rattle.std.proofs.Common.{ap, length, replicate, sym, ◌+◌, ◌∙◌}
use Rattle.std.proofs.lemmas.List.{length-replicate}
use Rattle.tiff_value.specs.ColorType.{ColorTypeRecord}
use Rattle.tiff_encode.specs.Calls.{extended_by_first}
use Rattle.tiff_encode.proofs.Alike.{extended_repeats}
use Rattle.tiff_encode.proofs.encoder.image.color.ImageColor.for_samples.Goals as goal

pub returns : goal.returns
returns g c =
    let said = c.self.inside in
    let many =
    sym (length-replicate said.samples said.bits)
    ∙ ap (λ (i : ColorTypeRecord). length i.bits) c.self.view_is in
    c.of.ensures ∙ ap (λ n. replicate (n + c.args.extra) c.args.value) c.from.ensures
    ∙ extended_repeats c.args.value said.samples c.args.extra c.self.invariant.0
    ∙ ap (λ n. extended_by_first (replicate n c.args.value) c.args.extra) many
