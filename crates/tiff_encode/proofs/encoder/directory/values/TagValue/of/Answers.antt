use Rattle.std.proofs.Common.{◌≡◌, length, take, ap, sym, ◌∙◌}
use Rattle.std.specs.Prelude.{◌/◌}
use Rattle.tiff_base.specs.Types.{type_size}
use Rattle.tiff_value.specs.Fields.{filled_field}
use Rattle.tiff_encode.proofs.Tagging.{filled_back}
use Rattle.tiff_encode.proofs.encoder.directory.values.TagValue.of.Goals as goal

pub invariant_of-result : goal.invariant_of-result
invariant_of-result c =
    let xs = c.args.bytes.now in
    let same : take (length xs) c.fill.result ≡ xs =
    ap (take (length xs)) c.fill.ensures ∙ filled_back xs c.requires.short in
    (c.requires.short, c.requires.whole, ap (λ ys. length ys) same, ap (λ ys. filled_field ys) same ∙ sym c.fill.ensures)

pub returns : goal.returns
returns c =
    let xs = c.args.bytes.now in
    let same : take (length xs) c.fill.result ≡ xs =
    ap (take (length xs)) c.fill.ensures ∙ filled_back xs c.requires.short in
    ap (λ ys. (c.args.tag, record { field_type = c.args.field_type; count = length xs / type_size c.args.field_type; bytes = ys })) same
