use Rattle.std.proofs.Common.{◌-◌, ◌*◌, ◌∙◌, ℕ, ap}
use Rattle.tiff_value.proofs.encoder.row_differences.put_fitting_part.Goals as goal

pub put_row_part-requires-clause-order : goal.put_row_part-requires-clause-order
put_row_part-requires-clause-order g c = (c.if-is_part.ensures.order, c.if-is_part.ensures.within)

pub put_row_part-requires-clause-room : goal.put_row_part-requires-clause-room
put_row_part-requires-clause-room g c =
    c.if-is_part.ensures.fills ∙ ap (λ (w : ℕ). (c.args.end - c.args.at) * w) (c.from.ensures
    ∙ c.type_and_len-kind.ensures.len)
