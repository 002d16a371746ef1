use Rattle.std.proofs.Common.{ℕ, ◌≤◌, length, List, ap, ◌∙◌, subst}
use Rattle.tiff_base.specs.Field.{Field}
use Rattle.tiff_encode.proofs.Calling.{placed_short}
use Rattle.tiff_encode.proofs.encoder.TiffEncoder.place_entry.Goals as goal

pub returns-then-bytes-offset_size : goal.returns-then-bytes-offset_size
returns-then-bytes-offset_size g c =
    let by : List ℕ → Field =
    λ value. record { field_type = c.args.field_type; count = c.args.count; value = value } in
    placed_short c.file_kind.result c.args.self.now (record { field_type = c.args.field_type; count = c.args.count; bytes = c.args.bytes.now })
    c.new_u64.result c.file_kind.ensures
    (subst (λ n. length c.args.bytes.now ≤ n) c.offset_size.ensures c.if-bytes-offset_size.true)
    (c.new_u64.ensures ∙ ap by c.fill.ensures)
