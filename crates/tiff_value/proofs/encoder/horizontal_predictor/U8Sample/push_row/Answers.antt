use Rattle.tiff_value.proofs.Chunk.{bytes_pushed}
use Rattle.tiff_value.proofs.encoder.horizontal_predictor.U8Sample.push_row.Goals as goal

pub returns : goal.returns
returns c =
    bytes_pushed c.push_differences.result c.args.stride c.args.row.now c.args.out.now.items c.push_differences.new.out.items
    (λ k _. (c.type_inv.row k).fits) (λ k h. c.type_inv.out k 0 h) c.push_differences.ensures
