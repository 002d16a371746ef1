use Rattle.std.proofs.Common.{◌++◌, ap, sym, ◌∙◌}
use Rattle.tiff_value.specs.lemmas.Bytes.{bytes_alone}
use Rattle.tiff_value.proofs.encoder.numbers.U8TiffScalar.push_all.Goals as goal

pub returns-clause-answer : goal.returns-clause-answer
returns-clause-answer c =
    c.in_ok-extend_from_slice.ensures.items
    ∙ ap (λ xs. c.args.out.now.items ++ xs) (sym (bytes_alone c.args.items.now c.type_inv.items))
