use Rattle.std.proofs.Common.{◌++◌, ap, sym, ◌∙◌}
use Rattle.tiff_value.specs.lemmas.Bytes.{bytes_alone}
use Rattle.tiff_value.proofs.encoder.horizontal_predictor.U8Sample.show_all.Goals as goal

pub returns : goal.returns
returns g c =
    c.show_bytes.ensures
    ∙ ap (λ xs. g.S.ByteWitness.seen c.args.witness.now
    ++ xs) (sym (bytes_alone c.args.samples.now c.type_inv.samples))
