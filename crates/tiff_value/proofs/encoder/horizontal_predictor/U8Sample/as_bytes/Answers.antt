use Rattle.std.proofs.Common.{refl, sym, ◌∙◌}
use Rattle.tiff_base.specs.Number.{le}
use Rattle.tiff_value.specs.lemmas.Bytes.{bytes_alone}
use Rattle.tiff_value.proofs.Chunk.{spelled_all}
use Rattle.tiff_value.proofs.encoder.horizontal_predictor.U8Sample.as_bytes.Goals as goal

pub returns : goal.returns
returns c =
    sym (bytes_alone c.args.samples.now c.type_inv.samples)
    ∙ spelled_all 1 (λ n. n) (le 1) (λ n. refl) c.args.samples.now
