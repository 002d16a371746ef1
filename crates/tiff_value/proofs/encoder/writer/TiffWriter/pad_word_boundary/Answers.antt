use Rattle.std.proofs.Common.{◌≡◌, ℕ, ◌-◌, ◌%◌, List, replicate, ap, ◌∙◌, subst, arith}
use Rattle.tiff_value.specs.Written.{WritesRaw}
use Rattle.tiff_value.specs.lemmas.Put.{zeros}
use Rattle.tiff_value.proofs.encoder.writer.TiffWriter.pad_word_boundary.Goals as goal

pub returns : goal.returns
returns g c =
    let q : c.self.inside.at ≡ c.args.self.now.at = ap (λ w. w.at) c.self.view_is in
    let e =
    zeros ((4 - c.self.inside.at % 4) % 4) (omega arith)
    ∙ ap (λ (a : ℕ). replicate ((4 - a % 4) % 4) 0) q in
    subst (λ (xs : List ℕ). WritesRaw xs c.args.self.now c.write_raw.new.self c.write_raw.result) e c.write_raw.ensures
