use Rattle.std.proofs.Common.{List, map, ℕ, ap, sym, ◌∙◌}
use Rattle.tiff_base.specs.Types.{type_size}
use Rattle.tiff_page.specs.Pixels.{numbers_in}
use Rattle.tiff_value.specs.ColorType.{sample_number}
use Rattle.tiff_encode.specs.JobValues.{cut_to}
use Rattle.tiff_encode.specs.lemmas.JobSamples.{small_cut}
use Rattle.tiff_encode.proofs.Running.Images.{cut_moves}
use Rattle.tiff_encode.proofs.encoder.jobs.finish.DirectoryEncoder+W+K+ImageState+T.write_numbers.Goals as goal

pub returns-in-Some : goal.returns-in-Some
returns-in-Some g c =
    let size = type_size g.T.TiffValue.value_type in
    let cut : ℕ → List ℕ = λ size. cut_to size c.args.numbers.now in
    let found : List ℕ = numbers_in size c.in-Some.bytes.now in
    cut_moves c.args.self.state c.write_samples.result found (cut c.args.self.state.size) c.args.self.encoder.now c.write_samples.new.self.0
    (sym (ap cut c.fact_type.ensures ∙ ap (cut_to size) c.in-Some.ensures.same
    ∙ small_cut size found c.fact_numbers.ensures)) c.write_samples.ensures

pub returns : goal.returns
returns g c =
    let number = sample_number (type_size g.T.TiffValue.value_type) g.T.Sample.bits in
    let cut : ℕ → List ℕ = λ size. cut_to size c.args.numbers.now in
    cut_moves c.args.self.state c.write_samples-2.result (map number c.as_slice.result.now)
    (cut c.args.self.state.size) c.args.self.encoder.now c.write_samples-2.new.self.0
    (ap (map number) c.as_slice.ensures ∙ c.in-Ok.ensures
    ∙ sym (ap cut c.fact_type.ensures)) c.write_samples-2.ensures
