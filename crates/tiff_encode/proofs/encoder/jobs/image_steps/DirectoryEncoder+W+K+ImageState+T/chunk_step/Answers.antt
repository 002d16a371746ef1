use Rattle.std.proofs.Common.{rules, ℕ, List, map, ap, sym, ◌∙◌}
use Rattle.tiff_base.specs.Types.{type_size}
use Rattle.tiff_page.specs.Pixels.{numbers_in}
use Rattle.tiff_value.specs.ColorType.{sample_number}
use Rattle.tiff_encode.specs.Calls.{write_chunk}
use Rattle.tiff_encode.specs.Causes.{write_chunk_cause}
use Rattle.tiff_encode.specs.JobValues.{cut_to}
use Rattle.tiff_encode.proofs.Image.StepsStored.{unfound_draws}
use Rattle.tiff_encode.specs.lemmas.JobSamples.{small_cut}
use Rattle.tiff_encode.proofs.encoder.jobs.image_steps.DirectoryEncoder+W+K+ImageState+T.chunk_step.Goals as goal

pub returns-in-Some-clause-draws : goal.returns-in-Some-clause-draws
returns-in-Some-clause-draws g c =
    let size = type_size g.T.TiffValue.value_type in
    let cut : ℕ → List ℕ = λ size. cut_to size c.args.numbers.now in
    c.given_step.ensures.draws c.args.numbers.now
    (ap cut c.fact_type.ensures ∙ ap (cut_to size) c.in-Some.ensures.same
    ∙ small_cut size (numbers_in size c.in-Some.bytes.now) c.fact_numbers.ensures)
    c.are_few.ensures

pub returns-in_err-samples-clause-draws : goal.returns-in_err-samples-clause-draws
returns-in_err-samples-clause-draws g c =
    search (rules, unfound_draws write_chunk (λ file i n. write_chunk_cause file i n 0) c.args.self.now.state c.args.numbers.now c.in_err-samples.field-0.0 c.args.self.now.encoder.now c.in_err-samples.ensures)

pub returns-clause-draws : goal.returns-clause-draws
returns-clause-draws g c =
    let number = sample_number (type_size g.T.TiffValue.value_type) g.T.Sample.bits in
    let cut : ℕ → List ℕ = λ size. cut_to size c.args.numbers.now in
    c.given_step-2.ensures.draws c.args.numbers.now
    (ap cut c.fact_type.ensures ∙ sym c.in_ok-samples.ensures
    ∙ ap (map number) (sym c.as_slice.ensures))
    c.are_few.ensures
