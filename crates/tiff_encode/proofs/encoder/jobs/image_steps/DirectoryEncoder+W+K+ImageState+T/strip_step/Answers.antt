use Rattle.std.proofs.Common.{rules, ◌≡◌, length, map, ap, sym, ◌∙◌, subst}
use Rattle.std.proofs.lemmas.List.{length-map}
use Rattle.tiff_base.specs.Types.{type_size}
use Rattle.tiff_value.specs.ColorType.{sample_number}
use Rattle.tiff_encode.specs.JobValues.{cut_to}
use Rattle.tiff_encode.specs.Calls.{write_strip}
use Rattle.tiff_encode.specs.Causes.{write_strip_cause}
use Rattle.tiff_encode.specs.ImageStepping.{StripDraws}
use Rattle.tiff_encode.proofs.Image.StepsStored.{cut_draws, unfound_draws, strips_store}
use Rattle.tiff_encode.proofs.encoder.jobs.image_steps.DirectoryEncoder+W+K+ImageState+T.strip_step.Goals as goal

pub returns-in_err-samples-clause-draws : goal.returns-in_err-samples-clause-draws
returns-in_err-samples-clause-draws g c =
    search (rules, unfound_draws write_strip (λ file i n. write_strip_cause file i n 0) c.args.self.now.state c.args.numbers.now c.in_err-samples.field-0.0 c.args.self.now.encoder.now c.in_err-samples.ensures)

pub returns-clause-draws : goal.returns-clause-draws
returns-clause-draws g c =
    let i = c.args.self.now.state in
    let number = sample_number (type_size g.T.TiffValue.value_type) g.T.Sample.bits in
    let r = c.write_strip-answer.result in
    let cut : cut_to i.size c.args.numbers.now ≡ map number c.as_slice.result.now =
    ap (λ z. cut_to z c.args.numbers.now) c.fact_type.ensures ∙ sym c.in_ok-samples.ensures
    ∙ ap (map number) (sym c.as_slice.ensures) in
    let count : length c.as_slice.result.now ≡ length (map number c.as_slice.result.now) =
    sym (length-map c.as_slice.result.now number) in
    subst (λ y. StripDraws i c.args.numbers.now y c.args.self.now.encoder.now c.write_strip-answer.new.self.encoder.now c.write_strip-answer.new.self.state)
    (sym c.replied.ensures)
    (cut_draws write_strip (λ file i n. write_strip_cause file i n 0) strips_store i c.write_strip-answer.new.self.state c.args.numbers.now (map number c.as_slice.result.now) (length c.as_slice.result.now) r
    c.args.self.now.encoder.now c.write_strip-answer.new.self.encoder.now cut count
    c.are_few.ensures c.fact_short.ensures c.fact_short-2.ensures c.write_strip-answer.ensures.answer c.write_strip-answer.ensures.leaves)
