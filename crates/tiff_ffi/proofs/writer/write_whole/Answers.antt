use Rattle.std.proofs.Common.{rules, sym, ap, ◌∙◌}
use Rattle.tiff_base.specs.Types.{type_size}
use Rattle.tiff_value.specs.ColorTypes.{color_type, inner_type}
use Rattle.tiff_base.specs.lemmas.MemoryFaults.{only_memory}
use Rattle.tiff_ffi.proofs.Writing.{fault_written, file_written}
use Rattle.tiff_ffi.proofs.writer.write_whole.Goals as goal

pub returns : goal.returns
returns g c =
    file_written c.args.settings.now c.args.image.now.width c.args.image.now.height c.in_ok-encoder.ensures.0 _ c.in_ok-encoder.encoder c.write_image-answer.new.self _ _ c.in_ok-encoder.ensures.1
    (g.met.C.NamedColorType.named ∙ ap color_type (sym c.requires.named))
    (ap type_size (g.met.C.NamedColorType.in_memory ∙ ap inner_type (sym c.requires.named)))
    (only_memory c.write_image-answer.new.self.fault c.into_inner.result.refused c.into_inner.ensures.fault) c.into_vec-file.result.items
    c.in_ok-answer.ensures.answer c.in_ok-answer.ensures.leaves (c.into_vec-file.ensures
    ∙ c.into_inner.ensures.bytes)

pub returns-in_err-answer : goal.returns-in_err-answer
returns-in_err-answer g c =
    let told =
    fault_written c.args.settings.now c.args.image.now.width c.args.image.now.height c.in_ok-encoder.ensures.0 _ c.in_ok-encoder.encoder c.write_image-answer.new.self _ _ c.in_ok-encoder.ensures.1
    (g.met.C.NamedColorType.named ∙ ap color_type (sym c.requires.named))
    (ap type_size (g.met.C.NamedColorType.in_memory ∙ ap inner_type (sym c.requires.named)))
    (only_memory c.write_image-answer.new.self.fault c.into_inner.result.refused c.into_inner.ensures.fault) c.in_err-answer.field-0.0
    c.in_err-answer.ensures.answer in
    search rules
