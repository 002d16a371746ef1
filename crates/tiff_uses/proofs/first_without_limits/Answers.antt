use Rattle.std.proofs.Common.{◌≡◌, ℕ, List, None, Ok, ap, subst, ◌∙◌}
use Rattle.tiff_ifd.specs.declared.limits.Limits.{Limits}
use Rattle.tiff_decode.specs.Outcome.{decoder_of, set_limits}
use Rattle.std.proofs.lemmas.Result.{err_from_is_err_and}
use Rattle.tiff_uses.proofs.ReadBack.{image_is_first}
use Rattle.tiff_uses.proofs.Standing.{unsought_freely}
use Rattle.tiff_uses.proofs.first_without_limits.Goals as goal

pub returns-clause-first : goal.returns-clause-first
returns-clause-first c =
    let opened = c.in_ok-decoder.decoder in
    let IsOpened : List ℕ → Type 0 =
    λ bytes. decoder_of bytes 0 ≡ Ok (record opened { readable = None; failures = 0 }) in
    let free =
    c.with_limits-decoder.ensures
    ∙ ap (λ (l : Limits). record opened { state = (set_limits opened l).next }) c.unlimited.ensures in
    image_is_first c.walk_opens.ensures c.walk_seeks.ensures c.args.file.items opened c.with_limits-decoder.result c.seek_to_image.new.self c.read_image.new.self
    c.read_image.result (subst IsOpened c.new.ensures c.in_ok-decoder.ensures.answer) free c.in_ok-seek_to_image.ensures.follows c.read_image.ensures.follows

pub returns-in_err-seek_to_image-clause-answer : goal.returns-in_err-seek_to_image-clause-answer
returns-in_err-seek_to_image-clause-answer c =
    let answered =
    err_from_is_err_and c.from_residual-in_err-seek_to_image.result c.from_residual-in_err-seek_to_image.ensures.1 in
    let opened = c.in_ok-decoder.ensures in
    let free =
    c.with_limits-decoder.ensures
    ∙ ap (λ (l : Limits). record c.in_ok-decoder.decoder { state = (set_limits c.in_ok-decoder.decoder l).next }) c.unlimited.ensures in
    rw (answered.1, answered.2) (unsought_freely c.args.file.items c.in_ok-decoder.decoder (rw c.new.ensures at opened.answer)
    opened.readable opened.count _ c.with_limits-decoder.result c.seek_to_image.new.self
    c.in_err-seek_to_image.field-0.0 free c.in_err-seek_to_image.ensures.follows)
