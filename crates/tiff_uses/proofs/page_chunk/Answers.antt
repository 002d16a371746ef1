use Rattle.std.proofs.lemmas.Result.{err_from_is_err_and}
use Rattle.tiff_uses.proofs.Standing.{unsought}
use Rattle.tiff_uses.proofs.page_chunk.Goals as goal

pub returns-in_err-seek_to_image : goal.returns-in_err-seek_to_image
returns-in_err-seek_to_image c =
    let answered =
    err_from_is_err_and c.from_residual-in_err-seek_to_image.result c.from_residual-in_err-seek_to_image.ensures.1 in
    let opened = c.in_ok-decoder.ensures in
    rw (answered.1, answered.2) (unsought c.args.file.items c.in_ok-decoder.decoder (rw c.new.ensures at opened.answer)
    opened.readable opened.count _ c.args.page c.args.chunk c.seek_to_image.new.self
    c.in_err-seek_to_image.field-0.0 c.in_err-seek_to_image.ensures.follows)
