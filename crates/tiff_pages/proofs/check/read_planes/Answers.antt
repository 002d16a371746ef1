use Rattle.tiff_decode.specs.Outcome.{read_image_to_buffer}
use Rattle.tiff_decode.specs.Result.{decoded_as}
use Rattle.tiff_pages.specs.Check.{planes_read}
use Rattle.tiff_pages.specs.lemmas.PageReads.{reads_page}
use Rattle.tiff_pages.proofs.check.read_planes.Goals as goal

pub returns : goal.returns
unfolding read_image_to_buffer
returns g c =
    reads_page (λ layout. (layout, decoded_as c.read_image_to_buffer.new.samples))
    (planes_read c.args.decoder.now c.args.decoder.now.state.page) c.read_image_to_buffer.result
    c.args.decoder.now c.read_image_to_buffer.new.self c.read_image_to_buffer.ensures.follows
