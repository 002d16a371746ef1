use Rattle.tiff.specs.Outcome.{read_image}
use Rattle.tiff.specs.Result.{decoded_as}
use Rattle.tiffpage_lib.specs.Samples.{page_image}
use Rattle.tiff_pages.specs.lemmas.PageReads.{reads_page}
use Rattle.tiffpage_lib.proofs.view.samples_here.Goals as goal

pub returns : goal.returns
unfolding read_image
returns g c =
    reads_page decoded_as (page_image c.args.decoder.now) c.read_image.result c.args.decoder.now c.read_image.new.self c.read_image.ensures.follows
