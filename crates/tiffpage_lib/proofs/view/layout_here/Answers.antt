use Rattle.tiff.specs.Outcome as outcome
use Rattle.tiffpage_lib.proofs.Shown.{tells_page}
use Rattle.tiffpage_lib.proofs.view.layout_here.Goals as goal

pub returns : goal.returns
unfolding outcome.image_buffer_layout
returns g c =
    tells_page _ (λ l. l) (outcome.image_buffer_layout c.args.decoder.now).answer c.image_buffer_layout.result c.args.decoder.now c.image_buffer_layout.new.self c.image_buffer_layout.ensures.follows
