use Rattle.tiff.specs.Outcome as outcome
use Rattle.tiffpage_lib.proofs.Shown.{tells_page}
use Rattle.tiffpage_lib.proofs.view.sides_here.Goals as goal

pub returns : goal.returns
unfolding outcome.dimensions
returns g c =
    tells_page _ (λ s. s) (outcome.dimensions c.args.decoder.now).answer c.dimensions.result c.args.decoder.now c.dimensions.new.self c.dimensions.ensures
