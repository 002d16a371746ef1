use Rattle.tiff.specs.Outcome as outcome
use Rattle.tiffpage_lib.proofs.Shown.{tells_page}
use Rattle.tiffpage_lib.proofs.view.color_here.Goals as goal

pub returns : goal.returns
unfolding outcome.colortype
returns g c =
    tells_page _ (λ c. c) (outcome.colortype c.args.decoder.now).answer c.colortype.result c.args.decoder.now c.colortype.new.self c.colortype.ensures
