use Rattle.tiff_base.proofs.Turned.{turns_4}
use Rattle.tiff_base.proofs.turn.turn_lanes_4.Goals as goal

pub returns : goal.returns
returns c = turns_4 c.args.part.now c.requires
