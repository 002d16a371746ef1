use Rattle.tiff_base.proofs.Turned.{turns_2}
use Rattle.tiff_base.proofs.turn.turn_lanes_2.Goals as goal

pub returns : goal.returns
returns c = turns_2 c.args.part.now c.requires
