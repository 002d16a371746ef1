use Rattle.tiff_base.proofs.Turned.{turns_8}
use Rattle.tiff_base.proofs.turn.turn_lanes_8.Goals as goal

pub returns : goal.returns
returns c = turns_8 c.args.part.now c.requires
