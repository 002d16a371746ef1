use Rattle.tiff_rewrite.proofs.NumberPlaces.{puts_byte}
use Rattle.tiff_rewrite.proofs.numbers.put_byte.Goals as goal

pub returns : goal.returns
returns c = puts_byte c.args.order c.args.row.now c.args.k c.args.value c.requires
