use Rattle.std.proofs.Common.{sym}
use Rattle.tiff_ifd.proofs.Sames.{lengths_differ}
use Rattle.tiff_ifd.proofs.value.+same.Goals as goal

pub all_same-returns-then-a-b : goal.all_same-returns-then-a-b
all_same-returns-then-a-b t c = sym (lengths_differ c.args.a.now c.args.b.now c.if-a-b.true)
