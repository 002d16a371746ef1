use Rattle.std.proofs.Common.{take}
use Rattle.tiff_decode.specs.Reader.{EachGives}
use Rattle.tiff_decode.proofs.ifd_decoder.all_as.Given as goal

abbrev pub invariant-loop-n : goal.invariant-loop-n
invariant-loop-n g l = EachGives g.T.TryFrom.try_from_gives (take l.n-index l.numbers) l.all.items
