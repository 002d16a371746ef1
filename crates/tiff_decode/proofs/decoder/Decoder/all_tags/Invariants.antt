use Rattle.std.proofs.Common.{length}
use Rattle.tiff_decode.proofs.TagList.{Taken}
use Rattle.tiff_decode.specs.Items.{items_left}
use Rattle.tiff_decode.proofs.decoder.Decoder.all_tags.Given as goal

abbrev pub invariant-loop-item : goal.invariant-loop-item
invariant-loop-item g l = Taken l.fn.self l.self l.last l.items.items

abbrev pub decreases-loop-item : goal.decreases-loop-item
decreases-loop-item g l = length (items_left l.self l.last)
