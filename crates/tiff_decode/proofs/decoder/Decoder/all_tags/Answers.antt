use Rattle.tiff_decode.proofs.TagList.{one_more}
use Rattle.tiff_decode.proofs.decoder.Decoder.all_tags.Goals as goal

pub loop-item-preserved : goal.loop-item-preserved
loop-item-preserved g c =
    one_more c.args.self.now c.loop-item.self c.next_item.new.self c.loop-item.last c.next_item.new.last c.loop-item.items.items c.add.new.items.items c.in-Some.item
    c.loop-item.invariant c.in-Some.ensures.state c.in-Some.ensures.count c.in-Some.ensures.item c.in_ok-add.ensures.ok
