use Rattle.std.proofs.Common.{◌≡◌, [], ◌∷◌, ◌++◌, Ok, sym}
use Rattle.tiff_value.proofs.Values.{scalar_pushed, spelled_more}
use Rattle.tiff_value.proofs.encoder.tiff_value.TiffScalar.push_all.Goals as goal

pub loop-item-preserved : goal.loop-item-preserved
loop-item-preserved g c =
    let x = c.item-item.result in
    let pushed : c.push_to.new.out.items ≡ c.loop-item.out.items ++ g.Self.TiffScalar.spelled x =
    scalar_pushed g.Self.TiffValue.value_type g.Self.TiffScalar.spelled x _ _ c.loop-item.out.items c.push_to.new.out.items (Ok tt)
    (g.met.Self.TiffScalar.alone x) (g.met.Self.TiffScalar.listed (x
    ∷ [])) c.in_ok-push_to.ensures.answer in
    spelled_more g.Self.TiffScalar.spelled c.args.items.now c.loop-item.item-index x c.args.out.now.items c.loop-item.out.items c.push_to.new.out.items
    c.loop-item-test.true (sym c.item-item.is) c.loop-item.invariant pushed
