use Rattle.std.proofs.Common.{arith}
use Rattle.tiff_base.specs.Types.{type_size}
use Rattle.tiff_value.specs.ColorType.{sample_number}
use Rattle.tiff_encode.proofs.Data.Cutting.{one_cut, all_cut}
use Rattle.tiff_encode.proofs.encoder.job_samples.cut_numbers.Goals as goal

pub push_reserved-requires : goal.push_reserved-requires
push_reserved-requires g c = omega (arith, c.loop-number.invariant.room, c.loop-number-test.true)

pub loop-number-preserved : goal.loop-number-preserved
loop-number-preserved g c =
    let size = type_size g.S.TiffValue.value_type in
    let h = c.push_reserved.ensures in
    record {
      cut =
          one_cut (sample_number size g.S.Sample.bits) size c.args.numbers.now c.loop-number.samples.items c.push_reserved.new.self.items c.cut.result c.loop-number.number-index
          c.loop-number-test.true c.loop-number.invariant.cut h.items c.cut.ensures;
      room =
          omega (arith, c.loop-number.invariant.room, c.loop-number-test.true, h.len, h.capacity);
    }

pub returns : goal.returns
returns g c =
    all_cut (type_size g.S.TiffValue.value_type) c.args.numbers.now c.loop-number.number-index _ c.loop-number-test.false c.loop-number.auto.number-index-end c.loop-number.invariant.cut
