use Rattle.std.proofs.Common.{◌≡◌, length, refl, arith}
use Rattle.tiff_pages.proofs.Sums.{adler_made, first_after, second_after}
use Rattle.tiff_pages.proofs.adler.adler_32.Goals as goal

pub loop-byte-preserved : goal.loop-byte-preserved
loop-byte-preserved c =
    let first =
    first_after c.args.bytes.now c.loop-byte.byte-index c.from.result c.loop-byte.first _ c.loop-byte-test.true c.from.ensures c.loop-byte.invariant.first refl in
    record {
      first = first;
      second =
          second_after c.args.bytes.now c.loop-byte.byte-index _ c.loop-byte.second _ first c.loop-byte.invariant.second refl;
    }

pub returns : goal.returns
returns c =
    let all : c.loop-byte.byte-index ≡ length c.args.bytes.now = omega arith in
    adler_made c.args.bytes.now c.loop-byte.first c.loop-byte.second
    (rw all at c.loop-byte.invariant.first) (rw all at c.loop-byte.invariant.second)
