use Rattle.std.proofs.Common.{◌≡◌, ℕ, ◌+◌, ◌-◌, ◌*◌, subst, refl, arith}
use borrow.Rule.Slice.PartMut.{put_mid}
use Rattle.tiff_value.proofs.Lanes.{Upto, upto_first, upto_lanes, upto_one, upto_all}
use Rattle.tiff_value.proofs.encoder.row_differences.less_all.Goals as goal

pub parts-init : goal.parts-init
parts-init g c =
    let z : c.args.stride ≡ c.args.stride + 0 = omega arith in
    subst (λ (n : ℕ). Upto g.T.Whole.bits g.T.Whole.modulus c.args.stride c.args.row.now n c.args.out.now) z
    (upto_first g.T.Whole.bits g.T.Whole.modulus c.args.stride c.args.row.now c.args.out.now c.requires.whole c.requires.begun)

pub parts-preserved : goal.parts-preserved
parts-preserved g c =
    let s = c.args.stride in
    let row = c.args.row.now in
    let at = s + c.parts.k * 16 in
    let here : s + 16 * c.parts.k ≡ at = omega arith in
    let more : at + 16 ≡ s + 16 * (c.parts.k + 1) = omega arith in
    let part = c.less_lanes.new.out in
    let h =
    subst (λ (n : ℕ). Upto g.T.Whole.bits g.T.Whole.modulus s row n c.parts.out) here c.parts.invariant in
    subst (λ (n : ℕ). Upto g.T.Whole.bits g.T.Whole.modulus s row n (put_mid at (at
    + 16 - at) c.parts.out part)) more
    (upto_lanes g.T.Whole.bits g.T.Whole.modulus s row 16 at c.parts.out part (omega arith) (omega (arith, c.parts-test.true, c.requires.whole)) c.all_below.ensures h c.less_lanes.ensures)

pub rest-preserved : goal.rest-preserved
rest-preserved g c =
    upto_one g.T.Whole.bits g.T.Whole.modulus c.args.stride c.args.row.now c.rest.i c.index-row-i.result c.index-row-i-in-rest.result c.less.result
    c.rest.out _ (omega (arith, c.rest.auto.i)) c.rest-test.true c.index-row-i.is c.index-row-i-in-rest.is c.less.ensures.difference c.rest.invariant refl

pub returns : goal.returns
returns g c =
    let ended = c.rest.auto.i-end (omega (arith, c.requires.whole)) in
    upto_all g.T.Whole.bits g.T.Whole.modulus c.args.stride c.args.row.now c.rest.i c.rest.out c.requires.some c.requires.whole
    (omega (arith, ended, c.rest-test.false)) c.rest.invariant
