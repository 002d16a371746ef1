use Rattle.std.proofs.Common.{◌≡◌, ℕ, ◌+◌, ◌-◌, ◌*◌, ◌<◌, ◌≤◌, length, sym, ◌∙◌, subst, arith}
use borrow.Rule.Slice.PartMut.{put_mid}
use Rattle.tiff_base.specs.Types.{type_size}
use Rattle.tiff_value.proofs.Parts.{PutUpto, written, put_next, first_bytes, later_bytes}
use Rattle.tiff_value.proofs.encoder.row_differences.put_row_part.Goals as goal

pub first-preserved : goal.first-preserved
first-preserved g c =
    let size = type_size g.T.TiffValue.value_type in
    let F =
    written g.T.Whole.bits size g.T.Whole.modulus g.met.T.Whole.all c.args.stride c.args.row.now in
    let at = c.args.at in
    let k = c.first.k in
    let part = c.put.new.out in
    let width : size ≡ c.from-width.result =
    sym (c.from-width.ensures ∙ c.type_and_len-kind.ensures.len) in
    let within : k < c.args.end = omega (arith, c.first-test.true, c.min-split.ensures) in
    let row : k < length c.args.row.now = omega (arith, within, c.requires.order) in
    let below : k < c.args.stride =
    omega (arith, c.first-test.true, c.first.auto.k, c.min-split.ensures, c.max.ensures) in
    subst (λ (w : ℕ). PutUpto F size at c.args.end (k
    + 1) (put_mid ((k - at) * w) ((k - at) * w + w - (k - at) * w) c.first.out part)) width
    (put_next F size at c.args.end k c.first.out part c.first.auto.k within
    (first_bytes g.T.Whole.bits size g.T.Whole.modulus g.met.T.Whole.all c.args.stride c.args.row.now k c.index-row-k.result part row below c.index-row-k.is c.put.ensures)
    c.first.invariant)

pub later-preserved : goal.later-preserved
later-preserved g c =
    let size = type_size g.T.TiffValue.value_type in
    let F =
    written g.T.Whole.bits size g.T.Whole.modulus g.met.T.Whole.all c.args.stride c.args.row.now in
    let at = c.args.at in
    let k = c.later.k in
    let part = c.put-in-later.new.out in
    let width : size ≡ c.from-width.result =
    sym (c.from-width.ensures ∙ c.type_and_len-kind.ensures.len) in
    let within : k < c.args.end = c.later-test.true in
    let row : k < length c.args.row.now = omega (arith, within, c.requires.order) in
    let after : c.args.stride ≤ k =
    omega (arith, within, c.later.auto.k, c.min-split.ensures, c.max.ensures) in
    let behind : at ≤ k =
    omega (arith, c.later.auto.k, c.min-split.ensures, c.max.ensures, c.requires.order) in
    subst (λ (w : ℕ). PutUpto F size at c.args.end (k
    + 1) (put_mid ((k - at) * w) ((k - at) * w + w - (k - at) * w) c.later.out part)) width
    (put_next F size at c.args.end k c.later.out part behind within
    (later_bytes g.T.Whole.bits size g.T.Whole.modulus g.met.T.Whole.all c.args.stride c.args.row.now k c.index-row-k-in-later.result c.index-row-k-in-later-2.result c.less.result
    part row after c.index-row-k-in-later.is c.index-row-k-in-later-2.is c.less.ensures.difference c.less.ensures.own c.less.ensures.others c.put-in-later.ensures)
    c.later.invariant)
