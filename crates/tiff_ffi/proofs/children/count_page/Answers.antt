use Rattle.std.proofs.Common.{arith}
use Rattle.tiff_ffi.proofs.Counts.{nothing, none_before, one_more, room, some_before}
use Rattle.tiff_ffi.proofs.children.count_page.Goals as goal

pub overflow_add-before : goal.overflow_add-before
overflow_add-before c =
    let r =
    room c.args.counts.now.items c.args.pages.now c.args.i nothing c.requires.within c.requires.counted c.index-before.result.now c.index-before.ensures (omega (arith, c.if-parent-len.true, c.len.ensures)) in
    omega (arith, r, c.requires.within, c.ranges.i)

pub returns-then-parent-len-clause-counted : goal.returns-then-parent-len-clause-counted
returns-then-parent-len-clause-counted c =
    one_more c.args.counts.now.items c.args.pages.now c.args.i nothing c.requires.within c.requires.counted c.index-before.result.now c.index-before.ensures (omega (arith, c.if-parent-len.true, c.len.ensures))

pub returns-then-parent-len-clause-result : goal.returns-then-parent-len-clause-result
returns-then-parent-len-clause-result c =
    some_before c.args.counts.now.items c.args.pages.now c.args.i nothing c.requires.within c.requires.counted c.index-before.result.now c.index-before.ensures (omega (arith, c.if-parent-len.true, c.len.ensures))

pub returns-clause-result : goal.returns-clause-result
returns-clause-result c =
    none_before c.args.counts.now.items c.args.pages.now c.args.i nothing c.requires.within c.requires.counted (omega (arith, c.if-parent-len.false, c.len.ensures))
