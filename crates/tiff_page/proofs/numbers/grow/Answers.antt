use Rattle.std.proofs.Common.{arith, ◌∙◌, ◌≡◌, ◌-◌, ◌++◌, ◌≤◌, length}
use Rattle.std.specs.Prelude.{replicate}
use Rattle.std.specs.Vec.{vec_len}
use Rattle.std.proofs.lemmas.List.{take_all}
use Rattle.tiff_page.specs.lemmas.NumberBytes.{zeros_behind}
use Rattle.tiff_page.proofs.numbers.grow.Goals as goal

pub returns-in_ok-resize : goal.returns-in_ok-resize
returns-in_ok-resize g c =
    let old = c.args.numbers.now.items in
    let zero = c.zero.result in
    let long : vec_len c.args.numbers.now ≡ length old = omega (arith, c.args.numbers.now.ok) in
    let short : length old ≤ c.args.count =
    omega (arith, c.if-len-count.true, c.len.ensures, long) in
    let items =
    c.in_ok-resize.ensures.items ∙ (λ t. take_all c.args.count old short t
    ++ replicate (c.args.count - long t) zero) in
    zeros_behind g.T.Number.bits zero old c.resize.new.self.items
    (c.args.count - length old) c.zero.ensures items
