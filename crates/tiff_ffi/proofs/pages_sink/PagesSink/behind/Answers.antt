use Rattle.std.proofs.Common.{arith}
use Rattle.tiff_ffi.specs.PagesSink.{page_samples}
use Rattle.tiff_ffi.proofs.Stretches.{behind_len, behind_is}
use Rattle.tiff_ffi.proofs.pages_sink.PagesSink.behind.Goals as goal

pub overflow_sub-result : goal.overflow_sub-result
overflow_sub-result g c =
    let s = c.args.self.now in
    let size = s.sized in
    omega (arith, behind_len s.around.items s.fronts.items (page_samples s) s.kept s.in_fronts s.in_around, size, c.len.ensures)

pub returns-clause-is : goal.returns-clause-is
returns-clause-is g c =
    let s = c.args.self.now in
    let b =
    behind_len s.around.items s.fronts.items (page_samples s) s.kept s.in_fronts s.in_around in
    let size = s.sized in
    let l = c.len.ensures in
    let all = s.in_around in
    behind_is s.around.items s.fronts.items (page_samples s) s.kept s.in_fronts s.in_around _ _
    (omega (arith, l, all)) (omega (arith, b, size, l, all))

pub returns-clause-end : goal.returns-clause-end
returns-clause-end g c =
    let s = c.args.self.now in
    let size = s.sized in
    omega (arith, behind_len s.around.items s.fronts.items (page_samples s) s.kept s.in_fronts s.in_around, size, c.len.ensures)
