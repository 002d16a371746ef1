use Rattle.std.proofs.Common.{ℕ, List, Ok, Result, ◌∙◌, arith, sym}
use Rattle.tiff_base.specs.declared.tags.FileKind.{FileKind}
use Rattle.tiff_base.specs.declared.error.TiffError.{TiffError}
use Rattle.tiff_ffi.specs.Pages.{LeftPages}
use Rattle.tiff_ffi.proofs.ParentsRan.{one_ran, one_refused}
use Rattle.tiff_ffi.proofs.parents.run_children.Goals as goal

pub returns-then-is_some : goal.returns-then-is_some
returns-then-is_some g c =
    let kind : FileKind = g.K.TiffKind.kind in
    let contents : List ℕ = g.F.PagesFile.contents c.loop-child.file in
    let left : List ℕ = g.F.PagesFile.contents c.in_ok-left.left in
    let outcome : Result LeftPages TiffError = Ok (left, c.in_ok-left.refused) in
    c.loop-child.invariant outcome
    (one_refused kind c.args.links.floor c.args.children.now c.loop-child.child-index c.child-item.result (omega arith) c.child-item.is c.loop-child.places contents
    c.run_child.new.places left c.in_ok-left.refused (sym c.is_some.ensures ∙ c.if-is_some.true) c.in_ok-left.ensures)

pub loop-child-preserved : goal.loop-child-preserved
loop-child-preserved g c =
    let kind : FileKind = g.K.TiffKind.kind in
    let contents : List ℕ = g.F.PagesFile.contents c.loop-child.file in
    let left : List ℕ = g.F.PagesFile.contents c.in_ok-left.left in
    λ outcome behind. c.loop-child.invariant outcome
    (one_ran kind c.args.links.floor c.args.children.now c.loop-child.child-index c.child-item.result (omega arith) c.child-item.is c.loop-child.places contents
    c.run_child.new.places left c.in_ok-left.refused outcome (sym c.is_some.ensures ∙ c.if-is_some.false) c.in_ok-left.ensures behind)
