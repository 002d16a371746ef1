use Rattle.std.proofs.Common.{drop, Result}
use Rattle.tiff_base.specs.declared.error.TiffError.{TiffError}
use Rattle.tiff_ffi.specs.Pages.{ChildrenRan, LeftPages}
use Rattle.tiff_ffi.proofs.parents.run_children.Given as goal

-- An outcome of the pages that are left is one of all.
abbrev pub invariant-loop-child : goal.invariant-loop-child
invariant-loop-child g l = (outcome : Result LeftPages TiffError)
    → ChildrenRan g.K.TiffKind.kind l.links.floor (drop l.child-index l.children) l.places
    (g.F.PagesFile.contents l.file) outcome
    → ChildrenRan g.K.TiffKind.kind l.links.floor l.children l.fn.places
    (g.F.PagesFile.contents l.fn.file) outcome
