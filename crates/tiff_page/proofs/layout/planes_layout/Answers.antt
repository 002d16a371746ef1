use Rattle.tiff_page.specs.PageView as view
use Rattle.tiff_page.specs.lemmas.Planes.{colored, some_planes}
use Rattle.tiff_page.proofs.layout.planes_layout.Goals as goal

pub returns-clause-some : goal.returns-clause-some
returns-clause-some c =
    let p = view.page c.args.page.now in
    let l = c.in_ok-layout.layout in
    some_planes p l.color c.args.page.now.sampled (colored p c.args.width c.args.height l.color l.row_bytes l.plane_stride c.in_ok-layout.ensures.answer)
