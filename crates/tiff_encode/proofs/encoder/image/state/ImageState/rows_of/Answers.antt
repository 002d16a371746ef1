use Rattle.std.proofs.Common.{◌<◌, ap, sym, ◌∙◌, subst}
use Rattle.tiff_encode.specs.Chunks.{image_page}
use Rattle.tiff_encode.specs.lemmas.ImageState.{strip_rows}
use Rattle.tiff_encode.proofs.encoder.image.state.ImageState.rows_of.Goals as goal

pub returns-in-Strip-clause-count : goal.returns-in-Strip-clause-count
returns-in-Strip-clause-count g c =
    let v = c.self.view_is in
    strip_rows (image_page c.args.self.now) c.args.chunk c.from-height.result c.from-down.result c.chunks_of_plane.result c.saturating_sub.result c.min.result
    (sym (ap (λ i. i.form.chunk_type) v) ∙ c.in-Strip.is)
    (sym (ap (λ i. i.form.chunk_width) v) ∙ c.self.invariant.cut.strips c.in-Strip.is
    ∙ ap (λ i. i.width) v)
    (subst (λ i. 0 < i.width) v c.self.invariant.wide.0)
    (c.from-height.ensures ∙ ap (λ i. i.form.chunk_height) v)
    (c.from-down.ensures ∙ ap (λ i. i.height) v)
    c.chunks_of_plane.ensures c.saturating_sub.ensures c.min.ensures
