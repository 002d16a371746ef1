use Rattle.std.proofs.Common.{◌≡◌, ◌++◌, MatchResult, map, ap, sym, ◌∙◌, subst, arith}
use Rattle.std.proofs.lemmas.List.{map-append}
use Rattle.tiff_base.specs.declared.error.TiffError.TheVariants.{OutOfMemory}
use Rattle.tiff_base.specs.Types.{type_size}
use Rattle.tiff_value.specs.ColorType.{sample_number}
use Rattle.tiff_encode.specs.Chunks.{image_page}
use Rattle.tiff_encode.specs.Parts.{rect_of}
use Rattle.tiff_encode.specs.lemmas.Data.Cut.{not_planar, pixels_inside, chunky_cut, planar_cut}
use Rattle.tiff_encode.proofs.encoder.image.state.ImageState.push_pixels.Goals as goal

pub overflow_mul-start-2 : goal.overflow_mul-start-2
overflow_mul-start-2 g c =
    let wide = c.from-width.ensures ∙ ap (λ i. i.width) c.self.view_is in
    omega (arith, pixels_inside (image_page c.args.self.now) (rect_of c.args.chunk_area) c.args.row _ _ c.requires.part c.requires.row wide c.samples-all.ensures.count, c.requires.fits)

pub overflow_add-end : goal.overflow_add-end
overflow_add-end g c =
    let wide = c.from-width.ensures ∙ ap (λ i. i.width) c.self.view_is in
    omega (arith, pixels_inside (image_page c.args.self.now) (rect_of c.args.chunk_area) c.args.row _ _ c.requires.part c.requires.row wide c.samples-all.ensures.count, c.requires.fits)

pub offset_bounds-samples-start : goal.offset_bounds-samples-start
offset_bounds-samples-start g c =
    let wide = c.from-width.ensures ∙ ap (λ i. i.width) c.self.view_is in
    omega (arith, pixels_inside (image_page c.args.self.now) (rect_of c.args.chunk_area) c.args.row _ _ c.requires.part c.requires.row wide c.samples-all.ensures.count, c.requires.whole)

pub slice_bounds-pixels-end : goal.slice_bounds-pixels-end
slice_bounds-pixels-end g c =
    let wide = c.from-width.ensures ∙ ap (λ i. i.width) c.self.view_is in
    omega (arith, pixels_inside (image_page c.args.self.now) (rect_of c.args.chunk_area) c.args.row _ _ c.requires.part c.requires.row wide c.samples-all.ensures.count, c.requires.whole)

pub returns-in-Planar : goal.returns-in-Planar
returns-in-Planar g c =
    let number = sample_number (type_size g.T.TiffValue.value_type) g.T.Sample.bits in
    let wide = c.from-width.ensures ∙ ap (λ i. i.width) c.self.view_is in
    let planar = sym (ap (λ i. i.form.planar) c.self.view_is) ∙ c.in-Planar.is in
    subst (λ xs. MatchResult c.push_plane.result (λ _. map number c.push_plane.new.out.items
    ≡ map number c.args.out.now.items ++ xs) (λ e. e ≡ OutOfMemory))
    (planar_cut number c.args.samples.now (image_page c.args.self.now) (rect_of c.args.chunk_area) c.args.row _ _ c.requires.part c.requires.row wide c.samples-all.ensures.count c.requires.whole planar)
    c.push_plane.ensures

pub returns-in_ok-extend_from_slice-in_default : goal.returns-in_ok-extend_from_slice-in_default
returns-in_ok-extend_from_slice-in_default g c =
    let number = sample_number (type_size g.T.TiffValue.value_type) g.T.Sample.bits in
    let wide = c.from-width.ensures ∙ ap (λ i. i.width) c.self.view_is in
    let chunky =
    sym (ap (λ i. i.form.planar) c.self.view_is)
    ∙ not_planar c.self.inside.form.planar c.in_default.not-Planar in
    ap (map number) c.in_ok-extend_from_slice-in_default.ensures.items
    ∙ map-append number c.args.out.now.items _
    ∙ ap (λ xs. map number c.args.out.now.items ++ xs)
    (chunky_cut number c.args.samples.now (image_page c.args.self.now) (rect_of c.args.chunk_area) c.args.row _ _ c.requires.part c.requires.row wide c.samples-all.ensures.count c.requires.whole chunky)
