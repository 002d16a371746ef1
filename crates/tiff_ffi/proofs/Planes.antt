-- A page has one plane, or as many as its color has samples.
use Rattle.std.proofs.Common.{◌≡◌, ◌*◌, ◌^◌, ◌<◌, Result, Ok, subst, sym, ◌∙◌, lit<, arith}
use Rattle.tiff_base.specs.declared.color.ColorType.{ColorType}
use Rattle.tiff_base.specs.declared.error.TiffError.{TiffError}
use Rattle.tiff_base.specs.declared.tags.PlanarConfiguration.{PlanarConfiguration}
use Rattle.tiff_base.specs.declared.tags.PlanarConfiguration.TheVariants.{Chunky, Planar}
use Rattle.tiff_base.specs.Answers.{◌>>=◌}
use Rattle.tiff_base.specs.Color.{num_samples}
use Rattle.tiff_base.specs.lemmas.Common.{bind_ok}
use Rattle.tiff_page.specs.declared.layout.BufferLayoutPreference.{BufferLayoutPreference}
use Rattle.tiff_page.specs.Buffers.{all_planes, image_buffer_layout, planes_layout}
use Rattle.tiff_page.specs.Layout.{LayoutRecord, color_of, layout_of, planes, wide}
use Rattle.tiff_page.specs.Page.{PageRecord}
use Rattle.tiff_page.specs.lemmas.Planes.{layout_gives}

few : (planar : PlanarConfiguration) (color : ColorType) → num_samples color < 2 ^ 16
    → planes planar color < 2 ^ 32
few Chunky color h = lit< tt
few Planar color h = omega (arith, h)

-- The color of a layout is the color of the page.
same_color : (a b : ColorType) → let x : Result ColorType TiffError =
    Ok a in let y : Result ColorType TiffError = Ok b in x ≡ y → a ≡ b
same_color a b h = cc

same_layout : (a b : LayoutRecord) → let x : Result LayoutRecord TiffError =
    Ok a in let y : Result LayoutRecord TiffError = Ok b in x ≡ y → a ≡ b
same_layout a b h = cc

same_buffer : (a b : BufferLayoutPreference) → let x : Result BufferLayoutPreference TiffError =
    Ok a in let y : Result BufferLayoutPreference TiffError = Ok b in x ≡ y
    → a ≡ b
same_buffer a b h = cc

laid_color : (p : PageRecord) (l : LayoutRecord) → planes_layout p p.width p.height ≡ Ok l
    → color_of p ≡ Ok l.color
unfolding planes_layout
laid_color p l h =
    let whole : LayoutRecord → Result LayoutRecord TiffError =
    λ k. wide (k.plane_stride * planes p.planar k.color) >>= (λ _. Ok k) in
    let a = bind_ok (layout_of p p.width p.height) whole l h in
    let b = bind_ok (wide (a.0.plane_stride * planes p.planar a.0.color)) (λ _. Ok a.0) l a.1.1 in
    let P : LayoutRecord → Type 0 = λ k. color_of p ≡ Ok k.color in
    subst P (same_layout a.0 l b.1.1) (layout_gives p p.width p.height a.0 a.1.0).1.0

pub planes_few : (p : PageRecord) (color : ColorType) (l : BufferLayoutPreference)
    → color_of p ≡ Ok color → image_buffer_layout p ≡ Ok l → num_samples color < 2 ^ 16
    → l.planes < 2 ^ 32
unfolding image_buffer_layout
planes_few p color l c h f =
    let a = bind_ok (planes_layout p p.width p.height) (λ k. Ok (all_planes p k)) l h in
    let same : color ≡ a.0.color = same_color color a.0.color (sym c ∙ laid_color p a.0 a.1.0) in
    let P : ColorType → Type 0 = λ k. num_samples k < 2 ^ 16 in
    let Q : BufferLayoutPreference → Type 0 = λ k. k.planes < 2 ^ 32 in
    subst Q (same_buffer (all_planes p a.0) l a.1.1) (few p.planar a.0.color (subst P same f))
