use Rattle.std.proofs.Common.{◌≡◌, Ok, Result, ap, subst, sym, ◌∙◌}
use Rattle.tiff_base.specs.declared.color.ColorType.{ColorType}
use Rattle.tiff_base.specs.declared.error.TiffError.{TiffError}
use Rattle.tiff_base.specs.Answers.{◌>>=◌, AnswersWithoutSource}
use Rattle.tiff_page.specs.declared.layout.BufferLayoutPreference.{BufferLayoutPreference}
use Rattle.tiff_decode.specs.Machine.{Decoding}
use Rattle.tiff_decode.specs.Outcome.{colortype, image_buffer_layout}
use Rattle.tiff_ffi.specs.declared.calls.PageSamples.{PageSamples}
use Rattle.tiff_ffi.specs.Calls.{samples_in, samples_of_page}
use Rattle.tiff_ffi.proofs.calls.samples_here.Goals as goal

-- What holds for the color and the layout of a page holds for the page.
told : (d e f : Decoding) (color : ColorType) (layout : BufferLayoutPreference)
    (result : Result PageSamples TiffError) → e ≡ d → f ≡ e
    → (colortype d).answer ≡ Ok color → (image_buffer_layout e).answer ≡ Ok layout
    → AnswersWithoutSource {X = PageSamples} (λ s. s) result (samples_in f color layout)
    → AnswersWithoutSource {X = PageSamples} (λ s. s) result (samples_of_page d)
told d e f color layout result same again is_color is_layout h =
    let laid : (image_buffer_layout d).answer ≡ Ok layout =
    subst (λ x. (image_buffer_layout x).answer ≡ Ok layout) same is_layout in
    let is : samples_of_page d ≡ samples_in f color layout =
    ap (λ (r : Result ColorType TiffError). r
    >>= λ c. ((image_buffer_layout d).answer >>= λ l. samples_in d c l)) is_color
    ∙ ap (λ (r : Result BufferLayoutPreference TiffError). r >>= λ l. samples_in d color l) laid
    ∙ ap (λ x. samples_in x color layout) (sym (again ∙ same)) in
    let P : Result PageSamples TiffError → Type 0 =
    λ r. AnswersWithoutSource {X = PageSamples} (λ s. s) result r in
    subst P (sym is) h

pub returns : goal.returns
unfolding colortype image_buffer_layout
returns c =
    told c.args.decoder.now c.colortype.new.self c.image_buffer_layout.new.self c.in_ok-color.color c.in_ok-layout.layout c.samples_in.result
    c.in_ok-color.ensures.1 c.in_ok-layout.ensures.follows.1 c.in_ok-color.ensures.0 c.in_ok-layout.ensures.follows.0 c.samples_in.ensures
