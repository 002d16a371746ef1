use Rattle.std.proofs.Common.{rules, ℕ, Result, Err}
use Rattle.tiff_base.specs.declared.color.ColorType.{ColorType}
use Rattle.tiff_base.specs.declared.error.TiffError.{TiffError}
use Rattle.tiff.specs.Answers.{◌>>=◌}
use Rattle.tiff.specs.Machine.{Decoding}
use Rattle.tiff.specs.Outcome as outcome
use Rattle.tiff_page.specs.declared.layout.BufferLayoutPreference.{BufferLayoutPreference}
use Rattle.tiffpage_lib.specs.View.{shape_of}
use Rattle.tiffpage_lib.specs.declared.view.Shape.{Shape}
use Rattle.tiff_pages.specs.Check.{ReadsPage}
use Rattle.tiff_pages.specs.lemmas.PageReads.{read_refused, read_then}
use Rattle.tiffpage_lib.proofs.Shown.{reads_more}
use Rattle.tiffpage_lib.proofs.view.shape_here.Goals as goal
use Rattle.tiffpage_lib.proofs.view.shape_here.Goals.{In_ok-color, In_ok-layout}

-- What follows the color and the layout.
abbrev with_layout : ColorType → Decoding → BufferLayoutPreference → Result Shape TiffError
with_layout color d layout =
    (outcome.dimensions d).answer >>= λ sides. shape_of sides color layout.planes

abbrev with_color : Decoding → ColorType → Result Shape TiffError
with_color d color = (outcome.image_buffer_layout d).answer >>= with_layout color d

-- What follows the color that was read is a read of the page.
past_color : (g : _) (c : In_ok-color g) (shape : Result Shape TiffError) (last : Decoding)
    → ReadsPage (λ s. s) (with_color c.color_here.new.decoder c.in_ok-color.color) shape c.color_here.new.decoder last
    → ReadsPage (λ s. s) ((outcome.colortype c.args.decoder.now).answer >>= with_color c.args.decoder.now) shape c.args.decoder.now last
past_color g c shape last then =
    reads_more {X = ColorType} {X' = Shape} (λ c. c) (λ s. s) (outcome.colortype c.args.decoder.now).answer with_color c.in_ok-color.color shape c.args.decoder.now c.color_here.new.decoder last c.in_ok-color.ensures then

-- The same of the layout.
past_layout : (g : _) (c : In_ok-layout g) (shape : Result Shape TiffError) (last : Decoding)
    → ReadsPage (λ s. s) (with_layout c.in_ok-color.color c.layout_here.new.decoder c.in_ok-layout.layout) shape c.layout_here.new.decoder last
    → ReadsPage (λ s. s) (with_color c.color_here.new.decoder c.in_ok-color.color) shape c.color_here.new.decoder last
past_layout g c shape last then =
    reads_more {X = BufferLayoutPreference} {X' = Shape} (λ l. l) (λ s. s)
    (outcome.image_buffer_layout c.color_here.new.decoder).answer (with_layout c.in_ok-color.color) c.in_ok-layout.layout shape c.color_here.new.decoder c.layout_here.new.decoder last c.in_ok-layout.ensures then

pub returns-in_err-color : goal.returns-in_err-color
unfolding outcome.dimensions
returns-in_err-color g c =
    let d = c.args.decoder.now in
    let told =
    read_refused {X = ColorType} {X' = Shape} (λ c. c) (λ s. s) (outcome.colortype d).answer
    (with_color d) c.in_err-color.field-0.0 d c.color_here.new.decoder c.in_err-color.ensures in
    search rules

pub returns-in_err-layout : goal.returns-in_err-layout
unfolding outcome.dimensions
returns-in_err-layout g c =
    let mid = c.color_here.new.decoder in
    let fault = c.in_err-layout.field-0.0 in
    let told =
    past_color g (goal.at.returns-in_err-layout g c).In_ok-color (Err fault) c.layout_here.new.decoder
    (read_refused {X = BufferLayoutPreference} {X' = Shape} (λ l. l) (λ s. s)
    (outcome.image_buffer_layout mid).answer (with_layout c.in_ok-color.color mid) fault mid c.layout_here.new.decoder c.in_err-layout.ensures) in
    search rules

pub returns-in_err-sides : goal.returns-in_err-sides
unfolding outcome.dimensions
returns-in_err-sides g c =
    let last = c.sides_here.new.decoder in
    let told =
    past_color g (goal.at.returns-in_err-sides g c).In_ok-color _ last
    (past_layout g (goal.at.returns-in_err-sides g c).In_ok-layout _ last
    (read_refused {X = ℕ × ℕ} {X' = Shape} (λ s. s) (λ s. s) (outcome.dimensions c.layout_here.new.decoder).answer
    (λ sides. shape_of sides c.in_ok-color.color c.in_ok-layout.layout.planes) c.in_err-sides.field-0.0 c.layout_here.new.decoder last c.in_err-sides.ensures)) in
    search rules

pub returns : goal.returns
unfolding outcome.dimensions
returns g c =
    past_color g (goal.at.returns g c).In_ok-color _ _
    (past_layout g (goal.at.returns g c).In_ok-layout _ _
    (read_then {X = ℕ × ℕ} {X' = Shape} (λ s. s) (λ s. s) (outcome.dimensions c.layout_here.new.decoder).answer
    (λ sides. shape_of sides c.in_ok-color.color c.in_ok-layout.layout.planes) c.in_ok-sides.sides c.shape_of.result c.layout_here.new.decoder c.sides_here.new.decoder c.in_ok-sides.ensures c.shape_of.ensures))
