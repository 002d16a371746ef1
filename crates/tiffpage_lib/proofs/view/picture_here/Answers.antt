use Rattle.std.proofs.Common.{rules, ℕ, List, Result, Err}
use Rattle.std.specs.Prelude.{Vec}
use Rattle.std.specs.declared.alloc.Global.{Global}
use Rattle.tiff_base.specs.declared.error.TiffError.{TiffError}
use Rattle.tiff_decode.specs.declared.result.DecodingResult.{DecodingResult}
use Rattle.tiff.specs.Answers.{◌>>=◌}
use Rattle.tiff.specs.Machine.{Decoding}
use Rattle.tiff.specs.Result.{decoded_as}
use Rattle.tiffpage_lib.specs.Samples.{page_image}
use Rattle.tiffpage_lib.specs.View.{drawn, shape_here}
use Rattle.tiffpage_lib.specs.declared.view.Shape.{Shape}
use Rattle.tiff_pages.specs.lemmas.PageReads.{read_refused, read_then}
use Rattle.tiffpage_lib.proofs.Shown.{reads_more}
use Rattle.tiffpage_lib.proofs.view.picture_here.Goals as goal

-- What follows the shape of the picture.
abbrev with_shape : Decoding → Shape → Result (List ℕ) TiffError
with_shape d shape = page_image d >>= drawn shape

pub returns-in_err-shape : goal.returns-in_err-shape
returns-in_err-shape g c =
    let d = c.args.decoder.now in
    let told =
    read_refused {X = Shape} {X' = Vec ℕ Global} (λ s. s) (λ (v : Vec ℕ Global). v.items)
    (shape_here d) (with_shape d) c.in_err-shape.field-0.0 d c.shape_here.new.decoder c.in_err-shape.ensures in
    search rules

pub returns-in_err-samples : goal.returns-in_err-samples
returns-in_err-samples g c =
    let d = c.args.decoder.now in
    let mid = c.shape_here.new.decoder in
    let shape = c.in_ok-shape.shape in
    let refused =
    read_refused {X = DecodingResult} {X' = Vec ℕ Global} decoded_as
    (λ (v : Vec ℕ Global). v.items) (page_image mid) (drawn shape) c.in_err-samples.field-0.0 mid c.samples_here.new.decoder c.in_err-samples.ensures in
    let told =
    reads_more {X = Shape} {X' = Vec ℕ Global} (λ s. s) (λ (v : Vec ℕ Global). v.items)
    (shape_here d) with_shape shape (Err c.in_err-samples.field-0.0) d mid c.samples_here.new.decoder c.in_ok-shape.ensures refused in
    search rules

pub returns : goal.returns
returns g c =
    let d = c.args.decoder.now in
    let mid = c.shape_here.new.decoder in
    let shape = c.in_ok-shape.shape in
    let then =
    read_then {X = DecodingResult} {X' = Vec ℕ Global} decoded_as
    (λ (v : Vec ℕ Global). v.items) (page_image mid) (drawn shape) c.in_ok-samples.samples c.draw.result mid c.samples_here.new.decoder c.in_ok-samples.ensures c.draw.ensures in
    reads_more {X = Shape} {X' = Vec ℕ Global} (λ s. s) (λ (v : Vec ℕ Global). v.items)
    (shape_here d) with_shape shape c.draw.result d mid c.samples_here.new.decoder c.in_ok-shape.ensures then
