use Rattle.std.proofs.Common.{rules, ℕ, refl}
use Rattle.std.specs.Prelude.{Vec}
use Rattle.std.specs.declared.alloc.Global.{Global}
use Rattle.tiff.specs.Outcome.{colortype, image_buffer_layout}
use Rattle.tiffpage_lib.specs.View.{picture}
use Rattle.tiffpage_lib.proofs.Visits.{seek_refused, seek_then}
use Rattle.tiffpage_lib.proofs.view.page_view.Goals as goal

pub returns-in_err-seek_to_image : goal.returns-in_err-seek_to_image
returns-in_err-seek_to_image g c =
    let told =
    seek_refused {X = Vec ℕ Global} (λ (v : Vec ℕ Global). v.items) picture c.args.decoder.now c.seek_to_image.new.self c.args.page c.in_err-seek_to_image.field-0.0 c.in_err-seek_to_image.ensures.follows in
    search rules

pub returns : goal.returns
unfolding colortype image_buffer_layout
returns g c =
    seek_then (λ (v : Vec ℕ Global). v.items) picture c.args.decoder.now c.seek_to_image.new.self c.args.page c.in_ok-seek_to_image.field-0 c.picture_here.result c.picture_here.new.decoder.failures
    (λ d n. refl) c.in_ok-seek_to_image.ensures.follows c.picture_here.ensures.answer
