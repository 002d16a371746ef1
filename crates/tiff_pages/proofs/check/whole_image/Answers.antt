use Rattle.std.proofs.Common.{rules}
use Rattle.std.specs.Prelude.{Vec}
use Rattle.std.specs.declared.alloc.Global.{Global}
use Rattle.std.specs.Prelude.{ℕ}
use Rattle.tiff_decode.specs.Result.{decoded_as}
use Rattle.tiff_pages.specs.Check.{all_bytes, planes_read}
use Rattle.tiff_pages.specs.lemmas.PageReads.{read_refused, read_then}
use Rattle.tiff_pages.proofs.check.whole_image.Goals as goal

pub returns-in_err-layout : goal.returns-in_err-layout
returns-in_err-layout g c =
    let told =
    read_refused {X' = Vec ℕ Global} (λ layout. (layout, decoded_as c.read_planes.new.samples))
    (λ (v : Vec ℕ Global). v.items) (planes_read c.args.decoder.now c.args.decoder.now.state.page)
    (λ image. all_bytes image.0.complete_len image.1) c.in_err-layout.field-0.0 c.args.decoder.now c.read_planes.new.decoder c.in_err-layout.ensures in search rules

pub returns : goal.returns
returns g c =
    read_then (λ layout. (layout, decoded_as c.read_planes.new.samples))
    (λ (v : Vec ℕ Global). v.items) (planes_read c.args.decoder.now c.args.decoder.now.state.page)
    (λ image. all_bytes image.0.complete_len image.1) c.in_ok-layout.layout c.all_bytes.result c.args.decoder.now c.read_planes.new.decoder c.in_ok-layout.ensures c.all_bytes.ensures
