use Rattle.std.proofs.Common.{rules, ℕ}
use Rattle.std.specs.Prelude.{Vec}
use Rattle.std.specs.declared.alloc.Global.{Global}
use Rattle.tiff.specs.Result.{decoded_as}
use Rattle.tiff_pages.specs.Check.{all_bytes}
use Rattle.tiffpage_lib.specs.Samples.{page_planes}
use Rattle.tiffpage_lib.proofs.SampleBytes.{under_refused, under_then}
use Rattle.tiffpage_lib.proofs.samples.page_planes.Goals as goal

pub returns-in_err-layout : goal.returns-in_err-layout
returns-in_err-layout c =
    let told =
    under_refused {X' = Vec ℕ Global} (λ layout. (layout, decoded_as c.planes_in.new.samples))
    (λ (v : Vec ℕ Global). v.items) page_planes
    (λ image. all_bytes image.0.complete_len image.1) c.args.limits c.args.file.items c.args.page c.in_err-layout.field-0.0 c.in_err-layout.ensures in
    search rules

pub returns : goal.returns
returns c =
    under_then (λ layout. (layout, decoded_as c.planes_in.new.samples))
    (λ (v : Vec ℕ Global). v.items) page_planes
    (λ image. all_bytes image.0.complete_len image.1) c.args.limits c.args.file.items c.args.page c.in_ok-layout.layout c.all_bytes.result c.in_ok-layout.ensures c.all_bytes.ensures
