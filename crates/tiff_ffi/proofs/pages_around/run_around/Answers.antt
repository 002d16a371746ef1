use Rattle.std.proofs.Common.{rules, ◌≡◌, ◌≤◌, ℕ, List, length}
use Rattle.tiff_ffi.specs.Jobs.{RanJobs}
use Rattle.tiff_ffi.specs.Pages.{refused_page}
use Rattle.tiff_ffi.specs.PagesSink.{pages_contents}
use Rattle.tiff_ffi.specs.Spliced.{spliced}
use Rattle.tiff_ffi.proofs.FramedPages.{chain_framed}
use Rattle.tiff_ffi.proofs.pages_around.run_around.Goals as goal

pub returns : goal.returns
returns g c =
    let kind = g.K.TiffKind.kind in
    let jobs = c.args.jobs.now in
    let contents : List ℕ = pages_contents c.in-Ok.sink in
    let refused = c.refused_of-refused.result in
    let around : List ℕ = c.in_ok-frame.frame.around.items in
    let fronts : List ℕ = c.in_ok-frame.frame.fronts.items in
    let samples : List (List ℕ) = g.P.LentSamples.samples in
    let kept : contents ≡ spliced around fronts samples = search rules in
    let few : length fronts ≤ length samples = search rules in
    let ran : RanJobs kind jobs.chain.items contents refused.0 refused.1 = search rules in
    let is : c.refused_page.result
    ≡ refused_page jobs.numbers.items jobs.chain.items refused.0 refused.1 =
    search rules in
    (few, chain_framed kind jobs c.requires.alone contents refused.0 refused.1 c.refused_page.result ran is around fronts samples kept)
