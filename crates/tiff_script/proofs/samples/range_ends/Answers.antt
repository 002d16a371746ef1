use Rattle.std.proofs.Common.{arith, lit<, None}
use Rattle.std.proofs.lemmas.Grind.{common_steps}
use Rattle.std.proofs.lemmas.Str.Pattern.{strip_prefix_char}
use Rattle.tiff_script.specs.Samples.{range_ends}
use Rattle.tiff_script.proofs.SampleRuns.{point_stripped}
use Rattle.tiff_script.proofs.samples.range_ends.Goals as goal

pub returns-in_err-strip_prefix : goal.returns-in_err-strip_prefix
unfolding range_ends
returns-in_err-strip_prefix c =
    let left =
    point_stripped c.in_ok-first.rest.now None (strip_prefix_char 46 c.in_ok-first.rest.now None c.in_err-strip_prefix.ensures.cases (lit< tt)) in
    grind (arith, common_steps)
