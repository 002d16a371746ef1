use Rattle.std.proofs.Common.{◌∙◌}
use Rattle.std.specs.Float.{binary64}
use Rattle.tiff_script.proofs.Folds.{parsed_float}
use Rattle.tiff_script.proofs.words.float64.Goals as goal

pub returns : goal.returns
returns c = c.ok.ensures.value ∙ parsed_float binary64 _ _ c.parse.ensures.value.1
