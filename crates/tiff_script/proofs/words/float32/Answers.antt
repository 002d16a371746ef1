use Rattle.std.proofs.Common.{◌∙◌}
use Rattle.std.specs.Float.{binary32}
use Rattle.tiff_script.proofs.Folds.{parsed_float}
use Rattle.tiff_script.proofs.words.float32.Goals as goal

pub returns : goal.returns
returns c = c.ok.ensures.value ∙ parsed_float binary32 _ _ c.parse.ensures.value.1
