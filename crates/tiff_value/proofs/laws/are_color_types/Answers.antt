use Rattle.tiff_value.specs.lemmas.ColorTypes.{are_color_types}
use Rattle.tiff_value.proofs.laws.are_color_types.Goals as goal

pub returns : goal.returns
returns c = are_color_types
