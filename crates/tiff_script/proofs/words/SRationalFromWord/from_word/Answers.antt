use Rattle.std.proofs.Common.{arith}
use Rattle.std.proofs.lemmas.Grind.{common_steps}
use Rattle.std.proofs.lemmas.Int.{ints, to_z-of_z}
use Rattle.tiff_script.specs.Stands.{signed_fraction}
use Rattle.tiff_script.proofs.words.SRationalFromWord.from_word.Goals as goal

pub returns : goal.returns
unfolding signed_fraction
returns c = grind (arith, common_steps, ints, to_z-of_z)
