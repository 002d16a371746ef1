use Rattle.std.specs.Prelude.{codes}
use Rattle.std.proofs.lemmas.Str.Pattern.{starts_text}
use Rattle.tiff_script.proofs.words.is_hexadecimal.Goals as goal

pub returns : goal.returns
returns c = starts_text _ (codes "0x") c.args.word.now c.starts_with.ensures.cases
