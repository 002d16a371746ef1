-- Automation doesn't see that these lemmas are the examples.
use Rattle.test_definitions.proofs.OfEncode.Model as p
use Rattle.test_definitions.proofs.encode.model.shown.Goals as goal

pub returns-clause-by_answer : goal.returns-clause-by_answer
returns-clause-by_answer c = (p.gray_shows, p.other_sample, p.other_width)
