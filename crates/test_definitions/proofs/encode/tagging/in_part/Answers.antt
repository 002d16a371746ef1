-- Automation doesn't see that these lemmas are the examples.
use Rattle.test_definitions.proofs.OfEncode.Tagging as p
use Rattle.test_definitions.proofs.encode.tagging.in_part.Goals as goal

pub returns-clause-by_answer : goal.returns-clause-by_answer
returns-clause-by_answer c = (p.all_stopped, p.left_out)
