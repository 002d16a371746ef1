-- Automation doesn't see that these lemmas are the examples.
use Rattle.test_definitions.proofs.OfEncode.Leaves as p
use Rattle.test_definitions.proofs.encode.leaves.files.Goals as goal

pub returns-clause-by_answer : goal.returns-clause-by_answer
returns-clause-by_answer c = (p.left_other, p.left_torn, p.left_linked, p.left_broken)
