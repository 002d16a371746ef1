-- Automation doesn't see that these lemmas are the examples.
use Rattle.test_definitions.proofs.OfEncode.Tagging as p
use Rattle.test_definitions.proofs.encode.tagging.of_image.Goals as goal

pub returns-clause-by_answer : goal.returns-clause-by_answer
returns-clause-by_answer c =
    (p.resolving_unit, p.resolving_refused, p.resolving_far, p.resolving_all)
