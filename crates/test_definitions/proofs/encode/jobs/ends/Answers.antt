-- Automation doesn't see that these lemmas are the examples.
use Rattle.test_definitions.proofs.OfEncode.Jobs as p
use Rattle.test_definitions.proofs.encode.jobs.ends.Goals as goal

pub returns-clause-by_answer : goal.returns-clause-by_answer
returns-clause-by_answer c =
    (p.cut_whole, p.torn_off, p.torn_directory, p.taken_over, p.taken_later)
