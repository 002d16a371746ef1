-- Automation doesn't see that these lemmas are the examples.
use Rattle.test_definitions.proofs.OfEncode.JobLists as p
use Rattle.test_definitions.proofs.encode.job_lists.uncalled.Goals as goal

pub returns-clause-by_answer : goal.returns-clause-by_answer
returns-clause-by_answer c = (p.header_cut, p.header_cut_run, p.header_whole)
