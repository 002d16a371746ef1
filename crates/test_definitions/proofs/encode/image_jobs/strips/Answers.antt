-- Automation doesn't see that these lemmas are the examples.
use Rattle.test_definitions.proofs.OfEncode.ImageJobs as p
use Rattle.test_definitions.proofs.encode.image_jobs.strips.Goals as goal

pub returns-clause-by_answer : goal.returns-clause-by_answer
returns-clause-by_answer c = (p.strip_other, p.resolved_part, p.resolved_failed, p.resolved_wanting)
