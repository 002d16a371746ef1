-- Automation doesn't see that these lemmas are the examples.
use Rattle.test_definitions.proofs.OfEncode.ImageJobs as p
use Rattle.test_definitions.proofs.encode.image_jobs.pages.Goals as goal

pub returns-clause-by_answer : goal.returns-clause-by_answer
returns-clause-by_answer c = (p.no_side_job, p.strip_job, p.page_shown, p.data_job)
