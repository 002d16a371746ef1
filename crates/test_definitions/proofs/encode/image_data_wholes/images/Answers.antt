-- Automation doesn't see that these lemmas are the examples.
use Rattle.test_definitions.proofs.OfEncode.ImageDataWholes as p
use Rattle.test_definitions.proofs.encode.image_data_wholes.images.Goals as goal

pub returns-clause-by_answer : goal.returns-clause-by_answer
returns-clause-by_answer c = (p.image_left, p.image_other, p.image_wider)
