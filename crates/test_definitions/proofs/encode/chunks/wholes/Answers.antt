-- Automation doesn't see that these lemmas are the examples.
use Rattle.test_definitions.proofs.OfEncode.Chunks as p
use Rattle.test_definitions.proofs.encode.chunks.wholes.Goals as goal

pub returns-clause-by_answer : goal.returns-clause-by_answer
returns-clause-by_answer c =
    (p.pixel_finished, p.pixel_data, p.pixel_written, p.pixel_chain, p.after_few, p.packed_written, p.packed_bytes, p.second_page, p.third_page, p.third_link, p.ycbcr_written)
