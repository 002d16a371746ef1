-- Automation doesn't see that these lemmas are the examples.
use Rattle.test_definitions.proofs.OfDecode.Reader as p
use Rattle.test_definitions.proofs.decode.reader.lists.Goals as goal

pub returns-clause-by_answer : goal.returns-clause-by_answer
returns-clause-by_answer c = p.third_later

pub returns-clause-by_lemma : goal.returns-clause-by_lemma
returns-clause-by_lemma c =
    (p.second_unfit, p.none_is_unfit, p.no_list_unfit, p.numbers_great, p.numbers_refused)
