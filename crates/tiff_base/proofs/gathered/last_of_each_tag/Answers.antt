use Rattle.std.proofs.Common.{rules}
use Rattle.std.proofs.lemmas.Fn.{dedup_same}
use Rattle.std.proofs.lemmas.List.Sorted.{answers_always}
use Rattle.tiff_base.proofs.Lasts.{key, same, last_as_they_are, sorted_ascends, last_left, each_left}
use Rattle.tiff_base.proofs.gathered.last_of_each_tag.Goals as goal

pub returns-then-ascends-clause-last : goal.returns-then-ascends-clause-last
returns-then-ascends-clause-last c = last_as_they_are c.args.entries.items (search rules)

pub returns-clause-ascending : goal.returns-clause-ascending
returns-clause-ascending c =
    sorted_ascends _ _ (c.in_ok-sort_by_key.ensures.sorted key (answers_always _ _ _ (λ f a r g h. search rules)))
    (dedup_same _ same _ (λ x y b f' x' y' k. search rules) _ _ c.dedup_by_key.ensures.filtered)

pub returns-clause-last : goal.returns-clause-last
returns-clause-last c =
    last_left c.args.entries.items _ _ _ c.reverse.ensures.items (c.sort_by_key.ensures.stable key (answers_always _ _ _ (λ f a r g h. search rules)))
    (dedup_same _ same _ (λ x y b f' x' y' k. search rules) _ _ c.dedup_by_key.ensures.filtered)

pub returns-clause-each : goal.returns-clause-each
returns-clause-each c =
    each_left c.args.entries.items _ _ _ c.reverse.ensures.permutation c.sort_by_key.ensures.permutation
    (dedup_same _ same _ (λ x y b f' x' y' k. search rules) _ _ c.dedup_by_key.ensures.filtered)
    (search rules)
