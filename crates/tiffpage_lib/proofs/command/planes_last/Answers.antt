use Rattle.std.proofs.Common.{rules, ◌≡◌, ◌∷◌, List, ℕ, true, subst, sym, ◌∙◌}
use Rattle.std.specs.Prelude.{codes, string_bytes}
use Rattle.tiffpage_lib.specs.Words.{IsNumber}
use Rattle.tiffpage_lib.proofs.Words.{none_left, planes_last}
use Rattle.tiffpage_lib.proofs.command.planes_last.Goals as goal

pub returns-clause-some : goal.returns-clause-some
returns-clause-some c =
    let at : c.args.words.now ≡ c.in_ok-name.name.now ∷ c.in_ok-name.rest.now = search rules in
    let then : c.in_ok-name.rest.now ≡ c.in_ok-count.count.now
    ∷ c.in_ok-count.rest.now = search rules in
    let last : c.in_ok-count.rest.now ≡ c.in_ok-planes.planes.now
    ∷ c.in_ok-planes.rest.now = search rules in
    let empty : c.is_empty.result ≡ true = search rules in
    let end = none_left c.in_ok-planes.rest.now (sym c.is_empty.ensures ∙ empty) in
    let named : string_bytes c.in_ok-name.name.now ≡ codes "--limit" = search rules in
    let asked : string_bytes c.in_ok-planes.planes.now ≡ codes "--planes" = search rules in
    let P : List ℕ → Type 0 = λ text. IsNumber 64 text c.in_ok-limit.limit in
    let number = subst P c.as_str-3.ensures.value c.in_ok-limit.ensures.some in
    planes_last c.args.words.now c.in_ok-name.rest.now c.in_ok-count.rest.now c.in_ok-planes.rest.now c.in_ok-name.name.now c.in_ok-count.count.now c.in_ok-planes.planes.now
    c.in_ok-limit.limit at then last end named asked number
