use Rattle.std.proofs.Common.{rules, ◌≡◌, ◌∷◌, List, ℕ, subst}
use Rattle.tiffpage_lib.specs.Words.{IsNumber}
use Rattle.tiffpage_lib.proofs.Words.{no_height}
use Rattle.tiffpage_lib.proofs.command.parse_gray.Goals as goal

pub returns-in_err-height-clause-none : goal.returns-in_err-height-clause-none
returns-in_err-height-clause-none c =
    let at : c.args.words.now ≡ c.in_ok-output.output.now
    ∷ c.in_ok-output.rest.now = search rules in
    let then : c.in_ok-output.rest.now ≡ c.in_ok-columns.columns.now
    ∷ c.in_ok-columns.rest.now = search rules in
    let last : c.in_ok-columns.rest.now ≡ c.in_ok-rows.rows.now
    ∷ c.in_ok-rows.rest.now = search rules in
    let P : List ℕ → Type 0 = λ text. (n : ℕ) → ¬ IsNumber 32 text n in
    let none = subst P c.as_str-2.ensures.value c.in_err-height.ensures.none in
    rw c.from_residual-in_err-height.ensures
    (no_height c.args.words.now c.in_ok-output.rest.now c.in_ok-columns.rest.now c.in_ok-rows.rest.now c.in_ok-output.output.now c.in_ok-columns.columns.now c.in_ok-rows.rows.now
    at then last none)
