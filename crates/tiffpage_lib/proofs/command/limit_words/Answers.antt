use Rattle.std.proofs.Common.{rules, ◌≡◌, ◌∷◌, [], ap, ◌∙◌, List, ℕ, map, subst}
use Rattle.std.specs.Prelude.{codes, string_bytes}
use Rattle.tiffpage_lib.specs.Words.{IsNumber}
use Rattle.tiffpage_lib.proofs.Words.{no_limit, two_words}
use Rattle.tiffpage_lib.proofs.command.limit_words.Goals as goal

pub returns-in_err-byte_count-in-len2-clause-none : goal.returns-in_err-byte_count-in-len2-clause-none
returns-in_err-byte_count-in-len2-clause-none c =
    let all =
    two_words c.args.words.now c.word-item.result c.count-item.result c.in-len2.len_at_least c.in-len2.len_below c.word-item.is c.count-item.is in
    let P : List ℕ → Type 0 = λ text. (n : ℕ) → ¬ IsNumber 64 text n in
    let none = subst P c.as_str-in-len2.ensures.value c.in_err-byte_count-in-len2.ensures.none in
    rw c.from_residual.ensures (λ limit. no_limit (map string_bytes c.args.words.now) (string_bytes c.word-item.result) (string_bytes c.count-item.result) limit all none)

pub returns-in_ok-byte_count-in-len2-clause-some : goal.returns-in_ok-byte_count-in-len2-clause-some
returns-in_ok-byte_count-in-len2-clause-some c =
    let all =
    two_words c.args.words.now c.word-item.result c.count-item.result c.in-len2.len_at_least c.in-len2.len_below c.word-item.is c.count-item.is in
    let told : string_bytes c.word-item.result ≡ codes "--limit" = search rules in
    let P : List ℕ → Type 0 = λ text. IsNumber 64 text c.in_ok-byte_count-in-len2.field-0 in (
      string_bytes c.count-item.result,
      all ∙ ap (λ (w : List ℕ). w ∷ string_bytes c.count-item.result ∷ []) told,
      subst P c.as_str-in-len2.ensures.value c.in_ok-byte_count-in-len2.ensures.some,
    )
