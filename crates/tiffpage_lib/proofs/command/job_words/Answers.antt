use Rattle.std.proofs.Common.{rules, ◌≡◌}
use Rattle.std.specs.Prelude.{codes, string_bytes}
use Rattle.tiffpage_lib.proofs.Words.{one_word}
use Rattle.tiffpage_lib.proofs.command.job_words.Goals as goal

pub returns-in-len1-clause-some : goal.returns-in-len1-clause-some
returns-in-len1-clause-some c =
    let told : string_bytes c.word-item.result ≡ codes "big" = search rules in
    one_word c.args.words.now c.word-item.result (codes "big") c.in-len1.len_at_least c.in-len1.len_below c.word-item.is told

pub returns-in-len1-2-clause-some : goal.returns-in-len1-2-clause-some
returns-in-len1-2-clause-some c =
    let word = c.word-item-then-words-lt2 in
    let told : string_bytes word.result ≡ codes "--keep-going" = search rules in
    one_word c.args.words.now word.result (codes "--keep-going") c.in-len1.len_at_least c.in-len1.len_below word.is told
