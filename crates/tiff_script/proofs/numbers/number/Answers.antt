use Rattle.std.proofs.Common.{◌∙◌, sym, arith}
use Rattle.std.proofs.lemmas.Str.Pattern.{starts_char}
use Rattle.tiff_script.proofs.NumberWords.{no_plus, number_parsed}
use Rattle.tiff_script.proofs.numbers.number.Goals as goal

pub returns-then-starts_with : goal.returns-then-starts_with
returns-then-starts_with c =
    let plus =
    starts_char 43 c.args.digits.now c.starts_with.result c.starts_with.ensures.cases
    (omega arith) (omega arith) in
    sym (no_plus c.args.radix c.args.digits.now c.requires.upper (plus.0 c.if-starts_with.true))

pub returns : goal.returns
returns c =
    let plus =
    starts_char 43 c.args.digits.now c.starts_with.result c.starts_with.ensures.cases
    (omega arith) (omega arith) in
    c.ok.ensures.value ∙ number_parsed c.args.radix c.args.digits.now _
    (λ e. absurd (cc (plus.1 e, c.if-starts_with.false))) c.from_str_radix.ensures.value
