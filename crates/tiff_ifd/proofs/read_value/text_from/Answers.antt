use Rattle.std.proofs.Common.{rules, ◌≡◌, true, sym, ap, ◌∙◌, string_bytes, Ok}
use Rattle.std.specs.Str.{is_utf8}
use Rattle.tiff_ifd.specs.PlainValue as f
use Rattle.tiff_ifd.specs.View.{plain_value}
use Rattle.tiff_ifd.specs.declared.value.Value.{Ascii, the_lemmas}
use Rattle.tiff_ifd.proofs.Texts.{utf8}
use Rattle.tiff_ifd.proofs.read_value.text_from.Goals as goal

pub returns-in_ok-from_str-in-Ok : goal.returns-in_ok-from_str-in-Ok
returns-in_ok-from_str-in-Ok c =
    let s = c.in_ok-from_str-in-Ok.field-0 in
    let valid : is_utf8 c.args.bytes.now ≡ true = search (rules, utf8) in
    let same : string_bytes s ≡ c.args.bytes.now = search rules in
    let seen : plain_value (Ascii s) ≡ f.ascii (string_bytes s) = search (rules, the_lemmas) in
    rw valid (ap (λ xs. Ok (f.ascii xs)) (sym same) ∙ ap Ok (sym seen))
