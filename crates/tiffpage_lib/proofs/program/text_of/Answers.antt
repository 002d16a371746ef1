use Rattle.std.proofs.Common.{◌≡◌, string_bytes, ap, subst, arith}
use Rattle.std.specs.Str.{IsUtf8}
use Rattle.std.proofs.lemmas.Grind.{common_steps}
use Rattle.std.proofs.lemmas.Str.{IsUtf8-string_bytes, utf8_valid_len_le}
use Rattle.tiffpage_lib.proofs.program.text_of.Goals as goal

pub slice_bounds-text-end : goal.slice_bounds-text-end
slice_bounds-text-end c = grind (arith, common_steps, utf8_valid_len_le c.args.bytes.items)

pub returns-in-Ok : goal.returns-in-Ok
returns-in-Ok c =
    let same : string_bytes c.in-Ok.text ≡ c.args.bytes.items =
    ap (λ v. v.items) c.in-Ok.ensures.ok in
    (same, subst IsUtf8 same (IsUtf8-string_bytes c.in-Ok.text))
