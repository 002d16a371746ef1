use Rattle.std.proofs.Common.{◌≡◌, arith, false, length}
use Rattle.std.specs.Prelude.{◌==◌}
use Rattle.tiff_script.proofs.DigitPairs.{text_of}
use Rattle.tiff_script.proofs.digits.digits_text.Goals as goal

pub returns : goal.returns
returns c =
    let some : (length c.args.bytes.now == 0) ≡ false = cc in
    let small = text_of c.args.bytes.now some (λ i. omega (arith, c.type_inv.bytes i)) in
    rw (c.in_ok-push_digits.ensures, c.new-text.ensures.bytes) small
