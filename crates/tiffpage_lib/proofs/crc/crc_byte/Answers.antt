use Rattle.std.proofs.Common.{ℕ, ◌%◌, ap, ◌∙◌, arith}
use Rattle.std.specs.Int.Bits.{bit_xor}
use Rattle.tiffpage_lib.specs.Png.{crc_bits}
use Rattle.tiffpage_lib.proofs.Remainders.{by_table}
use Rattle.tiffpage_lib.proofs.crc.crc_byte.Goals as goal

pub returns : goal.returns
returns c =
    let x = bit_xor c.args.crc c.from.result in
    by_table x _ (c.requires (x % 256) (omega arith))
    ∙ ap (λ (b : ℕ). crc_bits 8 (bit_xor c.args.crc b)) c.from.ensures
