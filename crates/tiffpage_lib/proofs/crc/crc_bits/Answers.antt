use Rattle.std.proofs.Common.{◌≡◌, ℕ, ◌+◌, ◌-◌, ap, sym, ◌∙◌, arith}
use Rattle.tiffpage_lib.specs.Png.{crc_bits}
use Rattle.tiffpage_lib.proofs.Remainders.{bits_more, bits_none}
use Rattle.tiffpage_lib.proofs.crc.crc_bits.Goals as goal

pub loop-preserved : goal.loop-preserved
loop-preserved c =
    ap (λ (x : ℕ). crc_bits (8 - (c.loop.counter + 1)) x) c.crc_bit-left.ensures
    ∙ sym (bits_more (8 - c.loop.counter) (8 - (c.loop.counter + 1)) c.loop.left (omega arith))
    ∙ c.loop.invariant

pub returns : goal.returns
returns c =
    let all : 8 - c.loop.counter ≡ 0 = omega arith in
    sym (bits_none c.loop.left) ∙ ap (λ (n : ℕ). crc_bits n c.loop.left) (sym all)
    ∙ c.loop.invariant
