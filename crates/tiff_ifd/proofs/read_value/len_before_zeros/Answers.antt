use Rattle.std.proofs.Common.{rules, arith, ◌≡◌, ◌≤◌, ℕ, List, length, ◌-◌}
use Rattle.std.proofs.lemmas.List.Sums.{suffix_len_is}
use Rattle.tiff_ifd.specs.FieldValue.{is_zero}
use Rattle.tiff_ifd.proofs.read_value.len_before_zeros.Goals as goal

keeps_rest : (xs : List ℕ) (n : ℕ) {m : ℕ} → n ≤ length xs → m ≡ length xs - n → n ≡ length xs - m
keeps_rest xs n l e = omega arith

pub returns-else-bytes-n-eq0-clause-value : goal.returns-else-bytes-n-eq0-clause-value
returns-else-bytes-n-eq0-clause-value c =
    keeps_rest c.args.bytes.now c.loop-n.n c.loop-n.invariant.in_range
    (suffix_len_is is_zero c.args.bytes.now c.loop-n.n 0 c.loop-n.invariant.in_range c.loop-n.invariant.zeros (λ h. search rules))

pub returns-after-loop-n-clause-value : goal.returns-after-loop-n-clause-value
returns-after-loop-n-clause-value c =
    keeps_rest c.args.bytes.now c.loop-n.n c.loop-n.invariant.in_range
    (suffix_len_is is_zero c.args.bytes.now c.loop-n.n 0 c.loop-n.invariant.in_range c.loop-n.invariant.zeros (λ h. absurd (omega arith)))
