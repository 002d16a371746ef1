-- The worked examples of `Base.Windows` hold.
use Rattle.std.specs.Prelude.{slice_index}
use Rattle.std.proofs.Common.{ap, arith, suc, zero}
use Rattle.test_definitions.specs.Base.Windows as s

pub apart : s.apart
apart zero zero d h k = omega (arith, h)
apart zero (suc zero) d h k = omega arith
apart zero (suc (suc j)) d h k = omega (arith, k)
apart (suc i) j d h k = omega (arith, h, k)

pub apart_side_by_side : s.apart_side_by_side
apart_side_by_side zero zero d h k = omega (arith, h)
apart_side_by_side zero (suc zero) d h k = omega arith
apart_side_by_side zero (suc (suc j)) d h k = omega (arith, k)
apart_side_by_side (suc i) j d h k = omega (arith, h, k)

pub not_apart : s.not_apart
not_apart = λ a. omega (arith, a 0 1 s.front (omega arith) (omega arith))

pub another_byte_seen : s.another_byte_seen
another_byte_seen =
    λ r. omega (arith, ap (λ b. slice_index b 0) (r.each 1 s.front (omega arith)).same)

pub of_shorter : s.of_shorter
of_shorter = λ r. omega (arith, r.len)

pub of_no_bytes : s.of_no_bytes
of_no_bytes = λ r. omega (arith, r.octets 2)

pub ruleset worked =
    (apart, apart_side_by_side, not_apart, another_byte_seen, of_shorter, of_no_bytes)
