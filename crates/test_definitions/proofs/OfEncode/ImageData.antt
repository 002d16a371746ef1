-- The worked examples of `Encode.ImageData` hold.
use Rattle.std.specs.Prelude.{refl}
use Rattle.std.proofs.Common.{[], ◌∷◌, inl, inr, lit<, lit≤}
use Rattle.tiff_base.specs.declared.io.SinkFault.TheVariants as fault
use Rattle.test_definitions.specs.Encode.ImageData as s
use Rattle.test_definitions.specs.Encode.ImageData.{two_parts, more_parts}
use Rattle.tiff.proofs.OnLiterals.{tiff_on_literals}

pub both_written : s.both_written
unfolding tiff_on_literals
both_written = (two_parts, ((refl, (refl, tt)), (refl, record { answer = refl; state = refl })))

pub second_refused : s.second_refused
unfolding tiff_on_literals
second_refused = (more_parts, ((refl, (refl, tt)), inl (record { answer = refl; state = refl })))

pub second_cut : s.second_cut
unfolding tiff_on_literals
second_cut =
    (two_parts, ((refl, (refl, tt)), inr (inl (record { fresh = refl; fault = fault.Device; answer = refl; count = 2; within = lit< tt; state = refl }))))

pub second_wanting : s.second_wanting
unfolding tiff_on_literals
second_wanting =
    ((1 ∷ 2 ∷ []) ∷ [], ((refl, tt), inr (inr (lit< tt, record { fresh = refl; fault = refl; begun = tt; count = 2; within = lit≤ tt; state = refl }))))

-- ---- what one chunk leaves

pub ruleset worked = (both_written, second_refused, second_cut, second_wanting)
