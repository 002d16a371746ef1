-- The worked examples of `Decode.Steps` hold.
use Rattle.std.specs.Prelude.{refl, [], ◌∷◌, false, Ok}
use Rattle.std.proofs.Common.{sym, arith}
use Rattle.tiff_base.specs.declared.error.TiffError.TheVariants.{IoError}
use Rattle.tiff_base.specs.declared.io.IoKind.TheVariants.{Device}
use Rattle.tiff_base.specs.declared.tags.Tag.TheVariants.{Compression}
use Rattle.tiff_base.specs.Answers.{IsCause}
use Rattle.tiff_base.specs.lemmas.Causes.{named_cause}
use Rattle.tiff_decode.specs.Machine.{Decoding}
use Rattle.test_definitions.specs.Decoders.{gray_state, gray_decoder, two_decoder}
use Rattle.test_definitions.specs.Decode.Steps as s
use Rattle.test_definitions.proofs.OfIfd.View.{short_datum}
use Rattle.tiff.proofs.OnLiterals.{tiff_on_literals}

by_device : {wanting failed given : Type 0} → failed → IsCause wanting failed (IoError Device) given
by_device f =
    record { memory = λ is. absurd (cc); device = λ is. f; other = λ is. absurd (cc) }

pub gray_read : s.gray_read
unfolding tiff_on_literals
gray_read =
    (gray_decoder, (refl, refl), (gray_decoder, named_cause _ refl (record { answer = refl; at = refl }), (gray_decoder, (refl, refl), (record gray_decoder { state = record gray_state { offset = 24 } }, (refl, refl), (record gray_decoder { state = record gray_state { offset = 25 } }, record { answer = refl; at = refl }, (record gray_decoder { state = record gray_state { offset = 25 } }, (refl, refl), refl))))))

pub cycle_steps : s.cycle_steps
unfolding tiff_on_literals
cycle_steps =
    let d : Decoding = two_decoder (0x19 ∷ 0x00 ∷ 0x00 ∷ 0x00 ∷ []) in
    let closed : Decoding = record d { state = record d.state { more = false } } in
    (d, (refl, refl), (closed, named_cause _ refl (record { answer = refl; at = refl }), (closed, (refl, refl), refl)))

pub failing_ran : s.failing_ran
failing_ran = record {
  replies = s.failing_replies;
  added = refl;
  steps =
      (record gray_decoder { failures = 1 }, by_device (record { grew = omega arith; at = record { stands = refl; failures = omega arith } }), (record gray_decoder { failures = 1 }, (refl, refl), (record gray_decoder { failures = 2 }, by_device (record { grew = omega arith; at = record { stands = refl; failures = omega arith } }), refl)));
  failed = omega arith;
}

pub item_told : s.item_told
item_told = (0, (λ i. Ok (Compression, sym (short_datum 1) i), refl), refl)

pub ruleset worked = (gray_read, cycle_steps, failing_ran, item_told)
