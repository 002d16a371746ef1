-- Calls of a decoder, one after another (this project's).
use Rattle.std.specs.Prelude.{◌≡◌, ◌+◌, ◌≤◌, List, [], ◌∷◌, ◌++◌}
use Rattle.tiff_decode.specs.declared.script.Call.{Call}
use Rattle.tiff_decode.specs.declared.script.Reply.{Reply}
use Rattle.tiff_decode.specs.Machine.{Decoding}
use Rattle.tiff_decode.specs.Failures.{all_failures}
use Rattle.tiff_decode.specs.Step.{Step}

-- each call has its reply, and begins where the call before it left the decoder
abbrev pub Steps : Decoding → List Call → List Reply → Decoding → Type 0
Steps old [] [] new = new ≡ old
Steps old [] (r ∷ replies) new = ⊥
Steps old (c ∷ calls) [] new = ⊥
Steps old (c ∷ calls) (r ∷ replies) new = (next : Decoding) × Step old c r next
    × Steps next calls replies new

-- The calls are made, and their replies are appended to earlier ones. Each error of the device in
-- them is a separate failed read.
pub record Ran (old : Decoding) (calls : List Call) (earlier all : List Reply) (new : Decoding)
    : Type 0 where
  pub replies : List Reply
  pub added : all ≡ earlier ++ replies
  pub steps : Steps old calls replies new
  pub failed : old.failures + all_failures replies ≤ new.failures

-- A call is made and has some reply.
pub record Called (old : Decoding) (which : Call) (new : Decoding) : Type 0 where
  pub reply : Reply
  pub step : Step old which reply new
