-- Replies to lists of calls.
use Rattle.std.proofs.Common.{◌≡◌, ℕ, suc, List, [], ◌∷◌, ◌++◌, length, refl, ap, sym, ◌∙◌, subst}
use Rattle.std.specs.Prelude.{Err, None, Ok, Result, String, string_bytes}
use Rattle.std.specs.Result.{result_map_both}
use Rattle.std.specs.declared.alloc.Global.{Global}
use Rattle.tiff_base.specs.declared.error.TiffError.{TiffError}
use Rattle.tiff_decode.specs.declared.script.Call.{Call}
use Rattle.tiff_decode.specs.Outcome.{decoder_of}
use Rattle.tiff_script.specs.Told.{LinesOfCalls}
use Rattle.tiffpage_lib.specs.Commands.{RepliesTo}
use Rattle.tiffpage_lib.specs.lemmas.Memory.{memory_out}
use Rattle.tiff_decode.specs.declared.script.Reply.{Reply}
use Rattle.tiff_decode.specs.Machine.{Decoding}
use Rattle.tiff_decode.specs.Steps.{Steps, Ran}

-- Replies to calls stand behind no earlier ones.
pub steps_made : (old new : Decoding) (calls : List Call) (earlier all : List Reply) → earlier ≡ []
    → Ran old calls earlier all new → Steps old calls all new
steps_made old new calls earlier all none r =
    let P : List Reply → Type 0 = λ xs. Steps old calls xs new in
    subst P (sym (r.added ∙ ap (λ (xs : List Reply). xs ++ r.replies) none)) r.steps

-- Each call has one reply.
pub steps_length : (old new : Decoding) (calls : List Call) (replies : List Reply)
    → Steps old calls replies new → length replies ≡ length calls
steps_length old new [] [] s = refl
steps_length old new [] (r ∷ replies) s = absurd s
steps_length old new (c ∷ calls) [] s = absurd s
steps_length old new (c ∷ calls) (r ∷ replies) s =
    ap (λ n. suc n) (steps_length s.0 new calls replies s.2)

-- The replies to calls of a decoder that is opened at the first page of a file.
pub replies_made : (file : List ℕ) (calls : List Call) (d last : Decoding)
    (r : Result (String Global) TiffError)
    → decoder_of file 0 ≡ Ok (record d { readable = None; failures = 0 })
    → LinesOfCalls d calls r last → RepliesTo file calls (result_map_both string_bytes (λ e. e) r)
replies_made file calls d last (Ok text) e h = (d, last, h.0, e, h.1)
replies_made file calls d last (Err fault) e h =
    rw h.0 memory_out
