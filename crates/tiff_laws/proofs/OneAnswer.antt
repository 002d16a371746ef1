-- Each call has one result.
use Rattle.std.proofs.Common.{Result, sym, ◌∙◌}
use Rattle.tiff_base.specs.declared.error.TiffError.{TiffError}
use Rattle.tiff_decode.specs.declared.script.Call.{Call}
use Rattle.tiff_decode.specs.declared.script.Reply.{Reply}
use Rattle.tiff_decode.specs.Machine.{Decoding}
use Rattle.tiff_decode.specs.NextState.{IsNamed}
use Rattle.tiff_decode.specs.Promise.{promise}
use Rattle.tiff_decode.specs.ReplyView.{ReplyView, sees, sees_nothing, reply_view}
use Rattle.tiff_decode.specs.Step.{Step}
use Rattle.tiff_decode.specs.lemmas.NextState.{answer_of, IsAnswer, called}
use Rattle.tiff_laws.specs.OneAnswer.{SameSight, SameAnswer}

-- two results with the same view are the same
same_sight : {Y : Type 0} (s t : ReplyView Y) (answer : Result Y TiffError) → IsAnswer s answer
    → IsAnswer t answer → SameSight s t
same_sight (sees view r) (sees other o) answer p q = p ∙ sym q
same_sight (sees view r) sees_nothing answer p q = absurd q
same_sight sees_nothing t answer p q = absurd p

pub once : (old : Decoding) (which : Call) (first second : Reply) (new other : Decoding)
    → Step old which first new → Step old which second other → IsNamed first → IsNamed second
    → SameAnswer old which first second
once old which first second new other s t n m =
    same_sight (reply_view old which first) (reply_view old which second) (answer_of (promise old which))
    ((called old which first new s).next n).0 ((called old which second other t).next m).0
