-- Each call has one result and leaves one state, except when memory is out or the device fails
-- (this project's).
use Rattle.std.specs.Prelude.{◌≡◌}
use Rattle.tiff_decode.specs.declared.script.Call.{Call}
use Rattle.tiff_decode.specs.declared.script.Reply.{Reply}
use Rattle.tiff_decode.specs.Machine.{Decoding}
use Rattle.tiff_decode.specs.NextState.{view_of_result, IsNamed, LeavesNextState}
use Rattle.tiff_decode.specs.ReplyView.{ReplyView, sees, reply_view}
use Rattle.tiff_decode.specs.Step.{Step}

-- both results are visible, with the same plain data or the same error
abbrev pub SameSight : {Y : Type 0} → ReplyView Y → ReplyView Y → Type 0
SameSight (sees view r) (sees other q) = view_of_result view r ≡ view_of_result other q
SameSight s t = ⊥

-- Two results of one call are the same.
abbrev pub SameAnswer : Decoding → Call → Reply → Reply → Type 0
SameAnswer d which first second = SameSight (reply_view d which first) (reply_view d which second)

abbrev pub IsEachAlong : Type 0
IsEachAlong = (old : Decoding) (which : Call) (reply : Reply) (new : Decoding)
    → Step old which reply new → LeavesNextState old which reply new

-- a call has one result
abbrev pub IsSingleAnswer : Type 0
IsSingleAnswer = (old : Decoding) (which : Call) (first second : Reply) (new other : Decoding)
    → Step old which first new → Step old which second other → IsNamed first → IsNamed second
    → SameAnswer old which first second
