use Rattle.std.proofs.Common.{◌+◌, ◌-◌, ◌≤◌, length, take, vec_len, vec_capacity}
use Rattle.tiff_decode.specs.Steps.{Ran}
use Rattle.tiff_decode.proofs.script.run_calls.Given as goal

abbrev pub invariant-loop-call : goal.invariant-loop-call
invariant-loop-call g l = record {
  made : Ran l.fn.decoder (take l.call-index l.calls) l.fn.replies.items l.replies.items l.decoder;
  room : vec_len l.replies + (length l.calls - l.call-index) ≤ vec_capacity l.replies;
}
