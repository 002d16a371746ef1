-- The state after a step, except after out of memory and errors of the device (this project's).
use Rattle.std.specs.Prelude.{◌≡◌, ◌+◌, ◌≤◌, List, [], ◌∷◌, Option, None, Some, Result, Ok, Err, Vec}
use Rattle.std.specs.declared.alloc.Global.{Global}
use Rattle.tiff_base.specs.declared.error.TiffError.{TiffError}
use Rattle.tiff_base.specs.declared.error.TiffError.TheVariants.{IoError, OutOfMemory}
use Rattle.tiff_base.specs.declared.io.IoKind.TheVariants.{Device}
use Rattle.tiff_base.specs.declared.tags.Tag.{Tag}
use Rattle.tiff_ifd.specs.declared.value.Value.{Value}
use Rattle.tiff_ifd.specs.PlainValue.{PlainValue}
use Rattle.tiff_ifd.specs.View.{plain_value}
use Rattle.tiff_decode.specs.declared.script.Call.{Call}
use Rattle.tiff_decode.specs.declared.script.Reply.{Reply}
use Rattle.tiff_decode.specs.declared.script.Reply.TheVariants as reply
use Rattle.tiff_decode.specs.Machine.{State, Decoding}
use Rattle.tiff_decode.specs.Promise.{promise, state_after}
use Rattle.tiff_decode.specs.Failures.{fault_in, failures}

-- the state after each call
abbrev pub next_state : Decoding → Call → State
next_state d which = state_after d (promise d which)

-- no error, or an error that is neither out of memory nor of the device
abbrev pub IsNamedFault : Option TiffError → Type 0
IsNamedFault None = Unit {0}
IsNamedFault (Some OutOfMemory) = ⊥
IsNamedFault (Some (IoError Device)) = ⊥
IsNamedFault (Some e) = Unit {0}

-- a result as plain data
abbrev pub view_of_result : {X Y : Type 0} → (X → Y) → Result X TiffError → Result Y TiffError
view_of_result view (Ok x) = Ok (view x)
view_of_result view (Err e) = Err e

abbrev pub view_of_item : Result (Tag × Value) TiffError → Result (Tag × PlainValue) TiffError
view_of_item item = view_of_result (λ x. (x.0, plain_value x.1)) item

-- no item of a list is out of memory or an error of the device
abbrev pub AreNamed : List (Result (Tag × Value) TiffError) → Type 0
AreNamed [] = Unit {0}
AreNamed (Ok x ∷ xs) = AreNamed xs
AreNamed (Err e ∷ xs) = IsNamedFault (Some e) × AreNamed xs

abbrev pub IsNamedList : Result (Vec (Result (Tag × Value) TiffError) Global) TiffError → Type 0
IsNamedList (Ok v) = AreNamed v.items
IsNamedList (Err e) = IsNamedFault (Some e)

-- a reply that is neither out of memory nor an error of the device, and has no such item
abbrev pub IsNamed : Reply → Type 0
IsNamed (reply.TagIter r) = IsNamedList r
IsNamed r = IsNamedFault (fault_in r)

-- One step. The file stays the same, and each error of the device is a failed read. A reply without
-- out of memory and errors of the device leaves the next state; another reply leaves the former
-- state.
pub record LeavesNextState (old : Decoding) (which : Call) (reply : Reply) (new : Decoding) : Type 0
  where
    pub file : new ≡ record old { failures = new.failures; state = new.state }
    pub failed : old.failures + failures reply ≤ new.failures
    pub next : IsNamed reply → new.state ≡ next_state old which
    pub stays : (IsNamed reply → ⊥) → new.state ≡ old.state
