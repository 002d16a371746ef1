-- A decoder as a state machine (this project's): its state, and the state after a call.
use Rattle.std.specs.Prelude.{◌≡◌, ℕ, ◌<◌, ◌≤◌, ◌||◌, List, Option, Bool, Result, Ok, Err}
use Rattle.tiff_base.specs.declared.error.TiffError.{TiffError}
use Rattle.tiff_base.specs.declared.tags.ByteOrder.{ByteOrder}
use Rattle.tiff_base.specs.declared.tags.FileKind.{FileKind}
use Rattle.tiff_base.specs.declared.tags.IfdPointer.{IfdPointer}
use Rattle.tiff_base.specs.Answers.{AnswersBut, IsCause, is_device, is_memory}
use Rattle.tiff_base.specs.Sparing.{IsListFault}
use Rattle.tiff_base.specs.Field.{DirectoryRecord}
use Rattle.tiff_base.specs.SourceAndSink.{SourceRecord}
use Rattle.tiff_ifd.specs.declared.limits.Limits.{Limits}
use Rattle.tiff_page.specs.Page.{PageRecord}
use Rattle.tiff_ifd.specs.declared.value_reader.ValueReader.{ValueReader}
use Rattle.tiff_page.specs.declared.page.Page.{Page}
use Rattle.tiff_page.specs.PageView.{page as page_record}

-- The state of a decoder: the offset of the directory that it entered last, whether another
-- directory follows it, the last page with its directory, the offset of the low-level reads, and
-- the limits.
pub record State : Type 0 where
  pub pointer : Option IfdPointer
  pub more : Bool
  pub page : PageRecord
  pub directory : DirectoryRecord
  pub offset : ℕ
  pub limits : Limits

-- A decoder: the bytes of its source and the ranges of them that the source can read, the file's
-- kind, byte order and first offset, the number of failed reads so far, and the state.
pub record Decoding : Type 0 where
  pub bytes : List ℕ
  pub readable : Option (List (ℕ × ℕ))
  pub kind : FileKind
  pub order : ByteOrder
  pub first : ℕ
  pub failures : ℕ
  pub state : State

-- a decoder from its parts
abbrev pub decoding : SourceRecord → FileKind → ByteOrder → ℕ → ℕ → Option IfdPointer → Bool
    → PageRecord → DirectoryRecord → ℕ → Limits → Decoding
decoding source kind order first failures pointer more page directory offset limits = record {
  bytes = source.bytes;
  readable = source.readable;
  kind = kind;
  order = order;
  first = first;
  failures = failures;
  state = record {
    pointer = pointer;
    more = more;
    page = page;
    directory = directory;
    offset = offset;
    limits = limits;
  };
}

-- a decoder from its fields
abbrev pub from_fields : {R : Type 0} → (R → SourceRecord) → (R → ℕ) → ValueReader R → ℕ
    → Option IfdPointer → Bool → Page → ℕ → Decoding
from_fields contents failures tags first pointer more page offset =
    decoding (contents tags.source) tags.kind tags.order first (failures tags.source) pointer more
    (page_record page) tags.directory offset tags.limits

-- the source of a decoder
abbrev pub source_of : Decoding → SourceRecord
source_of d = record { bytes = d.bytes; readable = d.readable }

-- The result of a call, and the state of the decoder after it. The result is never out of memory or
-- an error of the device.
pub record Outcome (Y : Type 0) : Type 0 where
  pub answer : Result Y TiffError
  pub next : State

-- a result that leaves the state unchanged
abbrev pub stays : {Y : Type 0} → Decoding → Result Y TiffError → Outcome Y
stays d answer = record { answer = answer; next = d.state }

-- The file is the same, the count of failed reads has not decreased, and the decoder has this
-- state.
pub record StandsAt (state : State) (old new : Decoding) : Type 0 where
  pub stands : new ≡ record old { failures = new.failures; state = state }
  pub failures : old.failures ≤ new.failures

-- The call returns the result of the outcome and leaves its state; no read fails.
pub record GivesOutcome {Y : Type 0} (result : Result Y TiffError) (outcome : Outcome Y)
    (old new : Decoding) : Type 0 where
  pub answer : outcome.answer ≡ result
  pub at : new ≡ record old { state = outcome.next }

-- A read fails, and the state of the decoder is unchanged.
pub record ReadFailed (old new : Decoding) : Type 0 where
  pub grew : old.failures < new.failures
  pub at : StandsAt old.state old new

-- the errors that leave the state of a decoder unchanged: out of memory, and an error of the device
abbrev pub keeps_state : TiffError → Bool
keeps_state e = is_memory e || is_device e

-- the decoder after an error: out of memory, where the call may allocate, and an error of the
-- device leave its state unchanged; any other error is the one of the outcome
abbrev pub Refused : {Y : Type 0} → Type 0 → TiffError → Outcome Y → Decoding → Decoding → Type 0
Refused wanting e outcome old new =
    IsCause (wanting × (new ≡ old)) (ReadFailed old new) e (GivesOutcome (Err e) outcome old new)

-- the result of a call that reads the source, through a view, and the decoder before and after it
abbrev pub FollowsBut : {X Y : Type 0} → Type 0 → (X → Y) → Outcome Y → Result X TiffError
    → Decoding → Decoding → Type 0
FollowsBut wanting view outcome (Ok x) old new = GivesOutcome (Ok (view x)) outcome old new
FollowsBut wanting view outcome (Err e) old new = Refused wanting e outcome old new

-- a call that reads the source and may run out of memory
abbrev pub Follows : {X Y : Type 0} → (X → Y) → Outcome Y → Result X TiffError → Decoding → Decoding
    → Type 0
Follows view outcome result old new = FollowsBut (Unit {0}) view outcome result old new

-- the same of the outcome of the decoder before the call
abbrev pub FollowsCall : {X : Type 0} → (Decoding → Outcome X) → Result X TiffError → Decoding
    → Decoding → Type 0
FollowsCall call result old new = Follows (λ x. x) (call old) result old new

-- a call that reads the source and allocates no memory
abbrev pub FollowsWithoutMemory : {X Y : Type 0} → (X → Y) → Outcome Y → Result X TiffError
    → Decoding → Decoding → Type 0
FollowsWithoutMemory view outcome result old new = FollowsBut ⊥ view outcome result old new

-- a call that does not read the source, so that no read fails
abbrev pub FollowsWithoutSourceBut : {X Y : Type 0} → Type 0 → (X → Y) → Outcome Y
    → Result X TiffError → Decoding → Decoding → Type 0
FollowsWithoutSourceBut wanting view outcome result old new =
    AnswersBut wanting ⊥ view result outcome.answer × (new ≡ record old { state = outcome.next })

-- a call that does not read the source and allocates no memory
abbrev pub FollowsWithoutEither : {X Y : Type 0} → (X → Y) → Outcome Y → Result X TiffError
    → Decoding → Decoding → Type 0
FollowsWithoutEither view outcome result old new =
    FollowsWithoutSourceBut ⊥ view outcome result old new

-- a call that does not read the source, and allocates memory only for an error that contains a list
abbrev pub FollowsOrFaults : {X Y : Type 0} → (X → Y) → Outcome Y → Result X TiffError → Decoding
    → Decoding → Type 0
FollowsOrFaults view outcome result old new =
    FollowsWithoutSourceBut (IsListFault outcome.answer) view outcome result old new

-- a call that never fails and leaves the state unchanged
abbrev pub Tells : {Y : Type 0} → Y → Y → Decoding → Decoding → Type 0
Tells given result old new = (result ≡ given) × (new ≡ old)
