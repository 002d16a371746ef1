-- A call of a decoder, its reply, and the decoder before and after it (this project's).
use Rattle.std.specs.Prelude.{◌≡◌, ℕ, ◌<◌, List, [], ◌∷◌, Option, None, Some, Result, Ok, Err, Vec}
use Rattle.std.specs.declared.alloc.Global.{Global}
use Rattle.tiff_base.specs.declared.error.TiffError.{TiffError}
use Rattle.tiff_base.specs.declared.error.TiffError.TheVariants.{OutOfMemory}
use Rattle.tiff_base.specs.declared.tags.Tag.{Tag}
use Rattle.tiff_base.specs.declared.tags.«Type».TheVariants.{BYTE}
use Rattle.tiff_base.specs.declared.tags.ByteOrder.{ByteOrder}
use Rattle.tiff_base.specs.Answers.{IsCause}
use Rattle.tiff_base.specs.Field.{Field}
use Rattle.tiff_value.specs.Buffer.{BufferRecord, empty_buffer}
use Rattle.tiff_ifd.specs.declared.value.Value.{Value}
use Rattle.tiff_ifd.specs.TagQueries.{refused_buffer}
use Rattle.tiff_ifd.specs.PlainValue.{PlainValue}
use Rattle.tiff_ifd.specs.View.{plain_value}
use Rattle.tiff_decode.specs.declared.script.Call.{Call}
use Rattle.tiff_decode.specs.declared.script.Call.TheVariants as call
use Rattle.tiff_decode.specs.declared.script.Reply.{Reply}
use Rattle.tiff_decode.specs.declared.script.Reply.TheVariants as reply
use Rattle.tiff_decode.specs.Machine.{Decoding, StandsAt, FollowsBut, FollowsWithoutEither, FollowsWithoutSourceBut, Tells, stays}
use Rattle.tiff_decode.specs.Outcome as outcome
use Rattle.tiff_decode.specs.Promise.{Promise, AnswerOf, reads, knows, describes, reads_tags, tells, sets, promise}
use Rattle.tiff_decode.specs.Reader.{TagsRead}
use Rattle.tiff_decode.specs.ReplyView.{ReplyView, sees, reply_view}

-- ---- the items of a page's tags

-- an item, or out of memory or a failed read in its place
abbrev pub ItemIs : Result (Tag × PlainValue) TiffError → Result (Tag × Value) TiffError → ℕ → ℕ
    → Type 0
ItemIs given (Ok x) before after = (given ≡ Ok (x.0, plain_value x.1)) × (after ≡ before)
ItemIs given (Err e) before after =
    IsCause (after ≡ before) (before < after) e ((given ≡ Err e) × (after ≡ before))

-- each item of a list in order
abbrev pub ItemsAre : List (Result (Tag × PlainValue) TiffError)
    → List (Result (Tag × Value) TiffError) → ℕ → ℕ → Type 0
ItemsAre [] [] before after = after ≡ before
ItemsAre [] (x ∷ xs) before after = ⊥
ItemsAre (g ∷ gs) [] before after = ⊥
ItemsAre (g ∷ gs) (x ∷ xs) before after = (between : ℕ) × ItemIs g x before between
    × ItemsAre gs xs between after

-- all items, or out of memory for their list
abbrev pub Items : List (Result (Tag × PlainValue) TiffError)
    → Result (Vec (Result (Tag × Value) TiffError) Global) TiffError → Decoding → Decoding → Type 0
Items given (Ok v) old new = StandsAt old.state old new
    × ItemsAre given v.items old.failures new.failures
Items given (Err e) old new = (e ≡ OutOfMemory) × StandsAt old.state old new

-- the buffer after a failed read of a tag's values, also after out of memory; without such a tag
-- the buffer stays the same
abbrev pub BufferLeft : ByteOrder → Option Field → BufferRecord → Result (Option Field) TiffError
    → BufferRecord → Type 0
BufferLeft order None held r b = b ≡ held
BufferLeft order (Some f) held (Ok x) b = Unit {0}
BufferLeft order (Some f) held (Err e) b = b ≡ refused_buffer order f held e

-- ---- the step

-- A call keeps its promise: the reply shows the promised result, or out of memory or a failed read
-- where these are allowed.
abbrev pub Fulfils : (p : Promise) → ReplyView (AnswerOf p) → Decoding → Decoding → Type 0
Fulfils (reads wanting o) (sees view r) old new = FollowsBut wanting view o r old new
Fulfils (knows o) (sees view r) old new = FollowsWithoutEither view o r old new
Fulfils (describes wanting answer) (sees view r) old new =
    FollowsWithoutSourceBut wanting view (stays old answer) r old new
Fulfils (reads_tags wanting o) (sees view r) old new = TagsRead wanting view o r old new
Fulfils (tells y) (sees view (Ok x)) old new = Tells y (view x) old new
Fulfils (sets s) (sees view (Ok x)) old new = new ≡ record old { state = s }
Fulfils p s old new = ⊥

-- Each call and its reply keep the promise of the call. The items of tags keep it one by one, and
-- `find_tag_buf` leaves the buffer as `BufferLeft` says. A reply with the name of another call is
-- not allowed.
abbrev pub Step : Decoding → Call → Reply → Decoding → Type 0
Step old call.TagIter (reply.TagIter r) new = Items (outcome.tag_iter old) r old new
Step old (call.FindTagBuf tag) (reply.FindTagBuf r b) new =
    TagsRead (outcome.WantsBytes old tag (empty_buffer BYTE)) (λ x. (x, b))
    (outcome.find_tag_buf old tag (empty_buffer BYTE)) r old new
    × BufferLeft old.order (outcome.find_entry old tag) (empty_buffer BYTE) r b
Step old which reply new = Fulfils (promise old which) (reply_view old which reply) old new
