-- Worked examples of lists of decoder calls with their replies.
use Rattle.std.specs.Prelude.{◌≡◌, List, [], ◌∷◌, Some, None, true, false, Ok, Err}
use Rattle.tiff_base.specs.declared.color.ChunkType.TheVariants.{Strip, Tile}
use Rattle.tiff_base.specs.declared.color.ColorType.TheVariants.{Gray}
use Rattle.tiff_base.specs.declared.error.TiffError.TheVariants.{FormatError, IoError, LimitsExceeded, OutOfMemory}
use Rattle.tiff_base.specs.declared.error.TiffFormatError.TheVariants.{ImageFileDirectoryNotFound, CycleInOffsets}
use Rattle.tiff_base.specs.declared.io.IoKind.TheVariants.{UnexpectedEof, Device}
use Rattle.tiff_base.specs.declared.tags.ByteOrder.TheVariants.{LittleEndian, BigEndian}
use Rattle.tiff_base.specs.declared.tags.Tag.TheVariants as tag
use Rattle.tiff_base.specs.declared.tags.«Type».TheVariants.{BYTE, LONG}
use Rattle.tiff_base.specs.Field.{Field}
use Rattle.tiff_value.specs.Buffer.{empty_buffer}
use Rattle.tiff_ifd.specs.PlainValue as d
use Rattle.tiff_ifd.specs.declared.value.Value.TheVariants as v
use Rattle.tiff_ifd.specs.Limits.{unlimited}
use Rattle.tiff_decode.specs.declared.result.DecodingResult.{DecodingResult}
use Rattle.tiff_decode.specs.declared.script.Call.{Call}
use Rattle.tiff_decode.specs.declared.script.Call.TheVariants as call
use Rattle.tiff_decode.specs.declared.script.Reply.{Reply}
use Rattle.tiff_decode.specs.declared.script.Reply.TheVariants as reply
use Rattle.tiff_decode.specs.Machine.{Decoding}
use Rattle.tiff_decode.specs.Outcome as outcome
use Rattle.tiff_decode.specs.Failures.{all_failures, fault_in}
use Rattle.tiff_decode.specs.NextState.{next_state, IsNamed}
use Rattle.tiff_laws.specs.OneAnswer.{SameAnswer}
use Rattle.tiff_decode.specs.Step.{Step, ItemsAre, Items, BufferLeft}
use Rattle.tiff_decode.specs.Steps.{Steps, Ran}
use Rattle.test_definitions.specs.Page.EarlyFaults.{claiming_page}
use Rattle.test_definitions.specs.Page.PixelCalls.{tiles, two_faults}
use Rattle.test_definitions.specs.Page.Pixels.{pixel_page}
use Rattle.test_definitions.specs.Decoders.{at, gray_state, gray_fields, gray_decoder, two_decoder}

-- the statement `A` doesn't hold
abbrev pub Never : Type 0 → Type 0
Never A = A → ⊥

-- ---- one call

-- the dimensions of the page, and other ones
abbrev pub sides_told : Type 0
sides_told = Step gray_decoder call.Dimensions (reply.Dimensions (Ok (1, 1))) gray_decoder

-- mistake: `Step` allows a reply that wasn't asked for
abbrev pub sides_wrong : Type 0
sides_wrong = Never (Step gray_decoder call.Dimensions (reply.Dimensions (Ok (1, 2))) gray_decoder)

-- mistake: `reply_view` shows another call's reply
-- the reply of another call
abbrev pub other_call : Type 0
other_call = Never (Step gray_decoder call.StripCount (reply.TileCount (Ok 1)) gray_decoder)

-- mistake: `FollowsBut` allows a call that moves the decoder
-- mistake: `Step` allows another state of the decoder
-- the right reply, but the decoder moves
abbrev pub left_elsewhere : Type 0
left_elsewhere =
    Never (Step gray_decoder call.MoreImages (reply.MoreImages false)
    (record gray_decoder { state = record gray_state { offset = 9 } }))

-- a device error counts a failed read, and the decoder doesn't move
abbrev pub failed_read : Type 0
failed_read =
    Step gray_decoder call.ReadByte (reply.ReadByte (Err (IoError Device)))
    (record gray_decoder { failures = 1 })

-- mistake: `ReadFailed` allows a device error without a failed read
-- no device error without a failed read
abbrev pub no_failed_read : Type 0
no_failed_read =
    Never (Step gray_decoder call.ReadByte (reply.ReadByte (Err (IoError Device))) gray_decoder)

-- mistake: `FollowsWithoutSourceBut` allows a failed read where nothing is read
-- mistake: `promise` allows a failed read of a call that reads nothing
-- a call that reads nothing returns no device error
abbrev pub no_read : Type 0
no_read =
    Never (Step gray_decoder call.Dimensions (reply.Dimensions (Err (IoError Device)))
    (record gray_decoder { failures = 1 }))

-- mistake: `GivesOutcome` allows an `Ok` after a read that failed
-- a value after a failed read that was repeated
abbrev pub swallowed : Type 0
swallowed =
    Never (Step gray_decoder call.ReadByte (reply.ReadByte (Ok 0x2a))
    (record gray_decoder { failures = 1; state = record gray_state { offset = 9 } }))

-- a failed read that moved the offset
abbrev pub moved_by_failure : Type 0
moved_by_failure =
    Never (Step gray_decoder call.ReadByte (reply.ReadByte (Err (IoError Device)))
    (record gray_decoder { failures = 1; state = record gray_state { offset = 9 } }))

-- an out-of-memory error of a call that allocates, and of one that doesn't
abbrev pub wanting : Type 0
wanting =
    let two = two_decoder (0x19 ∷ 0x00 ∷ 0x00 ∷ 0x00 ∷ []) in
    Step two call.NextImage (reply.NextImage (Err OutOfMemory)) two

abbrev pub none_to_enter : Type 0
none_to_enter =
    Never (Step gray_decoder call.NextImage (reply.NextImage (Err OutOfMemory)) gray_decoder)

-- mistake: `FollowsWithoutMemory` allows out of memory where nothing is allocated (`color_wanting`
--   fails too)
-- mistake: `promise` allows out of memory where nothing is allocated
abbrev pub not_wanting : Type 0
not_wanting =
    Never (Step gray_decoder call.ReadByte (reply.ReadByte (Err OutOfMemory)) gray_decoder)

-- a color type is returned without memory
abbrev pub color_told : Type 0
color_told = Step gray_decoder call.Colortype (reply.Colortype (Ok (Gray 8))) gray_decoder

abbrev pub color_wanting : Type 0
color_wanting =
    Never (Step gray_decoder call.Colortype (reply.Colortype (Err OutOfMemory)) gray_decoder)

-- mistake: `promise` never allows out of memory for samples
-- an out-of-memory error for the samples of an image, but not if the file ends before them
abbrev pub image_wanting : Type 0
image_wanting = Step gray_decoder call.ReadImage (reply.ReadImage (Err OutOfMemory)) gray_decoder

-- mistake: `promise` allows out of memory for samples that an error refuses before
--   (`buffer_not_wanting`, `chunk_not_wanting`, `strided_not_wanting` fail too)
abbrev pub image_not_wanting : Type 0
image_not_wanting =
    let d = record gray_decoder { state = record gray_state { page = claiming_page } } in
    Never (Step d call.ReadImage (reply.ReadImage (Err OutOfMemory)) d)

-- an out-of-memory error for a given buffer, whatever it contains
abbrev pub buffer_wanting : Type 0
buffer_wanting =
    (held : DecodingResult)
    → Step gray_decoder call.ReadImageToBuffer (reply.ReadImageToBuffer (Err OutOfMemory) held)
    gray_decoder

abbrev pub buffer_not_wanting : Type 0
buffer_not_wanting =
    let d = record gray_decoder { state = record gray_state { page = claiming_page } } in
    (held : DecodingResult)
    → Never (Step d call.ReadImageToBuffer (reply.ReadImageToBuffer (Err OutOfMemory) held) d)

-- an out-of-memory error for a page's first chunk, but not for the second, which is past the end of
-- the file
abbrev pub faults_decoder : Decoding
faults_decoder =
    record gray_decoder { bytes = tiles; state = record gray_state { page = two_faults } }

abbrev pub chunk_wanting : Type 0
chunk_wanting =
    Step faults_decoder (call.ReadChunk 0) (reply.ReadChunk (Err OutOfMemory)) faults_decoder

-- mistake: `promise` allows out of memory as for the first chunk
abbrev pub chunk_not_wanting : Type 0
chunk_not_wanting =
    Never (Step faults_decoder (call.ReadChunk 1) (reply.ReadChunk (Err OutOfMemory))
    faults_decoder)

-- an out-of-memory error for rows 2 bytes apart, but not for a stride of 1, which is too short
abbrev pub strided_wanting : Type 0
strided_wanting =
    (held : DecodingResult)
    → Step faults_decoder (call.ReadChunkToBuffer 0 2)
    (reply.ReadChunkToBuffer (Err OutOfMemory) held) faults_decoder

-- mistake: `promise` allows out of memory as for rows without a stride
abbrev pub strided_not_wanting : Type 0
strided_not_wanting =
    (held : DecodingResult)
    → Never (Step faults_decoder (call.ReadChunkToBuffer 0 1)
    (reply.ReadChunkToBuffer (Err OutOfMemory) held) faults_decoder)

-- ---- several calls

-- the calls of a user of `gray_file`
abbrev pub gray_calls : List Call
gray_calls = call.Dimensions ∷ call.NextImage ∷ call.MoreImages ∷ call.GotoOffset 24 ∷ call.ReadByte
    ∷ call.IfdPointer ∷ []

abbrev pub gray_replies : List Reply
gray_replies =
    reply.Dimensions (Ok (1, 1)) ∷ reply.NextImage (Err (FormatError ImageFileDirectoryNotFound))
    ∷ reply.MoreImages false
    ∷ reply.GotoOffset (Ok tt) ∷ reply.ReadByte (Ok 7) ∷ reply.IfdPointer (Some (at 25)) ∷ []

abbrev pub gray_read : Type 0
gray_read =
    Steps gray_decoder gray_calls gray_replies
    (record gray_decoder { state = record gray_state { offset = 25 } })

-- an empty list of calls leaves the decoder unchanged
abbrev pub none_called : Type 0
none_called = Steps gray_decoder [] [] gray_decoder

-- mistake: `Steps` allows a call without a reply
-- each call has a reply
abbrev pub one_unanswered : Type 0
one_unanswered = Never (Steps gray_decoder (call.MoreImages ∷ []) [] gray_decoder)

-- mistake: `Steps` allows a reply without a call
abbrev pub one_unasked : Type 0
one_unasked = Never (Steps gray_decoder [] (reply.MoreImages false ∷ []) gray_decoder)

-- after a cycle there are no more images
abbrev pub cycle_steps : Type 0
cycle_steps =
    let two = two_decoder (0x19 ∷ 0x00 ∷ 0x00 ∷ 0x00 ∷ []) in
    Steps two (call.MoreImages ∷ call.NextImage ∷ call.MoreImages ∷ [])
    (reply.MoreImages true ∷ reply.NextImage (Err (FormatError CycleInOffsets))
    ∷ reply.MoreImages false ∷ [])
    (record two { state = record two.state { more = false } })

-- two failed reads in three replies, after an earlier failed read
abbrev pub failing_replies : List Reply
failing_replies =
    reply.ReadByte (Err (IoError Device)) ∷ reply.MoreImages false
    ∷ reply.ReadLong (Err (IoError Device)) ∷ []

abbrev pub two_failures : Type 0
two_failures = all_failures failing_replies ≡ 2

-- mistake: `all_failures` counts the end of the file as a failed read (`fault_told` fails too)
abbrev pub no_failures : Type 0
no_failures =
    all_failures
    (reply.ReadByte (Err (IoError UnexpectedEof)) ∷ reply.NextImage (Err OutOfMemory) ∷ []) ≡ 0

-- mistake: `Ran` loses earlier replies
abbrev pub failing_ran : Type 0
failing_ran =
    Ran gray_decoder (call.ReadByte ∷ call.MoreImages ∷ call.ReadLong ∷ [])
    (reply.MoreImages true ∷ [])
    (reply.MoreImages true ∷ failing_replies) (record gray_decoder { failures = 2 })

-- ---- the state after a call

abbrev pub next_of_long : Type 0
next_of_long = next_state gray_decoder call.ReadLong ≡ record gray_state { offset = 12 }

abbrev pub next_of_limits : Type 0
next_of_limits =
    next_state gray_decoder (call.SetLimits unlimited) ≡ record gray_state { limits = unlimited }

-- mistake: `state_after` moves the decoder when tags are read
abbrev pub next_of_tag : Type 0
next_of_tag = next_state gray_decoder (call.GetTag tag.ImageWidth) ≡ gray_state

-- mistake: `next_state` moves the decoder at a call that reads nothing (`next_of_long` fails too)
abbrev pub next_of_sides : Type 0
next_of_sides = next_state gray_decoder call.Dimensions ≡ gray_state

abbrev pub fault_told : Type 0
fault_told =
    fault_in (reply.NextImage (Err (FormatError CycleInOffsets)))
    ≡ Some (FormatError CycleInOffsets)

abbrev pub no_fault_told : Type 0
no_fault_told = fault_in (reply.MoreImages false) ≡ None

-- a reply that isn't an out-of-memory or device error, and a reply that is
abbrev pub named : Type 0
named = IsNamed (reply.NextImage (Err (FormatError CycleInOffsets)))

-- mistake: `IsNamed` counts out of memory as such a reply
abbrev pub not_named : Type 0
not_named = Never (IsNamed (reply.NextImage (Err OutOfMemory)))

-- replies with the same result, and replies with different results
abbrev pub same : Type 0
same = SameAnswer gray_decoder call.ReadByte (reply.ReadByte (Ok 7)) (reply.ReadByte (Ok 7))

abbrev pub not_same : Type 0
not_same =
    Never (SameAnswer gray_decoder call.ReadByte (reply.ReadByte (Ok 7)) (reply.ReadByte (Ok 8)))

-- mistake: `SameAnswer` takes any two replies for the same
abbrev pub not_same_call : Type 0
not_same_call =
    Never (SameAnswer gray_decoder call.StripCount (reply.StripCount (Ok 7))
    (reply.TileCount (Ok 7)))

-- mistake: `reply_view` shows another call's reply
-- a reply to another call has no result, and isn't even the same as itself
abbrev pub tells_nothing : Type 0
tells_nothing =
    Never (SameAnswer gray_decoder call.StripCount (reply.TileCount (Ok 7))
    (reply.TileCount (Ok 7)))

-- ---- directories

-- mistake: `read_directory` moves the pointer when a directory is read
-- the directory of `gray_file`, read with any decoder position
abbrev pub directory_read : Type 0
directory_read =
    outcome.read_directory (record gray_decoder { state = record gray_state { pointer = None } })
    (at 25) ≡ record { answer = Ok gray_fields; next = record gray_state { pointer = None } }

-- a directory at offset 0 and past the end
abbrev pub directory_past : Type 0
directory_past =
    outcome.read_directory gray_decoder (at 199) ≡ record {
      answer = Err (IoError UnexpectedEof);
      next = gray_state;
    }

-- the pointer, byte order and chunk type of a decoder
abbrev pub told_of : Type 0
told_of =
    (outcome.ifd_pointer gray_decoder ≡ Some (at 25)) × (outcome.more_images gray_decoder ≡ false)
    × (outcome.byte_order gray_decoder ≡ LittleEndian)
    × (outcome.get_chunk_type gray_decoder ≡ Strip)

abbrev pub told_of_two : Type 0
told_of_two = outcome.more_images (two_decoder []) ≡ true

-- mistake: `chunk_dimensions` clips a chunk's sides to the image
abbrev pub chunk_sides : Type 0
chunk_sides =
    (outcome.chunk_dimensions gray_decoder ≡ (1, 1000000))
    × (outcome.chunk_data_dimensions gray_decoder 5 ≡ (1, 1))

-- the pointer, byte order and chunk type of a big-endian decoder without a pointer
abbrev pub told_of_big : Type 0
told_of_big =
    let big = record gray_decoder { order = BigEndian; state = record gray_state { pointer = None; page = record pixel_page { chunk_type = Tile } } } in
    (outcome.ifd_pointer big ≡ None) × (outcome.byte_order big ≡ BigEndian)
    × (outcome.get_chunk_type big ≡ Tile)

-- ---- items of tags, and buffers

-- no items, a missing item, and an extra item
abbrev pub no_items : Type 0
no_items = ItemsAre [] [] 3 3

-- mistake: `ItemsAre` has an item too few
abbrev pub item_missing : Type 0
item_missing = Never (ItemsAre (Err LimitsExceeded ∷ []) [] 0 0)

-- mistake: `ItemsAre` has one too many
abbrev pub item_unasked : Type 0
item_unasked = Never (ItemsAre [] (Err LimitsExceeded ∷ []) 0 0)

-- different errors of the items: the defined one, a failed read, out of memory
abbrev pub items_told : Type 0
items_told =
    ItemsAre (Err LimitsExceeded ∷ Ok (tag.Compression, d.short 1) ∷ Ok (tag.Compression, d.short 1)
    ∷ [])
    (Err LimitsExceeded ∷ Err (IoError Device) ∷ Err OutOfMemory ∷ []) 0 1

-- mistake: `ItemsAre` doesn't count a failed read
-- a failed read that isn't counted
abbrev pub item_not_failed : Type 0
item_not_failed = Never (ItemsAre (Err LimitsExceeded ∷ []) (Err (IoError Device) ∷ []) 1 1)

-- mistake: `ItemsAre` passes over a failed read
-- an item with its value after a failed read
abbrev pub item_swallowed : Type 0
item_swallowed =
    Never (ItemsAre (Ok (tag.Compression, d.short 1) ∷ []) (Ok (tag.Compression, v.Short 1) ∷ []) 0
    1)

-- mistake: `ItemsAre` allows any value
-- an item with its value
abbrev pub item_told : Type 0
item_told =
    ItemsAre (Ok (tag.Compression, d.short 1) ∷ []) (Ok (tag.Compression, v.Short 1) ∷ []) 0 0

-- mistake: `Items` allows any error for the list
-- an out-of-memory error for the list of items, and another error
abbrev pub no_list : Type 0
no_list = Items [] (Err OutOfMemory) gray_decoder gray_decoder
    × Never (Items [] (Err LimitsExceeded) gray_decoder gray_decoder)

-- a buffer keeps its content after a limit error; after a failed read it has the field's type and
-- no values
abbrev pub longs : Field
longs = record { field_type = LONG; count = 2; value = [] }

abbrev pub buffer_held : Type 0
buffer_held =
    BufferLeft BigEndian (Some longs) (empty_buffer BYTE) (Err LimitsExceeded) (empty_buffer BYTE)

abbrev pub buffer_emptied : Type 0
buffer_emptied =
    BufferLeft BigEndian (Some longs) (empty_buffer BYTE) (Err (IoError Device))
    (record { order = BigEndian; data_type = LONG; bytes = [] })

-- mistake: `BufferLeft` leaves the buffer unspecified after every error
abbrev pub buffer_changed : Type 0
buffer_changed =
    Never (BufferLeft BigEndian (Some longs) (empty_buffer BYTE) (Err LimitsExceeded)
    (record { order = LittleEndian; data_type = BYTE; bytes = 7 ∷ [] }))
