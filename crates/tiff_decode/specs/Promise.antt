-- The result that each call of a decoder promises, and the errors that may replace it (this
-- project's).
use Rattle.std.specs.Prelude.{◌≡◌, true, Result, Ok, replicate}
use Rattle.tiff_base.specs.declared.error.TiffError.{TiffError}
use Rattle.tiff_base.specs.declared.tags.«Type».TheVariants.{BYTE}
use Rattle.tiff_base.specs.Sparing.{IsListFault, IsOkOrList, IsWithinLimits}
use Rattle.tiff_value.specs.Buffer.{empty_buffer}
use Rattle.tiff_page.specs.EarlyFaults.{chunk_early, image_early, planes_early, strided_early}
use Rattle.tiff_decode.specs.declared.script.Call.{Call}
use Rattle.tiff_decode.specs.declared.script.Call.TheVariants as call
use Rattle.tiff_decode.specs.Machine.{State, Decoding, Outcome, stays}
use Rattle.tiff_decode.specs.Outcome as outcome

-- The result that a call promises, as plain data of type Y, and the errors that may replace it.
pub data Promise : Type 1 where
  -- the call reads the source, so a read may fail; it may run out of memory only where this
  -- condition holds
  reads : {Y : Type 0} → Type 0 → Outcome Y → Promise
  -- the call reads nothing and allocates no memory
  knows : {Y : Type 0} → Outcome Y → Promise
  -- the call reads nothing and leaves the state unchanged; it may run out of memory only where this
  -- condition holds
  describes : {Y : Type 0} → Type 0 → Result Y TiffError → Promise
  -- the call reads tags and leaves the state unchanged; a read may fail, and the call may run out
  -- of memory only where this condition holds
  reads_tags : {Y : Type 0} → Type 0 → Outcome Y → Promise
  -- the call never fails and leaves the state unchanged
  tells : {Y : Type 0} → Y → Promise
  -- the call never fails, and leaves this state
  sets : State → Promise

-- the type of the plain data
abbrev pub AnswerOf : Promise → Type 0
AnswerOf (reads {Y} wanting o) = Y
AnswerOf (knows {Y} o) = Y
AnswerOf (describes {Y} wanting answer) = Y
AnswerOf (reads_tags {Y} wanting o) = Y
AnswerOf (tells {Y} y) = Y
AnswerOf (sets s) = Unit {0}

-- the state after a call with this promise
abbrev pub state_after : Decoding → Promise → State
state_after d (reads wanting o) = o.next
state_after d (knows o) = o.next
state_after d (describes wanting answer) = d.state
state_after d (reads_tags wanting o) = d.state
state_after d (tells y) = d.state
state_after d (sets s) = s

-- The promise of each call. Each item of a list of tags may also fail by itself.
abbrev pub promise : Decoding → Call → Promise
promise d (call.SetLimits limits) = sets (outcome.set_limits d limits).next
promise d call.Dimensions = knows (outcome.dimensions d)
promise d call.Colortype =
    describes (IsListFault (outcome.colortype d).answer) (outcome.colortype d).answer
promise d call.IfdPointer = tells (outcome.ifd_pointer d)
promise d (call.SeekToImage k) = reads (Unit {0}) (outcome.seek_to_image d k)
promise d call.NextImage = reads (d.state.more ≡ true) (outcome.next_image d)
promise d call.MoreImages = tells (outcome.more_images d)
promise d call.ByteOrder = tells (outcome.byte_order d)
promise d (call.ReadDirectory pointer) = reads (Unit {0}) (outcome.read_directory d pointer)
promise d (call.GotoOffset offset) = knows (outcome.goto_offset d offset)
promise d (call.GotoOffsetU64 offset) = knows (outcome.goto_offset d offset)
promise d call.ReadIfdOffset = reads ⊥ (outcome.read_ifd_offset d)
promise d call.ReadByte = reads ⊥ (outcome.read_byte d)
promise d call.ReadShort = reads ⊥ (outcome.read_short d)
promise d call.ReadSshort = reads ⊥ (outcome.read_sshort d)
promise d call.ReadLong = reads ⊥ (outcome.read_long d)
promise d call.ReadSlong = reads ⊥ (outcome.read_slong d)
promise d call.ReadLong8 = reads ⊥ (outcome.read_long8 d)
promise d call.ReadSlong8 = reads ⊥ (outcome.read_slong8 d)
promise d call.ReadFloat = reads ⊥ (outcome.read_float d)
promise d call.ReadDouble = reads ⊥ (outcome.read_double d)
promise d (call.ReadString len) =
    reads (IsWithinLimits (outcome.read_string d len).answer) (outcome.read_string d len)
promise d call.ReadOffset = reads ⊥ (outcome.read_offset d)
promise d call.ReadOffsetU64 = reads ⊥ (outcome.read_offset_u64 d)
promise d call.GetChunkType = tells (outcome.get_chunk_type d)
promise d call.StripCount = knows (outcome.strip_count d)
promise d call.TileCount = knows (outcome.tile_count d)
promise d call.ChunkDimensions = tells (outcome.chunk_dimensions d)
promise d (call.ChunkDataDimensions i) = tells (outcome.chunk_data_dimensions d i)
promise d call.ImageBufferLayout =
    describes (IsListFault (outcome.image_buffer_layout d).answer)
    (outcome.image_buffer_layout d).answer
promise d (call.ImageChunkBufferLayout i) =
    describes (IsListFault (outcome.image_chunk_buffer_layout d i).answer)
    (outcome.image_chunk_buffer_layout d i).answer
promise d (call.ImageCodingUnitLayout unit) =
    describes (IsListFault (outcome.image_coding_unit_layout d unit.0).answer)
    (outcome.image_coding_unit_layout d unit.0).answer
promise d call.ReadImage =
    reads (IsOkOrList (image_early d.bytes d.state.page d.state.limits)) (outcome.read_image d)
promise d call.ReadImageToBuffer =
    reads (IsOkOrList (planes_early d.bytes d.state.page d.state.limits))
    (outcome.read_image_to_buffer d)
promise d (call.ReadImageBytes len) =
    reads (Unit {0}) (outcome.read_image_bytes d (replicate len 0))
promise d (call.ReadChunk i) =
    reads (IsOkOrList (chunk_early d.bytes d.state.page d.state.limits i)) (outcome.read_chunk d i)
promise d (call.ReadChunkBytes i len) =
    reads (Unit {0}) (outcome.read_chunk_bytes d i (replicate len 0))
promise d (call.ReadChunkToBuffer i stride) =
    reads (IsOkOrList (strided_early d.bytes d.state.page d.state.limits i stride))
    (outcome.read_chunk_to_buffer d i stride)
promise d (call.ReadCodingUnitBytes unit len) =
    reads (Unit {0}) (outcome.read_coding_unit_bytes d unit.0 (replicate len 0))
promise d (call.FindTag tag) = reads_tags (outcome.WantsTag d tag) (outcome.find_tag d tag)
promise d (call.FindTagUnsigned tag) =
    reads_tags (outcome.WantsTag d tag) (outcome.find_tag_unsigned d tag)
promise d (call.FindTagUnsignedVec tag) =
    reads_tags (outcome.WantsTag d tag) (outcome.find_tag_unsigned_vec d tag)
promise d (call.GetTag tag) = reads_tags (outcome.WantsTag d tag) (outcome.get_tag d tag)
promise d (call.GetTagUnsigned tag) =
    reads_tags (outcome.WantsTag d tag) (outcome.get_tag_unsigned d tag)
promise d (call.GetTagU32 tag) = reads_tags (outcome.WantsTag d tag) (outcome.get_tag_u32 d tag)
promise d (call.GetTagU64 tag) = reads_tags (outcome.WantsTag d tag) (outcome.get_tag_u64 d tag)
promise d (call.GetTagF32 tag) = reads_tags (outcome.WantsTag d tag) (outcome.get_tag_f32 d tag)
promise d (call.GetTagF64 tag) = reads_tags (outcome.WantsTag d tag) (outcome.get_tag_f64 d tag)
promise d (call.GetTagU32Vec tag) =
    reads_tags (outcome.WantsTag d tag) (outcome.get_tag_u32_vec d tag)
promise d (call.GetTagU16Vec tag) =
    reads_tags (outcome.WantsTag d tag) (outcome.get_tag_u16_vec d tag)
promise d (call.GetTagU64Vec tag) =
    reads_tags (outcome.WantsTag d tag) (outcome.get_tag_u64_vec d tag)
promise d (call.GetTagF32Vec tag) =
    reads_tags (outcome.WantsTag d tag) (outcome.get_tag_f32_vec d tag)
promise d (call.GetTagF64Vec tag) =
    reads_tags (outcome.WantsTag d tag) (outcome.get_tag_f64_vec d tag)
promise d (call.GetTagU8Vec tag) =
    reads_tags (outcome.WantsTag d tag) (outcome.get_tag_u8_vec d tag)
promise d (call.GetTagAsciiString tag) =
    reads_tags (outcome.WantsTag d tag) (outcome.get_tag_ascii_string d tag)
promise d call.TagIter = reads (Unit {0}) (stays d (Ok (outcome.tag_iter d)))
promise d (call.FindEntry tag) = tells (outcome.find_entry d tag)
promise d (call.FindTagBuf tag) =
    reads_tags (outcome.WantsBytes d tag (empty_buffer BYTE))
    (outcome.find_tag_buf d tag (empty_buffer BYTE))
promise d (call.FindTagBytes tag len at) =
    reads_tags (Unit {0}) (outcome.find_tag_bytes d tag (replicate len 0) at)
