-- The plain data that a reply shows of its call (this project's).
use Rattle.std.specs.Prelude.{ℕ, List, Result, Ok, Vec, map, option_map, string_bytes}
use Rattle.std.specs.declared.alloc.Global.{Global}
use Rattle.tiff_base.specs.declared.error.TiffError.{TiffError}
use Rattle.tiff_base.specs.declared.tags.Bits32.{Bits32}
use Rattle.tiff_base.specs.declared.tags.Bits64.{Bits64}
use Rattle.tiff_ifd.specs.View.{plain_value}
use Rattle.tiff_decode.specs.declared.script.Call.{Call}
use Rattle.tiff_decode.specs.declared.script.Call.TheVariants as call
use Rattle.tiff_decode.specs.declared.script.Reply.{Reply}
use Rattle.tiff_decode.specs.declared.script.Reply.TheVariants as reply
use Rattle.tiff_decode.specs.Machine.{Decoding}
use Rattle.tiff_decode.specs.NextState.{view_of_item}
use Rattle.tiff_decode.specs.Promise.{AnswerOf, promise}
use Rattle.tiff_decode.specs.Result.{decoded_as}

-- ---- the contents of replies as plain data

abbrev pub items_of : {X : Type 0} → Vec X Global → List X
items_of v = v.items

abbrev pub bits_32 : Bits32 → ℕ
bits_32 b = b.0

abbrev pub bits_64 : Bits64 → ℕ
bits_64 b = b.0

-- ---- the table

-- A result with the view that makes it plain data of type Y; or nothing.
pub data ReplyView (Y : Type 0) : Type 1 where
  sees : {X : Type 0} → (X → Y) → Result X TiffError → ReplyView Y
  sees_nothing : ReplyView Y

-- The data that a reply shows of a call. A reply with the name of another call shows nothing.
abbrev pub reply_view : (d : Decoding) (which : Call) → Reply
    → ReplyView (AnswerOf (promise d which))
reply_view d (call.SetLimits limits) reply.SetLimits = sees (λ x. x) (Ok tt)
reply_view d call.Dimensions (reply.Dimensions r) = sees (λ x. x) r
reply_view d call.Colortype (reply.Colortype r) = sees (λ x. x) r
reply_view d call.IfdPointer (reply.IfdPointer r) = sees (λ x. x) (Ok r)
reply_view d (call.SeekToImage k) (reply.SeekToImage r) = sees (λ x. x) r
reply_view d call.NextImage (reply.NextImage r) = sees (λ x. x) r
reply_view d call.MoreImages (reply.MoreImages r) = sees (λ x. x) (Ok r)
reply_view d call.ByteOrder (reply.ByteOrder r) = sees (λ x. x) (Ok r)
reply_view d (call.ReadDirectory pointer) (reply.ReadDirectory r) = sees (λ x. x) r
reply_view d (call.GotoOffset offset) (reply.GotoOffset r) = sees (λ x. x) r
reply_view d (call.GotoOffsetU64 offset) (reply.GotoOffsetU64 r) = sees (λ x. x) r
reply_view d call.ReadIfdOffset (reply.ReadIfdOffset r) = sees (λ x. x) r
reply_view d call.ReadByte (reply.ReadByte r) = sees (λ x. x) r
reply_view d call.ReadShort (reply.ReadShort r) = sees (λ x. x) r
reply_view d call.ReadSshort (reply.ReadSshort r) = sees (λ x. x) r
reply_view d call.ReadLong (reply.ReadLong r) = sees (λ x. x) r
reply_view d call.ReadSlong (reply.ReadSlong r) = sees (λ x. x) r
reply_view d call.ReadLong8 (reply.ReadLong8 r) = sees (λ x. x) r
reply_view d call.ReadSlong8 (reply.ReadSlong8 r) = sees (λ x. x) r
reply_view d call.ReadFloat (reply.ReadFloat r) = sees bits_32 r
reply_view d call.ReadDouble (reply.ReadDouble r) = sees bits_64 r
reply_view d (call.ReadString len) (reply.ReadString r) = sees string_bytes r
reply_view d call.ReadOffset (reply.ReadOffset r) = sees (λ x. x) r
reply_view d call.ReadOffsetU64 (reply.ReadOffsetU64 r) = sees (λ x. x) r
reply_view d call.GetChunkType (reply.GetChunkType r) = sees (λ x. x) (Ok r)
reply_view d call.StripCount (reply.StripCount r) = sees (λ x. x) r
reply_view d call.TileCount (reply.TileCount r) = sees (λ x. x) r
reply_view d call.ChunkDimensions (reply.ChunkDimensions r) = sees (λ x. x) (Ok r)
reply_view d (call.ChunkDataDimensions i) (reply.ChunkDataDimensions r) = sees (λ x. x) (Ok r)
reply_view d call.ImageBufferLayout (reply.ImageBufferLayout r) = sees (λ x. x) r
reply_view d (call.ImageChunkBufferLayout i) (reply.ImageChunkBufferLayout r) = sees (λ x. x) r
reply_view d (call.ImageCodingUnitLayout unit) (reply.ImageCodingUnitLayout r) = sees (λ x. x) r
reply_view d call.ReadImage (reply.ReadImage r) = sees decoded_as r
reply_view d call.ReadImageToBuffer (reply.ReadImageToBuffer r b) = sees (λ x. (x, decoded_as b)) r
reply_view d (call.ReadImageBytes len) (reply.ReadImageBytes r b) = sees (λ _. items_of b) r
reply_view d (call.ReadChunk i) (reply.ReadChunk r) = sees decoded_as r
reply_view d (call.ReadChunkBytes i len) (reply.ReadChunkBytes r b) = sees (λ _. items_of b) r
reply_view d (call.ReadChunkToBuffer i stride) (reply.ReadChunkToBuffer r b) =
    sees (λ _. decoded_as b) r
reply_view d (call.ReadCodingUnitBytes unit len) (reply.ReadCodingUnitBytes r b) =
    sees (λ _. items_of b) r
reply_view d (call.FindTag tag) (reply.FindTag r) = sees (option_map plain_value) r
reply_view d (call.FindTagUnsigned tag) (reply.FindTagUnsigned r) = sees (λ x. x) r
reply_view d (call.FindTagUnsignedVec tag) (reply.FindTagUnsignedVec r) =
    sees (option_map items_of) r
reply_view d (call.GetTag tag) (reply.GetTag r) = sees plain_value r
reply_view d (call.GetTagUnsigned tag) (reply.GetTagUnsigned r) = sees (λ x. x) r
reply_view d (call.GetTagU32 tag) (reply.GetTagU32 r) = sees (λ x. x) r
reply_view d (call.GetTagU64 tag) (reply.GetTagU64 r) = sees (λ x. x) r
reply_view d (call.GetTagF32 tag) (reply.GetTagF32 r) = sees bits_32 r
reply_view d (call.GetTagF64 tag) (reply.GetTagF64 r) = sees bits_64 r
reply_view d (call.GetTagU32Vec tag) (reply.GetTagU32Vec r) = sees items_of r
reply_view d (call.GetTagU16Vec tag) (reply.GetTagU16Vec r) = sees items_of r
reply_view d (call.GetTagU64Vec tag) (reply.GetTagU64Vec r) = sees items_of r
reply_view d (call.GetTagF32Vec tag) (reply.GetTagF32Vec r) = sees (λ v. map bits_32 v.items) r
reply_view d (call.GetTagF64Vec tag) (reply.GetTagF64Vec r) = sees (λ v. map bits_64 v.items) r
reply_view d (call.GetTagU8Vec tag) (reply.GetTagU8Vec r) = sees items_of r
reply_view d (call.GetTagAsciiString tag) (reply.GetTagAsciiString r) = sees string_bytes r
reply_view d call.TagIter (reply.TagIter r) = sees (λ v. map view_of_item v.items) r
reply_view d (call.FindEntry tag) (reply.FindEntry r) = sees (λ x. x) (Ok r)
reply_view d (call.FindTagBuf tag) (reply.FindTagBuf r b) = sees (λ x. (x, b)) r
reply_view d (call.FindTagBytes tag len at) (reply.FindTagBytes r b) = sees (λ x. (x, items_of b)) r
reply_view d which r = sees_nothing
