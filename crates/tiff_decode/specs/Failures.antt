-- The error in a reply (this project's).
use Rattle.std.specs.Prelude.{ℕ, ◌+◌, List, [], ◌∷◌, Option, None, Some, Result, Ok, Err, Vec}
use Rattle.std.specs.declared.alloc.Global.{Global}
use Rattle.tiff_base.specs.declared.error.TiffError.{TiffError}
use Rattle.tiff_base.specs.declared.error.TiffError.TheVariants.{IoError}
use Rattle.tiff_base.specs.declared.io.IoKind.TheVariants.{Device}
use Rattle.tiff_base.specs.declared.tags.Tag.{Tag}
use Rattle.tiff_ifd.specs.declared.value.Value.{Value}
use Rattle.tiff_decode.specs.declared.script.Reply.{Reply}
use Rattle.tiff_decode.specs.declared.script.Reply.TheVariants as reply

abbrev pub fault_of : {X : Type 0} → Result X TiffError → Option TiffError
fault_of (Ok x) = None
fault_of (Err e) = Some e

-- the error in a reply, if it has one
abbrev pub fault_in : Reply → Option TiffError
fault_in reply.SetLimits = None
fault_in (reply.Dimensions r) = fault_of r
fault_in (reply.Colortype r) = fault_of r
fault_in (reply.IfdPointer r) = None
fault_in (reply.SeekToImage r) = fault_of r
fault_in (reply.NextImage r) = fault_of r
fault_in (reply.MoreImages r) = None
fault_in (reply.ByteOrder r) = None
fault_in (reply.ReadDirectory r) = fault_of r
fault_in (reply.GotoOffset r) = fault_of r
fault_in (reply.GotoOffsetU64 r) = fault_of r
fault_in (reply.ReadIfdOffset r) = fault_of r
fault_in (reply.ReadByte r) = fault_of r
fault_in (reply.ReadShort r) = fault_of r
fault_in (reply.ReadSshort r) = fault_of r
fault_in (reply.ReadLong r) = fault_of r
fault_in (reply.ReadSlong r) = fault_of r
fault_in (reply.ReadLong8 r) = fault_of r
fault_in (reply.ReadSlong8 r) = fault_of r
fault_in (reply.ReadFloat r) = fault_of r
fault_in (reply.ReadDouble r) = fault_of r
fault_in (reply.ReadString r) = fault_of r
fault_in (reply.ReadOffset r) = fault_of r
fault_in (reply.ReadOffsetU64 r) = fault_of r
fault_in (reply.GetChunkType r) = None
fault_in (reply.StripCount r) = fault_of r
fault_in (reply.TileCount r) = fault_of r
fault_in (reply.ChunkDimensions r) = None
fault_in (reply.ChunkDataDimensions r) = None
fault_in (reply.ImageBufferLayout r) = fault_of r
fault_in (reply.ImageChunkBufferLayout r) = fault_of r
fault_in (reply.ImageCodingUnitLayout r) = fault_of r
fault_in (reply.ReadImage r) = fault_of r
fault_in (reply.ReadImageToBuffer r b) = fault_of r
fault_in (reply.ReadImageBytes r b) = fault_of r
fault_in (reply.ReadChunk r) = fault_of r
fault_in (reply.ReadChunkBytes r b) = fault_of r
fault_in (reply.ReadChunkToBuffer r b) = fault_of r
fault_in (reply.ReadCodingUnitBytes r b) = fault_of r
fault_in (reply.FindTag r) = fault_of r
fault_in (reply.FindTagUnsigned r) = fault_of r
fault_in (reply.FindTagUnsignedVec r) = fault_of r
fault_in (reply.GetTag r) = fault_of r
fault_in (reply.GetTagUnsigned r) = fault_of r
fault_in (reply.GetTagU32 r) = fault_of r
fault_in (reply.GetTagU64 r) = fault_of r
fault_in (reply.GetTagF32 r) = fault_of r
fault_in (reply.GetTagF64 r) = fault_of r
fault_in (reply.GetTagU32Vec r) = fault_of r
fault_in (reply.GetTagU16Vec r) = fault_of r
fault_in (reply.GetTagU64Vec r) = fault_of r
fault_in (reply.GetTagF32Vec r) = fault_of r
fault_in (reply.GetTagF64Vec r) = fault_of r
fault_in (reply.GetTagU8Vec r) = fault_of r
fault_in (reply.GetTagAsciiString r) = fault_of r
fault_in (reply.TagIter r) = fault_of r
fault_in (reply.FindEntry r) = None
fault_in (reply.FindTagBuf r b) = fault_of r
fault_in (reply.FindTagBytes r b) = fault_of r

-- 1 for an error of the device, else 0
abbrev pub device_count : Option TiffError → ℕ
device_count (Some (IoError Device)) = 1
device_count fault = 0

abbrev pub failed_items : List (Result (Tag × Value) TiffError) → ℕ
failed_items [] = 0
failed_items (x ∷ xs) = device_count (fault_of x) + failed_items xs

abbrev pub failed_list : Result (Vec (Result (Tag × Value) TiffError) Global) TiffError → ℕ
failed_list (Ok v) = failed_items v.items
failed_list (Err e) = device_count (Some e)

-- the number of errors of the device in a reply
abbrev pub failures : Reply → ℕ
failures (reply.TagIter r) = failed_list r
failures r = device_count (fault_in r)

abbrev pub all_failures : List Reply → ℕ
all_failures [] = 0
all_failures (r ∷ replies) = failures r + all_failures replies
