-- The call that a reply belongs to.
use Rattle.tiff_decode.specs.declared.script.Reply.{Reply}
use Rattle.tiff_decode.specs.declared.script.Reply.TheVariants as reply

abbrev pub IsSeek : Reply → Type 0
IsSeek (reply.SeekToImage r) = Unit {0}
IsSeek r = ⊥

abbrev pub IsImage : Reply → Type 0
IsImage (reply.ReadImage r) = Unit {0}
IsImage r = ⊥

abbrev pub IsPointer : Reply → Type 0
IsPointer (reply.IfdPointer r) = Unit {0}
IsPointer r = ⊥

abbrev pub IsDirectory : Reply → Type 0
IsDirectory (reply.ReadDirectory r) = Unit {0}
IsDirectory r = ⊥

abbrev pub IsFound : Reply → Type 0
IsFound (reply.FindTagBuf r b) = Unit {0}
IsFound r = ⊥
