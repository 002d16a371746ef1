-- The call that a reply belongs to.
use Rattle.std.proofs.Common.{[], ◌∷◌}
use Rattle.tiff_base.specs.declared.tags.Tag.{Tag}
use Rattle.tiff_decode.specs.declared.script.Call.{Call}
use Rattle.tiff_decode.specs.declared.script.Call.TheVariants as call
use Rattle.tiff_decode.specs.declared.script.Reply.{Reply}
use Rattle.tiff_decode.specs.declared.script.Reply.TheVariants as reply
use Rattle.tiff_decode.specs.Machine.{Decoding}
use Rattle.tiff_decode.specs.Step.{Step}
use Rattle.tiff_decode.specs.Steps.{Steps}
use Rattle.tiffpage_lib.specs.Replied.{IsFound, IsImage, IsPointer}

image_step : (old new : Decoding) (r : Reply) → Step old call.ReadImage r new → IsImage r
image_step old new (reply.ReadImage x) s = tt
image_step old new r s = absurd s

pointer_step : (old new : Decoding) (r : Reply) → Step old call.IfdPointer r new → IsPointer r
pointer_step old new (reply.IfdPointer x) s = tt
pointer_step old new r s = absurd s

-- The reply to a call that finds a field.
pub found_step : (old new : Decoding) (tag : Tag) (r : Reply) → Step old (call.FindTagBuf tag) r new
    → IsFound r
found_step old new tag (reply.FindTagBuf x b) s = tt
found_step old new tag r s = absurd s

-- The second of two replies.
pub image_second : (old new : Decoding) (first : Call) (a b : Reply)
    → Steps old (first ∷ call.ReadImage ∷ []) (a ∷ b ∷ []) new → IsImage b
image_second old new first a b s = image_step s.0 s.2.0 b s.2.1

pub pointer_second : (old new : Decoding) (first : Call) (a b : Reply)
    → Steps old (first ∷ call.IfdPointer ∷ []) (a ∷ b ∷ []) new → IsPointer b
pointer_second old new first a b s = pointer_step s.0 s.2.0 b s.2.1
