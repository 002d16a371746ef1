-- What calls leave that set the tags and the layout of an open image.
use Rattle.std.proofs.Common.{◌≡◌, ◌^◌, ◌<◌, None, Result, Ok, Err, ap, sym, ◌∙◌, subst}
use Rattle.tiff_base.specs.declared.error.TiffError.{TiffError}
use Rattle.tiff_base.specs.Field.{AreEntries}
use Rattle.tiff_value.specs.Model.{Model, FileContains}
use Rattle.tiff_value.specs.FileLaws.{OpsFit}
use Rattle.tiff_encode.specs.Machine.{FileState, OpenImage, WriteOutcome}
use Rattle.tiff_encode.specs.Causes.{end_of}
use Rattle.tiff_encode.specs.Ends.{Ends}
use Rattle.tiff_encode.specs.Leaves.{Leaves}
use Rattle.tiff_encode.proofs.Image.Fits.{setting_fits}
use Rattle.tiff_encode.proofs.Image.Table.{Setting, call_of, setting_adding, setting_fresh}
use Rattle.tiff_encode.proofs.Joining.{IsAdding}
use Rattle.tiff_encode.proofs.Keeping.{left_so}
use Rattle.tiff_encode.proofs.Leaving.{ok_err}

-- The end of the file is a 64-bit number, unless a write failed.
abbrev pub EndFits : FileState → Type 0
EndFits file = file.fault ≡ None → end_of file < 2 ^ 64

-- the changes of a call that succeeds fit, and the fields of the image's directory are entries
abbrev pub DoneFits : FileState → Model → WriteOutcome OpenImage → Type 0
DoneFits old m told = (x : OpenImage) → told.answer ≡ Ok x → end_of told.next < 2 ^ 64
    → OpsFit old.kind old.bytes m told.ops × AreEntries x.directory.fields

-- a call of an image that appends
pub image_left : {X : Type 0} (view : X → OpenImage) (told : WriteOutcome OpenImage)
    (r : Result X TiffError) (old new : FileState) (m : Model)
    → IsAdding told old → ((x : OpenImage) → told.answer ≡ Ok x → old.fault ≡ None)
    → DoneFits old m told → EndFits new
    → FileContains old.kind old.bytes m → Ends view told r old new → Leaves told r old new m
image_left view told (Ok x) old new m a f d l s e =
    let fresh : new.fault ≡ None =
    ap (λ file. file.fault) (e.state ∙ a.next) ∙ f (view x) e.answer in
    let short : end_of told.next < 2 ^ 64 =
    subst (λ file. end_of file < 2 ^ 64) e.state (l fresh) in
    left_so view told (Ok x) old new m a (λ _ _. (d (view x) e.answer short).0) s e
image_left view told (Err fault) old new m a f d l s e =
    left_so view told (Err fault) old new m a (λ x h. absurd (ok_err (sym h))) s e

-- what a call of the table leaves
module _ {X : Type 0} (view : X → OpenImage) (r : Result X TiffError) (old new : FileState)
    (m : Model) (l : EndFits new)
    (stands : FileContains old.kind old.bytes m) (i : OpenImage) (a : AreEntries i.directory.fields) where
  pub setting_left : (s : Setting) → Ends view (call_of s i old) r old new
      → Leaves (call_of s i old) r old new m
  setting_left s e =
      image_left view (call_of s i old) r old new m (setting_adding s i old) (setting_fresh s i old)
      (λ x h n. setting_fits s old m i x a h n) l stands e
