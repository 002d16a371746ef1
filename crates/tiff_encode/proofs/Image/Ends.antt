-- What the end of an open image leaves in the file, and what the file shows.
use Rattle.std.proofs.Common.{◌≡◌, ℕ, ◌⊎◌, false, List, Some, Result, Ok, Err, sym, inl, inr, subst}
use Rattle.tiff_base.specs.declared.error.TiffError.{TiffError}
use Rattle.tiff_base.specs.Field.{AreEntries}
use Rattle.tiff_value.specs.Model.{Model, IsLink, FileContains}
use Rattle.tiff_encode.specs.Machine.{FileState, OpenImage}
use Rattle.tiff_encode.specs.Chunks.{is_left}
use Rattle.tiff_encode.specs.Calls.{finish_image}
use Rattle.tiff_encode.specs.Ends.{EndsAsDefined, EndsSilently}
use Rattle.tiff_encode.specs.ImageData.{IsShortFile, ShowsFinished}
use Rattle.tiff_encode.specs.Leaves.{LeavesTorn, LeavesLinked}
use Rattle.tiff_encode.specs.Open.{RecordsImage, EndsShown, model_by}
use Rattle.tiff_encode.specs.Shows.{Shows}
use Rattle.tiff_encode.specs.Held.{image_with}
use Rattle.tiff_encode.proofs.Data.Chunks.{image_patches}
use Rattle.tiff_encode.proofs.Data.Leaves.{patched_fails, patched_torn, patched_stands}
use Rattle.tiff_encode.proofs.Image.Fits.{finish_image_fits}
use Rattle.tiff_encode.proofs.Image.FitsCalls.{Fits}

module _ (i : OpenImage) (old new : FileState) (m : Model) (entries : AreEntries i.directory.fields)
    (short : IsShortFile new)
    (s : FileContains old.kind old.bytes m) (link : (offset : ℕ) → i.directory.parent ≡ Some offset → IsLink old.kind m offset) where
  -- the changes of the end of an image fit
  end_fits : Fits (finish_image i old) old m (λ _. Unit {0})
  end_fits offsets h l = (finish_image_fits old m i offsets entries h l link, tt)

  -- what the end of an image leaves
  pub end_left : (r : Result (Unit {0}) TiffError) → EndsSilently (finish_image i old) r old new
      → LeavesLinked (finish_image i old) r old new m
  end_left (Ok x) h =
      patched_stands i.directory.parent (finish_image i old) h.0 old new m
      (image_patches i old) end_fits short s h.1
  end_left (Err e) h =
      elim (patched_fails i.directory.parent (finish_image i old) e old new (image_patches i old) h) as (λ _. FileContains old.kind new.bytes m ⊎ LeavesTorn (finish_image i old) e old new m) [
        | inl k ↦ inl (k m s)
        | inr t ↦ inr (patched_torn i.directory.parent (finish_image i old) e old new m (image_patches i old) end_fits link short s t)
      ]

  -- the file shows an image that ends with every chunk
  pub end_shown : EndsShown → (samples : List (List ℕ)) (r : Result (Unit {0}) TiffError)
      → EndsSilently (finish_image i old) r old new
      → RecordsImage old.kind m i samples → is_left i ≡ false → ShowsFinished i samples r old new
  end_shown show samples (Err e) h held left = tt
  end_shown show samples (Ok x) h held left =
      let t : EndsAsDefined (finish_image i old) (Ok h.0) new = h.1 in
      let stood =
      patched_stands i.directory.parent (finish_image i old) h.0 old new m
      (image_patches i old) end_fits short s t in
      let P : FileState → Type 0 =
      λ f. Shows old.kind f.bytes h.0.pointer (image_with i samples) in (
        h.0,
        (
          t,
          subst P (sym t.state)
              (show old m i samples h.0 held left t.answer (subst (λ f. FileContains old.kind f.bytes (model_by old m (finish_image i old))) t.state stood)),
        ),
      )
