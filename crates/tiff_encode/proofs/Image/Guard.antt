-- How an image begins that borrows its encoder.
use Rattle.std.proofs.Common.{◌≡◌, ℕ, ◌^◌, ◌<◌, None, Result, Ok, Err, ap, ◌∙◌, subst}
use Rattle.tiff_base.specs.declared.error.TiffError.{TiffError}
use Rattle.tiff_value.specs.ColorType.{ColorTypeRecord}
use Rattle.tiff_value.specs.Model.{Model, FileContains}
use Rattle.tiff_value.specs.FileLaws.{OpsFit}
use Rattle.tiff_encode.specs.Machine.{FileState, OpenDirectory, OpenImage, WriteCall, gives, ◌>>=◌}
use Rattle.tiff_encode.specs.Causes.{end_of, new_image_cause}
use Rattle.tiff_encode.specs.Calls.{image_directory, write_tags, first_tags, image_in, new_image}
use Rattle.tiff_encode.specs.Ends.{CallFails, Ends}
use Rattle.tiff_encode.specs.Leaves.{Leaves}
use Rattle.tiff_encode.proofs.Guarding.{fresh_by, uncaused_by}
use Rattle.tiff_encode.proofs.Image.Fits.{new_image_fits}
use Rattle.tiff_encode.proofs.Joining.{Adds, adding, answers_adding, bind_adding, bind_adds, begin_adds, caused_adds}
use Rattle.tiff_encode.proofs.Keeping.{left_so}
use Rattle.tiff_encode.proofs.Open.Tags.{tags_adding}

module _ (color : ColorTypeRecord) (size width height : ℕ) where
  -- `new_image` only appends
  pub new_adds : (file : FileState) → Adds (new_image color size width height file) file
  unfolding new_image
  new_adds file =
      let image_of : OpenDirectory → OpenImage = λ d. image_in file d color size width height in
      let tagged : OpenDirectory → WriteCall OpenImage =
      λ d. write_tags d (first_tags (image_of d)) >>= (λ last. gives (image_of last)) in
      caused_adds (new_image_cause file color width height) (image_directory >>= tagged) file
      (bind_adds image_directory tagged file (begin_adds file)
      (λ d _. let next : FileState = (image_directory file).next in
      bind_adding (write_tags d (first_tags (image_of d))) (λ last. gives (image_of last)) next
      (tags_adding d (first_tags (image_of d)) next)
      (λ last _. answers_adding (Ok (image_of last)) (write_tags d (first_tags (image_of d)) next).next)))

  -- if `new_image` succeeds, no sink error precedes it
  new_fresh : (file : FileState) (i : OpenImage)
      → (new_image color size width height file).answer ≡ Ok i → file.fault ≡ None
  unfolding new_image new_image_cause
  new_fresh file i h =
      fresh_by file.fault _ (uncaused_by (new_image_cause file color width height) _ file i h)

  -- the changes of `new_image` fit if the call succeeds
  new_left_fits : {X : Type 0} (view : X → OpenImage) (r : Result X TiffError) (old new : FileState)
      (m : Model)
      → (new.fault ≡ None → end_of new < 2 ^ 64)
      → Ends view (new_image color size width height old) r old new
      → (x : X) → r ≡ Ok x → OpsFit old.kind old.bytes m (new_image color size width height old).ops
  new_left_fits view (Ok y) old new m short e x h =
      let told = new_image color size width height old in
      let free : new.fault ≡ None =
      ap (λ f. f.fault) (e.state ∙ (adding told old (new_adds old)).next)
      ∙ new_fresh old (view y) e.answer in
      (new_image_fits old m color size width height (view y) e.answer (subst (λ f. end_of f
      < 2 ^ 64) e.state (short free))).0
  new_left_fits view (Err f) old new m short e x h = absurd cc

  -- what `new_image` leaves in the file
  pub new_left : {X : Type 0} (view : X → OpenImage) (r : Result X TiffError) (old new : FileState)
      (m : Model)
      → (new.fault ≡ None → end_of new < 2 ^ 64) → FileContains old.kind old.bytes m
      → Ends view (new_image color size width height old) r old new
      → Leaves (new_image color size width height old) r old new m
  new_left view r old new m short s e =
      left_so view (new_image color size width height old) r old new m
      (adding (new_image color size width height old) old (new_adds old))
      (λ x h. new_left_fits view r old new m short e x h) s e

  -- what `new_image` leaves if it fails
  pub new_left_err : (e : TiffError) (old new : FileState) (m : Model)
      → CallFails (new_image color size width height old) e old new
      → FileContains old.kind old.bytes m → FileContains old.kind new.bytes m
  new_left_err e old new m h s =
      let view : OpenImage → OpenImage = λ i. i in
      left_so view (new_image color size width height old) (Err e) old new m
      (adding (new_image color size width height old) old (new_adds old))
      (λ x h. absurd cc) s h
