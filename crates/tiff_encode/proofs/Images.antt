-- How an image begins.
use Rattle.std.proofs.lemmas.List.{map-append}
use Rattle.std.proofs.Common.{◌≡◌, ℕ, List, [], ◌∷◌, ◌++◌, drop, Some, None, Result, Ok, Err, refl, ap, sym, ◌∙◌, append_assoc, true, subst}
use Rattle.std.specs.Prelude.{◌⊎◌}
use Rattle.std.specs.FinMap.{empty}
use Rattle.tiff_base.specs.declared.error.TiffError.TheVariants.{OutOfMemory}
use Rattle.tiff_base.specs.declared.error.TiffError.{TiffError}
use Rattle.tiff_base.specs.declared.tags.Tag.{Tag}
use Rattle.tiff_base.specs.declared.tags.Tag.TheVariants as tag
use Rattle.tiff_value.specs.ColorType.{ColorTypeRecord}
use Rattle.tiff_value.specs.Data.{FieldData, Scalars, u32s, data_of}
use Rattle.tiff_encode.specs.Machine.{FileState, OpenDirectory, OpenImage, WriteCall, gives, ◌>>=◌}
use Rattle.tiff_encode.specs.Encoder.{AppendIsStopped, AppendIsCut}
use Rattle.tiff_encode.specs.FileWrites.{file_with_bytes}
use Rattle.tiff_value.specs.FileBytes.{padding}
use Rattle.tiff_encode.specs.Ends.{EndsAsDefined, CallFails, Ends}
use Rattle.tiff_encode.specs.Calls.{new_directory, pad, image_directory, write_tags, meaning_tags, chroma_tags, layout_tags, first_tags, image_in, new_image}
use Rattle.tiff_encode.specs.Causes.{begin_cause, end_of, new_image_cause}
use Rattle.tiff_encode.specs.Tagging.{write_fields, fields_of}
use Rattle.tiff_encode.proofs.Calling.{refused, uncaused, wanting, fresh_cause}
use Rattle.tiff_encode.proofs.Guarding.{opened_told, opened_fails}
use Rattle.tiff_encode.proofs.Joining.{Adds, adding, bind_told, bind_ends, bind_fails, begin_adds}
use Rattle.tiff_encode.proofs.Tagging.{tags_are_fields, fields_adds}

-- the tags of a new image, part by part
pub first_of : (i : OpenImage) (head chroma tail all : List (Tag × FieldData))
    → head ≡ fields_of (meaning_tags i)
    → fields_of (chroma_tags i.color.interpretation) ≡ chroma → tail ≡ fields_of (layout_tags i)
    → all ≡ (head ++ chroma) ++ tail
    → all ≡ fields_of (first_tags i)
unfolding first_tags
first_of i head chroma tail all h c t a =
    let tell : Tag × Scalars → Tag × FieldData = λ v. (v.0, data_of v.1) in
    let C = fields_of (chroma_tags i.color.interpretation) in
    a ∙ (λ j. (h j ++ sym c j) ++ t j)
    ∙ append_assoc (fields_of (meaning_tags i)) C (fields_of (layout_tags i))
    ∙ ap (λ x. fields_of (meaning_tags i) ++ x) (sym (map-append tell (chroma_tags i.color.interpretation) (layout_tags i)))
    ∙ sym (map-append tell (meaning_tags i) (chroma_tags i.color.interpretation ++ layout_tags i))

-- the first tags of an image, made for another view of it and lent
pub first_fields : {now given : List (Tag × FieldData)} {i j : OpenImage} → now ≡ given
    → given ≡ fields_of (first_tags i) → i ≡ j
    → now ≡ fields_of (first_tags j)
first_fields lent made same = lent ∙ made ∙ ap (λ i. fields_of (first_tags i)) same

-- ---- `new_image`

module _ (color : ColorTypeRecord) (size width height : ℕ) (old : FileState) where
  -- the directory before the tags, and the calls after the checks
  abbrev blank : OpenDirectory
  blank = new_directory (Some old.chain) true

  abbrev tags_in : OpenDirectory → List (Tag × Scalars)
  tags_in d = first_tags (image_in old d color size width height)

  abbrev ends_with : OpenDirectory → WriteCall OpenImage
  ends_with last = gives (image_in old last color size width height)

  abbrev tagged : OpenDirectory → WriteCall OpenImage
  tagged d = write_tags d (tags_in d) >>= ends_with

  abbrev begun_image : WriteCall OpenImage
  begun_image = image_directory >>= tagged

  uncaused_image : (r : Result OpenImage TiffError) (new : FileState)
      → new_image_cause old color width height ≡ None
      → Ends (λ i. i) (begun_image old) r old new
      → Ends (λ i. i) (new_image color size width height old) r old new
  unfolding new_image
  uncaused_image r new c h =
      uncaused (λ i. i) (new_image_cause old color width height) begun_image r old new c h

  pub image_refused : (e : TiffError) → new_image_cause old color width height ≡ Some e
      → Ends (λ i. i) (new_image color size width height old) (Err e) old old
  unfolding new_image
  image_refused e c = refused (λ i. i) (new_image_cause old color width height) begun_image old e c

  -- writing the tags makes a change unless it is refused
  tags_add : (d : OpenDirectory) (file : FileState) → Adds (write_tags d (tags_in d) file) file
  unfolding first_tags
  tags_add d file =
      let i : OpenImage = image_in old d color size width height in
      let first : Tag × FieldData = (tag.ImageWidth, data_of (u32s (width ∷ []))) in
      let others : List (Tag × FieldData) =
      fields_of (drop 1 (meaning_tags i) ++ (chroma_tags color.interpretation
      ++ layout_tags i)) in
      subst (λ told. Adds told file) (sym (tags_are_fields d (tags_in d) file))
      (fields_adds d first others file)

  directory_short : (e : TiffError) → old.fault ≡ None → e ≡ OutOfMemory
      → CallFails (image_directory old) e old old
  unfolding image_directory begin_cause
  directory_short e f q =
      let opens : WriteCall OpenDirectory = pad >>= (λ _. gives blank) in
      let d : OpenDirectory → OpenDirectory = λ d. d in
      uncaused d (begin_cause old) opens (Err e) old old (fresh_cause old.fault None f)
      (wanting d (opens old) e old f q tt)

  -- `new_image` runs out of memory for its tags
  pub image_short : (e : TiffError) → new_image_cause old color width height ≡ None
      → old.fault ≡ None → e ≡ OutOfMemory
      → Ends (λ i. i) (new_image color size width height old) (Err e) old old
  image_short e c f q =
      uncaused_image (Err e) old c (bind_fails image_directory tagged e old old (begin_adds old) (directory_short e f q))

  -- `new_image` fails to append the zeros before its directory
  pub image_unpadded : (e : TiffError) (new : FileState)
      → new_image_cause old color width height ≡ None
      → AppendIsStopped e old new ⊎ AppendIsCut (padding (end_of old)) e old new
      → Ends (λ i. i) (new_image color size width height old) (Err e) old new
  image_unpadded e new c h =
      uncaused_image (Err e) new c (bind_fails image_directory tagged e old new (begin_adds old) (opened_fails true e old new h))

  -- `new_image` appends the zeros and continues with the tags
  image_padded : (r : Result OpenImage TiffError) (mid new : FileState)
      → new_image_cause old color width height ≡ None
      → old.fault ≡ None → mid ≡ file_with_bytes old (padding (end_of old))
      → Ends (λ i. i) (tagged blank mid) r mid new
      → Ends (λ i. i) (new_image color size width height old) r old new
  image_padded r mid new c f s h =
      let told : EndsAsDefined (image_directory old) (Ok blank) mid =
      opened_told true empty (Some old.chain) old mid (f, s) refl refl in
      uncaused_image r new c (bind_ends (λ i. i) image_directory tagged blank r old mid new (adding _ old (begin_adds old)) told h)

  -- `new_image` fails at the tags
  pub image_untagged : (values : List (Tag × FieldData)) (e : TiffError) (mid new : FileState)
      → new_image_cause old color width height ≡ None
      → old.fault ≡ None → mid ≡ file_with_bytes old (padding (end_of old))
      → values ≡ fields_of (tags_in blank)
      → CallFails (write_fields blank values mid) e mid new
      → Ends (λ i. i) (new_image color size width height old) (Err e) old new
  image_untagged values e mid new c f s v h =
      image_padded (Err e) mid new c f s
      (bind_fails (write_tags blank (tags_in blank)) ends_with e mid new (tags_add blank mid)
      (subst (λ told. CallFails told e mid new) (ap (λ xs. write_fields blank xs mid) v ∙ sym (tags_are_fields blank (tags_in blank) mid)) h))

  -- `new_image` succeeds
  pub image_begun : (values : List (Tag × FieldData)) (last : OpenDirectory) (i : OpenImage)
      (mid new : FileState)
      → new_image_cause old color width height ≡ None → old.fault ≡ None
      → mid ≡ file_with_bytes old (padding (end_of old))
      → values ≡ fields_of (tags_in blank)
      → EndsAsDefined (write_fields blank values mid) (Ok last) new
      → i ≡ image_in old last color size width height
      → Ends (λ i. i) (new_image color size width height old) (Ok i) old new
  image_begun values last i mid new c f s v h q =
      let tagged_so : EndsAsDefined (write_tags blank (tags_in blank) mid) (Ok last) new =
      subst (λ told. EndsAsDefined told (Ok last) new) (ap (λ xs. write_fields blank xs mid) v
      ∙ sym (tags_are_fields blank (tags_in blank) mid)) h in
      image_padded (Ok i) mid new c f s
      (bind_told (write_tags blank (tags_in blank)) ends_with last (Ok i) mid new new tagged_so (record { answer = ap Ok (sym q); state = refl }))
