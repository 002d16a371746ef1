-- What a step of an image's directory does from a `FileAndModel` of its file.
use Rattle.std.proofs.Common.{◌≡◌, ℕ, Bool, true, false, List, [], ◌∷◌, take, Result, Ok, Err, refl, ap, sym, ◌∙◌, subst, zero, suc}
use Rattle.std.specs.Prelude.{not, ◌||◌}
use Rattle.std.specs.FinMap.{entries}
use Rattle.std.specs.List.{list_any}
use Rattle.tiff_base.specs.lemmas.Common.{neither}
use Rattle.tiff_base.specs.declared.error.TiffError.{TiffError}
use Rattle.tiff_base.specs.Field.{Field}
use Rattle.tiff_encode.specs.declared.encoder.script.DirectoryStep.{DirectoryStep}
use Rattle.tiff_encode.specs.declared.encoder.script.DirectoryStep.TheVariants as step
use Rattle.tiff_encode.specs.declared.encoder.script.ImageStep.TheVariants as istep
use Rattle.tiff_encode.specs.declared.encoder.script.StepReply.{StepReply}
use Rattle.tiff_encode.specs.declared.encoder.script.StepReply.TheVariants as reply
use Rattle.tiff_value.specs.Model.{Grows}
use Rattle.tiff_encode.specs.Machine.{FileState, OpenDirectory, OpenImage, WriteCall}
use Rattle.tiff_encode.specs.Calls.{with_directory_of, write_tag, write_tag_buf, extend_from}
use Rattle.tiff_encode.specs.JobValues.{value_data, buffer_in}
use Rattle.tiff_encode.specs.Open.{RecordsImage, model_by}
use Rattle.tiff_encode.specs.Jobs as jobs
use Rattle.tiff_encode.specs.Jobs.{FileAndModel, DirectoryStepped, is_apart}
use Rattle.tiff_encode.specs.Stepping.{Moves, KeepsImage}
use Rattle.tiff_base.specs.Tags.{tag_number}
use Rattle.tiff_base.specs.declared.tags.Tag.{Tag}
use Rattle.tiff_page.specs.Checks.{is_page_tag}
use Rattle.tiff_encode.proofs.Open.Held.{grown_open}
use Rattle.tiff_encode.proofs.Open.Kept.{tags_keep_open, fields_keep_open}

is_not : (b : Bool) → not b ≡ true → b ≡ false
is_not true h = absurd cc
is_not false h = refl

-- if no element of a list passes a test, none of its first elements does
pub few_none : {A : Type 0} (p : A → Bool) (xs : List A) (k : ℕ) → list_any p xs ≡ false
    → list_any p (take k xs) ≡ false
few_none p xs zero h = refl
few_none p [] (suc k) h = refl
few_none p (x ∷ xs) (suc k) h =
    let each = neither (p x) (list_any p xs) h in
    ap (λ b. b || list_any p (take k xs)) each.0 ∙ few_none p xs k each.1

module _ (i : OpenImage) (s t : FileAndModel) (samples : List (List ℕ)) (g : Grows s.model t.model)
    (h : RecordsImage s.file.kind s.model i samples) where
  -- the model holds the image with a directory
  abbrev With : OpenDirectory → Type 0
  With d = RecordsImage s.file.kind t.model (with_directory_of i d) samples

  same_with : (d : OpenDirectory) → d ≡ i.directory → With d
  same_with d e = subst With (sym e) (grown_open s.file.kind s.model t.model i samples h g)

  -- a step that writes a tag keeps the image held
  tag_with : (n : Tag) (call : WriteCall OpenDirectory) (r : Result StepReply TiffError) (d : OpenDirectory)
      → ((x : StepReply) → r ≡ Ok x → is_page_tag (tag_number n) ≡ false)
      → ((is_page_tag (tag_number n) ≡ false) → (call s.file).answer ≡ Ok d
      → RecordsImage s.file.kind (model_by s.file s.model (call s.file)) (with_directory_of i d) samples)
      → jobs.Changes call i.directory r s t d → With d
  tag_with n call (Ok reply.Nothing) d a k c =
      subst (λ m. RecordsImage s.file.kind m (with_directory_of i d) samples) (sym c.model)
      (k (a reply.Nothing refl) c.ended.answer)
  tag_with n call (Ok (reply.Number x)) d a k c = absurd c
  tag_with n call (Ok (reply.Written x)) d a k c = absurd c
  tag_with n call (Err e) d a k c = same_with d c.0

  -- a step that only returns a value keeps the image held
  reply_with : {A : Type 0} (view : A → StepReply) (call : WriteCall A)
      (r : Result StepReply TiffError) (d : OpenDirectory)
      → jobs.Replies view call i.directory r s t d → With d
  reply_with view call (Ok x) d c = same_with d c.0
  reply_with view call (Err e) d c = same_with d c.0

  -- a step that copies fields keeps the image held
  fields_with : (fields : List (ℕ × Field)) → list_any (λ entry. is_page_tag entry.0) fields ≡ false
      → t ≡ s → With (extend_from i.directory fields)
  fields_with fields a e =
      subst (λ m. RecordsImage s.file.kind m (with_directory_of i (extend_from i.directory fields)) samples) (sym (ap (λ x. x.model) e))
      (fields_keep_open s.file.kind s.model i samples fields h a)

  extended_with : (fields : List (ℕ × Field)) (r : Result StepReply TiffError) (d : OpenDirectory)
      → list_any (λ entry. is_page_tag entry.0) fields ≡ false
      → jobs.ExtendStep fields i.directory r s t d → With d
  extended_with fields (Ok reply.Nothing) d a c = subst With (sym c.0) (fields_with fields a c.1)
  extended_with fields (Ok (reply.Number x)) d a c = absurd c
  extended_with fields (Ok (reply.Written x)) d a c = absurd c
  extended_with fields (Err e) d a c =
      subst With (sym c.1.1.0) (fields_with (take c.1.0 fields) (few_none (λ entry. is_page_tag entry.0) fields c.1.0 a) c.1.1.1)

  -- a step that writes no tag that a page is read by keeps the image held
  directed_with : (step : DirectoryStep) (r : Result StepReply TiffError) (d : OpenDirectory)
      → is_apart (istep.Directory step) r ≡ true
      → DirectoryStepped s i.directory step r t d → With d
  directed_with (step.WriteTag n value) (Ok x) d a c =
      tag_with n (write_tag i.directory n (value_data value)) (Ok x) d (λ _ _. is_not _ a)
      (λ q e. (tags_keep_open s.file s.model i samples n d h q).0 (value_data value) e) c
  directed_with (step.WriteTag n value) (Err e) d a c = same_with d c.0
  directed_with (step.WriteTagBuf n b) (Ok x) d a c =
      tag_with n (write_tag_buf i.directory n (buffer_in b)) (Ok x) d (λ _ _. is_not _ a)
      (λ q e. (tags_keep_open s.file s.model i samples n d h q).1 (buffer_in b) e) c
  directed_with (step.WriteTagBuf n b) (Err e) d a c = same_with d c.0
  directed_with (step.WriteData value) r d a c = reply_with reply.Number _ r d c
  directed_with (step.WriteDataBuf b) r d a c = reply_with reply.Number _ r d c
  directed_with (step.WriteEntry value) r d a c = reply_with reply.Written _ r d c
  directed_with (step.WriteEntryBuf b) r d a c = reply_with reply.Written _ r d c
  directed_with (step.WriteEntryBytes type bytes) r d a c = reply_with reply.Written _ r d c
  directed_with (step.ExtendFrom given) r d a c =
      extended_with (entries given.entries) r d (is_not _ a) c

-- a step of an image's directory is a step of the image
pub directed : (i j : OpenImage) (step : DirectoryStep) (r : Result StepReply TiffError) (old new : FileState)
    → j ≡ with_directory_of i j.directory
    → Moves (λ s t. DirectoryStepped s i.directory step r t j.directory) old new
    → KeepsImage i (istep.Directory step) r old new j
directed i j step r old new w m known s before q k =
    let moved = m known s q k in
    let t : FileAndModel = moved.0 in
    let done : DirectoryStepped s i.directory step r t j.directory = moved.1.1.0 in
    let grows : Grows s.model t.model = moved.1.1.1.1 in (
      t,
      (
        before,
        (
          moved.1.0,
          (
            (refl, (j.directory, (w, done))),
            (
              moved.1.1.1.0,
              (
                grows,
                λ a h. subst (λ n. RecordsImage s.file.kind t.model n before) (sym w)
                    (directed_with i s t before grows h step r j.directory a done),
              ),
            ),
          ),
        ),
      ),
    )
