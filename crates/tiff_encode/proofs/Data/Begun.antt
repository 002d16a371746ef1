-- What a new image is, and what the file contains after the image begins or fails to begin.
use Rattle.std.proofs.Common.{◌≡◌, ℕ, ◌≤◌, inr, true, cond, List, [], ◌∷◌, ◌++◌, Some, Ok, refl, ap, sym, ◌∙◌, subst, arith}
use Rattle.std.proofs.lemmas.Bool.{eq-eqb}
use Rattle.std.specs.Prelude.{◌==◌}
use Rattle.std.specs.FinMap.{len}
use Rattle.tiff_base.specs.declared.error.TiffError.{TiffError}
use Rattle.tiff_base.specs.declared.tags.Tag.{Tag}
use Rattle.tiff_base.specs.Directory.{link_offset}
use Rattle.tiff_value.specs.ColorType.{ColorTypeRecord}
use Rattle.tiff_value.specs.Data.{Scalars}
use Rattle.tiff_value.specs.Model.{FinishedDirectory, Model, IsLink}
use Rattle.tiff_value.specs.WriteOps.{WriteOp, Listed, bytes_after, model_after, standing_fields}
use Rattle.tiff_encode.specs.Machine.{FileState, OpenDirectory, OpenImage, WriteOutcome, WriteCall, gives, does, after_ops, by_cause, ◌>>=◌}
use Rattle.tiff_encode.specs.Causes.{end_of, begin_cause, finish_cause, new_image_cause}
use Rattle.tiff_encode.specs.Calls.{Offsets, offsets_of, links_to, chain_after, chains, finish, new_directory, pad, image_directory, write_tags, first_tags, image_in, new_image, last_tags, finish_image}
use Rattle.tiff_encode.specs.Ends.{CallFails}
use Rattle.tiff_encode.specs.Open.{model_by}
use Rattle.tiff_base.specs.lemmas.Slices.{ok_inj}
use Rattle.tiff_value.specs.lemmas.File.FileAndModel.{len_standing}
use Rattle.tiff_encode.proofs.Keeping.{failed_so}
use Rattle.tiff_encode.proofs.Joining.{IsAdding, adding, caused_adds, bind_adds, bind_adding, begin_adds, answers_adding}
use Rattle.tiff_encode.proofs.Open.Tags.{tags_adding}
use Rattle.tiff_encode.proofs.Open.Ends.{finish_listed}
use Rattle.tiff_encode.proofs.Image.FitsCalls.{IsDone, done_longer}
use Rattle.tiff_encode.proofs.Data.Calls.{bind_answered, cause_answered, behind_model}
use Rattle.tiff_encode.proofs.Image.FitsCalls.{adding_done}
use Rattle.tiff_encode.proofs.Data.Chunks.{IsPlacedAs, tags_placed}
use Rattle.tiff_encode.proofs.Data.Leaves.{StillStands}

-- ---- a new image

module _ (color : ColorTypeRecord) (size width height : ℕ) (file : FileState) where
  abbrev image_of : OpenDirectory → OpenImage
  image_of d = image_in file d color size width height

  abbrev tagged : OpenDirectory → WriteCall OpenImage
  tagged d = write_tags d (first_tags (image_of d)) >>= (λ last. gives (image_of last))

  pub new_adding : IsAdding (new_image color size width height file) file
  unfolding new_image
  new_adding =
      let next : FileState = (image_directory file).next in
      let call : WriteCall OpenImage = image_directory >>= tagged in
      adding (by_cause (new_image_cause file color width height) call file) file
      (caused_adds (new_image_cause file color width height) call file
      (bind_adds image_directory tagged file (begin_adds file)
      (λ d _. bind_adding (write_tags d (first_tags (image_of d))) (λ last. gives (image_of last)) next
      (tags_adding d (first_tags (image_of d)) next)
      (λ last _. answers_adding (Ok (image_of last)) (write_tags d (first_tags (image_of d)) next).next))))

  -- if a new image fails to begin, the model still describes the file
  pub not_begun : (e : TiffError) (new : FileState)
      → CallFails (new_image color size width height file) e file new → StillStands file new
  not_begun e new h =
      λ m s. failed_so (new_image color size width height file) e file new m new_adding h s

  begun_is : (d : OpenDirectory) → (image_directory file).answer ≡ Ok d
      → new_directory (Some file.chain) true ≡ d
  unfolding image_directory
  begun_is d h =
      let empty : OpenDirectory = new_directory (Some file.chain) true in
      let call : WriteCall OpenDirectory = pad >>= (λ _. gives empty) in
      let c = cause_answered (begin_cause file) call file d h in
      ok_inj empty d (ap (λ told. told.answer) (sym c.1) ∙ h)

  tagged_is : (d : OpenDirectory) (next : FileState) (i : OpenImage) → (tagged d next).answer ≡ Ok i
      → (last : OpenDirectory) × ((image_of last ≡ i) × IsPlacedAs d last)
  tagged_is d next i h =
      let call : WriteCall OpenDirectory = write_tags d (first_tags (image_of d)) in
      let a = bind_answered call (λ last. gives (image_of last)) next i h in (
        a.0,
        (
          ok_inj (image_of a.0) i (ap (λ told. told.answer) (sym a.1.1) ∙ h),
          tags_placed d a.0 (first_tags (image_of d)) next a.1.0,
        ),
      )

  -- a new image has a directory that follows the last link of the chain
  pub new_is : (i : OpenImage) → (new_image color size width height file).answer ≡ Ok i
      → (d : OpenDirectory) × ((image_of d ≡ i)
      × IsPlacedAs (new_directory (Some file.chain) true) d)
  unfolding new_image
  new_is i h =
      let c =
      cause_answered (new_image_cause file color width height) (image_directory
      >>= tagged) file i h in
      let all : ((image_directory >>= tagged) file).answer ≡ Ok i =
      ap (λ told. told.answer) (sym c.1) ∙ h in
      let a = bind_answered image_directory tagged file i all in
      let b =
      tagged_is a.0 (image_directory file).next i (ap (λ told. told.answer) (sym a.1.1)
      ∙ all) in
      (b.0, (b.1.0, subst (λ d. IsPlacedAs d b.0) (sym (begun_is a.0 a.1.0)) b.1.1))

-- ---- the link of a directory after its end

-- the chain continues at the link of the directory that a call ended
abbrev pub Chains : {A : Type 0} → FileState → Model → WriteOutcome A → Type 0
Chains file m told = IsLink file.kind (model_by file m told) told.next.chain

pub behind_chains : {A B : Type 0} (first : WriteOutcome A) (second : WriteOutcome B)
    (file : FileState) (m : Model) → IsDone first file
    → Chains first.next (model_by file m first) second → Chains file m (after_ops first.ops second)
behind_chains first second file m d l =
    subst (λ n. IsLink file.kind n second.next.chain) (sym (behind_model first second file m d))
    (subst (λ kind. IsLink kind (model_by first.next (model_by file m first) second) second.next.chain) d.kind l)

-- after the end of a chained directory, the last link of the chain is the directory's own link
finish_chain : (d : OpenDirectory) (file : FileState) (offsets : Offsets)
    → (finish d file).answer ≡ Ok offsets → d.chained ≡ true
    → (finish d file).next.chain ≡ link_offset file.kind offsets.pointer (len d.fields)
unfolding finish
finish_chain d file offsets h q =
    let offset : Offsets = offsets_of file.kind (end_of file) (len d.fields) in
    let ops : List WriteOp = Listed d.fields ∷ links_to d.parent (end_of file) in
    let call : WriteCall Offsets = does ops >>= (λ _. chains d.chained offset) in
    let done : FileState = record file { bytes = bytes_after file.kind file.bytes ops } in
    let c = cause_answered (finish_cause file d) call file offsets h in
    let same : offset ≡ offsets = ok_inj offset offsets (ap (λ told. told.answer) (sym c.1) ∙ h) in
    ap (λ told. told.next.chain) c.1 ∙ ap (λ b. (chain_after done b offset).chain) q
    ∙ ap (λ o. link_offset file.kind o.pointer (len d.fields)) same

finish_chains : (d : OpenDirectory) (file : FileState) (m : Model) (offsets : Offsets)
    → (finish d file).answer ≡ Ok offsets
    → d.chained ≡ true → Chains file m (finish d file)
finish_chains d file m offsets h q =
    let listed : FinishedDirectory =
    record { offset = offsets.pointer; fields = standing_fields file.kind d.fields } in
    inr (
      listed,
      (
        finish_listed d file m offsets h,
        finish_chain d file offsets h q
            ∙ ap (link_offset file.kind offsets.pointer) (sym (len_standing file.kind d.fields)),
      ),
    )

pub image_chains : (i : OpenImage) (file : FileState) (m : Model) (offsets : Offsets)
    → (finish_image i file).answer ≡ Ok offsets
    → i.directory.chained ≡ true → Chains file m (finish_image i file)
unfolding finish_image
image_chains i file m offsets h q =
    let values : List (Tag × Scalars) = last_tags file.kind i in
    let call : WriteCall OpenDirectory = write_tags i.directory values in
    let mid : FileState = (call file).next in
    let a = bind_answered call finish file offsets h in
    let placed = tags_placed i.directory a.0 values file a.1.0 in
    subst (λ told. Chains file m told) (sym a.1.1)
    (behind_chains (call file) (finish a.0 mid) file m (adding_done (call file) file (tags_adding i.directory values file))
    (finish_chains a.0 mid (model_by file m (call file)) offsets (ap (λ told. told.answer) (sym a.1.1) ∙ h) (placed.chained ∙ q)))

-- ---- the link to a directory after its end

pub behind_linked : {A B : Type 0} (first : WriteOutcome A) (second : WriteOutcome B)
    (file : FileState) (m : Model) (offset pointer : ℕ) → IsDone first file
    → (model_by first.next (model_by file m first) second).links offset ≡ pointer
    → (model_by file m (after_ops first.ops second)).links offset ≡ pointer
behind_linked first second file m offset pointer d l =
    ap (λ n. n.links offset) (behind_model first second file m d) ∙ l

-- a link that a call points to a target has that target
pointed : (offset target other : ℕ) → cond (offset == offset) target other ≡ target
pointed offset target other = ap (λ b. cond b target other) (eq-eqb offset offset refl)

-- after the end of a directory, its parent's link points to it
finish_linked : (d : OpenDirectory) (file : FileState) (m : Model) (offsets : Offsets) (offset : ℕ)
    → (finish d file).answer ≡ Ok offsets
    → d.parent ≡ Some offset → (model_by file m (finish d file)).links offset ≡ offsets.pointer
unfolding finish
finish_linked d file m offsets offset h q =
    let at : Offsets = offsets_of file.kind (end_of file) (len d.fields) in
    let ops : List WriteOp = Listed d.fields ∷ links_to d.parent (end_of file) in
    let call : WriteCall Offsets = does ops >>= (λ _. chains d.chained at) in
    let c = cause_answered (finish_cause file d) call file offsets h in
    let same : at ≡ offsets = ok_inj at offsets (ap (λ told. told.answer) (sym c.1) ∙ h) in
    ap (λ told. (model_by file m told).links offset) c.1
    ∙ ap (λ p. (model_after file.kind file.bytes m (Listed d.fields ∷ links_to p (end_of file)
    ++ [])).links offset) q
    ∙ pointed offset (end_of file) _ ∙ ap (λ o. o.pointer) same

pub image_linked : (i : OpenImage) (file : FileState) (m : Model) (offsets : Offsets) (offset : ℕ)
    → (finish_image i file).answer ≡ Ok offsets
    → i.directory.parent ≡ Some offset
    → (model_by file m (finish_image i file)).links offset ≡ offsets.pointer
unfolding finish_image
image_linked i file m offsets offset h q =
    let values : List (Tag × Scalars) = last_tags file.kind i in
    let call : WriteCall OpenDirectory = write_tags i.directory values in
    let mid : FileState = (call file).next in
    let a = bind_answered call finish file offsets h in
    let placed = tags_placed i.directory a.0 values file a.1.0 in
    subst (λ told. (model_by file m told).links offset ≡ offsets.pointer) (sym a.1.1)
    (behind_linked (call file) (finish a.0 mid) file m offset offsets.pointer (adding_done (call file) file (tags_adding i.directory values file))
    (finish_linked a.0 mid (model_by file m (call file)) offsets offset (ap (λ told. told.answer) (sym a.1.1) ∙ h) (placed.parent ∙ q)))

-- ---- the offset of a directory after its end

finish_placed : (d : OpenDirectory) (file : FileState) (offsets : Offsets)
    → (finish d file).answer ≡ Ok offsets → end_of file ≡ offsets.pointer
unfolding finish
finish_placed d file offsets h =
    let at : Offsets = offsets_of file.kind (end_of file) (len d.fields) in
    let ops : List WriteOp = Listed d.fields ∷ links_to d.parent (end_of file) in
    let call : WriteCall Offsets = does ops >>= (λ _. chains d.chained at) in
    let c = cause_answered (finish_cause file d) call file offsets h in
    ap (λ o. o.pointer) (ok_inj at offsets (ap (λ told. told.answer) (sym c.1) ∙ h))

-- the directory of an image is appended behind the file that its end finds
pub image_placed : (i : OpenImage) (file : FileState) (offsets : Offsets)
    → (finish_image i file).answer ≡ Ok offsets → end_of file ≤ offsets.pointer
unfolding finish_image
image_placed i file offsets h =
    let values : List (Tag × Scalars) = last_tags file.kind i in
    let call : WriteCall OpenDirectory = write_tags i.directory values in
    let mid : FileState = (call file).next in
    let a = bind_answered call finish file offsets h in
    let longer =
    done_longer (call file) file (adding_done (call file) file (tags_adding i.directory values file)) in
    let at = finish_placed a.0 mid offsets (ap (λ told. told.answer) (sym a.1.1) ∙ h) in
    omega (arith, longer, at)
