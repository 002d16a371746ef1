-- What `write_data` of an image does: it writes the chunks that are left and ends the image.
use Rattle.std.proofs.Common.{◌≡◌, ℕ, List, [], ◌∷◌, ◌++◌, length, Option, Some, None, Ok, refl, ap, sym, ◌∙◌, subst}
use Rattle.tiff_base.specs.declared.error.TiffError.{TiffError}
use Rattle.tiff_base.specs.Field.{AreEntries}
use Rattle.tiff_value.specs.Model.{Model, IsLink}
use Rattle.tiff_value.specs.WriteOps.{Listed, model_after}
use Rattle.std.specs.FinMap.{len}
use Rattle.tiff_value.specs.FileLaws.{AreAppending}
use Rattle.tiff_encode.specs.Machine.{FileState, OpenDirectory, OpenImage, WriteCall, gives, does, by_cause, ◌>>=◌}
use Rattle.tiff_encode.specs.Chunks.{parts_left}
use Rattle.tiff_encode.specs.Causes.{end_of, finish_cause, write_chunk_cause, write_image_data_cause}
use Rattle.tiff_encode.specs.Calls.{Offsets, offsets_of, links_to, chains, with_field, write_entry, write_tag, write_tags, finish, with_chunk, appends_chunk, write_chunk, last_tags, finish_image, write_chunks, write_image_data}
use Rattle.tiff_base.specs.lemmas.Slices.{ok_inj}
use Rattle.tiff_value.specs.lemmas.File.WriteOps.{ops_grow, link_kept}
use Rattle.tiff_encode.proofs.Runs.{uncaused}
use Rattle.tiff_encode.proofs.Leaving.{finish_plain}
use Rattle.tiff_encode.proofs.Joining.{IsAdding, Adds, adding, stored_adds, bind_adding, answers_adding}
use Rattle.tiff_encode.proofs.Open.Tags.{tags_adding}
use Rattle.tiff_encode.proofs.Image.FitsCalls.{IsDone, plain_done, Fits, gives_fits, cause_fits, bind_fits}
use Rattle.tiff_encode.proofs.Image.Fits.{finish_image_fits}
use Rattle.tiff_encode.proofs.Data.Calls.{bind_answered, AreAt, Patches, caused_patches, bind_patches}
use Rattle.tiff_encode.proofs.Image.FitsCalls.{adding_done}

-- ---- a chunk

pub chunk_adds : (i : OpenImage) (count : ℕ) (stored : List ℕ) (file : FileState)
    → Adds (write_chunk i count stored file) file
unfolding write_chunk
chunk_adds i count stored file =
    stored_adds (write_chunk_cause file i count (length stored)) i stored file

-- after `write_chunk` succeeds, the image has the chunk
pub chunk_is : (i next : OpenImage) (count : ℕ) (stored : List ℕ) (file : FileState)
    → (write_chunk i count stored file).answer ≡ Ok next
    → with_chunk i (end_of file) (length stored) ≡ next
unfolding write_chunk
chunk_is i next count stored file h =
    ok_inj (with_chunk i (end_of file) (length stored)) next
    (uncaused (write_chunk_cause file i count (length stored)) (appends_chunk i stored) file next h).1

-- an image has a given directory
abbrev pub HasDirectory : OpenDirectory → OpenImage → Type 0
HasDirectory d i = i.directory ≡ d

chunk_fits : (i : OpenImage) (count : ℕ) (stored : List ℕ) (file : FileState) (m : Model)
    → Fits (write_chunk i count stored file) file m (HasDirectory i.directory)
unfolding write_chunk
chunk_fits i count stored file m =
    cause_fits (write_chunk_cause file i count (length stored)) (appends_chunk i stored) file m
    (HasDirectory i.directory)
    (λ _ next h l.
    ((tt, tt), ap (λ j. j.directory) (sym (ok_inj (with_chunk i (end_of file) (length stored)) next h))))

-- ---- chunks

pub chunks_adding : (i : OpenImage) (parts stored : List (List ℕ)) (file : FileState)
    → IsAdding (write_chunks i parts stored file) file
chunks_adding i [] stored file = answers_adding (Ok i) file
chunks_adding i (part ∷ parts) [] file = answers_adding (Ok i) file
chunks_adding i (part ∷ parts) (bytes ∷ stored) file =
    let call : WriteCall OpenImage = write_chunk i (length part) bytes in
    bind_adding call (λ next. write_chunks next parts stored) file
    (adding (call file) file (chunk_adds i (length part) bytes file))
    (λ next _. chunks_adding next parts stored (call file).next)

pub chunks_done : (i : OpenImage) (parts stored : List (List ℕ)) (file : FileState)
    → IsDone (write_chunks i parts stored file) file
chunks_done i parts stored file =
    adding_done (write_chunks i parts stored file) file (chunks_adding i parts stored file)

pub chunks_fit : (i : OpenImage) (parts stored : List (List ℕ)) (file : FileState) (m : Model)
    → Fits (write_chunks i parts stored file) file m (HasDirectory i.directory)
chunks_fit i [] stored file m = gives_fits i file m (HasDirectory i.directory) refl
chunks_fit i (part ∷ parts) [] file m = gives_fits i file m (HasDirectory i.directory) refl
chunks_fit i (part ∷ parts) (bytes ∷ stored) file m =
    let call : WriteCall OpenImage = write_chunk i (length part) bytes in
    let mid : FileState = (call file).next in
    let after : Model = model_after file.kind file.bytes m (call file).ops in
    let P : OpenImage → Type 0 = HasDirectory i.directory in
    bind_fits call (λ next. write_chunks next parts stored) file m P P
    (adding_done (call file) file (adding (call file) file (chunk_adds i (length part) bytes file)))
    (chunk_fits i (length part) bytes file m)
    (λ next _. chunks_done next parts stored mid)
    (λ next _ same last h l. let f = chunks_fit next parts stored mid after last h l in
    (f.0, f.1 ∙ same))

-- the image that the calls return has the same directory
pub directory_kept : (i : OpenImage) (parts stored : List (List ℕ)) (last : OpenImage) (file : FileState)
    → (write_chunks i parts stored file).answer ≡ Ok last → last.directory ≡ i.directory
directory_kept i [] stored last file h = ap (λ j. j.directory) (sym (ok_inj i last h))
directory_kept i (part ∷ parts) [] last file h = ap (λ j. j.directory) (sym (ok_inj i last h))
directory_kept i (part ∷ parts) (bytes ∷ stored) last file h =
    let call : WriteCall OpenImage = write_chunk i (length part) bytes in
    let a = bind_answered call (λ next. write_chunks next parts stored) file last h in
    directory_kept a.0 parts stored last (call file).next (ap (λ told. told.answer) (sym a.1.1) ∙ h)
    ∙ ap (λ j. j.directory) (sym (chunk_is i a.0 (length part) bytes file a.1.0))

-- ---- the end of an image

-- a directory keeps its parent and whether it is chained
pub record IsPlacedAs (d next : OpenDirectory) : Type 0 where
  pub parent : next.parent ≡ d.parent
  pub chained : next.chained ≡ d.chained

pub tag_placed : (d next : OpenDirectory) (t : _) (value : _) (file : FileState)
    → (write_tag d t value file).answer ≡ Ok next → IsPlacedAs d next
unfolding write_tag
tag_placed d next t value file h =
    let a = bind_answered (write_entry value) (λ field. gives (with_field d t field)) file next h in
    let same : with_field d t a.0 ≡ next =
    ok_inj (with_field d t a.0) next (ap (λ told. told.answer) (sym a.1.1) ∙ h) in
    record { parent = ap (λ x. x.parent) (sym same); chained = ap (λ x. x.chained) (sym same) }

pub tags_placed : (d next : OpenDirectory) (values : _) (file : FileState)
    → (write_tags d values file).answer ≡ Ok next → IsPlacedAs d next
tags_placed d next [] file h = let same = ok_inj d next h in
    record { parent = ap (λ x. x.parent) (sym same); chained = ap (λ x. x.chained) (sym same) }
tags_placed d next (v ∷ values) file h =
    let call : WriteCall OpenDirectory = write_tag d v.0 _ in
    let a = bind_answered call (λ x. write_tags x values) file next h in
    let first = tag_placed d a.0 v.0 _ file a.1.0 in
    let others =
    tags_placed a.0 next values (call file).next (ap (λ told. told.answer) (sym a.1.1) ∙ h) in
    record { parent = others.parent ∙ first.parent; chained = others.chained ∙ first.chained }

-- a call that is refused points no link
caused_at : {A : Type 0} (parent : Option ℕ) (cause : Option TiffError) (call : WriteCall A)
    (file : FileState)
    → AreAt parent (call file).ops → AreAt parent (by_cause cause call file).ops
caused_at parent None call file a = a
caused_at parent (Some e) call file a = tt

-- the end of a directory points only the link of its parent
links_at : (parent : Option ℕ) (offset : ℕ) → AreAt parent (links_to parent offset ++ [])
links_at None offset = tt
links_at (Some parent) offset = (refl, tt)

finish_at : (d : OpenDirectory) (file : FileState) → AreAt d.parent (finish d file).ops
unfolding finish
finish_at d file =
    let offsets : Offsets = offsets_of file.kind (end_of file) (len d.fields) in
    let call : WriteCall Offsets =
    does (Listed d.fields ∷ links_to d.parent (end_of file))
    >>= (λ _. chains d.chained offsets) in
    caused_at d.parent (finish_cause file d) call file (links_at d.parent (end_of file))

pub finish_patches : (d : OpenDirectory) (file : FileState) → Patches d.parent (finish d file) file
finish_patches d file =
    let p = finish_plain d file in
    record {
      done = plain_done (finish d file) file p;
      refused = λ e h. subst (λ ds. AreAppending ds) (sym (p.refused e h)) tt;
      links = p.links;
      at = finish_at d file;
    }

pub image_patches : (i : OpenImage) (file : FileState)
    → Patches i.directory.parent (finish_image i file) file
unfolding finish_image
image_patches i file =
    let call : WriteCall OpenDirectory = write_tags i.directory (last_tags file.kind i) in
    bind_patches i.directory.parent call finish file (tags_adding i.directory (last_tags file.kind i) file)
    (λ d h.
    let mid : FileState = (call file).next in
    subst (λ p. Patches p (finish d mid) mid) (tags_placed i.directory d (last_tags file.kind i) file h).parent (finish_patches d mid))

-- ---- `write_data`

module _ (i : OpenImage) (samples : List ℕ) (stored : List (List ℕ)) (old : FileState) where
  abbrev pub data_chunks : WriteCall OpenImage
  data_chunks = write_chunks i (parts_left i samples) stored

  -- the file after the chunks are written
  abbrev pub data_mid : FileState
  data_mid = (data_chunks old).next

  -- the calls that write the chunks keep the directory
  pub same_directory : (last : OpenImage) → (data_chunks old).answer ≡ Ok last
      → last.directory ≡ i.directory
  same_directory last h = directory_kept i (parts_left i samples) stored last old h

  pub data_patches : Patches i.directory.parent (write_image_data i samples stored old) old
  unfolding write_image_data
  data_patches =
      caused_patches i.directory.parent (write_image_data_cause old i (length samples)) (data_chunks
      >>= finish_image) old
      (bind_patches i.directory.parent data_chunks finish_image old (chunks_adding i (parts_left i samples) stored old)
      (λ last h. subst (λ p. Patches p (finish_image last data_mid) data_mid) (ap (λ d. d.parent) (same_directory last h)) (image_patches last data_mid)))

  -- the changes of `write_data` fit
  pub data_fits : (m : Model) → AreEntries i.directory.fields
      → ((offset : ℕ) → i.directory.parent ≡ Some offset → IsLink old.kind m offset)
      → Fits (write_image_data i samples stored old) old m (λ _. Unit {0})
  unfolding write_image_data
  data_fits m a p =
      let done = chunks_done i (parts_left i samples) stored old in
      let after : Model = model_after old.kind old.bytes m (data_chunks old).ops in
      let link : (offset : ℕ) → i.directory.parent ≡ Some offset
      → IsLink data_mid.kind after offset = λ offset e.
      subst (λ kind. IsLink kind after offset) (sym done.kind)
      (link_kept old.kind m after offset (ops_grow old.kind old.bytes m (data_chunks old).ops) (p offset e)) in
      cause_fits (write_image_data_cause old i (length samples)) (data_chunks
      >>= finish_image) old m (λ _. Unit {0})
      (λ _. bind_fits data_chunks finish_image old m (HasDirectory i.directory) (λ _. Unit {0}) done
      (chunks_fit i (parts_left i samples) stored old m)
      (λ last _. (image_patches last data_mid).done)
      (λ last _ same offsets h l. (
        finish_image_fits data_mid after last offsets (subst (λ d. AreEntries d.fields) (sym same) a) h l
            (λ offset e. link offset (ap (λ d. d.parent) (sym same) ∙ e)),
        tt,
      )))
