-- What the file contains after a call writes a whole image, or fails to write it.
use Rattle.std.proofs.Common.{◌≡◌, ℕ, ◌^◌, ◌<◌, ◌≤◌, inl, inr, true, List, [], ◌++◌, length, take, Some, Result, Ok, Err, refl, ap, sym, ◌∙◌, subst, arith}
use Rattle.std.proofs.lemmas.List.{length-append, length-replicate}
use Rattle.tiff_base.specs.declared.color.ColorType.{ColorType}
use Rattle.tiff_base.specs.declared.error.TiffError.{TiffError}
use Rattle.tiff_base.specs.declared.tags.FileKind.{FileKind}
use Rattle.tiff_base.specs.declared.tags.PhotometricInterpretation.{PhotometricInterpretation}
use Rattle.tiff_base.specs.Color.{num_samples}
use Rattle.tiff_base.specs.Field.{AreEntries}
use Rattle.tiff_base.specs.Number.{le}
use Rattle.tiff_base.specs.SourceAndSink.{put}
use Rattle.tiff_value.specs.declared.encoder.colortype.ColorTypeName.{ColorTypeName}
use Rattle.tiff_value.specs.ColorType.{ColorTypeRecord}
use Rattle.tiff_value.specs.ColorTypes.{Family, count_of, color_type, inner_size}
use Rattle.tiff_page.specs.Page.{PageRecord}
use Rattle.tiff_page.specs.Layout.{color_from, color_of}
use Rattle.tiff_value.specs.FileBytes.{offset_len}
use Rattle.tiff_value.specs.Model.{Model, IsLink, FileContains}
use Rattle.tiff_value.specs.WriteOps.{all_appended}
use Rattle.tiff_value.specs.FileLaws.{OpsFit}
use Rattle.tiff_encode.specs.Machine.{FileState, OpenImage, WriteOutcome}
use Rattle.tiff_encode.specs.Drawn.{IsValidImage}
use Rattle.tiff_encode.specs.Chunks.{all_samples, shown_page, parts_left}
use Rattle.tiff_encode.specs.Causes.{end_of}
use Rattle.tiff_encode.specs.Calls.{Offsets, finish_image, new_image, write_image_data}
use Rattle.tiff_encode.specs.Ends.{EndsAsDefined, LinkWriteFailed}
use Rattle.tiff_encode.specs.Shows.{shown_columns, Shows}
use Rattle.tiff_encode.specs.Held.{image_with}
use Rattle.tiff_encode.specs.Open.{RecordsImage, model_by}
use Rattle.tiff_encode.specs.ImageData.{image_of_samples, WritesImageData, WritesImage, IsShortFile, AreNumbers, LeavesImage, LeavesNewImage, PartsShow, ImageLeaves}
use Rattle.tiff_base.specs.lemmas.Slices.{ok_inj, some_inj}
use Rattle.tiff_value.specs.lemmas.File.WriteOps.{ops_stand, ops_grow, link_kept}
use Rattle.tiff_encode.proofs.Open.Begun.{begins_open}
use Rattle.tiff_encode.proofs.Image.FitsCalls.{put_longer, done_longer}
use Rattle.tiff_encode.proofs.Image.Fits.{new_image_fits}
use Rattle.tiff_encode.specs.lemmas.Shown.Color.{HasColor, IsOf, is_of_family, family_has}
use Rattle.tiff_encode.proofs.Shown.Packed.{columns_shown}
use Rattle.tiff_encode.proofs.Image.FitsCalls.{adding_done}
use Rattle.tiff_encode.proofs.Data.Chunks.{data_chunks, chunks_done, data_patches, same_directory}
use Rattle.tiff_encode.proofs.Data.Leaves.{StillStands, appended_stands, data_stopped, data_torn, IsWritten, data_written, data_stands}
use Rattle.tiff_encode.proofs.Data.Shows.{data_ended, data_shows}
use Rattle.tiff_encode.proofs.Shown.Alike.{shown_alike}
use Rattle.tiff_encode.proofs.Data.Begun.{new_adding, not_begun, new_is, Chains, behind_chains, image_chains, behind_linked, image_linked, image_placed}

-- ---- the samples that a page shows

-- the color of a page has no more samples than the page
color_few : (interpretation : PhotometricInterpretation) (p : PageRecord) (most : ℕ) (color : ColorType)
    → HasColor interpretation p most → color_from interpretation p ≡ Ok color
    → num_samples color ≤ most
color_few interpretation p most color has h =
    subst (λ x. num_samples x ≤ most) (ok_inj has.0 color (sym has.1.0 ∙ h)) has.1.1

-- a page shows no more samples than the image has
few_shown : (i : OpenImage) → IsOf i.color i.size
    → (offsets byte_counts : List ℕ) (color : ColorType)
    → color_of (record (shown_page i) { offsets = offsets; byte_counts = byte_counts }) ≡ Ok color
    → num_samples color ≤ all_samples i
unfolding color_of
few_shown i c offsets byte_counts color h =
    let p : PageRecord = record (shown_page i) { offsets = offsets; byte_counts = byte_counts } in
    let f : Family = c.family in
    let many : length i.color.bits ≡ count_of f =
    ap (λ xs. length xs) c.bits ∙ length-replicate (count_of f) c.depth in
    let has : HasColor i.color.interpretation p (all_samples i) =
    subst (λ m. HasColor m p (all_samples i)) (sym c.interpretation)
    (family_has p (all_samples i) (omega arith) f (omega (arith, many)) (omega (arith, many))) in
    color_few i.color.interpretation p (all_samples i) color has h

-- the page shows the samples if the parts of the chunks show them
pub shown_whole : PartsShow → (kind : FileKind) (file : List ℕ) (offset : ℕ) (i : OpenImage)
    (samples : List ℕ) (m : Model)
    → RecordsImage kind m i [] → i.chunks ≡ []
    → Shows kind file offset (image_with i (parts_left i samples))
    → Shows kind file offset (image_of_samples i samples)
shown_whole show kind file offset i samples m h none s =
    let o = h.open_so in
    let drawn : IsValidImage i.width i.height (length i.color.bits) (length i.extra) i.form =
    record { wide = o.wide; high = o.high; few = o.few; cut = o.form } in
    let is_of : IsOf i.color i.size = is_of_family i o.name o.color o.size in
    let width : shown_columns s.page s.color ≡ i.width =
    columns_shown i is_of o.wide o.form o.pixels s.page s.color s.is_image s.is_color in
    let height : s.page.height ≡ i.height = ap (λ p. p.height) s.is_image in
    let few : num_samples s.color ≤ all_samples i =
    few_shown i is_of s.page.offsets s.page.byte_counts s.color (ap color_of (sym s.is_image)
    ∙ s.is_color) in
    shown_alike s s.is_image (λ x y sample xl yl sl.
    show i samples x y sample drawn none (omega (arith, xl, width)) (omega (arith, yl, height))
    (omega (arith, sl, few)))

-- ---- the image after its beginning

module _ (color : ColorTypeRecord) (size width height : ℕ) (old : FileState) (i : OpenImage) (mid : FileState)
    (begun : EndsAsDefined (new_image color size width height old) (Ok i) mid) where
  abbrev begins : WriteOutcome OpenImage
  begins = new_image color size width height old

  begun_kind : mid.kind ≡ old.kind
  begun_kind =
      ap (λ s. s.kind) begun.state ∙ (adding_done begins old (new_adding color size width height old)).kind

  -- the beginning of an image removes nothing from the file
  begun_stands : StillStands old mid
  begun_stands =
      let a = new_adding color size width height old in
      appended_stands begins old mid (adding_done begins old a) a.appending begun.state

  parent_is : i.directory.parent ≡ Some old.chain
  parent_is = let n = new_is color size width height old i begun.answer in
      ap (λ j. j.directory.parent) (sym n.1.0) ∙ n.1.1.parent

  chained_is : i.directory.chained ≡ true
  chained_is = let n = new_is color size width height old i begun.answer in
      ap (λ j. j.directory.chained) (sym n.1.0) ∙ n.1.1.chained

  size_is : i.size ≡ size
  size_is =
      let n = new_is color size width height old i begun.answer in ap (λ j. j.size) (sym n.1.0)

  no_chunks : i.chunks ≡ []
  no_chunks =
      let n = new_is color size width height old i begun.answer in ap (λ j. j.chunks) (sym n.1.0)

  module _ (m : Model) (short : end_of mid < 2 ^ 64) where
    abbrev model : Model
    model = model_by old m begins

    begun_fits : OpsFit old.kind old.bytes m begins.ops × AreEntries i.directory.fields
    begun_fits =
        new_image_fits old m color size width height i begun.answer (subst (λ s. end_of s
        < 2 ^ 64) begun.state short)

    entries_are : AreEntries i.directory.fields
    entries_are = begun_fits.1

    model_stands : FileContains old.kind old.bytes m → FileContains mid.kind mid.bytes model
    model_stands s =
        let d = adding_done begins old (new_adding color size width height old) in
        subst (λ kind. FileContains kind mid.bytes model) (sym begun_kind)
        (subst (λ b. FileContains old.kind b model) (sym (ap (λ s. s.bytes) begun.state ∙ d.bytes))
        (ops_stand old.kind old.bytes m begins.ops s begun_fits.0))

    parent_links : IsLink old.kind m old.chain → (offset : ℕ) → i.directory.parent ≡ Some offset
        → IsLink mid.kind model offset
    parent_links l offset h =
        let same : old.chain ≡ offset = some_inj old.chain offset (sym parent_is ∙ h) in
        subst (λ kind. IsLink kind model offset) (sym begun_kind)
        (subst (λ q. IsLink old.kind model q) same
        (link_kept old.kind m model old.chain (ops_grow old.kind old.bytes m begins.ops) l))

-- ---- the length of the file after the call

-- a file in which the sink fails at a link is at least as long as before
torn_longer : (i : OpenImage) (samples : List ℕ) (stored : List (List ℕ)) (e : TiffError)
    (old new : FileState)
    → LinkWriteFailed (write_image_data i samples stored old).ops e old new
    → end_of old ≤ end_of new
torn_longer i samples stored e old new t =
    let more : List ℕ = all_appended old.kind t.before in
    let over : List ℕ = take t.count (le (offset_len old.kind) t.target) in
    let a = put_longer (old.bytes ++ more) t.offset over in
    let b : end_of new ≡ length (put (old.bytes ++ more) t.offset over) =
    ap (λ s. length s.bytes) t.state in
    omega (arith, a, b, length-append old.bytes more)

-- a file with the written samples is at least as long as before
written_longer : (i : OpenImage) (samples : List ℕ) (old new : FileState)
    → IsWritten i samples old new → end_of old ≤ end_of new
written_longer i samples old new w =
    let told : WriteOutcome Offsets = write_image_data i samples w.stored old in
    let a = done_longer told old (data_patches i samples w.stored old).done in
    let b : end_of new ≡ end_of told.next = ap (λ s. end_of s) w.told.state in
    omega (arith, a, b)

-- ---- the law

module _ (parts_show : PartsShow) (color : ColorTypeRecord) (size width height : ℕ)
    (samples : List ℕ) (old new : FileState) (m : Model)
    (wide : width < 2 ^ 32) (high : height < 2 ^ 32)
    (small : AreNumbers size samples) (short : IsShortFile new) (stands : FileContains old.kind old.bytes m) (link : IsLink old.kind m old.chain)
    (i : OpenImage) (mid : FileState) (begun : EndsAsDefined (new_image color size width height old) (Ok i) mid) where
  abbrev first_model : Model
  first_model = model_by old m (new_image color size width height old)

  -- the call fails to write the samples
  image_stopped : (A : Type 0) (e : TiffError)
      → (let r : Result A TiffError = Err e in WritesImageData i samples r mid new)
      → (let r : Result A TiffError = Err e in LeavesNewImage color size width height samples r old new m)
  image_stopped A e h =
      let r : Result A TiffError = Err e in
      elim (data_stopped A i samples e mid new h) as (λ _. LeavesNewImage color size width height samples r old new m) [
        | inl x ↦ inl (
            let s : FileContains old.kind mid.bytes m =
            begun_stands color size width height old i mid begun m stands in
            let k : mid.kind ≡ old.kind = begun_kind color size width height old i mid begun in
            subst (λ kind. FileContains kind new.bytes m) k (x m (subst (λ kind. FileContains kind mid.bytes m) (sym k) s)))
        | inr t ↦ inr (
            let longer = torn_longer i samples t.0 e mid new t.1 in
            let near : end_of mid < 2 ^ 64 = omega (arith, longer, short) in (
              i,
              (
                mid,
                (
                  t.0,
                  (
                    begun,
                    data_torn i samples t.0 e mid new first_model
                        (entries_are color size width height old i mid begun m near) short
                        (model_stands color size width height old i mid begun m near stands)
                        (parent_links color size width height old i mid begun m near link) t.1,
                  ),
                ),
              ),
            ))
      ]

  -- the call writes the samples
  module _ (w : IsWritten i samples mid new) where
    mid_short : end_of mid < 2 ^ 64
    mid_short = let longer = written_longer i samples mid new w in omega (arith, longer, short)

    same_kind : mid.kind ≡ old.kind
    same_kind = begun_kind color size width height old i mid begun

    image_small : AreNumbers i.size samples
    image_small =
        subst (λ n. AreNumbers n samples) (sym (size_is color size width height old i mid begun)) small

    abbrev told : WriteOutcome Offsets
    told = write_image_data i samples w.stored mid

    -- the model after the changes of the call describes the file
    all_stands : FileContains mid.kind new.bytes (model_by mid first_model told)
    all_stands =
        data_stands i samples w.stored w.offsets mid new first_model (entries_are color size width height old i mid begun m mid_short) short
        (model_stands color size width height old i mid begun m mid_short stands)
        (parent_links color size width height old i mid begun m mid_short link) w.told

    -- the model contains the image
    image_held : (name : ColorTypeName) → color ≡ color_type name → size ≡ inner_size name
        → RecordsImage old.kind first_model i []
    image_held name c s =
        let P : ColorTypeRecord → ℕ → Type 0 = λ x n. (new_image x n width height old).answer ≡ Ok i
        → RecordsImage old.kind (model_by old m (new_image x n width height old)) i [] in
        let named : P (color_type name) (inner_size name) =
        begins_open old m name width height i wide high in
        subst (λ x. P x size) (sym c) (subst (λ n. P (color_type name) n) (sym s) named) begun.answer

    -- the page shows the samples
    image_shown : (name : ColorTypeName) → color ≡ color_type name → size ≡ inner_size name
        → Shows old.kind new.bytes w.offsets.pointer (image_of_samples i samples)
    image_shown name c s =
        let held : RecordsImage old.kind first_model i [] = image_held name c s in
        let here : Shows mid.kind new.bytes w.offsets.pointer (image_with i (parts_left i samples)) =
        data_shows i samples mid new w first_model short all_stands [] image_small
        (subst (λ kind. RecordsImage kind first_model i []) (sym same_kind) held) in
        shown_whole parts_show old.kind new.bytes w.offsets.pointer i samples first_model held
        (no_chunks color size width height old i mid begun)
        (subst (λ kind. Shows kind new.bytes w.offsets.pointer (image_with i (parts_left i samples))) same_kind here)

    -- the image when all chunks are written, and the file before its directory
    abbrev last : OpenImage
    last = (data_ended i samples mid new w).0

    abbrev end : FileState
    end = (data_chunks i samples w.stored mid mid).next

    last_told : (finish_image last end).answer ≡ Ok w.offsets
    last_told = ap (λ t. t.answer) (sym (data_ended i samples mid new w).1.1) ∙ w.told.answer

    last_directory : last.directory ≡ i.directory
    last_directory =
        same_directory i samples w.stored mid last (data_ended i samples mid new w).1.0

    -- the link of the image's directory is free for a next directory
    image_next : IsLink old.kind (model_by mid first_model told) new.chain
    image_next =
        let chained : last.directory.chained ≡ true =
        ap (λ d. d.chained) last_directory
        ∙ chained_is color size width height old i mid begun in
        let done = chunks_done i (parts_left i samples) w.stored mid in
        let n : Model = model_by mid first_model (data_chunks i samples w.stored mid mid) in
        let all : Chains mid first_model told =
        subst (λ t. Chains mid first_model t) (sym (data_ended i samples mid new w).1.1)
        (behind_chains (data_chunks i samples w.stored mid mid) (finish_image last end) mid first_model done
        (image_chains last end n w.offsets last_told chained)) in
        subst (λ q. IsLink old.kind (model_by mid first_model told) q) (sym (ap (λ s. s.chain) w.told.state))
        (subst (λ kind. IsLink kind (model_by mid first_model told) told.next.chain) same_kind all)

    -- the last link of the chain points to the image
    image_linked_to : (model_by mid first_model told).links old.chain ≡ w.offsets.pointer
    image_linked_to =
        let parent : last.directory.parent ≡ Some old.chain =
        ap (λ d. d.parent) last_directory
        ∙ parent_is color size width height old i mid begun in
        let done = chunks_done i (parts_left i samples) w.stored mid in
        let n : Model = model_by mid first_model (data_chunks i samples w.stored mid mid) in
        subst (λ t. (model_by mid first_model t).links old.chain
        ≡ w.offsets.pointer) (sym (data_ended i samples mid new w).1.1)
        (behind_linked (data_chunks i samples w.stored mid mid) (finish_image last end) mid first_model old.chain w.offsets.pointer done
        (image_linked last end n w.offsets old.chain last_told parent))

    -- the image begins behind the earlier bytes of the file
    image_behind : end_of old ≤ w.offsets.pointer
    image_behind =
        let begins : WriteOutcome OpenImage = new_image color size width height old in
        let first =
        done_longer begins old (adding_done begins old (new_adding color size width height old)) in
        let middle : end_of mid ≡ end_of begins.next = ap (λ s. end_of s) begun.state in
        let chunks =
        done_longer (data_chunks i samples w.stored mid mid) mid (chunks_done i (parts_left i samples) w.stored mid) in
        let tags = image_placed last end w.offsets last_told in
        omega (arith, first, middle, chunks, tags)

    image_written : LeavesImage color size width height samples old new m
    image_written = record {
      image = i;
      mid = mid;
      begun = begun;
      stored = w.stored;
      offsets = w.offsets;
      told = w.told;
      after = model_by mid first_model told;
      after_is = refl;
      stands =
          subst (λ kind. FileContains kind new.bytes (model_by mid first_model told)) same_kind all_stands;
      open_so = λ name c s. (image_held name c s).open_so;
      shows = image_shown;
      next = image_next;
      placed = image_behind;
      linked = image_linked_to;
    }

-- what a call that writes a new image leaves, if the parts of the chunks show the samples
pub new_image_leaves : PartsShow
    → {A : Type 0} (color : ColorTypeRecord) (size width height : ℕ) (samples : List ℕ)
    (r : Result A TiffError)
    (old new : FileState) (m : Model) → width < 2 ^ 32 → height < 2 ^ 32
    → AreNumbers size samples → IsShortFile new
    → FileContains old.kind old.bytes m → IsLink old.kind m old.chain
    → WritesImage color size width height samples r old new
    → LeavesNewImage color size width height samples r old new m
new_image_leaves show {A = A} color size width height samples
    (Ok x) old new m wide high small short stands link h =
    elim h as (λ _. LeavesNewImage {A = A} color size width height samples (Ok x) old new m) [
      | inl n ↦ absurd n
      | inr w ↦ image_written show color size width height samples old new m wide high small short stands link w.0 w.1.0 w.1.1.0
          (data_written A w.0 samples x w.1.0 new w.1.1.1)
    ]
new_image_leaves show {A = A} color size width height samples
    (Err e) old new m wide high small short stands link h =
    elim h as (λ _. LeavesNewImage {A = A} color size width height samples (Err e) old new m) [
      | inl n ↦ inl (not_begun color size width height old e new n m stands)
      | inr w ↦ image_stopped show color size width height samples old new m wide high small short stands link w.0 w.1.0 w.1.1.0
          A e w.1.1.1
    ]

pub image_leaves_by : PartsShow → ImageLeaves
image_leaves_by show = new_image_leaves show
