-- After all chunks that are left are written, the file shows the image at its end.
use Rattle.std.proofs.Common.{◌≡◌, ℕ, ◌^◌, ◌<◌, inl, inr, false, List, ◌++◌, length, Some, None, Result, Ok, Err, refl, ap, sym, ◌∙◌, subst, arith, le-ltb}
use Rattle.tiff_base.specs.declared.error.TiffError.{TiffError}
use Rattle.tiff_base.specs.declared.tags.FileKind.{FileKind}
use Rattle.tiff_base.specs.Field.{AreEntries}
use Rattle.tiff_page.specs.Counts.{all_chunks}
use Rattle.tiff_value.specs.Model.{Model, IsLink, FileContains}
use Rattle.tiff_encode.specs.Machine.{FileState, Chunk, OpenImage, WriteOutcome, WriteCall, after_ops, by_cause, ◌>>=◌}
use Rattle.tiff_encode.specs.Chunks.{image_page, is_left, parts_left, sample_in}
use Rattle.tiff_encode.specs.Causes.{end_of, write_image_data_cause}
use Rattle.tiff_encode.specs.Calls.{Offsets, finish_image, write_image_data}
use Rattle.tiff_encode.specs.Shows.{Shows}
use Rattle.tiff_encode.specs.Held.{image_with}
use Rattle.tiff_encode.specs.Open.{RecordsImage, model_by}
use Rattle.tiff_encode.specs.ImageData.{AreNumbers, IsShortFile, WritesImageData, LeavesWhole, LeavesData}
use Rattle.tiff_encode.proofs.PageTold.Page.{page_told}
use Rattle.tiff_encode.proofs.Shown.Alike.{shown_alike}
use Rattle.tiff_encode.proofs.Shown.Images.{images_show_by}
use Rattle.tiff_encode.proofs.Open.Ends.{ends_shown_by}
use Rattle.tiff_encode.proofs.Image.FitsCalls.{done_longer}
use Rattle.tiff_encode.proofs.Data.Calls.{bind_answered, behind_model}
use Rattle.tiff_encode.proofs.Data.Chunks.{image_patches, chunks_done, data_chunks}
use Rattle.tiff_encode.proofs.Data.Parts.{left_ready, left_many}
use Rattle.tiff_encode.proofs.Data.Open.{rechunked, chunks_last, chunks_held}
use Rattle.tiff_encode.proofs.Data.Leaves.{IsWritten, data_stopped, data_torn, data_written, data_stands}

-- a file that shows an image with other chunks shows the image
pub shown_as : (kind : FileKind) (file : List ℕ) (offset : ℕ) (i : OpenImage) (chunks : List Chunk)
    (samples : List (List ℕ))
    → Shows kind file offset (image_with (rechunked i chunks) samples)
    → Shows kind file offset (image_with i samples)
unfolding sample_in
shown_as kind file offset i chunks samples s =
    shown_alike s s.is_image (λ x y sample xl yl sl. refl)

module _ (i : OpenImage) (samples : List ℕ) (old new : FileState) (w : IsWritten i samples old new) where
  -- the outcome of `write_data`, its chunks, and the file after the chunks
  abbrev told : WriteOutcome Offsets
  told = write_image_data i samples w.stored old

  abbrev chunks : WriteCall OpenImage
  chunks = data_chunks i samples w.stored old

  abbrev mid : FileState
  mid = (chunks old).next

  data_is : write_image_data_cause old i (length samples) ≡ None
      → told ≡ (chunks >>= finish_image) old
  unfolding write_image_data
  data_is h = ap (λ c. by_cause c (chunks >>= finish_image) old) h

  -- `write_data` writes the chunks and ends the image
  pub data_ended : (last : OpenImage)
      × (((chunks old).answer ≡ Ok last) × (told
      ≡ after_ops (chunks old).ops (finish_image last mid)))
  data_ended =
      let is = data_is w.uncaused in
      let a =
      bind_answered chunks finish_image old w.offsets (ap (λ t. t.answer) (sym is)
      ∙ w.told.answer) in
      (a.0, (a.1.0, is ∙ a.1.1))

  abbrev last : OpenImage
  last = data_ended.0

  -- the length of the file before the end of the image is a 64-bit number
  mid_short : IsShortFile new → end_of mid < 2 ^ 64
  mid_short short =
      let longer = done_longer (finish_image last mid) mid (image_patches last mid).done in
      let same : end_of new ≡ end_of (finish_image last mid).next =
      ap (λ file. end_of file) w.told.state ∙ ap (λ t. end_of t.next) data_ended.1.1 in
      omega (arith, longer, same, short)

  -- no chunk is left after `write_data`
  pub none_left : is_left last ≡ false
  none_left =
      let l = chunks_last i (parts_left i samples) w.stored last old w.all data_ended.1.0 in
      let same : all_chunks (image_page last) ≡ all_chunks (image_page i) =
      ap (λ j. all_chunks (image_page j)) l.same in
      let many = left_many i samples in
      let count = l.count in
      le-ltb (length last.chunks) (all_chunks (image_page last)) (omega (arith, same, many, count))

  module _ (m : Model) (short : IsShortFile new) where
    -- the model after the chunks are written
    abbrev between : Model
    between = model_by old m (chunks old)

    pub last_held : (before : List (List ℕ)) → AreNumbers i.size samples
        → RecordsImage old.kind m i before
        → RecordsImage mid.kind between last (before ++ parts_left i samples)
    last_held before small h =
        let done = chunks_done i (parts_left i samples) w.stored old in
        subst (λ kind. RecordsImage kind between last (before
        ++ parts_left i samples)) (sym done.kind)
        (chunks_held i last (parts_left i samples) w.stored old m before w.all w.are_stored
        (left_ready i samples old (length samples) w.uncaused h.open_so.form small) h (mid_short short) data_ended.1.0)

    pub data_shows : FileContains old.kind new.bytes (model_by old m told)
        → (before : List (List ℕ)) → AreNumbers i.size samples
        → RecordsImage old.kind m i before
        → Shows old.kind new.bytes w.offsets.pointer (image_with i (before ++ parts_left i samples))
    data_shows s before small h =
        let all : List (List ℕ) = before ++ parts_left i samples in
        let end : WriteOutcome Offsets = finish_image last mid in
        let done = chunks_done i (parts_left i samples) w.stored old in
        let bytes : new.bytes ≡ end.next.bytes =
        ap (λ file. file.bytes) w.told.state ∙ ap (λ t. t.next.bytes) data_ended.1.1 in
        let model : model_by old m told ≡ model_by mid between end =
        ap (λ t. model_by old m t) data_ended.1.1 ∙ behind_model (chunks old) end old m done in
        let stands : FileContains mid.kind end.next.bytes (model_by mid between end) =
        subst (λ kind. FileContains kind end.next.bytes (model_by mid between end)) (sym done.kind)
        (subst (λ b. FileContains old.kind b (model_by mid between end)) bytes (subst (λ x. FileContains old.kind new.bytes x) model s)) in
        let answer : end.answer ≡ Ok w.offsets =
        ap (λ t. t.answer) (sym data_ended.1.1) ∙ w.told.answer in
        let shown : Shows mid.kind end.next.bytes w.offsets.pointer (image_with last all) =
        ends_shown_by (images_show_by page_told) mid between last all w.offsets
        (last_held before small h) none_left answer stands in
        let l = chunks_last i (parts_left i samples) w.stored last old w.all data_ended.1.0 in
        let here : Shows old.kind new.bytes w.offsets.pointer (image_with last all) =
        subst (λ b. Shows old.kind b w.offsets.pointer (image_with last all)) (sym bytes)
        (subst (λ kind. Shows kind end.next.bytes w.offsets.pointer (image_with last all)) done.kind shown) in
        shown_as old.kind new.bytes w.offsets.pointer i last.chunks all
        (subst (λ j. Shows old.kind new.bytes w.offsets.pointer (image_with j all)) l.same here)

-- ---- the law

-- `write_data` succeeds
pub data_done : (i : OpenImage) (samples : List ℕ) (old new : FileState) (m : Model)
    → AreEntries i.directory.fields
    → AreNumbers i.size samples → IsShortFile new → FileContains old.kind old.bytes m
    → ((offset : ℕ) → i.directory.parent ≡ Some offset → IsLink old.kind m offset)
    → IsWritten i samples old new → LeavesWhole i samples old new m
data_done i samples old new m a small short s p w =
    let stands = data_stands i samples w.stored w.offsets old new m a short s p w.told in
    record {
      stored = w.stored;
      offsets = w.offsets;
      told = w.told;
      stands = stands;
      shows = λ before h. data_shows i samples old new w m short stands before small h;
    }

pub data_leaves : {A : Type 0} (i : OpenImage) (samples : List ℕ) (r : Result A TiffError)
    (old new : FileState) (m : Model)
    → AreEntries i.directory.fields → AreNumbers i.size samples → IsShortFile new
    → FileContains old.kind old.bytes m
    → ((offset : ℕ) → i.directory.parent ≡ Some offset → IsLink old.kind m offset)
    → WritesImageData i samples r old new → LeavesData i samples r old new m
data_leaves {A = A} i samples (Ok x) old new m a small short s p h =
    data_done i samples old new m a small short s p (data_written A i samples x old new h)
data_leaves {A = A} i samples (Err e) old new m a small short s p h =
    elim (data_stopped A i samples e old new h) as (λ _. LeavesData {A = A} i samples (Err e) old new m) [
      | inl x ↦ inl (x m s)
      | inr t ↦ inr (t.0, data_torn i samples t.0 e old new m a short s p t.1)
    ]
