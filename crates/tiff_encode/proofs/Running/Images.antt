-- The end of an image leads from a `FileAndModel` of the file before it to a `FileAndModel` of the
-- file
-- after it. The image is held there if it is held while it is open.
use Rattle.std.proofs.Common.{◌≡◌, ℕ, inl, inr, Bool, true, false, cond, List, ◌++◌, length, Option, Some, None, Result, Ok, Err, refl, ap, sym, ◌∙◌, subst}
use Rattle.tiff_base.specs.declared.error.TiffError.{TiffError}
use Rattle.tiff_base.specs.Field.{AreEntries}
use Rattle.tiff_encode.specs.declared.encoder.script.EndReply.{EndReply}
use Rattle.tiff_encode.specs.declared.encoder.script.EndReply.TheVariants as last
use Rattle.tiff_value.specs.Model.{Model}
use Rattle.tiff_encode.specs.Machine.{FileState, OpenImage, WriteOutcome}
use Rattle.tiff_encode.specs.Chunks.{is_left, parts_left}
use Rattle.tiff_encode.specs.Causes.{write_image_data_cause}
use Rattle.tiff_encode.specs.Calls.{Offsets, finish_image, write_image_data}
use Rattle.tiff_encode.specs.Ends.{EndsAsDefined, CallFails}
use Rattle.tiff_encode.specs.Held.{image_with}
use Rattle.tiff_encode.specs.Shows.{Shows}
use Rattle.tiff_encode.specs.Open.{RecordsImage, HoldsEnded, model_by}
use Rattle.tiff_encode.specs.ImageData.{AreNumbers, IsShortFile, StopsWithin, WritesImageData}
use Rattle.tiff_encode.specs.ImageData as data_
use Rattle.tiff_encode.specs.Jobs.{FileAndModel, FinishesSilently, EndsWithin, WritesData, JobWritesDataBy, WritesDataIfFound}
use Rattle.tiff_encode.specs.Stepping.{EndMoves, IsHeld}
use Rattle.tiff_encode.specs.JobEnding.{DataHeld}
use Rattle.tiff_base.specs.lemmas.Slices.{some_inj, none_some}
use Rattle.tiff_encode.proofs.Open.Ends.{ends_held}
use Rattle.tiff_encode.proofs.Data.Calls.{behind_model}
use Rattle.tiff_encode.proofs.Data.Chunks.{chunks_adding, chunks_done, data_chunks, data_patches}
use Rattle.tiff_encode.proofs.Data.Open.{chunks_last}
use Rattle.tiff_encode.proofs.Data.Leaves.{within_stands, IsWritten, data_written, data_stands, data_torn}
use Rattle.tiff_encode.proofs.Data.Shows.{shown_as, data_ended, none_left, last_held}
use Rattle.tiff_encode.proofs.EndLinks.{data_links}
use Rattle.tiff_encode.proofs.Running.Ends.{IsEnding, at, led, leads_still, moves_from, told_moves, fails_moves, silently_told, silently_failed, moves_as}

-- the reply of a call that returns nothing
replied : Result (Unit {0}) TiffError → Result EndReply TiffError
replied (Ok x) = Ok last.Nothing
replied (Err e) = Err e

-- ---- `finish` and `discard`

-- an image ends with samples only if no chunk is left, and they are its samples before the end
samples_kept : (b : Bool) (before samples : List (List ℕ))
    → cond b None (Some before) ≡ Some samples → (b ≡ false) × (before ≡ samples)
samples_kept true before samples h = absurd cc
samples_kept false before samples h = (refl, some_inj before samples h)

-- the image that is held after its end
abbrev HeldWhole : OpenImage → FileAndModel → FileAndModel → Option Offsets → Type 0
HeldWhole i s t offset =
    (before samples : List (List ℕ)) (o : Offsets) → RecordsImage s.file.kind s.model i before
    → offset ≡ Some o
    → cond (is_left i) None (Some before) ≡ Some samples
    → IsHeld t (record { offset = o.pointer; image = image_with i samples })

module _ (i : OpenImage) (old new : FileState) (ending : IsEnding i.directory.parent (finish_image i old) old new) where
  finish_held : (offsets : Offsets) → EndsAsDefined (finish_image i old) (Ok offsets) new
      → (m : Model)
      → HeldWhole i (at old m) (at new (model_by old m (finish_image i old))) (Some offsets)
  finish_held offsets t m before samples o h p e =
      let n : Model = model_by old m (finish_image i old) in
      let x = samples_kept (is_left i) before samples e in
      let kind : new.kind ≡ old.kind = ap (λ f. f.kind) t.state ∙ ending.patches.done.kind in
      let P : Offsets → List (List ℕ) → Type 0 =
      λ q all. IsHeld (at new n) (record { offset = q.pointer; image = image_with i all }) in
      subst (λ q. P q samples) (some_inj offsets o p)
      (subst (λ all. P offsets all) x.1 (record {
        image = i;
        samples = before;
        held =
            subst (λ k. HoldsEnded k n i before offsets.pointer) (sym kind)
            (ends_held old m i before offsets h x.0 t.answer);
        shown = λ file s. s;
      }))

  pub finish_told : (offsets : Offsets) → EndsAsDefined (finish_image i old) (Ok offsets) new
      → EndMoves (λ s t offset. FinishesSilently (finish_image i s.file) (Ok last.Nothing) s t offset) i.directory.parent old new (HeldWhole i)
  finish_told offsets t =
      silently_told (finish_image i) (HeldWhole i) i.directory.parent old new ending offsets t
      (finish_held offsets t)

  pub finish_failed : (e : TiffError) → CallFails (finish_image i old) e old new
      → EndMoves (λ s t offset. FinishesSilently (finish_image i s.file) (Err e) s t offset) i.directory.parent old new (HeldWhole i)
  finish_failed e h =
      silently_failed (finish_image i) (HeldWhole i) i.directory.parent old new ending
      e h (λ m n before samples o h p. absurd (none_some p))

-- ---- `write_data`

module _ (i : OpenImage) (samples : List ℕ) (old new : FileState)
    (entries : AreEntries i.directory.fields) (small : AreNumbers i.size samples)
    (short : IsShortFile new) where
  data_ending : (stored : List (List ℕ))
      → IsEnding i.directory.parent (write_image_data i samples stored old) old new
  data_ending stored = record {
    patches = data_patches i samples stored old;
    links = data_links i samples stored old;
    stands = λ m s p. record {
      done = λ offsets t. data_stands i samples stored offsets old new m entries short s p t;
      torn = λ e t. data_torn i samples stored e old new m entries short s p t;
    };
  }

  -- `write_data` writes all samples
  module _ (w : IsWritten i samples old new) where
    abbrev told : WriteOutcome Offsets
    told = write_image_data i samples w.stored old

    data_held : (m : Model) (before : List (List ℕ)) → RecordsImage old.kind m i before
        → IsHeld (at new (model_by old m told)) (record { offset = w.offsets.pointer; image = image_with i (before ++ parts_left i samples) })
    data_held m before h =
        let all : List (List ℕ) = before ++ parts_left i samples in
        let ended = data_ended i samples old new w in
        let end_image : OpenImage = ended.0 in
        let chunks : WriteOutcome OpenImage = data_chunks i samples w.stored old old in
        let mid : FileState = chunks.next in
        let between : Model = model_by old m chunks in
        let end : WriteOutcome Offsets = finish_image end_image mid in
        let done = chunks_done i (parts_left i samples) w.stored old in
        let n : Model = model_by old m told in
        let model : n ≡ model_by mid between end =
        ap (λ t. model_by old m t) ended.1.1 ∙ behind_model chunks end old m done in
        let answer : end.answer ≡ Ok w.offsets =
        ap (λ t. t.answer) (sym ended.1.1) ∙ w.told.answer in
        let kind : new.kind ≡ mid.kind =
        ap (λ f. f.kind) w.told.state ∙ (data_patches i samples w.stored old).done.kind
        ∙ sym done.kind in
        let l = chunks_last i (parts_left i samples) w.stored end_image old w.all ended.1.0 in
        record {
          image = end_image;
          samples = all;
          held = subst (λ k. HoldsEnded k n end_image all w.offsets.pointer) (sym kind)
              (subst (λ k. HoldsEnded mid.kind k end_image all w.offsets.pointer) (sym model)
              (ends_held mid between end_image all w.offsets (last_held i samples old new w m short before small h)
              (none_left i samples old new w) answer));
          shown = λ file s.
              shown_as new.kind file w.offsets.pointer i end_image.chunks all
              (subst (λ j. Shows new.kind file w.offsets.pointer (image_with j all)) l.same s);
        }

    written_moves : EndMoves (λ s t offset. WritesData i samples (Ok last.Nothing) s t offset) i.directory.parent old new (DataHeld i samples)
    written_moves =
        let cause = write_image_data_cause old i (length samples) in
        told_moves (λ s t offset. WritesData i samples (Ok last.Nothing) s t offset)
        (DataHeld i samples) i.directory.parent told old new
        (data_ending w.stored) w.offsets w.told
        (λ m done.
        let n : Model = model_by old m told in
        subst (λ c. JobWritesDataBy c i samples (Ok last.Nothing) (at old m) (at new n) (Some w.offsets)) (sym w.uncaused)
        (inl (w.stored, (w.are_stored, (w.all, (w.offsets, (done, refl)))))))
        (λ m before all o h p e.
        let n : Model = model_by old m told in
        let P : Offsets → List (List ℕ) → Type 0 =
        λ q xs. IsHeld (at new n) (record { offset = q.pointer; image = image_with i xs }) in
        subst (λ q. P q all) (some_inj w.offsets o p)
        (subst (λ xs. P w.offsets xs) (some_inj (before ++ parts_left i samples) all e) (data_held m before h)))

  -- `write_data` stops
  module _ (e : TiffError) where
    abbrev Fault : Result EndReply TiffError
    Fault = Err e

    -- `write_data` stops within the chunks, some of which are stored
    stop_kept : StopsWithin i (parts_left i samples) e old new
        → (new.kind ≡ old.kind) × (new.chain ≡ old.chain)
    stop_kept h =
        let a = chunks_adding i (parts_left i samples) h.0 old in
        elim h.1.1 as (λ _. (new.kind ≡ old.kind) × (new.chain ≡ old.chain)) [
          | inl t ↦ (ap (λ f. f.kind) (t.state ∙ a.next), ap (λ f. f.chain) (t.state ∙ a.next))
          | inr h ↦ elim h [
            | inl c ↦ (ap (λ f. f.kind) c.state, ap (λ f. f.chain) c.state)
            | inr c ↦ (let x = c.1 in (ap (λ f. f.kind) x.state, ap (λ f. f.chain) x.state))
          ]
        ]

    stop_within : (m : Model) → StopsWithin i (parts_left i samples) e old new
        → EndsWithin i samples Fault (at old m) (at new m)
    stop_within m h = (
      h.0,
      (
        h.1.0,
        elim h.1.1 [
          | inl t ↦ inl (refl, t)
          | inr h ↦ elim h [
            | inl c ↦ inr (inl (refl, c))
            | inr c ↦ inr (inr (c.0, (refl, c.1)))
          ]
        ],
      ),
    )

    abbrev Stops : FileAndModel → FileAndModel → Option Offsets → Type 0
    Stops s t offset = WritesData i samples Fault s t offset

    -- `write_data` stops, by the error that refuses it
    stops_by : (cause : Option TiffError) → write_image_data_cause old i (length samples) ≡ cause
        → (m : Model) (t : FileAndModel)
        → JobWritesDataBy cause i samples Fault (at old m) t None → Stops (at old m) t None
    stops_by cause q m t h =
        subst (λ c. JobWritesDataBy c i samples Fault (at old m) t None) (sym q) h

    stopped_by : (cause : Option TiffError) → write_image_data_cause old i (length samples) ≡ cause
        → (let r : Result (Unit {0}) TiffError = Err e in data_.WritesDataBy cause i samples r old new)
        → EndMoves Stops i.directory.parent old new (DataHeld i samples)
    unfolding replied
    stopped_by (Some c) q h =
        moves_from Stops (DataHeld i samples) i.directory.parent old new
        (λ known m k l.
        led known (at old m) (at old m) new Stops (DataHeld i samples) None (sym h.1)
        (stops_by (Some c) q m (at old m) (ap replied h.0, (refl, refl)))
        (λ before all o x p. absurd (none_some p)) (leads_still known old old m refl refl k))
    stopped_by None q h =
        elim h as (λ _. EndMoves Stops i.directory.parent old new (DataHeld i samples)) [
          | inl w ↦ fails_moves Stops (DataHeld i samples) i.directory.parent
              (write_image_data i samples w.0 old) old new
              (data_ending w.0) e w.1.1.1
              (λ m n r. stops_by None q m (at new n) (inl (w.0, (w.1.0, (w.1.1.0, (r, refl))))))
              (λ m n before all o x p. absurd (none_some p))
          | inr w ↦ moves_from Stops (DataHeld i samples) i.directory.parent old new
              (λ known m k l.
              let kept = stop_kept w in
              led known (at old m) (at new m) new Stops (DataHeld i samples) None refl
              (stops_by None q m (at new m) (inr (stop_within m w, refl)))
              (λ before all o x p. absurd (none_some p))
              (leads_still known old new m kept.0 kept.1 (λ q. within_stands i (parts_left i samples) e old new w m (k q))))
        ]

    pub data_failed : (let r : Result (Unit {0}) TiffError = Err e in WritesImageData i samples r old new)
        → EndMoves Stops i.directory.parent old new (DataHeld i samples)
    data_failed h = stopped_by (write_image_data_cause old i (length samples)) refl h

  pub data_told : (let r : Result (Unit {0}) TiffError = Ok tt in WritesImageData i samples r old new)
      → EndMoves (λ s t offset. WritesData i samples (Ok last.Nothing) s t offset) i.directory.parent old new (DataHeld i samples)
  data_told h = written_moves (data_written (Unit {0}) i samples tt old new h)

-- ---- samples that are cut

-- the call writes the cut samples if memory for them is available
pub cut_moves : (i : OpenImage) (r : Result EndReply TiffError) (samples cut : List ℕ)
    (old new : FileState) → samples ≡ cut
    → EndMoves (λ s t offset. WritesData i samples r s t offset) i.directory.parent old new
    (DataHeld i samples)
    → EndMoves (λ s t offset. WritesDataIfFound i cut r s t offset) i.directory.parent old new
    (DataHeld i cut)
cut_moves i r samples cut old new same h =
    let P : List ℕ → Type 0 =
    λ xs. EndMoves (λ s t offset. WritesData i xs r s t offset) i.directory.parent old new
    (DataHeld i xs) in
    moves_as (λ s t offset. WritesData i cut r s t offset) (DataHeld i cut)
    (λ s t offset. WritesDataIfFound i cut r s t offset) (DataHeld i cut)
    i.directory.parent old new (λ s t offset x. inl x) (λ s t offset x. x) (subst P same h)
