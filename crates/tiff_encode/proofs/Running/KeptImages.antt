-- No step of an image moves the last link of the chain or changes the parent of its directory.
use Rattle.std.proofs.Common.{◌≡◌, ℕ, List, length, take, drop, Option, Some, None, Result, Ok, Err, refl, ap, sym, ◌∙◌, inl, inr, subst}
use Rattle.tiff_base.specs.declared.error.TiffError.{TiffError}
use Rattle.tiff_base.specs.declared.tags.ResolutionUnit.{ResolutionUnit}
use Rattle.tiff_base.specs.declared.tags.Tag.{Tag}
use Rattle.tiff_value.specs.Data.{Scalars}
use Rattle.tiff_encode.specs.declared.encoder.script.ImageStep.{ImageStep}
use Rattle.tiff_encode.specs.declared.encoder.script.ImageStep.TheVariants as istep
use Rattle.tiff_encode.specs.declared.encoder.script.StepReply.{StepReply}
use Rattle.tiff_encode.specs.declared.encoder.script.StepReply.TheVariants as reply
use Rattle.tiff_encode.specs.Machine.{FileState, OpenDirectory, OpenImage, WriteOutcome, WriteCall, gives, ◌>>=◌}
use Rattle.tiff_encode.specs.Causes.{write_strip_cause, write_chunk_cause}
use Rattle.tiff_encode.specs.Calls.{with_tags, write_tags, write_strip, write_chunk, resolution_tags}
use Rattle.tiff_encode.specs.JobValues.{cut_to}
use Rattle.tiff_encode.specs.Jobs.{FileAndModel, Drawn, IsDone, Changes, ImageStepped, AllStepped, ResolvesInPart, Resolves, StoreStep, StoresBy}
use Rattle.tiff_encode.proofs.Image.StepsStored.{StoresIfFound, IsStoring, strips_store, chunks_store}
use Rattle.tiff_encode.proofs.Image.Table.{Row, written, tagged, Setting, Extra, Rows, Sides, Planes, Both, Across, Down, Measure, call_of, row, called, row_adding, setting_adding}
use Rattle.tiff_base.specs.lemmas.Slices.{ok_inj}
use Rattle.tiff_encode.proofs.Data.Calls.{bind_answered, cause_answered}
use Rattle.tiff_encode.proofs.Data.Chunks.{tags_placed}
use Rattle.tiff_encode.proofs.Running.Kept.{IsSame, IsKept, same_on, done_same, refused_same, nothing_kept, changed_kept, all_kept, step_kept}

-- ---- calls of the table

abbrev pub parent_of : OpenImage → Option ℕ
parent_of i = i.directory.parent

-- the image that a call returns has the parent, if its directory has the parent of the directory
-- with the tags
row_parent : (w : Row) → ((i : OpenImage) (d : OpenDirectory)
    → (w.image i d).directory.parent ≡ d.parent) → (i : OpenImage) (file : FileState)
    (j : OpenImage) → (written w i file).answer ≡ Ok j → parent_of j ≡ parent_of i
row_parent w f i file j h =
    let call : WriteCall OpenDirectory = write_tags i.directory w.tags in
    let rest : OpenDirectory → WriteCall OpenImage = λ d. gives (w.image i d) in
    let c = cause_answered (w.cause i file) (call >>= rest) file j h in
    let all : ((call >>= rest) file).answer ≡ Ok j = ap (λ told. told.answer) (sym c.1) ∙ h in
    let a = bind_answered call rest file j all in
    ap parent_of (sym (ok_inj (w.image i a.0) j (ap (λ told. told.answer) (sym a.1.1) ∙ all)))
    ∙ f i a.0 ∙ (tags_placed i.directory a.0 w.tags file a.1.0).parent

image_parent : (s : Setting) (i : OpenImage) (d : OpenDirectory)
    → ((row s).image i d).directory.parent ≡ d.parent
image_parent (Extra extra) i d = refl
image_parent s i d = refl

setting_kept : (s : Setting) (i : OpenImage) (r : Result StepReply TiffError)
    (old new : FileAndModel) (j : OpenImage)
    → Changes (call_of s i) i r old new j → IsKept old (parent_of i) new (parent_of j)
setting_kept s i r old new j h =
    changed_kept parent_of (call_of s i) i r old new j (setting_adding s i old.file)
    (λ x q. row_parent (row s) (image_parent s) i old.file x (subst (λ (told : WriteOutcome OpenImage). told.answer ≡ Ok x) (called s i old.file) q)) h

-- ---- steps

-- a step that writes the resolutions in part
in_part : (i : OpenImage) (values : List (Tag × Scalars)) (e : TiffError) (old new : FileAndModel)
    (j : OpenImage)
    → ResolvesInPart i values e old new j → IsKept old (parent_of i) new (parent_of j)
in_part i values e old new j h =
    let k : ℕ = h.1.0 in
    let mid : FileAndModel = h.1.1.1.0 in
    let done : IsDone (with_tags i (take k values) old.file) (Ok j) old mid = h.1.1.1.1.0 in
    let first : Row = tagged (λ f. None) (take k values) in
    let told : WriteOutcome OpenImage = with_tags j (drop k values) mid.file in
    let adds = row_adding (tagged (λ f. None) (drop k values)) j mid.file in
    let begun : IsSame old.file mid.file =
    done_same (with_tags i (take k values) old.file) old mid (row_adding first i old.file) (Ok j) done in
    let others : IsSame mid.file new.file = elim h.1.1.1.1.1 as (λ _. IsSame mid.file new.file) [
      | inl c ↦ refused_same told mid new adds e (inr (inr (inl c)))
      | inr c ↦ refused_same told mid new adds e (inr (inr (inr c)))
    ] in
    record { file = same_on old.file mid.file new.file begun others; parent = row_parent first (λ i d. refl) i old.file j done.ended.answer }

resolves_kept : (i : OpenImage) (u : ResolutionUnit) (value : ℕ × ℕ)
    (r : Result StepReply TiffError) (old new : FileAndModel) (j : OpenImage)
    → Resolves i u value r old new j → IsKept old (parent_of i) new (parent_of j)
resolves_kept i u value (Ok r) old new j h = setting_kept (Both u value) i (Ok r) old new j h
resolves_kept i u value (Err e) old new j h =
    elim h as (λ _. IsKept old (parent_of i) new (parent_of j)) [
      | inl c ↦ setting_kept (Both u value) i (Err e) old new j c
      | inr p ↦ in_part i (resolution_tags u value) e old new j p
    ]

module _ (call : OpenImage → ℕ → List ℕ → WriteCall OpenImage) (c : IsStoring call) where
  stores_kept : (i : OpenImage) (samples : List ℕ) (r : Result StepReply TiffError)
      (old new : FileAndModel) (j : OpenImage)
      → StoreStep call i samples r old new j → IsKept old (parent_of i) new (parent_of j)
  stores_kept i samples (Ok reply.Nothing) old new j h = record {
    file =
        done_same (call i (length samples) h.0 old.file) old new (c.adds i (length samples) h.0 old.file) (Ok j) h.1.1;
    parent = c.parent i j (length samples) h.0 old.file h.1.1.ended.answer;
  }
  stores_kept i samples (Ok (reply.Number n)) old new j h = absurd h
  stores_kept i samples (Ok (reply.Written entry)) old new j h = absurd h
  stores_kept i samples (Err e) old new j h =
      elim h.1 as (λ _. IsKept old (parent_of i) new (parent_of j)) [
        | inl n ↦ nothing_kept parent_of old i new j n.1 h.0
        | inr s ↦ (let a = c.adds i (length samples) s.0 old.file in
            let told : WriteOutcome OpenImage = call i (length samples) s.0 old.file in
            let same : IsSame old.file new.file = elim s.1.1 as (λ _. IsSame old.file new.file) [
              | inl c ↦ refused_same told old new a e (inl c)
              | inr c ↦ refused_same told old new a e (inr (inr (inl c)))
            ] in
            record { file = same; parent = ap parent_of h.0 })
      ]

  stores_by_kept : (cause : Option TiffError) (i : OpenImage) (samples : List ℕ)
      (r : Result StepReply TiffError) (old new : FileAndModel)
      (j : OpenImage) → StoresBy call cause i samples r old new j
      → IsKept old (parent_of i) new (parent_of j)
  stores_by_kept (Some cause) i samples r old new j h =
      nothing_kept parent_of old i new j h.1.1 h.1.0
  stores_by_kept None i samples r old new j h = stores_kept i samples r old new j h

  found_kept : (cause : Option TiffError) (i : Drawn) (samples : List ℕ)
      (r : Result StepReply TiffError) (old new : FileAndModel) (j : Drawn)
      → StoresIfFound call cause i samples r old new j
      → IsKept old (parent_of i.image) new (parent_of j.image)
  found_kept cause i samples r old new j h =
      elim h.1 as (λ _. IsKept old (parent_of i.image) new (parent_of j.image)) [
        | inl s ↦ stores_by_kept cause i.image samples r old new j.image s
        | inr n ↦ nothing_kept parent_of old i.image new j.image n.1.1 n.1.0
      ]

abbrev pub drawn_parent : Drawn → Option ℕ
drawn_parent i = i.image.directory.parent

image_step_kept : (old : FileAndModel) (i : Drawn) (s : ImageStep) (r : Result StepReply TiffError)
    (new : FileAndModel) (j : Drawn)
    → ImageStepped old i s r new j → IsKept old (drawn_parent i) new (drawn_parent j)
image_step_kept old i (istep.Directory s) r new j h =
    let k =
    step_kept old i.image.directory s r new h.1.0 h.1.1.1 in
    record { file = k.file; parent = ap parent_of h.1.1.0 ∙ k.parent }
image_step_kept old i (istep.ExtraSamples extra) r new j h =
    setting_kept (Extra extra.items) i.image r old new j.image h.1
image_step_kept old i (istep.Tiles width length) r new j h =
    setting_kept (Sides width length) i.image r old new j.image h.1
image_step_kept old i istep.Planar r new j h = setting_kept Planes i.image r old new j.image h.1
image_step_kept old i istep.NextStripSampleCount r new j h =
    nothing_kept drawn_parent old i new j h.1.0 h.1.1
image_step_kept old i istep.NextChunkSampleCount r new j h =
    nothing_kept drawn_parent old i new j h.1.0 h.1.1
image_step_kept old i (istep.WriteStrip samples) r new j h =
    let cut : List ℕ = cut_to i.image.size samples in
    found_kept write_strip strips_store (write_strip_cause old.file i.image (length cut) 0) i cut r old new j h
image_step_kept old i (istep.WriteChunk samples) r new j h =
    let cut : List ℕ = cut_to i.image.size samples in
    found_kept write_chunk chunks_store (write_chunk_cause old.file i.image (length cut) 0) i cut r old new j h
image_step_kept old i (istep.Resolution u value) r new j h =
    resolves_kept i.image u (value.n, value.d) r old new j.image h.1
image_step_kept old i (istep.ResolutionUnit u) r new j h =
    setting_kept (Measure u) i.image r old new j.image h.1
image_step_kept old i (istep.XResolution value) r new j h =
    setting_kept (Across (value.n, value.d)) i.image r old new j.image h.1
image_step_kept old i (istep.YResolution value) r new j h =
    setting_kept (Down (value.n, value.d)) i.image r old new j.image h.1
image_step_kept old i (istep.RowsPerStrip rows) r new j h =
    setting_kept (Rows rows) i.image r old new j.image h.1

pub image_steps_kept : (old : FileAndModel) (i : Drawn) (steps : List ImageStep)
    (rs : List (Result StepReply TiffError)) (new : FileAndModel)
    (j : Drawn) → AllStepped ImageStepped old i steps rs new j
    → IsKept old (drawn_parent i) new (drawn_parent j)
image_steps_kept old i steps rs new j h =
    all_kept drawn_parent ImageStepped image_step_kept old i steps rs new j h
