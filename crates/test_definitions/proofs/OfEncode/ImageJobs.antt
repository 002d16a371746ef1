-- The worked examples of `Encode.ImageJobs` hold.
use Rattle.std.specs.Prelude.{refl, get_or}
use Rattle.std.proofs.Common.{true, ◌≡◌, ℕ, ◌⊎◌, List, [], ◌∷◌, ◌++◌, Some, Result, Ok, Err, ap, sym, ◌∙◌, subst, inl, inr, lit<, lit≤}
use Rattle.tiff_base.specs.declared.error.TiffError.{TiffError}
use Rattle.tiff_base.specs.declared.error.TiffError.TheVariants.{FormatError, IoError}
use Rattle.tiff_base.specs.declared.error.TiffFormatError.TheVariants.{InvalidDimensions}
use Rattle.tiff_base.specs.declared.io.IoKind.TheVariants.{Device}
use Rattle.tiff_base.specs.declared.io.SinkFault.TheVariants as fault
use Rattle.tiff_base.specs.declared.tags.FileKind.TheVariants.{Classic}
use Rattle.tiff_base.specs.declared.tags.ResolutionUnit.TheVariants as unit
use Rattle.tiff_value.specs.declared.encoder.colortype.ColorTypeName.{ColorTypeName}
use Rattle.tiff_value.specs.declared.encoder.colortype.ColorTypeName.TheVariants as name
use Rattle.tiff_value.specs.ColorTypes.{color_type, inner_size}
use Rattle.tiff_encode.specs.declared.encoder.script.ImageStep.{ImageStep}
use Rattle.tiff_encode.specs.declared.encoder.script.ImageJob.{ImageJob}
use Rattle.tiff_encode.specs.declared.encoder.script.JobReply.{JobReply}
use Rattle.tiff_encode.specs.declared.encoder.script.ImageStep.TheVariants as istep
use Rattle.tiff_encode.specs.declared.encoder.script.ImageEnd.{ImageEnd}
use Rattle.tiff_encode.specs.declared.encoder.script.ImageEnd.TheVariants as iend
use Rattle.tiff_encode.specs.declared.encoder.script.StepReply.{StepReply}
use Rattle.tiff_encode.specs.declared.encoder.script.StepReply.TheVariants as reply
use Rattle.tiff_encode.specs.declared.encoder.script.EndReply.{EndReply}
use Rattle.tiff_encode.specs.declared.encoder.script.EndReply.TheVariants as last
use Rattle.tiff_encode.specs.Machine.{FileState, OpenImage, WriteOutcome}
use Rattle.tiff_encode.specs.Chunks.{parts_left}
use Rattle.tiff_encode.specs.Calls.{new_image, new_directory, write_strip, resolution_tags}
use Rattle.tiff_encode.specs.Shows.{Shows}
use Rattle.tiff_encode.specs.JobValues.{cut_to}
use Rattle.tiff_encode.specs.Jobs as jobs
use Rattle.tiff_encode.specs.Jobs.{Run, FinishedImage, IsDone}
use Rattle.test_definitions.proofs.OfEncode.Chunks as images
use Rattle.test_definitions.proofs.OfEncode.Model.{unequal}
use Rattle.test_definitions.proofs.OnePixel.{pixel_image, gray_shown}
use Rattle.test_definitions.specs.Encode.Causes.{new_file, gray, pixel}
use Rattle.test_definitions.specs.Encode.Chunks.{new_pixel, pixel_in_file, resolutions, all_fields}
use Rattle.test_definitions.specs.Encode.Calls.{header, with_fields}
use Rattle.test_definitions.proofs.Maps.{puts, entries_puts, len_puts}
use Rattle.test_definitions.proofs.OfEncode.Calls.{finish_told}
use Rattle.test_definitions.specs.Encode.Jobs.{first, run_begun}
use Rattle.test_definitions.specs.Encode.ImageJobs as s
use Rattle.test_definitions.specs.Encode.ImageJobs.{after_begin, after_strip, after_end, page_offset, page_run, drawn_new, drawn_strip}
use Rattle.tiff.proofs.OnLiterals.{tiff_on_literals}

abbrev refusal : TiffError
refusal = FormatError (InvalidDimensions 0 5)

-- the parts of the page of one pixel
page_begins : IsDone (new_image gray 1 1 1 (new_file Classic)) (Ok new_pixel) first after_begin
unfolding tiff_on_literals
page_begins = record { ended = record { answer = refl; state = refl }; model = refl }

strip_done : IsDone (write_strip new_pixel 1 (7
    ∷ []) after_begin.file) (Ok pixel_in_file) after_begin after_strip
unfolding tiff_on_literals
strip_done = record { ended = record { answer = refl; state = refl }; model = refl }

strip_stands : s.strip_stood
unfolding tiff_on_literals
strip_stands = (7 ∷ [], (refl, strip_done))

other : (stored : List ℕ) → stored ≡ 8 ∷ []
    → IsDone (write_strip new_pixel 1 stored after_begin.file) (Ok pixel_in_file) after_begin after_strip → ⊥
unfolding tiff_on_literals
other stored p a =
    unequal 7 8 (lit< tt) (ap (λ (f : FileState). get_or f.bytes 24 0)
    (subst (λ x. after_strip.file ≡ (write_strip new_pixel 1 x after_begin.file).next) p a.ended.state))

not_other : s.strip_other
unfolding tiff_on_literals
not_other h = other h.0 h.1.0 h.1.1

end_done : IsDone s.ended (Ok page_offset) after_strip after_end
end_done =
    record { ended = record { answer = images.pixel_finished.0; state = refl }; model = refl }

pub data_is_done : IsDone s.wrote (Ok page_offset) after_begin s.after_data
data_is_done =
    record { ended = record { answer = images.pixel_data.0; state = refl }; model = refl }

data_stands : s.data_done
unfolding tiff_on_literals
data_stands = inl ((7 ∷ []) ∷ [], ((refl, tt), (refl, (page_offset, (data_is_done, refl)))))

part : s.resolved_part
unfolding tiff_on_literals
part = (
  refl,
  (
    1,
    (
      lit< tt,
      (
        s.after_unit,
        (
          record { ended = record { answer = refl; state = refl }; model = refl },
          inr (refl, record { fresh = refl; fault = refl; begun = tt; count = 0; within = lit≤ tt; state = refl }),
        ),
      ),
    ),
  ),
)

failed_part : jobs.ResolvesInPart pixel (resolution_tags unit.Inch (300, 1))
    (IoError Device) first s.after_unit_failed s.unit_pixel
unfolding tiff_on_literals
failed_part = (
  refl,
  (
    1,
    (
      lit< tt,
      (
        s.after_unit,
        (
          record { ended = record { answer = refl; state = refl }; model = refl },
          inl (refl, record { fresh = refl; fault = fault.Device; answer = refl; count = 1; within = lit< tt; state = refl }),
        ),
      ),
    ),
  ),
)

begun_stands : s.data_begun
unfolding tiff_on_literals
begun_stands =
    inr (
      (
        (1 ∷ 2 ∷ []) ∷ [],
        ((refl, tt), inr (inr (lit< tt, (refl, record { fresh = refl; fault = refl; begun = tt; count = 2; within = lit≤ tt; state = refl })))),
      ),
      refl,
    )

-- the whole job, given equations for its parts
steps_by : (ss : List ImageStep) (rs : List (Result StepReply TiffError)) (one : ImageStep)
    → ss ≡ one ∷ [] → rs ≡ Ok reply.Nothing ∷ []
    → jobs.ImageStepped after_begin drawn_new one (Ok reply.Nothing) after_strip drawn_strip
    → jobs.AllStepped jobs.ImageStepped after_begin drawn_new ss rs after_strip drawn_strip
steps_by ss rs one p q h =
    let P : List ImageStep → List (Result StepReply TiffError) → Type 0 =
    λ x y. jobs.AllStepped jobs.ImageStepped after_begin drawn_new x y after_strip drawn_strip in
    subst (λ x. P x rs) (sym p) (subst (λ y. P (one
    ∷ []) y) (sym q) (after_strip, (drawn_strip, (h, (refl, refl)))))

ends_by : (e : ImageEnd) (r : Result EndReply TiffError) → e ≡ iend.Finish → r ≡ Ok last.Nothing
    → jobs.ImageEnds after_strip pixel_in_file e r after_end (Some page_offset)
ends_by e r p q =
    let P : ImageEnd → Result EndReply TiffError → Type 0 =
    λ x y. jobs.ImageEnds after_strip pixel_in_file x y after_end (Some page_offset) in
    subst (λ x. P x r) (sym p) (subst (λ y. P iend.Finish y) (sym q) (page_offset, (end_done, refl)))

pub begins_by : (c : ColorTypeName) (w h : ℕ) → c ≡ name.Gray8 → w ≡ 1 → h ≡ 1
    → IsDone (new_image (color_type c) (inner_size c) w h (new_file Classic)) (Ok new_pixel) first after_begin
unfolding tiff_on_literals
begins_by c w h p q r =
    let P : ColorTypeName → ℕ → ℕ → Type 0 =
    λ x y z. IsDone (new_image (color_type x) (inner_size x) y z (new_file Classic))
    (Ok new_pixel) first after_begin in
    subst (λ x. P x w h) (sym p) (subst (λ y. P name.Gray8 y h) (sym q) (subst (λ z. P name.Gray8 1 z) (sym r) page_begins))

images_by : (ss : List ImageStep) (rs : List (Result StepReply TiffError)) (e : ImageEnd)
    (samples : List ℕ) → ss ≡ istep.WriteStrip samples ∷ [] → rs ≡ Ok reply.Nothing ∷ []
    → e ≡ iend.Finish
    → jobs.job_images ss rs e drawn_strip (Some page_offset) ≡ page_run.images
images_by ss rs e samples p q r =
    ap (λ x. jobs.job_images x rs e drawn_strip (Some page_offset)) p
    ∙ (ap (λ x. jobs.job_images (istep.WriteStrip samples
    ∷ []) x e drawn_strip (Some page_offset)) q
    ∙ ap (λ x. jobs.job_images (istep.WriteStrip samples ∷ []) (Ok reply.Nothing ∷ []) x drawn_strip (Some page_offset)) r)

whole : s.strip_job
whole j r samples c w h p u e q l =
    inr (record {
      first = new_pixel;
      after_begin = after_begin;
      begins = begins_by j.color j.width j.height c w h;
      final = drawn_strip;
      after_steps = after_strip;
      steps =
          steps_by j.steps.items r.steps.items (istep.WriteStrip samples) p q
          (subst (λ xs. jobs.StripStepIfFound drawn_new (cut_to 1 xs) (Ok reply.Nothing) after_begin after_strip drawn_strip) (sym u) (refl, inl strip_stands));
      offset = Some page_offset;
      after_end = after_end;
      ends = ends_by j.end r.last e l;
      state = ap (λ x. jobs.run_after_job run_begun after_end x page_run.images) (sym l)
          ∙ ap (λ x. jobs.run_after_job run_begun after_end r.last x) (sym (images_by j.steps.items r.steps.items j.end samples p q e));
    })

-- the whole job with `write_data`: it has no steps
no_steps : (ss : List ImageStep) (rs : List (Result StepReply TiffError)) → ss ≡ [] → rs ≡ []
    → jobs.AllStepped jobs.ImageStepped after_begin drawn_new ss rs after_begin drawn_new
no_steps ss rs p q =
    let P : List ImageStep → List (Result StepReply TiffError) → Type 0 =
    λ x y. jobs.AllStepped jobs.ImageStepped after_begin drawn_new x y after_begin drawn_new in
    subst (λ x. P x rs) (sym p) (subst (λ y. P [] y) (sym q) (refl, refl))

data_ends : (e : ImageEnd) (r : Result EndReply TiffError) (samples : List ℕ) → samples ≡ 7 ∷ 8 ∷ []
    → e ≡ iend.WriteData samples → r ≡ Ok last.Nothing
    → jobs.ImageEnds after_begin new_pixel e r s.after_data (Some page_offset)
data_ends e r samples u p q =
    subst (λ x. jobs.ImageEnds after_begin new_pixel x r s.after_data (Some page_offset)) (sym p)
    (subst (λ y. jobs.WritesDataIfFound new_pixel (cut_to 1 samples) y after_begin s.after_data (Some page_offset)) (sym q)
    (subst (λ xs. jobs.WritesDataIfFound new_pixel (cut_to 1 xs) (Ok last.Nothing) after_begin s.after_data (Some page_offset)) (sym u) (inl data_stands)))

data_images : (ss : List ImageStep) (rs : List (Result StepReply TiffError)) (e : ImageEnd)
    (samples : List ℕ) → ss ≡ [] → samples ≡ 7 ∷ 8 ∷ [] → e ≡ iend.WriteData samples
    → jobs.job_images ss rs e drawn_new (Some page_offset) ≡ s.data_images
unfolding tiff_on_literals
data_images ss rs e samples p u q =
    ap (λ x. jobs.job_images x rs e drawn_new (Some page_offset)) p
    ∙ (ap (λ x. jobs.job_images [] rs x drawn_new (Some page_offset)) q
    ∙ ap (λ xs. jobs.images_at (Some page_offset) (Some (parts_left new_pixel (cut_to 1 xs))) new_pixel) u)

-- the job runs in each run with the state of a new run
pub data_ran : (old : Run) (j : ImageJob) (r : JobReply) (samples : List ℕ) → j.color ≡ name.Gray8
    → j.width ≡ 1 → j.height ≡ 1
    → j.steps.items ≡ [] → samples ≡ 7 ∷ 8 ∷ [] → j.end ≡ iend.WriteData samples
    → r.steps.items ≡ [] → r.last ≡ Ok last.Nothing
    → let begun : Run = record old { standing = first } in
    jobs.ImageRan begun j r (jobs.run_after_job begun s.after_data (Ok last.Nothing) s.data_images)
data_ran old j r samples c w h p u e q l =
    let begun : Run = record old { standing = first } in
    inr (record {
      first = new_pixel;
      after_begin = after_begin;
      begins = begins_by j.color j.width j.height c w h;
      final = drawn_new;
      after_steps = after_begin;
      steps = no_steps j.steps.items r.steps.items p q;
      offset = Some page_offset;
      after_end = s.after_data;
      ends = data_ends j.end r.last samples u e l;
      state = ap (λ x. jobs.run_after_job begun s.after_data x s.data_images) (sym l)
          ∙ ap (λ x. jobs.run_after_job begun s.after_data r.last x) (sym (data_images j.steps.items r.steps.items j.end samples p u e));
    })

data_whole : s.data_job
data_whole j r samples c w h p u e q l = data_ran run_begun j r samples c w h p u e q l

no_side : s.no_side_job
unfolding tiff_on_literals
no_side j r w h q l =
    let T : ℕ → ℕ → WriteOutcome OpenImage =
    λ x y. new_image (color_type j.color) (inner_size j.color) x y (new_file Classic) in
    let new = jobs.run_after_job run_begun first (Err refusal) [] in
    let P : ℕ → ℕ → Type 0 =
    λ x y. jobs.JobIsNotBegun (T x y) run_begun r new
    ⊎ jobs.ImageRuns (T x y) j r run_begun new in
    subst (λ x. P x j.height) (sym w) (subst (λ y. P 0 y) (sym h)
    (inl (refusal, (first, ((q, l), (inl (refl, record { answer = refl; state = refl }), ap (λ x. jobs.run_after_job run_begun first x []) (sym l)))))))

kind_stays : after_end.file.kind ≡ Classic
unfolding tiff_on_literals
kind_stays =
    ap (λ t. t.next.kind)
    (finish_told (record (new_file Classic) { bytes = header ++ (resolutions ++ (7 ∷ [])) }) (with_fields (new_directory (Some 4) true) all_fields) 14
    (puts all_fields) (len_puts all_fields) (entries_puts all_fields))

-- the file shows the image of the pixel
shown : (f : FinishedImage) → (record { offset = 25; image = pixel_image }) ≡ f
    → Shows after_end.file.kind after_end.file.bytes f.offset f.image
shown f h =
    subst (λ x. Shows after_end.file.kind after_end.file.bytes x.offset x.image) h
    (subst (λ kind. Shows kind after_end.file.bytes 25 pixel_image) (sym kind_stays)
    (subst (λ file. Shows Classic file 25 pixel_image) (sym images.pixel_finished.1) gray_shown))

is_shown : s.page_shown
is_shown f (inl e) = shown f (sym e)
is_shown f (inr z) = absurd z

pub strip_stood : s.strip_stood
strip_stood = strip_stands

pub strip_other : s.strip_other
strip_other = not_other

pub resolved_part : s.resolved_part
resolved_part = part

pub resolved_wanting : s.resolved_wanting
resolved_wanting = inr part

pub resolved_failed : s.resolved_failed
resolved_failed = inr failed_part

pub data_begun : s.data_begun
data_begun = begun_stands

pub data_done : s.data_done
data_done = data_stands

pub data_found : s.data_found
data_found = inl data_stands

pub image_ended : s.image_ended
image_ended = (page_offset, (end_done, refl))

pub no_side_job : s.no_side_job
no_side_job = no_side

pub strip_job : s.strip_job
strip_job = whole

pub page_shown : s.page_shown
page_shown = is_shown

pub data_job : s.data_job
data_job = data_whole

pub ruleset worked = (data_begun, data_done, data_found, image_ended)
