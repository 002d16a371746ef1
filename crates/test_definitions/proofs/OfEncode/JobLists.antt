-- The worked examples of `Encode.JobLists` hold.
use Rattle.std.specs.Prelude.{refl, take}
use Rattle.std.proofs.lemmas.List.{length-take}
use Rattle.std.proofs.Common.{◌≡◌, ◌<◌, false, List, [], ◌∷◌, ◌++◌, length, Some, None, Result, Ok, ap, sym, ◌∙◌, subst, inl, inr, arith, lit<}
use Rattle.tiff_base.specs.declared.error.TiffError.{TiffError}
use Rattle.tiff_base.specs.declared.error.TiffError.TheVariants.{IoError}
use Rattle.tiff_base.specs.declared.io.IoKind.TheVariants.{Device}
use Rattle.tiff_base.specs.declared.io.SinkFault.TheVariants as fault
use Rattle.tiff_base.specs.declared.tags.FileKind.TheVariants.{Classic}
use Rattle.tiff_base.specs.declared.tags.Predictor.TheVariants as predictor
use Rattle.tiff_encode.specs.declared.encoder.script.DirectoryJob.{DirectoryJob}
use Rattle.tiff_encode.specs.declared.encoder.script.DirectoryEnd.{DirectoryEnd}
use Rattle.tiff_encode.specs.declared.encoder.script.DirectoryEnd.TheVariants as end
use Rattle.tiff_encode.specs.declared.encoder.script.DirectoryStep.{DirectoryStep}
use Rattle.tiff_encode.specs.declared.encoder.script.Job.{Job}
use Rattle.tiff_encode.specs.declared.encoder.script.Job.TheVariants as job
use Rattle.tiff_encode.specs.declared.encoder.script.StepReply.{StepReply}
use Rattle.tiff_encode.specs.declared.encoder.script.EndReply.{EndReply}
use Rattle.tiff_encode.specs.declared.encoder.script.EndReply.TheVariants as last
use Rattle.tiff_encode.specs.declared.encoder.script.JobReply.{JobReply}
use Rattle.tiff_value.specs.FileBytes.{directory_bytes}
use Rattle.tiff_value.specs.Model.{FileContains, Grows}
use Rattle.tiff_value.specs.FileLaws.{AreListable}
use Rattle.tiff_value.specs.WriteOps.{Appended, Supplied, Listed, model_after}
use Rattle.tiff_encode.specs.Shows.{Image, Shows}
use Rattle.tiff_encode.specs.Machine.{FileState, OpenDirectory}
use Rattle.tiff_encode.specs.Calls.{Offsets, extra_directory, finish, new_directory}
use Rattle.tiff_encode.specs.Encoder.{HeaderFails}
use Rattle.tiff_encode.specs.Jobs as jobs
use Rattle.tiff_encode.specs.Jobs.{FileAndModel, Run, FinishedImage, IsDone}
use Rattle.tiff_value.specs.lemmas.File.WriteOps.{ops_stand, ops_grow}
use Rattle.test_definitions.specs.Encode.Calls.{header}
use Rattle.test_definitions.specs.Files.{gray_file}
use Rattle.test_definitions.specs.Encode.JobLists as s
use Rattle.test_definitions.specs.Encode.JobLists.{three_file}
use Rattle.test_definitions.specs.Encode.Chunks.{new_pixel, resolutions}
use Rattle.test_definitions.specs.Encode.Jobs.{first, run_begun}
use Rattle.test_definitions.specs.Encode.ImageJobs as tasks
use Rattle.test_definitions.proofs.OfEncode.Calls.{finish_told, finish_told_by}
use Rattle.test_definitions.proofs.Maps.{entries_puts, len_puts}
use Rattle.test_definitions.proofs.OnePixel.{supplied_short, supplied_long, image_ops, image_file, finishes, listable, image_model, image_stands, pixel_shown, shown_alike}
use Rattle.test_definitions.proofs.OfEncode.ImageJobs.{data_ran}
use Rattle.test_definitions.proofs.OfEncode.FileBytes.{directory_by}
use Rattle.tiff.proofs.OnLiterals.{tiff_on_literals}

-- ---- what the image does

ops_are : tasks.wrote.ops ≡ image_ops
unfolding tiff_on_literals
ops_are =
    ap (λ t. Appended (7 ∷ []) ∷ Supplied (supplied_short 8) ∷ Supplied (supplied_short 1)
    ∷ Supplied (supplied_long 24) ∷ Supplied (supplied_long 1) ∷ t.ops) finishes

next_is : tasks.wrote.next ≡ image_file
unfolding tiff_on_literals
next_is = ap (λ t. t.next) finishes

-- the state of the run after the image
abbrev after_image : FileAndModel
after_image = record { file = image_file; model = image_model }

same_end : tasks.after_data ≡ after_image
same_end =
    λ i. record { file = next_is i; model = model_after Classic (header ++ resolutions) tasks.after_begin.model (ops_are i) }

-- ---- what the directory does

abbrev padded : FileState
padded = record image_file { bytes = gray_file ++ (0 ∷ []) }

abbrev after_pad : FileAndModel
after_pad =
    record { file = padded; model = model_after Classic gray_file image_model (Appended (0 ∷ []) ∷ []) }

abbrev no_fields : OpenDirectory
no_fields = new_directory None false

pad_begins : IsDone (extra_directory image_file) (Ok no_fields) after_image after_pad
unfolding tiff_on_literals
pad_begins = record { ended = record { answer = refl; state = refl }; model = refl }

abbrev three_end : FileState
three_end = record image_file { bytes = three_file }

abbrev after_three : FileAndModel
after_three =
    record { file = three_end; model = model_after Classic padded.bytes after_pad.model (Listed no_fields.fields ∷ []) }

abbrev offset_200 : Offsets
offset_200 = record { pointer = 200; link = 202 }

ends_so : finish no_fields padded ≡ finish_told_by padded no_fields 0 []
ends_so = finish_told padded no_fields 0 [] (len_puts []) (entries_puts [])

three_ends : IsDone (finish no_fields padded) (Ok offset_200) after_pad after_three
three_ends = record {
  ended = record { answer = ap (λ t. t.answer) ends_so; state = sym (ap (λ t. t.next) ends_so) };
  model = ap (λ t. model_after Classic padded.bytes after_pad.model t.ops) (sym ends_so);
}

-- ---- the jobs

abbrev run_set : Run
run_set = jobs.run_after_job run_begun first (Ok last.Nothing) []

abbrev run_image : Run
run_image = jobs.run_after_job run_set after_image (Ok last.Nothing) tasks.data_images

abbrev run_three : Run
run_three = jobs.run_after_job run_image after_three (Ok (last.Offsets 200 202)) []

steps_by : (ss : List DirectoryStep) (rs : List (Result StepReply TiffError)) → ss ≡ [] → rs ≡ []
    → jobs.AllStepped jobs.DirectoryStepped after_pad no_fields ss rs after_pad no_fields
steps_by ss rs p q =
    let P : List DirectoryStep → List (Result StepReply TiffError) → Type 0 =
    λ x y. jobs.AllStepped jobs.DirectoryStepped after_pad no_fields x y after_pad no_fields in
    subst (λ x. P x rs) (sym p) (subst (λ y. P [] y) (sym q) (refl, refl))

ends_by : (e : DirectoryEnd) (r : Result EndReply TiffError) → e ≡ end.Finish
    → r ≡ Ok (last.Offsets 200 202)
    → jobs.DirectoryEnds after_pad no_fields e r after_three (Some offset_200)
ends_by e r p q =
    let P : DirectoryEnd → Result EndReply TiffError → Type 0 =
    λ x y. jobs.DirectoryEnds after_pad no_fields x y after_three (Some offset_200) in
    subst (λ x. P x r) (sym p) (subst (λ y. P end.Finish y) (sym q) (three_ends, refl))

directory_ran : (j : DirectoryJob) (r : JobReply) → j.chained ≡ false → j.parent ≡ None
    → j.steps.items ≡ [] → j.end ≡ end.Finish
    → r.steps.items ≡ [] → r.last ≡ Ok (last.Offsets 200 202)
    → jobs.JobRan run_image (job.Directory j) r run_three
directory_ran j r c p q e a l =
    subst (λ x. jobs.DirectoryRanBy run_image (jobs.named_parent run_image.offsets x) j r run_three) (sym p)
    (inr (record {
      first = no_fields;
      after_begin = after_pad;
      begins =
          subst (λ x. IsDone (jobs.open_directory x image_file) (Ok no_fields) after_image after_pad) (sym c) pad_begins;
      final = no_fields;
      after_steps = after_pad;
      steps = steps_by j.steps.items r.steps.items q a;
      offset = Some offset_200;
      after_end = after_three;
      ends = ends_by j.end r.last e l;
      state = ap (λ x. jobs.run_after_job run_image after_three x []) (sym l);
    }))

three_ran : (js : List Job) (rs : List JobReply) → s.AreThree js → s.AreReplies rs 200 202
    → jobs.JobsRun run_begun js rs run_three
three_ran js rs a b =
    let j = a.image in
    let set : jobs.JobRan run_begun (job.Predictor predictor.None) b.first run_set =
    (b.first_steps, (b.first_last, ap (λ x. jobs.run_after_job run_begun first x []) (sym b.first_last))) in
    let image =
    subst (λ x. jobs.ImageRan run_set j b.second (jobs.run_after_job run_set x (Ok last.Nothing) tasks.data_images)) same_end
    (data_ran run_set j b.second a.samples a.color a.width a.height a.steps a.given a.ending b.second_steps b.second_last) in
    let rest =
    directory_ran a.directory b.third a.chained a.parent a.no_steps a.finish b.third_steps b.third_last in
    subst (λ x. jobs.JobsRun run_begun x rs run_three) (sym a.are)
    (subst (λ y. jobs.JobsRun run_begun (job.Predictor predictor.None ∷ job.Image j
    ∷ job.Directory a.directory ∷ []) y run_three) (sym b.are)
    (run_set, (set, (run_image, (image, (run_three, (rest, refl)))))))

-- ---- what the file contains

-- a directory without fields can be written
none_listable : AreListable Classic no_fields.fields
none_listable = listable [] tt (lit< tt)

-- the file after the directory contains the model
pad_stands : FileContains Classic padded.bytes after_pad.model
pad_stands = ops_stand Classic gray_file image_model (Appended (0 ∷ []) ∷ []) image_stands (tt, tt)

three_bytes : padded.bytes ++ directory_bytes Classic no_fields.fields ≡ three_file
three_bytes = ap (λ d. padded.bytes ++ d) (directory_by Classic [])

three_stands : jobs.RunStands run_three
three_stands =
    subst (λ file. FileContains Classic file after_three.model) three_bytes
    (ops_stand Classic padded.bytes after_pad.model (Listed no_fields.fields
    ∷ []) pad_stands (none_listable, tt))

-- ---- what the file shows

-- the image at 25, in the model that has grown since then
abbrev seven : Image
seven = jobs.image_with new_pixel ((7 ∷ []) ∷ [])

is_seven : seven.sample_at 0 0 0 ≡ 7
unfolding tiff_on_literals
is_seven = refl

three_grown : Grows image_model after_three.model
three_grown =
    ops_grow Classic gray_file image_model (Appended (0 ∷ []) ∷ Listed no_fields.fields ∷ [])

one_pixel : Shows Classic three_file 25 seven
one_pixel =
    shown_alike three_file (pixel_shown three_file after_three.model three_grown three_stands) seven refl is_seven

three_shown : jobs.RunShows run_three
three_shown f (inl e) =
    subst (λ (x : FinishedImage). Shows Classic three_file x.offset x.image) (sym e) one_pixel
three_shown f (inr z) = absurd z

pub three_jobs : s.three_jobs
three_jobs = λ js rs a b. record {
  run = run_three;
  run_is = three_ran js rs a b;
  bytes_are = refl;
  failures_are = refl;
  stands = λ h. three_stands;
  shows = λ h. three_shown;
}

-- ---- jobs that aren't called

cut : HeaderFails Classic s.contents s.failures s.last_fault s.fresh (IoError Device)
cut = record {
  last = s.cut_sink;
  count = 3;
  within = lit< tt;
  bytes = refl;
  grew = refl;
  cause = fault.Device;
  tells = refl;
  answer = refl;
}

whole_header : s.header_whole
whole_header e r p =
    let l : length header ≡ length (take r.count header) = ap length (sym p ∙ r.bytes) in
    let t = length-take r.count header in
    let w : r.count < 8 = r.within in
    omega (arith, l, t, w)

pub header_cut : s.header_cut
unfolding cut
header_cut = (cut, refl)

pub header_cut_run : s.header_cut_run
header_cut_run = λ js. (refl, inr cut)

pub header_whole : s.header_whole
header_whole = whole_header

pub ruleset worked = (three_jobs)
