-- The worked examples of `Encode.Jobs` hold.
use Rattle.std.specs.Prelude.{refl, zero, suc, ◌≤◌, min, take, drop}
use Rattle.std.specs.FinMap.{entries}
use Rattle.std.proofs.lemmas.List.{length-take}
use Rattle.std.proofs.Common.{◌≡◌, ℕ, ◌<◌, List, [], ◌∷◌, length, true, false, Option, Some, None, Result, Ok, Err, ap, sym, ◌∙◌, subst, inl, inr, arith, lit<}
use Rattle.tiff_base.specs.declared.error.TiffError.{TiffError}
use Rattle.tiff_base.specs.declared.error.TiffError.TheVariants.{UsageError}
use Rattle.tiff_base.specs.declared.error.UsageError.TheVariants.{ParentNotWritten}
use Rattle.tiff_base.specs.declared.io.SinkFault.TheVariants as fault
use Rattle.tiff_base.specs.declared.tags.FileKind.TheVariants.{Classic}
use Rattle.tiff_encode.specs.declared.encoder.script.StepReply.{StepReply}
use Rattle.tiff_base.specs.Field.{Field}
use Rattle.tiff_value.specs.WriteOps.{Appended, Listed, model_after}
use Rattle.tiff_encode.specs.Machine.{FileState, WriteOutcome}
use Rattle.tiff_encode.specs.Calls.{Offsets, new_directory, image_directory, finish, extend_from}
use Rattle.tiff_encode.specs.Jobs as jobs
use Rattle.tiff_encode.specs.Jobs.{FileAndModel, IsDone}
use Rattle.test_definitions.specs.OneValue.{long_field}
use Rattle.test_definitions.proofs.Maps.{entries_puts, len_puts}
use Rattle.test_definitions.proofs.OfEncode.Calls.{finish_told, finish_told_by}
use Rattle.tiff_encode.specs.declared.encoder.script.DirectoryStep.{DirectoryStep}
use Rattle.tiff_encode.specs.declared.encoder.script.DirectoryEnd.{DirectoryEnd}
use Rattle.tiff_encode.specs.declared.encoder.script.DirectoryEnd.TheVariants as end
use Rattle.tiff_encode.specs.declared.encoder.script.EndReply.{EndReply}
use Rattle.tiff_encode.specs.declared.encoder.script.EndReply.TheVariants as last
use Rattle.tiff_value.specs.Model.{header_model, with_link, with_directory, with_region}
use Rattle.test_definitions.proofs.OfEncode.Model.{unequal, stood_of}
use Rattle.test_definitions.specs.Encode.Jobs as s
use Rattle.test_definitions.specs.Encode.Jobs.{first}
use Rattle.test_definitions.specs.Encode.Causes.{new_file}
use Rattle.tiff.proofs.OnLiterals.{tiff_on_literals}

pub some_none : {A : Type 0} {x : A} → let a : Option A = Some x in a ≡ None → ⊥
some_none h = cc

-- the end of a directory that is refused
abbrev lost_told : WriteOutcome Offsets
lost_told = record { answer = Err (UsageError ParentNotWritten); ops = []; next = new_file Classic }

lost : finish (new_directory (Some 1000) true) (new_file Classic) ≡ lost_told
    → jobs.IsRefused (finish (new_directory (Some 1000) true) (new_file Classic))
    (UsageError ParentNotWritten) first first
lost h = (refl, record { answer = ap (λ t. t.answer) h; state = sym (ap (λ t. t.next) h) })

-- the end of a directory that is begun and finished without steps
abbrev empty_told : WriteOutcome Offsets
empty_told = finish_told_by (new_file Classic) (new_directory (Some 4) true) 0 []

empty_finish : finish (new_directory (Some 4) true) (new_file Classic) ≡ empty_told
empty_finish =
    finish_told (new_file Classic) (new_directory (Some 4) true) 0 [] (len_puts []) (entries_puts [])

abbrev after_begin : FileAndModel
after_begin =
    record { file = new_file Classic; model = with_region (header_model Classic) (record { offset = 8; bytes = [] }) }

empty_begins : IsDone (image_directory (new_file Classic)) (Ok (new_directory (Some 4) true)) first after_begin
unfolding tiff_on_literals
empty_begins = record { ended = record { answer = refl; state = refl }; model = refl }

empty_ends : IsDone (finish (new_directory (Some 4) true) (new_file Classic))
    (Ok (record { pointer = 8; link = 10 })) after_begin s.after_empty
empty_ends = record {
  ended = record { answer = ap (λ t. t.answer) empty_finish; state = refl };
  model =
      sym (ap (λ t. model_after Classic (new_file Classic).bytes after_begin.model t.ops) empty_finish
      ∙ ap (λ fields. with_link Classic (with_directory Classic after_begin.model (record { offset = 8; fields = fields })) 4 8) (stood_of []));
}

steps_by : (ss : List DirectoryStep) (rs : List (Result StepReply TiffError)) → ss ≡ [] → rs ≡ []
    → jobs.AllStepped jobs.DirectoryStepped after_begin (new_directory (Some 4) true) ss rs after_begin (new_directory (Some 4) true)
steps_by ss rs p q =
    let P : List DirectoryStep → List (Result StepReply TiffError) → Type 0 =
    λ x y. jobs.AllStepped jobs.DirectoryStepped after_begin (new_directory (Some 4) true) x y after_begin (new_directory (Some 4) true) in
    subst (λ x. P x rs) (sym p) (subst (λ y. P [] y) (sym q) (refl, refl))

ends_by : (e : DirectoryEnd) (r : Result EndReply TiffError) → e ≡ end.Finish
    → r ≡ Ok (last.Offsets 8 10)
    → jobs.DirectoryEnds after_begin (new_directory (Some 4) true) e r s.after_empty
    (Some (record { pointer = 8; link = 10 }))
ends_by e r p q =
    let P : DirectoryEnd → Result EndReply TiffError → Type 0 =
    λ x y. jobs.DirectoryEnds after_begin (new_directory (Some 4) true) x y s.after_empty
    (Some (record { pointer = 8; link = 10 })) in
    subst (λ x. P x r) (sym p) (subst (λ y. P end.Finish y) (sym q) (empty_ends, refl))

directory_by : s.directory_job
directory_by j r c p q e a l =
    subst (λ x. jobs.DirectoryRanBy s.run_begun (jobs.named_parent [] x) j r (jobs.run_after_job s.run_begun s.after_empty (Ok (last.Offsets 8 10)) [])) (sym p)
    (inr (record {
      first = new_directory (Some 4) true;
      after_begin = after_begin;
      begins =
          subst (λ x. IsDone (jobs.open_directory x (new_file Classic)) (Ok (new_directory (Some 4) true)) first after_begin) (sym c) empty_begins;
      final = new_directory (Some 4) true;
      after_steps = after_begin;
      steps = steps_by j.steps.items r.steps.items q a;
      offset = Some (record { pointer = 8; link = 10 });
      after_end = s.after_empty;
      ends = ends_by j.end r.last e l;
      state = ap (λ x. jobs.run_after_job s.run_begun s.after_empty x []) (sym l);
    }))

-- the tag of a list's first field
abbrev first_tag : List (ℕ × Field) → ℕ
first_tag [] = 0
first_tag (e ∷ es) = e.0

-- two given fields: whatever number of them is taken over, the first field isn't the second one
two_given : List (ℕ × Field)
two_given = (256, long_field 6) ∷ (257, long_field 7) ∷ []

first_taken : (count : ℕ) → first_tag (entries (extend_from (new_directory None false) (take count two_given)).fields) ≡ 257 → ⊥
unfolding tiff_on_literals two_given
first_taken zero h = unequal 0 257 (lit< tt) (sym (ap first_tag (entries_puts [])) ∙ h)
first_taken (suc zero) h =
    unequal 256 257 (lit< tt) (sym (ap first_tag (entries_puts ((256, long_field 6) ∷ []))) ∙ h)
first_taken (suc (suc zero)) h =
    unequal 256 257 (lit< tt) (sym (ap first_tag (entries_puts ((257, long_field 7) ∷ (256, long_field 6) ∷ []))) ∙ h)
first_taken (suc (suc (suc n))) h =
    unequal 256 257 (lit< tt) (sym (ap first_tag (entries_puts ((257, long_field 7) ∷ (256, long_field 6) ∷ []))) ∙ h)

pub taken_over : s.taken_over
unfolding tiff_on_literals
taken_over =
    λ new h. ap (λ d. entries d.fields) h
    ∙ entries_puts ((256, long_field 6) ∷ (256, long_field 5) ∷ [])

pub taken_later : s.taken_later
unfolding two_given
taken_later =
    λ new h e. first_taken h.1.0 (sym (ap (λ d. first_tag (entries d.fields)) h.1.1)
    ∙ ap first_tag e)

pub told : s.told
told = record { answer = refl; state = refl }

pub cut_whole : s.cut_whole
cut_whole = λ e told c.
    let xs : List ℕ = 1 ∷ 2 ∷ 3 ∷ [] in
    let l : 3 ≡ length (take c.count xs) =
    ap (λ (f : FileState). length (drop 8 f.bytes)) c.state in
    let t = length-take c.count xs in
    let w : c.count < 3 = c.within in
    let m : min c.count 3 ≤ c.count = omega arith in
    omega (arith, l, t, w, m)

pub torn_off : s.torn_off
torn_off =
    record { fresh = refl; fault = fault.OutOfMemory; answer = refl; before = Appended (1 ∷ []) ∷ []; offset = 4; target = 8; last = refl; count = 1; within = lit< tt; state = refl }

pub torn_directory : s.torn_directory
torn_directory = record {
  torn =
      record { fresh = refl; fault = fault.Device; answer = refl; before = Listed s.fields_5 ∷ []; offset = 4; target = 8; last = refl; count = 1; within = lit< tt; state = refl };
  holds = 8;
  model = refl;
}

pub one_step : s.one_step
unfolding tiff_on_literals
one_step = (first, (s.drawn, ((refl, (refl, refl)), (refl, refl))))

pub directory_job : s.directory_job
directory_job = directory_by

pub lost_end : s.lost_end
lost_end =
    (inl (lost (finish_told (new_file Classic) (new_directory (Some 1000) true) 0 [] (len_puts []) (entries_puts []))), refl)

pub ruleset worked = (one_step, directory_job, lost_end)
