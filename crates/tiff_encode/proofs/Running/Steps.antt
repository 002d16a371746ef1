-- The properties of a run of jobs hold after one more job.
use Rattle.std.proofs.Common.{◌≡◌, ℕ, ◌^◌, ◌<◌, Bool, true, false, ◌⊎◌, List, [], ◌∷◌, ◌++◌, Option, Some, None, Result, Ok, Err, Vec, refl, ap, sym, ◌∙◌, inl, inr, subst, append-nil}
use Rattle.std.specs.Prelude.{zero, suc, slice_get, length, if◌then◌else◌, OnErr}
use Rattle.std.specs.declared.alloc.Global.{Global}
use Rattle.tiff_base.specs.declared.error.TiffError.{TiffError}
use Rattle.tiff_base.specs.declared.tags.Predictor.{Predictor}
use Rattle.tiff_value.specs.ColorType.{ColorTypeRecord}
use Rattle.tiff_value.specs.ColorTypes.{color_type, inner_size}
use Rattle.tiff_encode.specs.declared.encoder.script.DirectoryEnd.{DirectoryEnd}
use Rattle.tiff_encode.specs.declared.encoder.script.DirectoryEnd.TheVariants as end
use Rattle.tiff_encode.specs.declared.encoder.script.ImageEnd.{ImageEnd}
use Rattle.tiff_encode.specs.declared.encoder.script.ImageEnd.TheVariants as iend
use Rattle.tiff_encode.specs.declared.encoder.script.DirectoryJob.{DirectoryJob}
use Rattle.tiff_encode.specs.declared.encoder.script.ImageJob.{ImageJob}
use Rattle.tiff_encode.specs.declared.encoder.script.DirectoryStep.{DirectoryStep}
use Rattle.tiff_encode.specs.declared.encoder.script.ImageStep.{ImageStep}
use Rattle.tiff_encode.specs.declared.encoder.script.StepReply.{StepReply}
use Rattle.tiff_encode.specs.declared.encoder.script.EndReply.{EndReply}
use Rattle.tiff_encode.specs.declared.encoder.script.EndReply.TheVariants as last
use Rattle.tiff_encode.specs.declared.encoder.script.Job.{Job}
use Rattle.tiff_encode.specs.declared.encoder.script.Job.TheVariants as job
use Rattle.tiff_encode.specs.declared.encoder.script.JobReply.{JobReply}
use Rattle.tiff_encode.specs.declared.encoder.settings.Compression.{Compression}
use Rattle.tiff_value.specs.Model.{In, IsLink, Model, FileContains, Grows}
use Rattle.tiff_value.specs.WriteOps.{model_after}
use Rattle.tiff_encode.specs.Machine.{FileState, OpenDirectory, OpenImage, WriteOutcome, WriteCall, gives, by_cause, ◌>>=◌}
use Rattle.tiff_encode.specs.Causes.{begin_cause, write_image_data_cause}
use Rattle.tiff_encode.specs.Calls as calls
use Rattle.tiff_encode.specs.Calls.{Offsets, new_directory, pad, image_directory, extra_directory, set_parent}
use Rattle.tiff_encode.specs.Ends.{EndsAsDefined, CallFails, EndsRefused}
use Rattle.tiff_encode.specs.Leaves.{LeavesRefused}
use Rattle.tiff_encode.specs.Open.{RecordsImage, HoldsEnded, model_by}
use Rattle.tiff_encode.specs.Held.{image_with}
use Rattle.tiff_encode.specs.Shows.{Shows}
use Rattle.tiff_encode.specs.JobValues.{cut_to}
use Rattle.tiff_encode.specs.Jobs.{FileAndModel, IsDone, Refuses, Drawn, Run, FinishedImage, DirectoryStepped, AllStepped, FinishesSilently, DirectoryEnds, ImageEnds, EndsWithin, JobWritesDataBy, DirectoryRan, DirectoryRanBy, ImageRan, JobRan, IsSet, run_after_job, with_parent, parent_of, named_parent, open_directory, ended_samples, images_at, job_images, are_apart, offsets_in, IsRefusedAtOnce, JobIsNotBegun}
use Rattle.tiff_encode.specs.Stepping.{StandsIfKnown, HasLink, Moves, StepsDraw, EndMoves, ImageHeld, IsHeld, IsSound, JobMoves, offsets_answered}
use Rattle.tiff_encode.specs.Running.{NamesLink, link_in, linked_from, DirectoryGoes, DirectoryGoesOn, ImageGoes, ImageGoesOn, DirectoryRunsOn, ImageRunsOn}
use Rattle.tiff_base.specs.lemmas.Slices.{ok_inj, some_inj, none_some}
use Rattle.tiff_value.specs.lemmas.File.WriteOps.{link_kept}
use Rattle.tiff_encode.proofs.Joining.{IsAdding, adding, open_adds}
use Rattle.tiff_encode.proofs.Moving.{grows_here, grows_on, Led, seen}
use Rattle.tiff_encode.proofs.Open.Begun.{begins_open}
use Rattle.tiff_encode.proofs.Open.Ends.{grown_ended}
use Rattle.tiff_encode.proofs.Data.Begun.{new_adding, new_is}
use Rattle.tiff_encode.proofs.Data.Calls.{cause_answered}
use Rattle.tiff_encode.proofs.Running.Kept.{IsSame, done_same, refused_same, steps_kept}
use Rattle.tiff_encode.proofs.Running.KeptImages.{image_steps_kept}

-- ---- links

-- a link stays a link in a file of the same kind whose model grows
pub link_on : (s t : FileAndModel) (q : ℕ) → t.file.kind ≡ s.file.kind → Grows s.model t.model
    → IsLink s.file.kind s.model q
    → IsLink t.file.kind t.model q
link_on s t q k g l =
    subst (λ kind. IsLink kind t.model q) (sym k) (link_kept s.file.kind s.model t.model q g l)

-- the last link of the chain stays a link if the chain stays the same
chain_on : (s t : FileAndModel) → IsSame s.file t.file → Grows s.model t.model
    → IsLink s.file.kind s.model s.file.chain
    → IsLink t.file.kind t.model t.file.chain
chain_on s t same g l =
    subst (λ q. IsLink t.file.kind t.model q) (sym same.chain) (link_on s t s.file.chain same.kind g l)

-- the link of a parent stays a link
parent_on : (known : Bool) (s t : FileAndModel) (before after : Option ℕ)
    → t.file.kind ≡ s.file.kind → Grows s.model t.model
    → after ≡ before → HasLink known s before → HasLink known t after
parent_on known s t before after k g same h q offset p =
    link_on s t offset k g (h q offset (sym same ∙ p))

-- each image that an end adds is held
at_held : (t : FileAndModel) (i : OpenImage) (offset : Option Offsets)
    (samples : Option (List (List ℕ))) (f : FinishedImage)
    → ((o : Offsets) (all : List (List ℕ)) → offset ≡ Some o → samples ≡ Some all
    → IsHeld t (record { offset = o.pointer; image = image_with i all }))
    → In f (images_at offset samples i) → IsHeld t f
at_held t i (Some o) (Some all) f h (inl q) = subst (λ x. IsHeld t x) (sym q) (h o all refl refl)
at_held t i (Some o) (Some all) f h (inr n) = absurd n
at_held t i (Some o) None f h n = absurd n
at_held t i None (Some all) f h n = absurd n
at_held t i None None f h n = absurd n

held_if : (apart : Bool) (t : FileAndModel) (i : OpenImage) (offset : Option Offsets)
    (samples : Option (List (List ℕ))) (f : FinishedImage)
    → (apart ≡ true → (o : Offsets) (all : List (List ℕ)) → offset ≡ Some o → samples ≡ Some all
    → IsHeld t (record { offset = o.pointer; image = image_with i all }))
    → In f (if apart then images_at offset samples i else []) → IsHeld t f
held_if true t i offset samples f h n = at_held t i offset samples f (h refl) n
held_if false t i offset samples f h n = absurd n

-- ---- from the steps to the end

module _ (known : Bool) (s : FileAndModel) (left new : FileState) (is_left : left ≡ new) where
  pub directory_goes : (first final : OpenDirectory) (j : DirectoryJob) (called : List DirectoryStep)
      (steps : Vec (Result StepReply TiffError) Global) (end : Result EndReply TiffError)
      (old mid : FileState) → called ≡ j.steps.items
      → Moves (λ s t. AllStepped DirectoryStepped s first called steps.items t final) old mid
      → EndMoves (λ s t offset. DirectoryEnds s final j.end end t offset) final.parent mid left
      (λ s t offset. Unit {0})
      → s.file ≡ old → StandsIfKnown known s → HasLink known s first.parent
      → DirectoryGoes first j (record { steps = steps; last = end }) known s new
  directory_goes first final j called steps end old mid is m e q k h =
      let a = m known s q k in
      let t : FileAndModel = a.0 in
      let kept = steps_kept s first called steps.items t final a.1.1.0 in
      let grows : Grows s.model t.model = a.1.1.1.1 in
      let b =
      e known t a.1.0 a.1.1.1.0 (parent_on known s t first.parent final.parent kept.file.kind grows kept.parent h) in
      record {
        final = final;
        after_steps = t;
        steps = subst (λ xs. AllStepped DirectoryStepped s first xs steps.items t final) is a.1.1.0;
        offset = b.1.0;
        after_end = b.0;
        ends = b.1.1.1.0;
        file = b.1.1.0 ∙ is_left;
        stands = b.1.1.1.1.0;
        grows = grows_on s.model t.model b.0.model grows b.1.1.1.1.1.0;
        own = b.1.1.1.1.1.1.0;
        chain = λ l. b.1.1.1.1.1.1.1.0 (chain_on s t kept.file grows l);
      }

  pub image_goes : (first final : OpenImage) (j : ImageJob) (called : List ImageStep)
      (steps : Vec (Result StepReply TiffError) Global)
      (end : Result EndReply TiffError) (old mid : FileState) → called ≡ j.steps.items
      → StepsDraw first called steps.items old mid final
      → EndMoves (λ s t offset. ImageEnds s final j.end end t offset) final.directory.parent mid left (ImageHeld final j.end)
      → s.file ≡ old → StandsIfKnown known s → HasLink known s first.directory.parent
      → ImageGoes first j (record { steps = steps; last = end }) known s new
  image_goes first final j called steps end old mid is drew e q k h =
      let m : StepsDraw first j.steps.items steps.items old mid final =
      subst (λ xs. StepsDraw first xs steps.items old mid final) is drew in
      let a = m known s [] q k in
      let t : FileAndModel = a.0 in
      let samples : List (List ℕ) = a.1.0 in
      let drawn : Drawn = record { image = final; samples = samples } in
      let kept =
      image_steps_kept s (record { image = first; samples = [] }) j.steps.items steps.items t drawn a.1.1.1.0 in
      let grows : Grows s.model t.model = a.1.1.1.1.1.0 in
      let b = e known t a.1.1.0 a.1.1.1.1.0
      (parent_on known s t first.directory.parent final.directory.parent kept.file.kind grows kept.parent h) in
      let offset : Option Offsets = b.1.0 in
      record {
        final = drawn;
        after_steps = t;
        steps = a.1.1.1.0;
        offset = offset;
        after_end = b.0;
        ends = b.1.1.1.0;
        file = b.1.1.0 ∙ is_left;
        stands = b.1.1.1.1.0;
        grows = grows_on s.model t.model b.0.model grows b.1.1.1.1.1.0;
        chain = λ l. b.1.1.1.1.1.1.1.0 (chain_on s t kept.file grows l);
        held = λ o f i.
            held_if (are_apart j.steps.items steps.items) b.0 final offset (ended_samples drawn j.end) f
            (λ apart p all u v.
            b.1.1.1.1.1.1.1.1 samples all p
            (subst (λ kind. RecordsImage kind t.model final samples) (sym kept.file.kind) (a.1.1.1.1.1.1 apart o)) u v)
            i;
      }

-- ---- one more job

module _ {A : Type 0} where
  pub in_last : (x : A) (xs : List A) (y : A) → In x (xs ++ y ∷ []) → In x xs ⊎ (x ≡ y)
  in_last x [] y (inl q) = inr q
  in_last x [] y (inr n) = absurd n
  in_last x (z ∷ xs) y (inl q) = inl (inl q)
  in_last x (z ∷ xs) y (inr i) =
      elim (in_last x xs y i) as (λ _. In x (z ∷ xs)
      ⊎ (x ≡ y)) [ inl j ↦ inl (inr j) | inr q ↦ inr q ]

  pub in_both : (x : A) (xs ys : List A) → In x (xs ++ ys) → In x xs ⊎ In x ys
  in_both x [] ys i = inr i
  in_both x (z ∷ xs) ys (inl q) = inl (inl q)
  in_both x (z ∷ xs) ys (inr i) =
      elim (in_both x xs ys i) as (λ _. In x (z ∷ xs)
      ⊎ In x ys) [ inl j ↦ inl (inr j) | inr q ↦ inr q ]

-- a held image stays held in a file of the same kind whose model grows
held_on : (s t : FileAndModel) (f : FinishedImage) → t.file.kind ≡ s.file.kind
    → Grows s.model t.model → IsHeld s f → IsHeld t f
held_on s t f k g h = record {
  image = h.image;
  samples = h.samples;
  held = subst (λ kind. HoldsEnded kind t.model h.image h.samples f.offset) (sym k)
      (grown_ended s.file.kind s.model t.model h.image h.samples f.offset g h.held);
  shown = λ file shows. subst (λ kind. Shows kind file f.offset f.image) (sym k)
      (h.shown file (subst (λ kind. Shows kind file f.offset (image_with h.image h.samples)) k shows));
}

-- what a job adds to a run
pub record Adding (known : Bool) (run : Run) (after : FileAndModel) (r : Result EndReply TiffError)
    (images : List FinishedImage) : Type 0 where
  pub kind : after.file.kind ≡ run.standing.file.kind
  pub grows : Grows run.standing.model after.model
  pub stands : StandsIfKnown known after
  pub chain : HasLink known after (Some after.file.chain)
  pub own : (o : Offsets) → offsets_in r ≡ Some o → IsLink after.file.kind after.model o.link
  pub held : (f : FinishedImage) → In f images → IsHeld after f

pub sound_more : (known : Bool) (run : Run) (after : FileAndModel) (r : Result EndReply TiffError)
    (images : List FinishedImage)
    → IsSound known run → Adding known run after r images
    → IsSound known (run_after_job run after r images)
sound_more known run after r images s a = record {
  stands = a.stands;
  chain = a.chain;
  offsets =
      λ o i. elim (in_last (Some o) run.offsets (offsets_in r) i) as
      (λ _. IsLink after.file.kind after.model o.link) [
        | inl j ↦ link_on run.standing after o.link a.kind a.grows (s.offsets o j)
        | inr q ↦ a.own o (sym q)
      ];
  images = λ f i. elim (in_both f images run.images i) as (λ _. IsHeld after f) [
    | inl j ↦ a.held f j
    | inr j ↦ held_on run.standing after f a.kind a.grows (s.images f j)
  ];
}

-- a run after one more job
abbrev pub RunOn : (Run → Run → Type 0) → JobReply → Bool → Run → FileState → Type 0
RunOn Ran r known run new =
    (after : Run) × ((after.standing.file ≡ new) × (Ran run after
    × (IsSound known after × (after.offsets ≡ run.offsets ++ offsets_in r.last ∷ []))))

run_on : (Ran : Run → Run → Type 0) (r : JobReply) (known : Bool) (run : Run) (new : FileState)
    (t : FileAndModel) (images : List FinishedImage)
    → t.file ≡ new → Ran run (run_after_job run t r.last images) → IsSound known run
    → Adding known run t r.last images → RunOn Ran r known run new
run_on Ran r known run new t images f h s a =
    (run_after_job run t r.last images, (f, (h, (sound_more known run t r.last images s a, refl))))

-- ---- jobs that fail at once

pub no_offsets : (r : Result EndReply TiffError) (e : TiffError) (o : Offsets) → r ≡ Err e
    → offsets_in r ≡ Some o → ⊥
no_offsets (Err f) e o h q = cc
no_offsets (Ok last.Nothing) e o h q = cc
no_offsets (Ok (last.Offsets pointer link)) e o h q = cc

-- a job that changes nothing keeps the properties of the run
pub refused_run : (e : TiffError) (r : JobReply) (known : Bool) (run : Run) → IsRefusedAtOnce e r
    → IsSound known run
    → IsSound known (run_after_job run run.standing r.last [])
refused_run e r known run a s = sound_more known run run.standing r.last [] s (record {
  kind = refl;
  grows = grows_here run.standing.model;
  stands = s.stands;
  chain = s.chain;
  own = λ o q. absurd (no_offsets r.last e o a.1 q);
  held = λ f i. absurd i;
})

-- A call begins a directory or an image, or it fails. The model still describes the file.
pub record Begun {A : Type 0} (call : WriteCall A) (old : FileState) (x : A) (mid : FileState) : Type 0 where
  pub told : EndsAsDefined (call old) (Ok x) mid
  pub leaves : (m : Model) → FileContains old.kind old.bytes m
      → FileContains old.kind mid.bytes (model_after old.kind old.bytes m (call old).ops)

pub record NotBegun {A : Type 0} (call : WriteCall A) (old : FileState) (e : TiffError)
    (new : FileState) : Type 0 where
  pub fails : CallFails (call old) e old new
  pub leaves : (m : Model) → FileContains old.kind old.bytes m → FileContains old.kind new.bytes m

-- a call that returns an error begins no directory and no image
pub not_begun_as : {A D : Type 0} (call : WriteCall A) (r : Result D TiffError) (e : TiffError)
    (old new : FileState) → r ≡ Err e
    → OnErr r (EndsRefused (call old) r old new × LeavesRefused r old new) → NotBegun call old e new
not_begun_as call (Ok x) e old new h p = absurd cc
not_begun_as call (Err f) e old new h p =
    let same : f ≡ e = cc in
    subst (λ x. NotBegun call old x new) same (record { fails = p.0; leaves = p.1 })

module _ {A : Type 0} (call : WriteCall A) (known : Bool) (s : FileAndModel)
    (a : IsAdding (call s.file) s.file) (k : StandsIfKnown known s) where
  begun_led : (old : FileState) (x : A) (mid : FileState) → s.file ≡ old → Begun call old x mid
      → Led (λ t. IsDone (call s.file) (Ok x) s t) known s mid
  begun_led old x mid q b =
      let view : A → A = λ y. y in
      let here = subst (λ o. Begun call o x mid) (sym q) b in
      seen view (call s.file) s mid known k a (Ok x) here.told here.leaves

  not_begun_led : (old : FileState) (e : TiffError) (new : FileState) → s.file ≡ old
      → NotBegun call old e new
      → Led (λ t. Refuses (call s.file) e s t) known s new
  not_begun_led old e new q b =
      let view : A → A = λ y. y in
      let here = subst (λ o. NotBegun call o e new) (sym q) b in
      seen view (call s.file) s new known k a (Err e) here.fails here.leaves

-- a job whose directory or image fails to begin
not_begun_runs : {A : Type 0} (call : WriteCall A) (Ran : Run → Run → Type 0) (e : TiffError)
    (r : JobReply) (old new : FileState) (known : Bool)
    (run : Run) → ((after : Run) → JobIsNotBegun (call run.standing.file) run r after
    → Ran run after)
    → IsAdding (call run.standing.file) run.standing.file → NotBegun call old e new
    → IsRefusedAtOnce e r → run.standing.file ≡ old
    → IsSound known run → RunOn Ran r known run new
not_begun_runs call Ran e r old new known run ran a b refused q s =
    let l = not_begun_led call known run.standing a s.stands old e new q b in
    let t : FileAndModel = l.0 in
    let same = refused_same (call run.standing.file) run.standing t a e l.1.1.0 in
    let grows : Grows run.standing.model t.model = l.1.1.1.1 in
    let more : Adding known run t r.last [] = record {
      kind = same.kind;
      grows = grows;
      stands = l.1.1.1.0;
      chain =
          λ h offset p. subst (λ n. IsLink t.file.kind t.model n) (some_inj t.file.chain offset p)
          (chain_on run.standing t same grows (s.chain h run.standing.file.chain refl));
      own = λ o q. absurd (no_offsets r.last e o refused.1 q);
      held = λ f i. absurd i;
    } in
    run_on Ran r known run new t [] l.1.0 (ran (run_after_job run t r.last []) (e, (t, (refused, (l.1.1.0, refl))))) s more

-- ---- directories

-- opening a directory only appends
pub open_adding : (chained : Bool) (file : FileState) → IsAdding (open_directory chained file) file
open_adding chained file = adding (open_directory chained file) file (open_adds chained file)

-- a job whose directory fails to begin
pub directory_refused : (j : DirectoryJob) (r : JobReply) (e : TiffError) (old new : FileState)
    (known : Bool) (run : Run)
    (parent : Option Offsets) → NotBegun (open_directory j.chained) old e new → IsRefusedAtOnce e r
    → run.standing.file ≡ old
    → IsSound known run → RunOn (λ run after. DirectoryRan run parent j r after) r known run new
directory_refused j r e old new known run parent b refused q s =
    not_begun_runs (open_directory j.chained) (λ run after. DirectoryRan run parent j r after) e r old new known run (λ after x. inl x)
    (open_adding j.chained run.standing.file) b refused q s

-- a directory that opens has the given parent
opened_parent : (cause : Option TiffError) (d e : OpenDirectory) (file : FileState)
    → (by_cause cause (pad >>= (λ _. gives d)) file).answer ≡ Ok e
    → e.parent ≡ d.parent
opened_parent cause d e file h =
    let call : WriteCall OpenDirectory = pad >>= (λ _. gives d) in
    let c = cause_answered cause call file e h in
    ap (λ x. x.parent) (sym (ok_inj d e (ap (λ told. told.answer) (sym c.1) ∙ h)))

-- the parent of a chained directory is the last link of the chain
pub chained_parent : (file : FileState) (d : OpenDirectory) → (image_directory file).answer ≡ Ok d
    → d.parent ≡ Some file.chain
unfolding image_directory
chained_parent file d h =
    opened_parent (begin_cause file) (new_directory (Some file.chain) true) d file h

-- an extra directory has no parent
pub extra_parent : (file : FileState) (d : OpenDirectory) → (extra_directory file).answer ≡ Ok d
    → d.parent ≡ None
unfolding extra_directory
extra_parent file d h = opened_parent (begin_cause file) (new_directory None false) d file h

open_parent : (chained known : Bool) (s t : FileAndModel) (d : OpenDirectory)
    → (open_directory chained s.file).answer ≡ Ok d
    → t.file.kind ≡ s.file.kind → Grows s.model t.model → HasLink known s (Some s.file.chain)
    → HasLink known t d.parent
open_parent true known s t d h k g l =
    parent_on known s t (Some s.file.chain) d.parent k g (chained_parent s.file d h) l
open_parent false known s t d h k g l =
    λ q offset p. absurd (none_some (sym (extra_parent s.file d h) ∙ p))

-- a parent that a job names
named_on : (known : Bool) (s t : FileAndModel) (link : Option ℕ) (d : OpenDirectory)
    → t.file.kind ≡ s.file.kind → Grows s.model t.model
    → HasLink known s link → HasLink known t d.parent → HasLink known t (linked_from link d).parent
named_on known s t None d k g h l = l
named_on known s t (Some offset) d k g h l =
    parent_on known s t (Some offset) (Some offset) k g refl h

parented_so : (parent : Option Offsets) (d : OpenDirectory)
    → with_parent parent d ≡ linked_from (link_in parent) d
unfolding set_parent
parented_so None d = refl
parented_so (Some offsets) d = refl

-- the offsets that an end returns are those of its directory
pub answered_offset : (s : FileAndModel) (d : OpenDirectory) (e : DirectoryEnd)
    (r : Result EndReply TiffError) (t : FileAndModel) (offset : Option Offsets)
    (o : Offsets) → DirectoryEnds s d e r t offset → offsets_in r ≡ Some o → offset ≡ Some o
answered_offset s d end.Finish (Ok (last.Offsets pointer link)) t offset o h q = h.1 ∙ q
answered_offset s d end.Finish (Ok last.Nothing) t offset o h q = absurd h
answered_offset s d end.Finish (Err e) t offset o h q = absurd cc
answered_offset s d end.Discard (Ok (last.Offsets pointer link)) t offset o h q = absurd h
answered_offset s d end.Discard (Ok last.Nothing) t offset o h q = absurd cc
answered_offset s d end.Discard (Err e) t offset o h q = absurd cc

-- a job that begins a directory and runs to its end
pub directory_runs : (link : Option ℕ) (j : DirectoryJob) (r : JobReply)
    (old mid left new : FileState) (d e : OpenDirectory) (known : Bool)
    (run : Run) (parent : Option Offsets) → Begun (open_directory j.chained) old d mid
    → e ≡ linked_from link d
    → DirectoryGoesOn e j r mid left → left ≡ new → new.kind ≡ old.kind → run.standing.file ≡ old
    → IsSound known run → link ≡ link_in parent
    → HasLink known run.standing link
    → RunOn (λ run after. DirectoryRan run parent j r after) r known run new
directory_runs link j r old mid left new d e known run parent b is goes is_left kind q s named l =
    let call : WriteCall OpenDirectory = open_directory j.chained in
    let a = open_adding j.chained run.standing.file in
    let begun = begun_led call known run.standing a s.stands old d mid q b in
    let first : FileAndModel = begun.0 in
    let same = done_same (call run.standing.file) run.standing first a (Ok d) begun.1.1.0 in
    let grows : Grows run.standing.model first.model = begun.1.1.1.1 in
    let its : HasLink known first d.parent =
    open_parent j.chained known run.standing first d begun.1.1.0.ended.answer same.kind grows s.chain in
    let linked : HasLink known first e.parent =
    subst (λ x. HasLink known first x.parent) (sym is) (named_on known run.standing first link d same.kind grows l its) in
    let g = goes known first begun.1.0 begun.1.1.1.0 linked in
    let t : FileAndModel = g.after_end in
    let more : Adding known run t r.last [] = record {
      kind = ap (λ f. f.kind) (g.file ∙ is_left) ∙ kind ∙ ap (λ f. f.kind) (sym q);
      grows = grows_on run.standing.model first.model t.model grows g.grows;
      stands = g.stands;
      chain =
          λ h offset p. subst (λ n. IsLink t.file.kind t.model n) (some_inj t.file.chain offset p)
          (g.chain (chain_on run.standing first same grows (s.chain h run.standing.file.chain refl)));
      own =
          λ o p. g.own o (answered_offset g.after_steps g.final j.end r.last t g.offset o g.ends p);
      held = λ f i. absurd i;
    } in
    let as_named : e ≡ with_parent parent d =
    is ∙ ap (λ x. linked_from x d) named ∙ sym (parented_so parent d) in
    run_on (λ run after. DirectoryRan run parent j r after) r known run new t [] (g.file ∙ is_left)
    (inr (record {
      first = d;
      after_begin = first;
      begins = begun.1.1.0;
      final = g.final;
      after_steps = g.after_steps;
      steps =
          subst (λ x. AllStepped DirectoryStepped first x j.steps.items r.steps.items g.after_steps g.final) as_named g.steps;
      offset = g.offset;
      after_end = t;
      ends = g.ends;
      state = refl {a = run_after_job run t r.last []};
    }))
    s more

-- ---- images

-- the end of an image returns no offsets
silent : (told : WriteOutcome Offsets) (r : Result EndReply TiffError) (s t : FileAndModel)
    (offset : Option Offsets)
    → FinishesSilently told r s t offset → offsets_in r ≡ None
silent told (Ok last.Nothing) s t offset h = refl
silent told (Ok (last.Offsets pointer link)) s t offset h = absurd h
silent told (Err e) s t offset h = refl

silent_within : (i : OpenImage) (samples : List ℕ) (r : Result EndReply TiffError)
    (s t : FileAndModel) → EndsWithin i samples r s t
    → offsets_in r ≡ None
silent_within i samples (Ok r) s t h = absurd h
silent_within i samples (Err e) s t h = refl

silent_by : (cause : Option TiffError) (i : OpenImage) (samples : List ℕ)
    (r : Result EndReply TiffError) (s t : FileAndModel)
    (offset : Option Offsets) → JobWritesDataBy cause i samples r s t offset → offsets_in r ≡ None
silent_by (Some cause) i samples r s t offset h = ap offsets_in h.0
silent_by None i samples r s t offset h = elim h as (λ _. offsets_in r ≡ None) [
  | inl w ↦ silent (calls.write_image_data i samples w.0 s.file) r s t offset w.1.1.1
  | inr w ↦ silent_within i samples r s t w.0
]

pub silent_end : (s : FileAndModel) (i : OpenImage) (e : ImageEnd) (r : Result EndReply TiffError)
    (t : FileAndModel) (offset : Option Offsets)
    → ImageEnds s i e r t offset → offsets_in r ≡ None
silent_end s i (iend.WriteData samples) r t offset h =
    let cut : List ℕ = cut_to i.size samples in
    elim h as (λ _. offsets_in r ≡ None) [
      | inl w ↦ silent_by (write_image_data_cause s.file i (length cut)) i cut r s t offset w
      | inr w ↦ ap offsets_in w.0
    ]
silent_end s i iend.Finish r t offset h = silent (calls.finish_image i s.file) r s t offset h
silent_end s i iend.Discard r t offset h = silent (calls.finish_image i s.file) r s t offset h

-- the parent of a new image is the last link of the chain
pub new_parent : (color : ColorTypeRecord) (size width height : ℕ) (file : FileState) (i : OpenImage)
    → (calls.new_image color size width height file).answer ≡ Ok i
    → i.directory.parent ≡ Some file.chain
new_parent color size width height file i h =
    let n =
    new_is color size width height file i h in ap (λ x. x.directory.parent) (sym n.1.0)
    ∙ n.1.1.parent

-- the call of a job
abbrev pub job_image : ImageJob → WriteCall OpenImage
job_image j = calls.new_image (color_type j.color) (inner_size j.color) j.width j.height

-- the call of a job, by its color type
pub job_image_is : (j : ImageJob) (color : ColorTypeRecord) (size : ℕ) → color ≡ color_type j.color
    → size ≡ inner_size j.color
    → calls.new_image color size j.width j.height ≡ job_image j
job_image_is j color size c n = λ k. calls.new_image (c k) (n k) j.width j.height

-- a job whose image fails to begin
pub image_refused : (j : ImageJob) (r : JobReply) (e : TiffError) (old new : FileState)
    (known : Bool) (run : Run)
    → NotBegun (job_image j) old e new → IsRefusedAtOnce e r → run.standing.file ≡ old
    → IsSound known run
    → RunOn (λ run after. ImageRan run j r after) r known run new
image_refused j r e old new known run b refused q s =
    not_begun_runs (job_image j) (λ run after. ImageRan run j r after) e r old new known run
    (λ after x. inl x)
    (new_adding (color_type j.color) (inner_size j.color) j.width j.height run.standing.file) b refused q s

-- a job that begins an image and runs to its end
pub image_runs : (j : ImageJob) (r : JobReply) (old mid left new : FileState) (i : OpenImage)
    (known : Bool) (run : Run)
    → j.width < 2 ^ 32 → j.height < 2 ^ 32
    → Begun (job_image j) old i mid → ImageGoesOn i j r mid left → left ≡ new → new.kind ≡ old.kind
    → run.standing.file ≡ old → IsSound known run
    → RunOn (λ run after. ImageRan run j r after) r known run new
image_runs j r old mid left new i known run wide high b goes is_left kind q s =
    let color : ColorTypeRecord = color_type j.color in
    let size : ℕ = inner_size j.color in
    let file : FileState = run.standing.file in
    let call : WriteCall OpenImage = job_image j in
    let a = new_adding color size j.width j.height file in
    let begun = begun_led call known run.standing a s.stands old i mid q b in
    let first : FileAndModel = begun.0 in
    let done : IsDone (call file) (Ok i) run.standing first = begun.1.1.0 in
    let same = done_same (call file) run.standing first a (Ok i) done in
    let grows : Grows run.standing.model first.model = begun.1.1.1.1 in
    let linked : HasLink known first i.directory.parent =
    parent_on known run.standing first (Some file.chain) i.directory.parent same.kind grows
    (new_parent color size j.width j.height file i done.ended.answer) s.chain in
    let g = goes known first begun.1.0 begun.1.1.1.0 linked in
    let t : FileAndModel = g.after_end in
    let new_directory : RecordsImage file.kind (model_by file run.standing.model (call file)) i [] =
    begins_open file run.standing.model j.color j.width j.height i wide high done.ended.answer in
    let holds : RecordsImage first.file.kind first.model i [] =
    subst (λ kind. RecordsImage kind first.model i []) (sym same.kind)
    (subst (λ m. RecordsImage file.kind m i []) (sym done.model) new_directory) in
    let images : List FinishedImage =
    job_images j.steps.items r.steps.items j.end g.final g.offset in
    let more : Adding known run t r.last images = record {
      kind = ap (λ f. f.kind) (g.file ∙ is_left) ∙ kind ∙ ap (λ f. f.kind) (sym q);
      grows = grows_on run.standing.model first.model t.model grows g.grows;
      stands = g.stands;
      chain =
          λ h offset p. subst (λ n. IsLink t.file.kind t.model n) (some_inj t.file.chain offset p)
          (g.chain (chain_on run.standing first same grows (s.chain h file.chain refl)));
      own =
          λ o p. absurd {A = IsLink t.file.kind t.model o.link} (none_some (sym (silent_end g.after_steps g.final.image j.end r.last t g.offset g.ends) ∙ p));
      held = λ f x. g.held holds f x;
    } in
    run_on (λ run after. ImageRan run j r after) r known run new t images (g.file ∙ is_left)
    (inr (record {
      first = i;
      after_begin = first;
      begins = done;
      final = g.final;
      after_steps = g.after_steps;
      steps = g.steps;
      offset = g.offset;
      after_end = t;
      ends = g.ends;
      state = refl {a = run_after_job run t r.last images};
    }))
    s more

-- ---- jobs

-- a setting changes neither the bytes nor the model
set_runs : (set : FileState → FileState) (j : Job) (r : JobReply) (old new : FileState)
    (known : Bool) (run : Run)
    → ((file : FileState) → IsSame file (set file) × ((set file).bytes ≡ file.bytes))
    → ((run after : Run) → IsSet set run r after → JobRan run j r after)
    → new ≡ set old → r.steps.items ≡ [] → r.last ≡ Ok last.Nothing → run.standing.file ≡ old
    → IsSound known run
    → RunOn (λ run after. JobRan run j r after) r known run new
set_runs set j r old new known run keeps is h none ok q s =
    let file : FileState = run.standing.file in
    let t : FileAndModel = record run.standing { file = set file } in
    let same : IsSame file t.file = (keeps file).0 in
    let grows : Grows run.standing.model t.model = grows_here run.standing.model in
    let more : Adding known run t r.last [] = record {
      kind = same.kind;
      grows = grows;
      stands = λ k. subst (λ kind. FileContains kind t.file.bytes t.model) (sym same.kind)
          (subst (λ b. FileContains file.kind b t.model) (sym (keeps file).1) (s.stands k));
      chain =
          λ k offset p. subst (λ n. IsLink t.file.kind t.model n) (some_inj t.file.chain offset p)
          (chain_on run.standing t same grows (s.chain k file.chain refl));
      own = λ o p. absurd (none_some (sym (ap offsets_in ok) ∙ p));
      held = λ f x. absurd x;
    } in
    let run_is : IsSet set run r (run_after_job run t r.last []) =
    (none, (ok, refl {a = run_after_job run t r.last []})) in
    run_on (λ run after. JobRan run j r after) r known run new t [] (ap set q
    ∙ sym h) (is run (run_after_job run t r.last []) run_is) s more

-- the offsets that jobs return, and those of one more job
answered_more : (earlier : List JobReply) (r : JobReply)
    → offsets_answered (earlier ++ r ∷ []) ≡ offsets_answered earlier ++ offsets_in r.last ∷ []
answered_more [] r = refl
answered_more (x ∷ earlier) r = ap (λ os. offsets_in x.last ∷ os) (answered_more earlier r)

-- A job that leads on from each run so far is one more job behind those with the earlier replies.
pub job_moves : (j : Job) (earlier : List JobReply) (r : JobReply) (old new : FileState)
    → ((known : Bool) (run : Run) → run.standing.file ≡ old → run.offsets ≡ offsets_answered earlier
    → IsSound known run
    → RunOn (λ run after. JobRan run j r after) r known run new)
    → JobMoves j earlier r old new
job_moves j earlier r old new f known run q o s =
    let x = f known run q o s in
    let more : x.0.offsets ≡ offsets_answered (earlier ++ r ∷ []) =
    x.1.1.1.1 ∙ ap (λ os. os ++ offsets_in r.last ∷ []) o ∙ sym (answered_more earlier r) in
    (x.0, (x.1.0, (x.1.1.0, (x.1.1.1.0, more))))

-- equal jobs run in the same way
pub moves_as : (j k : Job) (earlier : List JobReply) (r : JobReply) (old new : FileState) → j ≡ k
    → JobMoves k earlier r old new
    → JobMoves j earlier r old new
moves_as j k earlier r old new h m = subst (λ x. JobMoves x earlier r old new) (sym h) m

-- a job that sets the predictor or the compression
set_moves : (set : FileState → FileState) (j : Job) (earlier : List JobReply) (r : JobReply)
    (old new : FileState)
    → ((file : FileState) → IsSame file (set file) × ((set file).bytes ≡ file.bytes))
    → ((run after : Run) → IsSet set run r after → JobRan run j r after)
    → new ≡ set old → r.steps.items ≡ [] → r.last ≡ Ok last.Nothing → JobMoves j earlier r old new
set_moves set j earlier r old new keeps is h none ok =
    job_moves j earlier r old new (λ known run q o s. set_runs set j r old new known run keeps is h none ok q s)

pub predictor_moves : (p : Predictor) (earlier : List JobReply) (r : JobReply) (old new : FileState)
    → new ≡ calls.with_predictor p old
    → r.steps.items ≡ [] → r.last ≡ Ok last.Nothing → JobMoves (job.Predictor p) earlier r old new
predictor_moves p earlier r old new =
    set_moves (calls.with_predictor p) (job.Predictor p) earlier r old new
    (λ file. (record { kind = refl; chain = refl; more = []; bytes = sym (append-nil file.bytes) }, refl)) (λ run after x. x)

pub compression_moves : (c : Compression) (earlier : List JobReply) (r : JobReply) (old new : FileState)
    → new ≡ calls.with_compression c old → r.steps.items ≡ [] → r.last ≡ Ok last.Nothing
    → JobMoves (job.Compression c) earlier r old new
compression_moves c earlier r old new =
    set_moves (calls.with_compression c) (job.Compression c) earlier r old new
    (λ file. (record { kind = refl; chain = refl; more = []; bytes = sym (append-nil file.bytes) }, refl)) (λ run after x. x)

pub image_moves : (j : ImageJob) (earlier : List JobReply) (r : JobReply) (old new : FileState)
    → new.kind ≡ old.kind
    → ImageRunsOn j r old new → JobMoves (job.Image j) earlier r old new
image_moves j earlier r old new kind h =
    job_moves (job.Image j) earlier r old new (λ known run q o s. h kind known run q s)

-- an element found at an index is in the list
in_got : {A : Type 0} (xs : List A) (n : ℕ) (x : A) → slice_get xs n ≡ Some x → In x xs
in_got [] n x h = absurd (none_some h)
in_got (y ∷ xs) zero x h = inl (some_inj x y (sym h))
in_got (y ∷ xs) (suc n) x h = inr (in_got xs n x h)

parent_in : (offsets : List (Option Offsets)) (n : ℕ) (got : Option (Option Offsets)) (o : Offsets)
    → slice_get offsets n ≡ got
    → parent_of got ≡ Ok (Some o) → In (Some o) offsets
parent_in offsets n (Some (Some p)) o g h =
    in_got offsets n (Some o) (g ∙ ap Some (ok_inj (Some p) (Some o) h))
parent_in offsets n (Some None) o g h = absurd cc
parent_in offsets n None o g h = absurd cc

pub named_in : (offsets : List (Option Offsets)) (parent : Option ℕ) (o : Offsets)
    → named_parent offsets parent ≡ Ok (Some o)
    → In (Some o) offsets
named_in offsets None o h = absurd (none_some (ok_inj None (Some o) h))
named_in offsets (Some n) o h = parent_in offsets n (slice_get offsets n) o refl h

-- a parent's link is a link of the model
named_link : (known : Bool) (run : Run) (o : Option Offsets) (parent : Option ℕ)
    → named_parent run.offsets parent ≡ Ok o
    → IsSound known run → HasLink known run.standing (link_in o)
named_link known run None parent h s = λ q offset p. absurd (none_some p)
named_link known run (Some o) parent h s = λ q offset p.
    subst (λ n. IsLink run.standing.file.kind run.standing.model n) (some_inj o.link offset p)
    (s.offsets o (named_in run.offsets parent o h))

pub directory_moves : (j : DirectoryJob) (earlier : List JobReply) (r : JobReply) (link : Option ℕ)
    (old new : FileState)
    → NamesLink (offsets_answered earlier) j.parent (Ok link) → new.kind ≡ old.kind
    → DirectoryRunsOn link j r old new
    → JobMoves (job.Directory j) earlier r old new
directory_moves j earlier r link old new n kind h =
    job_moves (job.Directory j) earlier r old new
    (λ known run q o s.
    let parent : Option Offsets = n.0 in
    let named : named_parent run.offsets j.parent ≡ Ok parent =
    ap (λ os. named_parent os j.parent) o ∙ n.1.0 in
    let its : HasLink known run.standing link =
    subst (λ l. HasLink known run.standing l) (sym n.1.1) (named_link known run parent j.parent named s) in
    let x = h kind known run parent q s n.1.1 its in
    (x.0, (x.1.0, (subst (λ p. DirectoryRanBy run p j r x.0) (sym named) x.1.1.0, x.1.1.1))))

-- a directory whose parent isn't written
pub unnamed_moves : (j : DirectoryJob) (earlier : List JobReply) (r : JobReply) (e : TiffError)
    (file : FileState)
    → NamesLink (offsets_answered earlier) j.parent (Err e) → r.steps.items ≡ [] → r.last ≡ Err e
    → JobMoves (job.Directory j) earlier r file file
unnamed_moves j earlier r e file n none fault =
    job_moves (job.Directory j) earlier r file file
    (λ known run q o s.
    let named : named_parent run.offsets j.parent ≡ Err e =
    ap (λ os. named_parent os j.parent) o ∙ n in
    let after : Run = run_after_job run run.standing r.last [] in
    let refused : IsRefusedAtOnce e r = (none, fault) in (
      after,
      (
        q,
        (
          subst (λ p. DirectoryRanBy run p j r after) (sym named) (refused, refl {a = after}),
          (refused_run e r known run refused s, refl {a = after.offsets}),
        ),
      ),
    ))
