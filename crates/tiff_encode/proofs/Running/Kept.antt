-- No step of a directory or an image moves the last link of the chain or changes the parent.
use Rattle.std.proofs.Common.{◌≡◌, ℕ, List, [], ◌∷◌, ◌++◌, append-nil, append_assoc, take, Option, Result, Ok, Err, refl, ap, sym, ◌∙◌, inl, inr, subst}
use Rattle.tiff_base.specs.declared.error.TiffError.{TiffError}
use Rattle.tiff_base.specs.declared.tags.Tag.{Tag}
use Rattle.tiff_value.specs.Buffer.{BufferRecord}
use Rattle.tiff_encode.specs.declared.encoder.script.DirectoryStep.{DirectoryStep}
use Rattle.tiff_encode.specs.declared.encoder.script.DirectoryStep.TheVariants as step
use Rattle.tiff_encode.specs.declared.encoder.script.StepReply.{StepReply}
use Rattle.tiff_encode.specs.declared.encoder.script.StepReply.TheVariants as reply
use Rattle.tiff_value.specs.FileLaws.{AreAppending}
use Rattle.tiff_encode.specs.Machine.{FileState, OpenDirectory, WriteOutcome, WriteCall, gives}
use Rattle.tiff_value.specs.WriteOps.{all_appended}
use Rattle.tiff_encode.specs.Calls.{with_field, write_entry, write_entry_buf, write_entry_bytes, write_tag, write_tag_buf, write_data, write_data_buf, extend_from}
use Rattle.tiff_encode.specs.JobValues.{value_data, buffer_in}
use Rattle.tiff_encode.specs.Jobs.{FileAndModel, IsDone, Refuses, Changes, Replies, ExtendStep, DirectoryStepped, AllStepped}
use Rattle.tiff_base.specs.lemmas.Slices.{ok_inj}
use Rattle.tiff_encode.proofs.Joining.{IsAdding, Adds, adding, ends_torn, entry_adds, entry_buf_adds, entry_bytes_adds, tag_adds, tag_buf_adds, data_adds, data_buf_adds}
use Rattle.tiff_encode.proofs.Data.Calls.{bind_answered}
use Rattle.tiff_encode.proofs.Data.Chunks.{tag_placed}

-- ---- files

-- the kind of a file and the offset of the chain's last link stay the same, and bytes are appended
-- at most
pub record IsSame (old new : FileState) : Type 0 where
  pub kind : new.kind ≡ old.kind
  pub chain : new.chain ≡ old.chain
  pub more : List ℕ
  pub bytes : new.bytes ≡ old.bytes ++ more

pub same_by : (old new : FileState) → new ≡ old → IsSame old new
same_by old new h = record {
  kind = ap (λ f. f.kind) h;
  chain = ap (λ f. f.chain) h;
  more = [];
  bytes = ap (λ f. f.bytes) h ∙ sym (append-nil old.bytes);
}

pub same_on : (old mid new : FileState) → IsSame old mid → IsSame mid new → IsSame old new
same_on old mid new a b = record {
  kind = b.kind ∙ a.kind;
  chain = b.chain ∙ a.chain;
  more = a.more ++ b.more;
  bytes = b.bytes ∙ ap (λ xs. xs ++ b.more) a.bytes ∙ append_assoc old.bytes a.more b.more;
}

module _ {A : Type 0} (told : WriteOutcome A) (old new : FileAndModel) (a : IsAdding told old.file) where
  told_same : new.file ≡ told.next → IsSame old.file new.file
  told_same h = record {
    kind = ap (λ f. f.kind) (h ∙ a.next);
    chain = ap (λ f. f.chain) (h ∙ a.next);
    more = all_appended old.file.kind told.ops;
    bytes = ap (λ f. f.bytes) (h ∙ a.next);
  }

  -- a call that only appends keeps the kind and the chain if it succeeds
  pub done_same : (r : Result A TiffError) → IsDone told r old new → IsSame old.file new.file
  done_same r d = told_same d.ended.state

  -- a call that only appends keeps the kind and the chain if it fails
  pub refused_same : (e : TiffError) → Refuses told e old new → IsSame old.file new.file
  refused_same e h = elim h as (λ _. IsSame old.file new.file) [
    | inl r ↦ told_same r.1.state
    | inr h ↦ elim h [
      | inl t ↦ absurd (ends_torn t.torn.before t.torn.offset t.torn.target (subst (λ ops. AreAppending ops) t.torn.last a.appending))
      | inr h ↦ elim h [
        | inl c ↦ record {
          kind = ap (λ f. f.kind) c.1.state;
          chain = ap (λ f. f.chain) c.1.state;
          more = take c.1.count (all_appended old.file.kind told.ops);
          bytes = ap (λ f. f.bytes) c.1.state;
        }
        | inr c ↦ record {
          kind = ap (λ f. f.kind) c.1.state;
          chain = ap (λ f. f.chain) c.1.state;
          more = take c.1.count (all_appended old.file.kind told.ops);
          bytes = ap (λ f. f.bytes) c.1.state;
        }
      ]
    ]
  ]

-- ---- steps of a directory or an image, by their replies

-- what a step keeps: the file, and the parent of what is open
pub record IsKept (old : FileAndModel) (before : Option ℕ) (new : FileAndModel)
    (after : Option ℕ) : Type 0 where
  pub file : IsSame old.file new.file
  pub parent : after ≡ before

module _ {S : Type 0} (parent : S → Option ℕ) where
  -- nothing is done
  pub nothing_kept : (old : FileAndModel) (s : S) (new : FileAndModel) (t : S) → new ≡ old → t ≡ s
      → IsKept old (parent s) new (parent t)
  nothing_kept old s new t h q =
      record { file = same_by old.file new.file (ap (λ f. f.file) h); parent = ap parent q }

  -- a call that only appends, and returns what is open with the same parent
  pub changed_kept : (call : WriteCall S) (s : S) (r : Result StepReply TiffError)
      (old new : FileAndModel) (t : S)
      → IsAdding (call old.file) old.file
      → ((x : S) → (call old.file).answer ≡ Ok x → parent x ≡ parent s)
      → Changes call s r old new t → IsKept old (parent s) new (parent t)
  changed_kept call s (Ok reply.Nothing) old new t a f h =
      record { file = done_same (call old.file) old new a (Ok t) h; parent = f t h.ended.answer }
  changed_kept call s (Ok (reply.Number n)) old new t a f h = absurd h
  changed_kept call s (Ok (reply.Written entry)) old new t a f h = absurd h
  changed_kept call s (Err e) old new t a f h =
      record { file = refused_same (call old.file) old new a e h.1; parent = ap parent h.0 }

  -- a call that only appends, and returns a value
  replied_kept : {A : Type 0} (view : A → StepReply) (call : WriteCall A) (s : S)
      (r : Result StepReply TiffError) (old new : FileAndModel)
      (t : S) → Adds (call old.file) old.file → Replies view call s r old new t
      → IsKept old (parent s) new (parent t)
  replied_kept view call s (Ok r) old new t a h =
      record { file = done_same (call old.file) old new (adding (call old.file) old.file a) (Ok h.1.0) h.1.1.1; parent = ap parent h.0 }
  replied_kept view call s (Err e) old new t a h =
      record { file = refused_same (call old.file) old new (adding (call old.file) old.file a) e h.1; parent = ap parent h.0 }

  -- steps that each keep the file and the parent keep them together
  pub all_kept : {A : Type 0} (Stepped : FileAndModel → S → A → Result StepReply TiffError → FileAndModel → S → Type 0)
      → ((old : FileAndModel) (s : S) (step : A) (r : Result StepReply TiffError) (new : FileAndModel) (t : S) → Stepped old s step r new t
      → IsKept old (parent s) new (parent t))
      → (old : FileAndModel) (s : S) (steps : List A) (rs : List (Result StepReply TiffError))
      (new : FileAndModel) (t : S)
      → AllStepped Stepped old s steps rs new t → IsKept old (parent s) new (parent t)
  all_kept Stepped one old s [] [] new t h = nothing_kept old s new t h.0 h.1
  all_kept Stepped one old s [] (r ∷ rs) new t h = absurd h
  all_kept Stepped one old s (step ∷ steps) [] new t h = absurd h
  all_kept Stepped one old s (step ∷ steps) (r ∷ rs) new t h =
      let first = one old s step r h.0 h.1.0 h.1.1.0 in
      let rest = all_kept Stepped one h.0 h.1.0 steps rs new t h.1.1.1 in
      record { file = same_on old.file h.0.file new.file first.file rest.file; parent = rest.parent ∙ first.parent }

-- ---- steps of a directory

tag_buf_parent : (d : OpenDirectory) (t : Tag) (b : BufferRecord) (file : FileState) (e : OpenDirectory)
    → (write_tag_buf d t b file).answer ≡ Ok e → e.parent ≡ d.parent
unfolding write_tag_buf
tag_buf_parent d t b file e h =
    let a = bind_answered (write_entry_buf b) (λ field. gives (with_field d t field)) file e h in
    ap (λ x. x.parent) (sym (ok_inj (with_field d t a.0) e (ap (λ told. told.answer) (sym a.1.1)
    ∙ h)))

extend_parent : (d : OpenDirectory) (fields : List _) → (extend_from d fields).parent ≡ d.parent
unfolding extend_from
extend_parent d fields = refl

extends_kept : (fields : List _) (d : OpenDirectory) (r : Result StepReply TiffError)
    (old new : FileAndModel) (e : OpenDirectory)
    → ExtendStep fields d r old new e → IsKept old d.parent new e.parent
extends_kept fields d (Ok reply.Nothing) old new e h =
    record { file = same_by old.file new.file (ap (λ s. s.file) h.1); parent = ap (λ x. x.parent) h.0 ∙ extend_parent d fields }
extends_kept fields d (Ok (reply.Number n)) old new e h = absurd h
extends_kept fields d (Ok (reply.Written entry)) old new e h = absurd h
extends_kept fields d (Err fault) old new e h = record {
  file = same_by old.file new.file (ap (λ s. s.file) h.1.1.1);
  parent = ap (λ x. x.parent) h.1.1.0 ∙ extend_parent d (take h.1.0 fields);
}

abbrev pub parent_of : OpenDirectory → Option ℕ
parent_of d = d.parent

pub step_kept : (old : FileAndModel) (d : OpenDirectory) (s : DirectoryStep)
    (r : Result StepReply TiffError) (new : FileAndModel) (e : OpenDirectory)
    → DirectoryStepped old d s r new e → IsKept old d.parent new e.parent
step_kept old d (step.WriteTag t value) r new e h =
    let v = value_data value in
    changed_kept parent_of (write_tag d t v) d r old new e (adding _ old.file (tag_adds d t v old.file)) (λ x q. (tag_placed d x t v old.file q).parent) h
step_kept old d (step.WriteTagBuf t b) r new e h =
    let v = buffer_in b in
    changed_kept parent_of (write_tag_buf d t v) d r old new e (adding _ old.file (tag_buf_adds d t v old.file)) (λ x q. tag_buf_parent d t v old.file x q) h
step_kept old d (step.WriteData value) r new e h =
    replied_kept parent_of reply.Number (write_data (value_data value)) d r old new e
    (data_adds (value_data value) old.file) h
step_kept old d (step.WriteDataBuf b) r new e h =
    replied_kept parent_of reply.Number (write_data_buf (buffer_in b)) d r old new e
    (data_buf_adds (buffer_in b) old.file) h
step_kept old d (step.WriteEntry value) r new e h =
    replied_kept parent_of reply.Written (write_entry (value_data value)) d r old new e
    (entry_adds (value_data value) old.file) h
step_kept old d (step.WriteEntryBuf b) r new e h =
    replied_kept parent_of reply.Written (write_entry_buf (buffer_in b)) d r old new e
    (entry_buf_adds (buffer_in b) old.file) h
step_kept old d (step.WriteEntryBytes type bytes) r new e h =
    replied_kept parent_of reply.Written (write_entry_bytes type bytes.items) d r old new e
    (entry_bytes_adds type bytes.items old.file) h
step_kept old d (step.ExtendFrom given) r new e h = extends_kept _ d r old new e h

pub steps_kept : (old : FileAndModel) (d : OpenDirectory) (steps : List DirectoryStep)
    (rs : List (Result StepReply TiffError)) (new : FileAndModel)
    (e : OpenDirectory) → AllStepped DirectoryStepped old d steps rs new e
    → IsKept old d.parent new e.parent
steps_kept old d steps rs new e h =
    all_kept parent_of DirectoryStepped step_kept old d steps rs new e h
