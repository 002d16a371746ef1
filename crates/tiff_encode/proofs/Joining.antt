-- How two calls in sequence end as one call.
use Rattle.std.proofs.Common.{◌≡◌, ℕ, ◌+◌, ◌≤◌, Bool, true, false, cond, List, [], ◌∷◌, ◌++◌, length, take, Option, Some, None, Result, Ok, Err, refl, ap, sym, ◌∙◌, inl, inr, subst, arith, append_assoc, append-nil}
use Rattle.std.proofs.Math.Seq.{take-append-add}
use Rattle.std.proofs.lemmas.List.{length-append, take-append-le}
use Rattle.tiff_base.specs.declared.error.TiffError.{TiffError}
use Rattle.tiff_base.specs.declared.tags.FileKind.{FileKind}
use Rattle.tiff_base.specs.declared.tags.Tag.{Tag}
use Rattle.tiff_base.specs.declared.tags.«Type».{«Type»}
use Rattle.tiff_base.specs.Field.{Field}
use Rattle.tiff_base.specs.Number.{le}
use Rattle.tiff_base.specs.SourceAndSink.{put}
use Rattle.tiff_value.specs.Buffer.{BufferRecord}
use Rattle.tiff_value.specs.Data.{FieldData}
use Rattle.tiff_value.specs.FileBytes.{offset_len, directory_bytes, padding}
use Rattle.tiff_value.specs.Model.{SuppliedField}
use Rattle.tiff_value.specs.WriteOps.{WriteOp, Appended, Supplied, Listed, Linked, all_appended}
use Rattle.tiff_value.specs.FileLaws.{AreAppending}
use Rattle.tiff_value.specs.Fields.{is_long, field_at, data_in, buffer_data}
use Rattle.tiff_encode.specs.Machine.{FileState, OpenDirectory, OpenImage, WriteOutcome, WriteCall, answers, gives, does, after_ops, by_cause, and_then, ◌>>=◌}
use Rattle.tiff_encode.specs.FileWrites.{file_with_bytes}
use Rattle.tiff_encode.specs.Causes.{end_of, begin_cause, write_tag_cause, write_buf_cause, write_entry_bytes_cause, write_data_cause, write_data_buf_cause}
use Rattle.tiff_encode.specs.Calls.{new_directory, pad, image_directory, extra_directory, with_field, placed_field, appends, with_chunk, appends_chunk, write_entry, write_entry_buf, write_entry_bytes, write_tag, write_tag_buf, write_data, write_data_buf}
use Rattle.tiff_encode.specs.Ends.{EndsAsDefined, HasBegun, CallFails, Ends}
use Rattle.tiff_encode.specs.Jobs.{open_directory}
use Rattle.tiff_value.specs.lemmas.File.WriteOps.{ops_append}
use Rattle.tiff_encode.proofs.Leaving.{ok_err}

-- ---- calls that append

-- a call that is not refused makes at least one change
abbrev pub HasOps : {A : Type 0} → Result A TiffError → List WriteOp → Type 0
HasOps (Ok x) [] = ⊥
HasOps (Ok x) (op ∷ ops) = Unit {0}
HasOps (Err e) ops = Unit {0}

-- The appended bytes are all that a call changes in the file. The call may change nothing.
pub record IsAdding {A : Type 0} (told : WriteOutcome A) (file : FileState) : Type 0 where
  pub next : told.next ≡ file_with_bytes file (all_appended file.kind told.ops)
  pub appending : AreAppending told.ops

-- The appended bytes are all that a call changes in the file. The call makes a change unless it is
-- refused.
pub record Adds {A : Type 0} (told : WriteOutcome A) (file : FileState) : Type 0 where
  pub next : told.next ≡ file_with_bytes file (all_appended file.kind told.ops)
  pub appending : AreAppending told.ops
  pub some : HasOps told.answer told.ops

pub adding : {A : Type 0} (told : WriteOutcome A) (file : FileState) → Adds told file
    → IsAdding told file
adding told file a = record { next = a.next; appending = a.appending }

-- ---- changes, and more changes after them

-- the bytes that two lists of changes append
pub appended_joined : (kind : FileKind) (ops more : List WriteOp)
    → all_appended kind (ops ++ more) ≡ all_appended kind ops ++ all_appended kind more
appended_joined kind [] more = refl
appended_joined kind (Appended xs ∷ ops) more =
    ap (λ ys. xs ++ ys) (appended_joined kind ops more)
    ∙ sym (append_assoc xs (all_appended kind ops) (all_appended kind more))
appended_joined kind (Supplied supplied ∷ ops) more = appended_joined kind ops more
appended_joined kind (Listed fields ∷ ops) more =
    ap (λ ys. directory_bytes kind fields ++ ys) (appended_joined kind ops more)
    ∙ sym (append_assoc (directory_bytes kind fields) (all_appended kind ops) (all_appended kind more))
appended_joined kind (Linked offset target ∷ ops) more = appended_joined kind ops more

-- a file with the bytes of two lists of changes
pub appended_both : (kind : FileKind) (bytes : List ℕ) (ops more : List WriteOp)
    → (bytes ++ all_appended kind ops) ++ all_appended kind more ≡ bytes
    ++ all_appended kind (ops ++ more)
appended_both kind bytes ops more =
    append_assoc bytes (all_appended kind ops) (all_appended kind more)
    ∙ ap (λ ys. bytes ++ ys) (sym (appended_joined kind ops more))

-- the number of bytes that two lists of changes append
pub appended_len : (kind : FileKind) (ops more : List WriteOp)
    → length (all_appended kind (ops ++ more)) ≡ length (all_appended kind ops)
    + length (all_appended kind more)
appended_len kind ops more =
    ap (λ xs. length xs) (appended_joined kind ops more)
    ∙ length-append (all_appended kind ops) (all_appended kind more)

-- the bytes of the first changes and a prefix of the bytes of the others
pub begun_both : (kind : FileKind) (bytes : List ℕ) (ops more : List WriteOp) (count : ℕ)
    → (bytes ++ all_appended kind ops) ++ take count (all_appended kind more)
    ≡ bytes ++ take (length (all_appended kind ops) + count) (all_appended kind (ops ++ more))
begun_both kind bytes ops more count =
    append_assoc bytes (all_appended kind ops) (take count (all_appended kind more))
    ∙ ap (λ ys. bytes ++ ys) (sym (take-append-add (all_appended kind ops) (all_appended kind more) count)
    ∙ ap (take (length (all_appended kind ops) + count)) (sym (appended_joined kind ops more)))

-- a prefix of the bytes of the first changes is a prefix of the bytes of all changes
begun_first : (kind : FileKind) (ops more : List WriteOp) (count : ℕ)
    → count ≤ length (all_appended kind ops)
    → take count (all_appended kind ops) ≡ take count (all_appended kind (ops ++ more))
begun_first kind ops more count l =
    sym (take-append-le count (all_appended kind ops) (all_appended kind more) l)
    ∙ ap (take count) (sym (appended_joined kind ops more))

-- if two lists of changes only append, none of all changes points a link
pub appending_joined : (ops more : List WriteOp) → AreAppending ops → AreAppending more
    → AreAppending (ops ++ more)
appending_joined [] more a b = b
appending_joined (Appended xs ∷ ops) more a b = appending_joined ops more a b
appending_joined (Supplied supplied ∷ ops) more a b = appending_joined ops more a b
appending_joined (Listed fields ∷ ops) more a b = appending_joined ops more a b
appending_joined (Linked offset target ∷ ops) more a b = absurd a

-- changes that only append have no link as their last change
pub ends_torn : (before : List WriteOp) (offset target : ℕ)
    → AreAppending (before ++ Linked offset target ∷ []) → ⊥
ends_torn [] offset target a = a
ends_torn (Appended xs ∷ before) offset target a = ends_torn before offset target a
ends_torn (Supplied supplied ∷ before) offset target a = ends_torn before offset target a
ends_torn (Listed fields ∷ before) offset target a = ends_torn before offset target a
ends_torn (Linked p t ∷ before) offset target a = a

-- two calls have begun if the first one makes a change
more_begun : {A B : Type 0} (x : A) (r : Result B TiffError) (ops more : List WriteOp)
    → (let done : Result A TiffError = Ok x in HasOps done ops) → HasBegun r (ops ++ more)
more_begun x (Ok y) ops more h = tt
more_begun x (Err e) [] more h = absurd h
more_begun x (Err e) (op ∷ ops) more h = tt

-- a call that has begun has also begun with other changes before it
begun_behind : {A : Type 0} (r : Result A TiffError) (ops more : List WriteOp) → HasBegun r more
    → HasBegun r (ops ++ more)
begun_behind (Ok x) ops more h = tt
begun_behind (Err e) [] more h = h
begun_behind (Err e) (op ∷ ops) more h = tt

more_ops : {A B : Type 0} (x : A) (r : Result B TiffError) (ops more : List WriteOp)
    → (let done : Result A TiffError = Ok x in HasOps done ops) → HasOps r (ops ++ more)
more_ops x (Ok y) [] more h = absurd h
more_ops x (Ok y) (op ∷ ops) more h = tt
more_ops x (Err e) ops more h = tt

-- ---- one call after another

module _ {X B : Type 0} (view : X → B) where
  -- If the second call ends in the file that the first call leaves, both calls in sequence end in
  -- the same way.
  behind_ends : (ops : List WriteOp) (told : WriteOutcome B) (r : Result X TiffError) (old new : FileState)
      → Ends view told r (file_with_bytes old (all_appended old.kind ops)) new
      → Ends view (after_ops ops told) r old new
  behind_ends ops told (Ok x) old new h = record { answer = h.answer; state = h.state }
  behind_ends ops told (Err e) old new h =
      let mid : FileState = file_with_bytes old (all_appended old.kind ops) in
      let n : ℕ = length (all_appended old.kind ops) in
      elim h as (λ _. CallFails (after_ops ops told) e old new) [
        | inl t ↦ inl (record { answer = t.answer; state = t.state })
        | inr h ↦ elim h [
          | inl c ↦ inr (inl (record {
            fresh = c.fresh;
            fault = c.fault;
            answer = c.answer;
            count = n + c.count;
            within =
                (let w = c.within in let l = appended_len old.kind ops told.ops in
                omega (arith, w, l));
            state =
                c.state ∙ ap (λ bytes. record old { bytes = bytes; failures = old.failures + 1; fault = Some c.fault }) (begun_both old.kind old.bytes ops told.ops c.count);
          }))
          | inr h ↦ elim h [
            | inl t ↦ inr (inr (inl (record {
              fresh = t.fresh;
              fault = t.fault;
              answer = t.answer;
              before = ops ++ t.before;
              offset = t.offset;
              target = t.target;
              last =
                  ap (λ ds. ops ++ ds) t.last ∙ sym (append_assoc ops t.before (Linked t.offset t.target ∷ []));
              count = t.count;
              within = t.within;
              state =
                  t.state ∙ ap (λ bytes. record old { bytes = put bytes t.offset (take t.count (le (offset_len old.kind) t.target)); failures = old.failures + 1; fault = Some t.fault }) (appended_both old.kind old.bytes ops t.before);
            })))
            | inr s ↦ inr (inr (inr (record {
              fresh = s.fresh;
              fault = s.fault;
              begun = begun_behind told.answer ops told.ops s.begun;
              count = n + s.count;
              within =
                  (let w = s.within in let l = appended_len old.kind ops told.ops in
                  omega (arith, w, l));
              state =
                  s.state ∙ ap (λ bytes. record old { bytes = bytes }) (begun_both old.kind old.bytes ops told.ops s.count);
            })))
          ]
        ]
      ]

module _ {A B : Type 0} (rest : A → WriteCall B) where
  -- the outcome of the first call
  abbrev first_told : Result A TiffError → List WriteOp → FileState → WriteOutcome A
  first_told r ops next = record { answer = r; ops = ops; next = next }

  -- an error of the first call as the error of both calls
  abbrev fault_or : TiffError → Result A TiffError → Result B TiffError
  fault_or e (Ok x) = Err e
  fault_or e (Err f) = Err f

  -- If the first call fails, both calls in sequence fail.
  first_fails : (r : Result A TiffError) (ops : List WriteOp) (next : FileState) (e : TiffError)
      (old new : FileState)
      → AreAppending ops → HasOps r ops → CallFails (first_told r ops next) e old new
      → CallFails (and_then r ops next rest) e old new
  first_fails (Err f) ops next e old new a d h =
      let told : WriteOutcome B = record { answer = Err f; ops = ops; next = next } in
      elim h as (λ _. CallFails told e old new) [
        | inl t ↦ inl (record { answer = ap (fault_or e) t.answer; state = t.state })
        | inr h ↦ elim h [
          | inl c ↦ inr (inl c)
          | inr h ↦ elim h [
            | inl t ↦ inr (inr (inl t))
            | inr s ↦ inr (inr (inr (record {
              fresh = s.fresh;
              fault = s.fault;
              begun = s.begun;
              count = s.count;
              within = s.within;
              state = s.state;
            })))
          ]
        ]
      ]
  first_fails (Ok x) ops next e old new a d h =
      let second : WriteOutcome B = rest x next in
      elim h as (λ _. CallFails (after_ops ops second) e old new) [
        | inl t ↦ absurd (ok_err t.answer)
        | inr h ↦ elim h [
          | inl c ↦ inr (inl (record {
            fresh = c.fresh;
            fault = c.fault;
            answer = c.answer;
            count = c.count;
            within =
                (let w = c.within in let l = appended_len old.kind ops second.ops in
                omega (arith, w, l));
            state =
                c.state ∙ ap (λ xs. record old { bytes = old.bytes ++ xs; failures = old.failures + 1; fault = Some c.fault }) (begun_first old.kind ops second.ops c.count (let w = c.within in omega (arith, w)));
          }))
          | inr h ↦ elim h [
            | inl t ↦ absurd (ends_torn t.before t.offset t.target (subst (λ ds. AreAppending ds) t.last a))
            | inr s ↦ inr (inr (inr (record {
              fresh = s.fresh;
              fault = s.fault;
              begun = more_begun x second.answer ops second.ops d;
              count = s.count;
              within =
                  (let w = s.within in let l = appended_len old.kind ops second.ops in
                  omega (arith, w, l));
              state =
                  s.state ∙ ap (λ xs. record old { bytes = old.bytes ++ xs }) (begun_first old.kind ops second.ops s.count s.within);
            })))
          ]
        ]
      ]

  -- If the first call succeeds, both calls have the outcome of the second call.
  after_told : (r : Result A TiffError) (ops : List WriteOp) (next : FileState) (x : A)
      (mid new : FileState) (s : Result B TiffError)
      → r ≡ Ok x → mid ≡ next → EndsAsDefined (rest x mid) s new
      → EndsAsDefined (and_then r ops next rest) s new
  after_told r ops next x mid new s a m h =
      let t : EndsAsDefined (rest x next) s new = subst (λ f. EndsAsDefined (rest x f) s new) m h in
      let done : EndsAsDefined (after_ops ops (rest x next)) s new =
      record { answer = t.answer; state = t.state } in
      subst (λ q. EndsAsDefined (and_then q ops next rest) s new) (sym a) done

  -- both calls end as the second call ends
  after_ends : {X : Type 0} (view : X → B) (r : Result A TiffError) (ops : List WriteOp)
      (next : FileState) (x : A) (old mid new : FileState)
      (s : Result X TiffError) → next ≡ file_with_bytes old (all_appended old.kind ops) → r ≡ Ok x
      → mid ≡ next → Ends view (rest x mid) s mid new
      → Ends view (and_then r ops next rest) s old new
  after_ends view r ops next x old mid new s n a m h =
      let at_next : Ends view (rest x next) s next new =
      subst (λ f. Ends view (rest x f) s f new) m h in
      let at_grown : Ends view (rest x next) s (file_with_bytes old (all_appended old.kind ops)) new =
      subst (λ f. Ends view (rest x next) s f new) n at_next in
      let P : Result A TiffError → Type 0 = λ q. Ends view (and_then q ops next rest) s old new in
      subst P (sym a) (behind_ends view ops (rest x next) s old new at_grown)

  -- Two calls that only append are together a call that only appends.
  joined_adding : (r : Result A TiffError) (ops : List WriteOp) (next : FileState) (old : FileState)
      → IsAdding (first_told r ops next) old
      → ((x : A) → r ≡ Ok x → IsAdding (rest x next) next) → IsAdding (and_then r ops next rest) old
  joined_adding (Err e) ops next old a b = record { next = a.next; appending = a.appending }
  joined_adding (Ok x) ops next old a b =
      let second : WriteOutcome B = rest x next in
      let at_grown : IsAdding second (file_with_bytes old (all_appended old.kind ops)) =
      subst (λ f. IsAdding second f) a.next (b x refl) in
      record {
        next =
            at_grown.next ∙ ap (λ bytes. record old { bytes = bytes }) (appended_both old.kind old.bytes ops second.ops);
        appending = appending_joined ops second.ops a.appending at_grown.appending;
      }

  joined_some : (r : Result A TiffError) (ops : List WriteOp) (next : FileState) → HasOps r ops
      → HasOps (and_then r ops next rest).answer (and_then r ops next rest).ops
  joined_some (Err e) ops next d = tt
  joined_some (Ok x) ops next d =
      let second : WriteOutcome B = rest x next in more_ops x second.answer ops second.ops d

-- If the first call succeeds and the second call has an outcome, both calls have that outcome.
pub bind_told : {A B : Type 0} (call : WriteCall A) (rest : A → WriteCall B) (x : A)
    (r : Result B TiffError) (old mid new : FileState)
    → EndsAsDefined (call old) (Ok x) mid → EndsAsDefined (rest x mid) r new
    → EndsAsDefined ((call >>= rest) old) r new
bind_told call rest x r old mid new h t =
    after_told rest (call old).answer (call old).ops (call old).next x mid new r h.answer h.state t

-- If the first call succeeds, both calls end as the second call ends.
pub bind_ends : {X A B : Type 0} (view : X → B) (call : WriteCall A) (rest : A → WriteCall B)
    (x : A) (r : Result X TiffError)
    (old mid new : FileState) → IsAdding (call old) old → EndsAsDefined (call old) (Ok x) mid
    → Ends view (rest x mid) r mid new
    → Ends view ((call >>= rest) old) r old new
bind_ends view call rest x r old mid new a h e =
    after_ends rest view (call old).answer (call old).ops (call old).next x old mid new r a.next h.answer h.state e

-- If the first call fails, both calls fail.
pub bind_fails : {A B : Type 0} (call : WriteCall A) (rest : A → WriteCall B) (e : TiffError)
    (old new : FileState) → Adds (call old) old
    → CallFails (call old) e old new → CallFails ((call >>= rest) old) e old new
bind_fails call rest e old new a h =
    first_fails rest (call old).answer (call old).ops (call old).next e old new a.appending a.some h

-- Two calls that only append are together a call that only appends.
pub bind_adding : {A B : Type 0} (call : WriteCall A) (rest : A → WriteCall B) (old : FileState)
    → IsAdding (call old) old
    → ((x : A) → (call old).answer ≡ Ok x → IsAdding (rest x (call old).next) (call old).next)
    → IsAdding ((call >>= rest) old) old
bind_adding call rest old a b =
    joined_adding rest (call old).answer (call old).ops (call old).next old a b

-- two calls make a change if the first call makes one
pub bind_adds : {A B : Type 0} (call : WriteCall A) (rest : A → WriteCall B) (old : FileState)
    → Adds (call old) old
    → ((x : A) → (call old).answer ≡ Ok x → IsAdding (rest x (call old).next) (call old).next)
    → Adds ((call >>= rest) old) old
bind_adds call rest old a b =
    let both : IsAdding ((call >>= rest) old) old =
    bind_adding call rest old (adding (call old) old a) b in
    record {
      next = both.next;
      appending = both.appending;
      some = joined_some rest (call old).answer (call old).ops (call old).next a.some;
    }

-- ---- calls that append

-- a call that only returns a result makes no change
pub answers_adding : {A : Type 0} (r : Result A TiffError) (file : FileState)
    → IsAdding (answers r file) file
answers_adding r file =
    record { next = ap (λ bytes. record file { bytes = bytes }) (sym (append-nil file.bytes)); appending = tt }

-- a call that is refused makes no change
pub refusal_adds : {A : Type 0} (e : TiffError) (file : FileState) → let told : WriteOutcome A =
    answers (Err e) file in Adds told file
refusal_adds e file =
    record { next = ap (λ bytes. record file { bytes = bytes }) (sym (append-nil file.bytes)); appending = tt; some = tt }

-- a call that its checks may refuse appends
pub caused_adds : {A : Type 0} (cause : Option TiffError) (call : WriteCall A) (file : FileState)
    → Adds (call file) file
    → Adds (by_cause cause call file) file
caused_adds None call file a = a
caused_adds (Some e) call file a = refusal_adds e file

pub caused_adding : {A : Type 0} (cause : Option TiffError) (call : WriteCall A) (file : FileState)
    → IsAdding (call file) file
    → IsAdding (by_cause cause call file) file
caused_adding None call file a = a
caused_adding (Some e) call file a = answers_adding (Err e) file

-- changes that only append
pub does_adds : (op : WriteOp) (ops : List WriteOp) (file : FileState) → AreAppending (op ∷ ops)
    → Adds (does (op ∷ ops) file) file
does_adds op ops file a = record {
  next = ap (λ bytes. record file { bytes = bytes }) (ops_append file.kind file.bytes (op ∷ ops) a);
  appending = a;
  some = tt;
}

-- changes that only append, followed by a returned value
done_adds : {A : Type 0} (x : A) (op : WriteOp) (ops : List WriteOp) (file : FileState)
    → AreAppending (op ∷ ops)
    → Adds ((does (op ∷ ops) >>= (λ _. gives x)) file) file
done_adds x op ops file a =
    let answer : Unit {0} → WriteCall _ = λ _. gives x in
    bind_adds (does (op ∷ ops)) answer file (does_adds op ops file a)
    (λ _ _. answers_adding (Ok x) (does (op ∷ ops) file).next)

-- opening a directory only appends
opens_adds : (cause : Option TiffError) (d : OpenDirectory) (file : FileState)
    → Adds (by_cause cause (pad >>= (λ _. gives d)) file) file
opens_adds cause d file =
    caused_adds cause (pad >>= (λ _. gives d)) file (done_adds d (Appended (padding (end_of file))) [] file tt)

pub begin_adds : (file : FileState) → Adds (image_directory file) file
unfolding image_directory
begin_adds file = opens_adds (begin_cause file) (new_directory (Some file.chain) true) file

pub extra_adds : (file : FileState) → Adds (extra_directory file) file
unfolding extra_directory
extra_adds file = opens_adds (begin_cause file) (new_directory None false) file

pub open_adds : (chained : Bool) (file : FileState) → Adds (open_directory chained file) file
open_adds true file = begin_adds file
open_adds false file = extra_adds file

-- appending bytes only appends
pub appends_adds : (bytes : List ℕ) (file : FileState) → Adds (appends bytes file) file
appends_adds bytes file = done_adds (end_of file) (Appended bytes) [] file tt

-- a chunk only appends, unless the checks refuse it
pub stored_adds : (cause : Option TiffError) (i : OpenImage) (stored : List ℕ) (file : FileState)
    → Adds (by_cause cause (appends_chunk i stored) file) file
stored_adds cause i stored file =
    let rest : ℕ → WriteCall OpenImage = λ offset. gives (with_chunk i offset (length stored)) in
    caused_adds cause (appends_chunk i stored) file
    (bind_adds (appends stored) rest file (appends_adds stored file)
    (λ offset _. answers_adding (Ok (with_chunk i offset (length stored))) (appends stored file).next))

-- writing a value only appends, by whether the value is too long for the entry
supplied_adds : (long : Bool) (bytes : List ℕ) (h : SuppliedField) (field : Field) (file : FileState)
    → Adds ((does (cond long (Appended bytes ∷ Supplied h ∷ []) (Supplied h ∷ []))
    >>= (λ _. gives field)) file) file
supplied_adds true bytes h field file = done_adds field (Appended bytes) (Supplied h ∷ []) file tt
supplied_adds false bytes h field file = done_adds field (Supplied h) [] file tt

pub placed_adds : (value : FieldData) (file : FileState) → Adds (placed_field value file) file
placed_adds value file =
    let field : Field = field_at file.kind (end_of file) value in
    supplied_adds (is_long file.kind value) value.bytes (record { field = field; bytes = value.bytes }) field file

-- `write_entry` only appends
pub entry_adds : (value : Result FieldData TiffError) (file : FileState)
    → Adds (write_entry value file) file
unfolding write_entry
entry_adds (Ok value) file =
    caused_adds (write_tag_cause file (Ok value)) (answers (Ok value)
    >>= placed_field) file (placed_adds value file)
entry_adds (Err e) file =
    caused_adds (write_tag_cause file (Err e)) (answers (Err e)
    >>= placed_field) file (refusal_adds e file)

-- `write_entry_bytes` only appends
pub entry_bytes_adds : (type : «Type») (bytes : List ℕ) (file : FileState)
    → Adds (write_entry_bytes type bytes file) file
unfolding write_entry_bytes
entry_bytes_adds type bytes file =
    let value : FieldData = data_in type bytes in
    caused_adds (write_entry_bytes_cause file type bytes) (placed_field value) file (placed_adds value file)

-- a call that only appends, and the field that is set to what it returns
set_adds : (call : WriteCall Field) (d : OpenDirectory) (t : Tag) (file : FileState)
    → Adds (call file) file
    → Adds ((call >>= (λ field. gives (with_field d t field))) file) file
set_adds call d t file a =
    bind_adds call (λ field. gives (with_field d t field)) file a
    (λ field _. answers_adding (Ok (with_field d t field)) (call file).next)

-- `write_tag` only appends
pub tag_adds : (d : OpenDirectory) (t : Tag) (value : Result FieldData TiffError) (file : FileState)
    → Adds (write_tag d t value file) file
unfolding write_tag
tag_adds d t value file = set_adds (write_entry value) d t file (entry_adds value file)

-- `write_entry_buf` appends
pub entry_buf_adds : (b : BufferRecord) (file : FileState) → Adds (write_entry_buf b file) file
unfolding write_entry_buf
entry_buf_adds b file =
    caused_adds (write_buf_cause file b) (placed_field (buffer_data b)) file
    (placed_adds (buffer_data b) file)

-- `write_tag_buf` appends
pub tag_buf_adds : (d : OpenDirectory) (t : Tag) (b : BufferRecord) (file : FileState)
    → Adds (write_tag_buf d t b file) file
unfolding write_tag_buf
tag_buf_adds d t b file = set_adds (write_entry_buf b) d t file (entry_buf_adds b file)

-- `write_data` appends
pub data_adds : (value : Result FieldData TiffError) (file : FileState)
    → Adds (write_data value file) file
unfolding write_data
data_adds (Ok value) file =
    caused_adds (write_data_cause file (Ok value)) (answers (Ok value)
    >>= (λ (known : FieldData). appends known.bytes)) file
    (appends_adds value.bytes file)
data_adds (Err e) file =
    caused_adds (write_data_cause file (Err e)) (answers (Err e)
    >>= (λ (known : FieldData). appends known.bytes)) file
    (refusal_adds e file)

-- `write_data_buf` appends
pub data_buf_adds : (b : BufferRecord) (file : FileState) → Adds (write_data_buf b file) file
unfolding write_data_buf
data_buf_adds b file =
    caused_adds (write_data_buf_cause file b) (appends b.bytes) file (appends_adds b.bytes file)
