-- How the calls of an open directory end, and what they leave in the file.
use Rattle.std.proofs.Common.{◌≡◌, ℕ, ◌+◌, ◌^◌, ◌<◌, ◌⊎◌, Bool, true, false, cond, List, [], ◌∷◌, ◌++◌, length, take, Option, Some, None, Result, Ok, Err, refl, ap, sym, ◌∙◌, inl, inr, subst, arith, append-nil}
use Rattle.std.proofs.lemmas.Bool.{ltb-false}
use Rattle.std.proofs.lemmas.List.{length-append, take_at}
use Rattle.std.proofs.lemmas.List.Sums.{fold-append}
use Rattle.std.specs.Bool.{then_some}
use Rattle.std.specs.FinMap.{FinMap, empty, insert, len}
use Rattle.std.specs.Prelude.{nat_lt}
use Rattle.std.specs.Ordering.{nat_cmp}
use Rattle.tiff_base.specs.declared.error.TiffError.{TiffError}
use Rattle.tiff_base.specs.declared.io.SinkFault.{SinkFault}
use Rattle.tiff_base.specs.declared.tags.FileKind.{FileKind}
use Rattle.tiff_base.specs.declared.tags.Tag.{Tag}
use Rattle.tiff_base.specs.declared.tags.«Type».{«Type»}
use Rattle.tiff_base.specs.Field.{Field, AreEntries}
use Rattle.tiff_value.specs.Buffer.{BufferRecord}
use Rattle.tiff_value.specs.Data.{FieldData}
use Rattle.tiff_value.specs.Values.{IsValue}
use Rattle.tiff_value.specs.FileBytes.{offset_len, padding}
use Rattle.tiff_value.specs.Fields.{data_in, buffer_data, is_long, field_at}
use Rattle.tiff_value.specs.Model.{SuppliedField, Model, IsLink, FileContains}
use Rattle.tiff_value.specs.WriteOps.{WriteOp, Appended, Supplied, Listed, all_appended, model_after}
use Rattle.tiff_value.specs.FileLaws.{OpsFit}
use Rattle.tiff_encode.specs.Machine.{FileState, OpenDirectory, WriteOutcome, WriteCall, answers, gives, does, by_cause, ◌>>=◌}
use Rattle.tiff_encode.specs.Encoder.{AppendIsStopped, AppendIsCut}
use Rattle.tiff_encode.specs.FileWrites.{file_with_bytes}
use Rattle.tiff_encode.specs.Causes.{unless_ended, end_of, begin_cause, field_cause, write_tag_cause, write_buf_cause, write_entry_bytes_cause, write_data_cause, write_data_buf_cause, finish_cause}
use Rattle.tiff_encode.specs.Calls.{Offsets, offsets_of, links_to, chains, new_directory, pad, image_directory, extra_directory, with_field, placed_field, write_entry, write_tag, write_entry_buf, write_entry_bytes, write_tag_buf, appends, write_data, write_data_buf, extend_from, finish}
use Rattle.tiff_encode.specs.Ends.{EndsAsDefined, CallFails, Ends}
use Rattle.tiff_encode.specs.GivenValues.{Value, Given, Lent, Bytes, entry_of, tag_of}
use Rattle.tiff_encode.specs.Jobs.{open_directory}
use Rattle.tiff_encode.specs.Leaves.{IsGiven, Leaves, LeavesTorn, LeavesLinked}
use Rattle.tiff_encode.proofs.Calling.{cut_off, refused, uncaused, stopped_cause, fresh_cause}
use Rattle.tiff_encode.proofs.CallFits.{caused_fits, offset_len_8, placed_fits}
use Rattle.tiff_encode.proofs.Joining.{Adds, bind_fails, bind_told, data_adds, data_buf_adds, entry_adds, entry_buf_adds, entry_bytes_adds, open_adds}
use Rattle.tiff_encode.proofs.Keeping.{adds_leaves, failed_leaves}
use Rattle.tiff_encode.proofs.Leaving.{refused_leaves, ok_err, unended, in_order, passed, data_whole, data_short, finish_plain, finish_leaves}

-- ---- a directory is opened

abbrev opens : OpenDirectory → WriteCall OpenDirectory
opens d = pad >>= (λ _. gives d)

opens_told : (d : OpenDirectory) (old new : FileState) → old.fault ≡ None
    → new ≡ file_with_bytes old (padding (end_of old))
    → EndsAsDefined (by_cause (begin_cause old) (opens d) old) (Ok d) new
unfolding begin_cause
opens_told d old new f s =
    let view : OpenDirectory → OpenDirectory = λ x. x in
    uncaused view (begin_cause old) (opens d) (Ok d) old new (fresh_cause old.fault None f)
    (record { answer = refl; state = s })

opens_fails : (d : OpenDirectory) (e : TiffError) (old new : FileState)
    → AppendIsStopped e old new ⊎ AppendIsCut (padding (end_of old)) e old new
    → CallFails (by_cause (begin_cause old) (opens d) old) e old new
unfolding begin_cause
opens_fails d e old new h =
    let view : OpenDirectory → OpenDirectory = λ x. x in
    let told : WriteOutcome OpenDirectory = by_cause (begin_cause old) (opens d) old in
    elim h as (λ _. CallFails told e old new) [
      | inl s ↦ subst (λ n. CallFails told e old n) (sym s.same)
          (refused view (begin_cause old) (opens d) old e (stopped_cause old.fault None s.failed
          ∙ ap Some (sym s.fault)))
      | inr c ↦ uncaused view (begin_cause old) (opens d) (Err e) old new (fresh_cause old.fault None c.fresh)
          (inr (inl (cut_off (Appended (padding (end_of old)) ∷ []) e old new
          (subst (λ xs. AppendIsCut xs e old new) (sym (append-nil (padding (end_of old)))) c))))
    ]

-- the directory that a call opens, in the chain or outside it
abbrev opened : Bool → FileState → OpenDirectory
opened chained file = new_directory (then_some chained file.chain) chained

opening : (chained : Bool) (file : FileState)
    → open_directory chained file ≡ by_cause (begin_cause file) (opens (opened chained file)) file
unfolding image_directory extra_directory
opening true file = refl
opening false file = refl

pub opened_told : (chained : Bool) (fields : FinMap nat_cmp Field) (parent : Option ℕ)
    (old new : FileState)
    → (old.fault ≡ None) × (new ≡ file_with_bytes old (padding (end_of old))) → fields ≡ empty
    → parent ≡ then_some chained old.chain
    → EndsAsDefined (open_directory chained old) (Ok (record { fields = fields; parent = parent; chained = chained })) new
opened_told chained fields parent old new h f p =
    let d : OpenDirectory = record { fields = fields; parent = parent; chained = chained } in
    let is : d ≡ opened chained old =
    λ i. record { fields = f i; parent = p i; chained = chained } in
    subst (λ told. EndsAsDefined told (Ok d) new) (sym (opening chained old))
    (subst (λ x. EndsAsDefined (by_cause (begin_cause old) (opens (opened chained old)) old) (Ok x) new) (sym is) (opens_told (opened chained old) old new h.0 h.1))

pub opened_fails : (chained : Bool) (e : TiffError) (old new : FileState)
    → AppendIsStopped e old new ⊎ AppendIsCut (padding (end_of old)) e old new
    → CallFails (open_directory chained old) e old new
opened_fails chained e old new h =
    subst (λ told. CallFails told e old new) (sym (opening chained old)) (opens_fails (opened chained old) e old new h)

-- ---- a call, and a result made of its value

module _ {A B : Type 0} (g : A → B) (call : WriteCall A) where
  -- if the call succeeds, the result is made of its value
  given_told : (x : A) (old new : FileState) → EndsAsDefined (call old) (Ok x) new
      → EndsAsDefined ((call >>= (λ y. gives (g y))) old) (Ok (g x)) new
  given_told x old new h =
      bind_told call (λ y. gives (g y)) x (Ok (g x)) old new new h (record { answer = refl; state = refl })

-- ---- a call writes a value

-- nothing refuses a call that succeeds
pub uncaused_by : {A : Type 0} (cause : Option TiffError) (call : WriteCall A) (file : FileState) (x : A)
    → (by_cause cause call file).answer ≡ Ok x → cause ≡ None
uncaused_by None call file x h = refl
uncaused_by (Some e) call file x h = absurd (ok_err (sym h))

-- no sink error precedes a call that nothing refuses
pub fresh_by : (fault : Option SinkFault) (cause : Option TiffError)
    → unless_ended fault cause ≡ None → fault ≡ None
fresh_by None cause h = refl
fresh_by (Some f) cause h = absurd cc

pub tag_called : (d : OpenDirectory) (t : Tag) (v : Value) (file : FileState)
    → tag_of d t v file ≡ (entry_of v >>= (λ field. gives (with_field d t field))) file
unfolding write_tag write_tag_buf
tag_called d t (Given value) file = refl
tag_called d t v file = refl

-- writing a value only appends, and no sink error precedes a success
pub value_adds : (v : Value) (file : FileState) → Adds (entry_of v file) file
value_adds (Given value) file = entry_adds value file
value_adds (Lent b) file = entry_buf_adds b file
value_adds (Bytes type bytes) file = entry_bytes_adds type bytes file

value_fresh : (v : Value) (file : FileState) (field : Field) → (entry_of v file).answer ≡ Ok field
    → file.fault ≡ None
unfolding write_entry write_entry_buf write_entry_bytes write_tag_cause write_buf_cause write_entry_bytes_cause
value_fresh (Given value) file field h =
    fresh_by file.fault _ (uncaused_by (write_tag_cause file value) (λ f. (answers value
    >>= placed_field) f) file field h)
value_fresh (Lent b) file field h =
    fresh_by file.fault _ (uncaused_by (write_buf_cause file b) (placed_field (buffer_data b)) file field h)
value_fresh (Bytes type bytes) file field h =
    fresh_by file.fault _ (uncaused_by (write_entry_bytes_cause file type bytes) (placed_field (data_in type bytes)) file field h)

-- the call that sets the field succeeds
pub tag_told : (d : OpenDirectory) (t : Tag) (v : Value) (field : Field) (old new : FileState)
    → EndsAsDefined (entry_of v old) (Ok field) new
    → EndsAsDefined (tag_of d t v old) (Ok (with_field d t field)) new
tag_told d t v field old new h =
    subst (λ told. EndsAsDefined told (Ok (with_field d t field)) new) (sym (tag_called d t v old))
    (given_told (with_field d t) (entry_of v) field old new h)

pub tag_fails : (d : OpenDirectory) (t : Tag) (v : Value) (e : TiffError) (old new : FileState)
    → CallFails (entry_of v old) e old new → CallFails (tag_of d t v old) e old new
tag_fails d t v e old new h =
    subst (λ told. CallFails told e old new) (sym (tag_called d t v old))
    (bind_fails (entry_of v) (λ field. gives (with_field d t field)) e old new (value_adds v old) h)

-- ---- the earlier content of the file

-- what the opening of a directory leaves
opens_fits : (cause : Option TiffError) (d : OpenDirectory) (file : FileState) (m : Model)
    → OpsFit file.kind file.bytes m (by_cause cause (opens d) file).ops
opens_fits cause d file m = caused_fits cause (opens d) file m (λ _. (tt, tt))

pub opened_leaves : (chained : Bool) (r : Result OpenDirectory TiffError) (old new : FileState)
    (m : Model)
    → FileContains old.kind old.bytes m
    → Ends (λ (d : OpenDirectory). d) (open_directory chained old) r old new
    → Leaves (open_directory chained old) r old new m
opened_leaves chained r old new m s e =
    let d : OpenDirectory = opened chained old in
    adds_leaves (λ d. d) (open_directory chained old) r old new m (open_adds chained old)
    (subst (λ told. OpsFit old.kind old.bytes m told.ops) (sym (opening chained old)) (opens_fits (begin_cause old) d old m)) s e

-- what `write_data` and `write_data_buf` leave
data_fits : (value : Result FieldData TiffError) (file : FileState) (m : Model)
    → OpsFit file.kind file.bytes m (write_data value file).ops
unfolding write_data
data_fits (Ok value) file m =
    caused_fits (write_data_cause file (Ok value)) (answers (Ok value)
    >>= (λ (known : FieldData). appends known.bytes)) file m
    (λ _. (tt, tt))
data_fits (Err e) file m =
    caused_fits (write_data_cause file (Err e)) (answers (Err e)
    >>= (λ (known : FieldData). appends known.bytes)) file m (λ _. tt)

pub data_leaves : {X : Type 0} (view : X → ℕ) (r : Result X TiffError) (old new : FileState) (m : Model)
    (value : Result FieldData TiffError) → FileContains old.kind old.bytes m
    → Ends view (write_data value old) r old new → Leaves (write_data value old) r old new m
data_leaves view r old new m value s e =
    adds_leaves view (write_data value old) r old new m (data_adds value old) (data_fits value old m) s e

data_buf_fits : (b : BufferRecord) (file : FileState) (m : Model)
    → OpsFit file.kind file.bytes m (write_data_buf b file).ops
unfolding write_data_buf
data_buf_fits b file m =
    caused_fits (write_data_buf_cause file b) (appends b.bytes) file m (λ _. (tt, tt))

pub data_buf_leaves : {X : Type 0} (view : X → ℕ) (r : Result X TiffError) (old new : FileState) (m : Model)
    (b : BufferRecord) → FileContains old.kind old.bytes m
    → Ends view (write_data_buf b old) r old new → Leaves (write_data_buf b old) r old new m
data_buf_leaves view r old new m b s e =
    adds_leaves view (write_data_buf b old) r old new m (data_buf_adds b old) (data_buf_fits b old m) s e

-- ---- the changes of a call that writes a value fit

entry_fits : (value : Result FieldData TiffError) (file : FileState) (m : Model) → IsGiven value
    → end_of file < 2 ^ 64
    → OpsFit file.kind file.bytes m (write_entry value file).ops
unfolding write_entry write_tag_cause
entry_fits (Ok value) file m g l =
    caused_fits (write_tag_cause file (Ok value)) (answers (Ok value) >>= placed_field) file m
    (λ h. placed_fits file m value g.0 (unended file.fault (field_cause file value) h) l g.1)
entry_fits (Err e) file m g l =
    caused_fits (write_tag_cause file (Err e)) (answers (Err e) >>= placed_field) file m (λ _. tt)

buf_fits : (b : BufferRecord) (file : FileState) (m : Model) → length b.bytes < 2 ^ 64
    → end_of file < 2 ^ 64
    → OpsFit file.kind file.bytes m (write_entry_buf b file).ops
unfolding write_entry_buf write_buf_cause
buf_fits b file m n l =
    caused_fits (write_buf_cause file b) (placed_field (buffer_data b)) file m
    (λ h. placed_fits file m (buffer_data b) (data_whole b.data_type b.bytes)
    (in_order b.order (field_cause file (buffer_data b)) (unended file.fault _ h)) l (data_short b.data_type b.bytes n))

bytes_fit : (type : «Type») (bytes : List ℕ) (file : FileState) (m : Model) → length bytes < 2 ^ 64
    → end_of file < 2 ^ 64
    → OpsFit file.kind file.bytes m (write_entry_bytes type bytes file).ops
unfolding write_entry_bytes write_entry_bytes_cause
bytes_fit type bytes file m n l =
    let value : FieldData = data_in type bytes in
    caused_fits (write_entry_bytes_cause file type bytes) (placed_field value) file m
    (λ h. placed_fits file m value (data_whole type bytes) (passed _ _ _ (unended file.fault _ h)).1 l (data_short type bytes n))

-- The end of the file is a 64-bit number, unless a write failed.
abbrev EndFits : FileState → Type 0
EndFits file = file.fault ≡ None → end_of file < 2 ^ 64

-- if the end of a file after an append is a 64-bit number, the end before it is one
module _ {A : Type 0} (told : WriteOutcome A) (old new : FileState) (g : Adds told old)
    (s : new ≡ told.next) (f : old.fault ≡ None)
    (fits : EndFits new) where
  grown_short : end_of old + length (all_appended old.kind told.ops) < 2 ^ 64
  grown_short =
      let all : List ℕ = all_appended old.kind told.ops in
      let same : new ≡ file_with_bytes old all = s ∙ g.next in
      let sum : end_of new ≡ end_of old + length all =
      ap end_of same ∙ length-append old.bytes all in
      let short = fits (ap (λ file. file.fault) same ∙ f) in
      omega (arith, short, sum)

  old_short : end_of old < 2 ^ 64
  old_short = let h = grown_short in omega (arith, h)

-- the number of bytes of a written value is a 64-bit number
value_short : (kind : FileKind) (long : Bool) (bytes : List ℕ) (h : SuppliedField)
    → nat_lt (offset_len kind) (length bytes) ≡ long
    → length (all_appended kind (cond long (Appended bytes ∷ Supplied h ∷ []) (Supplied h ∷ [])
    ++ [])) < 2 ^ 64
    → length bytes < 2 ^ 64
value_short kind true bytes h t l = subst (λ xs. length xs < 2 ^ 64) (append-nil bytes) l
value_short kind false bytes h t l =
    let below = ltb-false (offset_len kind) (length bytes) t in
    let eight = offset_len_8 kind in
    omega (arith, below, eight)

-- a value that a call writes is valid data
entry_given : (value : Result FieldData TiffError) (type : «Type») (count : ℕ) (field : Field)
    (old new : FileState)
    → IsValue type count value → EndFits new → EndsAsDefined (write_entry value old) (Ok field) new
    → IsGiven value × (end_of old < 2 ^ 64)
unfolding write_entry
entry_given (Err e) type count field old new v fits h =
    let told : WriteOutcome Field = write_entry (Err e) old in
    (tt, old_short told old new (entry_adds (Err e) old) h.state (value_fresh (Given (Err e)) old field h.answer) fits)
entry_given (Ok d) type count field old new v fits h =
    let told : WriteOutcome Field = write_entry (Ok d) old in
    let fresh : old.fault ≡ None = value_fresh (Given (Ok d)) old field h.answer in
    let short = grown_short told old new (entry_adds (Ok d) old) h.state fresh fits in
    let call : WriteCall Field = answers (Ok d) >>= placed_field in
    let done : told ≡ placed_field d old =
    ap (λ c. by_cause c call old) (uncaused_by (write_tag_cause old (Ok d)) call old field h.answer) in
    let appended : length (all_appended old.kind (placed_field d old).ops) < 2 ^ 64 =
    subst (λ t. length (all_appended old.kind t.ops) < 2 ^ 64) done (omega (arith, short)) in (
      (
        v.2,
        value_short old.kind (is_long old.kind d) d.bytes (record { field = field_at old.kind (end_of old) d; bytes = d.bytes }) refl appended,
      ),
      old_short told old new (entry_adds (Ok d) old) h.state fresh fits,
    )

-- a value that a call may write: it is whole, and its bytes are not too many
abbrev pub IsAllowed : Value → Type 0
IsAllowed (Given value) = (type : «Type») × ((count : ℕ) × IsValue type count value)
IsAllowed (Lent b) = length b.bytes < 2 ^ 64
IsAllowed (Bytes type bytes) = length bytes < 2 ^ 64

value_fits : (v : Value) (field : Field) (old new : FileState) (m : Model) → IsAllowed v
    → EndFits new
    → EndsAsDefined (entry_of v old) (Ok field) new
    → OpsFit old.kind old.bytes m (entry_of v old).ops
value_fits (Given value) field old new m a fits h =
    let x = entry_given value a.0 a.1.0 field old new a.1.1 fits h in entry_fits value old m x.0 x.1
value_fits (Lent b) field old new m a fits h =
    buf_fits b old m a (old_short (write_entry_buf b old) old new (entry_buf_adds b old) h.state (value_fresh (Lent b) old field h.answer) fits)
value_fits (Bytes type bytes) field old new m a fits h =
    bytes_fit type bytes old m a
    (old_short (write_entry_bytes type bytes old) old new (entry_bytes_adds type bytes old) h.state (value_fresh (Bytes type bytes) old field h.answer) fits)

-- what a call leaves that writes a value
pub entry_left : (v : Value) (field : Field) (old new : FileState) (m : Model) → IsAllowed v
    → EndFits new
    → EndsAsDefined (entry_of v old) (Ok field) new → FileContains old.kind old.bytes m
    → FileContains old.kind new.bytes (model_after old.kind old.bytes m (entry_of v old).ops)
entry_left v field old new m a fits h s =
    let view : Field → Field = λ f. f in
    adds_leaves view (entry_of v old) (Ok field) old new m (value_adds v old)
    (value_fits v field old new m a fits h) s h

pub entry_leaves : (v : Value) (r : Result Field TiffError) (old new : FileState) (m : Model)
    → IsAllowed v → EndFits new
    → Ends (λ (field : Field). field) (entry_of v old) r old new → FileContains old.kind old.bytes m
    → Leaves (entry_of v old) r old new m
entry_leaves v (Ok field) old new m a fits h s = entry_left v field old new m a fits h s
entry_leaves v (Err e) old new m a fits h s =
    failed_leaves (entry_of v old) e old new m (value_adds v old) h s

-- ---- the end of a directory

finish_fresh : (d : OpenDirectory) (file : FileState) (offsets : Offsets)
    → (finish d file).answer ≡ Ok offsets → file.fault ≡ None
unfolding finish finish_cause
finish_fresh d file offsets h =
    let ops : List WriteOp = Listed d.fields ∷ links_to d.parent (end_of file) in
    let call : WriteCall Offsets =
    does ops >>= (λ _. chains d.chained (offsets_of file.kind (end_of file) (len d.fields))) in
    fresh_by file.fault _ (uncaused_by (finish_cause file d) call file offsets h)

-- a sink error differs from no error
no_fault : {fault : SinkFault} → let a : Option SinkFault = Some fault in a ≡ None → ⊥
no_fault h = cc

module _ (old new : FileState) (m : Model) (d : OpenDirectory) (a : AreEntries d.fields)
    (n : len d.fields < 2 ^ 64) (fits : EndFits old)
    (s : FileContains old.kind old.bytes m) (p : (offset : ℕ) → d.parent ≡ Some offset → IsLink old.kind m offset) where
  -- what the end of a directory leaves, by whether the sink fails before it
  ended_left : {X : Type 0} (view : X → Offsets) (fault : Option SinkFault) (r : Result X TiffError)
      → old.fault ≡ fault
      → Ends view (finish d old) r old new → LeavesLinked (finish d old) r old new m
  ended_left view None r f h = finish_leaves view r old new m d a n p (fits f) s h
  ended_left view (Some fault) (Ok x) f h =
      absurd (no_fault (sym f ∙ finish_fresh d old (view x) h.answer))
  ended_left view (Some fault) (Err e) f h =
      elim h as (λ _. FileContains old.kind new.bytes m ⊎ LeavesTorn (finish d old) e old new m) [
        | inl t ↦ inl (refused_leaves (finish d old) e old new m (finish_plain d old) s t)
        | inr h ↦ elim h [
          | inl c ↦ absurd (no_fault (sym f ∙ c.fresh))
          | inr h ↦ elim h [ inl t ↦ absurd (no_fault (sym f ∙ t.fresh)) | inr c ↦ absurd (no_fault (sym f ∙ c.fresh)) ]
        ]
      ]

  pub finish_left : {X : Type 0} (view : X → Offsets) (r : Result X TiffError)
      → Ends view (finish d old) r old new
      → LeavesLinked (finish d old) r old new m
  finish_left view r h = ended_left view old.fault r refl h

-- ---- fields copied from another directory

pub extended_none : (d : OpenDirectory) → d ≡ extend_from d []
unfolding extend_from
extended_none d = refl

pub extended_more : (old now : OpenDirectory) (done : List (ℕ × Field)) (tag : ℕ) (field : Field)
    → now ≡ extend_from old done
    → record now { fields = insert now.fields tag field }
    ≡ extend_from old (done ++ (tag, field) ∷ [])
unfolding extend_from
extended_more old now done tag field h =
    let set : FinMap nat_cmp Field → ℕ × Field → FinMap nat_cmp Field =
    λ fields e. insert fields e.0 e.1 in
    let more : OpenDirectory → OpenDirectory =
    λ d. record d { fields = insert d.fields tag field } in
    let having : FinMap nat_cmp Field → OpenDirectory = λ fields. record old { fields = fields } in
    ap more h ∙ sym (ap having (fold-append set old.fields done ((tag, field) ∷ [])))

-- the fields copied before a failure are the first ones of all fields
pub some_taken : (old now : OpenDirectory) (done rest given : List (ℕ × Field))
    → done ++ rest ≡ given → now ≡ extend_from old done
    → (count : ℕ) × (now ≡ extend_from old (take count given))
some_taken old now done rest given e h =
    (length done, h ∙ sym (ap (extend_from old) (ap (take (length done)) (sym e) ∙ take_at done rest (length done) refl)))
