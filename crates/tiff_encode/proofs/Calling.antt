-- How the calls of a directory end.
use Rattle.std.proofs.Common.{◌≡◌, ℕ, ◌*◌, ◌^◌, ◌<◌, ◌≤◌, suc, Bool, true, false, cond, List, [], ◌∷◌, length, take, Option, Some, None, Result, Ok, Err, refl, ap, sym, ◌∙◌, inl, inr, ◌⊎◌, subst, arith, append-nil}
use Rattle.std.proofs.lemmas.Bool.{lt-ltb, le-ltb, ltb-true, ltb-false}
use Rattle.std.proofs.Math.Nat.{le-min, min-eq_left}
use Rattle.std.specs.Prelude.{◌&&◌, ◌-◌, ◌%◌, ◌/◌, ◌==◌, min, nat_lt, IsSome, not}
use Rattle.tiff_base.specs.declared.error.TiffError.{TiffError}
use Rattle.tiff_base.specs.declared.error.TiffError.TheVariants.{IoError, IntSizeError, UsageError, OutOfMemory}
use Rattle.tiff_base.specs.declared.io.IoKind.TheVariants.{Device}
use Rattle.tiff_base.specs.Answers.{IsCause}
use Rattle.tiff_base.specs.declared.error.UsageError.TheVariants.{WriterFailed, MismatchedEntryLength}
use Rattle.tiff_base.specs.declared.io.SinkFault.{SinkFault}
use Rattle.tiff_base.specs.declared.tags.ByteOrder.{ByteOrder}
use Rattle.tiff_base.specs.declared.tags.ByteOrder.TheVariants.{LittleEndian, BigEndian}
use Rattle.tiff_base.specs.declared.tags.FileKind.{FileKind}
use Rattle.tiff_base.specs.declared.tags.«Type».{«Type»}
use Rattle.tiff_base.specs.Field.{Field}
use Rattle.tiff_base.specs.Number.{le}
use Rattle.tiff_base.specs.Types.{type_size}
use Rattle.tiff_value.specs.Buffer.{BufferRecord}
use Rattle.tiff_value.specs.Data.{FieldData}
use Rattle.tiff_value.specs.Values.{IsValue, IsWritable, byte_count}
use Rattle.tiff_value.specs.FileBytes.{offset_len}
use Rattle.tiff_value.specs.Fields.{is_long, filled_field, field_at, data_in, buffer_data}
use Rattle.tiff_value.specs.WriteOps.{WriteOp, Appended, Supplied, all_appended}
use Rattle.tiff_encode.specs.Machine.{FileState, WriteOutcome, WriteCall, gives, does, by_cause, answers, ◌>>=◌}
use Rattle.tiff_encode.specs.Encoder.{AppendIsCut, AppendIsStopped}
use Rattle.tiff_encode.specs.FileWrites.{file_with_bytes}
use Rattle.tiff_encode.specs.Causes.{is_past, end_of, unless_ended, data_cause, order_cause, field_cause, write_tag_cause, write_buf_cause, write_entry_bytes_cause, write_data_cause, write_data_buf_cause}
use Rattle.tiff_encode.specs.Calls.{placed_field, appends, write_entry, write_entry_buf, write_entry_bytes, write_data, write_data_buf}
use Rattle.tiff_encode.specs.Ends.{EndsAsDefined, AppendFailed, HasBegun, CallFails, Ends}
use Rattle.tiff_encode.specs.Placing.{field_test, appended_for, Places}
use Rattle.tiff_encode.proofs.CallFits.{offset_len_8}

-- ---- errors that refuse a call

-- After an error of the sink, `WriterFailed` refuses each call. Without one, the other checks
-- decide.
pub stopped_cause : (fault : Option SinkFault) (c : Option TiffError) → IsSome fault
    → unless_ended fault c ≡ Some (UsageError WriterFailed)
stopped_cause None c s = absurd cc
stopped_cause (Some f) c s = refl

pub fresh_cause : (fault : Option SinkFault) (c : Option TiffError) → fault ≡ None
    → unless_ended fault c ≡ c
fresh_cause fault c f = ap (λ x. unless_ended x c) f

-- ---- ends

-- a sink that fails while it appends writes a prefix of the appended bytes
pub cut_off : (ops : List WriteOp) (e : TiffError) (old new : FileState)
    → AppendIsCut (all_appended old.kind ops) e old new
    → AppendFailed ops e old new
cut_off ops e old new c =
    record { fresh = c.fresh; fault = c.fault; answer = c.answer; count = c.count; within = c.within; state = c.state }

module _ {X Y : Type 0} (view : X → Y) where
  -- a call that is refused ends with the error that refuses it
  pub refused : (cause : Option TiffError) (call : WriteCall Y) (file : FileState) (e : TiffError)
      → cause ≡ Some e
      → Ends view (by_cause cause call file) (Err e) file file
  refused cause call file e c =
      let P : Option TiffError → Type 0 = λ k. Ends view (by_cause k call file) (Err e) file file in
      subst P (sym c) (inl (record { answer = refl; state = refl }))

  -- a call that is not refused ends as its body ends
  pub uncaused : (cause : Option TiffError) (call : WriteCall Y) (r : Result X TiffError)
      (old new : FileState) → cause ≡ None
      → Ends view (call old) r old new → Ends view (by_cause cause call old) r old new
  uncaused cause call r old new c h =
      let P : Option TiffError → Type 0 =
      λ k. Ends view (by_cause k call old) r old new in subst P (sym c) h

  -- a call that runs out of memory and changes nothing ends with that error
  pub wanting : (told : WriteOutcome Y) (e : TiffError) (file : FileState) → file.fault ≡ None
      → e ≡ OutOfMemory
      → HasBegun told.answer told.ops → Ends view told (Err e) file file
  wanting told e file f q b = inr (inr (inr (record {
    fresh = f;
    fault = q;
    begun = b;
    count = 0;
    within = omega arith;
    state = ap (λ bytes. record file { bytes = bytes }) (sym (append-nil file.bytes));
  })))

-- ---- a value that a call writes

-- the outcome of writing a value, by whether it is too long for the entry
abbrev placed_by : Bool → FieldData → WriteCall Field
placed_by long value file =
    let field : Field =
    record { field_type = value.field_type; count = value.count; value = cond long (le 8 (end_of file)) (filled_field value.bytes) } in
    let supplied : WriteOp = Supplied (record { field = field; bytes = value.bytes }) in
    (does (cond long (Appended value.bytes ∷ supplied ∷ []) (supplied ∷ []))
    >>= (λ _. gives field)) file

-- the field of a value, by whether it is too long for the entry
abbrev field_by : Bool → ℕ → FieldData → Field
field_by long end value =
    record { field_type = value.field_type; count = value.count; value = cond long (le 8 end) (filled_field value.bytes) }

-- writing a value succeeds
done_by : (long : Bool) (value : FieldData) (field : Field) (old new : FileState)
    → field ≡ field_by long (end_of old) value
    → new ≡ file_with_bytes old (cond long value.bytes [])
    → EndsAsDefined (placed_by long value old) (Ok field) new
done_by true value field old new f n = record { answer = ap Ok (sym f); state = n }
done_by false value field old new f n =
    record { answer = ap Ok (sym f); state = n ∙ ap (λ bytes. record old { bytes = bytes }) (append-nil old.bytes) }

-- the sink fails while it writes a value
cut_by : (long : Bool) (value : FieldData) (e : TiffError) (old new : FileState)
    → AppendIsCut (cond long value.bytes []) e old new
    → AppendFailed (placed_by long value old).ops e old new
cut_by true value e old new c =
    cut_off (placed_by true value old).ops e old new (subst (λ xs. AppendIsCut xs e old new) (sym (append-nil value.bytes)) c)
cut_by false value e old new c = absurd (let w : c.count < 0 = c.within in omega (arith, w))

pub placed_ends : (value : FieldData) (r : Result Field TiffError) (old new : FileState)
    → Places value old new r
    → Ends (λ field. field) (placed_field value old) r old new
placed_ends value (Ok field) old new p =
    done_by (is_long old.kind value) value field old new p.0 p.1
placed_ends value (Err e) old new p = inr (inl (cut_by (is_long old.kind value) value e old new p))

-- ---- a value that may be a text

-- a value that a field can have is valid data
pub writable : (given : Result FieldData TiffError) → IsWritable given
    → (d : FieldData) × (given ≡ Ok d)
writable (Ok d) w = (d, refl)
writable (Err e) w = absurd w

-- making the bytes of a valid value fails only if the call runs out of memory
pub wants : (given : Result FieldData TiffError) (e : TiffError) → IsWritable given
    → IsCause (IsWritable given) ⊥ e (given ≡ Err e) → e ≡ OutOfMemory
wants (Err f) e w h = absurd w
wants (Ok d) OutOfMemory w h = refl
wants (Ok d) (IoError Device) w h = absurd (h.device refl)
wants (Ok d) e w h = (let given = h.other refl in absurd cc)

-- a value is too long for its entry if and only if its length, limited to 64 bits, is too long
long_by : (long : Bool) (p n : ℕ) → nat_lt p n ≡ long → p ≤ 8
    → nat_lt p (min n (2 ^ 64 - 1)) ≡ nat_lt p n
long_by true p n e l =
    lt-ltb p (min n (2 ^ 64 - 1)) (le-min {k = suc p} (ltb-true p n e) (omega (arith, l))) ∙ sym e
long_by false p n e l =
    let below : n ≤ p = ltb-false p n e in
    ap (nat_lt p) (min-eq_left {n = n} {m = 2 ^ 64 - 1} (omega (arith, below, l)))

long_cut : (p n : ℕ) → p ≤ 8 → nat_lt p (min n (2 ^ 64 - 1)) ≡ nat_lt p n
long_cut p n l = long_by (nat_lt p n) p n refl l

-- the test of a field returns the error that refuses the call
pub test_is : (file : FileState) (kind : FileKind) (type : «Type») (count : ℕ) (d : FieldData)
    (end n len : ℕ) → kind ≡ file.kind
    → IsValue type count (Ok d) → end ≡ end_of file → n ≡ count → len ≡ byte_count count type
    → field_test kind end n len ≡ field_cause file d
unfolding field_test
test_is file kind type count d end n len k v at c l =
    let by : Bool → Bool → Bool → Option TiffError =
    λ past long far. cond past (Some IntSizeError) (cond (long && far) (Some IntSizeError) None) in
    let whole : count * type_size type ≡ length d.bytes =
    sym (v.2 ∙ (λ i. v.1 i * type_size (v.0 i))) in
    let long : nat_lt (offset_len kind) len ≡ nat_lt (offset_len file.kind) (length d.bytes) =
    (λ i. nat_lt (offset_len (k i)) (l i))
    ∙ long_cut (offset_len file.kind) (count * type_size type) (offset_len_8 file.kind)
    ∙ ap (nat_lt (offset_len file.kind)) whole in
    λ i. by (is_past (k i) ((c ∙ sym v.1) i)) (long i) (is_past (k i) (at i))

-- `test_is` of the data of a value, by what the value says of them
pub value_test : (file : FileState) (given : Result FieldData TiffError) (d : FieldData)
    → given ≡ Ok d → (type : «Type») (count : ℕ) → IsValue type count given
    → {kind : FileKind} {end n len : ℕ} → kind ≡ file.kind → end ≡ end_of file → n ≡ count
    → len ≡ byte_count count type → field_test kind end n len ≡ field_cause file d
value_test file given d g type count v {kind} {end} {n} {len} k at c l =
    test_is file kind type count d end n len k (subst (IsValue type count) g v) at c l

module _ {X : Type 0} (view : X → Field) where
  pub entry_stopped : (given : Result FieldData TiffError) (file : FileState) (e : TiffError)
      → IsSome file.fault → e ≡ UsageError WriterFailed
      → Ends view (write_entry given file) (Err e) file file
  unfolding write_entry write_tag_cause
  entry_stopped given file e s q =
      refused view (write_tag_cause file given) (λ f. (answers given
      >>= placed_field) f) file e (stopped_cause file.fault _ s ∙ ap Some (sym q))

  pub entry_refused : (given : Result FieldData TiffError) (file : FileState) (e : TiffError)
      → file.fault ≡ None → given ≡ Err e
      → Ends view (write_entry given file) (Err e) file file
  unfolding write_entry write_tag_cause
  entry_refused given file e f g =
      refused view (write_tag_cause file given) (λ f. (answers given >>= placed_field) f) file e
      (fresh_cause file.fault _ f ∙ ap (λ v. data_cause v (field_cause file)) g)

  pub entry_caused : (given : Result FieldData TiffError) (d : FieldData) (file : FileState)
      (e : TiffError) → file.fault ≡ None → given ≡ Ok d
      → field_cause file d ≡ Some e → Ends view (write_entry given file) (Err e) file file
  unfolding write_entry write_tag_cause
  entry_caused given d file e f g c =
      refused view (write_tag_cause file given) (λ f. (answers given >>= placed_field) f) file e
      (fresh_cause file.fault _ f ∙ ap (λ v. data_cause v (field_cause file)) g ∙ c)

  pub entry_uncaused : (given : Result FieldData TiffError) (d : FieldData) (r : Result X TiffError)
      (old new : FileState) → old.fault ≡ None
      → given ≡ Ok d → field_cause old d ≡ None → Ends view (placed_field d old) r old new
      → Ends view (write_entry given old) r old new
  unfolding write_entry write_tag_cause
  entry_uncaused given d r old new f g c h =
      let P : Result FieldData TiffError → Type 0 = λ v. Ends view (write_entry v old) r old new in
      subst P (sym g) (uncaused view (write_tag_cause old (Ok d)) (λ f. (answers (Ok d)
      >>= placed_field) f) r old new (fresh_cause old.fault _ f ∙ c) h)

-- ---- bytes that a call writes

-- the check of a byte order returns its error before any other check
order_some : (o : ByteOrder) (e : TiffError) (rest : Option TiffError) → order_cause o None ≡ Some e
    → order_cause o rest ≡ Some e
order_some LittleEndian e rest h = absurd cc
order_some BigEndian e rest h = h

order_none : (o : ByteOrder) (rest : Option TiffError) → order_cause o None ≡ None
    → order_cause o rest ≡ rest
order_none LittleEndian rest h = refl
order_none BigEndian rest h = absurd cc

module _ {X Y : Type 0} (view : X → Y) where
  -- a call ends in the same way if an equal check refuses it
  pub recaused : (c k : Option TiffError) (call : WriteCall Y) (r : Result X TiffError)
      (old new : FileState) → c ≡ k
      → Ends view (by_cause k call old) r old new → Ends view (by_cause c call old) r old new
  recaused c k call r old new q h =
      let P : Option TiffError → Type 0 =
      λ x. Ends view (by_cause x call old) r old new in subst P (sym q) h

-- a value that fits its entry is written there
pub placed_short : (kind : FileKind) (old : FileState) (value : FieldData) (field : Field)
    → kind ≡ old.kind → length value.bytes ≤ offset_len kind
    → field ≡ record { field_type = value.field_type; count = value.count; value = filled_field value.bytes }
    → (field ≡ field_at old.kind (end_of old) value)
    × (old ≡ file_with_bytes old (appended_for old.kind value))
placed_short kind old value field k l f =
    let short : is_long old.kind value ≡ false =
    subst (λ x. is_long x value ≡ false) k (le-ltb (offset_len kind) (length value.bytes) l) in (
      f ∙ ap (λ b. field_by b (end_of old) value) (sym short),
      ap (λ bytes. record old { bytes = bytes }) (sym (append-nil old.bytes))
          ∙ ap (λ b. file_with_bytes old (cond b value.bytes [])) (sym short),
    )

module _ {X : Type 0} (view : X → Field) where
  pub buf_stopped : (b : BufferRecord) (file : FileState) (e : TiffError) → IsSome file.fault
      → e ≡ UsageError WriterFailed
      → Ends view (write_entry_buf b file) (Err e) file file
  unfolding write_entry_buf write_buf_cause
  buf_stopped b file e s q =
      refused view (write_buf_cause file b) (placed_field (buffer_data b)) file e
      (stopped_cause file.fault _ s ∙ ap Some (sym q))

  pub buf_refused : (b : BufferRecord) (file : FileState) (e : TiffError) → file.fault ≡ None
      → order_cause b.order None ≡ Some e
      → Ends view (write_entry_buf b file) (Err e) file file
  unfolding write_entry_buf write_buf_cause
  buf_refused b file e f o =
      refused view (write_buf_cause file b) (placed_field (buffer_data b)) file e
      (fresh_cause file.fault _ f ∙ order_some b.order e (field_cause file (buffer_data b)) o)

  pub buf_ends : (b : BufferRecord) (r : Result X TiffError) (old new : FileState)
      → old.fault ≡ None → order_cause b.order None ≡ None
      → Ends view (by_cause (field_cause old (buffer_data b)) (placed_field (buffer_data b)) old) r old new → Ends view (write_entry_buf b old) r old new
  unfolding write_entry_buf write_buf_cause
  buf_ends b r old new f o h =
      recaused view (write_buf_cause old b) (field_cause old (buffer_data b))
      (placed_field (buffer_data b)) r old new
      (fresh_cause old.fault _ f ∙ order_none b.order (field_cause old (buffer_data b)) o) h

  pub bytes_stopped : (type : «Type») (bytes : List ℕ) (file : FileState) (e : TiffError)
      → IsSome file.fault → e ≡ UsageError WriterFailed
      → Ends view (write_entry_bytes type bytes file) (Err e) file file
  unfolding write_entry_bytes write_entry_bytes_cause
  bytes_stopped type bytes file e s q =
      refused view (write_entry_bytes_cause file type bytes) (placed_field (data_in type bytes)) file e (stopped_cause file.fault _ s ∙ ap Some (sym q))

  pub bytes_refused : (type : «Type») (bytes : List ℕ) (file : FileState) → file.fault ≡ None
      → (length bytes % type_size type == 0) ≡ false
      → Ends view (write_entry_bytes type bytes file) (Err (UsageError (MismatchedEntryLength type (length bytes)))) file file
  unfolding write_entry_bytes write_entry_bytes_cause
  bytes_refused type bytes file f q =
      refused view (write_entry_bytes_cause file type bytes) (placed_field (data_in type bytes)) file (UsageError (MismatchedEntryLength type (length bytes)))
      (fresh_cause file.fault _ f
      ∙ ap (λ b. cond (not b) (Some (UsageError (MismatchedEntryLength type (length bytes)))) (field_cause file (data_in type bytes))) q)

  pub bytes_ends : (type : «Type») (bytes : List ℕ) (r : Result X TiffError) (old new : FileState)
      → old.fault ≡ None
      → (length bytes % type_size type == 0) ≡ true
      → Ends view (by_cause (field_cause old (data_in type bytes)) (placed_field (data_in type bytes)) old) r old new
      → Ends view (write_entry_bytes type bytes old) r old new
  unfolding write_entry_bytes write_entry_bytes_cause
  bytes_ends type bytes r old new f q h =
      recaused view (write_entry_bytes_cause old type bytes) (field_cause old (data_in type bytes))
      (placed_field (data_in type bytes)) r old new
      (fresh_cause old.fault _ f
      ∙ ap (λ b. cond (not b) (Some (UsageError (MismatchedEntryLength type (length bytes)))) (field_cause old (data_in type bytes))) q) h

-- ---- bytes that a call only appends

pub appends_done : (bytes : List ℕ) (n : ℕ) (old new : FileState) → n ≡ end_of old
    → new ≡ file_with_bytes old bytes → EndsAsDefined (appends bytes old) (Ok n) new
appends_done bytes n old new at h = record { answer = ap Ok (sym at); state = h }

pub none_some : (o : Option SinkFault) → o ≡ None → IsSome o → ⊥
none_some None f s = cc
none_some (Some x) f s = cc

pub appends_fails : (bytes : List ℕ) (e : TiffError) (old new : FileState) → old.fault ≡ None
    → AppendIsStopped e old new ⊎ AppendIsCut bytes e old new
    → CallFails (appends bytes old) e old new
appends_fails bytes e old new f h = elim h as (λ _. CallFails (appends bytes old) e old new) [
  | inl s ↦ absurd (none_some old.fault f s.failed)
  | inr c ↦ inr (inl (cut_off (appends bytes old).ops e old new (subst (λ xs. AppendIsCut xs e old new) (sym (append-nil bytes)) c)))
]

module _ {X : Type 0} (view : X → ℕ) where
  pub data_stopped : (given : Result FieldData TiffError) (file : FileState) (e : TiffError)
      → IsSome file.fault → e ≡ UsageError WriterFailed
      → Ends view (write_data given file) (Err e) file file
  unfolding write_data write_data_cause
  data_stopped given file e s q =
      refused view (write_data_cause file given) (λ f. (answers given
      >>= (λ known. appends known.bytes)) f) file e
      (stopped_cause file.fault _ s ∙ ap Some (sym q))

  pub data_refused : (given : Result FieldData TiffError) (file : FileState) (e : TiffError)
      → file.fault ≡ None → given ≡ Err e
      → Ends view (write_data given file) (Err e) file file
  unfolding write_data write_data_cause
  data_refused given file e f g =
      refused view (write_data_cause file given) (λ f. (answers given
      >>= (λ known. appends known.bytes)) f) file e
      (fresh_cause file.fault _ f ∙ ap (λ v. data_cause v (λ _. None)) g)

  pub data_uncaused : (given : Result FieldData TiffError) (d : FieldData) (r : Result X TiffError)
      (old new : FileState) → old.fault ≡ None
      → given ≡ Ok d → Ends view (appends d.bytes old) r old new
      → Ends view (write_data given old) r old new
  unfolding write_data write_data_cause
  data_uncaused given d r old new f g h =
      let P : Result FieldData TiffError → Type 0 = λ v. Ends view (write_data v old) r old new in
      subst P (sym g) (uncaused view (write_data_cause old (Ok d)) (λ f. (answers (Ok d)
      >>= (λ known. appends known.bytes)) f) r old new
      (fresh_cause old.fault _ f) h)

  pub data_buf_stopped : (b : BufferRecord) (file : FileState) (e : TiffError) → IsSome file.fault
      → e ≡ UsageError WriterFailed
      → Ends view (write_data_buf b file) (Err e) file file
  unfolding write_data_buf write_data_buf_cause
  data_buf_stopped b file e s q =
      refused view (write_data_buf_cause file b) (appends b.bytes) file e
      (stopped_cause file.fault _ s ∙ ap Some (sym q))

  pub data_buf_refused : (b : BufferRecord) (file : FileState) (e : TiffError) → file.fault ≡ None
      → order_cause b.order None ≡ Some e
      → Ends view (write_data_buf b file) (Err e) file file
  unfolding write_data_buf write_data_buf_cause
  data_buf_refused b file e f o =
      refused view (write_data_buf_cause file b) (appends b.bytes) file e (fresh_cause file.fault _ f ∙ o)

  pub data_buf_ends : (b : BufferRecord) (r : Result X TiffError) (old new : FileState)
      → old.fault ≡ None → order_cause b.order None ≡ None
      → Ends view (appends b.bytes old) r old new → Ends view (write_data_buf b old) r old new
  unfolding write_data_buf write_data_buf_cause
  data_buf_ends b r old new f o h =
      recaused view (write_data_buf_cause old b) None (appends b.bytes) r old new
      (fresh_cause old.fault _ f ∙ o) h

-- ---- bytes as values of a type, by the size of one value

abbrev pub data_sized : «Type» → List ℕ → ℕ → FieldData
data_sized type bytes size =
    record { field_type = type; count = length bytes / size; bytes = take (length bytes / size * size) bytes }

pub data_test : (file : FileState) (kind : FileKind) (type : «Type») (bytes : List ℕ) (size end : ℕ)
    → kind ≡ file.kind → size ≡ type_size type
    → end ≡ end_of file
    → field_cause file (data_in type bytes)
    ≡ field_test kind end (length bytes / size) (length (take (length bytes / size * size) bytes))
unfolding field_test
data_test file kind type bytes size end k z at =
    sym (λ i. field_test (k i) (at i) (data_sized type bytes (z i)).count (length (data_sized type bytes (z i)).bytes))

pub data_placed : (type : «Type») (bytes : List ℕ) (size : ℕ) (r : Result Field TiffError)
    (old new : FileState) → size ≡ type_size type
    → Places (data_sized type bytes size) old new r
    → Ends (λ field. field) (placed_field (data_in type bytes) old) r old new
data_placed type bytes size r old new z p =
    placed_ends (data_in type bytes) r old new (subst (λ s. Places (data_sized type bytes s) old new r) z p)
