-- The changes of calls in sequence fit if the calls succeed and the file is not too long.
use Rattle.std.proofs.Common.{◌≡◌, ℕ, ◌+◌, ◌^◌, ◌<◌, ◌≤◌, Bool, true, false, cond, List, [], ◌∷◌, ◌++◌, length, take, drop, Option, Some, None, Result, Ok, Err, refl, ap, sym, ◌∙◌, subst, arith, length-append}
use Rattle.std.proofs.lemmas.Bool.{ltb-false}
use Rattle.std.proofs.lemmas.List.{length-take, length-drop}
use Rattle.tiff_base.specs.declared.error.TiffError.{TiffError}
use Rattle.tiff_base.specs.declared.tags.FileKind.{FileKind}
use Rattle.tiff_base.specs.declared.tags.Tag.{Tag}
use Rattle.tiff_base.specs.Field.{Field, IsEntry, AreEntries}
use Rattle.tiff_base.specs.Number.{le}
use Rattle.tiff_base.specs.Tags.{tag_number}
use Rattle.tiff_base.specs.SourceAndSink.{put}
use Rattle.tiff_value.specs.Data.{FieldData, IsWhole}
use Rattle.tiff_value.specs.FileBytes.{offset_len, directory_bytes}
use Rattle.tiff_value.specs.Model.{SuppliedField, Model}
use Rattle.tiff_value.specs.WriteOps.{WriteOp, Appended, Supplied, Listed, Linked, after_op, bytes_after, model_after}
use Rattle.tiff_value.specs.FileLaws.{OpsFit}
use Rattle.tiff_value.specs.Fields.{is_long, field_at}
use Rattle.tiff_encode.specs.Machine.{FileState, OpenDirectory, WriteOutcome, WriteCall, answers, gives, by_cause, and_then, ◌>>=◌}
use Rattle.tiff_encode.specs.Causes.{end_of, field_cause, write_tag_cause}
use Rattle.tiff_encode.specs.Calls.{with_field, placed_field, write_entry, write_tag}
use Rattle.tiff_encode.specs.Tagging.{write_fields}
use Rattle.tiff_base.specs.lemmas.Slices.{ok_inj}
use Rattle.tiff_value.specs.lemmas.File.WriteOps.{bytes_joined, fits_joined, ops_append}
use Rattle.tiff_encode.proofs.CallFits.{offset_len_8, placed_fits}
use Rattle.tiff_encode.proofs.Joining.{IsAdding, adding, entry_adds, tag_adds}
use Rattle.tiff_encode.proofs.Leaving.{IsPlain, ok_err, unended}
use Rattle.tiff_value.specs.lemmas.File.FitsEntries.{insert_entries, AreBytes, field_entry}

-- ---- what calls do to the bytes

-- A call makes its changes to the bytes only.
pub record IsDone {A : Type 0} (told : WriteOutcome A) (file : FileState) : Type 0 where
  pub kind : told.next.kind ≡ file.kind
  pub bytes : told.next.bytes ≡ bytes_after file.kind file.bytes told.ops

pub plain_done : {A : Type 0} (told : WriteOutcome A) (file : FileState) → IsPlain told file
    → IsDone told file
plain_done told file p = record { kind = p.kind; bytes = p.bytes }

pub adding_done : {A : Type 0} (told : WriteOutcome A) (file : FileState) → IsAdding told file
    → IsDone told file
adding_done told file a = record {
  kind = ap (λ f. f.kind) a.next;
  bytes = ap (λ f. f.bytes) a.next ∙ sym (ops_append file.kind file.bytes told.ops a.appending);
}

pub gives_done : {A : Type 0} (x : A) (file : FileState) → IsDone (gives x file) file
gives_done x file = record { kind = refl; bytes = refl }

joined_done : {A B : Type 0} (r : Result A TiffError) (ops : List WriteOp) (next : FileState)
    (rest : A → WriteCall B) (file : FileState)
    → next.kind ≡ file.kind → next.bytes ≡ bytes_after file.kind file.bytes ops
    → ((x : A) → r ≡ Ok x → IsDone (rest x next) next) → IsDone (and_then r ops next rest) file
joined_done (Err e) ops next rest file k b d = record { kind = k; bytes = b }
joined_done (Ok x) ops next rest file k b d =
    let second = d x refl in
    let more : List WriteOp = (rest x next).ops in
    record {
      kind = second.kind ∙ k;
      bytes =
          second.bytes ∙ (λ i. bytes_after (k i) (b i) more)
          ∙ sym (bytes_joined file.kind file.bytes ops more);
    }

pub bind_done : {A B : Type 0} (call : WriteCall A) (rest : A → WriteCall B) (file : FileState)
    → IsDone (call file) file
    → ((x : A) → (call file).answer ≡ Ok x → IsDone (rest x (call file).next) (call file).next)
    → IsDone ((call >>= rest) file) file
bind_done call rest file a d =
    joined_done (call file).answer (call file).ops (call file).next rest file a.kind a.bytes d

-- bytes that are written over others never shorten the file
pub put_longer : (bytes : List ℕ) (at : ℕ) (over : List ℕ)
    → length bytes ≤ length (put bytes at over)
put_longer bytes at over =
    let behind : List ℕ = drop (at + length over) bytes in
    omega (
      arith,
      length-append (take at bytes) (over ++ behind),
      length-append over behind,
      length-take at bytes,
      length-drop (at + length over) bytes,
    )

-- a change never shortens the file, nor do several changes
op_longer : (kind : FileKind) (bytes : List ℕ) (op : WriteOp)
    → length bytes ≤ length (after_op kind bytes op)
op_longer kind bytes (Appended more) = omega (arith, length-append bytes more)
op_longer kind bytes (Supplied supplied) = omega arith
op_longer kind bytes (Listed fields) =
    omega (arith, length-append bytes (directory_bytes kind fields))
op_longer kind bytes (Linked offset target) = put_longer bytes offset (le (offset_len kind) target)

pub ops_longer : (kind : FileKind) (bytes : List ℕ) (ops : List WriteOp)
    → length bytes ≤ length (bytes_after kind bytes ops)
ops_longer kind bytes [] = omega arith
ops_longer kind bytes (op ∷ ops) =
    let a = op_longer kind bytes op in
    let b = ops_longer kind (after_op kind bytes op) ops in
    omega (arith, a, b)

pub done_longer : {A : Type 0} (told : WriteOutcome A) (file : FileState) → IsDone told file
    → end_of file ≤ end_of told.next
done_longer told file d =
    let l = ops_longer file.kind file.bytes told.ops in
    let e : end_of told.next ≡ length (bytes_after file.kind file.bytes told.ops) =
    ap (λ b. length b) d.bytes in
    omega (arith, l, e)

-- ---- what fits

-- If a call succeeds and the file after it is not too long, the changes of the call fit and its
-- result has the given property.
abbrev pub Fits : {A : Type 0} → WriteOutcome A → FileState → Model → (A → Type 0) → Type 0
Fits {A = A} told file m P =
    (x : A) → told.answer ≡ Ok x → end_of told.next < 2 ^ 64
    → OpsFit file.kind file.bytes m told.ops × P x

-- a call that only returns a value
pub gives_fits : {A : Type 0} (x : A) (file : FileState) (m : Model) (P : A → Type 0) → P x
    → Fits (gives x file) file m P
gives_fits x file m P p y h l = (tt, subst P (ok_inj x y h) p)

-- a call that its checks may refuse
pub cause_fits : {A : Type 0} (cause : Option TiffError) (call : WriteCall A) (file : FileState)
    (m : Model) (P : A → Type 0)
    → (cause ≡ None → Fits (call file) file m P) → Fits (by_cause cause call file) file m P
cause_fits None call file m P f y h l = f refl y h l
cause_fits (Some e) call file m P f y h l = absurd (ok_err (sym h))

-- the changes of two calls in sequence fit
joined_fits : {A B : Type 0} (r : Result A TiffError) (ops : List WriteOp) (next : FileState)
    (rest : A → WriteCall B)
    (file : FileState) (m : Model) (P : A → Type 0) (Q : B → Type 0)
    → next.kind ≡ file.kind → next.bytes ≡ bytes_after file.kind file.bytes ops
    → (let told : WriteOutcome A = record { answer = r; ops = ops; next = next } in Fits told file m P)
    → ((x : A) → r ≡ Ok x → IsDone (rest x next) next)
    → ((x : A) → r ≡ Ok x → P x → Fits (rest x next) next (model_after file.kind file.bytes m ops) Q)
    → Fits (and_then r ops next rest) file m Q
joined_fits (Err e) ops next rest file m P Q k b f d s y h l = absurd (ok_err (sym h))
joined_fits (Ok x) ops next rest file m P Q k b f d s y h l =
    let longer = done_longer (rest x next) next (d x refl) in
    let first = f x refl (omega (arith, longer, l)) in
    let second = s x refl first.1 y h l in
    let more : List WriteOp = (rest x next).ops in
    let after : Model = model_after file.kind file.bytes m ops in
    let same : OpsFit file.kind next.bytes after more =
    subst (λ kind. OpsFit kind next.bytes after more) k second.0 in
    let moved : OpsFit file.kind (bytes_after file.kind file.bytes ops) after more =
    subst (λ bytes. OpsFit file.kind bytes after more) b same in
    (fits_joined file.kind file.bytes m ops more first.0 moved, second.1)

pub bind_fits : {A B : Type 0} (call : WriteCall A) (rest : A → WriteCall B) (file : FileState)
    (m : Model) (P : A → Type 0) (Q : B → Type 0)
    → IsDone (call file) file → Fits (call file) file m P
    → ((x : A) → (call file).answer ≡ Ok x → IsDone (rest x (call file).next) (call file).next)
    → ((x : A) → (call file).answer ≡ Ok x → P x
    → Fits (rest x (call file).next) (call file).next (model_after file.kind file.bytes m (call file).ops) Q)
    → Fits ((call >>= rest) file) file m Q
bind_fits call rest file m P Q a f d s =
    joined_fits (call file).answer (call file).ops (call file).next rest file m P Q a.kind a.bytes f d s

-- a call whose result is made of another call's result
pub viewed_fits : {A B : Type 0} (call : WriteCall A) (g : A → B) (file : FileState) (m : Model)
    (Q : B → Type 0)
    → IsDone (call file) file → Fits (call file) file m (λ x. Q (g x))
    → Fits ((call >>= (λ x. gives (g x))) file) file m Q
viewed_fits call g file m Q a f =
    bind_fits call (λ x. gives (g x)) file m (λ x. Q (g x)) Q a f
    (λ x _. gives_done (g x) (call file).next)
    (λ x _ q. gives_fits (g x) (call file).next (model_after file.kind file.bytes m (call file).ops) Q q)

-- ---- fields

-- The data of a field: the tag number has at most 16 bits, the number of bytes matches the count,
-- and each number is a byte.
pub record IsData (value : Tag × FieldData) : Type 0 where
  pub tag : tag_number value.0 < 2 ^ 16
  pub whole : IsWhole value.1
  pub bytes : AreBytes value.1.bytes

abbrev pub AreData : List (Tag × FieldData) → Type 0
AreData [] = Unit {0}
AreData (value ∷ values) = IsData value × AreData values

-- a value is short, or the file has room for its offset
room : (kind : FileKind) (long : Bool) (bytes xs : List ℕ) (h : SuppliedField)
    → (long ≡ false → length xs ≤ 8)
    → length (bytes_after kind bytes (cond long (Appended xs ∷ Supplied h ∷ []) (Supplied h ∷ [])))
    < 2 ^ 64
    → (length bytes < 2 ^ 64) × (length xs < 2 ^ 64)
room kind true bytes xs h s l =
    let e = length-append bytes xs in
    let a : length bytes < 2 ^ 64 = omega (arith, e, l) in
    let b : length xs < 2 ^ 64 = omega (arith, e, l) in
    (a, b)
room kind false bytes xs h s l =
    let e = s refl in
    let b : length xs < 2 ^ 64 = omega (arith, e) in
    (l, b)

module _ (t : ℕ) (value : FieldData) (file : FileState) (m : Model) (n : t < 2 ^ 16)
    (w : IsWhole value) (a : AreBytes value.bytes) where
  placed_entry : field_cause file value ≡ None
      → Fits (placed_field value file) file m (λ f. IsEntry (t, f))
  placed_entry c f h l =
      let field : Field = field_at file.kind (end_of file) value in
      let hand : SuppliedField = record { field = field; bytes = value.bytes } in
      let eight = offset_len_8 file.kind in
      let r = room file.kind (is_long file.kind value) file.bytes value.bytes hand
      (λ s. let below = ltb-false (offset_len file.kind) (length value.bytes) s in
      omega (arith, below, eight)) l in (
        placed_fits file m value w c r.0 r.1,
        subst (λ g. IsEntry (t, g)) (ok_inj field f h) (field_entry file.kind (end_of file) t value n w a r.1),
      )

  entry_fits : Fits (write_entry (Ok value) file) file m (λ f. IsEntry (t, f))
  unfolding write_entry write_tag_cause
  entry_fits =
      cause_fits (write_tag_cause file (Ok value)) (answers (Ok value)
      >>= placed_field) file m (λ f. IsEntry (t, f))
      (λ c. placed_entry (unended file.fault (field_cause file value) c))

-- the fields of a directory are entries, and its parent is the given one
abbrev pub Keeps : Option ℕ → OpenDirectory → Type 0
Keeps parent d = AreEntries d.fields × (d.parent ≡ parent)

pub tag_fits : (parent : Option ℕ) (d : OpenDirectory) (value : Tag × FieldData) (file : FileState)
    (m : Model) → IsData value
    → Keeps parent d → Fits (write_tag d value.0 (Ok value.1) file) file m (Keeps parent)
unfolding write_tag
tag_fits parent d value file m g k =
    let t : ℕ = tag_number value.0 in
    viewed_fits (write_entry (Ok value.1)) (with_field d value.0) file m (Keeps parent)
    (adding_done (write_entry (Ok value.1) file) file (adding _ _ (entry_adds (Ok value.1) file)))
    (λ f h l.
    let e = entry_fits t value.1 file m g.tag g.whole g.bytes f h l in
    (e.0, (insert_entries d.fields t f e.1 k.0, k.1)))

pub fields_done : (d : OpenDirectory) (values : List (Tag × FieldData)) (file : FileState)
    → IsDone (write_fields d values file) file
fields_done d [] file = gives_done d file
fields_done d (value ∷ values) file =
    let call : WriteCall OpenDirectory = write_tag d value.0 (Ok value.1) in
    bind_done call (λ next. write_fields next values) file
    (adding_done (call file) file (adding _ _ (tag_adds d value.0 (Ok value.1) file)))
    (λ next _. fields_done next values (call file).next)

pub fields_fit : (parent : Option ℕ) (d : OpenDirectory) (values : List (Tag × FieldData))
    (file : FileState) (m : Model)
    → AreData values → Keeps parent d → Fits (write_fields d values file) file m (Keeps parent)
fields_fit parent d [] file m g k = gives_fits d file m (Keeps parent) k
fields_fit parent d (value ∷ values) file m g k =
    let call : WriteCall OpenDirectory = write_tag d value.0 (Ok value.1) in
    bind_fits call (λ next. write_fields next values) file m (Keeps parent) (Keeps parent)
    (adding_done (call file) file (adding _ _ (tag_adds d value.0 (Ok value.1) file)))
    (tag_fits parent d value file m g.0 k)
    (λ next _. fields_done next values (call file).next)
    (λ next _ kept. fields_fit parent next values (call file).next (model_after file.kind file.bytes m (call file).ops) g.1 kept)
