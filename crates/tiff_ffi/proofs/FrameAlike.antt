-- What a call of the encoder writes behind bytes of a file depends on how many they are, and not on
-- what they are.
use Rattle.std.proofs.Common.{◌≡◌, ℕ, Bool, true, false, List, [], ◌∷◌, ◌++◌, length, map, Option, Some, None, Result, Ok, Err, refl, ap, sym, ◌∙◌, subst, arith, length-append}
use Rattle.std.specs.Prelude.{if◌then◌else◌}
use Rattle.std.specs.FinMap.{len}
use Rattle.tiff_base.specs.declared.error.TiffError.{TiffError}
use Rattle.tiff_base.specs.declared.tags.Tag.{Tag}
use Rattle.tiff_base.specs.Field.{Field}
use Rattle.tiff_value.specs.Data.{FieldData, Scalars, data_of}
use Rattle.tiff_value.specs.Fields.{is_long, field_at}
use Rattle.tiff_value.specs.WriteOps.{WriteOp, Appended, Supplied, Listed, all_appended}
use Rattle.tiff_encode.specs.Machine.{FileState, OpenDirectory, OpenImage, WriteOutcome, WriteCall, answers, gives, does, by_cause, and_then, ◌>>=◌}
use Rattle.tiff_encode.specs.Causes.{end_of, write_tag_cause, parent_cause, finish_cause, write_chunk_cause}
use Rattle.tiff_encode.specs.Calls.{Offsets, offsets_of, links_to, chains, placed_field, write_entry, write_tag, write_tags, with_field, finish, with_chunk, appends_chunk, write_chunk, write_chunks, last_tags, finish_image}
use Rattle.tiff_encode.proofs.Joining.{IsAdding, adding, tag_adds}
use Rattle.tiff_encode.proofs.Open.Tags.{tags_adding}
use Rattle.tiff_encode.proofs.Data.Calls.{bind_answered, cause_answered}
use Rattle.tiff_encode.proofs.Data.Chunks.{chunk_is}

-- ---- files of one length

-- the file with other bytes
abbrev pub other : FileState → List ℕ → FileState
other f bytes = record f { bytes = bytes }

-- two outcomes, of a call on a file and on the file with other bytes: the answer and the writes are
-- the same
pub record TellsAlike {A : Type 0} (s t : WriteOutcome A) : Type 0 where
  pub answer : t.answer ≡ s.answer
  pub ops : t.ops ≡ s.ops

caused_by : {A : Type 0} (c : Option TiffError) (call second : WriteCall A) (f g : FileState)
    → TellsAlike (call f) (second g)
    → TellsAlike (by_cause c call f) (by_cause c second g)
caused_by None call second f g h = h
caused_by (Some e) call second f g h = record { answer = refl; ops = refl }

-- two calls with the same cause
caused_alike : {A : Type 0} (cause same_cause : Option TiffError) (call second : WriteCall A)
    (f g : FileState) → same_cause ≡ cause
    → TellsAlike (call f) (second g)
    → TellsAlike (by_cause cause call f) (by_cause same_cause second g)
caused_alike cause same_cause call second f g same h =
    subst (λ c. TellsAlike (by_cause cause call f) (by_cause c second g)) (sym same)
    (caused_by cause call second f g h)

going : {A B : Type 0} (r : Result A TiffError) (ops : List WriteOp) (next other_next : FileState)
    (rest : A → WriteCall B)
    → ((x : A) → r ≡ Ok x → TellsAlike (rest x next) (rest x other_next))
    → TellsAlike (and_then r ops next rest) (and_then r ops other_next rest)
going (Ok x) ops next other_next rest h =
    let told = h x refl in record { answer = told.answer; ops = ap (λ more. ops ++ more) told.ops }
going (Err e) ops next other_next rest h = record { answer = refl; ops = refl }

pub bind_alike : {A B : Type 0} (call : WriteCall A) (rest : A → WriteCall B) (f g : FileState)
    → TellsAlike (call f) (call g)
    → ((x : A) → (call f).answer ≡ Ok x → TellsAlike (rest x (call f).next) (rest x (call g).next))
    → TellsAlike ((call >>= rest) f) ((call >>= rest) g)
bind_alike call rest f g h k =
    let here = going (call f).answer (call f).ops (call f).next (call g).next rest k in
    subst (λ r. TellsAlike ((call >>= rest) f) (and_then r (call g).ops (call g).next rest)) (sym h.answer)
    (subst (λ ops. TellsAlike ((call >>= rest) f) (and_then (call f).answer ops (call g).next rest)) (sym h.ops) here)

-- ---- a value, and several

module _ (f : FileState) (bytes : List ℕ) (long : length bytes ≡ end_of f) where
  placed_alike : (value : FieldData)
      → TellsAlike (placed_field value f) (placed_field value (other f bytes))
  placed_alike value = record {
    answer = ap (λ n. Ok (field_at f.kind n value)) long;
    ops =
        ap (λ n. (if is_long f.kind value then Appended value.bytes
        ∷ Supplied (record { field = field_at f.kind n value; bytes = value.bytes }) ∷ []
        else Supplied (record { field = field_at f.kind n value; bytes = value.bytes }) ∷ []) ++ []) long;
  }

  tag_caused : (value : FieldData)
      → write_tag_cause (other f bytes) (Ok value) ≡ write_tag_cause f (Ok value)
  unfolding write_tag_cause
  tag_caused value = rw long refl

  entry_alike : (value : FieldData)
      → TellsAlike (write_entry (Ok value) f) (write_entry (Ok value) (other f bytes))
  unfolding write_entry
  entry_alike value =
      let known : WriteCall Field = answers (Ok value) >>= placed_field in
      caused_alike (write_tag_cause f (Ok value)) (write_tag_cause (other f bytes) (Ok value)) known known f (other f bytes) (tag_caused value) (placed_alike value)

  tag_alike : (d : OpenDirectory) (t : Tag) (value : FieldData)
      → TellsAlike (write_tag d t (Ok value) f) (write_tag d t (Ok value) (other f bytes))
  unfolding write_tag
  tag_alike d t value =
      bind_alike (write_entry (Ok value)) (λ field. gives (with_field d t field)) f (other f bytes)
      (entry_alike value)
      (λ x _. record { answer = refl; ops = refl })

-- After calls that only append, the files are of one length still.
next_other : {A : Type 0} (s t : WriteOutcome A) (f : FileState) (bytes : List ℕ) → IsAdding s f
    → IsAdding t (other f bytes) → t.ops ≡ s.ops
    → t.next ≡ other s.next (bytes ++ all_appended f.kind s.ops)
next_other s t f bytes a b same =
    b.next ∙ ap (λ ops. other f (bytes ++ all_appended f.kind ops)) same
    ∙ sym (ap (λ x. other x (bytes ++ all_appended f.kind s.ops)) a.next)

next_long : {A : Type 0} (s : WriteOutcome A) (f : FileState) (bytes : List ℕ) → IsAdding s f
    → length bytes ≡ end_of f
    → length (bytes ++ all_appended f.kind s.ops) ≡ end_of s.next
next_long s f bytes a long =
    let more : List ℕ = all_appended f.kind s.ops in
    let e : end_of s.next ≡ length (f.bytes ++ more) = ap (λ x. end_of x) a.next in
    omega (arith, e, long, length-append bytes more, length-append f.bytes more)

tags_alike : (d : OpenDirectory) (values : List (Tag × Scalars)) (f : FileState) (bytes : List ℕ)
    → length bytes ≡ end_of f
    → TellsAlike (write_tags d values f) (write_tags d values (other f bytes))
tags_alike d [] f bytes long = record { answer = refl; ops = refl }
tags_alike d (v ∷ values) f bytes long =
    let call : WriteCall OpenDirectory = write_tag d v.0 (Ok (data_of v.1)) in
    let first = tag_alike f bytes long d v.0 (data_of v.1) in
    let here = adding (call f) f (tag_adds d v.0 (Ok (data_of v.1)) f) in
    let there =
    adding (call (other f bytes)) (other f bytes) (tag_adds d v.0 (Ok (data_of v.1)) (other f bytes)) in
    bind_alike call (λ next. write_tags next values) f (other f bytes) first
    (λ next _.
    subst (λ file. TellsAlike (write_tags next values (call f).next) (write_tags next values file))
    (sym (next_other (call f) (call (other f bytes)) f bytes here there first.ops))
    (tags_alike next values (call f).next (bytes ++ all_appended f.kind (call f).ops) (next_long (call f) f bytes here long)))

-- ---- the end of an image

parent_caused : (parent : Option ℕ) (f : FileState) (bytes : List ℕ) → length bytes ≡ end_of f
    → parent_cause (other f bytes) parent ≡ parent_cause f parent
parent_caused None f bytes long = refl
parent_caused (Some offset) f bytes long = rw long refl

finish_caused : (d : OpenDirectory) (f : FileState) (bytes : List ℕ) → length bytes ≡ end_of f
    → finish_cause (other f bytes) d ≡ finish_cause f d
unfolding finish_cause
finish_caused d f bytes long = rw (parent_caused d.parent f bytes long, long) refl

finish_alike : (d : OpenDirectory) (f : FileState) (bytes : List ℕ) → length bytes ≡ end_of f
    → TellsAlike (finish d f) (finish d (other f bytes))
unfolding finish
finish_alike d f bytes long =
    let ends : ℕ → WriteCall Offsets =
    λ n. does (Listed d.fields ∷ links_to d.parent n)
    >>= (λ _. chains d.chained (offsets_of f.kind n (len d.fields))) in
    let told : TellsAlike (ends (end_of f) f) (ends (length bytes) (other f bytes)) = record {
      answer = ap (λ n. Ok (offsets_of f.kind n (len d.fields))) long;
      ops = ap (λ n. (Listed d.fields ∷ links_to d.parent n) ++ []) long;
    } in
    caused_alike (finish_cause f d) (finish_cause (other f bytes) d) (ends (end_of f))
    (ends (length bytes)) f (other f bytes) (finish_caused d f bytes long) told

-- The end of an image is written alike.
pub image_alike : (i : OpenImage) (f : FileState) (bytes : List ℕ) → length bytes ≡ end_of f
    → TellsAlike (finish_image i f) (finish_image i (other f bytes))
unfolding finish_image
image_alike i f bytes long =
    let tags = last_tags f.kind i in
    let call : WriteCall OpenDirectory = write_tags i.directory tags in
    let first = tags_alike i.directory tags f bytes long in
    let here = tags_adding i.directory tags f in
    let there = tags_adding i.directory tags (other f bytes) in
    bind_alike call finish f (other f bytes) first
    (λ d _.
    subst (λ file. TellsAlike (finish d (call f).next) (finish d file))
    (sym (next_other (call f) (call (other f bytes)) f bytes here there first.ops))
    (finish_alike d (call f).next (bytes ++ all_appended f.kind (call f).ops) (next_long (call f) f bytes here long)))

-- ---- the strips of an image

chunk_caused : (i : OpenImage) (n m count stored : ℕ) (f : FileState) (bytes : List ℕ)
    → length bytes ≡ end_of f → m ≡ n → stored ≡ count
    → write_chunk_cause (other f bytes) i m stored ≡ write_chunk_cause f i n count
unfolding write_chunk_cause
chunk_caused i n m count stored f bytes long same as_many = rw (long, same, as_many) refl

-- how many bytes or samples each list has
abbrev pub sizes : List (List ℕ) → List ℕ
sizes xs = map (λ (x : List ℕ). length x) xs

-- Other samples that are as many are stored at the same places.
pub chunks_alike : (i last : OpenImage) (parts others stored given : List (List ℕ)) (f : FileState)
    (bytes : List ℕ) → length bytes ≡ end_of f
    → sizes others ≡ sizes parts → sizes given ≡ sizes stored
    → (write_chunks i parts stored f).answer ≡ Ok last
    → (write_chunks i others given (other f bytes)).answer ≡ Ok last
unfolding write_chunk
chunks_alike i last [] [] stored given f bytes long p s h = h
chunks_alike i last [] (o ∷ others) stored given f bytes long p s h = absurd cc
chunks_alike i last (part ∷ parts) [] stored given f bytes long p s h = absurd cc
chunks_alike i last (part ∷ parts) (o ∷ others) [] [] f bytes long p s h = h
chunks_alike i last (part ∷ parts) (o ∷ others) [] (x ∷ given) f bytes long p s h = absurd cc
chunks_alike i last (part ∷ parts) (o ∷ others) (b ∷ stored) [] f bytes long p s h = absurd cc
chunks_alike i last (part ∷ parts) (o ∷ others) (b ∷ stored) (x ∷ given) f bytes long p s h =
    let call : WriteCall OpenImage = write_chunk i (length part) b in
    let a = bind_answered call (λ next. write_chunks next parts stored) f last h in
    let c =
    cause_answered (write_chunk_cause f i (length part) (length b)) (appends_chunk i b) f a.0 a.1.0 in
    let mid : FileState = (call f).next in
    let p0 : length o ≡ length part = cc in
    let p1 : sizes others ≡ sizes parts = cc in
    let s0 : length x ≡ length b = cc in
    let s1 : sizes given ≡ sizes stored = cc in
    let uncaused : write_chunk_cause (other f bytes) i (length o) (length x) ≡ None =
    chunk_caused i (length part) (length o) (length b) (length x) f bytes long p0 s0 ∙ c.0 in
    let told : write_chunk i (length o) x (other f bytes) ≡ appends_chunk i x (other f bytes) =
    ap (λ k. by_cause k (appends_chunk i x) (other f bytes)) uncaused in
    let image : with_chunk i (length bytes) (length x) ≡ a.0 =
    (λ j. with_chunk i (long j) (s0 j)) ∙ chunk_is i a.0 (length part) b f a.1.0 in
    let is_mid : mid ≡ other f (f.bytes ++ b) = ap (λ t. t.next) c.1 in
    let end : length (bytes ++ x) ≡ end_of mid =
    omega (arith, ap (λ file. end_of file) is_mid, length-append bytes x, length-append f.bytes b, long, s0) in
    let more =
    chunks_alike a.0 last parts others stored given mid (bytes
    ++ x) end p1 s1 (ap (λ t. t.answer) (sym a.1.1) ∙ h) in
    ap (λ t. (and_then t.answer t.ops t.next (λ next. write_chunks next others given)).answer) told
    ∙ ap (λ j. (write_chunks j others given (other f (bytes ++ x))).answer) image
    ∙ ap (λ m. (write_chunks a.0 others given (other m (bytes ++ x))).answer) (sym is_mid)
    ∙ more

-- ---- the error of the sink

-- a call leaves the error of the last write as it was
abbrev KeepsFault : {A : Type 0} → WriteOutcome A → FileState → Type 0
KeepsFault told f = told.next.fault ≡ f.fault

caused_kept : {A : Type 0} (cause : Option TiffError) (call : WriteCall A) (f : FileState)
    → KeepsFault (call f) f → KeepsFault (by_cause cause call f) f
caused_kept None call f h = h
caused_kept (Some e) call f h = refl

going_kept : {A B : Type 0} (r : Result A TiffError) (ops : List WriteOp) (next f : FileState)
    (rest : A → WriteCall B) → next.fault ≡ f.fault
    → ((x : A) → KeepsFault (rest x next) next) → KeepsFault (and_then r ops next rest) f
going_kept (Ok x) ops next f rest h k = k x ∙ h
going_kept (Err e) ops next f rest h k = h

chained_kept : (chained : Bool) (offsets : Offsets) (f : FileState)
    → KeepsFault (chains chained offsets f) f
chained_kept true offsets f = refl
chained_kept false offsets f = refl

finish_kept : (d : OpenDirectory) (f : FileState) → KeepsFault (finish d f) f
unfolding finish
finish_kept d f =
    let offsets : Offsets = offsets_of f.kind (end_of f) (len d.fields) in
    let call : WriteCall Offsets =
    does (Listed d.fields ∷ links_to d.parent (end_of f)) >>= (λ _. chains d.chained offsets) in
    caused_kept (finish_cause f d) call f (chained_kept d.chained offsets (does (Listed d.fields
    ∷ links_to d.parent (end_of f)) f).next)

pub image_kept : (i : OpenImage) (f : FileState) → (finish_image i f).next.fault ≡ f.fault
unfolding finish_image
image_kept i f =
    let call : WriteCall OpenDirectory = write_tags i.directory (last_tags f.kind i) in
    going_kept (call f).answer (call f).ops (call f).next f finish
    (ap (λ x. x.fault) (tags_adding i.directory (last_tags f.kind i) f).next)
    (λ d. finish_kept d (call f).next)
