-- How calls write fields in sequence.
use Rattle.std.proofs.Common.{◌≡◌, ℕ, ◌+◌, ◌*◌, ◌<◌, ◌≤◌, Bool, cond, List, [], ◌∷◌, ◌++◌, length, take, drop, get_or, Result, Some, Ok, Err, refl, ap, sym, ◌∙◌, subst, arith, append_assoc, append-nil}
use Rattle.std.proofs.Math.Nat.{div-add-mod'}
use Rattle.std.proofs.Math.Seq.{take-length, take-append_seam}
use Rattle.std.proofs.lemmas.Bool.{eq-eqb}
use Rattle.std.proofs.lemmas.List.{length-take-le, take_at, drop_at, take_more, take-append-drop}
use borrow.Rule.Slice.PartMut.{put_mid}
use Rattle.std.specs.Prelude.{◌/◌, ◌%◌, not, replicate}
use Rattle.tiff_base.specs.declared.error.TiffError.{TiffError}
use Rattle.tiff_base.specs.declared.error.TiffError.TheVariants.{UsageError}
use Rattle.tiff_base.specs.declared.error.UsageError.TheVariants.{MismatchedEntryLength}
use Rattle.tiff_base.specs.declared.tags.Tag.{Tag}
use Rattle.tiff_base.specs.declared.tags.«Type».{«Type»}
use Rattle.tiff_base.specs.declared.tags.«Type».TheVariants.{SHORT, LONG, RATIONAL}
use Rattle.tiff_base.specs.Field.{Field}
use Rattle.tiff_base.specs.Number.{le}
use Rattle.tiff_base.specs.Types.{type_size}
use Rattle.tiff_value.specs.Data.{FieldData, Scalars, u16s, u32s, rationals, data_of}
use Rattle.tiff_value.specs.Fields.{data_in, filled_field}
use Rattle.tiff_value.specs.WriteOps.{WriteOp}
use Rattle.tiff_encode.specs.Machine.{FileState, OpenDirectory, WriteOutcome, WriteCall, gives, after_ops, by_cause, and_then, ◌>>=◌}
use Rattle.tiff_encode.specs.Causes.{unless_ended, field_cause, write_tag_cause, write_entry_bytes_cause}
use Rattle.tiff_encode.specs.Calls.{placed_field, write_entry, write_entry_bytes, write_tag, write_tags}
use Rattle.tiff_encode.specs.Ends.{EndsAsDefined, CallFails, Ends}
use Rattle.tiff_encode.specs.Tagging.{write_fields, StopsInPart, fields_of}
use Rattle.tiff_value.specs.lemmas.File.Listing.{filled_whole}
use Rattle.tiff_encode.proofs.Joining.{IsAdding, Adds, adding, answers_adding, tag_adds, bind_told, bind_ends, bind_fails, bind_adding, bind_adds}

-- ---- equal calls

-- two calls in sequence have the same outcome if their second calls have the same outcome
pub going_alike : {A B : Type 0} (r : Result A TiffError) (ops : List WriteOp) (next : FileState)
    (rest other : A → WriteCall B)
    → ((x : A) (file : FileState) → rest x file ≡ other x file)
    → and_then r ops next rest ≡ and_then r ops next other
going_alike (Ok x) ops next rest other h = ap (after_ops ops) (h x next)
going_alike (Err e) ops next rest other h = refl

module _ {A B : Type 0} (ops : List WriteOp) (rest : A → WriteCall B) where
  -- the changes of two calls before a third call are those of both in sequence
  behind_on : (r : Result A TiffError) (more : List WriteOp) (next : FileState)
      → after_ops ops (and_then r more next rest) ≡ and_then r (ops ++ more) next rest
  behind_on (Err e) more next = refl
  behind_on (Ok x) more next =
      let third : WriteOutcome B = rest x next in
      ap (λ ds. record { answer = third.answer; ops = ds; next = third.next })
      (sym (append_assoc ops more third.ops))

-- three calls in sequence have the same outcome in each grouping
pub going_further : {A B C : Type 0} (r : Result A TiffError) (ops : List WriteOp)
    (next : FileState) (second : A → WriteCall B)
    (third : B → WriteCall C)
    → and_then r ops next (λ x. second x >>= third)
    ≡ (let both : WriteOutcome B = and_then r ops next second in and_then both.answer both.ops both.next third)
going_further (Err e) ops next second third = refl
going_further (Ok x) ops next second third =
    let told = second x next in behind_on ops third told.answer told.ops told.next

-- ---- fields

pub tags_are_fields : (d : OpenDirectory) (values : List (Tag × Scalars)) (file : FileState)
    → write_tags d values file ≡ write_fields d (fields_of values) file
tags_are_fields d [] file = refl
tags_are_fields d (value ∷ values) file =
    let first : WriteOutcome OpenDirectory = write_tag d value.0 (Ok (data_of value.1)) file in
    going_alike first.answer first.ops first.next (λ next. write_tags next values)
    (λ next. write_fields next (fields_of values))
    (λ next now. tags_are_fields next values now)

-- some fields, followed by other fields
pub fields_joined : (d : OpenDirectory) (xs ys : List (Tag × FieldData)) (file : FileState)
    → write_fields d (xs ++ ys) file ≡ (write_fields d xs >>= (λ next. write_fields next ys)) file
fields_joined d [] ys file = refl
fields_joined d (x ∷ xs) ys file =
    let first : WriteOutcome OpenDirectory = write_tag d x.0 (Ok x.1) file in
    let rest : OpenDirectory → WriteCall OpenDirectory = λ next. write_fields next ys in
    going_alike first.answer first.ops first.next (λ next. write_fields next (xs
    ++ ys)) (λ next. write_fields next xs >>= rest)
    (λ next now. fields_joined next xs ys now)
    ∙ going_further first.answer first.ops first.next (λ next. write_fields next xs) rest

-- writing fields only appends
pub fields_adding : (d : OpenDirectory) (values : List (Tag × FieldData)) (file : FileState)
    → IsAdding (write_fields d values file) file
fields_adding d [] file = answers_adding (Ok d) file
fields_adding d (value ∷ values) file =
    let call : WriteCall OpenDirectory = write_tag d value.0 (Ok value.1) in
    bind_adding call (λ next. write_fields next values) file
    (adding (call file) file (tag_adds d value.0 (Ok value.1) file))
    (λ next _. fields_adding next values (call file).next)

-- writing at least one field makes a change unless it is refused
pub fields_adds : (d : OpenDirectory) (value : Tag × FieldData) (values : List (Tag × FieldData))
    (file : FileState)
    → Adds (write_fields d (value ∷ values) file) file
fields_adds d value values file =
    let call : WriteCall OpenDirectory = write_tag d value.0 (Ok value.1) in
    bind_adds call (λ next. write_fields next values) file (tag_adds d value.0 (Ok value.1) file)
    (λ next _. fields_adding next values (call file).next)

-- The first fields are written, and all fields end as the others end.
pub fields_end : {X : Type 0} (view : X → OpenDirectory) (d next : OpenDirectory)
    (xs ys : List (Tag × FieldData)) (r : Result X TiffError)
    (old mid new : FileState) → EndsAsDefined (write_fields d xs old) (Ok next) mid
    → Ends view (write_fields next ys mid) r mid new
    → Ends view (write_fields d (xs ++ ys) old) r old new
fields_end view d next xs ys r old mid new h e =
    let rest : OpenDirectory → WriteCall OpenDirectory = λ n. write_fields n ys in
    subst (λ told. Ends view told r old new) (sym (fields_joined d xs ys old))
    (bind_ends view (write_fields d xs) rest next r old mid new (fields_adding d xs old) h e)

pub fields_told : (d next : OpenDirectory) (xs ys : List (Tag × FieldData))
    (r : Result OpenDirectory TiffError)
    (old mid new : FileState) → EndsAsDefined (write_fields d xs old) (Ok next) mid
    → EndsAsDefined (write_fields next ys mid) r new
    → EndsAsDefined (write_fields d (xs ++ ys) old) r new
fields_told d next xs ys r old mid new h e =
    let rest : OpenDirectory → WriteCall OpenDirectory = λ n. write_fields n ys in
    subst (λ told. EndsAsDefined told r new) (sym (fields_joined d xs ys old))
    (bind_told (write_fields d xs) rest next r old mid new h e)

-- The first fields, at least one, fail, and all fields fail.
pub fields_fail : (d : OpenDirectory) (x : Tag × FieldData) (xs ys : List (Tag × FieldData))
    (e : TiffError) (old new : FileState)
    → CallFails (write_fields d (x ∷ xs) old) e old new
    → CallFails (write_fields d ((x ∷ xs) ++ ys) old) e old new
fields_fail d x xs ys e old new h =
    let rest : OpenDirectory → WriteCall OpenDirectory = λ n. write_fields n ys in
    subst (λ told. CallFails told e old new) (sym (fields_joined d (x ∷ xs) ys old))
    (bind_fails (write_fields d (x ∷ xs)) rest e old new (fields_adds d x xs old) h)

-- ---- one more field

-- one more field is written
pub one_more : (d now next : OpenDirectory) (done : List (Tag × FieldData))
    (value : Tag × FieldData) (old mid new : FileState)
    → EndsAsDefined (write_fields d done old) (Ok now) mid
    → EndsAsDefined (write_tag now value.0 (Ok value.1) mid) (Ok next) new
    → EndsAsDefined (write_fields d (done ++ value ∷ []) old) (Ok next) new
one_more d now next done value old mid new h t =
    let last : OpenDirectory → WriteCall OpenDirectory = λ n. gives n in
    fields_told d now done (value ∷ []) (Ok next) old mid new h
    (bind_told (write_tag now value.0 (Ok value.1)) last next (Ok next) mid new new t (record { answer = refl; state = refl }))

-- one more field fails after the first fields are written
pub one_fails : (d now : OpenDirectory) (done rest all : List (Tag × FieldData))
    (value : Tag × FieldData) (e : TiffError)
    (old mid new : FileState) → done ++ value ∷ rest ≡ all
    → EndsAsDefined (write_fields d done old) (Ok now) mid
    → CallFails (write_tag now value.0 (Ok value.1) mid) e mid new
    → CallFails (write_fields d all old) e old new
one_fails d now done rest all value e old mid new q h f =
    let view : OpenDirectory → OpenDirectory = λ x. x in
    let others : OpenDirectory → WriteCall OpenDirectory = λ n. write_fields n rest in
    subst (λ vs. CallFails (write_fields d vs old) e old new) q
    (fields_end view d now done (value ∷ rest) (Err e) old mid new h
    (bind_fails (write_tag now value.0 (Ok value.1)) others e mid new (tag_adds now value.0 (Ok value.1) mid) f))

-- ---- the field at an index

-- the field after the first ones is set
pub next_set : (d now next : OpenDirectory) (values : List (Tag × FieldData))
    (value : Tag × FieldData) (n : ℕ) (old mid new : FileState)
    → n < length values → value ≡ get_or values n value
    → EndsAsDefined (write_fields d (take n values) old) (Ok now) mid
    → EndsAsDefined (write_tag now value.0 (Ok value.1) mid) (Ok next) new
    → EndsAsDefined (write_fields d (take (n + 1) values) old) (Ok next) new
next_set d now next values value n old mid new l v h t =
    let more : take (n + 1) values ≡ take n values ++ value ∷ [] =
    take_more values n value l ∙ ap (λ x. take n values ++ x ∷ []) (sym v) in
    subst (λ vs. EndsAsDefined (write_fields d vs old) (Ok next) new) (sym more)
    (one_more d now next (take n values) value old mid new h t)

-- the field after the first ones fails
pub next_fails : (d now : OpenDirectory) (values : List (Tag × FieldData)) (value : Tag × FieldData)
    (n : ℕ) (e : TiffError)
    (old mid new : FileState) → n < length values → value ≡ get_or values n value
    → EndsAsDefined (write_fields d (take n values) old) (Ok now) mid
    → CallFails (write_tag now value.0 (Ok value.1) mid) e mid new
    → CallFails (write_fields d values old) e old new
next_fails d now values value n e old mid new l v h f =
    let rest : List (Tag × FieldData) = drop (n + 1) values in
    let more : take (n + 1) values ≡ take n values ++ value ∷ [] =
    take_more values n value l ∙ ap (λ x. take n values ++ x ∷ []) (sym v) in
    let whole : take n values ++ value ∷ rest ≡ values =
    sym (append_assoc (take n values) (value ∷ []) rest) ∙ ap (λ xs. xs ++ rest) (sym more)
    ∙ take-append-drop (n + 1) values in
    one_fails d now (take n values) rest values value e old mid new whole h f

-- the first fields are set, and the others fail
pub next_stops : (d now next : OpenDirectory) (values : List (Tag × FieldData))
    (value : Tag × FieldData) (n : ℕ) (e : TiffError)
    (old mid new : FileState) → n < length values → value ≡ get_or values n value
    → EndsAsDefined (write_fields d (take n values) old) (Ok now) mid
    → CallFails (write_tag now value.0 (Ok value.1) mid) e mid new → next ≡ now
    → StopsInPart d values e old new next
next_stops d now next values value n e old mid new l v h f s =
    let rest : List (Tag × FieldData) = drop (n + 1) values in
    let others : OpenDirectory → WriteCall OpenDirectory = λ x. write_fields x rest in
    let more : take (n + 1) values ≡ take n values ++ value ∷ [] =
    take_more values n value l ∙ ap (λ x. take n values ++ x ∷ []) (sym v) in
    let whole : take n values ++ value ∷ rest ≡ values =
    sym (append_assoc (take n values) (value ∷ []) rest) ∙ ap (λ xs. xs ++ rest) (sym more)
    ∙ take-append-drop (n + 1) values in
    let left : value ∷ rest ≡ drop n values =
    sym (drop_at (take n values) (value ∷ rest) n (length-take-le n values (omega (arith, l))))
    ∙ ap (drop n) whole in
    let fails : CallFails (write_fields now (drop n values) mid) e mid new =
    subst (λ vs. CallFails (write_fields now vs mid) e mid new) left
    (bind_fails (write_tag now value.0 (Ok value.1)) others e mid new (tag_adds now value.0 (Ok value.1) mid) f) in
    subst (λ x. StopsInPart d values e old new x) (sym s) (n, (l, (mid, (h, fails))))

-- ---- a value of whole bytes

-- bytes that are whole values of a type
abbrev pub whole_data : «Type» → List ℕ → FieldData
whole_data type bytes =
    record { field_type = type; count = length bytes / type_size type; bytes = bytes }

-- whole values as a call writes them
whole_in : (type : «Type») (bytes : List ℕ) → length bytes % type_size type ≡ 0
    → data_in type bytes ≡ whole_data type bytes
whole_in type bytes w =
    let n : ℕ = length bytes / type_size type * type_size type in
    let all : n ≡ length bytes = omega (arith, w, div-add-mod' (length bytes) (type_size type)) in
    ap (λ xs. record { field_type = type; count = length bytes / type_size type; bytes = xs })
    (ap (λ k. take k bytes) all ∙ take-length bytes)

-- a call writes whole values in the same way as any other value
pub whole_entry : (type : «Type») (bytes : List ℕ) (file : FileState)
    → length bytes % type_size type ≡ 0
    → write_entry_bytes type bytes file ≡ write_entry (Ok (whole_data type bytes)) file
unfolding write_entry_bytes write_entry write_entry_bytes_cause write_tag_cause
whole_entry type bytes file w =
    let by : Bool → FieldData → WriteOutcome Field = λ b d.
    by_cause (unless_ended file.fault (cond (not b) (Some (UsageError (MismatchedEntryLength type (length bytes)))) (field_cause file d)))
    (placed_field d) file in
    λ i. by (eq-eqb (length bytes % type_size type) 0 w i) (whole_in type bytes w i)

-- padded bytes, cut to their length, are the bytes
pub filled_back : (xs : List ℕ) → length xs ≤ 8 → take (length xs) (filled_field xs) ≡ xs
filled_back xs l =
    ap (take (length xs)) (sym (filled_whole xs l))
    ∙ take-append_seam xs (drop (length xs) (replicate 8 0))

-- ---- numbers

module _ (v : Tag × FieldData) (tag : Tag) (bytes : List ℕ) where
  -- one number of 4 bytes
  pub long_is : (n : ℕ) → v ≡ (tag, whole_data LONG bytes) → bytes ≡ le 4 n
      → v ≡ (tag, data_of (u32s (n ∷ [])))
  unfolding data_of
  long_is n h b = h ∙ ap (λ xs. (tag, whole_data LONG xs)) b

  -- one number of 2 bytes
  pub short_is : (n : ℕ) → v ≡ (tag, whole_data SHORT bytes) → bytes ≡ le 2 n
      → v ≡ (tag, data_of (u16s (n ∷ [])))
  unfolding data_of
  short_is n h b = h ∙ ap (λ xs. (tag, whole_data SHORT xs)) b

  -- two numbers of 2 bytes
  pub shorts_are : (m n : ℕ) → v ≡ (tag, whole_data SHORT bytes) → bytes ≡ le 2 m ++ le 2 n
      → v ≡ (tag, data_of (u16s (m ∷ n ∷ [])))
  unfolding data_of
  shorts_are m n h b = h ∙ ap (λ xs. (tag, whole_data SHORT xs)) b

  -- one fraction
  pub rational_is : (m n : ℕ) → v ≡ (tag, whole_data RATIONAL bytes) → bytes ≡ le 4 m ++ le 4 n
      → v ≡ (tag, data_of (rationals ((m, n) ∷ [])))
  unfolding data_of
  rational_is m n h b = h ∙ ap (λ xs. (tag, whole_data RATIONAL xs)) b

-- ---- a value in an array of eight bytes

module _ (v : Tag × FieldData) (tag : Tag) (type : «Type») (len : ℕ) (bytes : List ℕ) where
  abbrev kept : Tag × FieldData
  kept = (tag, record { field_type = type; count = len / type_size type; bytes = take len bytes })

  -- a call writes the value in the array in the same way as any other value
  kept_entry : (file : FileState) → len ≤ 8 → length bytes ≡ 8 → len % type_size type ≡ 0 → kept ≡ v
      → write_entry_bytes type (take len bytes) file ≡ write_entry (Ok v.1) file
  kept_entry file l w m h =
      let all : length (take len bytes) ≡ len = length-take-le len bytes (omega (arith, l, w)) in
      let same : whole_data type (take len bytes) ≡ v.1 =
      ap (λ n. record { field_type = type; count = n / type_size type; bytes = take len bytes }) all
      ∙ ap (λ x. x.1) h in
      whole_entry type (take len bytes) file (ap (λ n. n % type_size type) all ∙ m)
      ∙ ap (λ d. write_entry (Ok d) file) same

  pub kept_ends : (r : Result Field TiffError) (old new : FileState) → len ≤ 8 → length bytes ≡ 8
      → len % type_size type ≡ 0 → kept ≡ v
      → Ends (λ (field : Field). field) (write_entry_bytes type (take len bytes) old) r old new
      → Ends (λ (field : Field). field) (write_entry (Ok v.1) old) r old new
  kept_ends r old new l w m h t =
      subst (λ told. Ends (λ (field : Field). field) told r old new) (kept_entry old l w m h) t

-- ---- two parts of an array

-- the first part is in the array, and the second is put behind it
put_behind : (k : ℕ) (a b zeros x y : List ℕ) → length x ≡ k → drop k zeros ≡ [] → x ≡ a → y ≡ b
    → put_mid k k (x ++ zeros) y ≡ a ++ b
put_behind k a b zeros x y l z p q =
    let front : take k (x ++ zeros) ≡ x = take_at x zeros k l in
    let post : drop k (drop k (x ++ zeros)) ≡ [] = ap (drop k) (drop_at x zeros k l) ∙ z in
    (λ i. front i ++ (y ++ post i)) ∙ ap (λ ys. x ++ ys) (append-nil y) ∙ (λ i. p i ++ q i)

module _ (a b x y : List ℕ) where
  pub joined_shorts : length x ≡ 2 → x ≡ a → y ≡ b → put_mid 2 2 (x ++ 0 ∷ 0 ∷ []) y ≡ a ++ b
  joined_shorts l p q = put_behind 2 a b (0 ∷ 0 ∷ []) x y l refl p q

  pub joined_longs : length x ≡ 4 → x ≡ a → y ≡ b → put_mid 4 4 (x ++ 0 ∷ 0 ∷ 0 ∷ 0 ∷ []) y ≡ a ++ b
  joined_longs l p q = put_behind 4 a b (0 ∷ 0 ∷ 0 ∷ 0 ∷ []) x y l refl p q
