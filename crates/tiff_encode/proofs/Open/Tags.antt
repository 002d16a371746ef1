-- What a model holds of a directory stays held if a call writes tags.
use Rattle.std.proofs.Common.{◌≡◌, ℕ, Bool, true, false, cond, List, [], ◌∷◌, ◌++◌, length, Option, Some, None, Result, Ok, Err, refl, ap, sym, ◌∙◌, subst, inl, arith}
use Rattle.std.proofs.lemmas.List.{length-take-le, length-append}
use Rattle.std.specs.Prelude.{replicate}
use Rattle.std.specs.List.{list_any}
use Rattle.tiff_base.specs.lemmas.Common.{neither}
use Rattle.tiff_base.specs.declared.error.TiffError.{TiffError}
use Rattle.tiff_base.specs.declared.tags.FileKind.{FileKind}
use Rattle.tiff_base.specs.declared.tags.Tag.{Tag}
use Rattle.tiff_base.specs.Field.{Field}
use Rattle.tiff_base.specs.Number.{le}
use Rattle.tiff_base.specs.Tags.{tag_number}
use Rattle.tiff_value.specs.Data.{FieldData, Scalars, data_of}
use Rattle.tiff_page.specs.Checks.{is_page_tag}
use Rattle.tiff_value.specs.Model.{In, SuppliedField, Model}
use Rattle.tiff_value.specs.WriteOps.{WriteOp, Appended, Supplied, bytes_after, model_after}
use Rattle.tiff_value.specs.Fields.{is_long, filled_field, field_at}
use Rattle.tiff_encode.specs.Machine.{FileState, OpenDirectory, WriteOutcome, WriteCall, gives, by_cause, and_then, ◌>>=◌}
use Rattle.tiff_encode.specs.Causes.{end_of, write_tag_cause}
use Rattle.tiff_encode.specs.Calls.{with_field, placed_field, write_entry, write_tag, write_tags}
use Rattle.tiff_encode.specs.GivenValues as given_values
use Rattle.tiff_encode.specs.GivenValues.{Value, entry_of, tag_of}
use Rattle.tiff_encode.specs.Held.{Given, HasValues, HoldsValues}
use Rattle.tiff_encode.specs.Open.{model_by}
use Rattle.tiff_base.specs.lemmas.Slices.{ok_inj, length-le}
use Rattle.tiff_value.specs.lemmas.File.WriteOps.{model_joined, ops_append, ops_grow}
use Rattle.tiff_encode.proofs.Joining.{IsAdding, Adds, adding, entry_adds, tag_adds, answers_adding, bind_adding}
use Rattle.tiff_encode.proofs.Given.{IsLocal}
use Rattle.tiff_encode.proofs.Guarding.{tag_called, value_adds}
use Rattle.tiff_encode.proofs.Open.Held.{holds_grown, set, set_local, set_held, other_held}

-- ---- calls that succeed

-- an error is no success
pub no_answer : {A : Type 0} {e : TiffError} {x : A} → let a : Result A TiffError =
    Err e in let b : Result A TiffError = Ok x in a ≡ b → ⊥
no_answer h = cc

-- the first call succeeds, and then the second call
going_on_held : {A B : Type 0} (r : Result A TiffError) (ops : List WriteOp) (next : FileState)
    (rest : A → WriteCall B) (file : FileState)
    (m : Model) (P : Model → Type 0) (y : B) → next.kind ≡ file.kind
    → next.bytes ≡ bytes_after file.kind file.bytes ops
    → (and_then r ops next rest).answer ≡ Ok y
    → ((x : A) → r ≡ Ok x → (rest x next).answer ≡ Ok y
    → P (model_by next (model_after file.kind file.bytes m ops) (rest x next)))
    → P (model_after file.kind file.bytes m (and_then r ops next rest).ops)
going_on_held (Err e) ops next rest file m P y k b h f = absurd (no_answer h)
going_on_held (Ok x) ops next rest file m P y k b h f =
    let after : Model = model_after file.kind file.bytes m ops in
    subst P ((λ i. model_after (k i) (b i) after (rest x next).ops)
    ∙ sym (model_joined file.kind file.bytes m ops (rest x next).ops))
    (f x refl h)

-- If the first call appends, both calls leave what the second call leaves.
pub both_held : {A B : Type 0} (call : WriteCall A) (rest : A → WriteCall B) (file : FileState)
    (m : Model) (P : Model → Type 0) (y : B)
    → IsAdding (call file) file → ((call >>= rest) file).answer ≡ Ok y
    → ((x : A) → (call file).answer ≡ Ok x → (rest x (call file).next).answer ≡ Ok y
    → P (model_by (call file).next (model_by file m (call file)) (rest x (call file).next)))
    → P (model_by file m ((call >>= rest) file))
both_held call rest file m P y a h f =
    going_on_held (call file).answer (call file).ops (call file).next rest file m P y
    (ap (λ s. s.kind) a.next)
    (ap (λ s. s.bytes) a.next ∙ sym (ops_append file.kind file.bytes (call file).ops a.appending)) h f

-- nothing refuses the call
pub caused_held : {A : Type 0} (cause : Option TiffError) (call : WriteCall A) (file : FileState)
    (m : Model) (P : Model → Type 0) (y : A)
    → (by_cause cause call file).answer ≡ Ok y
    → (cause ≡ None → (call file).answer ≡ Ok y → P (model_by file m (call file)))
    → P (model_by file m (by_cause cause call file))
caused_held None call file m P y h f = f refl h
caused_held (Some e) call file m P y h f = absurd (no_answer h)

-- ---- a value that a call writes

-- the value field of a written value has eight bytes
whole_by : (long : Bool) (offset : ℕ) (bytes : List ℕ)
    → length (cond long (le 8 offset) (filled_field bytes)) ≡ 8
whole_by true offset bytes = length-le 0 8 offset
whole_by false offset bytes =
    length-take-le 8 (bytes ++ replicate 8 0) (omega (arith, length-append bytes (replicate 8 0)))

-- the model contains the written value
supplied_by : (long : Bool) (kind : FileKind) (bytes : List ℕ) (m : Model) (h : SuppliedField) (more : List ℕ)
    → In h (model_after kind bytes m (cond long (Appended more ∷ Supplied h ∷ []) (Supplied h ∷ [])
    ++ [])).supplied
supplied_by true kind bytes m h more = inl refl
supplied_by false kind bytes m h more = inl refl

-- a written value is a field of the model
placed_held : (values : Scalars) (file : FileState) (m : Model) (field : Field)
    → (placed_field (data_of values) file).answer ≡ Ok field
    → HasValues (model_by file m (placed_field (data_of values) file)) field values
placed_held values file m field h =
    let v : FieldData = data_of values in
    let f : Field = field_at file.kind (end_of file) v in
    let is : f ≡ field = ok_inj f field h in
    subst (λ x. HasValues (model_by file m (placed_field v file)) x values) is (record {
      field_type = refl;
      count = refl;
      whole = whole_by (is_long file.kind v) (end_of file) v.bytes;
      supplied =
          supplied_by (is_long file.kind v) file.kind file.bytes m (record { field = f; bytes = v.bytes }) v.bytes;
    })

-- a value written by `write_entry` is a field of the model
entry_held : (values : Scalars) (file : FileState) (m : Model) (field : Field)
    → (write_entry (Ok (data_of values)) file).answer ≡ Ok field
    → HasValues (model_by file m (write_entry (Ok (data_of values)) file)) field values
unfolding write_entry
entry_held values file m field h =
    let v : FieldData = data_of values in
    caused_held (write_tag_cause file (Ok v)) (placed_field v) file m
    (λ n. HasValues n field values) field h (λ _ a. placed_held values file m field a)

-- ---- tags

-- the directory holds the values of a written tag
pub tag_held : (d : OpenDirectory) (t : Tag) (values : Scalars) (file : FileState) (m : Model)
    (given : Given) (next : OpenDirectory)
    → HoldsValues m d.fields given → (write_tag d t (Ok (data_of values)) file).answer ≡ Ok next
    → HoldsValues (model_by file m (write_tag d t (Ok (data_of values)) file)) next.fields
    (set given (tag_number t) (Some values))
unfolding write_tag
tag_held d t values file m given next o h =
    let value : Result FieldData TiffError = Ok (data_of values) in
    let later : Given = set given (tag_number t) (Some values) in
    both_held (write_entry value) (λ field. gives (with_field d t field)) file m
    (λ n. HoldsValues n next.fields later) next
    (adding (write_entry value file) file (entry_adds value file)) h
    (λ field a b.
    let n : Model = model_by file m (write_entry value file) in
    let grown : HoldsValues n d.fields given =
    holds_grown m n d.fields given (ops_grow file.kind file.bytes m (write_entry value file).ops) o in
    subst (λ x. HoldsValues n x.fields later) (ok_inj (with_field d t field) next b)
    (set_held n d.fields given (tag_number t) field values (entry_held values file m field a) grown))

-- the values after some tags are written
abbrev pub after : Given → List (Tag × Scalars) → Given
after given [] = given
after given (v ∷ values) = after (set given (tag_number v.0) (Some v.1)) values

pub after_local : (values : List (Tag × Scalars)) → IsLocal (λ given. after given values)
after_local [] f g t e = e
after_local (v ∷ values) f g t e =
    let n : ℕ = tag_number v.0 in
    after_local values (set f n (Some v.1)) (set g n (Some v.1)) t (set_local n (Some v.1) f g t e)

-- the directory holds the values of some written tags
pub tags_held : (d : OpenDirectory) (values : List (Tag × Scalars)) (file : FileState) (m : Model)
    (given : Given) (next : OpenDirectory)
    → HoldsValues m d.fields given → (write_tags d values file).answer ≡ Ok next
    → HoldsValues (model_by file m (write_tags d values file)) next.fields (after given values)
tags_held d [] file m given next o h = subst (λ x. HoldsValues m x.fields given) (ok_inj d next h) o
tags_held d (v ∷ values) file m given next o h =
    let call : WriteCall OpenDirectory = write_tag d v.0 (Ok (data_of v.1)) in
    let later : Given = set given (tag_number v.0) (Some v.1) in
    both_held call (λ x. write_tags x values) file m (λ n. HoldsValues n next.fields (after later values)) next
    (adding (call file) file (tag_adds d v.0 (Ok (data_of v.1)) file)) h
    (λ x a b. tags_held x values (call file).next (model_by file m (call file)) later next (tag_held d v.0 v.1 file m given x o a) b)

-- writing tags only appends
pub tags_adding : (d : OpenDirectory) (values : List (Tag × Scalars)) (file : FileState)
    → IsAdding (write_tags d values file) file
tags_adding d [] file = answers_adding (Ok d) file
tags_adding d (v ∷ values) file =
    let call : WriteCall OpenDirectory = write_tag d v.0 (Ok (data_of v.1)) in
    bind_adding call (λ next. write_tags next values) file
    (adding (call file) file (tag_adds d v.0 (Ok (data_of v.1)) file))
    (λ next _. tags_adding next values (call file).next)

-- the values after two lists of tags in sequence
pub after_joined : (given : Given) (xs ys : List (Tag × Scalars))
    → after given (xs ++ ys) ≡ after (after given xs) ys
after_joined given [] ys = refl
after_joined given (x ∷ xs) ys = after_joined (set given (tag_number x.0) (Some x.1)) xs ys

-- ---- tags that a page isn't read by

-- the values stay held if a call writes a tag that a page isn't read by
other_by : (call : WriteCall Field) (d : OpenDirectory) (t : Tag) (file : FileState) (m : Model)
    (given : Given) (next : OpenDirectory)
    → Adds (call file) file → is_page_tag (tag_number t) ≡ false → HoldsValues m d.fields given
    → ((call >>= (λ field. gives (with_field d t field))) file).answer ≡ Ok next
    → HoldsValues (model_by file m ((call >>= (λ field. gives (with_field d t field))) file)) next.fields given
other_by call d t file m given next a q o h =
    both_held call (λ field. gives (with_field d t field)) file m
    (λ n. HoldsValues n next.fields given) next (adding (call file) file a) h
    (λ field _ b.
    let n : Model = model_by file m (call file) in
    let grown : HoldsValues n d.fields given =
    holds_grown m n d.fields given (ops_grow file.kind file.bytes m (call file).ops) o in
    subst (λ x. HoldsValues n x.fields given) (ok_inj (with_field d t field) next b)
    (other_held n d.fields given (tag_number t) field q grown))

pub other_tag_held : (d : OpenDirectory) (t : Tag) (v : Value) (file : FileState) (m : Model)
    (given : Given) (next : OpenDirectory)
    → is_page_tag (tag_number t) ≡ false → HoldsValues m d.fields given
    → (tag_of d t v file).answer ≡ Ok next
    → HoldsValues (model_by file m (tag_of d t v file)) next.fields given
other_tag_held d t v file m given next q o =
    let P : WriteOutcome OpenDirectory → Type 0 = λ told. told.answer ≡ Ok next
    → HoldsValues (model_by file m told) next.fields given in
    subst P (sym (tag_called d t v file)) (other_by (entry_of v) d t file m given next (value_adds v file) q o)

-- several tags that a page isn't read by
pub others_held : (d : OpenDirectory) (values : List (Tag × Scalars)) (file : FileState) (m : Model)
    (given : Given) (next : OpenDirectory)
    → list_any (λ v. is_page_tag (tag_number v.0)) values ≡ false → HoldsValues m d.fields given
    → (write_tags d values file).answer ≡ Ok next
    → HoldsValues (model_by file m (write_tags d values file)) next.fields given
others_held d [] file m given next q o h =
    subst (λ x. HoldsValues m x.fields given) (ok_inj d next h) o
others_held d (v ∷ values) file m given next q o h =
    let call : WriteCall OpenDirectory = write_tag d v.0 (Ok (data_of v.1)) in
    let each =
    neither (is_page_tag (tag_number v.0)) (list_any (λ w. is_page_tag (tag_number w.0)) values) q in
    both_held call (λ x. write_tags x values) file m (λ n. HoldsValues n next.fields given) next
    (adding (call file) file (tag_adds d v.0 (Ok (data_of v.1)) file)) h
    (λ x a b.
    others_held x values (call file).next (model_by file m (call file)) given next each.1
    (other_tag_held d v.0 (given_values.Given (Ok (data_of v.1))) file m given x each.0 o a) b)
