-- What each call of a directory leaves in a file that a model describes.
use Rattle.std.proofs.Common.{◌≡◌, ℕ, suc, ◌+◌, ◌*◌, ◌^◌, ◌<◌, ◌≤◌, ◌⊎◌, Bool, true, false, cond, List, [], ◌∷◌, ◌++◌, length, take, Option, Some, None, Result, Ok, Err, refl, ap, sym, ◌∙◌, inl, inr, subst, arith}
use Rattle.std.proofs.Math.Nat.{div-add-mod'}
use Rattle.std.proofs.lemmas.Bool.{leb-false, ltb-false}
use Rattle.std.proofs.lemmas.List.{length-take-le}
use Rattle.std.specs.Prelude.{◌/◌}
use Rattle.std.specs.FinMap.{len, entries}
use Rattle.std.specs.List.{list_any}
use Rattle.tiff_base.specs.lemmas.Common.{neither}
use Rattle.tiff_base.specs.declared.error.TiffError.{TiffError}
use Rattle.tiff_base.specs.declared.io.SinkFault.{SinkFault}
use Rattle.tiff_base.specs.declared.tags.ByteOrder.{ByteOrder}
use Rattle.tiff_base.specs.declared.tags.ByteOrder.TheVariants.{LittleEndian, BigEndian}
use Rattle.tiff_base.specs.declared.tags.FileKind.{FileKind}
use Rattle.tiff_base.specs.declared.tags.FileKind.TheVariants.{Classic, Big}
use Rattle.tiff_base.specs.declared.tags.«Type».{«Type»}
use Rattle.tiff_base.specs.Field.{Field, In, AreEntries}
use Rattle.tiff_base.specs.Types.{type_size}
use Rattle.tiff_value.specs.Data.{IsWhole}
use Rattle.tiff_value.specs.FileBytes.{offset_len, count_len}
use Rattle.tiff_value.specs.Model.{Model, IsLink, FileContains, with_link}
use Rattle.tiff_value.specs.WriteOps.{WriteOp, Appended, Supplied, Listed, Linked, bytes_after, all_appended, model_after}
use Rattle.tiff_value.specs.FileLaws.{AreListable, AreAppending, OpsFit}
use Rattle.tiff_value.specs.Fields.{data_in}
use Rattle.tiff_encode.specs.Machine.{FileState, OpenDirectory, WriteOutcome, WriteCall, does, by_cause, ◌>>=◌}
use Rattle.tiff_encode.specs.Causes.{unless_ended, is_past, is_past_count, end_of, order_cause, finish_cause}
use Rattle.tiff_encode.specs.Calls.{Offsets, offsets_of, links_to, chain_after, chains, finish}
use Rattle.tiff_encode.specs.Ends.{EndsAsDefined, LinkWriteFailed, Ends}
use Rattle.tiff_encode.specs.Leaves.{LeavesTorn, LeavesLinked}
use Rattle.tiff_value.specs.lemmas.File.WriteOps.{bytes_joined, ops_stand, ops_begun, ops_torn}
use Rattle.tiff_encode.proofs.CallFits.{caused_fits, finish_fits}

-- ---- links among the changes of a call

-- the number of changes that point a link
abbrev pub link_count : List WriteOp → ℕ
link_count [] = 0
link_count (Appended more ∷ ops) = link_count ops
link_count (Supplied supplied ∷ ops) = link_count ops
link_count (Listed fields ∷ ops) = link_count ops
link_count (Linked offset target ∷ ops) = suc (link_count ops)

pub count_joined : (ops more : List WriteOp)
    → link_count (ops ++ more) ≡ link_count ops + link_count more
count_joined [] more = omega arith
count_joined (Appended x ∷ ops) more = count_joined ops more
count_joined (Supplied x ∷ ops) more = count_joined ops more
count_joined (Listed x ∷ ops) more = count_joined ops more
count_joined (Linked offset target ∷ ops) more = let e = count_joined ops more in omega (arith, e)

-- changes that point no link only append
pub appending : (ops : List WriteOp) → link_count ops ≡ 0 → AreAppending ops
appending [] h = tt
appending (Appended x ∷ ops) h = appending ops h
appending (Supplied x ∷ ops) h = appending ops h
appending (Listed x ∷ ops) h = appending ops h
appending (Linked offset target ∷ ops) h = absurd (omega (arith, h))

-- changes with a link last have one link more than the changes before it
pub count_last : (ops before : List WriteOp) (offset target : ℕ)
    → ops ≡ before ++ Linked offset target ∷ []
    → link_count ops ≡ link_count before + 1
count_last ops before offset target h =
    ap (λ ds. link_count ds) h ∙ count_joined before (Linked offset target ∷ [])

-- ---- plain calls

-- A call makes its changes to the bytes only. A call that is refused changes nothing. At most one
-- of the changes points a link.
pub record IsPlain {A : Type 0} (told : WriteOutcome A) (file : FileState) : Type 0 where
  pub kind : told.next.kind ≡ file.kind
  pub bytes : told.next.bytes ≡ bytes_after file.kind file.bytes told.ops
  pub refused : (e : TiffError) → told.answer ≡ Err e → told.ops ≡ []
  pub links : link_count told.ops ≤ 1

-- a call that its checks may refuse is plain
caused_plain : {A : Type 0} (cause : Option TiffError) (call : WriteCall A) (file : FileState)
    → IsPlain (call file) file → IsPlain (by_cause cause call file) file
caused_plain None call file p = p
caused_plain (Some e) call file p =
    record { kind = refl; bytes = refl; refused = λ _ _. refl; links = omega arith }

-- a success is no error
pub ok_err : {A : Type 0} {x : A} {e : TiffError} → let a : Result A TiffError =
    Ok x in let b : Result A TiffError = Err e in a ≡ b → ⊥
ok_err h = cc

-- an error that refuses a call differs from no error
some_none : {e : TiffError} → let a : Option TiffError = Some e in a ≡ None → ⊥
some_none h = cc

-- ---- what a plain call leaves

-- a call that is refused leaves the file as it is
pub refused_leaves : {Y : Type 0} (told : WriteOutcome Y) (e : TiffError) (old new : FileState) (m : Model)
    → IsPlain told old → FileContains old.kind old.bytes m → EndsAsDefined told (Err e) new
    → FileContains old.kind new.bytes m
refused_leaves told e old new m p s t =
    let same : new.bytes ≡ old.bytes =
    ap (λ f. f.bytes) t.state ∙ p.bytes
    ∙ ap (bytes_after old.kind old.bytes) (p.refused e t.answer) in
    subst (λ b. FileContains old.kind b m) (sym same) s

-- after a success, the model with the changes describes the file
told_leaves : {Y : Type 0} (told : WriteOutcome Y) (y : Y) (old new : FileState) (m : Model)
    → IsPlain told old
    → OpsFit old.kind old.bytes m told.ops → FileContains old.kind old.bytes m
    → EndsAsDefined told (Ok y) new
    → FileContains old.kind new.bytes (model_after old.kind old.bytes m told.ops)
told_leaves told y old new m p f s t =
    let same : new.bytes ≡ bytes_after old.kind old.bytes told.ops =
    ap (λ f. f.bytes) t.state ∙ p.bytes in
    subst (λ b. FileContains old.kind b (model_after old.kind old.bytes m told.ops)) (sym same)
    (ops_stand old.kind old.bytes m told.ops s f)

-- after a partial append, the earlier model still describes the file
pub begun_leaves : (ops : List WriteOp) (count : ℕ) (old : FileState) (bytes : List ℕ) (m : Model)
    → bytes ≡ old.bytes ++ take count (all_appended old.kind ops)
    → FileContains old.kind old.bytes m → FileContains old.kind bytes m
begun_leaves ops count old bytes m h s =
    subst (λ b. FileContains old.kind b m) (sym h) (ops_begun old.kind old.bytes m ops count s)

-- a link that the sink fails to write in full has some number in its field
pub torn_as : {Y : Type 0} (told : WriteOutcome Y) (e : TiffError) (old new : FileState) (m : Model)
    → OpsFit old.kind old.bytes m told.ops → FileContains old.kind old.bytes m
    → (t : LinkWriteFailed told.ops e old new) → AreAppending t.before
    → LeavesTorn told e old new m
torn_as told e old new m f s t a =
    let fit : OpsFit old.kind old.bytes m (t.before ++ Linked t.offset t.target ∷ []) =
    subst (λ ds. OpsFit old.kind old.bytes m ds) t.last f in
    let x = ops_torn old.kind old.bytes m t.before t.offset t.target t.count a s fit in
    record {
      torn = t;
      holds = x.0;
      stands =
          subst (λ b. FileContains old.kind b (with_link old.kind (model_after old.kind old.bytes m t.before) t.offset x.0))
          (sym (ap (λ f. f.bytes) t.state)) x.1;
    }

pub torn_leaves : {Y : Type 0} (told : WriteOutcome Y) (e : TiffError) (old new : FileState)
    (m : Model) → IsPlain told old
    → OpsFit old.kind old.bytes m told.ops → FileContains old.kind old.bytes m
    → LinkWriteFailed told.ops e old new
    → LeavesTorn told e old new m
torn_leaves told e old new m p f s t =
    let l = p.links in
    let few : link_count t.before ≡ 0 =
    omega (arith, l, count_last told.ops t.before t.offset t.target t.last) in
    torn_as told e old new m f s t (appending t.before few)

-- a call that may patch a link as its last change
linked_leaves : {X Y : Type 0} (view : X → Y) (told : WriteOutcome Y) (r : Result X TiffError)
    (old new : FileState) (m : Model)
    → IsPlain told old → OpsFit old.kind old.bytes m told.ops → FileContains old.kind old.bytes m
    → Ends view told r old new → LeavesLinked told r old new m
linked_leaves view told (Ok x) old new m p f s e = told_leaves told (view x) old new m p f s e
linked_leaves view told (Err fault) old new m p f s e =
    elim e as (λ _. FileContains old.kind new.bytes m ⊎ LeavesTorn told fault old new m) [
      | inl t ↦ inl (refused_leaves told fault old new m p s t)
      | inr e ↦ elim e [
        | inl c ↦ inl (begun_leaves told.ops c.count old new.bytes m (ap (λ f. f.bytes) c.state) s)
        | inr e ↦ elim e [
          | inl t ↦ inr (torn_leaves told fault old new m p f s t)
          | inr c ↦ inl (begun_leaves told.ops c.count old new.bytes m (ap (λ f. f.bytes) c.state) s)
        ]
      ]
    ]

-- ---- writing a value

-- if nothing refuses a call, its own checks return no error
pub unended : (fault : Option SinkFault) (cause : Option TiffError)
    → unless_ended fault cause ≡ None → cause ≡ None
unended None cause h = h
unended (Some fault) cause h = absurd (some_none h)

-- if nothing refuses bytes of a byte order, the other checks return no error
pub in_order : (order : ByteOrder) (cause : Option TiffError) → order_cause order cause ≡ None
    → cause ≡ None
in_order LittleEndian cause h = h
in_order BigEndian cause h = absurd (some_none h)

-- if the tests return no error, the first test isn't met and the others return none
pub passed : (b : Bool) (e : TiffError) (cause : Option TiffError) → cond b (Some e) cause ≡ None
    → (b ≡ false) × (cause ≡ None)
passed true e cause h = absurd (some_none h)
passed false e cause h = (refl, h)

-- the whole values in some bytes are no longer than the bytes
values_within : (n size : ℕ) → n / size * size ≤ n
values_within n size = omega (arith, div-add-mod' n size)

-- the data in some bytes are whole values
pub data_whole : (type : «Type») (bytes : List ℕ) → IsWhole (data_in type bytes)
data_whole type bytes =
    length-take-le (length bytes / type_size type * type_size type) bytes
    (values_within (length bytes) (type_size type))

-- the data in some bytes have no more bytes than these
pub data_short : (type : «Type») (bytes : List ℕ) → length bytes < 2 ^ 64
    → length (data_in type bytes).bytes < 2 ^ 64
data_short type bytes l =
    omega (arith, l, data_whole type bytes, values_within (length bytes) (type_size type))

-- ---- the end of a directory

-- if no entry of a list exceeds the kind's limit, each entry is within it
none_past : (kind : FileKind) (es : List (ℕ × Field))
    → list_any (λ entry. is_past kind entry.1.count) es ≡ false
    → (e : ℕ × Field) → In e es → is_past kind e.1.count ≡ false
none_past kind [] h e i = absurd i
none_past kind (x ∷ xs) h e i =
    let both =
    neither (is_past kind x.1.count) (list_any (λ entry. is_past kind entry.1.count) xs) h in
    elim i as (λ _. is_past kind e.1.count ≡ false) [
      | inl s ↦ ap (λ y. is_past kind y.1.count) s ∙ both.0
      | inr j ↦ none_past kind xs both.1 e j
    ]

-- a count within the kind's limit fits its width
count_fits : (kind : FileKind) (n : ℕ) → is_past kind n ≡ false → n < 2 ^ 64
    → n < 256 ^ offset_len kind
count_fits Classic n h l = leb-false (2 ^ 32) n h
count_fits Big n h l = l

-- a directory has no more entries than it can count
few_fit : (kind : FileKind) (n : ℕ) → is_past_count kind n ≡ false → n < 2 ^ 64
    → n < 256 ^ count_len kind
few_fit Classic n h l = omega (arith, ltb-false 65535 n h)
few_fit Big n h l = l

-- if nothing refuses the end of a directory, its entries can be written
pub listable : (file : FileState) (d : OpenDirectory) → AreEntries d.fields → len d.fields < 2 ^ 64
    → finish_cause file d ≡ None → AreListable file.kind d.fields
unfolding finish_cause
listable file d a l h =
    let tests = passed _ _ _ (unended file.fault _ h) in
    let few = neither (is_past_count file.kind (len d.fields)) _ tests.0 in
    let each =
    neither (list_any (λ entry. is_past file.kind entry.1.count) (entries d.fields)) _ few.1 in
    record {
      each = λ e i.
          let w = a e i in
          record {
            tag_fits = w.tag;
            count =
                count_fits file.kind e.1.count (none_past file.kind (entries d.fields) each.0 e i) w.count;
            whole = w.whole;
          };
      few = few_fit file.kind (len d.fields) few.0 l;
    }

-- a directory that continues the chain keeps the kind of the file
chain_kind : (chained : Bool) (offsets : Offsets) (file : FileState)
    → (chain_after file chained offsets).kind ≡ file.kind
chain_kind true offsets file = refl
chain_kind false offsets file = refl

chain_bytes : (chained : Bool) (offsets : Offsets) (file : FileState)
    → (chain_after file chained offsets).bytes ≡ file.bytes
chain_bytes true offsets file = refl
chain_bytes false offsets file = refl

chained_plain : (chained : Bool) (offsets : Offsets) (ops : List WriteOp) (file : FileState)
    → link_count ops ≤ 1
    → IsPlain ((does ops >>= (λ _. chains chained offsets)) file) file
chained_plain chained offsets ops file l =
    let done : FileState = record file { bytes = bytes_after file.kind file.bytes ops } in
    record {
      kind = chain_kind chained offsets done;
      bytes = chain_bytes chained offsets done ∙ sym (bytes_joined file.kind file.bytes ops []);
      refused = λ e h. absurd (ok_err h);
      links = omega (arith, count_joined ops [], l);
    }

-- a directory has at most one link in its parent
parent_links : (parent : Option ℕ) (offset : ℕ) → link_count (links_to parent offset) ≤ 1
parent_links None offset = omega arith
parent_links (Some parent) offset = omega arith

-- `finish` is plain
pub finish_plain : (d : OpenDirectory) (file : FileState) → IsPlain (finish d file) file
unfolding finish
finish_plain d file =
    let offsets : Offsets = offsets_of file.kind (end_of file) (len d.fields) in
    let ops : List WriteOp = Listed d.fields ∷ links_to d.parent (end_of file) in
    caused_plain (finish_cause file d) (does ops >>= (λ _. chains d.chained offsets)) file
    (chained_plain d.chained offsets ops file (parent_links d.parent (end_of file)))

pub entries_fit : (file : FileState) (m : Model) (d : OpenDirectory) → AreEntries d.fields
    → len d.fields < 2 ^ 64
    → ((offset : ℕ) → d.parent ≡ Some offset → IsLink file.kind m offset) → end_of file < 2 ^ 64
    → OpsFit file.kind file.bytes m (finish d file).ops
unfolding finish
entries_fit file m d a n p l =
    let offsets : Offsets = offsets_of file.kind (end_of file) (len d.fields) in
    let ops : List WriteOp = Listed d.fields ∷ links_to d.parent (end_of file) in
    let call : WriteCall Offsets = does ops >>= (λ _. chains d.chained offsets) in
    caused_fits (finish_cause file d) call file m
    (λ h. subst (λ c. OpsFit file.kind file.bytes m (by_cause c call file).ops) h
    (finish_fits file m d (listable file d a n h) p l))

pub finish_leaves : {X : Type 0} (view : X → Offsets) (r : Result X TiffError) (old new : FileState)
    (m : Model)
    (d : OpenDirectory) → AreEntries d.fields → len d.fields < 2 ^ 64
    → ((offset : ℕ) → d.parent ≡ Some offset → IsLink old.kind m offset) → end_of old < 2 ^ 64
    → FileContains old.kind old.bytes m
    → Ends view (finish d old) r old new → LeavesLinked (finish d old) r old new m
finish_leaves view r old new m d a n p l s e =
    linked_leaves view (finish d old) r old new m (finish_plain d old) (entries_fit old m d a n p l) s e
