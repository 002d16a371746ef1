-- If nothing refuses `resolution`, nothing refuses any of its tags.
use Rattle.std.proofs.Common.{◌≡◌, ℕ, ◌+◌, ◌^◌, ◌≤◌, Bool, true, false, cond, List, [], ◌∷◌, length, Some, None, Ok, Err, refl, ap, sym, ◌∙◌, arith, length-append}
use Rattle.std.proofs.lemmas.Bool.{leb-false, lt-leb}
use Rattle.tiff_base.specs.declared.error.TiffError.{TiffError}
use Rattle.tiff_base.specs.declared.error.TiffError.TheVariants.{IntSizeError}
use Rattle.tiff_base.specs.declared.tags.FileKind.{FileKind}
use Rattle.tiff_base.specs.declared.tags.FileKind.TheVariants.{Classic, Big}
use Rattle.tiff_base.specs.declared.tags.ResolutionUnit.{ResolutionUnit}
use Rattle.tiff_base.specs.declared.tags.Tag.{Tag}
use Rattle.tiff_base.specs.declared.tags.Tag.TheVariants as tag
use Rattle.tiff_base.specs.Field.{Field}
use Rattle.tiff_value.specs.Data.{FieldData, Scalars, units, rationals, data_of}
use Rattle.tiff_value.specs.Model.{SuppliedField}
use Rattle.tiff_value.specs.WriteOps.{Appended, Supplied, bytes_after}
use Rattle.tiff_value.specs.Fields.{is_long, field_at}
use Rattle.tiff_encode.specs.Machine.{FileState, OpenDirectory, WriteOutcome, WriteCall, answers, gives, by_cause, ◌>>=◌}
use Rattle.tiff_encode.specs.Placing.{field_test}
use Rattle.tiff_encode.specs.Causes.{end_of, is_past, write_tag_cause, resolution_cause}
use Rattle.tiff_encode.specs.Calls.{with_field, placed_field, write_entry, write_tag, write_tags, resolution_tags}
use Rattle.tiff_encode.proofs.Calling.{fresh_cause}
use Rattle.tiff_encode.proofs.Guarding.{fresh_by}
use Rattle.tiff_encode.proofs.Leaving.{passed, unended}
use Rattle.tiff_encode.proofs.Open.Tags.{no_answer}

-- ---- a tag that nothing refuses

module _ (d : OpenDirectory) (t : Tag) (value : FieldData) (file : FileState) where
  -- the outcome of writing a tag that nothing refuses
  abbrev told_so : WriteOutcome OpenDirectory
  told_so = ((answers (Ok value) >>= placed_field) >>= (λ field. gives (with_field d t field))) file

  tag_so : write_tag_cause file (Ok value) ≡ None → write_tag d t (Ok value) file ≡ told_so
  unfolding write_tag write_entry
  tag_so c =
      let call : WriteCall Field = answers (Ok value) >>= placed_field in
      ap (λ cause. ((λ f. by_cause cause call f)
      >>= (λ field. gives (with_field d t field))) file) c

-- if nothing refuses the first tag and writing all tags fails, writing the other tags fails
rest_refused : (d : OpenDirectory) (t : Tag) (value : Scalars) (values : List (Tag × Scalars))
    (file : FileState) (e : TiffError)
    → write_tag_cause file (Ok (data_of value)) ≡ None
    → (write_tags d ((t, value) ∷ values) file).answer ≡ Err e
    → (write_tags (with_field d t (field_at file.kind (end_of file) (data_of value))) values (told_so d t (data_of value) file).next).answer ≡ Err e
rest_refused d t value values file e c h =
    sym (ap (λ told. (((λ (f : FileState). told) >>= (λ next. write_tags next values)) file).answer) (tag_so d t (data_of value) file c)) ∙ h

-- the length of a file with a written value
grown_len : (b : Bool) (kind : FileKind) (bytes xs : List ℕ) (h : SuppliedField)
    → length (bytes_after kind bytes (cond b (Appended xs ∷ Supplied h ∷ []) (Supplied h ∷ [])))
    ≡ length bytes + cond b (length xs) 0
grown_len true kind bytes xs h = length-append bytes xs
grown_len false kind bytes xs h = omega arith

at_most : (b : Bool) (n : ℕ) → cond b n 0 ≤ n
at_most true n = omega arith
at_most false n = omega arith

-- ---- a unit, and a fraction

-- if the kind can hold a length, it can hold each shorter one
below : (kind : FileKind) (m n : ℕ) → m ≤ n → is_past kind n ≡ false → is_past kind m ≡ false
below Classic m n l h = let b = leb-false (2 ^ 32) n h in lt-leb (2 ^ 32) m (omega (arith, b, l))
below Big m n l h = refl

unit_test : (kind : FileKind) (end : ℕ) → field_test kind end 1 2 ≡ None
unfolding field_test
unit_test Classic end = refl
unit_test Big end = refl

fraction_test : (kind : FileKind) (end : ℕ) → is_past kind end ≡ false
    → field_test kind end 1 8 ≡ None
unfolding field_test
fraction_test Classic end h = ap (λ b. cond b (Some IntSizeError) None) h
fraction_test Big end h = refl

unit_short : (kind : FileKind) (u : ResolutionUnit)
    → is_long kind (data_of (units (u ∷ []))) ≡ false
unfolding data_of
unit_short Classic u = refl
unit_short Big u = refl

unit_allowed : (file : FileState) (u : ResolutionUnit) → file.fault ≡ None
    → write_tag_cause file (Ok (data_of (units (u ∷ [])))) ≡ None
unfolding write_tag_cause field_test data_of
unit_allowed file u f = fresh_cause file.fault _ f ∙ unit_test file.kind (end_of file)

fraction_allowed : (file : FileState) (value : ℕ × ℕ) → file.fault ≡ None
    → is_past file.kind (end_of file) ≡ false
    → write_tag_cause file (Ok (data_of (rationals (value ∷ [])))) ≡ None
unfolding write_tag_cause field_test data_of
fraction_allowed file value f h =
    fresh_cause file.fault _ f ∙ fraction_test file.kind (end_of file) h

fraction_len : (value : ℕ × ℕ) → length (data_of (rationals (value ∷ []))).bytes ≡ 8
unfolding data_of
fraction_len value = refl

-- ---- the three tags

-- the unit keeps the length of the file, and a fraction adds at most eight bytes
unit_end : (d : OpenDirectory) (t : Tag) (u : ResolutionUnit) (file : FileState)
    → end_of (told_so d t (data_of (units (u ∷ []))) file).next ≡ end_of file
unit_end d t u file =
    let v : FieldData = data_of (units (u ∷ [])) in
    let h : SuppliedField =
    record { field = field_at file.kind (end_of file) v; bytes = v.bytes } in
    let l = grown_len (is_long file.kind v) file.kind file.bytes v.bytes h in
    let z : cond (is_long file.kind v) (length v.bytes) 0 ≡ 0 =
    ap (λ b. cond b (length v.bytes) 0) (unit_short file.kind u) in
    omega (arith, l, z)

fraction_end : (d : OpenDirectory) (t : Tag) (value : ℕ × ℕ) (file : FileState)
    → end_of (told_so d t (data_of (rationals (value ∷ []))) file).next ≤ end_of file + 8
fraction_end d t value file =
    let v : FieldData = data_of (rationals (value ∷ [])) in
    let h : SuppliedField =
    record { field = field_at file.kind (end_of file) v; bytes = v.bytes } in
    let l = grown_len (is_long file.kind v) file.kind file.bytes v.bytes h in
    let m = at_most (is_long file.kind v) (length v.bytes) in
    omega (arith, l, m, fraction_len value)

pub never_refused : (d : OpenDirectory) (u : ResolutionUnit) (value : ℕ × ℕ) (file : FileState)
    (e : TiffError) → resolution_cause file ≡ None
    → (write_tags d (resolution_tags u value) file).answer ≡ Err e → ⊥
unfolding resolution_cause
never_refused d u value file e c h =
    let fresh : file.fault ≡ None = fresh_by file.fault _ c in
    let far : is_past file.kind (end_of file + 8) ≡ false =
    (passed _ _ _ (unended file.fault _ c)).0 in
    let rational : Scalars = rationals (value ∷ []) in
    let unit : FieldData = data_of (units (u ∷ [])) in
    let one : FileState = (told_so d tag.ResolutionUnit unit file).next in
    let first : OpenDirectory =
    with_field d tag.ResolutionUnit (field_at file.kind (end_of file) unit) in
    let two : FileState = (told_so first tag.XResolution (data_of rational) one).next in
    let second : OpenDirectory =
    with_field first tag.XResolution (field_at one.kind (end_of one) (data_of rational)) in
    let a = unit_end d tag.ResolutionUnit u file in
    let b = fraction_end first tag.XResolution value one in
    let near : is_past file.kind (end_of one) ≡ false =
    below file.kind (end_of one) (end_of file + 8) (omega (arith, a)) far in
    let last : is_past file.kind (end_of two) ≡ false =
    below file.kind (end_of two) (end_of file + 8) (omega (arith, a, b)) far in
    let x =
    rest_refused d tag.ResolutionUnit (units (u ∷ [])) ((tag.XResolution, rational)
    ∷ (tag.YResolution, rational) ∷ []) file e (unit_allowed file u fresh) h in
    let y =
    rest_refused first tag.XResolution rational ((tag.YResolution, rational)
    ∷ []) one e (fraction_allowed one value fresh near) x in
    no_answer (sym (rest_refused second tag.YResolution rational [] two e (fraction_allowed two value fresh last) y))
