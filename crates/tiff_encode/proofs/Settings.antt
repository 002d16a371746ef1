-- How calls end that set the tags and the layout of an open image.
use Rattle.std.proofs.Common.{◌≡◌, ℕ, ◌+◌, cond, List, [], ◌∷◌, ◌++◌, length, drop, Option, Some, None, Ok, Err, refl, ap, sym, ◌∙◌, subst, reverse}
use Rattle.std.proofs.lemmas.List.{reverse-append}
use Rattle.std.specs.FinMap.{FinMap, empty, insert, entries, from_entries}
use Rattle.std.specs.List.{fold}
use Rattle.std.specs.Prelude.{nat_lt}
use Rattle.std.specs.Ordering.{nat_cmp}
use Rattle.tiff_base.specs.declared.error.TiffError.{TiffError}
use Rattle.tiff_base.specs.declared.error.TiffError.TheVariants.{IoError, IntSizeError, UsageError, OutOfMemory}
use Rattle.tiff_base.specs.declared.io.IoKind.TheVariants.{InvalidInput}
use Rattle.tiff_base.specs.declared.error.UsageError.TheVariants.{ReconfiguredAfterImageWrite}
use Rattle.tiff_base.specs.declared.tags.ExtraSamples.{ExtraSamples}
use Rattle.tiff_base.specs.declared.tags.FileKind.{FileKind}
use Rattle.tiff_base.specs.declared.tags.FileKind.TheVariants.{Classic, Big}
use Rattle.tiff_base.specs.declared.tags.Tag.{Tag}
use Rattle.tiff_base.specs.declared.tags.Tag.TheVariants as tag
use Rattle.tiff_base.specs.declared.tags.«Type».TheVariants.{SHORT}
use Rattle.tiff_base.specs.Directory.{last_of_each}
use Rattle.tiff_base.specs.Field.{Field}
use Rattle.tiff_base.specs.Number.{le}
use Rattle.tiff_base.specs.Tags.{extra_number}
use Rattle.tiff_value.specs.ColorType.{is_packed}
use Rattle.tiff_value.specs.Data.{FieldData, Scalars, extras, rationals, u32s, data_of}
use Rattle.tiff_value.specs.ValueLaws.{each_whole}
use Rattle.tiff_value.specs.Values.{IsValue}
use Rattle.tiff_encode.specs.Machine.{FileState, OpenDirectory, OpenImage, WriteCall, gives, ◌>>=◌}
use Rattle.tiff_encode.specs.Placing.{field_test}
use Rattle.tiff_encode.specs.Chunks.{is_begun}
use Rattle.tiff_encode.specs.Causes.{end_of, field_cause, extra_samples_cause, tiles_cause}
use Rattle.tiff_encode.specs.Calls.{placed_field, write_tag, write_tags, extend_from}
use Rattle.tiff_encode.specs.Ends.{EndsAsDefined, CallFails}
use Rattle.tiff_encode.specs.Tagging.{write_fields, StopsInPart, fields_of}
use Rattle.tiff_encode.proofs.Calling.{refused, uncaused, wanting, entry_uncaused}
use Rattle.tiff_value.specs.lemmas.File.Entries.{last_of_entries}
use Rattle.tiff_encode.specs.GivenValues.{Given}
use Rattle.tiff_encode.proofs.Guarding.{tag_fails, fresh_by}
use Rattle.tiff_encode.proofs.Leaving.{passed, unended}
use Rattle.tiff_encode.proofs.Joining.{Adds, bind_told, bind_fails, tag_adds}
use Rattle.tiff_encode.proofs.Image.Table.{Setting, Extra, Sides, call_of, row, called}
use Rattle.tiff_encode.proofs.Tagging.{tags_are_fields, fields_adds}

-- ---- errors that refuse a call

-- the test of a fraction returns the error that refuses it as a field
pub rational_test : (file : FileState) (kind : FileKind) (end : ℕ) → kind ≡ file.kind
    → end ≡ end_of file
    → field_test kind end 1 8 ≡ field_cause file (data_of (rationals ((1, 1) ∷ [])))
unfolding field_test data_of
rational_test file kind end k e = λ i. field_test (k i) (e i) 1 8

-- extra samples are values
pub extras_value : (es : List ExtraSamples) → IsValue SHORT (length es) (Ok (data_of (extras es)))
unfolding data_of
extras_value es = (refl, refl, each_whole 2 (λ e. le 2 (extra_number e)) (λ e. refl) es)

-- ---- copying a directory

-- the entries of a list put into a map, the last entry first
abbrev onto : FinMap nat_cmp Field → List (ℕ × Field) → FinMap nat_cmp Field
onto m [] = m
onto m (e ∷ es) = insert (onto m es) e.0 e.1

onto_last : (m : FinMap nat_cmp Field) (es : List (ℕ × Field)) (e : ℕ × Field)
    → onto m (es ++ e ∷ []) ≡ onto (insert m e.0 e.1) es
onto_last m [] e = refl
onto_last m (x ∷ es) e = ap (λ n. insert n x.0 x.1) (onto_last m es e)

onto_empty : (es : List (ℕ × Field)) → onto empty es ≡ from_entries es
onto_empty [] = refl
onto_empty (e ∷ es) = ap (λ n. insert n e.0 e.1) (onto_empty es)

in_turn : (m : FinMap nat_cmp Field) (es : List (ℕ × Field))
    → fold (λ n e. insert n e.0 e.1) m es ≡ onto m (reverse es)
in_turn m [] = refl
in_turn m (e ∷ es) =
    in_turn (insert m e.0 e.1) es ∙ sym (onto_last m (reverse es) e)
    ∙ ap (onto m) (sym (reverse-append (e ∷ []) es))

-- all fields of a directory are put into an empty one
pub copied : (d now next : OpenDirectory) (none : FinMap nat_cmp Field) → d ≡ now → none ≡ empty
    → next ≡ extend_from (record d { fields = none }) (entries d.fields) → next ≡ now
unfolding extend_from last_of_each
copied d now next none s n h =
    h ∙ ap (λ m. record d { fields = fold (λ fields e. insert fields e.0 e.1) m (entries d.fields) }) n
    ∙ ap (λ m. record d { fields = m })
    (in_turn empty (entries d.fields) ∙ onto_empty (reverse (entries d.fields))
    ∙ last_of_entries d.fields)
    ∙ s

-- ---- tags

module _ (t : Tag) (value : Scalars) where
  abbrev pub one_tag : OpenDirectory → WriteCall OpenDirectory
  one_tag d = write_tag d t (Ok (data_of value))

  pub one_adds : (d : OpenDirectory) (file : FileState) → Adds (one_tag d file) file
  one_adds d file = tag_adds d t (Ok (data_of value)) file

  -- writing one tag fails if the call runs out of memory
  one_short : (d : OpenDirectory) (e : TiffError) (file : FileState) → file.fault ≡ None
      → field_cause file (data_of value) ≡ None
      → e ≡ OutOfMemory → CallFails (one_tag d file) e file file
  one_short d e file f c q =
      let same : Field → Field = λ x. x in
      tag_fails d t (Given (Ok (data_of value))) e file file
      (entry_uncaused same (Ok (data_of value)) (data_of value) (Err e) file file f refl c (wanting same (placed_field (data_of value) file) e file f q tt))

  -- writing a list of one tag fails if writing the tag fails
  tags_of_one : (d : OpenDirectory) (e : TiffError) (old new : FileState)
      → CallFails (one_tag d old) e old new
      → CallFails (write_tags d ((t, value) ∷ []) old) e old new
  tags_of_one d e old new h =
      bind_fails (one_tag d) (λ next. gives next) e old new (one_adds d old) h

  tags_are_one : (d next : OpenDirectory) (old new : FileState)
      → EndsAsDefined (one_tag d old) (Ok next) new
      → EndsAsDefined (write_tags d ((t, value) ∷ []) old) (Ok next) new
  tags_are_one d next old new h =
      bind_told (one_tag d) (λ next. gives next) next (Ok next) old new new h
      (record { answer = refl; state = refl })

pub several_adds : (t : Tag) (value : Scalars) (values : List (Tag × Scalars)) (d : OpenDirectory)
    (file : FileState)
    → Adds (write_tags d ((t, value) ∷ values) file) file
several_adds t value values d file =
    subst (λ told. Adds told file) (sym (tags_are_fields d ((t, value) ∷ values) file))
    (fields_adds d (t, data_of value) (fields_of values) file)

-- the tags of a row are written with a change, unless a tag is refused
row_adds : (s : Setting) (d : OpenDirectory) (file : FileState)
    → Adds (write_tags d (row s).tags file) file
row_adds (Extra extra) d file = several_adds tag.ExtraSamples (extras extra) [] d file
row_adds s d file = several_adds _ _ (drop 1 (row s).tags) d file

-- ---- a call of the table, from its directory as it is found

module _ (s : Setting) (i : OpenImage) (old : FileState) where
  abbrev set_in : WriteCall OpenImage
  set_in = write_tags i.directory (row s).tags >>= (λ d. gives ((row s).image i d))

  abbrev view : OpenImage → OpenImage
  view j = j

  -- the call is refused
  pub set_refused : (e : TiffError) → (row s).cause i old ≡ Some e
      → CallFails (call_of s i old) e old old
  set_refused e c =
      subst (λ told. CallFails told e old old) (sym (called s i old))
      (refused view ((row s).cause i old) set_in old e c)

  -- the call fails at its tags
  pub set_fails : (e : TiffError) (b : OpenDirectory) (new : FileState) → (row s).cause i old ≡ None
      → b ≡ i.directory
      → CallFails (write_tags b (row s).tags old) e old new → CallFails (call_of s i old) e old new
  set_fails e b new c same h =
      let written : CallFails (write_tags i.directory (row s).tags old) e old new =
      subst (λ x. CallFails (write_tags x (row s).tags old) e old new) same h in
      subst (λ told. CallFails told e old new) (sym (called s i old))
      (uncaused view ((row s).cause i old) set_in (Err e) old new c
      (bind_fails (write_tags i.directory (row s).tags) (λ d. gives ((row s).image i d)) e old new (row_adds s i.directory old) written))

  -- the call succeeds
  pub set_so : (b next : OpenDirectory) (j : OpenImage) (new : FileState)
      → (row s).cause i old ≡ None → b ≡ i.directory
      → EndsAsDefined (write_tags b (row s).tags old) (Ok next) new → j ≡ (row s).image i next
      → EndsAsDefined (call_of s i old) (Ok j) new
  set_so b next j new c same h q =
      let written : EndsAsDefined (write_tags i.directory (row s).tags old) (Ok next) new =
      subst (λ x. EndsAsDefined (write_tags x (row s).tags old) (Ok next) new) same h in
      subst (λ told. EndsAsDefined told (Ok j) new) (sym (called s i old))
      (uncaused view ((row s).cause i old) set_in (Ok j) old new c
      (bind_told (write_tags i.directory (row s).tags) (λ d. gives ((row s).image i d)) next (Ok j) old new new written
      (record { answer = ap Ok (sym q); state = refl })))

  -- a call that writes one tag, from its image as it is found
  pub one_fails : {t : Tag} {value : Scalars} {k : OpenImage} (e : TiffError) (new : FileState)
      → (row s).tags ≡ (t, value) ∷ []
      → (row s).cause i old ≡ None → k ≡ i → CallFails (one_tag t value k.directory old) e old new
      → CallFails (call_of s i old) e old new
  one_fails {t = t} {value = value} {k = k} e new only c same h =
      set_fails e k.directory new c (ap (λ x. x.directory) same)
      (subst (λ tags. CallFails (write_tags k.directory tags old) e old new) (sym only) (tags_of_one t value k.directory e old new h))

  pub one_so : {t : Tag} {value : Scalars} {k : OpenImage} (next : OpenDirectory) (j : OpenImage)
      (new : FileState) → (row s).tags ≡ (t, value) ∷ []
      → (row s).cause i old ≡ None → k ≡ i
      → EndsAsDefined (one_tag t value k.directory old) (Ok next) new → j ≡ (row s).image i next
      → EndsAsDefined (call_of s i old) (Ok j) new
  one_so {t = t} {value = value} {k = k} next j new only c same h q =
      set_so k.directory next j new c (ap (λ x. x.directory) same)
      (subst (λ tags. EndsAsDefined (write_tags k.directory tags old) (Ok next) new) (sym only) (tags_are_one t value k.directory next old new h)) q

module _ (values : List (Tag × FieldData)) (tags : List (Tag × Scalars))
    (same : values ≡ fields_of tags) where
  pub tags_fail : (d : OpenDirectory) (e : TiffError) (old new : FileState)
      → CallFails (write_fields d values old) e old new
      → CallFails (write_tags d tags old) e old new
  tags_fail d e old new h =
      subst (λ told. CallFails told e old new) (ap (λ vs. write_fields d vs old) same
      ∙ sym (tags_are_fields d tags old)) h

  pub tags_so : (d next : OpenDirectory) (old new : FileState)
      → EndsAsDefined (write_fields d values old) (Ok next) new
      → EndsAsDefined (write_tags d tags old) (Ok next) new
  tags_so d next old new h =
      subst (λ told. EndsAsDefined told (Ok next) new) (ap (λ vs. write_fields d vs old) same
      ∙ sym (tags_are_fields d tags old)) h

  pub stops_so : (d b next : OpenDirectory) (e : TiffError) (old new : FileState) → b ≡ d
      → StopsInPart b values e old new next
      → StopsInPart d (fields_of tags) e old new next
  stops_so d b next e old new s h =
      subst (λ vs. StopsInPart d vs e old new next) same (subst (λ x. StopsInPart x values e old new next) s h)

-- ---- out of memory before the first change

-- one number of 4 bytes can be a field in each file
by_kind : (kind : FileKind) (end : ℕ) → field_test kind end 1 4 ≡ None
unfolding field_test
by_kind Classic end = refl
by_kind Big end = refl

long_uncaused : (file : FileState) (n : ℕ) → field_cause file (data_of (u32s (n ∷ []))) ≡ None
unfolding field_test data_of
long_uncaused file n = by_kind file.kind (end_of file)

-- extra samples that nothing refuses
extra_parts : (file : FileState) (i : OpenImage) (extra : List ExtraSamples)
    → extra_samples_cause file i extra ≡ None
    → (file.fault ≡ None) × (field_cause file (data_of (extras extra)) ≡ None)
unfolding extra_samples_cause
extra_parts file i extra c =
    let field : Option TiffError = field_cause file (data_of (extras extra)) in
    let many = nat_lt 65535 (length i.color.bits + length extra) in
    let rest : Option TiffError = cond many (Some IntSizeError) field in
    let whole : Option TiffError = cond (is_packed i.color) (Some (IoError InvalidInput)) rest in
    let first =
    passed (is_begun i) (UsageError ReconfiguredAfterImageWrite) whole (unended file.fault _ c) in
    let second = passed (is_packed i.color) (IoError InvalidInput) rest first.1 in
    (fresh_by file.fault _ c, (passed many IntSizeError field second.1).1)

pub extra_short : (file : FileState) (i : OpenImage) (extra : List ExtraSamples) (e : TiffError)
    → extra_samples_cause file i extra ≡ None
    → e ≡ OutOfMemory → CallFails (one_tag tag.ExtraSamples (extras extra) i.directory file) e file file
extra_short file i extra e c q =
    let p =
    extra_parts file i extra c in
    one_short tag.ExtraSamples (extras extra) i.directory e file p.0 p.1 q

tiles_fresh : (file : FileState) (i : OpenImage) (width length : ℕ)
    → tiles_cause file i width length ≡ None → file.fault ≡ None
unfolding tiles_cause
tiles_fresh file i width length c = fresh_by file.fault _ c

pub tiles_short : (file : FileState) (i : OpenImage) (width length : ℕ) (e : TiffError)
    → tiles_cause file i width length ≡ None
    → e ≡ OutOfMemory → CallFails (write_tags i.directory (row (Sides width length)).tags file) e file file
tiles_short file i width length e c q =
    let first : WriteCall OpenDirectory = one_tag tag.TileWidth (u32s (width ∷ [])) i.directory in
    let rest : OpenDirectory → WriteCall OpenDirectory =
    λ d. write_tags d ((tag.TileLength, u32s (length ∷ [])) ∷ []) in
    bind_fails first rest e file file (one_adds tag.TileWidth (u32s (width ∷ [])) i.directory file)
    (one_short tag.TileWidth (u32s (width ∷ [])) i.directory e file (tiles_fresh file i width length c) (long_uncaused file width) q)
