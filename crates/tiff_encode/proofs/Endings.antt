-- How an image ends.
use Rattle.std.proofs.Common.{◌≡◌, ℕ, ◌+◌, cond, List, [], ◌∷◌, ◌++◌, length, map, MatchResult, Result, Ok, Err, refl, ap, sym, ◌∙◌, subst, append_assoc}
use Rattle.std.proofs.lemmas.Bool.{ne_eqb}
use Rattle.std.proofs.lemmas.List.{map-append}
use Rattle.std.specs.List.{flat_map}
use Rattle.tiff_base.specs.declared.color.ChunkType.{ChunkType}
use Rattle.tiff_base.specs.declared.color.ChunkType.TheVariants.{Strip, Tile}
use Rattle.tiff_base.specs.declared.error.TiffError.{TiffError}
use Rattle.tiff_base.specs.declared.error.TiffError.TheVariants.{OutOfMemory}
use Rattle.tiff_base.specs.declared.tags.FileKind.{FileKind}
use Rattle.tiff_base.specs.declared.tags.FileKind.TheVariants.{Classic, Big}
use Rattle.tiff_base.specs.declared.tags.SampleFormat.{SampleFormat}
use Rattle.tiff_base.specs.declared.tags.Tag.{Tag}
use Rattle.tiff_base.specs.declared.tags.Tag.TheVariants as tag
use Rattle.tiff_base.specs.Number.{le}
use Rattle.tiff_value.specs.Data.{FieldData, Scalars, u16s, formats, data_by, data_of}
use Rattle.tiff_value.specs.Values.{Pushes}
use Rattle.tiff_encode.specs.declared.encoder.finish.ChunkListKind.TheVariants.{OffsetList, ByteCountList}
use Rattle.tiff_encode.specs.Calls.{Offsets, extended_by_first, chunk_tags, last_tags, write_tag, write_tags, finish, finish_image}
use Rattle.tiff_encode.specs.Ends.{EndsAsDefined, CallFails, Ends}
use Rattle.tiff_encode.specs.LastTags.{count_tags, bits_tags, samples_tags, number_of_part, list_tags_of, list_tags, offset_type}
use Rattle.tiff_encode.specs.Machine.{Chunk, FileState, OpenDirectory, OpenImage, WriteCall}
use Rattle.tiff_encode.specs.Tagging.{write_fields, fields_of}
use Rattle.tiff_value.specs.Fields.{offset_values}
use Rattle.tiff_value.specs.FileBytes.{offset_len}
use Rattle.tiff_encode.proofs.Joining.{Adds, adding, tag_adds, bind_told, bind_ends, bind_fails}
use Rattle.tiff_encode.proofs.Tagging.{tags_are_fields, fields_adds, fields_end, fields_fail}

-- offsets are written as numbers
offsets_are : (kind : FileKind) (ns : List ℕ)
    → data_of (offset_values kind ns) ≡ data_by (offset_type kind) (le (offset_len kind)) ns
unfolding data_of
offsets_are Classic ns = refl
offsets_are Big ns = refl

-- the bytes of offsets, appended to other bytes
pub offsets_pushed : {A : Type 0} (k kind : FileKind) (ns old new : List ℕ) (r : Result A TiffError)
    → kind ≡ k
    → MatchResult r (λ _. new ≡ old ++ flat_map (le (offset_len kind)) ns) (λ e. e ≡ OutOfMemory)
    → Pushes (Ok (data_of (offset_values k ns))) old new r
offsets_pushed k kind ns old new (Ok u) q b =
    b ∙ (λ i. old ++ flat_map (le (offset_len (q i))) ns)
    ∙ ap (λ (d : FieldData). old ++ d.bytes) (sym (offsets_are k ns))
offsets_pushed k kind ns old new (Err e) q b = b

-- ---- two tags

module _ (d : OpenDirectory) (t : Tag) (v : FieldData) where
  -- if the first tag fails, all tags fail
  pub first_fails : (rest : List (Tag × FieldData)) (e : TiffError) (old new : FileState)
      → CallFails (write_tag d t (Ok v) old) e old new
      → CallFails (write_fields d ((t, v) ∷ rest) old) e old new
  first_fails rest e old new h =
      let others : OpenDirectory → WriteCall OpenDirectory = λ next. write_fields next rest in
      bind_fails (write_tag d t (Ok v)) others e old new (tag_adds d t (Ok v) old) h

  -- if the first tag is written and the second fails, all tags fail
  pub second_fails : (next : OpenDirectory) (u : Tag) (w : FieldData) (e : TiffError)
      (old mid new : FileState)
      → EndsAsDefined (write_tag d t (Ok v) old) (Ok next) mid
      → CallFails (write_tag next u (Ok w) mid) e mid new
      → CallFails (write_fields d ((t, v) ∷ (u, w) ∷ []) old) e old new
  second_fails next u w e old mid new h f =
      let others : OpenDirectory → WriteCall OpenDirectory = λ n. write_fields n ((u, w) ∷ []) in
      let last : OpenDirectory → WriteCall OpenDirectory = λ n. write_fields n [] in
      let view : OpenDirectory → OpenDirectory = λ x. x in
      bind_ends view (write_tag d t (Ok v)) others next (Err e) old mid new (adding _ old (tag_adds d t (Ok v) old)) h
      (bind_fails (write_tag next u (Ok w)) last e mid new (tag_adds next u (Ok w) mid) f)

  -- both tags are written
  pub second_told : (next after : OpenDirectory) (u : Tag) (w : FieldData) (old mid new : FileState)
      → EndsAsDefined (write_tag d t (Ok v) old) (Ok next) mid
      → EndsAsDefined (write_tag next u (Ok w) mid) (Ok after) new
      → EndsAsDefined (write_fields d ((t, v) ∷ (u, w) ∷ []) old) (Ok after) new
  second_told next after u w old mid new h f =
      let others : OpenDirectory → WriteCall OpenDirectory = λ n. write_fields n ((u, w) ∷ []) in
      let last : OpenDirectory → WriteCall OpenDirectory = λ n. write_fields n [] in
      bind_told (write_tag d t (Ok v)) others next (Ok after) old mid new h
      (bind_told (write_tag next u (Ok w)) last after (Ok after) mid new new f (record { answer = refl; state = refl }))

-- ---- the tags of the samples

-- a tag as a field
abbrev told_as : Tag × Scalars → Tag × FieldData
told_as v = (v.0, data_of v.1)

-- the data of the tag with the bits of the samples
abbrev bits_data : List ℕ → ℕ → FieldData
bits_data bits extra = data_of (u16s (extended_by_first bits extra))

-- writing the bits fails
pub bits_unwritten : (d : OpenDirectory) (bits said : List ℕ) (extra : ℕ) (e : TiffError)
    (old new : FileState) → said ≡ extended_by_first bits extra
    → CallFails (write_tag d tag.BitsPerSample (Ok (data_of (u16s said))) old) e old new
    → CallFails (write_fields d (fields_of (bits_tags bits extra)) old) e old new
bits_unwritten d bits said extra e old new q h =
    first_fails d tag.BitsPerSample (bits_data bits extra) (fields_of (count_tags bits extra)) e old new
    (subst (λ xs. CallFails (write_tag d tag.BitsPerSample (Ok (data_of (u16s xs))) old) e old new) q h)

-- the bits are written, and writing the number of samples fails
pub count_unwritten : (d next : OpenDirectory) (bits said : List ℕ) (extra : ℕ) (e : TiffError)
    (old mid new : FileState)
    → said ≡ extended_by_first bits extra → (extra ≡ 0 → ⊥)
    → EndsAsDefined (write_tag d tag.BitsPerSample (Ok (data_of (u16s said))) old) (Ok next) mid
    → CallFails (write_tag next tag.SamplesPerPixel (Ok (data_of (u16s ((length bits + extra) ∷ [])))) mid) e mid new
    → CallFails (write_fields d (fields_of (bits_tags bits extra)) old) e old new
count_unwritten d next bits said extra e old mid new q some h f =
    let count : Tag × Scalars = (tag.SamplesPerPixel, u16s ((length bits + extra) ∷ [])) in
    subst (λ b. CallFails (write_fields d (fields_of ((tag.BitsPerSample, u16s (extended_by_first bits extra)) ∷ cond b [] (count ∷ []))) old) e old new)
    (sym (ne_eqb extra 0 some))
    (second_fails d tag.BitsPerSample (bits_data bits extra) next tag.SamplesPerPixel (data_of count.1) e old mid new
    (subst (λ xs. EndsAsDefined (write_tag d tag.BitsPerSample (Ok (data_of (u16s xs))) old) (Ok next) mid) q h) f)

module _ (d : OpenDirectory) (bits : List ℕ) (kinds : List SampleFormat) (extra : ℕ) where
  -- the tag with the sample formats, and the tags before it
  abbrev formats_tag : Tag × Scalars
  formats_tag = (tag.SampleFormat, formats (extended_by_first kinds extra))

  samples_split : fields_of (bits_tags bits extra) ++ told_as formats_tag ∷ []
      ≡ fields_of (samples_tags bits kinds extra)
  samples_split = sym (map-append told_as (bits_tags bits extra) (formats_tag ∷ []))

  -- writing the first tags fails
  pub bits_fail : (e : TiffError) (old new : FileState)
      → CallFails (write_fields d (fields_of (bits_tags bits extra)) old) e old new
      → CallFails (write_fields d (fields_of (samples_tags bits kinds extra)) old) e old new
  bits_fail e old new h =
      subst (λ vs. CallFails (write_fields d vs old) e old new) samples_split
      (fields_fail d (tag.BitsPerSample, bits_data bits extra)
      (fields_of (count_tags bits extra)) (told_as formats_tag ∷ []) e old new h)

  -- writing the sample formats fails
  pub formats_fail : (said : List SampleFormat) (next : OpenDirectory) (e : TiffError)
      (old mid new : FileState) → said ≡ extended_by_first kinds extra
      → EndsAsDefined (write_fields d (fields_of (bits_tags bits extra)) old) (Ok next) mid
      → CallFails (write_tag next tag.SampleFormat (Ok (data_of (formats said))) mid) e mid new
      → CallFails (write_fields d (fields_of (samples_tags bits kinds extra)) old) e old new
  formats_fail said next e old mid new q h f =
      let view : OpenDirectory → OpenDirectory = λ x. x in
      subst (λ vs. CallFails (write_fields d vs old) e old new) samples_split
      (fields_end view d next (fields_of (bits_tags bits extra)) (told_as formats_tag
      ∷ []) (Err e) old mid new h
      (first_fails next tag.SampleFormat (data_of formats_tag.1) [] e mid new
      (subst (λ fs. CallFails (write_tag next tag.SampleFormat (Ok (data_of (formats fs))) mid) e mid new) q f)))

-- ---- the lists of the chunks

-- the tags of the chunk lists, by the chunk type
lists_split : (type : ChunkType) (a b : Scalars)
    → ((list_tags_of type).0, data_of a) ∷ ((list_tags_of type).1, data_of b) ∷ []
    ≡ fields_of (chunk_tags type a b)
lists_split Strip a b = refl
lists_split Tile a b = refl

module _ (kind : FileKind) (type : ChunkType) (chunks : List Chunk) (tags : Tag × Tag)
    (q : tags ≡ list_tags_of type) where
  abbrev at_offsets : FieldData
  at_offsets = data_of (offset_values kind (map (number_of_part OffsetList) chunks))

  abbrev stored_there : FieldData
  stored_there = data_of (offset_values kind (map (number_of_part ByteCountList) chunks))

  lists_are : (tags.0, at_offsets) ∷ (tags.1, stored_there) ∷ []
      ≡ fields_of (list_tags kind type chunks)
  lists_are =
      ap (λ ts. (ts.0, at_offsets) ∷ (ts.1, stored_there) ∷ []) q
      ∙ lists_split type (offset_values kind (map (number_of_part OffsetList) chunks))
      (offset_values kind (map (number_of_part ByteCountList) chunks))

  -- writing the first list fails
  pub offsets_fail : (d : OpenDirectory) (e : TiffError) (old new : FileState)
      → CallFails (write_tag d tags.0 (Ok at_offsets) old) e old new
      → CallFails (write_fields d (fields_of (list_tags kind type chunks)) old) e old new
  offsets_fail d e old new h =
      subst (λ vs. CallFails (write_fields d vs old) e old new) lists_are
      (first_fails d tags.0 at_offsets ((tags.1, stored_there) ∷ []) e old new h)

  -- writing the second list fails
  pub counts_fail : (d next : OpenDirectory) (e : TiffError) (old mid new : FileState)
      → EndsAsDefined (write_tag d tags.0 (Ok at_offsets) old) (Ok next) mid
      → CallFails (write_tag next tags.1 (Ok stored_there) mid) e mid new
      → CallFails (write_fields d (fields_of (list_tags kind type chunks)) old) e old new
  counts_fail d next e old mid new h f =
      subst (λ vs. CallFails (write_fields d vs old) e old new) lists_are
      (second_fails d tags.0 at_offsets next tags.1 stored_there e old mid new h f)

  -- both lists are written
  pub lists_told : (d next after : OpenDirectory) (old mid new : FileState)
      → EndsAsDefined (write_tag d tags.0 (Ok at_offsets) old) (Ok next) mid
      → EndsAsDefined (write_tag next tags.1 (Ok stored_there) mid) (Ok after) new
      → EndsAsDefined (write_fields d (fields_of (list_tags kind type chunks)) old) (Ok after) new
  lists_told d next after old mid new h f =
      subst (λ vs. EndsAsDefined (write_fields d vs old) (Ok after) new) lists_are
      (second_told d tags.0 at_offsets next after tags.1 stored_there old mid new h f)

-- ---- all last tags

module _ (kind : FileKind) (i : OpenImage) where
  -- the tags of the samples, and the lists of the chunks
  abbrev first_part : List (Tag × Scalars)
  first_part = samples_tags i.color.bits i.color.formats (length i.extra)

  abbrev last_part : List (Tag × Scalars)
  last_part = list_tags kind i.form.chunk_type i.chunks

  last_split : fields_of first_part ++ fields_of last_part ≡ fields_of (last_tags kind i)
  unfolding last_tags
  last_split =
      sym (map-append told_as first_part last_part)
      ∙ ap (λ vs. fields_of vs) (append_assoc (bits_tags i.color.bits (length i.extra))
      ((tag.SampleFormat, formats (extended_by_first i.color.formats (length i.extra))) ∷ []) last_part)

  -- another view of the image, of which a call passes parts, and its number of extra samples
  module _ (v : OpenImage) (is : v ≡ i) (extra : ℕ) (x : extra ≡ length v.extra) where
    -- the tags of the samples, as the call passes them
    abbrev sample_fields : List (Tag × FieldData)
    sample_fields = fields_of (samples_tags v.color.bits v.color.formats extra)

    first_given : (old : FileState)
        → write_fields v.directory sample_fields old
        ≡ write_fields i.directory (fields_of first_part) old
    first_given old =
        ap (λ n. write_fields v.directory (fields_of (samples_tags v.color.bits v.color.formats n)) old) x
        ∙ ap (λ w. write_fields w.directory (fields_of (samples_tags w.color.bits w.color.formats (length w.extra))) old) is

    -- writing the tags of the samples fails
    pub samples_unwritten : (e : TiffError) (old new : FileState)
        → CallFails (write_fields v.directory sample_fields old) e old new
        → CallFails (write_fields i.directory (fields_of (last_tags kind i)) old) e old new
    samples_unwritten e old new h =
        let others : List (Tag × Scalars) =
        count_tags i.color.bits (length i.extra)
        ++ (tag.SampleFormat, formats (extended_by_first i.color.formats (length i.extra)))
        ∷ [] in
        subst (λ vs. CallFails (write_fields i.directory vs old) e old new) last_split
        (fields_fail i.directory (tag.BitsPerSample, bits_data i.color.bits (length i.extra)) (fields_of others) (fields_of last_part) e old new
        (subst (λ told. CallFails told e old new) (first_given old) h))

    -- the tags of the samples are written, and then the lists
    pub last_set : {X : Type 0} (view : X → OpenDirectory) (next : OpenDirectory) (k : FileKind)
        (chunks : List Chunk)
        (r : Result X TiffError) (old mid new : FileState) → kind ≡ k → chunks ≡ v.chunks
        → EndsAsDefined (write_fields v.directory sample_fields old) (Ok next) mid
        → Ends view (write_fields next (fields_of (list_tags k v.form.chunk_type chunks)) mid) r mid new
        → Ends view (write_fields i.directory (fields_of (last_tags kind i)) old) r old new
    last_set view next k chunks r old mid new q c h e =
        let lists : fields_of (list_tags k v.form.chunk_type chunks) ≡ fields_of last_part =
        (λ j. fields_of (list_tags (sym q j) v.form.chunk_type (c j)))
        ∙ ap (λ w. fields_of (list_tags kind w.form.chunk_type w.chunks)) is in
        subst (λ vs. Ends view (write_fields i.directory vs old) r old new) last_split
        (fields_end view i.directory next (fields_of first_part) (fields_of last_part) r old mid new
        (subst (λ told. EndsAsDefined told (Ok next) mid) (first_given old) h)
        (subst (λ vs. Ends view (write_fields next vs mid) r mid new) lists e))

-- ---- `finish` of an image

module _ (i : OpenImage) (old : FileState) where
  abbrev tags_last : List (Tag × Scalars)
  tags_last = last_tags old.kind i

  last_add : Adds (write_tags i.directory tags_last old) old
  unfolding last_tags
  last_add =
      let others : List (Tag × Scalars) =
      count_tags i.color.bits (length i.extra)
      ++ (tag.SampleFormat, formats (extended_by_first i.color.formats (length i.extra)))
      ∷ list_tags old.kind i.form.chunk_type i.chunks in
      subst (λ told. Adds told old) (sym (tags_are_fields i.directory tags_last old))
      (fields_adds i.directory (tag.BitsPerSample, bits_data i.color.bits (length i.extra)) (fields_of others) old)

  -- `finish` fails at the last tags
  pub image_unfinished : (e : TiffError) (new : FileState)
      → CallFails (write_fields i.directory (fields_of tags_last) old) e old new
      → CallFails (finish_image i old) e old new
  unfolding finish_image
  image_unfinished e new h =
      bind_fails (write_tags i.directory tags_last) finish e old new last_add
      (subst (λ told. CallFails told e old new) (sym (tags_are_fields i.directory tags_last old)) h)

  -- `finish` writes the last tags and ends the directory
  pub image_ends : {X : Type 0} (view : X → Offsets) (last given : OpenDirectory)
      (r : Result X TiffError) (mid new : FileState)
      → EndsAsDefined (write_fields i.directory (fields_of tags_last) old) (Ok last) mid
      → given ≡ last → Ends view (finish given mid) r mid new
      → Ends view (finish_image i old) r old new
  unfolding finish_image
  image_ends view last given r mid new h q e =
      bind_ends view (write_tags i.directory tags_last) finish last r old mid new (adding _ old last_add)
      (subst (λ told. EndsAsDefined told (Ok last) mid) (sym (tags_are_fields i.directory tags_last old)) h)
      (subst (λ d. Ends view (finish d mid) r mid new) q e)
