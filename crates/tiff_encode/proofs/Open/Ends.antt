-- An image that ends with every chunk is held, and the file shows it.
use Rattle.std.proofs.Common.{◌≡◌, ℕ, ◌^◌, ◌<◌, inl, inr, Bool, true, false, cond, List, [], ◌∷◌, ◌++◌, length, map, Option, Some, None, Ok, refl, ap, sym, ◌∙◌, subst, arith}
use Rattle.std.proofs.lemmas.Bool.{eqb-true, ltb-false, cases_lt}
use Rattle.std.specs.Prelude.{◌==◌}
use Rattle.std.specs.FinMap.{len}
use Rattle.tiff_base.specs.declared.color.ChunkType.{ChunkType}
use Rattle.tiff_base.specs.declared.color.ChunkType.TheVariants.{Strip, Tile}
use Rattle.tiff_base.specs.declared.tags.FileKind.{FileKind}
use Rattle.tiff_base.specs.declared.tags.Tag.{Tag}
use Rattle.tiff_base.specs.declared.tags.Tag.TheVariants as tag
use Rattle.tiff_base.specs.Tags.{tag_number}
use Rattle.tiff_value.specs.Data.{Scalars, u16s, formats}
use Rattle.tiff_page.specs.Counts.{all_chunks}
use Rattle.tiff_value.specs.Fields.{offset_values}
use Rattle.tiff_value.specs.Model.{In, FinishedDirectory, Model, with_directory}
use Rattle.tiff_value.specs.WriteOps.{WriteOp, Listed, after_op, standing_fields}
use Rattle.tiff_encode.specs.Machine.{FileState, OpenDirectory, OpenImage, WriteCall, does, ◌>>=◌}
use Rattle.tiff_encode.specs.Causes.{end_of, finish_cause}
use Rattle.tiff_encode.specs.Chunks.{all_samples, image_page, is_left}
use Rattle.tiff_encode.specs.Calls.{Offsets, links_to, offsets_of, chains, finish, write_tags, extended_by_first, sample_tags, chunk_tags, last_tags, finish_image}
use Rattle.tiff_encode.specs.Held.{Given, HoldsValues, ExtraGiven, value_in, AreGiven, EachGiven, image_tags, places_in, HasImageTags, IsWholeImage, AreSupplied, RegionsHaveChunks, ImagesShow}
use Rattle.tiff_encode.specs.Open.{open_tags, TellsOpen, IsOpen, HoldsChunks, RecordsImage, model_by, EndsHeld, GrownEnded, EndedShown, EndsShown}
use Rattle.tiff_base.specs.lemmas.Slices.{ok_inj}
use Rattle.tiff_value.specs.lemmas.File.WriteOps.{ops_grow}
use Rattle.tiff_encode.proofs.Given.{IsLocal, given_changed}
use Rattle.tiff_encode.proofs.Open.Held.{holds_grown, chunks_grown, set, set_local}
use Rattle.tiff_encode.proofs.Open.Tags.{both_held, caused_held, tags_adding, tags_held, after, after_local, after_joined}

-- ---- the last tags of an image

module _ (kind : FileKind) (i : OpenImage) where
  abbrev offsets : Scalars
  offsets = offset_values kind (map (λ chunk. chunk.offset) i.chunks)

  abbrev byte_counts : Scalars
  byte_counts = offset_values kind (map (λ chunk. chunk.stored) i.chunks)

  -- the values with the bits, then the number of samples, the sample formats, and the chunks
  abbrev bits_given : Given → Given
  bits_given given =
      set given (tag_number tag.BitsPerSample) (Some (u16s (extended_by_first i.color.bits (length i.extra))))

  abbrev samples_given : Bool → Given → Given
  samples_given b given =
      after (bits_given given) (cond b [] ((tag.SamplesPerPixel, u16s (all_samples i ∷ [])) ∷ []))

  abbrev formats_given : Bool → Given → Given
  formats_given b given =
      set (samples_given b given) (tag_number tag.SampleFormat) (Some (formats (extended_by_first i.color.formats (length i.extra))))

  abbrev chunks_given : Bool → ChunkType → Given → Given
  chunks_given b c given = after (formats_given b given) (chunk_tags c offsets byte_counts)

  abbrev last_given : Given → Given
  last_given given = chunks_given (length i.extra == 0) i.form.chunk_type given

  all_given : (given : Given) → after given (last_tags kind i) ≡ last_given given
  unfolding last_tags
  all_given given =
      after_joined (bits_given given) (sample_tags i)
      ((tag.SampleFormat, formats (extended_by_first i.color.formats (length i.extra)))
      ∷ chunk_tags i.form.chunk_type offsets byte_counts)

  last_local : (b : Bool) (c : ChunkType) → IsLocal (chunks_given b c)
  last_local b c f g n e =
      let samples : List (Tag × Scalars) =
      cond b [] ((tag.SamplesPerPixel, u16s (all_samples i ∷ [])) ∷ []) in
      after_local (chunk_tags c offsets byte_counts) (formats_given b f) (formats_given b g) n
      (set_local (tag_number tag.SampleFormat) (Some (formats (extended_by_first i.color.formats (length i.extra)))) (samples_given b f) (samples_given b g) n
      (after_local samples (bits_given f) (bits_given g) n
      (set_local (tag_number tag.BitsPerSample) (Some (u16s (extended_by_first i.color.bits (length i.extra)))) f g n e)))

  -- the number of samples of a pixel, if there are no extra samples
  none_more : (length i.extra == 0) ≡ true → all_samples i ≡ length i.color.bits
  none_more e = let none : length i.extra ≡ 0 = eqb-true (length i.extra) 0 e in omega (arith, none)

  -- the tags of the pixels have their values
  pixels_last : (b : Bool) (c : ChunkType) (extra : Option Scalars) → (length i.extra == 0) ≡ b
      → AreGiven (image_tags i extra) (chunks_given b c (value_in (open_tags i extra)))
  pixels_last false Strip extra e = refl
  pixels_last false Tile extra e = refl
  pixels_last true Strip extra e = rw (none_more e) refl
  pixels_last true Tile extra e = rw (none_more e) refl

  -- a tag other than the number of samples keeps its value
  samples_kept : (b : Bool) (given : Given) (n : ℕ)
      → samples_given false given n ≡ bits_given given n
      → samples_given b given n ≡ bits_given given n
  samples_kept true given n h = refl
  samples_kept false given n h = h

  -- where the chunks are in the file
  chunks_told : (b : Bool) (c : ChunkType) (width height : ℕ) (given : Given)
      → EachGiven (places_in c width height None None) given
      → EachGiven (places_in c width height (Some offsets) (Some byte_counts)) (chunks_given b c given)
  chunks_told b Strip width height given t =
      (samples_kept b given 278 refl ∙ t.0, (refl, (refl, (samples_kept b given 324 refl ∙ t.1.1.1.0, (samples_kept b given 325 refl ∙ t.1.1.1.1.0, tt)))))
  chunks_told b Tile width height given t = (
    samples_kept b given 322 refl ∙ t.0,
    (
      samples_kept b given 323 refl ∙ t.1.0,
      (refl, (refl, (samples_kept b given 273 refl ∙ t.1.1.1.1.0, (samples_kept b given 279 refl ∙ t.1.1.1.1.1.0, tt)))),
    ),
  )

  -- the tag of the extra samples keeps its value
  extra_same : (b : Bool) (c : ChunkType) (given : Given)
      → chunks_given b c given (tag_number tag.ExtraSamples) ≡ given (tag_number tag.ExtraSamples)
  extra_same b Strip given = samples_kept b given 338 refl
  extra_same b Tile given = samples_kept b given 338 refl

  -- the values of all tags describe the image
  last_tells : (given : Given) → TellsOpen i given → HasImageTags kind i (last_given given)
  last_tells given t =
      let b : Bool = length i.extra == 0 in
      let c : ChunkType = i.form.chunk_type in
      let extra : Option Scalars = given (tag_number tag.ExtraSamples) in
      let same = sym (extra_same b c given) in
      record {
        extra = subst (ExtraGiven i.extra) same t.extra;
        pixels = subst (λ e. AreGiven (image_tags i e) (last_given given)) same
            (given_changed (chunks_given b c) (last_local b c) (open_tags i extra) (image_tags i extra) given t.pixels
            (pixels_last b c extra refl));
        chunks = chunks_told b c i.form.chunk_width i.form.chunk_height given t.chunks;
      }

-- ---- the chunks of an image

module _ (kind : FileKind) (m : Model) (i : OpenImage) (samples : List (List ℕ)) where
  -- no chunk is left
  all_written : HoldsChunks kind m i samples → is_left i ≡ false
      → length i.chunks ≡ all_chunks (image_page i)
  all_written h l =
      let a = ltb-false (length i.chunks) (all_chunks (image_page i)) l in
      let b = h.within in
      omega (arith, a, b)

  -- the chunks are not too many
  few_chunks : HoldsChunks kind m i samples → is_left i ≡ false → all_chunks (image_page i) < 2 ^ 32
  few_chunks h l =
      let same = all_written h l in
      elim (cases_lt 0 (length i.chunks)) [ inl b ↦ h.few b | inr a ↦ omega (arith, a, same) ]

  -- the image is whole
  is_whole : IsOpen i → HoldsChunks kind m i samples → is_left i ≡ false → IsWholeImage kind i
  is_whole s h l = record {
    name = s.name;
    color = s.color;
    size = s.size;
    wide = s.wide;
    high = s.high;
    few = s.few;
    predicted_by = s.predicted_by;
    form = s.form;
    pixels = s.pixels;
    chunks = all_written h l;
    count = few_chunks h l;
    fit = h.fit;
  }

  -- each chunk has its samples
  are_supplied : HoldsChunks kind m i samples → is_left i ≡ false → AreSupplied i samples
  are_supplied h l =
      record { lengths = λ k b. h.lengths k (subst (λ n. k < n) (sym (all_written h l)) b); small = h.small }

  -- each chunk encodes its samples
  regions_have : HoldsChunks kind m i samples → is_left i ≡ false → RegionsHaveChunks m i samples
  regions_have h l k b = h.regions k (subst (λ n. k < n) (sym (all_written h l)) b)

-- ---- the end of an image

-- a call that ends a directory appends it
pub finish_listed : (d : OpenDirectory) (file : FileState) (m : Model) (offsets : Offsets)
    → (finish d file).answer ≡ Ok offsets
    → (let listed : FinishedDirectory = record { offset = offsets.pointer; fields = standing_fields file.kind d.fields } in
    In listed (model_by file m (finish d file)).directories)
unfolding finish
finish_listed d file m offsets h =
    let rest : Unit {0} → WriteCall Offsets =
    λ _. chains d.chained (offsets_of file.kind (end_of file) (len d.fields)) in
    let links : List WriteOp = links_to d.parent (end_of file) in
    let call : WriteCall Offsets = does (Listed d.fields ∷ links) >>= rest in
    let listed : ℕ → FinishedDirectory =
    λ p. record { offset = p; fields = standing_fields file.kind d.fields } in
    let n : Model = with_directory file.kind m (listed (end_of file)) in
    let P : Model → Type 0 = λ k. In (listed offsets.pointer) k.directories in
    caused_held (finish_cause file d) call file m P offsets h
    (λ _ a.
    let same : end_of file ≡ offsets.pointer = ap (λ o. o.pointer) (ok_inj _ offsets a) in
    let grown =
    ops_grow file.kind (after_op file.kind file.bytes (Listed d.fields)) n (links ++ []) in
    grown.directories (listed offsets.pointer) (inl (ap listed (sym same))))

-- a model holds a directory with some values at an offset
abbrev Ended : FileKind → ℕ → Given → Model → Type 0
Ended kind offset given m =
    (d : OpenDirectory)
    × (let listed : FinishedDirectory = record { offset = offset; fields = standing_fields kind d.fields } in
    In listed m.directories × HoldsValues m d.fields given)

image_ended : (file : FileState) (m : Model) (i : OpenImage) (samples : List (List ℕ)) (offsets : Offsets)
    (h : RecordsImage file.kind m i samples) → (finish_image i file).answer ≡ Ok offsets
    → Ended file.kind offsets.pointer (last_given file.kind i h.given) (model_by file m (finish_image i file))
unfolding finish_image
image_ended file m i samples offsets h a =
    let tags : List (Tag × Scalars) = last_tags file.kind i in
    let call : WriteCall OpenDirectory = write_tags i.directory tags in
    let later : Given = last_given file.kind i h.given in
    let adds = tags_adding i.directory tags file in
    both_held call finish file m (Ended file.kind offsets.pointer later) offsets adds a
    (λ d x y.
    let mid : FileState = (call file).next in
    let n : Model = model_by file m (call file) in
    let k : Model = model_by mid n (finish d mid) in
    let same : mid.kind ≡ file.kind = ap (λ s. s.kind) adds.next in
    let held : HoldsValues n d.fields later =
    subst (λ g. HoldsValues n d.fields g) (all_given file.kind i h.given)
    (tags_held i.directory tags file m h.given d h.holds x) in
    let at : FileKind → FinishedDirectory =
    λ kind. record { offset = offsets.pointer; fields = standing_fields kind d.fields } in (
      d,
      (
        subst (λ kind. In (at kind) k.directories) same (finish_listed d mid n offsets y),
        holds_grown n k d.fields later (ops_grow mid.kind mid.bytes n (finish d mid).ops) held,
      ),
    ))

-- the image is held as one that is finished
pub ends_held : EndsHeld
ends_held file m i samples offsets h left a =
    let n : Model = model_by file m (finish_image i file) in
    let e = image_ended file m i samples offsets h a in
    let c : HoldsChunks file.kind n i samples =
    chunks_grown file.kind m n i samples (ops_grow file.kind file.bytes m (finish_image i file).ops) h.chunks in
    record {
      fields = e.0.fields;
      given = last_given file.kind i h.given;
      listed = e.1.0;
      holds = e.1.1;
      whole = is_whole file.kind n i samples h.open_so c left;
      tells = last_tells file.kind i h.given h.tells;
      supplied = are_supplied file.kind n i samples c left;
      regions = regions_have file.kind n i samples c left;
    }

-- a finished image stays held while the file grows
pub grown_ended : GrownEnded
grown_ended kind m n i samples offset g h = record {
  fields = h.fields;
  given = h.given;
  listed = g.directories _ h.listed;
  holds = holds_grown m n h.fields h.given g h.holds;
  whole = h.whole;
  tells = h.tells;
  supplied = h.supplied;
  regions = λ k b. let r = h.regions k b in (r.0, (g.regions _ r.1.0, r.1.1));
}

-- a finished image is shown if each image that a file contains and holds is shown
pub ended_shown_by : ImagesShow → EndedShown
ended_shown_by show kind file m i samples offset stands h =
    show kind file m (record { offset = offset; fields = standing_fields kind h.fields }) h.fields h.given i samples
    stands h.listed refl h.holds h.whole h.tells h.supplied h.regions

pub ends_shown_by : ImagesShow → EndsShown
ends_shown_by show file m i samples offsets h left a stands =
    ended_shown_by show file.kind (finish_image i file).next.bytes
    (model_by file m (finish_image i file)) i samples offsets.pointer
    stands (ends_held file m i samples offsets h left a)
