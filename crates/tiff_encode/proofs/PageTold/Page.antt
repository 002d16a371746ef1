-- A directory that holds the tags of an image is read as the image's page.
use Rattle.std.proofs.Common.{zero, suc, ◌≡◌, ℕ, ◌+◌, ◌^◌, ◌<◌, ◌⊎◌, List, [], ◌∷◌, length, map, true, Option, Some, None, Result, Ok, refl, ap, sym, ◌∙◌, inl, inr, subst, arith, lit<}
use Rattle.std.proofs.lemmas.List.{length-map}
use Rattle.std.specs.Prelude.{unwrap_or}
use Rattle.std.specs.FinMap.{FinMap}
use Rattle.std.specs.Ordering.{nat_cmp}
use Rattle.tiff_base.specs.declared.color.ChunkType.{ChunkType}
use Rattle.tiff_base.specs.declared.color.ChunkType.TheVariants.{Strip, Tile}
use Rattle.tiff_base.specs.declared.error.TiffError.{TiffError}
use Rattle.tiff_base.specs.declared.tags.ByteOrder.TheVariants.{LittleEndian}
use Rattle.tiff_base.specs.declared.tags.CompressionMethod.{CompressionMethod}
use Rattle.tiff_base.specs.declared.tags.CompressionMethod.TheVariants as method
use Rattle.tiff_base.specs.declared.tags.ExtraSamples.{ExtraSamples}
use Rattle.tiff_base.specs.declared.tags.ExtraSamples.TheVariants as extra
use Rattle.tiff_base.specs.declared.tags.FileKind.{FileKind}
use Rattle.tiff_base.specs.declared.tags.FileKind.TheVariants.{Classic, Big}
use Rattle.tiff_base.specs.declared.tags.PhotometricInterpretation.{PhotometricInterpretation}
use Rattle.tiff_base.specs.declared.tags.PhotometricInterpretation.TheVariants as meaning
use Rattle.tiff_base.specs.declared.tags.PlanarConfiguration.{PlanarConfiguration}
use Rattle.tiff_base.specs.declared.tags.PlanarConfiguration.TheVariants.{Chunky, Planar}
use Rattle.tiff_base.specs.declared.tags.Predictor.{Predictor}
use Rattle.tiff_base.specs.declared.tags.Predictor.TheVariants as predictor
use Rattle.tiff_base.specs.declared.tags.SampleFormat.{SampleFormat}
use Rattle.tiff_base.specs.declared.tags.Tag.{Tag}
use Rattle.tiff_base.specs.declared.tags.Tag.TheVariants as tag
use Rattle.tiff_base.specs.declared.tags.«Type».TheVariants.{SHORT}
use Rattle.tiff_base.specs.Directory.{directory_at}
use Rattle.tiff_base.specs.Field.{Field, DirectoryRecord}
use Rattle.tiff_base.specs.Tags.{tag_number, method_number, interpretation_number, predictor_number, format_number, extra_number}
use Rattle.tiff_value.specs.Data.{u16s, methods, interpretations, planars, predictors, formats, extras, data_of}
use Rattle.tiff_ifd.specs.PlainValue.{PlainValue, short}
use Rattle.tiff_ifd.specs.FieldValue.{field_value}
use Rattle.tiff_ifd.specs.Into.{into_u16, into_u16_vec, into_u64_vec}
use Rattle.tiff_ifd.specs.Limits.{unlimited}
use Rattle.tiff_ifd.specs.TagLookup.{TagLookup, look_up_in, look_in, find}
use Rattle.tiff_page.specs.Checks.{is_page_tag, tags_of_pixels, page_of, PassedChecks}
use Rattle.tiff_page.specs.Page.{PageRecord}
use Rattle.tiff_page.specs.lemmas.PassedChecks.{page_passed}
use Rattle.tiff_value.specs.FileBytes.{offset_len}
use Rattle.tiff_value.specs.Fields.{offset_values}
use Rattle.tiff_value.specs.Model.{In, Model, FileContains}
use Rattle.tiff_encode.specs.Machine.{Chunk, OpenImage, compression_method}
use Rattle.tiff_encode.specs.Chunks.{all_samples, shown_page}
use Rattle.tiff_encode.specs.Calls.{extended_by_first}
use Rattle.tiff_encode.specs.Held.{Given, HoldsValues, chroma_given, planar_given, ExtraGiven, value_in, EachGiven, image_tags, places_in, HasImageTags, IsWholeImage, PageTold}
use Rattle.tiff_encode.specs.lemmas.Samples.{some_method}
use Rattle.tiff_base.specs.lemmas.Slices.{ok_bind}
use Rattle.tiff_encode.proofs.Given.{is_one_of, given_at}
use Rattle.tiff_encode.proofs.PageTold.Tags.{some_found, none_found, list_back, each_below, as_numbers, the_look, numbers_found, nothing_found, short_found, long_found, shorts_found, offsets_found}
use Rattle.tiff_encode.proofs.PageTold.Values.{AllBelow, joint, are_shorts}
use Rattle.tiff_encode.proofs.PageTold.Colors.{AreAlike, bits_repeated, formats_repeated, same_few, image_alike, image_samples}
use Rattle.tiff_encode.proofs.PageTold.Checks as check
use Rattle.tiff_encode.proofs.PageTold.Checks.{offsets_of, lengths_of, FindsPlaces, FindsChunks, planar_found, chroma_found, FindsPage}

-- ---- the numbers of enums

-- the number of a supported compression method is small
method_small : (x : CompressionMethod) → (x ≡ method.None) ⊎ (x ≡ method.PackBits)
    → method_number x < 2 ^ 16
method_small x e =
    let P : CompressionMethod → Type 0 = λ y. method_number y < 2 ^ 16 in
    elim e as (λ _. P x) [ inl a ↦ subst P (sym a) (lit< tt) | inr b ↦ subst P (sym b) (lit< tt) ]

-- the number of a photometric interpretation is small
interpretation_small : (x : PhotometricInterpretation) → interpretation_number x < 2 ^ 16
interpretation_small meaning.WhiteIsZero = lit< tt
interpretation_small meaning.BlackIsZero = lit< tt
interpretation_small meaning.RGB = lit< tt
interpretation_small meaning.RGBPalette = lit< tt
interpretation_small meaning.TransparencyMask = lit< tt
interpretation_small meaning.CMYK = lit< tt
interpretation_small meaning.YCbCr = lit< tt
interpretation_small meaning.CIELab = lit< tt
interpretation_small meaning.IccLab = lit< tt
interpretation_small meaning.ItuLab = lit< tt

-- the number of a predictor is small
predictor_small : (x : Predictor) → predictor_number x < 2 ^ 16
predictor_small predictor.None = lit< tt
predictor_small predictor.Horizontal = lit< tt
predictor_small predictor.FloatingPoint = lit< tt

-- the number of an extra sample is small
extra_small : (x : ExtraSamples) → extra_number x < 2 ^ 16
extra_small extra.Unspecified = lit< tt
extra_small extra.AssociatedAlpha = lit< tt
extra_small extra.UnassociatedAlpha = lit< tt

-- only YCbCr has chroma subsampling
chroma_parts : (x : PhotometricInterpretation)
    → ((chroma_given x ≡ Some (u16s (1 ∷ 1 ∷ []))) × (chroma_found x ≡ Some (1 ∷ 1 ∷ [])))
    ⊎ ((chroma_given x ≡ None) × (chroma_found x ≡ None))
chroma_parts meaning.WhiteIsZero = inr (refl, refl)
chroma_parts meaning.BlackIsZero = inr (refl, refl)
chroma_parts meaning.RGB = inr (refl, refl)
chroma_parts meaning.RGBPalette = inr (refl, refl)
chroma_parts meaning.TransparencyMask = inr (refl, refl)
chroma_parts meaning.CMYK = inr (refl, refl)
chroma_parts meaning.YCbCr = inl (refl, refl)
chroma_parts meaning.CIELab = inr (refl, refl)
chroma_parts meaning.IccLab = inr (refl, refl)
chroma_parts meaning.ItuLab = inr (refl, refl)

-- each number of the chroma subsampling that the encoder writes is small
ones_below : AllBelow (2 ^ 16) (1 ∷ 1 ∷ [])
ones_below zero = lit< tt
ones_below (suc zero) = lit< tt
ones_below (suc (suc i)) = lit< tt

-- a file of each kind has offsets
some_offsets : (kind : FileKind) → 0 < 256 ^ offset_len kind
some_offsets Classic = lit< tt
some_offsets Big = lit< tt

-- ---- the look-up finds the tags of an image

module _ (kind : FileKind) (file : List ℕ) (m : Model) (fields : FinMap nat_cmp Field) (given : Given)
    (s : FileContains kind file m) (h : HoldsValues m fields given) where
  abbrev l : TagLookup
  l = the_look kind file m fields given s h

  -- the look-up finds the planar configuration
  planar_is : (x : PlanarConfiguration)
      → given (tag_number tag.PlanarConfiguration) ≡ planar_given x
      → find into_u16 l tag.PlanarConfiguration ≡ Ok (planar_found x)
  unfolding data_of
  planar_is Planar g =
      short_found kind file m fields given s h tag.PlanarConfiguration (planars (Planar
      ∷ [])) 2 refl g refl (lit< tt)
  planar_is Chunky g =
      none_found into_u16 l tag.PlanarConfiguration (nothing_found kind file m fields given s h tag.PlanarConfiguration refl g).0

  -- the look-up finds the chroma subsampling
  chroma_is : (x : PhotometricInterpretation)
      → given (tag_number tag.ChromaSubsampling) ≡ chroma_given x
      → find into_u64_vec l tag.ChromaSubsampling ≡ Ok (chroma_found x)
  unfolding data_of
  chroma_is x g =
      elim (chroma_parts x) as (λ _. find into_u64_vec l tag.ChromaSubsampling
      ≡ Ok (chroma_found x)) [
        | inl a ↦ shorts_found kind file m fields given s h tag.ChromaSubsampling (u16s (1 ∷ 1 ∷ [])) (1
            ∷ 1 ∷ []) refl
            (g ∙ a.0) refl ones_below (lit< tt)
            ∙ ap (λ o. Ok o) (sym a.1)
        | inr b ↦ none_found into_u64_vec l tag.ChromaSubsampling
            (nothing_found kind file m fields given s h tag.ChromaSubsampling refl (g ∙ b.0)).0
            ∙ ap (λ o. Ok o) (sym b.1)
      ]

  -- the look-up finds the extra samples
  extra_is : (xs : List ExtraSamples) → length xs < 2 ^ 32
      → ExtraGiven xs (given (tag_number tag.ExtraSamples))
      → (ns : Option (List ℕ)) × ((find into_u16_vec l tag.ExtraSamples ≡ Ok ns)
      × (unwrap_or ns [] ≡ map extra_number xs))
  unfolding data_of
  extra_is xs few g =
      let ns : List ℕ = map extra_number xs in
      let n : length ns ≡ length xs = length-map xs extra_number in
      elim g [
        | inl a ↦ (
          Some ns,
          (
            some_found into_u16_vec l tag.ExtraSamples (joint (map short ns)) ns
                (numbers_found kind file m fields given s h tag.ExtraSamples (extras xs) SHORT (2 ^ 16) short ns are_shorts
                refl a (as_numbers extra_number xs) (each_below extra_number (2 ^ 16) xs (lit< tt) (λ x j. extra_small x))
                (omega (arith, n, few))).0
                (list_back into_u16 into_u16_vec short (λ k. refl) (λ k. refl) (λ ds. refl) ns),
            refl,
          ),
        )
        | inr b ↦ (
          None,
          (
            none_found into_u16_vec l tag.ExtraSamples
                (nothing_found kind file m fields given s h tag.ExtraSamples refl b.1).0,
            ap (map extra_number) (sym b.0),
          ),
        )
      ]

  module _ (i : OpenImage) (w : IsWholeImage kind i) (t : HasImageTags kind i given) where
    -- the samples of the color are alike
    abbrev alike : AreAlike i.color
    alike = image_alike kind i w

    -- the number of all samples of a pixel is small
    few_samples : suc (alike.more + length i.extra) < 2 ^ 16
    few_samples = let n = image_samples kind i w in let f = w.few in omega (arith, n, f)

    -- the value that a tag has
    told : (q : Tag) → is_one_of tags_of_pixels (tag_number q) ≡ true
        → given (tag_number q) ≡ value_in (image_tags i (given (tag_number tag.ExtraSamples))) (tag_number q)
    told q p =
        given_at (image_tags i (given (tag_number tag.ExtraSamples))) given (tag_number q) t.pixels p

    -- the look-up finds the depths
    bits_is : find into_u64_vec l tag.BitsPerSample
        ≡ Ok (Some (extended_by_first i.color.bits (length i.extra)))
    unfolding data_of
    bits_is =
        let a = alike in
        let e : ℕ = length i.extra in
        let ns : List ℕ = extended_by_first i.color.bits e in
        let small = a.few in
        let x =
        same_few (suc (a.more + e)) a.depth ns (bits_repeated i.color a e) few_samples
        (omega (arith, small)) in
        shorts_found kind file m fields given s h tag.BitsPerSample (u16s ns) ns refl
        (told tag.BitsPerSample refl) refl x.0 x.1

    -- the look-up finds the sample formats
    formats_is : find into_u64_vec l tag.SampleFormat
        ≡ Ok (Some (map format_number (extended_by_first i.color.formats (length i.extra))))
    unfolding data_of
    formats_is =
        let a = alike in
        let e : ℕ = length i.extra in
        let fs : List SampleFormat = extended_by_first i.color.formats e in
        let ns : List ℕ = map format_number fs in
        let x =
        same_few (suc (a.more + e)) (format_number a.format) ns (formats_repeated i.color a e) few_samples a.small in
        shorts_found kind file m fields given s h tag.SampleFormat (formats fs) ns refl
        (told tag.SampleFormat refl)
        (as_numbers format_number fs) x.0 x.1

    -- the look-up finds numbers of the chunks
    chunk_numbers : (g : Chunk → ℕ) → ((c : Chunk) → In c i.chunks → g c < 256 ^ offset_len kind)
        → (q : Tag) → is_page_tag (tag_number q) ≡ true
        → given (tag_number q) ≡ Some (offset_values kind (map g i.chunks))
        → (find into_u64_vec l q ≡ Ok (Some (map g i.chunks))) × (l.has q ≡ true)
    chunk_numbers g b q p e =
        let n : length (map g i.chunks) ≡ length i.chunks = length-map i.chunks g in
        let c = w.chunks in
        let few = w.count in
        offsets_found kind file m fields given s h q (map g i.chunks) p e
        (each_below g (256 ^ offset_len kind) i.chunks (some_offsets kind) b) (omega (arith, n, c, few))

    -- the look-up finds the places of the chunks by the tags of one chunk type alone
    places_are : (offset count other_offset other_count : Tag)
        → is_page_tag (tag_number offset) ≡ true → is_page_tag (tag_number count) ≡ true
        → is_page_tag (tag_number other_offset) ≡ true → is_page_tag (tag_number other_count) ≡ true
        → given (tag_number offset) ≡ Some (offset_values kind (offsets_of i))
        → given (tag_number count) ≡ Some (offset_values kind (lengths_of i))
        → given (tag_number other_offset) ≡ None → given (tag_number other_count) ≡ None
        → FindsPlaces l i offset count other_offset other_count
    places_are offset count other_offset other_count po pc px py o c x y =
        let at = chunk_numbers (λ chunk. chunk.offset) (λ c j. (w.fit c j).0) offset po o in
        let many = chunk_numbers (λ chunk. chunk.stored) (λ c j. (w.fit c j).1) count pc c in
        record {
          offsets = at.0;
          byte_counts = many.0;
          has_offsets = at.1;
          has_counts = many.1;
          no_offsets = (nothing_found kind file m fields given s h other_offset px x).1;
          no_counts = (nothing_found kind file m fields given s h other_count py y).1;
        }

    -- the look-up finds the chunks
    chunks_is : (c : ChunkType)
        → EachGiven (places_in c i.form.chunk_width i.form.chunk_height (Some (offset_values kind (offsets_of i))) (Some (offset_values kind (lengths_of i)))) given
        → FindsChunks c l i
    chunks_is Strip u = record {
      rows =
          long_found kind file m fields given s h tag.RowsPerStrip i.form.chunk_height refl u.0 w.form.high.1;
      places = places_are tag.StripOffsets tag.StripByteCounts tag.TileOffsets tag.TileByteCounts refl refl refl refl
          u.1.0 u.1.1.0 u.1.1.1.0 u.1.1.1.1.0;
    }
    chunks_is Tile u = record {
      wide =
          long_found kind file m fields given s h tag.TileWidth i.form.chunk_width refl u.0 w.form.wide.1;
      high =
          long_found kind file m fields given s h tag.TileLength i.form.chunk_height refl u.1.0 w.form.high.1;
      places = places_are tag.TileOffsets tag.TileByteCounts tag.StripOffsets tag.StripByteCounts refl refl refl refl
          u.1.1.0 u.1.1.1.0 u.1.1.1.1.0 u.1.1.1.1.1.0;
    }

    -- the look-up finds all tags of the image
    image_found : FindsPage l i
    unfolding data_of
    image_found =
        let short = short_found kind file m fields given s h in
        let f = w.few in
        let x = extra_is i.extra (omega (arith, f)) t.extra in
        record {
          wide =
              long_found kind file m fields given s h tag.ImageWidth i.pixels refl
              (told tag.ImageWidth refl) w.pixels.some.1;
          high =
              long_found kind file m fields given s h tag.ImageLength i.height refl
              (told tag.ImageLength refl) w.high.1;
          bits = bits_is;
          packed_by =
              short tag.Compression (methods (compression_method i.compression
              ∷ [])) (method_number (compression_method i.compression)) refl (told tag.Compression refl) refl
              (method_small (compression_method i.compression) (some_method i.compression));
          interpretation =
              short tag.PhotometricInterpretation (interpretations (i.color.interpretation ∷ []))
              (interpretation_number i.color.interpretation) refl (told tag.PhotometricInterpretation refl) refl
              (interpretation_small i.color.interpretation);
          samples =
              short tag.SamplesPerPixel (u16s (all_samples i
              ∷ [])) (all_samples i) refl (told tag.SamplesPerPixel refl) refl f;
          predicted_by =
              short tag.Predictor (predictors (i.predictor
              ∷ [])) (predictor_number i.predictor) refl
              (told tag.Predictor refl) refl (predictor_small i.predictor);
          planar = planar_is i.form.planar (told tag.PlanarConfiguration refl);
          extra_numbers = x.0;
          extra = x.1.0;
          extra_is = x.1.1;
          formats = formats_is;
          chroma = chroma_is i.color.interpretation (told tag.ChromaSubsampling refl);
          chunks = chunks_is i.form.chunk_type t.chunks;
        }

    -- each check returns what the image has
    image_passed : PassedChecks l (shown_page i)
    image_passed =
        let f : FindsPage l i = image_found in
        record {
          size = check.size_is kind l i f w;
          interpretation = check.interpretation_is kind l i f w;
          method = check.method_is kind l i f w;
          samples = check.samples_is kind l i f w;
          extra = check.extra_is kind l i f w;
          format = check.format_is kind l i f w;
          depth = check.depth_is kind l i f w;
          predictor = check.predictor_is kind l i f w;
          planar = check.planar_is kind l i f w;
          subsampling = check.chroma_is kind l i f w;
          chunk_type = check.chunk_type_is kind l i f w;
          chunks = check.chunks_are kind l i f w;
        }

-- a directory that holds the tags of an image is read as the image's page
pub page_told : PageTold
unfolding look_in
page_told kind file m d fields given i s in_model is holds w t =
    let value : Field → Result PlainValue TiffError =
    field_value kind LittleEndian file unlimited in
    let F : DirectoryRecord → Result PageRecord TiffError =
    λ r. page_of (look_up_in value r.entries) in
    ok_bind (directory_at kind LittleEndian file d.offset) F _ (shown_page i) (s.directories d in_model)
    (ap (λ fs. page_of (look_up_in value fs)) is
    ∙ page_passed (the_look kind file m fields given s holds) (shown_page i) (image_passed kind file m fields given s holds i w t))
