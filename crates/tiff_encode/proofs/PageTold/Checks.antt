-- What the checks of a page return for a look-up of the tags of an image.
use Rattle.std.proofs.Common.{◌≡◌, ℕ, ◌+◌, ◌^◌, ◌<◌, ◌==◌, ◌⊎◌, List, [], ◌∷◌, length, map, get_or, true, false, Option, Some, None, Ok, refl, ap, sym, ◌∙◌, inl, inr, subst, arith, ◌*◌}
use Rattle.std.proofs.lemmas.Bool.{eq-eqb, ne_eqb, lt-ltb, le-leb}
use Rattle.std.proofs.lemmas.List.{length-map}
use Rattle.std.specs.Prelude.{unwrap_or}
use Rattle.tiff_base.specs.declared.color.ChunkType.{ChunkType}
use Rattle.tiff_base.specs.declared.color.ChunkType.TheVariants.{Strip, Tile}
use Rattle.tiff_base.specs.declared.tags.CompressionMethod.{CompressionMethod}
use Rattle.tiff_base.specs.declared.tags.CompressionMethod.TheVariants as method
use Rattle.tiff_base.specs.declared.tags.ExtraSamples.{ExtraSamples}
use Rattle.tiff_base.specs.declared.tags.ExtraSamples.TheVariants as extra
use Rattle.tiff_base.specs.declared.tags.FileKind.{FileKind}
use Rattle.tiff_base.specs.declared.tags.PhotometricInterpretation.{PhotometricInterpretation}
use Rattle.tiff_base.specs.declared.tags.PhotometricInterpretation.TheVariants as meaning
use Rattle.tiff_base.specs.declared.tags.PlanarConfiguration.{PlanarConfiguration}
use Rattle.tiff_base.specs.declared.tags.PlanarConfiguration.TheVariants.{Chunky, Planar}
use Rattle.tiff_base.specs.declared.tags.Predictor.{Predictor}
use Rattle.tiff_base.specs.declared.tags.Predictor.TheVariants as predictor
use Rattle.tiff_base.specs.declared.tags.SampleFormat.TheVariants.{Void}
use Rattle.tiff_base.specs.declared.tags.Tag.{Tag}
use Rattle.tiff_base.specs.declared.tags.Tag.TheVariants as tag
use Rattle.tiff_base.specs.Tags.{method_number, interpretation_number, predictor_number, format_number, extra_number}
use Rattle.tiff_base.specs.Tags as kinds
use Rattle.tiff_ifd.specs.Into.{into_u16, into_u32, into_u16_vec, into_u64_vec}
use Rattle.tiff_ifd.specs.TagLookup.{TagLookup, find}
use Rattle.tiff_ifd.specs.TagLookup as look
use Rattle.tiff_page.specs.Counts.{parts, planes_of, chunk_count, all_chunks}
use Rattle.tiff_page.specs.Page.{Chunks}
use Rattle.tiff_page.specs.Checks.{size_in, interpretation_in, method_in, samples_in, extra_in, format_from, format_in, depth_from, depth_in, predictor_in, planar_from, planar_in, subsampling_from, subsampling_in, chunk_type_in, chunks_counted, strips_in, tiles_in, chunks_in}
use Rattle.tiff_encode.specs.Machine.{OpenImage, compression_method}
use Rattle.tiff_encode.specs.Chunks.{all_samples, image_page, pixels_across}
use Rattle.tiff_encode.specs.Chunks as encoded
use Rattle.tiff_encode.specs.Calls.{extended_by_first}
use Rattle.tiff_encode.specs.Held.{IsWholeImage}
use Rattle.tiff_encode.proofs.Columns.{across_same}
use Rattle.tiff_encode.specs.lemmas.Samples.{some_method}
use Rattle.tiff_encode.proofs.PageTold.Colors.{AreAlike, bits_repeated, formats_repeated, format_same, depth_same, image_alike, image_samples}

-- ---- the values that a look-up finds

-- the offset of each chunk, and its number of bytes
abbrev pub offsets_of : OpenImage → List ℕ
offsets_of i = map (λ chunk. chunk.offset) i.chunks

abbrev pub lengths_of : OpenImage → List ℕ
lengths_of i = map (λ chunk. chunk.stored) i.chunks

-- the look-up finds the places of the chunks by the tags of one chunk type, and none by those of
-- the other
pub record FindsPlaces (l : TagLookup) (i : OpenImage) (offset count other_offset other_count : Tag) : Type 0 where
  pub offsets : find into_u64_vec l offset ≡ Ok (Some (offsets_of i))
  pub byte_counts : find into_u64_vec l count ≡ Ok (Some (lengths_of i))
  pub has_offsets : l.has offset ≡ true
  pub has_counts : l.has count ≡ true
  pub no_offsets : l.has other_offset ≡ false
  pub no_counts : l.has other_count ≡ false

-- the look-up finds strips and no tiles
pub record FindsStrips (l : TagLookup) (i : OpenImage) : Type 0 where
  pub rows : find into_u32 l tag.RowsPerStrip ≡ Ok (Some i.form.chunk_height)
  pub places : FindsPlaces l i tag.StripOffsets tag.StripByteCounts tag.TileOffsets tag.TileByteCounts

-- the look-up finds tiles and no strips
pub record FindsTiles (l : TagLookup) (i : OpenImage) : Type 0 where
  pub wide : find into_u32 l tag.TileWidth ≡ Ok (Some i.form.chunk_width)
  pub high : find into_u32 l tag.TileLength ≡ Ok (Some i.form.chunk_height)
  pub places : FindsPlaces l i tag.TileOffsets tag.TileByteCounts tag.StripOffsets tag.StripByteCounts

abbrev pub FindsChunks : ChunkType → TagLookup → OpenImage → Type 0
FindsChunks Strip l i = FindsStrips l i
FindsChunks Tile l i = FindsTiles l i

-- the numbers that are found for the planar configuration and the chroma subsampling
abbrev pub planar_found : PlanarConfiguration → Option ℕ
planar_found Planar = Some 2
planar_found Chunky = None

abbrev pub chroma_found : PhotometricInterpretation → Option (List ℕ)
chroma_found meaning.YCbCr = Some (1 ∷ 1 ∷ [])
chroma_found _ = None

-- The values that a look-up finds are those of an image.
pub record FindsPage (l : TagLookup) (i : OpenImage) : Type 0 where
  pub wide : find into_u32 l tag.ImageWidth ≡ Ok (Some i.pixels)
  pub high : find into_u32 l tag.ImageLength ≡ Ok (Some i.height)
  pub bits : find into_u64_vec l tag.BitsPerSample
      ≡ Ok (Some (extended_by_first i.color.bits (length i.extra)))
  pub packed_by : find into_u16 l tag.Compression
      ≡ Ok (Some (method_number (compression_method i.compression)))
  pub interpretation : find into_u16 l tag.PhotometricInterpretation
      ≡ Ok (Some (interpretation_number i.color.interpretation))
  pub samples : find into_u16 l tag.SamplesPerPixel ≡ Ok (Some (all_samples i))
  pub predicted_by : find into_u16 l tag.Predictor ≡ Ok (Some (predictor_number i.predictor))
  pub planar : find into_u16 l tag.PlanarConfiguration ≡ Ok (planar_found i.form.planar)
  pub extra_numbers : Option (List ℕ)
  pub extra : find into_u16_vec l tag.ExtraSamples ≡ Ok extra_numbers
  pub extra_is : unwrap_or extra_numbers [] ≡ map extra_number i.extra
  pub formats : find into_u64_vec l tag.SampleFormat
      ≡ Ok (Some (map format_number (extended_by_first i.color.formats (length i.extra))))
  pub chroma : find into_u64_vec l tag.ChromaSubsampling ≡ Ok (chroma_found i.color.interpretation)
  pub chunks : FindsChunks i.form.chunk_type l i

-- ---- reading a written number of an enum

-- a compression method is read back as written
method_back : (x : CompressionMethod) → (x ≡ method.None) ⊎ (x ≡ method.PackBits)
    → kinds.method_of (method_number x) ≡ x
unfolding kinds.method_of
method_back x e =
    let P : CompressionMethod → Type 0 = λ y. kinds.method_of (method_number y) ≡ y in
    elim e as (λ _. P x) [ inl a ↦ subst P (sym a) refl | inr b ↦ subst P (sym b) refl ]

-- a photometric interpretation is read back as written
interpretation_back : (x : PhotometricInterpretation)
    → kinds.interpretation_of (interpretation_number x) ≡ Some x
unfolding kinds.interpretation_of
interpretation_back meaning.WhiteIsZero = refl
interpretation_back meaning.BlackIsZero = refl
interpretation_back meaning.RGB = refl
interpretation_back meaning.RGBPalette = refl
interpretation_back meaning.TransparencyMask = refl
interpretation_back meaning.CMYK = refl
interpretation_back meaning.YCbCr = refl
interpretation_back meaning.CIELab = refl
interpretation_back meaning.IccLab = refl
interpretation_back meaning.ItuLab = refl

-- a predictor is read back as written
predictor_back : (x : Predictor) → kinds.predictor_of (predictor_number x) ≡ Some x
unfolding kinds.predictor_of
predictor_back predictor.None = refl
predictor_back predictor.Horizontal = refl
predictor_back predictor.FloatingPoint = refl

-- extra samples are read back as written
extra_back : (x : ExtraSamples) → unwrap_or (kinds.extra_of (extra_number x)) extra.Unspecified ≡ x
unfolding kinds.extra_of
extra_back extra.Unspecified = refl
extra_back extra.AssociatedAlpha = refl
extra_back extra.UnassociatedAlpha = refl

extras_back : (xs : List ExtraSamples)
    → map (λ (n : ℕ). unwrap_or (kinds.extra_of n) extra.Unspecified) (map extra_number xs) ≡ xs
extras_back [] = refl
extras_back (x ∷ xs) = let a = extra_back x in let b = extras_back xs in λ i. a i ∷ b i

-- a planar configuration is read back as written
planar_back : (x : PlanarConfiguration) → planar_from (planar_found x) ≡ Ok x
unfolding kinds.planar_of
planar_back Chunky = refl
planar_back Planar = refl

-- the chroma subsampling is read back as written
chroma_back : (x : PhotometricInterpretation)
    → subsampling_from (chroma_found x) ≡ Ok (encoded.subsampling_of x)
chroma_back meaning.WhiteIsZero = refl
chroma_back meaning.BlackIsZero = refl
chroma_back meaning.RGB = refl
chroma_back meaning.RGBPalette = refl
chroma_back meaning.TransparencyMask = refl
chroma_back meaning.CMYK = refl
chroma_back meaning.YCbCr = refl
chroma_back meaning.CIELab = refl
chroma_back meaning.IccLab = refl
chroma_back meaning.ItuLab = refl

-- ---- what each check of the page returns

-- a number above 0 is not 0
some_is : (n : ℕ) → 0 < n → (n == 0) ≡ false
some_is n h = ne_eqb n 0 (λ e. omega (arith, e, h))

-- the check of the chunk type finds the type
chunk_type_found : (l : TagLookup) (i : OpenImage) (c : ChunkType) → FindsChunks c l i
    → chunk_type_in l ≡ Ok c
unfolding chunk_type_in
chunk_type_found l i Strip t =
    let p = t.places in rw (p.has_offsets, p.has_counts, p.no_offsets, p.no_counts) refl
chunk_type_found l i Tile t =
    let p = t.places in rw (p.has_offsets, p.has_counts, p.no_offsets, p.no_counts) refl

module _ (kind : FileKind) (l : TagLookup) (i : OpenImage) (t : FindsPage l i) (w : IsWholeImage kind i) where
  -- the samples of the color are alike
  abbrev alike : AreAlike i.color
  alike = image_alike kind i w

  -- the check of the sides returns the width and the height
  pub size_is : size_in l ≡ Ok (i.pixels, i.height)
  unfolding size_in look.require
  size_is = rw (t.wide, t.high, some_is i.pixels w.pixels.some.0, some_is i.height w.high.0) refl

  -- the check of the photometric interpretation returns the image's
  pub interpretation_is : interpretation_in l ≡ Ok i.color.interpretation
  unfolding interpretation_in
  interpretation_is = rw (t.interpretation, interpretation_back i.color.interpretation) refl

  -- the check of the compression method returns the image's
  pub method_is : method_in l ≡ Ok (compression_method i.compression)
  unfolding method_in
  method_is =
      rw t.packed_by (ap (λ x. Ok x) (method_back (compression_method i.compression) (some_method i.compression)))

  -- the check of the samples returns the number of samples of a pixel
  pub samples_is : samples_in l ≡ Ok (all_samples i)
  unfolding samples_in
  samples_is =
      let s = image_samples kind i w in
      rw (t.samples, some_is (all_samples i) (omega (arith, s))) refl

  -- the check of the extra samples returns the image's
  pub extra_is : extra_in l (all_samples i) ≡ Ok i.extra
  unfolding extra_in
  extra_is =
      rw t.extra (rw t.extra_is (rw (extras_back i.extra, le-leb (length i.extra) (all_samples i) (omega arith)) refl))

  -- the check of the sample format returns the color's
  pub format_is : format_in l ≡ Ok (get_or i.color.formats 0 Void)
  unfolding format_in
  format_is =
      let a = alike in
      let e : ℕ = length i.extra in
      rw t.formats (ap (λ ns. format_from (Some ns)) (formats_repeated i.color a e)
      ∙ format_same (a.more + e) a.format a.named a.small ∙ ap (λ fs. Ok (get_or fs 0 Void)) (sym a.formats))

  -- the check of the depth returns the color's
  pub depth_is : depth_in l (all_samples i) ≡ Ok (get_or i.color.bits 0 0)
  unfolding depth_in
  depth_is =
      let a = alike in
      let e : ℕ = length i.extra in
      rw t.bits (ap (λ ns. depth_from (all_samples i) (Some ns)) (bits_repeated i.color a e)
      ∙ depth_same (a.more + e) a.depth (all_samples i) a.some a.few (image_samples kind i w)
      ∙ ap (λ bs. Ok (get_or bs 0 0)) (sym a.bits))

  -- the check of the predictor returns the image's
  pub predictor_is : predictor_in l ≡ Ok i.predictor
  unfolding predictor_in
  predictor_is = rw (t.predicted_by, predictor_back i.predictor) refl

  -- the check of the planar configuration returns the image's
  pub planar_is : planar_in l ≡ Ok i.form.planar
  unfolding planar_in
  planar_is = rw t.planar (planar_back i.form.planar)

  -- the check of the chroma subsampling returns that of the interpretation
  pub chroma_is : subsampling_in l ≡ Ok (encoded.subsampling_of i.color.interpretation)
  unfolding subsampling_in
  chroma_is = rw t.chroma (chroma_back i.color.interpretation)

  -- the check of the chunk type returns the image's
  pub chunk_type_is : chunk_type_in l ≡ Ok i.form.chunk_type
  chunk_type_is = chunk_type_found l i i.form.chunk_type t.chunks

  -- the number of planes of the image
  abbrev planes : ℕ
  planes = planes_of i.form.planar (all_samples i)

  -- the chunks of the image
  abbrev the_chunks : ChunkType → Chunks
  the_chunks c = record {
    chunk_width = pixels_across c i.pixels i.form.chunk_width;
    chunk_height = i.form.chunk_height;
    offsets = offsets_of i;
    byte_counts = lengths_of i;
  }

  -- the check of the number of chunks returns the chunks
  counted_is : (c : ChunkType) → i.form.chunk_type ≡ c
      → chunks_counted i.pixels i.height planes (the_chunks c) ≡ Ok (the_chunks c)
  unfolding chunks_counted
  counted_is c e =
      let count : ℕ =
      chunk_count i.pixels i.height (pixels_across c i.pixels i.form.chunk_width) i.form.chunk_height planes in
      let same : count ≡ all_chunks (image_page i) =
      ap (λ n. n * parts i.height i.form.chunk_height * planes) (across_same i w.wide w.form w.pixels c e) in
      let o : length (offsets_of i) ≡ length i.chunks =
      length-map i.chunks (λ chunk. chunk.offset) in
      let b : length (lengths_of i) ≡ length i.chunks =
      length-map i.chunks (λ chunk. chunk.stored) in
      rw (
        eq-eqb (length (offsets_of i)) (length (lengths_of i)) (o ∙ sym b),
        eq-eqb (length (offsets_of i)) count (o ∙ w.chunks ∙ sym same),
        lt-ltb count (2 ^ 32) (subst (λ n. n < 2 ^ 32) (sym same) w.count),
      ) refl

  -- the check of the chunks finds the chunks
  chunks_found : (c : ChunkType) → FindsChunks c l i → i.form.chunk_type ≡ c
      → chunks_in l c i.pixels i.height planes ≡ Ok (the_chunks c)
  unfolding strips_in tiles_in look.require
  chunks_found Strip f e =
      rw (f.places.offsets, f.places.byte_counts, f.rows, some_is i.form.chunk_height w.form.high.0) (counted_is Strip e)
  chunks_found Tile f e =
      rw (f.wide, f.high, some_is i.form.chunk_width w.form.wide.0, some_is i.form.chunk_height w.form.high.0)
      (rw (f.places.offsets, f.places.byte_counts) (counted_is Tile e))

  -- the check of the chunks returns the chunks
  pub chunks_are : chunks_in l i.form.chunk_type i.pixels i.height planes
      ≡ Ok (the_chunks i.form.chunk_type)
  chunks_are = chunks_found i.form.chunk_type t.chunks refl
