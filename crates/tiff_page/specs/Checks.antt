-- The checks of a page, in their order.
use Rattle.std.specs.Prelude.{◌≡◌, ℕ, ◌^◌, Bool, true, false, List, [], ◌∷◌, ◌++◌, map, length, Option, Some, None, Result, Ok, Err, unwrap_or, if◌then◌else◌, ◌==◌, ◌&&◌, ◌||◌, nat_lt, nat_le, not}
use Rattle.tiff_base.specs.declared.error.TiffError.{TiffError}
use Rattle.tiff_base.specs.declared.error.TiffError.TheVariants.{FormatError, UnsupportedError}
use Rattle.tiff_base.specs.declared.error.TiffFormatError.TheVariants.{InvalidDimensions, SamplesPerPixelIsZero, InconsistentSizesEncountered, InvalidTagValueType, UnknownPredictor, UnknownPlanarConfiguration, InvalidCountForTag, StripTileTagConflict}
use Rattle.tiff_base.specs.declared.error.TiffUnsupportedError.TheVariants.{UnknownInterpretation, UnsupportedSampleFormat, InconsistentBitsPerSample}
use Rattle.tiff_base.specs.declared.tags.Tag.{Tag}
use Rattle.tiff_base.specs.declared.tags.Tag.TheVariants as tag
use Rattle.tiff_base.specs.declared.tags.PhotometricInterpretation.{PhotometricInterpretation}
use Rattle.tiff_base.specs.declared.tags.CompressionMethod.{CompressionMethod}
use Rattle.tiff_base.specs.declared.tags.PlanarConfiguration.{PlanarConfiguration}
use Rattle.tiff_base.specs.declared.tags.PlanarConfiguration.TheVariants.{Chunky}
use Rattle.tiff_base.specs.declared.tags.Predictor.{Predictor}
use Rattle.tiff_base.specs.declared.tags.Predictor.TheVariants as predictor
use Rattle.tiff_base.specs.declared.tags.SampleFormat.{SampleFormat}
use Rattle.tiff_base.specs.declared.tags.SampleFormat.TheVariants as format
use Rattle.tiff_base.specs.declared.tags.ExtraSamples.{ExtraSamples}
use Rattle.tiff_base.specs.declared.tags.ExtraSamples.TheVariants as extra
use Rattle.tiff_base.specs.declared.color.ChunkType.{ChunkType}
use Rattle.tiff_base.specs.declared.color.ChunkType.TheVariants.{Strip, Tile}
use Rattle.tiff_base.specs.Tags as kinds
use Rattle.tiff_base.specs.Answers.{◌>>=◌}
use Rattle.tiff_ifd.specs.Into.{into_u16, into_u32, into_u16_vec, into_u64_vec}
use Rattle.tiff_ifd.specs.TagLookup.{TagLookup, find, find_or, ok_or_fault, require}
use Rattle.tiff_ifd.specs.Fitted.{fitted_numbers}
use Rattle.std.specs.List.{list_all, list_any}
use Rattle.tiff_page.specs.Counts.{chunk_count, planes_of}
use Rattle.tiff_page.specs.Page.{PageRecord, Chunks}

-- the tags that describe the pixels of a page, and the tags of its chunks
abbrev pub tags_of_pixels : List Tag
tags_of_pixels =
    tag.ImageWidth ∷ tag.ImageLength ∷ tag.PhotometricInterpretation ∷ tag.Compression
    ∷ tag.SamplesPerPixel ∷ tag.ExtraSamples ∷ tag.SampleFormat ∷ tag.BitsPerSample ∷ tag.Predictor
    ∷ tag.PlanarConfiguration ∷ tag.ChromaSubsampling ∷ []

abbrev pub tags_of_chunks : List Tag
tags_of_chunks =
    tag.StripOffsets ∷ tag.StripByteCounts ∷ tag.RowsPerStrip ∷ tag.TileWidth ∷ tag.TileLength
    ∷ tag.TileOffsets ∷ tag.TileByteCounts ∷ []

-- the numbers of the tags that the checks read
abbrev pub page_tag_numbers : List ℕ
page_tag_numbers = map kinds.tag_number (tags_of_pixels ++ tags_of_chunks)

abbrev pub is_page_tag : ℕ → Bool
is_page_tag n = list_any (λ m. m == n) page_tag_numbers

abbrev pub inconsistent : TiffError
inconsistent = FormatError InconsistentSizesEncountered

-- the width and the height of a page aren't 0
abbrev pub sides : ℕ → ℕ → Result (ℕ × ℕ) TiffError
sides width height =
    if width == 0 || height == 0 then Err (FormatError (InvalidDimensions width height))
    else Ok (width, height)

unfoldable pub size_in : TagLookup → Result (ℕ × ℕ) TiffError
size_in look = do
  width ← require into_u32 look tag.ImageWidth
  height ← require into_u32 look tag.ImageLength
  sides width height

-- the interpretation of a number that has one
abbrev pub interpretation_named : Option ℕ → Result PhotometricInterpretation TiffError
interpretation_named None = Err (UnsupportedError UnknownInterpretation)
interpretation_named (Some n) =
    ok_or_fault (kinds.interpretation_of n) (UnsupportedError UnknownInterpretation)

unfoldable pub interpretation_in : TagLookup → Result PhotometricInterpretation TiffError
interpretation_in look = do
  number ← find into_u16 look tag.PhotometricInterpretation
  interpretation_named number

unfoldable pub method_in : TagLookup → Result CompressionMethod TiffError
method_in look = do
  number ← find_or into_u16 look tag.Compression 1
  Ok (kinds.method_of number)

abbrev pub some_samples : ℕ → Result ℕ TiffError
some_samples samples = if samples == 0 then Err (FormatError SamplesPerPixelIsZero) else Ok samples

unfoldable pub samples_in : TagLookup → Result ℕ TiffError
samples_in look = do
  samples ← find_or into_u16 look tag.SamplesPerPixel 1
  some_samples samples

-- the extra samples are no more than the samples
abbrev pub within_samples : ℕ → List ExtraSamples → Result (List ExtraSamples) TiffError
within_samples samples extra = if nat_le (length extra) samples then Ok extra else Err inconsistent

unfoldable pub extra_in : TagLookup → ℕ → Result (List ExtraSamples) TiffError
extra_in look samples = do
  numbers ← find_or into_u16_vec look tag.ExtraSamples []
  within_samples samples (map (λ (n : ℕ). unwrap_or (kinds.extra_of n) extra.Unspecified) numbers)

-- one format for all samples
abbrev pub one_format : List ℕ → Result SampleFormat TiffError
one_format [] = Err (FormatError (InvalidTagValueType tag.SampleFormat))
one_format (n ∷ ns) =
    if list_all (λ m. m == n) (n ∷ ns)
    then Ok (kinds.format_of n)
    else Err (UnsupportedError (UnsupportedSampleFormat (map kinds.format_of (n ∷ ns))))

abbrev pub format_from : Option (List ℕ) → Result SampleFormat TiffError
format_from None = Ok format.Uint
format_from (Some numbers) = do
  formats ← fitted_numbers tag.SampleFormat (2 ^ 16) numbers
  one_format formats

unfoldable pub format_in : TagLookup → Result SampleFormat TiffError
format_in look = do
  found ← find into_u64_vec look tag.SampleFormat
  format_from found

-- one depth for all samples
abbrev pub same_depth : List ℕ → Result ℕ TiffError
same_depth [] = Err inconsistent
same_depth (n ∷ ns) =
    if list_all (λ m. m == n) (n ∷ ns) && not (n == 0) then Ok n
    else Err (UnsupportedError (InconsistentBitsPerSample (n ∷ ns)))

abbrev pub one_depth : ℕ → List ℕ → Result ℕ TiffError
one_depth samples bits = if length bits == samples || length bits == 1 then same_depth bits
    else Err inconsistent

abbrev pub depth_from : ℕ → Option (List ℕ) → Result ℕ TiffError
depth_from samples None = Ok 1
depth_from samples (Some numbers) = do
  bits ← fitted_numbers tag.BitsPerSample (2 ^ 8) numbers
  one_depth samples bits

unfoldable pub depth_in : TagLookup → ℕ → Result ℕ TiffError
depth_in look samples = do
  found ← find into_u64_vec look tag.BitsPerSample
  depth_from samples found

abbrev pub predictor_from : Option ℕ → Result Predictor TiffError
predictor_from None = Ok predictor.None
predictor_from (Some n) = ok_or_fault (kinds.predictor_of n) (FormatError (UnknownPredictor n))

unfoldable pub predictor_in : TagLookup → Result Predictor TiffError
predictor_in look = do
  number ← find into_u16 look tag.Predictor
  predictor_from number

abbrev pub planar_from : Option ℕ → Result PlanarConfiguration TiffError
planar_from None = Ok Chunky
planar_from (Some n) = ok_or_fault (kinds.planar_of n) (FormatError (UnknownPlanarConfiguration n))

unfoldable pub planar_in : TagLookup → Result PlanarConfiguration TiffError
planar_in look = do
  number ← find into_u16 look tag.PlanarConfiguration
  planar_from number

abbrev pub number_pair : List ℕ → Result (ℕ × ℕ) TiffError
number_pair (a ∷ b ∷ []) = Ok (a, b)
number_pair numbers = Err (FormatError (InvalidCountForTag tag.ChromaSubsampling (length numbers)))

abbrev pub subsampling_from : Option (List ℕ) → Result (ℕ × ℕ) TiffError
subsampling_from None = Ok (2, 2)
subsampling_from (Some numbers) = do
  sizes ← fitted_numbers tag.ChromaSubsampling (2 ^ 16) numbers
  number_pair sizes

unfoldable pub subsampling_in : TagLookup → Result (ℕ × ℕ) TiffError
subsampling_in look = do
  found ← find into_u64_vec look tag.ChromaSubsampling
  subsampling_from found

-- the page has exactly the two tags of strips, or exactly the two of tiles
abbrev pub chunk_kind : Bool → Bool → Bool → Bool → Result ChunkType TiffError
chunk_kind true true false false = Ok Strip
chunk_kind false false true true = Ok Tile
chunk_kind _ _ _ _ = Err (FormatError StripTileTagConflict)

unfoldable pub chunk_type_in : TagLookup → Result ChunkType TiffError
chunk_type_in look =
    chunk_kind (look.has tag.StripOffsets) (look.has tag.StripByteCounts) (look.has tag.TileOffsets)
    (look.has tag.TileByteCounts)

-- there are as many offsets and byte counts as chunks, and fewer than 2^32
unfoldable pub chunks_counted : ℕ → ℕ → ℕ → Chunks → Result Chunks TiffError
chunks_counted width height planes chunks =
    let count = chunk_count width height chunks.chunk_width chunks.chunk_height planes in
    if (length chunks.offsets == length chunks.byte_counts) && (length chunks.offsets == count) &&
    nat_lt count (2 ^ 32)
    then Ok chunks
    else Err inconsistent

abbrev pub some_rows : ℕ → Result ℕ TiffError
some_rows rows = if rows == 0 then Err inconsistent else Ok rows

unfoldable pub strips_in : TagLookup → ℕ → ℕ → ℕ → Result Chunks TiffError
strips_in look width height planes = do
  offsets ← require into_u64_vec look tag.StripOffsets
  byte_counts ← require into_u64_vec look tag.StripByteCounts
  rows ← find_or into_u32 look tag.RowsPerStrip height
  _ ← some_rows rows
  chunks_counted width height planes
      (record {
        chunk_width = width;
        chunk_height = rows;
        offsets = offsets;
        byte_counts = byte_counts;
      })

abbrev pub some_side : ℕ → TiffError → Result ℕ TiffError
some_side n fault = if n == 0 then Err fault else Ok n

unfoldable pub tiles_in : TagLookup → ℕ → ℕ → ℕ → Result Chunks TiffError
tiles_in look width height planes = do
  tile_width ← require into_u32 look tag.TileWidth
  tile_height ← require into_u32 look tag.TileLength
  _ ← some_side tile_width (FormatError (InvalidTagValueType tag.TileWidth))
  _ ← some_side tile_height (FormatError (InvalidTagValueType tag.TileLength))
  offsets ← require into_u64_vec look tag.TileOffsets
  byte_counts ← require into_u64_vec look tag.TileByteCounts
  chunks_counted width height planes
      (record {
        chunk_width = tile_width;
        chunk_height = tile_height;
        offsets = offsets;
        byte_counts = byte_counts;
      })

abbrev pub chunks_in : TagLookup → ChunkType → ℕ → ℕ → ℕ → Result Chunks TiffError
chunks_in look Strip width height planes = strips_in look width height planes
chunks_in look Tile width height planes = tiles_in look width height planes

-- the page that the tags define
unfoldable pub page_of : TagLookup → Result PageRecord TiffError
page_of look = do
  size ← size_in look
  interpretation ← interpretation_in look
  method ← method_in look
  samples ← samples_in look
  extra ← extra_in look samples
  format ← format_in look
  depth ← depth_in look samples
  predictor ← predictor_in look
  planar ← planar_in look
  subsampling ← subsampling_in look
  chunk_type ← chunk_type_in look
  chunks ← chunks_in look chunk_type size.0 size.1 (planes_of planar samples)
  Ok (record {
    width = size.0;
    height = size.1;
    interpretation = interpretation;
    method = method;
    samples = samples;
    extra = extra;
    format = format;
    depth = depth;
    predictor = predictor;
    planar = planar;
    subsampling = subsampling;
    chunk_type = chunk_type;
    chunk_width = chunks.chunk_width;
    chunk_height = chunks.chunk_height;
    offsets = chunks.offsets;
    byte_counts = chunks.byte_counts;
  })

-- Each check of the tags returned what the page has.
pub record PassedChecks (look : TagLookup) (p : PageRecord) : Type 0 where
  pub size : size_in look ≡ Ok (p.width, p.height)
  pub interpretation : interpretation_in look ≡ Ok p.interpretation
  pub method : method_in look ≡ Ok p.method
  pub samples : samples_in look ≡ Ok p.samples
  pub extra : extra_in look p.samples ≡ Ok p.extra
  pub format : format_in look ≡ Ok p.format
  pub depth : depth_in look p.samples ≡ Ok p.depth
  pub predictor : predictor_in look ≡ Ok p.predictor
  pub planar : planar_in look ≡ Ok p.planar
  pub subsampling : subsampling_in look ≡ Ok p.subsampling
  pub chunk_type : chunk_type_in look ≡ Ok p.chunk_type
  pub chunks : chunks_in look p.chunk_type p.width p.height (planes_of p.planar p.samples)
      ≡ Ok (record {
        chunk_width = p.chunk_width;
        chunk_height = p.chunk_height;
        offsets = p.offsets;
        byte_counts = p.byte_counts;
      })

-- A page that the tags define passed its checks.
abbrev pub PageHasPassed : Type 0
PageHasPassed = (look : TagLookup) (p : PageRecord) → page_of look ≡ Ok p → PassedChecks look p
