-- The values of the fields of a directory, and when these values and the chunks in the file are
-- those of an image (this project's).
use Rattle.std.specs.Prelude.{◌≡◌, ℕ, ◌^◌, ◌<◌, ◌⊎◌, ◌==◌, if◌then◌else◌, true, false, List, [], ◌∷◌, length, map, get_or, slice_index, Option, Some, None, Ok}
use Rattle.std.specs.FinMap.{FinMap, get}
use Rattle.std.specs.Ordering.{nat_cmp}
use Rattle.tiff_base.specs.declared.color.ChunkType.{ChunkType}
use Rattle.tiff_base.specs.declared.color.ChunkType.TheVariants.{Strip, Tile}
use Rattle.tiff_base.specs.declared.color.ColorType.{ColorType}
use Rattle.tiff_base.specs.declared.tags.ByteOrder.TheVariants.{LittleEndian}
use Rattle.tiff_base.specs.declared.tags.ExtraSamples.{ExtraSamples}
use Rattle.tiff_base.specs.declared.tags.FileKind.{FileKind}
use Rattle.tiff_base.specs.declared.tags.PhotometricInterpretation.{PhotometricInterpretation}
use Rattle.tiff_base.specs.declared.tags.PhotometricInterpretation.TheVariants.{YCbCr}
use Rattle.tiff_base.specs.declared.tags.PlanarConfiguration.{PlanarConfiguration}
use Rattle.tiff_base.specs.declared.tags.PlanarConfiguration.TheVariants.{Chunky, Planar}
use Rattle.tiff_base.specs.declared.tags.Predictor.TheVariants as predictor
use Rattle.tiff_base.specs.declared.tags.Tag.{Tag}
use Rattle.tiff_base.specs.declared.tags.Tag.TheVariants as tag
use Rattle.tiff_base.specs.Color.{num_samples}
use Rattle.tiff_base.specs.Field.{Field}
use Rattle.tiff_base.specs.Tags.{tag_number}
use Rattle.tiff_base.specs.SourceAndSink.{exactly_at}
use Rattle.tiff_value.specs.declared.encoder.colortype.ColorTypeName.{ColorTypeName}
use Rattle.tiff_value.specs.ColorTypes.{color_type, inner_size}
use Rattle.tiff_value.specs.Data.{Scalars, u16s, u32s, methods, interpretations, planars, predictors, formats, extras, data_of}
use Rattle.tiff_ifd.specs.Limits.{unlimited}
use Rattle.tiff_page.specs.Page.{PageRecord}
use Rattle.tiff_page.specs.Checks.{is_page_tag, tags_of_pixels}
use Rattle.tiff_page.specs.Counts.{all_chunks}
use Rattle.tiff_page.specs.Layout.{color_of}
use Rattle.tiff_page.specs.Pixels.{is_short}
use Rattle.tiff_value.specs.FileBytes.{offset_len}
use Rattle.tiff_value.specs.Fields.{offset_values}
use Rattle.tiff_value.specs.Model.{In, FinishedDirectory, Model, FileContains}
use Rattle.tiff_value.specs.WriteOps.{standing_fields}
use Rattle.tiff_encode.specs.Machine.{Chunk, OpenImage, compression_method}
use Rattle.tiff_encode.specs.Drawn.{IsSide, IsForm, HoldsPixels}
use Rattle.tiff_encode.specs.Chunks.{all_samples, image_page, shown_page, chunk_samples, sample_in}
use Rattle.tiff_encode.specs.Calls.{extended_by_first}
use Rattle.tiff_encode.specs.Stored.{IsChunkStored}
use Rattle.tiff_encode.specs.Shows.{Image, Shows, page_at, shown_columns, shown_at}

-- ---- the values of tags

-- the values that the caller passed for each tag, by its number
abbrev pub Given : Type 0
Given = ℕ → Option Scalars

-- A field has the type and the count of some values, and the model has their bytes for the field.
pub record HasValues (m : Model) (f : Field) (values : Scalars) : Type 0 where
  pub field_type : f.field_type ≡ (data_of values).field_type
  pub count : f.count ≡ (data_of values).count
  pub whole : length f.value ≡ 8
  pub supplied : In (record { field = f; bytes = (data_of values).bytes }) m.supplied

-- a tag has a field with the values passed for it, or it has neither field nor values
abbrev pub HoldsAt : Model → Option Field → Option Scalars → Type 0
HoldsAt m (Some f) (Some values) = HasValues m f values
HoldsAt m None None = Unit {0}
HoldsAt m _ _ = ⊥

-- the fields of a directory have these values at the tags that describe a page
abbrev pub HoldsValues : Model → FinMap nat_cmp Field → Given → Type 0
HoldsValues m fields given = (t : ℕ) → is_page_tag t ≡ true → HoldsAt m (get fields t) (given t)

-- ---- the tags of an image

-- YCbCr samples are written without subsampling
abbrev pub chroma_given : PhotometricInterpretation → Option Scalars
chroma_given YCbCr = Some (u16s (1 ∷ 1 ∷ []))
chroma_given _ = None

-- a planar image has the tag `PlanarConfiguration`, a chunky image doesn't
abbrev pub planar_given : PlanarConfiguration → Option Scalars
planar_given Planar = Some (planars (Planar ∷ []))
planar_given Chunky = None

-- the tag of the extra samples has their list; if there are none, it has an empty list or is absent
abbrev pub ExtraGiven : List ExtraSamples → Option Scalars → Type 0
ExtraGiven extra given = (given ≡ Some (extras extra)) ⊎ ((extra ≡ []) × (given ≡ None))

-- the value of a tag in a list, by the number of the tag; none if the list doesn't have the tag
abbrev pub value_in : List (Tag × Option Scalars) → Given
value_in [] n = None
value_in (row ∷ rows) n = if tag_number row.0 == n then row.1 else value_in rows n

-- the values of some tags
abbrev pub values_of : List Tag → Given → List (Option Scalars)
values_of ts given = map (λ t. given (tag_number t)) ts

-- the tags that describe the pixels of a page have their values in a list
abbrev pub AreGiven : List (Tag × Option Scalars) → Given → Type 0
AreGiven rows given = values_of tags_of_pixels given ≡ values_of tags_of_pixels (value_in rows)

-- each tag of a list has its value there
abbrev pub EachGiven : List (Tag × Option Scalars) → Given → Type 0
EachGiven [] given = Unit {0}
EachGiven (row ∷ rows) given = (given (tag_number row.0) ≡ row.1) × EachGiven rows given

-- The tags that describe the pixels of an image, with the values that they have from its beginning
-- to its end. The value of `ExtraSamples` may be absent or an empty list if there are none.
abbrev pub lasting_tags : OpenImage → Option Scalars → List (Tag × Option Scalars)
lasting_tags i extra =
    (tag.ImageWidth, Some (u32s (i.pixels ∷ [])))
    ∷ (tag.ImageLength, Some (u32s (i.height ∷ [])))
    ∷ (tag.Compression, Some (methods (compression_method i.compression ∷ [])))
    ∷ (tag.PhotometricInterpretation, Some (interpretations (i.color.interpretation ∷ [])))
    ∷ (tag.PlanarConfiguration, planar_given i.form.planar)
    ∷ (tag.Predictor, Some (predictors (i.predictor ∷ [])))
    ∷ (tag.ExtraSamples, extra)
    ∷ (tag.ChromaSubsampling, chroma_given i.color.interpretation)
    ∷ []

-- these tags, and those of the samples with the extra samples
abbrev pub image_tags : OpenImage → Option Scalars → List (Tag × Option Scalars)
image_tags i extra =
    (tag.BitsPerSample, Some (u16s (extended_by_first i.color.bits (length i.extra))))
    ∷ (tag.SamplesPerPixel, Some (u16s (all_samples i ∷ [])))
    ∷ (tag.SampleFormat, Some (formats (extended_by_first i.color.formats (length i.extra))))
    ∷ lasting_tags i extra

-- The tags of the chunks of an image: the rows of a strip, the offsets of the strips and their byte
-- counts, and none of tiles; or the width and the length of a tile, the offsets of the tiles and
-- their byte counts, and none of strips.
abbrev pub places_in : ChunkType → ℕ → ℕ → Option Scalars → Option Scalars
    → List (Tag × Option Scalars)
places_in Strip width height offsets byte_counts =
    (tag.RowsPerStrip, Some (u32s (height ∷ [])))
    ∷ (tag.StripOffsets, offsets)
    ∷ (tag.StripByteCounts, byte_counts)
    ∷ (tag.TileOffsets, None)
    ∷ (tag.TileByteCounts, None)
    ∷ []
places_in Tile width height offsets byte_counts =
    (tag.TileWidth, Some (u32s (width ∷ [])))
    ∷ (tag.TileLength, Some (u32s (height ∷ [])))
    ∷ (tag.TileOffsets, offsets)
    ∷ (tag.TileByteCounts, byte_counts)
    ∷ (tag.StripOffsets, None)
    ∷ (tag.StripByteCounts, None)
    ∷ []

abbrev pub place_tags : OpenImage → Option Scalars → Option Scalars → List (Tag × Option Scalars)
place_tags i offsets byte_counts =
    places_in i.form.chunk_type i.form.chunk_width i.form.chunk_height offsets byte_counts

-- The values of the tags that describe a page are those of an image.
pub record HasImageTags (kind : FileKind) (i : OpenImage) (given : Given) : Type 0 where
  pub extra : ExtraGiven i.extra (given (tag_number tag.ExtraSamples))
  pub pixels : AreGiven (image_tags i (given (tag_number tag.ExtraSamples))) given
  pub chunks : EachGiven
      (place_tags i
      (Some (offset_values kind (map (λ chunk. chunk.offset) i.chunks)))
      (Some (offset_values kind (map (λ chunk. chunk.stored) i.chunks))))
      given

-- ---- an image with all its chunks

-- An image that an encoder of a kind of file can make, with all its chunks in the file: it has a
-- named color type; its width and height aren't 0; it has fewer than 2^16 samples per pixel; its
-- compression and its predictor are supported; and the offsets and byte counts of its chunks fit
-- the kind of file.
pub record IsWholeImage (kind : FileKind) (i : OpenImage) : Type 0 where
  pub name : ColorTypeName
  pub color : i.color ≡ color_type name
  pub size : i.size ≡ inner_size name
  pub wide : IsSide i.width
  pub high : IsSide i.height
  pub few : all_samples i < 2 ^ 16
  pub predicted_by : (i.predictor ≡ predictor.None) ⊎ (i.predictor ≡ predictor.Horizontal)
  pub form : IsForm i.width i.form
  pub pixels : HoldsPixels i
  pub chunks : length i.chunks ≡ all_chunks (image_page i)
  pub count : all_chunks (image_page i) < 2 ^ 32
  pub fit : (c : Chunk) → In c i.chunks → (c.offset < 256 ^ offset_len kind)
      × (c.stored < 256 ^ offset_len kind)

-- ---- the samples of its chunks

-- the samples of a chunk
abbrev pub samples_of_chunk : List (List ℕ) → ℕ → List ℕ
samples_of_chunk samples k = get_or samples k []

-- Each chunk of an image has its number of samples, and each sample is a number of the bytes of a
-- sample.
pub record AreSupplied (i : OpenImage) (samples : List (List ℕ)) : Type 0 where
  pub lengths : (k : ℕ) → k < all_chunks (image_page i)
      → length (samples_of_chunk samples k) ≡ chunk_samples (image_page i) k
  pub small : (k n : ℕ) → get_or (samples_of_chunk samples k) n 0 < 256 ^ i.size

-- these bytes store the samples of a chunk
abbrev pub StandsFor : OpenImage → List (List ℕ) → ℕ → List ℕ → Type 0
StandsFor i samples k stored =
    (length stored ≡ slice_index (image_page i).byte_counts k)
    × IsChunkStored i stored (samples_of_chunk samples k)

-- the file has bytes that store the samples of each chunk
abbrev pub HasChunks : List ℕ → OpenImage → List (List ℕ) → Type 0
HasChunks file i samples =
    (k : ℕ) → k < all_chunks (image_page i)
    → (stored : List ℕ)
    × ((exactly_at file (slice_index (image_page i).offsets k) (length stored) ≡ Ok stored)
    × StandsFor i samples k stored)

-- the model has a region that stores the samples of each chunk
abbrev pub RegionsHaveChunks : Model → OpenImage → List (List ℕ) → Type 0
RegionsHaveChunks m i samples =
    (k : ℕ) → k < all_chunks (image_page i)
    → (stored : List ℕ)
    × (In (record { offset = slice_index (image_page i).offsets k; bytes = stored }) m.regions
    × StandsFor i samples k stored)

-- an image with these samples
abbrev pub image_with : OpenImage → List (List ℕ) → Image
image_with i samples = record { page = shown_page i; sample_at = sample_in (image_page i) samples }

-- ---- the laws

-- The page has a color, no chunk of it has too few data, and each sample that its color shows is
-- the given one.
pub record ShowsSamples (file : List ℕ) (page : PageRecord) (sample_at : ℕ → ℕ → ℕ
    → ℕ) : Type 0 where
  pub color : ColorType
  pub is_color : color_of page ≡ Ok color
  pub whole : (chunk : ℕ) → chunk < all_chunks page
      → is_short file LittleEndian page color chunk ≡ false
  pub shows : (x y sample : ℕ) → x < shown_columns page color → y < page.height
      → sample < num_samples color
      → shown_at file page color x y sample ≡ sample_at x y sample

-- a directory with the values that describe an image is the page of that image
abbrev pub PageTold : Type 0
PageTold =
    (kind : FileKind) (file : List ℕ) (m : Model) (d : FinishedDirectory)
    (fields : FinMap nat_cmp Field) (given : Given) (i : OpenImage)
    → FileContains kind file m → In d m.directories → d.fields ≡ standing_fields kind fields
    → HoldsValues m fields given
    → IsWholeImage kind i → HasImageTags kind i given
    → page_at kind file d.offset unlimited ≡ Ok (shown_page i)

-- chunks that store samples show these samples
abbrev pub ChunksShow : Type 0
ChunksShow = (kind : FileKind) (file : List ℕ) (i : OpenImage) (samples : List (List ℕ))
    → IsWholeImage kind i → AreSupplied i samples → HasChunks file i samples
    → ShowsSamples file (shown_page i) (sample_in (image_page i) samples)

-- a file that contains a model with an image shows that image
abbrev pub ImagesShow : Type 0
ImagesShow =
    (kind : FileKind) (file : List ℕ) (m : Model) (d : FinishedDirectory)
    (fields : FinMap nat_cmp Field) (given : Given) (i : OpenImage) (samples : List (List ℕ))
    → FileContains kind file m → In d m.directories → d.fields ≡ standing_fields kind fields
    → HoldsValues m fields given
    → IsWholeImage kind i → HasImageTags kind i given → AreSupplied i samples
    → RegionsHaveChunks m i samples
    → Shows kind file d.offset (image_with i samples)
