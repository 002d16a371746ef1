-- The result, the writes and the next state of each call of the encoder (this project's).
use Rattle.std.specs.Prelude.{ℕ, ◌*◌, ◌==◌, Bool, true, false, List, [], ◌∷◌, ◌++◌, length, map, replicate, Option, Some, None, Result, Ok, Err, if◌then◌else◌}
use Rattle.std.specs.FinMap.{empty, insert, remove, len}
use Rattle.std.specs.List.{fold}
use Rattle.tiff_base.specs.declared.color.ChunkType.{ChunkType}
use Rattle.tiff_base.specs.declared.color.ChunkType.TheVariants.{Strip, Tile}
use Rattle.tiff_base.specs.declared.error.TiffError.{TiffError}
use Rattle.tiff_base.specs.declared.tags.ExtraSamples.{ExtraSamples}
use Rattle.tiff_base.specs.declared.tags.FileKind.{FileKind}
use Rattle.tiff_base.specs.declared.tags.PhotometricInterpretation.{PhotometricInterpretation}
use Rattle.tiff_base.specs.declared.tags.PhotometricInterpretation.TheVariants.{YCbCr}
use Rattle.tiff_base.specs.declared.tags.PlanarConfiguration.{PlanarConfiguration}
use Rattle.tiff_base.specs.declared.tags.PlanarConfiguration.TheVariants.{Chunky, Planar}
use Rattle.tiff_base.specs.declared.tags.Predictor.{Predictor}
use Rattle.tiff_base.specs.declared.tags.ResolutionUnit.{ResolutionUnit}
use Rattle.tiff_base.specs.declared.tags.ResolutionUnit.TheVariants as unit
use Rattle.tiff_base.specs.declared.tags.Tag.{Tag}
use Rattle.tiff_base.specs.declared.tags.Tag.TheVariants as tag
use Rattle.tiff_base.specs.declared.tags.«Type».{«Type»}
use Rattle.tiff_base.specs.Directory.{link_offset}
use Rattle.tiff_base.specs.Field.{Field}
use Rattle.tiff_base.specs.Tags.{tag_number}
use Rattle.tiff_value.specs.ColorType.{ColorTypeRecord, columns_of}
use Rattle.tiff_encode.specs.declared.encoder.settings.Compression.{Compression}
use Rattle.tiff_encode.specs.declared.encoder.settings.Compression.TheVariants.{Uncompressed}
use Rattle.tiff_value.specs.FileBytes.{padding, rows_per_strip}
use Rattle.tiff_value.specs.Buffer.{BufferRecord}
use Rattle.tiff_value.specs.Data.{FieldData, Scalars, u16s, u32s, methods, interpretations, planars, predictors, units, formats, extras, rationals, data_of}
use Rattle.tiff_value.specs.Fields.{offset_values, data_in, buffer_data, is_long, field_at}
use Rattle.tiff_value.specs.WriteOps.{WriteOp, Appended, Supplied, Listed, Linked}
use Rattle.tiff_encode.specs.Machine.{FileState, compression_method, OpenDirectory, ChunkLayout, OpenImage, WriteCall, answers, gives, does, by_cause, ◌>>=◌}
use Rattle.tiff_encode.specs.Chunks.{all_samples, parts_left}
use Rattle.tiff_encode.specs.Causes.{begin_cause, write_tag_cause, write_buf_cause, write_entry_bytes_cause, write_data_cause, write_data_buf_cause, finish_cause, offset_cause, new_image_cause, extra_samples_cause, rows_per_strip_cause, tiles_cause, planar_cause, resolution_cause, one_resolution_cause, resolution_unit_cause, write_strip_cause, write_chunk_cause, write_image_data_cause, end_of}

-- ---- settings

abbrev pub with_predictor : Predictor → FileState → FileState
with_predictor predictor file = record file { predictor = predictor }

abbrev pub with_compression : Compression → FileState → FileState
with_compression compression file = record file { compression = compression }

-- ---- directories

-- an open directory with no field
abbrev pub new_directory : Option ℕ → Bool → OpenDirectory
new_directory parent chained = record { fields = empty; parent = parent; chained = chained }

-- appends zeros up to a multiple of 4 bytes
abbrev pub pad : WriteCall (Unit {0})
pad file = does (Appended (padding (end_of file)) ∷ []) file

-- `image_directory`: the last link of the IFD chain points to the directory when it ends, and its
-- own link becomes the last link of the chain
unfoldable pub image_directory : WriteCall OpenDirectory
image_directory file = by_cause (begin_cause file) (do
  _ ← pad
  gives (new_directory (Some file.chain) true)) file

-- `extra_directory`: no link points to the directory yet
unfoldable pub extra_directory : WriteCall OpenDirectory
extra_directory file = by_cause (begin_cause file) (do
  _ ← pad
  gives (new_directory None false)) file

-- the directory with a field for a tag, which replaces an earlier field of that tag
abbrev pub with_field : OpenDirectory → Tag → Field → OpenDirectory
with_field d t field = record d { fields = insert d.fields (tag_number t) field }

-- the directory without the field of a tag
abbrev pub without_field : OpenDirectory → Tag → OpenDirectory
without_field d t = record d { fields = remove d.fields (tag_number t) }

-- writes a value for a field: its bytes are appended if they don't fit into the entry
abbrev pub placed_field : FieldData → WriteCall Field
placed_field value file =
    let field = field_at file.kind (end_of file) value in
    let supplied = Supplied (record { field = field; bytes = value.bytes }) in
    (do
      _ ← does (if is_long file.kind value then Appended value.bytes ∷ supplied ∷ []
          else supplied ∷ [])
      gives field) file

-- `write_entry`, `write_entry_buf`, `write_entry_bytes`: they return the field; the directory
-- doesn't change
unfoldable pub write_entry : Result FieldData TiffError → WriteCall Field
write_entry value file = by_cause (write_tag_cause file value) (do
  known ← answers value
  placed_field known) file

unfoldable pub write_entry_buf : BufferRecord → WriteCall Field
write_entry_buf b file = by_cause (write_buf_cause file b) (placed_field (buffer_data b)) file

unfoldable pub write_entry_bytes : «Type» → List ℕ → WriteCall Field
write_entry_bytes type bytes file =
    by_cause (write_entry_bytes_cause file type bytes) (placed_field (data_in type bytes)) file

-- `write_tag`, `write_tag_buf`: they write as `write_entry` and `write_entry_buf` do, and set the
-- field in the directory
unfoldable pub write_tag : OpenDirectory → Tag → Result FieldData TiffError
    → WriteCall OpenDirectory
write_tag d t value = do
  field ← write_entry value
  gives (with_field d t field)

unfoldable pub write_tag_buf : OpenDirectory → Tag → BufferRecord → WriteCall OpenDirectory
write_tag_buf d t b = do
  field ← write_entry_buf b
  gives (with_field d t field)

-- appends bytes, and returns their offset
abbrev pub appends : List ℕ → WriteCall ℕ
appends bytes file = (do
  _ ← does (Appended bytes ∷ [])
  gives (end_of file)) file

-- `write_data` of a directory, `write_data_buf`: they return the offset of the bytes
unfoldable pub write_data : Result FieldData TiffError → WriteCall ℕ
write_data value file = by_cause (write_data_cause file value) (do
  known ← answers value
  appends known.bytes) file

unfoldable pub write_data_buf : BufferRecord → WriteCall ℕ
write_data_buf b file = by_cause (write_data_buf_cause file b) (appends b.bytes) file

-- `extend_from`: the given fields replace the directory's fields of the same tags
unfoldable pub extend_from : OpenDirectory → List (ℕ × Field) → OpenDirectory
extend_from d given =
    record d { fields = fold (λ fields entry. insert fields entry.0 entry.1) d.fields given }

-- the offset of a directory, and the offset of its own link
pub record Offsets : Type 0 where
  pub pointer : ℕ
  pub link : ℕ

-- the offsets of a directory at an offset with a given number of entries, and of its link
abbrev pub offsets_of : FileKind → ℕ → ℕ → Offsets
offsets_of kind offset count = record { pointer = offset; link = link_offset kind offset count }

-- the result if no error applies, otherwise the error
abbrev pub result_by : {A : Type 0} → Option TiffError → A → Result A TiffError
result_by None x = Ok x
result_by (Some e) x = Err e

-- `DirectoryOffset::new`, of a directory with a given number of entries
unfoldable pub new_offset : FileKind → ℕ → ℕ → Result Offsets TiffError
new_offset kind pointer count =
    result_by (offset_cause kind pointer count) (offsets_of kind pointer count)

-- `set_parent`: when the directory ends, the link of the directory `parent` points to it
unfoldable pub set_parent : OpenDirectory → Offsets → OpenDirectory
set_parent d parent = record d { parent = Some parent.link }

-- writes an offset into the parent's link, if there is a parent
abbrev pub links_to : Option ℕ → ℕ → List WriteOp
links_to None offset = []
links_to (Some parent) offset = Linked parent offset ∷ []

-- the file after a directory ends: if the directory is in the IFD chain, its own link is the last
-- link of the chain
abbrev pub chain_after : FileState → Bool → Offsets → FileState
chain_after file true offsets = record file { chain = offsets.link }
chain_after file false offsets = file

-- makes the link of a finished directory the last link of the IFD chain, if the directory is in the
-- chain
abbrev pub chains : Bool → Offsets → WriteCall Offsets
chains chained offsets file =
    record { answer = Ok offsets; ops = []; next = chain_after file chained offsets }

-- `finish_with_offsets`, and `finish` and `discard`, which drop the offsets: the directory is
-- appended, then the offset of the directory is written into the parent's link
unfoldable pub finish : OpenDirectory → WriteCall Offsets
finish d file = by_cause (finish_cause file d) (do
  _ ← does (Listed d.fields ∷ links_to d.parent (end_of file))
  chains d.chained (offsets_of file.kind (end_of file) (len d.fields))) file

-- ---- images

-- the default number of rows of a strip: one row if strips are compressed, otherwise as many rows
-- as make a million bytes
abbrev pub default_rows : Compression → ℕ → ℕ
default_rows Uncompressed row_bytes = rows_per_strip row_bytes
default_rows _ row_bytes = 1

-- writes several tags one after another
abbrev pub write_tags : OpenDirectory → List (Tag × Scalars) → WriteCall OpenDirectory
write_tags d [] = gives d
write_tags d (value ∷ values) = do
  next ← write_tag d value.0 (Ok (data_of value.1))
  write_tags next values

-- YCbCr samples are written without subsampling
abbrev pub chroma_tags : PhotometricInterpretation → List (Tag × Scalars)
chroma_tags YCbCr = (tag.ChromaSubsampling, u16s (1 ∷ 1 ∷ [])) ∷ []
chroma_tags _ = []

-- the layout of strips with a given number of rows, as wide as the image; and the layout of tiles
abbrev pub strips_of : ℕ → ℕ → PlanarConfiguration → ChunkLayout
strips_of width rows planar =
    record { chunk_type = Strip; chunk_width = width; chunk_height = rows; planar = planar }

abbrev pub tiles_of : ℕ → ℕ → PlanarConfiguration → ChunkLayout
tiles_of width length planar =
    record { chunk_type = Tile; chunk_width = width; chunk_height = length; planar = planar }

-- the tags of the width, the height, the compression, the predictor and the interpretation of the
-- samples
abbrev pub meaning_tags : OpenImage → List (Tag × Scalars)
meaning_tags i =
    (tag.ImageWidth, u32s (i.pixels ∷ []))
    ∷ (tag.ImageLength, u32s (i.height ∷ []))
    ∷ (tag.Compression, methods (compression_method i.compression ∷ []))
    ∷ (tag.Predictor, predictors (i.predictor ∷ []))
    ∷ (tag.PhotometricInterpretation, interpretations (i.color.interpretation ∷ []))
    ∷ []

-- the tags of the rows of a strip, the samples of a pixel, and a resolution of 1/1 without a unit
abbrev pub layout_tags : OpenImage → List (Tag × Scalars)
layout_tags i =
    (tag.RowsPerStrip, u32s (i.form.chunk_height ∷ []))
    ∷ (tag.SamplesPerPixel, u16s (length i.color.bits ∷ []))
    ∷ (tag.XResolution, rationals ((1, 1) ∷ []))
    ∷ (tag.YResolution, rationals ((1, 1) ∷ []))
    ∷ (tag.ResolutionUnit, units (unit.None ∷ []))
    ∷ []

-- the tags that a new image writes, in the order in which it writes them
unfoldable pub first_tags : OpenImage → List (Tag × Scalars)
first_tags i = meaning_tags i ++ (chroma_tags i.color.interpretation ++ layout_tags i)

-- an image of a width in pixels and a height without chunks, in a directory; `size` is the number
-- of bytes of a sample
abbrev pub image_in : FileState → OpenDirectory → ColorTypeRecord → ℕ → ℕ → ℕ → OpenImage
image_in file d color size width height = record {
  directory = d;
  width = columns_of color width;
  height = height;
  pixels = width;
  color = color;
  size = size;
  extra = [];
  predictor = file.predictor;
  compression = file.compression;
  form = strips_of (columns_of color width)
      (default_rows file.compression (columns_of color width * (length color.bits * size)))
      Chunky;
  chunks = [];
}

-- the image with another directory
abbrev pub with_directory_of : OpenImage → OpenDirectory → OpenImage
with_directory_of i d = record i { directory = d }

-- `new_image`
unfoldable pub new_image : ColorTypeRecord → ℕ → ℕ → ℕ → WriteCall OpenImage
new_image color size width height file = by_cause (new_image_cause file color width height) (do
  d ← image_directory
  last ← write_tags d (first_tags (image_in file d color size width height))
  gives (image_in file last color size width height)) file

-- `extra_samples`: the list replaces an earlier one
unfoldable pub extra_samples : OpenImage → List ExtraSamples → WriteCall OpenImage
extra_samples i extra file = by_cause (extra_samples_cause file i extra) (do
  d ← write_tag i.directory tag.ExtraSamples (Ok (data_of (extras extra)))
  gives (record i { directory = d; extra = extra })) file

-- `rows_per_strip`
unfoldable pub set_rows_per_strip : OpenImage → ℕ → WriteCall OpenImage
set_rows_per_strip i rows file = by_cause (rows_per_strip_cause file i rows) (do
  d ← write_tag i.directory tag.RowsPerStrip (Ok (data_of (u32s (rows ∷ []))))
  gives (record i { directory = d; form = strips_of i.width rows i.form.planar })) file

-- `tiles`: the tag of the rows of a strip is removed; a later call replaces the width and the
-- length
unfoldable pub tiles : OpenImage → ℕ → ℕ → WriteCall OpenImage
tiles i width length file = by_cause (tiles_cause file i width length) (do
  d ← write_tags i.directory
      ((tag.TileWidth, u32s (width ∷ [])) ∷ (tag.TileLength, u32s (length ∷ [])) ∷ [])
  gives (record i {
    directory = without_field d tag.RowsPerStrip;
    form = tiles_of width length i.form.planar;
  })) file

-- `planar`: each chunk contains the samples of one plane
unfoldable pub planar : OpenImage → WriteCall OpenImage
planar i file = by_cause (planar_cause file i) (do
  d ← write_tag i.directory tag.PlanarConfiguration (Ok (data_of (planars (Planar ∷ []))))
  gives (record i { directory = d; form = record i.form { planar = Planar } })) file

-- an image with additional tags
abbrev pub with_tags : OpenImage → List (Tag × Scalars) → WriteCall OpenImage
with_tags i values = do
  d ← write_tags i.directory values
  gives (with_directory_of i d)

-- the tags of both resolutions and their unit, in the order in which they are written
abbrev pub resolution_tags : ResolutionUnit → ℕ × ℕ → List (Tag × Scalars)
resolution_tags u value =
    (tag.ResolutionUnit, units (u ∷ [])) ∷ (tag.XResolution, rationals (value ∷ []))
    ∷ (tag.YResolution, rationals (value ∷ [])) ∷ []

-- `resolution`, of a unit and a rational number
unfoldable pub resolution : OpenImage → ResolutionUnit → ℕ × ℕ → WriteCall OpenImage
resolution i u value file =
    by_cause (resolution_cause file) (with_tags i (resolution_tags u value)) file

-- `x_resolution`, `y_resolution`, `resolution_unit`
unfoldable pub x_resolution : OpenImage → ℕ × ℕ → WriteCall OpenImage
x_resolution i value file =
    by_cause (one_resolution_cause file)
    (with_tags i ((tag.XResolution, rationals (value ∷ [])) ∷ [])) file

unfoldable pub y_resolution : OpenImage → ℕ × ℕ → WriteCall OpenImage
y_resolution i value file =
    by_cause (one_resolution_cause file)
    (with_tags i ((tag.YResolution, rationals (value ∷ [])) ∷ [])) file

unfoldable pub resolution_unit : OpenImage → ResolutionUnit → WriteCall OpenImage
resolution_unit i u file =
    by_cause (resolution_unit_cause file) (with_tags i ((tag.ResolutionUnit, units (u ∷ [])) ∷ []))
    file

-- the image with one more chunk
abbrev pub with_chunk : OpenImage → ℕ → ℕ → OpenImage
with_chunk i offset stored =
    record i { chunks = i.chunks ++ (record { offset = offset; stored = stored }) ∷ [] }

-- appends a chunk, as the given bytes
abbrev pub appends_chunk : OpenImage → List ℕ → WriteCall OpenImage
appends_chunk i stored = do
  offset ← appends stored
  gives (with_chunk i offset (length stored))

-- `write_strip`, `write_chunk`, of a given number of samples, which are stored as the given bytes
unfoldable pub write_strip : OpenImage → ℕ → List ℕ → WriteCall OpenImage
write_strip i count stored file =
    by_cause (write_strip_cause file i count (length stored)) (appends_chunk i stored) file

unfoldable pub write_chunk : OpenImage → ℕ → List ℕ → WriteCall OpenImage
write_chunk i count stored file =
    by_cause (write_chunk_cause file i count (length stored)) (appends_chunk i stored) file

-- a list with one copy of its first item for each extra sample
abbrev pub extended_by_first : {A : Type 0} → List A → ℕ → List A
extended_by_first [] count = []
extended_by_first (x ∷ xs) count = (x ∷ xs) ++ replicate count x

-- the tag of the number of samples is written again if there are extra samples
abbrev pub sample_tags : OpenImage → List (Tag × Scalars)
sample_tags i = if length i.extra == 0 then []
    else (tag.SamplesPerPixel, u16s (all_samples i ∷ [])) ∷ []

-- the tags of the offsets of the chunks and of the number of bytes of each
abbrev pub chunk_tags : ChunkType → Scalars → Scalars → List (Tag × Scalars)
chunk_tags Strip offsets byte_counts =
    (tag.StripOffsets, offsets) ∷ (tag.StripByteCounts, byte_counts) ∷ []
chunk_tags Tile offsets byte_counts =
    (tag.TileOffsets, offsets) ∷ (tag.TileByteCounts, byte_counts) ∷ []

-- the tags that the end of an image writes, in the order in which it writes them
unfoldable pub last_tags : FileKind → OpenImage → List (Tag × Scalars)
last_tags kind i =
    (tag.BitsPerSample, u16s (extended_by_first i.color.bits (length i.extra)))
    ∷ sample_tags i
    ++ ((tag.SampleFormat, formats (extended_by_first i.color.formats (length i.extra)))
    ∷ chunk_tags i.form.chunk_type (offset_values kind (map (λ chunk. chunk.offset) i.chunks))
    (offset_values kind (map (λ chunk. chunk.stored) i.chunks)))

-- `finish` and `discard` of an image, also with missing chunks: they write the last tags one by
-- one, and then end the directory
unfoldable pub finish_image : OpenImage → WriteCall Offsets
finish_image i file = (do
  d ← write_tags i.directory (last_tags file.kind i)
  finish d) file

-- writes chunks of these samples one after another, each as the bytes that `stored` has for it; it
-- ends at the end of the shorter list
abbrev pub write_chunks : OpenImage → List (List ℕ) → List (List ℕ) → WriteCall OpenImage
write_chunks i [] stored = gives i
write_chunks i (samples ∷ more) [] = gives i
write_chunks i (samples ∷ more) (stored ∷ others) = do
  next ← write_chunk i (length samples) stored
  write_chunks next more others

-- `write_data` of an image: it writes the chunks that are left, and then ends the image
unfoldable pub write_image_data : OpenImage → List ℕ → List (List ℕ) → WriteCall Offsets
write_image_data i samples stored file =
    by_cause (write_image_data_cause file i (length samples)) (do
      last ← write_chunks i (parts_left i samples) stored
      finish_image last) file

-- `write_image`
unfoldable pub write_image : ColorTypeRecord → ℕ → ℕ → ℕ → List ℕ → List (List ℕ)
    → WriteCall Offsets
write_image color size width height samples stored = do
  i ← new_image color size width height
  write_image_data i samples stored
