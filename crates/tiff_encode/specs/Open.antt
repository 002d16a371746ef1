-- An open image in a file that contains a model, and the laws that its calls keep it in the model
-- and that its end shows it (this project's).
use Rattle.std.specs.Prelude.{◌≡◌, ℕ, ◌^◌, ◌-◌, ◌<◌, ◌≤◌, ◌⊎◌, false, List, [], ◌∷◌, ◌++◌, length, get_or, slice_index, Option, Some, None, Result, Ok}
use Rattle.std.specs.List.{list_any}
use Rattle.std.specs.FinMap.{FinMap}
use Rattle.std.specs.Ordering.{nat_cmp}
use Rattle.tiff_base.specs.declared.error.TiffError.{TiffError}
use Rattle.tiff_base.specs.declared.tags.ExtraSamples.{ExtraSamples}
use Rattle.tiff_base.specs.declared.tags.FileKind.{FileKind}
use Rattle.tiff_base.specs.declared.tags.Predictor.TheVariants as predictor
use Rattle.tiff_base.specs.declared.tags.ResolutionUnit.{ResolutionUnit}
use Rattle.tiff_base.specs.declared.tags.Tag.{Tag}
use Rattle.tiff_base.specs.declared.tags.Tag.TheVariants as tag
use Rattle.tiff_base.specs.Field.{Field}
use Rattle.tiff_base.specs.Tags.{tag_number}
use Rattle.tiff_value.specs.declared.encoder.colortype.ColorTypeName.{ColorTypeName}
use Rattle.tiff_value.specs.Buffer.{BufferRecord}
use Rattle.tiff_value.specs.ColorTypes.{color_type, inner_size}
use Rattle.tiff_value.specs.Data.{FieldData, Scalars, u16s}
use Rattle.tiff_page.specs.Checks.{is_page_tag}
use Rattle.tiff_page.specs.Counts.{all_chunks}
use Rattle.tiff_value.specs.FileBytes.{offset_len}
use Rattle.tiff_value.specs.Model.{In, Model, FileContains, Grows}
use Rattle.tiff_value.specs.WriteOps.{model_after, standing_fields}
use Rattle.tiff_encode.specs.Machine.{FileState, OpenDirectory, Chunk, OpenImage, WriteOutcome, WriteCall}
use Rattle.tiff_encode.specs.Drawn.{IsSide, IsForm, HoldsPixels}
use Rattle.tiff_encode.specs.Chunks.{all_samples, image_page, chunk_samples, is_left}
use Rattle.tiff_encode.specs.Causes.{end_of}
use Rattle.tiff_encode.specs.Calls as calls
use Rattle.tiff_encode.specs.Calls.{Offsets}
use Rattle.tiff_encode.specs.Stored.{IsChunkStored}
use Rattle.tiff_encode.specs.Shows.{Shows}
use Rattle.tiff_encode.specs.Held.{Given, HoldsValues, ExtraGiven, AreGiven, EachGiven, lasting_tags, place_tags, samples_of_chunk, StandsFor, HasImageTags, IsWholeImage, AreSupplied, RegionsHaveChunks, image_with}

-- ---- the properties of an open image

-- the tags that describe the pixels of an image before its end: those of its samples are not
-- written yet, and the number of samples doesn't include extra samples
abbrev pub open_tags : OpenImage → Option Scalars → List (Tag × Option Scalars)
open_tags i extra =
    (tag.SamplesPerPixel, Some (u16s (length i.color.bits ∷ []))) ∷ lasting_tags i extra

-- The values of the tags that describe a page are those of an image before its end. They have no
-- offsets and byte counts of chunks.
pub record TellsOpen (i : OpenImage) (given : Given) : Type 0 where
  pub extra : ExtraGiven i.extra (given (tag_number tag.ExtraSamples))
  pub pixels : AreGiven (open_tags i (given (tag_number tag.ExtraSamples))) given
  pub chunks : EachGiven (place_tags i None None) given

-- An encoder can make an image with this width and height, these samples, this compression and this
-- layout of chunks.
pub record IsOpen (i : OpenImage) : Type 0 where
  pub name : ColorTypeName
  pub color : i.color ≡ color_type name
  pub size : i.size ≡ inner_size name
  pub wide : IsSide i.width
  pub high : IsSide i.height
  pub few : all_samples i < 2 ^ 16
  pub predicted_by : (i.predictor ≡ predictor.None) ⊎ (i.predictor ≡ predictor.Horizontal)
  pub form : IsForm i.width i.form
  pub pixels : HoldsPixels i

-- The chunks of an image so far have these samples: each chunk has its number of samples, each
-- sample is a number of the bytes of a sample, and the model has regions that store them.
pub record HoldsChunks (kind : FileKind) (m : Model) (i : OpenImage) (samples : List (List ℕ))
    : Type 0 where
  pub as_many : length samples ≡ length i.chunks
  pub within : length i.chunks ≤ all_chunks (image_page i)
  pub few : 0 < length i.chunks → all_chunks (image_page i) < 2 ^ 32
  pub lengths : (k : ℕ) → k < length i.chunks
      → length (samples_of_chunk samples k) ≡ chunk_samples (image_page i) k
  pub small : (k n : ℕ) → get_or (samples_of_chunk samples k) n 0 < 256 ^ i.size
  pub regions : (k : ℕ) → k < length i.chunks
      → (stored : List ℕ)
      × (In (record { offset = slice_index (image_page i).offsets k; bytes = stored }) m.regions
      × StandsFor i samples k stored)
  pub fit : (c : Chunk) → In c i.chunks → (c.offset < 256 ^ offset_len kind)
      × (c.stored < 256 ^ offset_len kind)

-- The model records an open image whose chunks so far have these samples.
pub record RecordsImage (kind : FileKind) (m : Model) (i : OpenImage) (samples : List (List ℕ)) : Type
    0 where
  pub given : Given
  pub holds : HoldsValues m i.directory.fields given
  pub tells : TellsOpen i given
  pub open_so : IsOpen i
  pub chunks : HoldsChunks kind m i samples

-- The model records an image that ended with all its chunks: it has a directory at an offset with
-- the values of the tags that describe a page, which are those of the image; the chunks have these
-- samples, and the model has regions that store them.
pub record HoldsEnded (kind : FileKind) (m : Model) (i : OpenImage) (samples : List (List ℕ))
    (offset : ℕ) : Type 0 where
  pub fields : FinMap nat_cmp Field
  pub given : Given
  pub listed : In (record { offset = offset; fields = standing_fields kind fields }) m.directories
  pub holds : HoldsValues m fields given
  pub whole : IsWholeImage kind i
  pub tells : HasImageTags kind i given
  pub supplied : AreSupplied i samples
  pub regions : RegionsHaveChunks m i samples

-- ---- the laws

-- the model after a call
abbrev pub model_by : {A : Type 0} → FileState → Model → WriteOutcome A → Model
model_by file m told = model_after file.kind file.bytes m told.ops

-- the model after `new_image` records the image
abbrev pub BeginsOpen : Type 0
BeginsOpen =
    (file : FileState) (m : Model) (name : ColorTypeName) (width height : ℕ) (i : OpenImage)
    → width < 2 ^ 32 → height < 2 ^ 32
    → (calls.new_image (color_type name) (inner_size name) width height file).answer ≡ Ok i
    → RecordsImage file.kind
    (model_by file m (calls.new_image (color_type name) (inner_size name) width height file)) i
    []

-- a model that records an open image still records it after more is written
abbrev pub GrownOpen : Type 0
GrownOpen = (kind : FileKind) (m n : Model) (i : OpenImage) (samples : List (List ℕ))
    → RecordsImage kind m i samples → Grows m n → RecordsImage kind n i samples

-- after a call of an image that succeeds, the model still records the image
abbrev pub KeepsOpen : (OpenImage → WriteCall OpenImage) → Type 0
KeepsOpen call = (file : FileState) (m : Model) (i next : OpenImage) (samples : List (List ℕ))
    → RecordsImage file.kind m i samples → (call i file).answer ≡ Ok next
    → RecordsImage file.kind (model_by file m (call i file)) next samples

abbrev pub SettingsKeepOpen : Type 0
SettingsKeepOpen =
    ((extra : List ExtraSamples) → KeepsOpen (λ i. calls.extra_samples i extra))
    × (((rows : ℕ) → rows < 2 ^ 32 → KeepsOpen (λ i. calls.set_rows_per_strip i rows))
    × (((width length : ℕ) → width < 2 ^ 32 → length < 2 ^ 32
    → KeepsOpen (λ i. calls.tiles i width length))
    × KeepsOpen calls.planar))

abbrev pub ResolutionsKeepOpen : Type 0
ResolutionsKeepOpen =
    ((u : ResolutionUnit) (value : ℕ × ℕ) → KeepsOpen (λ i. calls.resolution i u value))
    × (((value : ℕ × ℕ) → KeepsOpen (λ i. calls.x_resolution i value))
    × (((value : ℕ × ℕ) → KeepsOpen (λ i. calls.y_resolution i value))
    × ((u : ResolutionUnit) → KeepsOpen (λ i. calls.resolution_unit i u))))

-- the model still records an image after its directory gets a tag that doesn't describe a page
abbrev pub TagsKeepOpen : Type 0
TagsKeepOpen =
    (file : FileState) (m : Model) (i : OpenImage) (samples : List (List ℕ)) (t : Tag)
    (d : OpenDirectory)
    → RecordsImage file.kind m i samples → is_page_tag (tag_number t) ≡ false
    → (((value : Result FieldData TiffError)
    → (calls.write_tag i.directory t value file).answer ≡ Ok d
    → RecordsImage file.kind (model_by file m (calls.write_tag i.directory t value file))
    (calls.with_directory_of i d) samples)
    × ((b : BufferRecord) → (calls.write_tag_buf i.directory t b file).answer ≡ Ok d
    → RecordsImage file.kind (model_by file m (calls.write_tag_buf i.directory t b file))
    (calls.with_directory_of i d) samples))

-- the model still records an image after its directory gets fields of tags that don't describe a
-- page
abbrev pub FieldsKeepOpen : Type 0
FieldsKeepOpen =
    (kind : FileKind) (m : Model) (i : OpenImage) (samples : List (List ℕ))
    (fields : List (ℕ × Field))
    → RecordsImage kind m i samples → list_any (λ entry. is_page_tag entry.0) fields ≡ false
    → RecordsImage kind m (calls.with_directory_of i (calls.extend_from i.directory fields)) samples

-- after a chunk is written, the model records the image with the samples of that chunk
abbrev pub ChunksKeepOpen : Type 0
ChunksKeepOpen =
    (file : FileState) (m : Model) (i next : OpenImage) (samples : List (List ℕ))
    (numbers stored : List ℕ)
    → RecordsImage file.kind m i samples → ((n : ℕ) → get_or numbers n 0 < 256 ^ i.size)
    → length numbers < 2 ^ 64 - 1
    → IsChunkStored i stored numbers → end_of file < 2 ^ 64
    → length stored < 2 ^ 64
    → (((calls.write_chunk i (length numbers) stored file).answer ≡ Ok next
    → RecordsImage file.kind (model_by file m (calls.write_chunk i (length numbers) stored file)) next
    (samples ++ numbers ∷ []))
    × ((calls.write_strip i (length numbers) stored file).answer ≡ Ok next
    → RecordsImage file.kind (model_by file m (calls.write_strip i (length numbers) stored file)) next
    (samples ++ numbers ∷ [])))

-- the model records an image that ends with all its chunks as an ended image
abbrev pub EndsHeld : Type 0
EndsHeld =
    (file : FileState) (m : Model) (i : OpenImage) (samples : List (List ℕ)) (offsets : Offsets)
    → RecordsImage file.kind m i samples → is_left i ≡ false
    → (calls.finish_image i file).answer ≡ Ok offsets
    → HoldsEnded file.kind (model_by file m (calls.finish_image i file)) i samples offsets.pointer

-- a model that records an ended image still records it after more is written
abbrev pub GrownEnded : Type 0
GrownEnded = (kind : FileKind) (m n : Model) (i : OpenImage) (samples : List (List ℕ)) (offset : ℕ)
    → Grows m n → HoldsEnded kind m i samples offset → HoldsEnded kind n i samples offset

-- a file that contains a model shows each ended image that the model records
abbrev pub EndedShown : Type 0
EndedShown =
    (kind : FileKind) (file : List ℕ) (m : Model) (i : OpenImage) (samples : List (List ℕ))
    (offset : ℕ)
    → FileContains kind file m → HoldsEnded kind m i samples offset
    → Shows kind file offset (image_with i samples)

-- the file shows an image that the model records and that ends with all its chunks
abbrev pub EndsShown : Type 0
EndsShown =
    (file : FileState) (m : Model) (i : OpenImage) (samples : List (List ℕ)) (offsets : Offsets)
    → RecordsImage file.kind m i samples → is_left i ≡ false
    → (calls.finish_image i file).answer ≡ Ok offsets
    → FileContains file.kind (calls.finish_image i file).next.bytes
    (model_by file m (calls.finish_image i file))
    → Shows file.kind (calls.finish_image i file).next.bytes offsets.pointer (image_with i samples)
