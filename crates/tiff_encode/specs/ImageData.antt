-- How the samples of an image are written, and what the file contains after it (this project's).
use Rattle.std.specs.Prelude.{◌≡◌, ℕ, ◌+◌, ◌*◌, ◌^◌, ◌<◌, ◌≤◌, ◌⊎◌, List, [], ◌++◌, length, get_or, slice_index, Option, Some, None, Result, Ok, Err}
use Rattle.tiff_base.specs.declared.error.TiffError.{TiffError}
use Rattle.tiff_base.specs.declared.tags.FileKind.TheVariants.{Classic}
use Rattle.tiff_base.specs.declared.tags.Predictor.TheVariants as predictor
use Rattle.tiff_base.specs.Field.{AreEntries}
use Rattle.tiff_value.specs.declared.encoder.colortype.ColorTypeName.{ColorTypeName}
use Rattle.tiff_value.specs.declared.encoder.colortype.ColorTypeName.TheVariants.{Gray8}
use Rattle.tiff_value.specs.ColorType.{ColorTypeRecord}
use Rattle.tiff_value.specs.ColorTypes.{color_type, inner_size}
use Rattle.tiff_encode.specs.declared.encoder.settings.Compression.TheVariants.{Uncompressed}
use Rattle.tiff_value.specs.Model.{Model, IsLink, FileContains, header_link}
use Rattle.tiff_encode.specs.Machine.{FileState, OpenImage, WriteOutcome, WriteCall}
use Rattle.tiff_encode.specs.Drawn.{IsValidImage}
use Rattle.tiff_encode.specs.Chunks.{all_samples, image_page, shown_page, parts_left, sample_in}
use Rattle.tiff_encode.specs.Causes.{end_of, write_image_data_cause}
use Rattle.tiff_encode.specs.Calls as calls
use Rattle.tiff_encode.specs.Calls.{Offsets}
use Rattle.tiff_encode.specs.Ends.{EndsAsDefined, AppendFailed, IsShortOfMemory, CallFails, EndsSilently}
use Rattle.tiff_encode.specs.Leaves.{LeavesTorn}
use Rattle.tiff_encode.specs.Stored.{AreStored, IsChunkStored}
use Rattle.tiff_encode.specs.Shows.{Image, Shows, ShowsFirst, ShowsGray}
use Rattle.tiff_encode.specs.Held.{image_with}
use Rattle.tiff_encode.specs.Open.{RecordsImage, IsOpen, model_by}

-- an image with these samples, row by row and column by column
abbrev pub image_of_samples : OpenImage → List ℕ → Image
image_of_samples i samples = record {
  page = shown_page i;
  sample_at = λ x y sample. slice_index samples ((y * i.width + x) * all_samples i + sample);
}

-- ---- how they are written

-- Some chunks are stored, and then: the last of them is refused, or the sink fails, or there is no
-- memory for the next one.
abbrev pub StopsWithin : OpenImage → List (List ℕ) → TiffError → FileState → FileState → Type 0
StopsWithin i parts e old new =
    (stored : List (List ℕ)) × (AreStored i parts stored
    × (let told = calls.write_chunks i parts stored old in
    (EndsAsDefined told (Err e) new
    ⊎ (AppendFailed told.ops e old new ⊎ ((length stored < length parts)
    × IsShortOfMemory told e old new)))))

-- chunks of these samples are written one after another, and the image has them all; or the call
-- stops at one of them
abbrev pub WritesChunks : {A : Type 0} → OpenImage → List (List ℕ) → Result A TiffError → FileState
    → FileState → OpenImage → Type 0
WritesChunks i parts (Ok x) old new next =
    (stored : List (List ℕ)) × (AreStored i parts stored
    × ((length stored ≡ length parts)
    × EndsAsDefined (calls.write_chunks i parts stored old) (Ok next) new))
WritesChunks i parts (Err e) old new next = StopsWithin i parts e old new

-- All chunks that are left are stored, and then the image ends.
abbrev pub WritesWhole : {A : Type 0} → OpenImage → List ℕ → Result A TiffError → FileState
    → FileState → Type 0
WritesWhole i samples r old new =
    (stored : List (List ℕ)) × (AreStored i (parts_left i samples) stored
    × ((length stored ≡ length (parts_left i samples))
    × EndsSilently (calls.write_image_data i samples stored old) r old new))

-- Some of the chunks that are left are stored, and the call returns an error.
abbrev pub WritesSomeChunks : {A : Type 0} → OpenImage → List ℕ → Result A TiffError → FileState
    → FileState → Type 0
WritesSomeChunks i samples (Ok x) old new = ⊥
WritesSomeChunks i samples (Err e) old new = StopsWithin i (parts_left i samples) e old new

-- `write_data` of an image: it returns an error that applies before a chunk is written, and does
-- nothing; or it writes chunks
abbrev pub WritesDataBy : {A : Type 0} → Option TiffError → OpenImage → List ℕ → Result A TiffError
    → FileState → FileState → Type 0
WritesDataBy (Some cause) i samples r old new = (r ≡ Err cause) × (new ≡ old)
WritesDataBy None i samples r old new =
    WritesWhole i samples r old new ⊎ WritesSomeChunks i samples r old new

abbrev pub WritesImageData : {A : Type 0} → OpenImage → List ℕ → Result A TiffError → FileState
    → FileState → Type 0
WritesImageData i samples r old new =
    WritesDataBy (write_image_data_cause old i (length samples)) i samples r old new

-- the image isn't begun, and the call returns an error
abbrev pub ImageIsNotBegun : {A B : Type 0} → WriteOutcome B → Result A TiffError → FileState
    → FileState → Type 0
ImageIsNotBegun told (Ok x) old new = ⊥
ImageIsNotBegun told (Err e) old new = CallFails told e old new

-- `write_image`: it begins an image of a color type, whose samples have `size` bytes, of a width
-- and a height, and writes its samples
abbrev pub WritesImage : {A : Type 0} → ColorTypeRecord → ℕ → ℕ → ℕ → List ℕ → Result A TiffError
    → FileState → FileState → Type 0
WritesImage color size width height samples r old new =
    ImageIsNotBegun (calls.new_image color size width height old) r old new
    ⊎ ((i : OpenImage) × ((mid : FileState)
    × (EndsAsDefined (calls.new_image color size width height old) (Ok i) mid
    × WritesImageData i samples r mid new)))

-- ---- what the file contains after it

-- If the chunk is stored, the file contains the model with the chunk; otherwise it contains the
-- model as before.
abbrev pub LeavesChunk : {A : Type 0} → (OpenImage → ℕ → List ℕ → WriteCall OpenImage) → OpenImage
    → List ℕ → Result A TiffError
    → FileState → FileState → OpenImage → Model → Type 0
LeavesChunk call i samples (Ok x) old new next m =
    (stored : List ℕ) × (IsChunkStored i stored samples
    × (EndsAsDefined (call i (length samples) stored old) (Ok next) new
    × FileContains old.kind new.bytes (model_by old m (call i (length samples) stored old))))
LeavesChunk call i samples (Err e) old new next m = FileContains old.kind new.bytes m

-- All samples are written: the file contains the model with all writes of the call. If the model
-- recorded the open image with the samples of its earlier chunks, the page shows those samples and
-- the written ones.
pub record LeavesWhole (i : OpenImage) (samples : List ℕ) (old new : FileState) (m : Model) : Type 0
  where
    pub stored : List (List ℕ)
    pub offsets : Offsets
    pub told : EndsAsDefined (calls.write_image_data i samples stored old) (Ok offsets) new
    pub stands : FileContains old.kind new.bytes
        (model_by old m (calls.write_image_data i samples stored old))
    pub shows : (before : List (List ℕ)) → RecordsImage old.kind m i before
        → Shows old.kind new.bytes offsets.pointer (image_with i (before ++ parts_left i samples))

-- `write_data` succeeds, or it fails and the file contains the model as before, or all of it except
-- the parent's link, whose write failed partway.
abbrev pub LeavesData : {A : Type 0} → OpenImage → List ℕ → Result A TiffError → FileState
    → FileState → Model → Type 0
LeavesData i samples (Ok x) old new m = LeavesWhole i samples old new m
LeavesData i samples (Err e) old new m =
    FileContains old.kind new.bytes m
    ⊎ ((stored : List (List ℕ))
    × LeavesTorn (calls.write_image_data i samples stored old) e old new m)

-- `finish` and `discard` of an image with all its chunks in the file: the page shows the image
abbrev pub ShowsFinished : {A : Type 0} → OpenImage → List (List ℕ) → Result A TiffError → FileState
    → FileState → Type 0
ShowsFinished i samples (Ok x) old new =
    (offsets : Offsets)
    × (EndsAsDefined (calls.finish_image i old) (Ok offsets) new
    × Shows old.kind new.bytes offsets.pointer (image_with i samples))
ShowsFinished i samples (Err e) old new = Unit {0}

-- A new image is written. It is begun, and then all its samples are written. The file contains the
-- model with all writes of the call. If the color type is named, the image is one that an encoder
-- can make, and the page shows the samples. The directory of the image is after the end of the
-- earlier file. The former last link of the IFD chain points to it, and its own link is one that
-- can point to the next page.
pub record LeavesImage (color : ColorTypeRecord) (size width height : ℕ) (samples : List ℕ)
    (old new : FileState) (m : Model) : Type 0 where
  pub image : OpenImage
  pub mid : FileState
  pub begun : EndsAsDefined (calls.new_image color size width height old) (Ok image) mid
  pub stored : List (List ℕ)
  pub offsets : Offsets
  pub told : EndsAsDefined (calls.write_image_data image samples stored mid) (Ok offsets) new
  pub after : Model
  pub after_is : after ≡ model_by mid (model_by old m (calls.new_image color size width height old))
      (calls.write_image_data image samples stored mid)
  pub stands : FileContains old.kind new.bytes after
  pub open_so : (name : ColorTypeName) → color ≡ color_type name → size ≡ inner_size name
      → IsOpen image
  pub shows : (name : ColorTypeName) → color ≡ color_type name → size ≡ inner_size name
      → Shows old.kind new.bytes offsets.pointer (image_of_samples image samples)
  pub placed : end_of old ≤ offsets.pointer
  pub linked : after.links old.chain ≡ offsets.pointer
  pub next : IsLink old.kind after new.chain

-- `write_image` succeeds, or it fails and the file contains the model as before, or all of it
-- except the last link of the IFD chain, whose write failed partway.
abbrev pub LeavesNewImage : {A : Type 0} → ColorTypeRecord → ℕ → ℕ → ℕ → List ℕ → Result A TiffError
    → FileState → FileState → Model → Type 0
LeavesNewImage color size width height samples (Ok x) old new m =
    LeavesImage color size width height samples old new m
LeavesNewImage color size width height samples (Err e) old new m =
    FileContains old.kind new.bytes m
    ⊎ ((i : OpenImage) × ((mid : FileState) × ((stored : List (List ℕ))
    × (EndsAsDefined (calls.new_image color size width height old) (Ok i) mid
    × LeavesTorn (calls.write_image_data i samples stored mid) e mid new
    (model_by old m (calls.new_image color size width height old))))))

-- ---- the laws

-- each sample is a number of `size` bytes
abbrev pub AreNumbers : ℕ → List ℕ → Type 0
AreNumbers size samples = (n : ℕ) → get_or samples n 0 < 256 ^ size

-- a file is shorter than 2^64 bytes; each sink is, also after a failed write
abbrev pub IsShortFile : FileState → Type 0
IsShortFile file = end_of file < 2 ^ 64

-- what the file contains after `write_data` of an image succeeds or fails
abbrev pub DataLeaves : Type 0
DataLeaves =
    (i : OpenImage) (samples : List ℕ) (r : Result (Unit {0}) TiffError) (old new : FileState)
    (m : Model)
    → AreEntries i.directory.fields → AreNumbers i.size samples → IsShortFile new
    → FileContains old.kind old.bytes m
    → ((offset : ℕ) → i.directory.parent ≡ Some offset → IsLink old.kind m offset)
    → WritesImageData i samples r old new → LeavesData i samples r old new m

-- the samples that `write_data` passes to the chunks of an image that has no chunk yet are those of
-- the image
abbrev pub PartsShow : Type 0
PartsShow = (i : OpenImage) (samples : List ℕ) (x y sample : ℕ)
    → IsValidImage i.width i.height (length i.color.bits) (length i.extra) i.form → i.chunks ≡ []
    → x < i.width → y < i.height → sample < all_samples i
    → sample_in (image_page i) (parts_left i samples) x y sample
    ≡ (image_of_samples i samples).sample_at x y sample

-- an image that follows directly after the header is the first page of its file, which shows its
-- samples
abbrev pub FirstShown : Type 0
FirstShown =
    (color : ColorTypeRecord) (size width height : ℕ) (samples : List ℕ) (old new : FileState)
    (m : Model)
    → old.chain ≡ header_link old.kind → 0 < end_of old
    → (l : LeavesImage color size width height samples old new m)
    → (name : ColorTypeName) → color ≡ color_type name → size ≡ inner_size name
    → ShowsFirst old.kind new.bytes (image_of_samples l.image samples)

-- an image of 8-bit gray samples, without compression and predictor, that follows directly after
-- the header of a classic file is the first page of the file, which shows its samples
abbrev pub GrayShown : Type 0
GrayShown = (width height : ℕ) (samples : List ℕ) (old new : FileState) (m : Model)
    → old.kind ≡ Classic → old.chain ≡ header_link Classic → 0 < end_of old
    → old.compression ≡ Uncompressed → old.predictor ≡ predictor.None
    → LeavesImage (color_type Gray8) (inner_size Gray8) width height samples old new m
    → ShowsGray new.bytes width height samples

-- what the file contains after `write_image` succeeds or fails
abbrev pub ImageLeaves : Type 0
ImageLeaves =
    (color : ColorTypeRecord) (size width height : ℕ) (samples : List ℕ)
    (r : Result (Unit {0}) TiffError)
    (old new : FileState) (m : Model) → width < 2 ^ 32 → height < 2 ^ 32
    → AreNumbers size samples
    → IsShortFile new
    → FileContains old.kind old.bytes m → IsLink old.kind m old.chain
    → WritesImage color size width height samples r old new
    → LeavesNewImage color size width height samples r old new m
