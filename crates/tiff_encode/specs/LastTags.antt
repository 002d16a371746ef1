-- The last tags of an image, part by part (this project's).
use Rattle.std.specs.Prelude.{ℕ, ◌+◌, ◌==◌, List, [], ◌∷◌, ◌++◌, length, map, Ok, if◌then◌else◌}
use Rattle.std.proofs.Common.{refl}
use Rattle.tiff_base.specs.declared.color.ChunkType.{ChunkType}
use Rattle.tiff_base.specs.declared.color.ChunkType.TheVariants.{Strip, Tile}
use Rattle.tiff_base.specs.declared.tags.FileKind.{FileKind}
use Rattle.tiff_base.specs.declared.tags.FileKind.TheVariants.{Classic, Big}
use Rattle.tiff_base.specs.declared.tags.SampleFormat.{SampleFormat}
use Rattle.tiff_base.specs.declared.tags.Tag.{Tag}
use Rattle.tiff_base.specs.declared.tags.Tag.TheVariants as tag
use Rattle.tiff_base.specs.declared.tags.«Type».{«Type»}
use Rattle.tiff_base.specs.declared.tags.«Type».TheVariants.{LONG, LONG8}
use Rattle.tiff_base.specs.Number.{le}
use Rattle.tiff_value.specs.Data.{Scalars, u16s, formats, data_of}
use Rattle.tiff_value.specs.ValueLaws.{each_whole}
use Rattle.tiff_value.specs.Values.{IsValue}
use Rattle.tiff_encode.specs.declared.encoder.finish.ChunkListKind.{ChunkListKind}
use Rattle.tiff_encode.specs.declared.encoder.finish.ChunkListKind.TheVariants.{OffsetList, ByteCountList}
use Rattle.tiff_encode.specs.Machine.{Chunk}
use Rattle.tiff_value.specs.Fields.{offset_values}
use Rattle.tiff_encode.specs.Calls.{extended_by_first, chunk_tags}

-- the tag of the number of samples of a pixel, if some are extra samples
abbrev pub count_tags : List ℕ → ℕ → List (Tag × Scalars)
count_tags bits extra = if extra == 0 then []
    else (tag.SamplesPerPixel, u16s ((length bits + extra) ∷ [])) ∷ []

-- the tags of the bits of each sample and of the number of samples
abbrev pub bits_tags : List ℕ → ℕ → List (Tag × Scalars)
bits_tags bits extra =
    (tag.BitsPerSample, u16s (extended_by_first bits extra)) ∷ count_tags bits extra

-- the tags of the bits of each sample, of the number of samples and of the format of each sample
abbrev pub samples_tags : List ℕ → List SampleFormat → ℕ → List (Tag × Scalars)
samples_tags bits kinds extra =
    bits_tags bits extra ++ (tag.SampleFormat, formats (extended_by_first kinds extra)) ∷ []

-- the offset of a chunk, or its number of bytes in the file
abbrev pub number_of_part : ChunkListKind → Chunk → ℕ
number_of_part OffsetList chunk = chunk.offset
number_of_part ByteCountList chunk = chunk.stored

-- the tags of the offsets and of the byte counts of the chunks
abbrev pub list_tags_of : ChunkType → Tag × Tag
list_tags_of Strip = (tag.StripOffsets, tag.StripByteCounts)
list_tags_of Tile = (tag.TileOffsets, tag.TileByteCounts)

-- the tags of the offsets and of the byte counts of the chunks, with their values
abbrev pub list_tags : FileKind → ChunkType → List Chunk → List (Tag × Scalars)
list_tags kind type chunks =
    chunk_tags type (offset_values kind (map (λ chunk. chunk.offset) chunks))
    (offset_values kind (map (λ chunk. chunk.stored) chunks))

-- ---- offsets as values

-- the type of an offset
abbrev pub offset_type : FileKind → «Type»
offset_type Classic = LONG
offset_type Big = LONG8

-- offsets have as many bytes as their count and their type say
pub offsets_value : (kind : FileKind) (ns : List ℕ)
    → IsValue (offset_type kind) (length ns) (Ok (data_of (offset_values kind ns)))
unfolding data_of
offsets_value Classic ns = (refl, refl, each_whole 4 (le 4) (λ n. refl) ns)
offsets_value Big ns = (refl, refl, each_whole 8 (le 8) (λ n. refl) ns)
