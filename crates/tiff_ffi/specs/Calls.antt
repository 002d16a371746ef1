-- What the calls for C return of the pages of a file, by the outcomes of a decoder's calls.
use Rattle.std.specs.Prelude.{ℕ, zero, suc, ◌+◌, ◌-◌, ◌^◌, ◌==◌, List, ◌++◌, length, take, drop, if◌then◌else◌, nat_le, nat_lt, Option, None, Some, Result, Ok, Err}
use Rattle.tiff_base.specs.declared.color.ChunkType.{ChunkType}
use Rattle.tiff_base.specs.declared.color.ChunkType.TheVariants.{Strip, Tile}
use Rattle.tiff_base.specs.declared.color.ColorType.{ColorType}
use Rattle.tiff_base.specs.declared.color.ColorType.TheVariants.{Gray, RGB, Palette, GrayA, RGBA, CMYK, CMYKA, YCbCr, Lab, Multiband}
use Rattle.tiff_base.specs.declared.error.TiffError.{TiffError}
use Rattle.tiff_base.specs.Answers.{◌>>=◌}
use Rattle.tiff_base.specs.Color.{bit_depth, num_samples}
use Rattle.tiff_base.specs.Field.{Field}
use Rattle.tiff_base.specs.Header.{header_at}
use Rattle.tiff_decode.specs.Machine.{Decoding, Outcome}
use Rattle.tiff_decode.specs.Opened.{moved, opened_of}
use Rattle.tiff_decode.specs.Outcome as outcome
use Rattle.tiff_decode.specs.Reader.{reader_of}
use Rattle.tiff_base.specs.declared.error.TiffError.TheVariants.{FormatError, UsageError}
use Rattle.tiff_base.specs.declared.error.TiffFormatError.TheVariants.{RequiredTagNotFound}
use Rattle.tiff_base.specs.declared.error.UsageError.TheVariants.{InsufficientOutputBufferSize, InvalidChunkIndex}
use Rattle.tiff_base.specs.declared.tags.ByteOrder.{ByteOrder}
use Rattle.tiff_base.specs.declared.tags.ByteOrder.TheVariants.{LittleEndian, BigEndian}
use Rattle.tiff_base.specs.declared.tags.Tag.{Tag}
use Rattle.tiff_base.specs.declared.tags.Tag.TheVariants.{PhotometricInterpretation}
use Rattle.tiff_base.specs.Tags.{format_number, tag_of, type_number}
use Rattle.tiff_ifd.specs.Limits.{unlimited}
use Rattle.tiff_ifd.specs.TagLookup.{ok_or_fault}
use Rattle.tiff_page.specs.declared.layout.BufferLayoutPreference.{BufferLayoutPreference}
use Rattle.tiff_page.specs.PixelFault.{each_below}
use Rattle.tiff_ffi.specs.declared.calls.FieldSize.{FieldSize}
use Rattle.tiff_ffi.specs.declared.calls.Sides.{Sides}
use Rattle.tiff_ffi.specs.declared.calls.Layout.{Layout}
use Rattle.tiff_ffi.specs.declared.calls.Color.{Color}
use Rattle.tiff_ffi.specs.declared.calls.Chunks.{Chunks}
use Rattle.tiff_ffi.specs.declared.calls.PageSamples.{PageSamples}

-- the outcome of going to a page: to the one with this number in the chain; or, for a number from
-- 2^63 on, to the directory at the offset that is the number less 2^63
abbrev pub page_outcome : Decoding → ℕ → Outcome (Unit {0})
page_outcome d page =
    if nat_lt page (2 ^ 63) then outcome.seek_to_image d page
    else outcome.show_directory d (record { 0 = page - 2 ^ 63 })

-- the decoder at a page, of a file that is opened by its header: no other page is asked for
abbrev pub decoder_at_page : List ℕ → ℕ → Result Decoding TiffError
decoder_at_page file page = do
  d ← opened_of file 0
  moved d (page_outcome d page)

-- the decoder before the first page of a file, with the tags of the directory at an offset
abbrev pub tags_at_offset : List ℕ → ℕ → Result Decoding TiffError
tags_at_offset file offset = do
  d ← opened_of file 0
  directory ← (outcome.read_directory d (record { 0 = offset })).answer
  Ok (reader_of d (Some directory))

-- the decoder by which tags are read: at the page with this number; or with the directory at an
-- offset, of which it isn't asked whether it is a page
abbrev pub tags_at_page : List ℕ → ℕ → Result Decoding TiffError
tags_at_page file page = if nat_lt page (2 ^ 63) then decoder_at_page file page
    else tags_at_offset file (page - 2 ^ 63)

-- the decoder at a page without limits: what it reads into a slice of the caller's allocates
-- nothing by what the file claims
abbrev pub free_at_page : List ℕ → ℕ → Result Decoding TiffError
free_at_page file page = do
  d ← decoder_at_page file page
  Ok (record d { state = (outcome.set_limits d unlimited).next })

-- the width and the height of a page
abbrev pub page_sides : List ℕ → ℕ → Result Sides TiffError
page_sides file page = do
  d ← decoder_at_page file page
  sides ← (outcome.dimensions d).answer
  Ok (record { width = sides.0; height = sides.1 })

-- a slice after the image of a page was read into it
abbrev pub read_image_bytes : List ℕ → ℕ → List ℕ → Result (List ℕ) TiffError
read_image_bytes file page slice = do
  d ← free_at_page file page
  (outcome.read_image_bytes d slice).answer

-- how many bytes an image has: in one plane, and in all planes
abbrev pub image_layout : Decoding → Result Layout TiffError
image_layout d = do
  layout ← (outcome.image_buffer_layout d).answer
  Ok (record { len = layout.len; complete_len = layout.complete_len })

abbrev pub page_layout : List ℕ → ℕ → Result Layout TiffError
page_layout file page = decoder_at_page file page >>= image_layout

-- a slice after a chunk of a page was read into it
abbrev pub read_chunk_bytes : List ℕ → ℕ → ℕ → List ℕ → Result (List ℕ) TiffError
read_chunk_bytes file page chunk slice = do
  d ← free_at_page file page
  (outcome.read_chunk_bytes d chunk slice).answer

-- how many bytes a chunk has
abbrev pub chunk_len : Decoding → ℕ → Result ℕ TiffError
chunk_len d i = do
  layout ← (outcome.image_chunk_buffer_layout d i).answer
  Ok layout.len

-- the front of a slice that one of several chunks takes; an error where the slice is shorter
abbrev pub room_for : ℕ → List ℕ → Result (List ℕ) TiffError
room_for len slice =
    if nat_le len (length slice) then Ok (take len slice)
    else Err (UsageError (InsufficientOutputBufferSize len (length slice)))

-- What chunks are read by: how many bytes a chunk has, and a slice after a chunk was read into it.
pub record ChunkReading : Type 0 where
  pub len_of : ℕ → Result ℕ TiffError
  pub read : ℕ → List ℕ → Result (List ℕ) TiffError

-- a slice after `count` chunks, from the number `i` on, were read into it, one behind the other;
-- what is behind them stays
unfoldable pub chunks_in : ChunkReading → ℕ → ℕ → List ℕ → Result (List ℕ) TiffError
chunks_in by zero i slice = Ok slice
chunks_in by (suc count) i slice = do
  len ← by.len_of i
  room ← room_for len slice
  chunk ← by.read i room
  rest ← chunks_in by count (i + 1) (drop len slice)
  Ok (chunk ++ rest)

-- the same; an error unless the numbers of all chunks are below 2^32
abbrev pub chunks_from : ChunkReading → ℕ → ℕ → List ℕ → Result (List ℕ) TiffError
chunks_from by first count slice =
    if nat_lt (first + count) (2 ^ 32) then chunks_in by count first slice
    else Err (UsageError (InvalidChunkIndex (2 ^ 32 - 1)))

-- the chunks of a decoder's page
abbrev pub page_reading : Decoding → ChunkReading
page_reading d = record {
  len_of = chunk_len d;
  read = λ i slice. (outcome.read_chunk_bytes d i slice).answer;
}

-- a slice after `count` chunks of a page were read into it; an error unless the numbers of all are
-- below 2^32
abbrev pub read_chunks : List ℕ → ℕ → ℕ → ℕ → List ℕ → Result (List ℕ) TiffError
read_chunks file page first count slice = do
  d ← free_at_page file page
  chunks_from (page_reading d) first count slice

-- a slice after a coding unit of a page was read into it
abbrev pub read_unit_bytes : List ℕ → ℕ → ℕ → List ℕ → Result (List ℕ) TiffError
read_unit_bytes file page unit slice = do
  d ← free_at_page file page
  (outcome.read_coding_unit_bytes d unit slice).answer

-- the number of a color's kind
abbrev pub color_number : ColorType → ℕ
color_number (Gray b) = 0
color_number (RGB b) = 1
color_number (Palette b) = 2
color_number (GrayA b) = 3
color_number (RGBA b) = 4
color_number (CMYK b) = 5
color_number (CMYKA b) = 6
color_number (YCbCr b) = 7
color_number (Lab b) = 8
color_number (Multiband b n) = 9

-- a color by its numbers
abbrev pub color_by : ColorType → Color
color_by color =
    record { kind = color_number color; bits = bit_depth color; samples = num_samples color }

-- the color of a page
abbrev pub color_of_page : Decoding → Result Color TiffError
color_of_page d = do
  color ← (outcome.colortype d).answer
  Ok (color_by color)

abbrev pub page_color : List ℕ → ℕ → Result Color TiffError
page_color file page = decoder_at_page file page >>= color_of_page

-- the number of a kind of chunks: 0 for strips, 1 for tiles
abbrev pub chunk_number : ChunkType → ℕ
chunk_number Strip = 0
chunk_number Tile = 1

-- how many chunks of this kind a page has
abbrev pub page_chunk_count : Decoding → ChunkType → Result ℕ TiffError
page_chunk_count d Strip = (outcome.strip_count d).answer
page_chunk_count d Tile = (outcome.tile_count d).answer

-- the chunks of a page, with the width and the height that they have before they are cut at the
-- edges of the image
abbrev pub chunks_of_page : Decoding → Result Chunks TiffError
chunks_of_page d = do
  count ← page_chunk_count d (outcome.get_chunk_type d)
  Ok (record {
    kind = chunk_number (outcome.get_chunk_type d);
    count = count;
    width = (outcome.chunk_dimensions d).0;
    height = (outcome.chunk_dimensions d).1;
  })

abbrev pub page_chunks : List ℕ → ℕ → Result Chunks TiffError
page_chunks file page = decoder_at_page file page >>= chunks_of_page

-- whether a page's numbers are complemented when they are read: 1 for the interpretation
-- WhiteIsZero, which is 0 in a file, else 0
abbrev pub inverted_by : ℕ → ℕ
inverted_by meaning = if meaning == 0 then 1 else 0

-- the samples of a page with this color, layout and interpretation: the number of their format, as
-- the tag SampleFormat has it; the bits of one; how many a pixel shows; in how many planes they
-- lie; and whether they are inverted
abbrev pub samples_by : ColorType → BufferLayoutPreference → ℕ → PageSamples
samples_by color layout meaning = record {
  kind = format_number layout.sample_format;
  bits = bit_depth color;
  samples = num_samples color;
  planes = layout.planes;
  inverted = inverted_by meaning;
}

abbrev pub samples_in : Decoding → ColorType → BufferLayoutPreference → Result PageSamples TiffError
samples_in d color layout = do
  meaning ← (outcome.get_tag_u64 d PhotometricInterpretation).answer
  Ok (samples_by color layout meaning)

-- the samples of a page
abbrev pub samples_of_page : Decoding → Result PageSamples TiffError
samples_of_page d = do
  color ← (outcome.colortype d).answer
  layout ← (outcome.image_buffer_layout d).answer
  samples_in d color layout

abbrev pub page_samples : List ℕ → ℕ → Result PageSamples TiffError
page_samples file page = decoder_at_page file page >>= samples_of_page

-- the field of a tag of a page: the number of its type, and how many values it has
abbrev pub field_size : Tag → Option Field → Result FieldSize TiffError
field_size tag found = do
  field ← ok_or_fault found (FormatError (RequiredTagNotFound tag))
  Ok (record { kind = type_number field.field_type; count = field.count })

abbrev pub tag_field : List ℕ → ℕ → ℕ → Result FieldSize TiffError
tag_field file page number = do
  d ← tags_at_page file page
  field_size (tag_of number) (outcome.find_entry d (tag_of number))

-- the error by which a chain ends, if it ends by one
abbrev pub plain_end : Option TiffError → Result (Unit {0}) TiffError
plain_end None = Ok tt
plain_end (Some e) = Err e

-- how many pages a file has: one for each offset of its chain; or the first error: of its pages in
-- their order, and then of the chain's end
abbrev pub page_count : List ℕ → Result ℕ TiffError
page_count file = do
  d ← outcome.decoder_of file 0
  _ ← each_below (λ page. (outcome.seek_to_image d page).answer)
      (length (outcome.chain_of d).offsets)
  _ ← plain_end (outcome.chain_of d).end
  Ok (length (outcome.chain_of d).offsets)

-- the number of a tag of a page
abbrev pub tag_number_at : List ℕ → ℕ → ℕ → Result ℕ TiffError
tag_number_at file page number = do
  d ← tags_at_page file page
  (outcome.get_tag_u64 d (tag_of number)).answer

-- how many bytes of a tag's values were copied, from byte `at` on, and the slice after that
abbrev pub bytes_of_tag : Decoding → Tag → ℕ → List ℕ → Result (ℕ × List ℕ) TiffError
bytes_of_tag d tag at slice = do
  found ← (outcome.find_tag_bytes d tag slice at).answer
  count ← ok_or_fault found.0 (FormatError (RequiredTagNotFound tag))
  Ok (count, found.1)

abbrev pub tag_bytes : List ℕ → ℕ → ℕ → ℕ → List ℕ → Result (ℕ × List ℕ) TiffError
tag_bytes file page number at slice = do
  d ← tags_at_page file page
  bytes_of_tag d (tag_of number) at slice

-- the number of a byte order: 0 for little-endian, 1 for big-endian
abbrev pub order_number : ByteOrder → ℕ
order_number LittleEndian = 0
order_number BigEndian = 1

-- the byte order in the header of a file
abbrev pub file_byte_order : List ℕ → Result ℕ TiffError
file_byte_order file = do
  header ← header_at file
  Ok (order_number header.order)
