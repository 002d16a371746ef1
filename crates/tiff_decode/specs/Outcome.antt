-- The result of each call of a decoder, and the state after it (TIFF 6.0 section 2; as in the Rust
-- crate).
use Rattle.std.specs.Prelude.{ℕ, ℤ, ◌+◌, ◌^◌, List, [], ◌∷◌, ◌++◌, Option, None, Some, IsSome, Bool, false, Result, Ok, Err, IsOk, if◌then◌else◌, ◌==◌, length, drop, is_some, option_map}
use Rattle.std.specs.Int.{Width, w8, w16, w32, w64, byte_len, cast_signed}
use Rattle.std.specs.List.{slice_get, last_or}
use Rattle.std.specs.FinMap.{FinMap, get}
use Rattle.std.specs.Ordering.{nat_cmp}
use Rattle.tiff_base.specs.declared.color.ColorType.{ColorType}
use Rattle.tiff_base.specs.declared.color.ChunkType.{ChunkType}
use Rattle.tiff_base.specs.declared.error.TiffError.{TiffError}
use Rattle.tiff_base.specs.declared.error.TiffError.TheVariants.{FormatError}
use Rattle.tiff_base.specs.declared.error.TiffFormatError.TheVariants.{ImageFileDirectoryNotFound, InconsistentSizesEncountered}
use Rattle.tiff_base.specs.declared.tags.ByteOrder.{ByteOrder}
use Rattle.tiff_base.specs.declared.tags.FileKind.{FileKind}
use Rattle.tiff_base.specs.declared.tags.FileKind.TheVariants.{Classic, Big}
use Rattle.tiff_base.specs.declared.tags.IfdPointer.{IfdPointer}
use Rattle.tiff_base.specs.declared.tags.Tag.{Tag}
use Rattle.tiff_base.specs.Answers.{◌>>=◌}
use Rattle.tiff_base.specs.Sparing.{IsFoundWithin}
use Rattle.tiff_base.specs.Directory.{directory_at, offset_width}
use Rattle.tiff_base.specs.Field.{Field, DirectoryRecord}
use Rattle.tiff_base.specs.Header.{Header, header_at}
use Rattle.tiff_base.specs.Number.{number_at}
use Rattle.tiff_base.specs.Tags.{tag_number}
use Rattle.tiff_base.specs.SourceAndSink.{exactly_at}
use Rattle.tiff_value.specs.Buffer.{BufferRecord}
use Rattle.tiff_ifd.specs.declared.limits.Limits.{Limits}
use Rattle.tiff_ifd.specs.Chain.{Chain, chain}
use Rattle.tiff_ifd.specs.PlainValue.{PlainValue}
use Rattle.tiff_ifd.specs.FieldValue.{placed_text}
use Rattle.tiff_ifd.specs.Into as into
use Rattle.tiff_ifd.specs.TagLookup.{TagLookup, look_in, require, ok_or_fault}
use Rattle.tiff_ifd.specs.TagQueries.{find_unsigned, find_unsigned_vec, get_unsigned, tag_items, buffer_of, part_of_field}
use Rattle.tiff_page.specs.declared.layout.BufferLayoutPreference.{BufferLayoutPreference}
use Rattle.tiff_page.specs.Page.{PageRecord}
use Rattle.tiff_page.specs.Checks.{page_of}
use Rattle.tiff_page.specs.Layout.{color_of}
use Rattle.tiff_page.specs.Counts as counts
use Rattle.tiff_page.specs.Rect as rects
use Rattle.tiff_page.specs.Buffers as layouts
use Rattle.tiff_page.specs.PixelCalls.{image_of}
use Rattle.tiff_page.specs.Image.{Decoded}
use Rattle.tiff_page.specs.PixelCalls as pixels
use Rattle.tiff_decode.specs.DefaultLimits.{default_limits}
use Rattle.tiff_decode.specs.Machine.{State, Decoding, Outcome, stays}

-- ---- entering pages

-- the error where there is no such directory
abbrev pub not_found : TiffError
not_found = FormatError ImageFileDirectoryNotFound

-- the error that ends a chain
abbrev pub end_fault : Option TiffError → TiffError
end_fault None = not_found
end_fault (Some e) = e

-- the chain of directories of a header
abbrev pub chain_from : Header → List ℕ → Chain
chain_from header bytes = chain header.kind header.order bytes header.first

abbrev pub chain_of : Decoding → Chain
chain_of d = chain d.kind d.order d.bytes d.first

-- the page of a directory
abbrev pub page_in : FileKind → ByteOrder → List ℕ → Limits → DirectoryRecord
    → Result PageRecord TiffError
page_in kind order bytes limits directory =
    page_of (look_in kind order bytes limits directory.entries)

-- the offset where the low-level reads begin: after the header
abbrev pub header_end : FileKind → ℕ
header_end Classic = 8
header_end Big = 16

-- the header, and the first directory of the chain with its offset; or the first error, of the
-- header or of a chain without directories
unfoldable pub first_directory : List ℕ → Result (Header × ℕ × DirectoryRecord) TiffError
first_directory bytes = do
  header ← header_at bytes
  offset ← ok_or_fault (slice_get (chain_from header bytes).offsets 0)
      (end_fault (chain_from header bytes).end)
  directory ← directory_at header.kind header.order bytes offset
  Ok (header, offset, directory)

-- the first state of a decoder: at the first directory and its page, with the low-level reads after
-- the header, and with the default limits
abbrev pub first_state : FileKind → ℕ → DirectoryRecord → PageRecord → State
first_state kind offset directory page = record {
  pointer = Some (record { 0 = offset });
  more = is_some directory.next;
  page = page;
  directory = directory;
  offset = header_end kind;
  limits = default_limits;
}

-- a decoder at the first page of a file of which all bytes are readable, with this count of failed
-- reads
abbrev pub first_decoder : List ℕ → ℕ → Header → ℕ → DirectoryRecord → PageRecord → Decoding
first_decoder bytes failures header offset directory page = record {
  bytes = bytes;
  readable = None;
  kind = header.kind;
  order = header.order;
  first = header.first;
  failures = failures;
  state = first_state header.kind offset directory page;
}

-- the decoder of such a file at its first page; or the first error
unfoldable pub decoder_of : List ℕ → ℕ → Result Decoding TiffError
decoder_of bytes failures = do
  found ← first_directory bytes
  page ← page_in found.0.kind found.0.order bytes default_limits found.2
  Ok (first_decoder bytes failures found.0 found.1 found.2 page)

-- the state with the page of a directory; or the error of the page, which leaves the state
-- unchanged
abbrev pub with_page : State → DirectoryRecord → Result PageRecord TiffError → Outcome (Unit {0})
with_page s directory (Ok page) =
    record { answer = Ok tt; next = record s { page = page; directory = directory } }
with_page s directory (Err e) = record { answer = Err e; next = s }

abbrev pub entry_outcome : Decoding → ℕ → Result DirectoryRecord TiffError → Outcome (Unit {0})
entry_outcome d offset (Ok directory) =
    with_page
    (record d.state { pointer = Some (record { 0 = offset }); more = is_some directory.next })
    directory
    (page_in d.kind d.order d.bytes d.state.limits directory)
entry_outcome d offset (Err e) = stays d (Err e)

-- Enters the directory at an offset of the chain: the pointer becomes the offset, `more` says
-- whether another directory follows it, and the page is read under the limits.
unfoldable pub enter : Decoding → ℕ → Outcome (Unit {0})
enter d offset = entry_outcome d offset (directory_at d.kind d.order d.bytes offset)

-- the offset after this one in a list
abbrev pub offset_after : ℕ → List ℕ → Option ℕ
offset_after offset [] = None
offset_after offset (p ∷ ps) = if p == offset then slice_get ps 0 else offset_after offset ps

-- the offset after a pointer in the chain; the first offset where there is no pointer
abbrev pub next_offset : Option IfdPointer → List ℕ → Option ℕ
next_offset None offsets = slice_get offsets 0
next_offset (Some pointer) offsets = offset_after pointer.0 offsets

-- the outcome where no directory can be entered: the error that ends the chain, and `more` is false
abbrev pub end_outcome : Decoding → Outcome (Unit {0})
end_outcome d =
    record { answer = Err (end_fault (chain_of d).end); next = record d.state { more = false } }

abbrev pub next_outcome : Decoding → Option ℕ → Outcome (Unit {0})
next_outcome d None = end_outcome d
next_outcome d (Some offset) = enter d offset

-- the next page of the chain; at the end of the chain the error that ends it, or
-- `ImageFileDirectoryNotFound`
unfoldable pub next_image : Decoding → Outcome (Unit {0})
next_image d =
    if d.state.more then next_outcome d (next_offset d.state.pointer (chain_of d).offsets)
    else stays d (Err not_found)

-- the last offset of the chain
abbrev pub last_offset : Decoding → Option IfdPointer
last_offset d = option_map (λ offset. record { 0 = offset }) (last_or None (chain_of d).offsets)

-- a seek past the chain: where `more` is true, the decoder goes to the last directory and returns
-- the error that ends the chain; else it has no pointer
abbrev pub seek_past_end : Decoding → Outcome (Unit {0})
seek_past_end d =
    if d.state.more
    then record {
      answer = Err (end_fault (chain_of d).end);
      next = record d.state { pointer = last_offset d; more = false };
    }
    else record { answer = Err not_found; next = record d.state { pointer = None } }

abbrev pub seek_outcome : Decoding → Option ℕ → Outcome (Unit {0})
seek_outcome d None = seek_past_end d
seek_outcome d (Some offset) = enter d offset

-- the page of an index in the chain, from any state
unfoldable pub seek_to_image : Decoding → ℕ → Outcome (Unit {0})
seek_to_image d k = seek_outcome d (slice_get (chain_of d).offsets k)

-- ---- what a decoder knows without a read

unfoldable pub set_limits : Decoding → Limits → Outcome (Unit {0})
set_limits d limits = record { answer = Ok tt; next = record d.state { limits = limits } }

unfoldable pub dimensions : Decoding → Outcome (ℕ × ℕ)
dimensions d = stays d (Ok (d.state.page.width, d.state.page.height))

unfoldable pub colortype : Decoding → Outcome ColorType
colortype d = stays d (color_of d.state.page)

abbrev pub ifd_pointer : Decoding → Option IfdPointer
ifd_pointer d = d.state.pointer

abbrev pub more_images : Decoding → Bool
more_images d = d.state.more

abbrev pub byte_order : Decoding → ByteOrder
byte_order d = d.order

-- the directory at any offset; the page stays the same
unfoldable pub read_directory : Decoding → IfdPointer → Outcome DirectoryRecord
read_directory d pointer = stays d (directory_at d.kind d.order d.bytes pointer.0)

-- the page and the tags of a directory replace those of the decoder; an error leaves the state
-- unchanged
abbrev pub show_outcome : Decoding → Result DirectoryRecord TiffError → Outcome (Unit {0})
show_outcome d (Ok directory) =
    with_page d.state directory (page_in d.kind d.order d.bytes d.state.limits directory)
show_outcome d (Err e) = stays d (Err e)

-- shows the directory at any offset, inside or outside the chain; the position in the chain stays
-- the same
unfoldable pub show_directory : Decoding → IfdPointer → Outcome (Unit {0})
show_directory d pointer = show_outcome d (directory_at d.kind d.order d.bytes pointer.0)

-- ---- reads at the offset

unfoldable pub goto_offset : Decoding → ℕ → Outcome (Unit {0})
goto_offset d offset = record { answer = Ok tt; next = record d.state { offset = offset } }

-- a read of `len` bytes moves the offset past them; an error leaves the offset unchanged
abbrev pub read_outcome : {Y : Type 0} → Decoding → ℕ → Result Y TiffError → Outcome Y
read_outcome d len (Ok y) =
    record { answer = Ok y; next = record d.state { offset = d.state.offset + len } }
read_outcome d len (Err e) = stays d (Err e)

-- the number at the offset, through a view
abbrev pub number_here : {Y : Type 0} → Decoding → Width → (ℕ → Y) → Outcome Y
number_here d w view =
    read_outcome d (byte_len w) (number_at d.order w d.bytes d.state.offset >>= λ n. Ok (view n))

-- an offset of 4 bytes, or of 8 bytes in BigTIFF
unfoldable pub read_ifd_offset : Decoding → Outcome ℕ
read_ifd_offset d = number_here d (offset_width d.kind) (λ n. n)

unfoldable pub read_byte : Decoding → Outcome ℕ
read_byte d = number_here d w8 (λ n. n)

unfoldable pub read_short : Decoding → Outcome ℕ
read_short d = number_here d w16 (λ n. n)

unfoldable pub read_sshort : Decoding → Outcome ℤ
read_sshort d = number_here d w16 (cast_signed w16)

unfoldable pub read_long : Decoding → Outcome ℕ
read_long d = number_here d w32 (λ n. n)

unfoldable pub read_slong : Decoding → Outcome ℤ
read_slong d = number_here d w32 (cast_signed w32)

unfoldable pub read_long8 : Decoding → Outcome ℕ
read_long8 d = number_here d w64 (λ n. n)

unfoldable pub read_slong8 : Decoding → Outcome ℤ
read_slong8 d = number_here d w64 (cast_signed w64)

-- the bits of a floating-point number
unfoldable pub read_float : Decoding → Outcome ℕ
read_float d = number_here d w32 (λ n. n)

unfoldable pub read_double : Decoding → Outcome ℕ
read_double d = number_here d w64 (λ n. n)

-- a text of `len` bytes, which ends before its first zero and has to be UTF-8
unfoldable pub read_string : Decoding → ℕ → Outcome (List ℕ)
read_string d len =
    read_outcome d len (exactly_at d.bytes d.state.offset len >>= placed_text >>= into.into_string)

-- the bytes of a 4-byte offset as they are in the file; BigTIFF has no such offsets
abbrev pub offset_bytes : FileKind → Decoding → Result (List ℕ) TiffError
offset_bytes Classic d = exactly_at d.bytes d.state.offset 4
offset_bytes Big d = Err (FormatError InconsistentSizesEncountered)

unfoldable pub read_offset : Decoding → Outcome (List ℕ)
read_offset d = read_outcome d 4 (offset_bytes d.kind d)

unfoldable pub read_offset_u64 : Decoding → Outcome (List ℕ)
read_offset_u64 d = read_outcome d 8 (exactly_at d.bytes d.state.offset 8)

-- ---- chunks and layouts of the page

abbrev pub get_chunk_type : Decoding → ChunkType
get_chunk_type d = d.state.page.chunk_type

unfoldable pub strip_count : Decoding → Outcome ℕ
strip_count d = stays d (counts.strip_count d.state.page)

unfoldable pub tile_count : Decoding → Outcome ℕ
tile_count d = stays d (counts.tile_count d.state.page)

abbrev pub chunk_dimensions : Decoding → ℕ × ℕ
chunk_dimensions d = counts.chunk_dimensions d.state.page

abbrev pub chunk_data_dimensions : Decoding → ℕ → ℕ × ℕ
chunk_data_dimensions d chunk = rects.chunk_data_dimensions d.state.page chunk

unfoldable pub image_buffer_layout : Decoding → Outcome BufferLayoutPreference
image_buffer_layout d = stays d (layouts.image_buffer_layout d.state.page)

unfoldable pub image_chunk_buffer_layout : Decoding → ℕ → Outcome BufferLayoutPreference
image_chunk_buffer_layout d chunk = stays d (layouts.image_chunk_buffer_layout d.state.page chunk)

unfoldable pub image_coding_unit_layout : Decoding → ℕ → Outcome BufferLayoutPreference
image_coding_unit_layout d unit = stays d (layouts.image_coding_unit_layout d.state.page unit)

-- ---- pixels of the page

unfoldable pub read_image : Decoding → Outcome Decoded
read_image d = stays d (image_of d.bytes d.order d.state.page d.state.limits)

unfoldable pub read_image_to_buffer : Decoding → Outcome (BufferLayoutPreference × Decoded)
read_image_to_buffer d =
    stays d (pixels.read_image_to_buffer d.bytes d.order d.state.page d.state.limits)

-- the slice after the call
unfoldable pub read_image_bytes : Decoding → List ℕ → Outcome (List ℕ)
read_image_bytes d buf =
    stays d (pixels.read_image_bytes d.bytes d.order d.state.page d.state.limits buf)

unfoldable pub read_chunk : Decoding → ℕ → Outcome Decoded
read_chunk d chunk = stays d (pixels.read_chunk d.bytes d.order d.state.page d.state.limits chunk)

unfoldable pub read_chunk_bytes : Decoding → ℕ → List ℕ → Outcome (List ℕ)
read_chunk_bytes d chunk buf =
    stays d (pixels.read_chunk_bytes d.bytes d.order d.state.page d.state.limits chunk buf)

unfoldable pub read_chunk_to_buffer : Decoding → ℕ → ℕ → Outcome Decoded
read_chunk_to_buffer d chunk stride =
    stays d (pixels.read_chunk_to_buffer d.bytes d.order d.state.page d.state.limits chunk stride)

unfoldable pub read_coding_unit_bytes : Decoding → ℕ → List ℕ → Outcome (List ℕ)
read_coding_unit_bytes d unit buf =
    stays d (pixels.read_coding_unit_bytes d.bytes d.order d.state.page d.state.limits unit buf)

-- ---- tags of the page's directory

abbrev pub page_fields : Decoding → FinMap nat_cmp Field
page_fields d = d.state.directory.entries

abbrev pub page_tags : Decoding → TagLookup
page_tags d = look_in d.kind d.order d.bytes d.state.limits (page_fields d)

-- the value of a tag, if the directory has the tag
unfoldable pub find_tag : Decoding → Tag → Outcome (Option PlainValue)
find_tag d tag = stays d ((page_tags d).value tag)

-- Whether the call may run out of memory for a tag's value and its conversion: only where it finds
-- the tag within the limits and the source.
abbrev pub WantsTag : Decoding → Tag → Type 0
WantsTag d tag = IsFoundWithin ((page_tags d).value tag)

-- numbers of 64 bits
unfoldable pub find_tag_unsigned : Decoding → Tag → Outcome (Option ℕ)
find_tag_unsigned d tag = stays d (find_unsigned (2 ^ 64) (page_tags d) tag)

unfoldable pub find_tag_unsigned_vec : Decoding → Tag → Outcome (Option (List ℕ))
find_tag_unsigned_vec d tag = stays d (find_unsigned_vec (2 ^ 64) (page_tags d) tag)

-- the converted value of a required tag
abbrev pub required_value : {Y : Type 0} → Decoding → (PlainValue → Result Y TiffError) → Tag
    → Outcome Y
required_value d into tag = stays d (require into (page_tags d) tag)

unfoldable pub get_tag : Decoding → Tag → Outcome PlainValue
get_tag d tag = required_value d (λ value. Ok value) tag

unfoldable pub get_tag_unsigned : Decoding → Tag → Outcome ℕ
get_tag_unsigned d tag = stays d (get_unsigned (2 ^ 64) (page_tags d) tag)

unfoldable pub get_tag_u32 : Decoding → Tag → Outcome ℕ
get_tag_u32 d tag = required_value d into.into_u32 tag

unfoldable pub get_tag_u64 : Decoding → Tag → Outcome ℕ
get_tag_u64 d tag = required_value d into.into_u64 tag

unfoldable pub get_tag_f32 : Decoding → Tag → Outcome ℕ
get_tag_f32 d tag = required_value d into.into_f32 tag

unfoldable pub get_tag_f64 : Decoding → Tag → Outcome ℕ
get_tag_f64 d tag = required_value d into.into_f64 tag

unfoldable pub get_tag_u32_vec : Decoding → Tag → Outcome (List ℕ)
get_tag_u32_vec d tag = required_value d into.into_u32_vec tag

unfoldable pub get_tag_u16_vec : Decoding → Tag → Outcome (List ℕ)
get_tag_u16_vec d tag = required_value d into.into_u16_vec tag

unfoldable pub get_tag_u64_vec : Decoding → Tag → Outcome (List ℕ)
get_tag_u64_vec d tag = required_value d into.into_u64_vec tag

unfoldable pub get_tag_f32_vec : Decoding → Tag → Outcome (List ℕ)
get_tag_f32_vec d tag = required_value d into.into_f32_vec tag

unfoldable pub get_tag_f64_vec : Decoding → Tag → Outcome (List ℕ)
get_tag_f64_vec d tag = required_value d into.into_f64_vec tag

unfoldable pub get_tag_u8_vec : Decoding → Tag → Outcome (List ℕ)
get_tag_u8_vec d tag = required_value d into.into_u8_vec tag

unfoldable pub get_tag_ascii_string : Decoding → Tag → Outcome (List ℕ)
get_tag_ascii_string d tag = required_value d into.into_string tag

-- each tag with its value, or the error of the value, by ascending tag number
unfoldable pub tag_iter : Decoding → List (Result (Tag × PlainValue) TiffError)
tag_iter d = tag_items d.kind d.order d.bytes d.state.limits (page_fields d)

abbrev pub find_entry : Decoding → Tag → Option Field
find_entry d tag = get (page_fields d) (tag_number tag)

-- ---- raw bytes of values

-- a field with its bytes, if there is a field; else the buffer stays the same
abbrev pub field_in_buffer : Decoding → BufferRecord → Option Field
    → Result (Option Field × BufferRecord) TiffError
field_in_buffer d buf None = Ok (None, buf)
field_in_buffer d buf (Some f) = do
  found ← buffer_of d.kind d.order d.bytes d.state.limits f
  Ok (Some f, found)

-- the field of a tag, and the buffer after the call
unfoldable pub find_tag_buf : Decoding → Tag → BufferRecord → Outcome (Option Field × BufferRecord)
find_tag_buf d tag buf = stays d (field_in_buffer d buf (find_entry d tag))

-- whether the call may run out of memory for the bytes of a field: only where there is a field and
-- the call succeeds
abbrev pub WantsBytes : Decoding → Tag → BufferRecord → Type 0
WantsBytes d tag buf = IsSome (find_entry d tag) × IsOk (find_tag_buf d tag buf).answer

-- the bytes of a field from an index on, as many as fit
abbrev pub bytes_in_slice : Decoding → List ℕ → ℕ → Option Field
    → Result (Option ℕ × List ℕ) TiffError
bytes_in_slice d buf at None = Ok (None, buf)
bytes_in_slice d buf at (Some f) = do
  found ← part_of_field d.kind d.order d.bytes f (length buf) at
  Ok (Some (length found), found ++ drop (length found) buf)

-- the number of copied bytes of a tag's value, and the slice after the call
unfoldable pub find_tag_bytes : Decoding → Tag → List ℕ → ℕ → Outcome (Option ℕ × List ℕ)
find_tag_bytes d tag buf at = stays d (bytes_in_slice d buf at (find_entry d tag))
