-- Worked examples of calls of the writer.
use Rattle.std.specs.Prelude.{◌≡◌, ℕ, true, false, List, [], ◌∷◌, ◌++◌, length, take, Some, None, Result, Ok, Err}
use Rattle.std.specs.FinMap.{from_entries, entries}
use Rattle.tiff_base.specs.declared.error.TiffError.{TiffError}
use Rattle.tiff_base.specs.declared.error.TiffError.TheVariants.{FormatError, UsageError}
use Rattle.tiff_base.specs.declared.error.TiffFormatError.TheVariants.{InvalidTag}
use Rattle.tiff_base.specs.declared.error.UsageError.TheVariants.{ByteOrderMismatch, MismatchedEntryLength, ParentNotWritten, WriterFailed, ZeroIfdPointer}
use Rattle.tiff_base.specs.declared.tags.ByteOrder.TheVariants.{LittleEndian, BigEndian}
use Rattle.tiff_base.specs.declared.tags.FileKind.TheVariants.{Classic, Big}
use Rattle.tiff_base.specs.declared.tags.Predictor.TheVariants as predictor
use Rattle.tiff_base.specs.declared.tags.Tag.TheVariants as tag
use Rattle.tiff_base.specs.declared.tags.«Type».TheVariants.{ASCII, SHORT}
use Rattle.tiff_base.specs.Field.{Field}
use Rattle.tiff_value.specs.Data.{FieldData, u8s, u16s, u32s, data_of, text_data}
use Rattle.tiff_encode.specs.declared.encoder.settings.Compression.TheVariants.{Packbits}
use Rattle.tiff_value.specs.Fields.{offset_values, data_in, buffer_data, is_long, filled_field, field_at}
use Rattle.tiff_value.specs.WriteOps.{Appended, Supplied, Listed, Linked}
use Rattle.tiff_encode.specs.Machine.{FileState, OpenDirectory, WriteOutcome, ◌>>=◌}
use Rattle.tiff_encode.specs.Calls as calls
use Rattle.tiff_encode.specs.Calls.{new_directory}
use Rattle.test_definitions.specs.OneValue.{short_field, long_field}
use Rattle.test_definitions.specs.Encode.Causes.{new_file, failed_file, file_with, buffer, no_text}

-- what a call returns, and the bytes that it leaves
abbrev pub IsSeen : {A : Type 0} → WriteOutcome A → Result A TiffError → List ℕ → Type 0
IsSeen told answer bytes = (told.answer ≡ answer) × (told.next.bytes ≡ bytes)

abbrev pub header : List ℕ
header = 0x49 ∷ 0x49 ∷ 0x2a ∷ 0x00 ∷ 0x00 ∷ 0x00 ∷ 0x00 ∷ 0x00 ∷ []

-- ---- values in fields

-- three SHORT numbers are at an offset in a classic file, and in the entry in a BigTIFF file
abbrev pub three_long : Type 0
three_long = is_long Classic (data_of (u16s (1 ∷ 2 ∷ 3 ∷ []))) ≡ true

abbrev pub three_short : Type 0
three_short = is_long Big (data_of (u16s (1 ∷ 2 ∷ 3 ∷ []))) ≡ false

-- mistake: `is_long` needs one for a value that just fits
abbrev pub two_short : Type 0
two_short = is_long Classic (data_of (u16s (1 ∷ 2 ∷ []))) ≡ false

abbrev pub field_inline : Type 0
field_inline = field_at Classic 99 (data_of (u16s (1 ∷ 2 ∷ [])))
    ≡ record { field_type = SHORT; count = 2; value = 1 ∷ 0 ∷ 2 ∷ 0 ∷ 0 ∷ 0 ∷ 0 ∷ 0 ∷ [] }

-- mistake: `field_at` writes an offset of 4 bytes
abbrev pub field_placed : Type 0
field_placed = field_at Classic 258 (data_of (u16s (1 ∷ 2 ∷ 3 ∷ [])))
    ≡ record { field_type = SHORT; count = 3; value = 2 ∷ 1 ∷ 0 ∷ 0 ∷ 0 ∷ 0 ∷ 0 ∷ 0 ∷ [] }

-- mistake: `filled_field` puts zeros before the bytes
abbrev pub filled_two : Type 0
filled_two = filled_field (7 ∷ 8 ∷ []) ≡ (7 ∷ 8 ∷ 0 ∷ 0 ∷ 0 ∷ 0 ∷ 0 ∷ 0 ∷ [])

-- mistake: `data_in` keeps a ragged end
-- five bytes contain two SHORT numbers
abbrev pub ragged : Type 0
ragged = data_in SHORT (1 ∷ 2 ∷ 3 ∷ 4 ∷ 5 ∷ [])
    ≡ record { field_type = SHORT; count = 2; bytes = 1 ∷ 2 ∷ 3 ∷ 4 ∷ [] }

-- mistake: `buffer_data` takes no bytes
abbrev pub buffered : Type 0
buffered =
    buffer_data (buffer LittleEndian (1 ∷ 2 ∷ []))
    ≡ record { field_type = SHORT; count = 1; bytes = 1 ∷ 2 ∷ [] }

-- an offset is a LONG in a classic file, and a LONG8 in BigTIFF
abbrev pub offset_classic : Type 0
offset_classic = offset_values Classic (5 ∷ []) ≡ u32s (5 ∷ [])

-- mistake: `offset_values` writes LONG in BigTIFF
abbrev pub offset_big : Type 0
offset_big = (data_of (offset_values Big (5 ∷ []))).bytes ≡ (5 ∷ 0 ∷ 0 ∷ 0 ∷ 0 ∷ 0 ∷ 0 ∷ 0 ∷ [])

-- ---- settings

-- mistake: `with_predictor` sets nothing
abbrev pub set_predictor : Type 0
set_predictor =
    calls.with_predictor predictor.Horizontal (new_file Classic) ≡ record (new_file Classic)
    { predictor = predictor.Horizontal }

-- mistake: `with_compression` sets nothing
abbrev pub set_compression : Type 0
set_compression =
    calls.with_compression Packbits (new_file Classic) ≡ record (new_file Classic)
    { compression = Packbits }

-- ---- directories

-- mistake: `image_directory` has no parent
-- a directory in a new file needs no padding, and the header links to it
abbrev pub begun_directory : Type 0
begun_directory =
    IsSeen (calls.image_directory (new_file Classic)) (Ok (new_directory (Some 4) true)) header

-- mistake: `pad` appends no zeros
-- mistake: `extra_directory` chains an extra directory
-- a directory after 9 bytes needs three zeros; an extra one has no parent
abbrev pub padded_directory : Type 0
padded_directory =
    IsSeen (calls.extra_directory (file_with Classic (header ++ 7 ∷ [])))
    (Ok (new_directory None false)) (header ++ (7 ∷ 0 ∷ 0 ∷ 0 ∷ []))

abbrev pub stopped_directory : Type 0
stopped_directory =
    IsSeen (calls.image_directory failed_file) (Err (UsageError WriterFailed)) header

abbrev pub stopped_extra : Type 0
stopped_extra = IsSeen (calls.extra_directory failed_file) (Err (UsageError WriterFailed)) header

-- an open directory with these fields
abbrev pub with_fields : OpenDirectory → List (ℕ × Field) → OpenDirectory
with_fields d fields = record d { fields = from_entries fields }

-- mistake: `write_tag` doesn't change the directory
-- a tag with its value in the entry, a tag with its value at an offset, and a tag that is refused
abbrev pub tag_short : Type 0
tag_short =
    IsSeen (calls.write_tag (new_directory (Some 4) true) tag.ImageWidth
    (Ok (data_of (u32s (5 ∷ [])))) (new_file Classic))
    (Ok (with_fields (new_directory (Some 4) true) ((256, long_field 5) ∷ []))) header

-- the text `abcd`
abbrev pub abcd : Result FieldData TiffError
abcd = text_data (0x61 ∷ 0x62 ∷ 0x63 ∷ 0x64 ∷ [])

abbrev pub tag_text : Type 0
tag_text =
    IsSeen (calls.write_tag (new_directory None false) tag.Artist abcd (new_file Classic))
    (Ok (with_fields (new_directory None false)
    ((
      315,
      record {
        field_type = ASCII;
        count = 5;
        value = 8 ∷ 0 ∷ 0 ∷ 0 ∷ 0 ∷ 0 ∷ 0 ∷ 0 ∷ [];
      },
    ) ∷ [])))
    (header ++ (0x61 ∷ 0x62 ∷ 0x63 ∷ 0x64 ∷ 0x00 ∷ []))

abbrev pub tag_text_big : Type 0
tag_text_big =
    (calls.write_tag (new_directory None false) tag.Artist abcd (new_file Big)).answer
    ≡ Ok (with_fields (new_directory None false)
    ((
      315,
      record {
        field_type = ASCII;
        count = 5;
        value = 0x61 ∷ 0x62 ∷ 0x63 ∷ 0x64 ∷ 0 ∷ 0 ∷ 0 ∷ 0 ∷ [];
      },
    ) ∷ []))

abbrev pub tag_refused : Type 0
tag_refused =
    calls.write_tag (new_directory None false) tag.Artist (text_data (0xe9 ∷ [])) (new_file Classic)
    ≡ record { answer = Err (FormatError InvalidTag); ops = []; next = new_file Classic }

-- mistake: `placed_field` doesn't pass the value in
-- the operations of a tag: append its bytes, and supply them for its field
abbrev pub tag_ops : Type 0
tag_ops =
    (calls.write_tag (new_directory None false) tag.Artist abcd (new_file Classic)).ops
    ≡ Appended (0x61 ∷ 0x62 ∷ 0x63 ∷ 0x64 ∷ 0x00 ∷ [])
    ∷ Supplied (record {
      field = record { field_type = ASCII; count = 5; value = 8 ∷ 0 ∷ 0 ∷ 0 ∷ 0 ∷ 0 ∷ 0 ∷ 0 ∷ [] };
      bytes = 0x61 ∷ 0x62 ∷ 0x63 ∷ 0x64 ∷ 0x00 ∷ [];
    }) ∷ []

-- mistake: `write_tag_buf` doesn't change the directory
abbrev pub buf_tag : Type 0
buf_tag =
    IsSeen (calls.write_tag_buf (new_directory None false) tag.BitsPerSample
    (buffer LittleEndian (8 ∷ 0 ∷ [])) (new_file Classic))
    (Ok (with_fields (new_directory None false) ((258, short_field 8) ∷ []))) header

abbrev pub buf_refused : Type 0
buf_refused =
    IsSeen (calls.write_tag_buf (new_directory None false) tag.BitsPerSample
    (buffer BigEndian (0 ∷ 8 ∷ [])) (new_file Classic))
    (Err (UsageError ByteOrderMismatch)) header

-- mistake: `with_field` sets the field under another tag number
-- the later of two values for a tag is kept
abbrev pub tag_again : Type 0
tag_again =
    entries (calls.with_field
    (calls.with_field (new_directory None false) tag.ImageWidth (long_field 5)) tag.ImageWidth
    (long_field 6)).fields
    ≡ (256, long_field 6) ∷ []

-- the values as fields: in the entry, at an offset, and refused
abbrev pub entry_short : Type 0
entry_short =
    IsSeen (calls.write_entry (Ok (data_of (u32s (5 ∷ [])))) (new_file Classic)) (Ok (long_field 5))
    header

abbrev pub entry_refused : Type 0
entry_refused =
    IsSeen (calls.write_entry no_text (new_file Classic)) (Err (FormatError InvalidTag)) header

-- mistake: `write_entry` is never refused
abbrev pub entry_stopped : Type 0
entry_stopped =
    IsSeen (calls.write_entry (Ok (data_of (u32s (5 ∷ [])))) failed_file)
    (Err (UsageError WriterFailed)) header

abbrev pub entry_buf : Type 0
entry_buf =
    IsSeen (calls.write_entry_buf (buffer LittleEndian (8 ∷ 0 ∷ [])) (new_file Classic))
    (Ok (short_field 8)) header

-- mistake: `write_entry_buf` is never refused
abbrev pub entry_buf_refused : Type 0
entry_buf_refused =
    IsSeen (calls.write_entry_buf (buffer BigEndian []) failed_file) (Err (UsageError WriterFailed))
    header

abbrev pub entry_bytes : Type 0
entry_bytes =
    IsSeen (calls.write_entry_bytes SHORT (1 ∷ 2 ∷ 3 ∷ 4 ∷ 5 ∷ 6 ∷ []) (new_file Classic))
    (Ok (record { field_type = SHORT; count = 3; value = 8 ∷ 0 ∷ 0 ∷ 0 ∷ 0 ∷ 0 ∷ 0 ∷ 0 ∷ [] }))
    (header ++ (1 ∷ 2 ∷ 3 ∷ 4 ∷ 5 ∷ 6 ∷ []))

-- mistake: `write_entry_bytes` is never refused
abbrev pub entry_bytes_refused : Type 0
entry_bytes_refused =
    IsSeen (calls.write_entry_bytes SHORT (1 ∷ 2 ∷ 3 ∷ []) (new_file Classic))
    (Err (UsageError (MismatchedEntryLength SHORT 3))) header

-- mistake: `write_data` returns the offset after the bytes
-- mistake: `write_data` writes nothing
-- data is appended, and the call returns its offset
abbrev pub data_offset : Type 0
data_offset =
    IsSeen (calls.write_data (Ok (data_of (u8s (1 ∷ 2 ∷ [])))) (new_file Classic)) (Ok 8)
    (header ++ (1 ∷ 2 ∷ []))

abbrev pub data_refused : Type 0
data_refused =
    IsSeen (calls.write_data no_text (new_file Classic)) (Err (FormatError InvalidTag)) header

abbrev pub data_buf : Type 0
data_buf =
    IsSeen (calls.write_data_buf (buffer LittleEndian (1 ∷ 2 ∷ [])) (new_file Classic)) (Ok 8)
    (header ++ (1 ∷ 2 ∷ []))

-- mistake: `write_data_buf` is never refused
abbrev pub data_buf_refused : Type 0
data_buf_refused =
    IsSeen (calls.write_data_buf (buffer BigEndian (1 ∷ 2 ∷ [])) (new_file Classic))
    (Err (UsageError ByteOrderMismatch)) header

-- mistake: `extend_from` keeps the earlier fields
-- given fields replace earlier ones
abbrev pub extended : Type 0
extended =
    entries (calls.extend_from (with_fields (new_directory None false) ((256, long_field 5) ∷ []))
    ((257, long_field 7) ∷ (256, long_field 6) ∷ [])).fields
    ≡ (256, long_field 6) ∷ (257, long_field 7) ∷ []

abbrev pub extended_none : Type 0
extended_none = calls.extend_from (new_directory None false) [] ≡ new_directory None false

-- mistake: `set_parent` takes the offset for the link
-- a parent is set by its link
abbrev pub parent_set : Type 0
parent_set =
    (calls.set_parent (new_directory (Some 4) true) (record { pointer = 8; link = 22 })).parent
    ≡ Some 22

-- ---- the ends of directories

-- the first directory: one field, at 8, with a link from the header
abbrev pub one_field : OpenDirectory
one_field = with_fields (new_directory (Some 4) true) ((256, long_field 5) ∷ [])

abbrev pub first_file : List ℕ
first_file =
    (0x49 ∷ 0x49 ∷ 0x2a ∷ 0x00 ∷ 0x08 ∷ 0x00 ∷ 0x00 ∷ 0x00 ∷ [])
    ++ (0x01 ∷ 0x00 ∷ [])
    ++ (0x00 ∷ 0x01 ∷ 0x04 ∷ 0x00 ∷ 0x01 ∷ 0x00 ∷ 0x00 ∷ 0x00 ∷ 0x05 ∷ 0x00 ∷ 0x00 ∷ 0x00 ∷ [])
    ++ (0x00 ∷ 0x00 ∷ 0x00 ∷ 0x00 ∷ [])

abbrev pub first_finished : Type 0
first_finished =
    IsSeen (calls.finish one_field (new_file Classic)) (Ok (record { pointer = 8; link = 22 }))
    first_file

-- mistake: `finish` sets the chain's link to the directory's offset
abbrev pub first_chain : Type 0
first_chain = (calls.finish one_field (new_file Classic)).next.chain ≡ 22

abbrev pub first_big : Type 0
first_big =
    (calls.finish (with_fields (new_directory (Some 8) true) ((256, long_field 5) ∷ []))
    (new_file Big)).answer ≡ Ok (record { pointer = 16; link = 44 })

abbrev pub first_big_length : Type 0
first_big_length =
    length (calls.finish (with_fields (new_directory (Some 8) true) ((256, long_field 5) ∷ []))
    (new_file Big)).next.bytes ≡ 52

-- the three calls for the first directory, one after another
abbrev pub first_calls : Type 0
first_calls =
    IsSeen ((do
      d ← calls.image_directory
      e ← calls.write_tag d tag.ImageWidth (Ok (data_of (u32s (5 ∷ []))))
      calls.finish e) (new_file Classic))
    (Ok (record { pointer = 8; link = 22 })) first_file

-- an extra directory without entries after the first one, which is its parent: the chain's last
-- link stays
abbrev pub after_first : FileState
after_first = record (new_file Classic) { bytes = first_file; chain = 22 }

abbrev pub second_finished : Type 0
second_finished =
    IsSeen ((do
      d ← calls.extra_directory
      calls.finish (calls.set_parent d (record { pointer = 8; link = 22 }))) after_first)
    (Ok (record { pointer = 28; link = 30 }))
    (take 22 first_file ++ (0x1c ∷ 0x00 ∷ 0x00 ∷ 0x00 ∷ [])
    ++ (0x00 ∷ 0x00 ∷ [])
    ++ (0x00 ∷ 0x00 ∷ [])
    ++ (0x00 ∷ 0x00 ∷ 0x00 ∷ 0x00 ∷ []))

-- mistake: `new_directory` chains every directory
-- mistake: `finish` chains in every case
abbrev pub second_chain : Type 0
second_chain =
    (calls.finish (calls.set_parent (new_directory None false) (record { pointer = 8; link = 22 }))
    (file_with Classic (first_file ++ (0 ∷ 0 ∷ [])))).next.chain ≡ 4

-- a parent's link past the end of the file: nothing is done
abbrev pub not_written : Type 0
not_written = calls.finish (new_directory (Some 1000) true) after_first
    ≡ record { answer = Err (UsageError ParentNotWritten); ops = []; next = after_first }

-- mistake: `finish` exchanges link and offset
-- the operations at the end of a directory, with a parent and without one
abbrev pub finish_ops : Type 0
finish_ops = (calls.finish one_field (new_file Classic)).ops ≡ Listed one_field.fields ∷ Linked 4 8
    ∷ []

abbrev pub finish_alone : Type 0
finish_alone =
    (calls.finish (new_directory None false) (new_file Classic)).ops
    ≡ Listed (new_directory None false).fields ∷ []

-- an extra directory of two LONG fields: at 8, with its link at 34
abbrev pub extra_offsets : Type 0
extra_offsets =
    (calls.finish
    (with_fields (new_directory None false)
    ((256, long_field 100) ∷ (257, long_field 200) ∷ [])) (new_file Classic)).answer
    ≡ calls.new_offset Classic 8 2

-- mistake: `new_offset` counts an entry too many
abbrev pub new_offset_8 : Type 0
new_offset_8 = calls.new_offset Classic 8 2 ≡ Ok (record { pointer = 8; link = 34 })

-- mistake: `new_offset` is never refused
abbrev pub new_offset_0 : Type 0
new_offset_0 = calls.new_offset Classic 0 2 ≡ Err (UsageError ZeroIfdPointer)
