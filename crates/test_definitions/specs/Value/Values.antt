-- Worked examples of values that are written, stored bytes, rows as differences, and the places of
-- chunks in an image.
use Rattle.std.specs.Prelude.{◌≡◌, ℕ, ◌^◌, ◌-◌, [], ◌∷◌, Some, None, true, false, Ok, Err}
use Rattle.tiff_base.specs.declared.color.ColorType.TheVariants.{Multiband}
use Rattle.tiff_base.specs.declared.error.TiffError.TheVariants.{FormatError, IntSizeError, IoError, OutOfMemory, UsageError}
use Rattle.tiff_base.specs.declared.error.TiffFormatError.TheVariants.{InvalidTag}
use Rattle.tiff_base.specs.declared.error.UsageError.TheVariants.{PredictorIncompatible}
use Rattle.tiff_base.specs.declared.error.UsageError.TheVariants as usage
use Rattle.tiff_base.specs.declared.io.IoKind.TheVariants.{WriteZero}
use Rattle.tiff_base.specs.declared.io.SinkFault.TheVariants as fault
use Rattle.tiff_base.specs.declared.tags.ByteOrder.TheVariants.{LittleEndian}
use Rattle.tiff_base.specs.declared.tags.CompressionMethod.TheVariants as method
use Rattle.tiff_base.specs.declared.tags.«Type».TheVariants as t
use Rattle.tiff_value.specs.Buffer.{buffer_given}
use Rattle.tiff_value.specs.Data.{u8s, u16s, data_of, text_data}
use Rattle.tiff_value.specs.Predicted.{row_of_type, AppendsRow}
use Rattle.tiff_value.specs.Stored.{takes_memory, StoreWants, Stores, StoresBytes}
use Rattle.tiff_value.specs.Values.{values_in, IsValue, IsWritable, Pushes, byte_count, IsWanting, ValueIsRefused, WritesValue}
use Rattle.tiff_value.specs.Written.{Written}
use Rattle.tiff_page.specs.Layout.{LayoutRecord}
use Rattle.tiff_laws.specs.Whole.{chunks_used, chunk_row, at_chunk, at_image, chunk_byte_count}
use Rattle.tiff_laws.specs.Bytes.{chunk_of_byte, row_of_byte, byte_in_row}
use Rattle.tiff_laws.specs.Units.{unit_chunk}
use Rattle.tiff_encode.specs.Kind.{WritesWithin}
use Rattle.test_definitions.specs.Page.Layout.{planar_tiles}
use Rattle.test_definitions.specs.Decode.Steps.{Never}

-- a writer of three bytes, after the first one
abbrev pub three : Written
three = record {
  bytes = 1 ∷ 2 ∷ 3 ∷ [];
  at = 1;
  fault = None;
  failures = 0;
  last = 0;
  method = method.None;
}

-- the writer of three bytes after a device error of its sink
abbrev pub broken : Written
broken = record three { fault = Some fault.Device; failures = 1 }

-- ---- values

-- one SHORT as its bytes, which isn't two
abbrev pub value_given : Type 0
value_given = values_in t.SHORT 1 (5 ∷ 0 ∷ []) ≡ data_of (u16s (5 ∷ []))

abbrev pub is_value : Type 0
is_value = IsValue t.SHORT 1 (Ok (data_of (u16s (5 ∷ []))))

-- mistake: `IsValue` counts one value as two
abbrev pub is_not_value : Type 0
is_not_value = Never (IsValue t.SHORT 2 (Ok (data_of (u16s (5 ∷ [])))))

-- a text that isn't ASCII is refused
abbrev pub value_refused : Type 0
value_refused = IsValue t.ASCII 2 (text_data (0xe9 ∷ []))

-- mistake: `IsWritable` allows every value
-- a text that isn't ASCII can't be written, and numbers can
abbrev pub value_writable : Type 0
value_writable = IsWritable (Ok (data_of (u16s (5 ∷ []))))
    × Never (IsWritable (text_data (0xe9 ∷ [])))

-- mistake: `Pushes` drops what the list contained (`value_not_alone` fails too)
-- one SHORT is appended to a byte, which stays
abbrev pub value_pushed : Type 0
value_pushed = Pushes {A = ℕ} (Ok (data_of (u16s (5 ∷ [])))) (9 ∷ []) (9 ∷ 5 ∷ 0 ∷ []) (Ok 0)

abbrev pub value_not_alone : Type 0
value_not_alone = Never (Pushes {A = ℕ} (Ok (data_of (u16s (5 ∷ [])))) (9 ∷ []) (5 ∷ 0 ∷ []) (Ok 0))

-- mistake: `Pushes` appends a text that can't be written
-- a text that can't be written appends no bytes, and allocates nothing
abbrev pub text_not_pushed : Type 0
text_not_pushed = Never (Pushes {A = ℕ} (text_data (0xe9 ∷ [])) [] (0xe9 ∷ 0 ∷ []) (Ok 0))

-- mistake: `Pushes` returns out of memory for such a text
abbrev pub text_push_not_wanting : Type 0
text_push_not_wanting = Never (Pushes {A = ℕ} (text_data (0xe9 ∷ [])) [] [] (Err OutOfMemory))

abbrev pub bytes_three : Type 0
bytes_three = byte_count 3 t.SHORT ≡ 6

-- mistake: `byte_count` wraps the count of bytes
-- a count of 2^65 bytes is cut to the largest 64-bit number
abbrev pub bytes_most : Type 0
bytes_most = byte_count (2 ^ 62) t.DOUBLE ≡ 2 ^ 64 - 1

abbrev pub value_writes : Type 0
value_writes =
    WritesValue {A = ℕ} (Ok (data_of (u8s (9 ∷ [])))) three
    (record three { bytes = 1 ∷ 9 ∷ 3 ∷ []; at = 2; last = 1 }) (Ok 0)

-- mistake: `WritesValue` writes a refused value
-- a text that can't be written isn't written
abbrev pub value_writes_not : Type 0
value_writes_not = Never (WritesValue {A = ℕ} (text_data (0xe9 ∷ [])) three three (Ok 0))

abbrev pub wanting : Type 0
wanting = IsWanting OutOfMemory three three

abbrev pub refused : Type 0
refused = ValueIsRefused (FormatError InvalidTag) (FormatError InvalidTag) three three

-- mistake: `WritesValue` returns out of memory for a refused value
-- a text that is refused gives no out-of-memory error
abbrev pub text_not_wanting : Type 0
text_not_wanting = Never (WritesValue {A = ℕ} (text_data (0xe9 ∷ [])) three three (Err OutOfMemory))

-- after a failed write, the failed write is returned before a refused value or an out-of-memory
-- error
abbrev pub value_stopped : Type 0
value_stopped =
    WritesValue {A = ℕ} (Ok (data_of (u8s (9 ∷ [])))) broken broken
    (Err (UsageError usage.WriterFailed))
    × WritesValue {A = ℕ} (text_data (0xe9 ∷ [])) broken broken
    (Err (UsageError usage.WriterFailed))

-- mistake: `WritesValue` returns out of memory, or a refusal, after a failed write
--   (`value_not_refused` fails too)
abbrev pub value_not_wanting : Type 0
value_not_wanting =
    Never (WritesValue {A = ℕ} (Ok (data_of (u8s (9 ∷ [])))) broken broken (Err OutOfMemory))

abbrev pub value_not_refused : Type 0
value_not_refused =
    Never (WritesValue {A = ℕ} (text_data (0xe9 ∷ [])) broken broken (Err (FormatError InvalidTag)))

abbrev pub not_refused : Type 0
not_refused = Never (ValueIsRefused (FormatError InvalidTag) OutOfMemory three three)

abbrev pub buffer_of_short : Type 0
buffer_of_short =
    buffer_given (Ok (data_of (u16s (5 ∷ []))))
    ≡ Ok (record { order = LittleEndian; data_type = t.SHORT; bytes = 5 ∷ 0 ∷ [] })

abbrev pub buffer_refused : Type 0
buffer_refused = buffer_given (text_data (0xe9 ∷ [])) ≡ Err (FormatError InvalidTag)

-- an offset beyond a classic file's offsets: nothing is written
abbrev pub offset_past : Type 0
offset_past = WritesWithin {A = ℕ} true (5 ∷ 0 ∷ 0 ∷ 0 ∷ []) three three (Err IntSizeError)

-- mistake: `WritesWithin` refuses an offset that fits
abbrev pub offset_not_past : Type 0
offset_not_past = Never (WritesWithin {A = ℕ} false [] three three (Err IntSizeError))

-- ---- bytes that are stored

abbrev pub plain_takes_none : Type 0
plain_takes_none = takes_memory method.None ≡ false

abbrev pub packing_takes : Type 0
packing_takes = takes_memory method.PackBits ≡ true

-- an empty list is stored without compression, and can't be packed
abbrev pub stores_none : Type 0
stores_none = Stores method.None [] three three (Ok 0)

-- mistake: `Stores` returns another length
-- another number of bytes isn't returned
abbrev pub stores_miscounted : Type 0
stores_miscounted = Never (Stores method.None [] three three (Ok 1))

-- one packed byte is counted as two
abbrev pub packs_one : Type 0
packs_one =
    StoresBytes {A = ℕ} method.PackBits (9 ∷ []) three
    (record three { bytes = 1 ∷ 0 ∷ 9 ∷ []; at = 3; last = 2 }) (Ok 0)

-- mistake: `Stores` allows that no bytes are packed
abbrev pub packs_none : Type 0
packs_none = Stores method.PackBits [] three three (Err (IoError WriteZero))

-- mistake: `StoreWants` returns out of memory for bytes that are stored as they are
-- only packing allocates memory
abbrev pub plain_wants_none : Type 0
plain_wants_none = Never (StoreWants method.None (9 ∷ []) OutOfMemory three three)

-- ---- rows as differences

abbrev pub row_of_bytes : Type 0
row_of_bytes = row_of_type t.BYTE 1 (5 ∷ 3 ∷ []) ≡ Ok (5 ∷ 254 ∷ [])

-- mistake: `row_of_type` takes differences of floating rows
abbrev pub row_of_floats : Type 0
row_of_floats = row_of_type t.FLOAT 1 (5 ∷ 3 ∷ []) ≡ Err (UsageError PredictorIncompatible)

abbrev pub row_added : Type 0
row_added = AppendsRow {A = ℕ} {B = ℕ} (λ n. n) (Ok (1 ∷ 2 ∷ [])) (5 ∷ []) (5 ∷ 1 ∷ 2 ∷ []) (Ok 0)

abbrev pub row_refused : Type 0
row_refused =
    AppendsRow {A = ℕ} {B = ℕ} (λ n. n) (Err IntSizeError) (5 ∷ []) (5 ∷ []) (Err IntSizeError)

-- mistake: `AppendsRow` loses what the list contained
-- a list keeps its content, whether the row is refused or not
abbrev pub row_not_lost : Type 0
row_not_lost =
    Never (AppendsRow {A = ℕ} {B = ℕ} (λ n. n) (Err IntSizeError) (5 ∷ []) [] (Err IntSizeError))

-- ---- chunks in an image

-- the layout of two planes of 20 by 20 pixels
abbrev pub two_bands : LayoutRecord
two_bands = record { color = Multiband 8 2; row_bytes = 20; plane_stride = 400 }

-- a slice of 805 bytes takes both planes, and one of 799 bytes the first
abbrev pub eight_chunks : Type 0
eight_chunks = chunks_used planar_tiles two_bands 805 ≡ 8

-- mistake: `chunks_used` counts a plane that isn't whole
abbrev pub four_chunks : Type 0
four_chunks = chunks_used planar_tiles two_bands 799 ≡ 4

-- the last tile of the second plane has four pixels in each of four rows in the image
abbrev pub corner_row : Type 0
corner_row = chunk_row planar_tiles two_bands 7 ≡ 4

-- mistake: `chunk_byte_count` counts the bytes of a whole tile at the edge
abbrev pub corner_bytes : Type 0
corner_bytes = chunk_byte_count planar_tiles two_bands 7 ≡ 16

-- byte 2 of row 1 of the last tile: in the tile alone, and in the image after a plane, 17 rows and
-- 16 columns
abbrev pub corner_at_chunk : Type 0
corner_at_chunk = at_chunk planar_tiles two_bands 7 1 2 ≡ 6

-- mistake: `at_image` places a chunk of a later plane in the first
abbrev pub corner_at_image : Type 0
corner_at_image = at_image planar_tiles two_bands 7 1 2 ≡ 758

-- the chunk, the row and the byte within the row of a byte of the two planes
abbrev pub found_at : ℕ → ℕ × ℕ × ℕ
found_at at = (
  chunk_of_byte planar_tiles two_bands at,
  row_of_byte planar_tiles two_bands at,
  byte_in_row planar_tiles two_bands at,
)

-- mistake: `line_of_byte` doesn't take the line within the plane (the law fails first)
-- byte 2 of row 1 of the last tile, found by its position; the first byte of the second plane; and
-- the first byte after the first tile's first row
abbrev pub corner_found : Type 0
corner_found = found_at 758 ≡ (7, 1, 2)

-- mistake: `full_row` takes the image's width for a full row (the law fails first)
abbrev pub plane_found : Type 0
plane_found = found_at 400 ≡ (4, 0, 0)

-- mistake: `row_of_byte` takes rows by the page's height (the law fails first)
abbrev pub edge_found : Type 0
edge_found = found_at 16 ≡ (1, 0, 0)

-- mistake: `unit_chunk` takes the chunk of the next plane (the law fails first)
-- the chunk in the second plane for the last tile of the first plane
abbrev pub corner_unit : Type 0
corner_unit = unit_chunk planar_tiles 3 1 ≡ 7
