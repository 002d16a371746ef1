-- The value of a field (TIFF 6.0 section 2). Texts and limits are as in the Rust crate.
use Rattle.std.specs.Prelude.{ℕ, ◌-◌, ◌/◌, ◌^◌, Bool, true, false, not, ◌&&◌, ◌||◌, if◌then◌else◌, ◌==◌, nat_lt, nat_le, List, [], length, take, drop, slice_index, Option, None, Some, Result, Ok, Err, IsOk}
use Rattle.std.specs.List.{list_all, before_first, prefix_len, suffix_len}
use Rattle.std.specs.Str.{is_utf8}
use Rattle.std.specs.Int.{byte_len}
use Rattle.tiff_base.specs.declared.error.TiffError.{TiffError}
use Rattle.tiff_base.specs.declared.error.TiffError.TheVariants.{FormatError, LimitsExceeded}
use Rattle.tiff_base.specs.declared.error.TiffFormatError.TheVariants.{InvalidTag}
use Rattle.tiff_base.specs.declared.tags.ByteOrder.{ByteOrder}
use Rattle.tiff_base.specs.declared.tags.FileKind.{FileKind}
use Rattle.tiff_base.specs.declared.tags.«Type».{«Type»}
use Rattle.tiff_base.specs.declared.tags.«Type».TheVariants as t
use Rattle.tiff_base.specs.Field.{Field}
use Rattle.tiff_base.specs.SourceAndSink.{exactly_at}
use Rattle.tiff_base.specs.Types.{type_size}
use Rattle.tiff_base.specs.Answers.{◌>>=◌}
use Rattle.tiff_base.specs.Sparing.{IsWithinLimits}
use Rattle.tiff_base.specs.Directory.{offset_width}
use Rattle.tiff_base.specs.FieldBytes.{field_len, field_bytes}
use Rattle.tiff_ifd.specs.declared.limits.Limits.{Limits}
use Rattle.tiff_ifd.specs.PlainValue.{PlainValue, plain_value_list_of}
use Rattle.tiff_ifd.specs.PlainValue as f
use Rattle.tiff_ifd.specs.Into.{into_string}
use Rattle.tiff_ifd.specs.Item.{item, list_item, items}

abbrev pub is_zero : ℕ → Bool
is_zero b = b == 0

abbrev pub is_ascii_byte : ℕ → Bool
is_ascii_byte b = nat_lt b 128

abbrev pub without_zeros : List ℕ → List ℕ
without_zeros bs = let rest = drop (prefix_len is_zero bs) bs in
    take (length rest - suffix_len is_zero rest) rest

-- a text in the entry itself: ASCII that ends in a zero byte, without the zeros at both ends; a
-- single byte has to be zero
abbrev pub inline_text : List ℕ → Result PlainValue TiffError
inline_text bs =
    if list_all is_ascii_byte bs && is_zero (slice_index bs (length bs - 1))
    then Ok (f.ascii (without_zeros bs)) else Err (FormatError InvalidTag)

-- a text outside the entry: the bytes before the first zero, which have to be UTF-8
abbrev pub placed_text : List ℕ → Result PlainValue TiffError
placed_text bs =
    let text = before_first is_zero bs in if is_utf8 text then Ok (f.ascii text)
    else Err (FormatError InvalidTag)

-- a text of `len` bytes at an offset
abbrev pub text_at : List ℕ → ℕ → ℕ → Result (List ℕ) TiffError
text_at bytes at len = exactly_at bytes at len >>= placed_text >>= into_string

-- numbers: one number is a single value, several numbers are a list
abbrev pub numbers : Bool → «Type» → ByteOrder → ℕ → List ℕ → PlainValue
numbers inline type o n bs = if n == 1 then item type o bs
    else f.list (plain_value_list_of (items (list_item inline type o) (type_size type) n bs))

abbrev pub value_from : Bool → «Type» → ByteOrder → ℕ → List ℕ → Result PlainValue TiffError
value_from inline t.ASCII o n bs = if inline then inline_text bs else placed_text bs
value_from inline type o n bs = Ok (numbers inline type o n bs)

-- whether the limits allow `n` values outside the entry: a value of a list counts as 32 bytes, a
-- character of a text as one byte
abbrev pub is_allowed : Limits → «Type» → ℕ → Bool
is_allowed limits t.ASCII n = nat_le n limits.decoding_buffer_size
is_allowed limits type n = n == 1 || nat_le n (limits.decoding_buffer_size / 32)

-- values outside the entry: the check of the limit comes before the check for the end of the source
abbrev pub placed_value : FileKind → ByteOrder → List ℕ → Limits → Field
    → Result PlainValue TiffError
placed_value kind order bytes limits e =
    if is_allowed limits e.field_type e.count
    then (field_bytes kind order bytes e >>= λ found.
    value_from false e.field_type order e.count found)
    else Err LimitsExceeded

-- the value of a field; a field with no values is an empty list
unfoldable pub field_value : FileKind → ByteOrder → List ℕ → Limits → Field
    → Result PlainValue TiffError
field_value kind order bytes limits e =
    if e.count == 0 then Ok (f.list (plain_value_list_of []))
    else if not (nat_lt (field_len e) (2 ^ 64)) then Err LimitsExceeded
    else if nat_le (field_len e) (byte_len (offset_width kind))
    then value_from true e.field_type order e.count (take (field_len e) e.value)
    else placed_value kind order bytes limits e

-- ---- memory for a value

-- whether the value of a field is in its entry
abbrev pub stands_in_entry : FileKind → Field → Bool
stands_in_entry kind e = nat_le (field_len e) (byte_len (offset_width kind))

-- Whether the read of a value may allocate memory and run out of it: for a value in its entry, only
-- where it is valid; for another value, only within the limits and the source, because the read of
-- its bytes comes first.
abbrev pub WantsValue : {Y : Type 0} → Bool → Result Y TiffError → Type 0
WantsValue true given = IsOk given
WantsValue false given = IsWithinLimits given

-- whether the look-up of a field and the read of its value may allocate memory: never where there
-- is no such field
abbrev pub WantsFound : {Y : Type 0} → FileKind → Option Field → Result Y TiffError → Type 0
WantsFound kind None given = ⊥
WantsFound kind (Some e) given = WantsValue (stands_in_entry kind e) given
