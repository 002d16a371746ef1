-- Worked examples of conversions of values, and of tag look-ups.
use Rattle.std.specs.Prelude.{◌≡◌, ℕ, ◌==◌, true, false, pos, List, [], ◌∷◌, Option, Some, None, Ok, Err, if◌then◌else◌, is_some}
use Rattle.std.specs.FinMap.{from_entries}
use Rattle.tiff_base.specs.declared.error.TiffError.TheVariants.{FormatError, IoError, IntSizeError}
use Rattle.tiff_base.specs.declared.error.TiffFormatError.TheVariants.{InvalidTypeForTag, RequiredTagNotFound}
use Rattle.tiff_base.specs.declared.io.IoKind.TheVariants.{Device, UnexpectedEof}
use Rattle.tiff_base.specs.declared.tags.ByteOrder.TheVariants.{LittleEndian}
use Rattle.tiff_base.specs.declared.tags.FileKind.TheVariants.{Classic}
use Rattle.tiff_base.specs.declared.tags.Tag.TheVariants as tag
use Rattle.tiff_base.specs.declared.tags.«Type».TheVariants.{SHORT, LONG}
use Rattle.tiff_base.specs.Directory.{last_of_each}
use Rattle.tiff_base.specs.Field.{Field}
use Rattle.tiff_base.specs.Tags.{tag_number}
use Rattle.tiff_ifd.specs.Limits.{unlimited}
use Rattle.tiff_ifd.specs.PlainValue.{PlainValue, none, more, list, short, unsigned, unsigned_big, signed, rational, ascii, ifd, ifd_big}
use Rattle.tiff_ifd.specs.Into.{into_u16, into_u32, into_u64, into_u16_vec, into_u64_vec}
use Rattle.tiff_ifd.specs.TagLookup.{AsksForTag, DirectoryTags, TagLookup, ValueReadable, find, find_or, look_in, require}
use Rattle.test_definitions.specs.Base.FieldBytes.{of}
use Rattle.test_definitions.specs.Ifd.Stretches.{one_entry, shorts}

-- numbers that fit into two bytes, and a number that doesn't
abbrev pub u16_short : Type 0
u16_short = into_u16 (short 8) ≡ Ok 8

abbrev pub u16_fits : Type 0
u16_fits = into_u16 (unsigned 65535) ≡ Ok 65535

abbrev pub u16_too_great : Type 0
u16_too_great = into_u16 (unsigned_big 65536) ≡ Err IntSizeError

-- mistake: `into_u16` accepts an IFD
-- a directory offset isn't a number of two bytes, nor is a signed number
abbrev pub u16_offset : Type 0
u16_offset = into_u16 (ifd 8) ≡ Err (FormatError InvalidTypeForTag)

abbrev pub u16_signed : Type 0
u16_signed = into_u16 (signed (pos 8)) ≡ Err (FormatError InvalidTypeForTag)

-- mistake: `into_u32` doesn't accept an IFD
-- numbers of four bytes
abbrev pub u32_offset : Type 0
u32_offset = into_u32 (ifd 8) ≡ Ok 8

abbrev pub u32_fits : Type 0
u32_fits = into_u32 (unsigned_big 4294967295) ≡ Ok 4294967295

-- mistake: `below_limit` lets the limit itself fit
abbrev pub u32_too_great : Type 0
u32_too_great = into_u32 (ifd_big 4294967296) ≡ Err IntSizeError

abbrev pub u32_list : Type 0
u32_list = into_u32 (list (more (short 8) none)) ≡ Err (FormatError InvalidTypeForTag)

-- numbers of eight bytes
abbrev pub u64_fits : Type 0
u64_fits = into_u64 (unsigned_big 18446744073709551615) ≡ Ok 18446744073709551615

-- mistake: `into_u64` accepts a rational
abbrev pub u64_rational : Type 0
u64_rational = into_u64 (rational 1 1) ≡ Err (FormatError InvalidTypeForTag)

-- lists of numbers of two bytes: a single number is a list too, but a single LONG isn't
abbrev pub u16s_list : Type 0
u16s_list = into_u16_vec (list (more (short 8) (more (unsigned 9) none))) ≡ Ok (8 ∷ 9 ∷ [])

abbrev pub u16s_empty : Type 0
u16s_empty = into_u16_vec (list none) ≡ Ok []

abbrev pub u16s_one : Type 0
u16s_one = into_u16_vec (short 8) ≡ Ok (8 ∷ [])

-- mistake: `into_u16_vec` accepts one LONG
abbrev pub u16s_long : Type 0
u16s_long = into_u16_vec (unsigned 8) ≡ Err (FormatError InvalidTypeForTag)

-- mistake: `each_item` returns the last error
-- the error is that of the first item that fails
abbrev pub first_too_great : Type 0
first_too_great =
    into_u16_vec (list (more (short 8) (more (unsigned 65536) (more (ascii []) none))))
    ≡ Err IntSizeError

abbrev pub first_mistyped : Type 0
first_mistyped =
    into_u16_vec (list (more (short 8) (more (ascii []) (more (unsigned 65536) none))))
    ≡ Err (FormatError InvalidTypeForTag)

-- lists of numbers of eight bytes: a rational gives two numbers, and a text gives its characters
abbrev pub u64s_list : Type 0
u64s_list = into_u64_vec (list (more (unsigned 8) (more (ifd_big 9) none))) ≡ Ok (8 ∷ 9 ∷ [])

-- mistake: `into_u64_vec` gives one number for a rational
abbrev pub u64s_rational : Type 0
u64s_rational = into_u64_vec (rational 72 1) ≡ Ok (72 ∷ 1 ∷ [])

abbrev pub u64s_text : Type 0
u64s_text = into_u64_vec (ascii (0x41 ∷ 0xc3 ∷ 0xa4 ∷ [])) ≡ Ok (0x41 ∷ 0xe4 ∷ [])

abbrev pub u64s_signed : Type 0
u64s_signed = into_u64_vec (signed (pos 8)) ≡ Err (FormatError InvalidTypeForTag)

-- the value in a list for a tag number
abbrev pub value_at : List (ℕ × PlainValue) → ℕ → Option PlainValue
value_at [] n = None
value_at (d ∷ ds) n = if d.0 == n then Some d.1 else value_at ds n

-- the look-up in a list of tag numbers with values
abbrev pub told : List (ℕ × PlainValue) → TagLookup
told ds = record {
  has = λ tag. is_some (value_at ds (tag_number tag));
  value = λ tag. Ok (value_at ds (tag_number tag));
}

-- mistake: `find` finds no value of a tag that is there
-- ImageWidth is found, and ImageLength isn't
abbrev pub width_found : Type 0
width_found = find into_u32 (told ((256, short 5) ∷ [])) tag.ImageWidth ≡ Ok (Some 5)

abbrev pub length_missing : Type 0
length_missing = find into_u32 (told ((256, short 5) ∷ [])) tag.ImageLength ≡ Ok None

-- a value that can't be converted is an error
abbrev pub width_text : Type 0
width_text =
    find into_u32 (told ((256, ascii []) ∷ [])) tag.ImageWidth ≡ Err (FormatError InvalidTypeForTag)

-- the default value of a missing tag
abbrev pub otherwise_1 : Type 0
otherwise_1 = find_or into_u16 (told []) tag.Compression 1 ≡ Ok 1

-- mistake: `find_or` returns the default in every case
abbrev pub otherwise_unused : Type 0
otherwise_unused = find_or into_u16 (told ((259, short 5) ∷ [])) tag.Compression 1 ≡ Ok 5

-- mistake: `require` returns the error in every case
-- a required tag
abbrev pub width_required : Type 0
width_required = require into_u32 (told ((256, short 5) ∷ [])) tag.ImageWidth ≡ Ok 5

-- mistake: `require` returns another error
abbrev pub length_required : Type 0
length_required =
    require into_u32 (told ((256, short 5) ∷ [])) tag.ImageLength
    ≡ Err (FormatError (RequiredTagNotFound tag.ImageLength))

-- a directory of ImageWidth, one SHORT; BitsPerSample, two SHORTs; and StripOffsets, two LONGs at
-- offset 0
abbrev pub some_fields : List (ℕ × Field)
some_fields =
    (256, of SHORT 1 (0x05 ∷ 0x00 ∷ 0x00 ∷ 0x00 ∷ 0x00 ∷ 0x00 ∷ 0x00 ∷ 0x00 ∷ []))
    ∷ (258, of SHORT 2 (0x08 ∷ 0x00 ∷ 0x08 ∷ 0x00 ∷ 0x00 ∷ 0x00 ∷ 0x00 ∷ 0x00 ∷ []))
    ∷ (273, of LONG 2 (0x00 ∷ 0x00 ∷ 0x00 ∷ 0x00 ∷ 0x00 ∷ 0x00 ∷ 0x00 ∷ 0x00 ∷ []))
    ∷ []

-- mistake: `look_up_in` finds no fields
-- a list in its entry
abbrev pub list_read : Type 0
list_read =
    (look_in Classic LittleEndian [] unlimited (last_of_each some_fields)).value tag.BitsPerSample
    ≡ Ok (Some (list (more (short 8) (more (short 8) none))))

-- a list past the end of the file
abbrev pub list_past_end : Type 0
list_past_end =
    (look_in Classic LittleEndian [] unlimited (last_of_each some_fields)).value tag.StripOffsets
    ≡ Err (IoError UnexpectedEof)

-- a single SHORT, and a missing tag
abbrev pub single_read : Type 0
single_read =
    (look_in Classic LittleEndian [] unlimited (last_of_each some_fields)).value tag.ImageWidth
    ≡ Ok (Some (short 5))

abbrev pub single_missing : Type 0
single_missing =
    (look_in Classic LittleEndian [] unlimited (last_of_each some_fields)).value tag.ImageLength
    ≡ Ok None

-- mistake: `look_up_in` looks up the wrong number
abbrev pub has_width : Type 0
has_width =
    (look_in Classic LittleEndian [] unlimited (last_of_each some_fields)).has tag.ImageWidth ≡ true

abbrev pub has_length : Type 0
has_length =
    (look_in Classic LittleEndian [] unlimited (last_of_each some_fields)).has tag.ImageLength
    ≡ false

-- ---- bytes that a look-up needs

-- the tags of a directory with BitsPerSample, three SHORTs at offset 8, in a source with these
-- readable stretches
abbrev pub three_shorts : List (ℕ × ℕ) → DirectoryTags
three_shorts stretches = record {
  look = told [];
  source = one_entry stretches;
  kind = Classic;
  order = LittleEndian;
  directory = record { entries = from_entries ((258, shorts 3) ∷ []); next = None };
  limits = unlimited;
}

-- the values of BitsPerSample need six bytes
abbrev pub value_readable : Type 0
value_readable = ValueReadable (three_shorts ((8, 6) ∷ [])) tag.BitsPerSample

-- mistake: `ValueReadable` asks for no values
abbrev pub value_unreadable : Type 0
value_unreadable = ValueReadable (three_shorts ((8, 5) ∷ [])) tag.BitsPerSample → ⊥

-- mistake: `ValueReadable` asks for those of another tag
-- a tag other than BitsPerSample needs no bytes
abbrev pub other_readable : Type 0
other_readable = ValueReadable (three_shorts []) tag.ImageWidth

-- mistake: `AsksForTag` allows a device error in no case
-- a look-up may return a device error only if the values aren't readable
abbrev pub value_asked : Type 0
value_asked =
    AsksForTag {X = ℕ} (three_shorts ((8, 5) ∷ [])) tag.BitsPerSample (Err (IoError Device))

-- mistake: `AsksForTag` allows a device error in every case
abbrev pub value_asked_alone : Type 0
value_asked_alone =
    AsksForTag {X = ℕ} (three_shorts ((8, 6) ∷ [])) tag.BitsPerSample (Err (IoError Device)) → ⊥
