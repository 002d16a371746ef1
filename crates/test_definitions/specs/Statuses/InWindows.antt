-- Worked examples of what a call on windows of a file tells.
use Rattle.std.specs.Prelude.{◌≡◌, ℕ, ◌+◌, ◌^◌, List, [], ◌∷◌, Ok, Err}
use Rattle.tiff_base.specs.declared.error.TiffError.TheVariants.{FormatError, LimitsExceeded}
use Rattle.tiff_base.specs.declared.error.TiffFormatError.TheVariants.{ImageFileDirectoryNotFound, RequiredTagNotFound}
use Rattle.tiff_base.specs.declared.tags.Tag.TheVariants as tag
use Rattle.tiff_base.specs.declared.windows.Windows.{Windows}
use Rattle.tiff_ffi.specs.declared.entries.TagEntry.{TagEntry}
use Rattle.tiff_ffi.specs.InWindows.{SeenTells, bytes_wanted, copied, list_tags, no_tag, tag_bytes}
use Rattle.test_definitions.specs.Base.Windows.{fourth, front, of_five, seen, stretch}

-- windows out of order
abbrev pub disorder : Windows
disorder = of_five (fourth ∷ front ∷ [])

-- mistake: `SeenTells` refuses windows in disorder as another error
-- they are refused as an invalid input, and the call leaves what a refused call leaves
abbrev pub refused : Type 0
refused = SeenTells disorder 12 (stretch 0 0) (Unit {0}) ⊥

-- mistake: `SeenTells` accepts windows in disorder
abbrev pub disorder_told : Type 0
disorder_told = SeenTells disorder 0 (stretch 0 0) (Unit {0}) (Unit {0}) → ⊥

-- mistake: `SeenTells` lets a call that refuses windows change what is passed in
abbrev pub disorder_stays : Type 0
disorder_stays = SeenTells disorder 12 (stretch 0 0) ⊥ (Unit {0}) → ⊥

-- bytes that no window has are wanted, and the call leaves the same
abbrev pub wanted : Type 0
wanted = SeenTells seen bytes_wanted (stretch 2 1) (Unit {0}) ⊥

-- mistake: `bytes_wanted` wants bytes that a window has
abbrev pub wanted_seen : Type 0
wanted_seen = SeenTells seen bytes_wanted (stretch 1 2) (Unit {0}) ⊥ → ⊥

-- mistake: `SeenTells` tells nothing, and wants nothing
abbrev pub wanted_done : Type 0
wanted_done = SeenTells seen 0 (stretch 2 1) (Unit {0}) ⊥ → ⊥

-- mistake: `SeenTells` lets a call that wants bytes change what is passed in
abbrev pub wanted_stays : Type 0
wanted_stays = SeenTells seen bytes_wanted (stretch 2 1) ⊥ ⊥ → ⊥

-- mistake: `SeenTells` tells nothing of windows in order
-- or what the call on the whole file tells, with any status and stretch
abbrev pub told : Type 0
told = SeenTells seen 0 (stretch 1 2) ⊥ (Unit {0})

-- mistake: `copied` clears the rest of the slice
-- two bytes are copied into a slice of three, or an error is returned
abbrev pub two_copied : Type 0
two_copied =
    copied (Ok (0x0a ∷ 0x0b ∷ [])) (0x01 ∷ 0x02 ∷ 0x03 ∷ [])
    ≡ Ok (2, 0x0a ∷ 0x0b ∷ 0x03 ∷ [])

-- mistake: `copied` takes an error for no bytes
abbrev pub none_copied : Type 0
none_copied = copied (Err LimitsExceeded) (0x01 ∷ []) ≡ Err LimitsExceeded

-- mistake: `no_tag` tells of another tag
-- the error of a tag that isn't there has that tag
abbrev pub no_width : Type 0
no_width = no_tag 256 ≡ FormatError (RequiredTagNotFound tag.ImageWidth)

-- a file whose one directory has one field, the SHORT 7 as ImageWidth, so that it is no page
abbrev pub one_tag : List ℕ
one_tag =
    0x49 ∷ 0x49 ∷ 0x2a ∷ 0x00 ∷ 0x08 ∷ 0x00 ∷ 0x00 ∷ 0x00 ∷ 0x01 ∷ 0x00 ∷ 0x00 ∷ 0x01 ∷ 0x03 ∷ 0x00 ∷ 0x01
    ∷ 0x00 ∷ 0x00 ∷ 0x00 ∷ 0x07 ∷ 0x00 ∷ 0x00 ∷ 0x00 ∷ 0x00 ∷ 0x00 ∷ 0x00 ∷ 0x00 ∷ []

-- mistake: `tag_bytes` takes another tag
-- the bytes of its tag, from the first and from the second on
abbrev pub width_bytes : Type 0
width_bytes = tag_bytes one_tag 0 256 0 (0x01 ∷ 0x02 ∷ 0x03 ∷ []) ≡ Ok (2, 0x07 ∷ 0x00 ∷ 0x03 ∷ [])

-- mistake: `tag_bytes` copies from the first byte on
abbrev pub second_byte : Type 0
second_byte = tag_bytes one_tag 0 256 1 (0x01 ∷ 0x02 ∷ []) ≡ Ok (1, 0x00 ∷ 0x02 ∷ [])

-- the directory by its offset, and another tag
abbrev pub at_offset : Type 0
at_offset = tag_bytes one_tag (2 ^ 63 + 8) 256 0 (0x01 ∷ []) ≡ Ok (1, 0x07 ∷ [])

abbrev pub no_height : Type 0
no_height = tag_bytes one_tag 0 257 0 [] ≡ Err (no_tag 257)

-- the entry of its field, put over the one entry of a slice
abbrev pub width : TagEntry
width = record { count = 1; offset = 0; number = 256; kind = 3; in_place = 1 }

abbrev pub blank : TagEntry
blank = record { count = 0; offset = 0; number = 0; kind = 0; in_place = 0 }

abbrev pub width_listed : Type 0
width_listed = list_tags one_tag 0 (blank ∷ []) ≡ Ok (1, width ∷ [])

abbrev pub width_counted : Type 0
width_counted = list_tags one_tag 0 [] ≡ Ok (1, [])

-- mistake: `list_tags` tells of the first page in place of another
abbrev pub page_past : Type 0
page_past = list_tags one_tag 1 (blank ∷ []) ≡ Err (FormatError ImageFileDirectoryNotFound)
