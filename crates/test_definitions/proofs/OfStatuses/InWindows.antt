-- The worked examples of `Statuses.InWindows` hold.
use Rattle.std.specs.Prelude.{ℕ, [], ◌∷◌, length, map, List, Option, Result}
use Rattle.std.proofs.Common.{ap, refl}
use Rattle.std.specs.Cmp.{nat_cmp_total}
use Rattle.std.specs.FinMap.{get-from_entries}
use Rattle.tiff_base.specs.declared.error.TiffError.{TiffError}
use Rattle.tiff_base.specs.declared.tags.ByteOrder.TheVariants.{LittleEndian}
use Rattle.tiff_base.specs.declared.tags.FileKind.TheVariants.{Classic}
use Rattle.tiff_base.specs.Answers.{◌>>=◌}
use Rattle.tiff_base.specs.Field.{Field}
use Rattle.tiff_ifd.specs.TagLookup.{ok_or_fault}
use Rattle.tiff_ifd.specs.TagQueries.{part_of_field}
use Rattle.tiff_ffi.specs.declared.entries.TagEntry.{TagEntry}
use Rattle.tiff_ffi.specs.Entries.{counted, entry_told}
use Rattle.tiff_ffi.specs.InWindows.{copied, list_tags, no_tag, tag_bytes}
use Rattle.tiff_ffi.specs.Plan.{page_directory}
use Rattle.test_definitions.specs.Files.{one_short}
use Rattle.test_definitions.specs.Statuses.InWindows as s
use Rattle.tiff.proofs.OnLiterals.{tiff_on_literals}
use Rattle.test_definitions.proofs.Maps.{entries_puts}

-- the fields of the directory
abbrev fields : List (ℕ × Field)
fields = (256, one_short (0x07 ∷ 0x00 ∷ 0x00 ∷ 0x00 ∷ 0x00 ∷ 0x00 ∷ 0x00 ∷ 0x00 ∷ [])) ∷ []

-- what is copied of a field of the directory
abbrev of_field : ℕ → ℕ → List ℕ → Option Field → Result (ℕ × List ℕ) TiffError
of_field number at slice found =
    ok_or_fault found (no_tag number)
    >>= λ field. copied (part_of_field Classic LittleEndian s.one_tag field (length slice) at) slice

pub width_bytes : s.width_bytes
unfolding tiff_on_literals tag_bytes page_directory
width_bytes =
    ap (of_field 256 0 (0x01 ∷ 0x02 ∷ 0x03 ∷ [])) (get-from_entries nat_cmp_total fields 256)

pub second_byte : s.second_byte
unfolding tiff_on_literals tag_bytes page_directory
second_byte = ap (of_field 256 1 (0x01 ∷ 0x02 ∷ [])) (get-from_entries nat_cmp_total fields 256)

pub at_offset : s.at_offset
unfolding tiff_on_literals tag_bytes page_directory
at_offset = ap (of_field 256 0 (0x01 ∷ [])) (get-from_entries nat_cmp_total fields 256)

pub no_height : s.no_height
unfolding tiff_on_literals tag_bytes page_directory
no_height = ap (of_field 257 0 []) (get-from_entries nat_cmp_total fields 257)

-- what is told of entries of the directory
abbrev of_entries : List TagEntry → List (ℕ × Field) → Result (ℕ × List TagEntry) TiffError
of_entries slice entries = counted (map (entry_told Classic LittleEndian) entries) slice

pub width_listed : s.width_listed
unfolding tiff_on_literals list_tags page_directory
width_listed = ap (of_entries (s.blank ∷ [])) (entries_puts fields)

pub width_counted : s.width_counted
unfolding tiff_on_literals list_tags page_directory
width_counted = ap (of_entries []) (entries_puts fields)

pub page_past : s.page_past
unfolding tiff_on_literals list_tags page_directory
page_past = refl

pub ruleset worked =
    (width_bytes, second_byte, at_offset, no_height, width_listed, width_counted, page_past)
