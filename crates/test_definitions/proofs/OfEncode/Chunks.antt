-- The worked examples of `Encode.Chunks` hold.
use Rattle.std.specs.Prelude.{refl}
use Rattle.std.specs.Prelude.{ℕ, ◌+◌, true, List, [], ◌∷◌, ◌++◌, take, drop, Some}
use Rattle.std.proofs.Common.{ap}
use Rattle.tiff_base.specs.declared.tags.FileKind.TheVariants.{Classic}
use Rattle.tiff_base.specs.declared.tags.«Type».TheVariants.{SHORT, LONG}
use Rattle.tiff_base.specs.Field.{Field}
use Rattle.tiff_encode.specs.Calls.{new_directory}
use Rattle.test_definitions.specs.OneValue.{short_field, long_field, rational_field}
use Rattle.test_definitions.proofs.Maps.{puts, entries_puts, len_puts}
use Rattle.test_definitions.proofs.OfEncode.Calls.{finish_told}
use Rattle.test_definitions.specs.Encode.Chunks as s
use Rattle.test_definitions.specs.Files.{gray_file}
use Rattle.test_definitions.specs.Encode.Calls.{header, with_fields}
use Rattle.test_definitions.specs.Encode.Causes.{new_file}
use Rattle.tiff.proofs.OnLiterals.{tiff_on_literals}

-- the fields of a page after a refused one, and those of a packed image, the last one first
abbrev page_fields : ℕ → ℕ → List (ℕ × Field)
page_fields resolutions strip =
    (279, long_field 1) ∷ (273, long_field strip) ∷ (339, short_field 1) ∷ (258, short_field 8)
    ∷ (296, short_field 1) ∷ (283, rational_field (resolutions + 8))
    ∷ (282, rational_field resolutions)
    ∷ (277, short_field 1) ∷ (278, long_field 1000000) ∷ (262, short_field 1) ∷ (317, short_field 1)
    ∷ (259, short_field 1) ∷ (257, long_field 1) ∷ (256, long_field 1) ∷ []

abbrev three_shorts : ℕ → Field
three_shorts offset =
    record { field_type = SHORT; count = 3; value = offset ∷ 0 ∷ 0 ∷ 0 ∷ 0 ∷ 0 ∷ 0 ∷ 0 ∷ [] }

abbrev ycbcr_fields : List (ℕ × Field)
ycbcr_fields =
    (279, long_field 3) ∷ (273, long_field 24) ∷ (339, three_shorts 33) ∷ (258, three_shorts 27)
    ∷ (296, short_field 1) ∷ (283, rational_field 16) ∷ (282, rational_field 8)
    ∷ (277, short_field 3)
    ∷ (278, long_field 333334) ∷ (530, record { field_type = SHORT; count = 2; value = 1 ∷ 0 ∷ 1 ∷ 0 ∷ 0 ∷ 0 ∷ 0 ∷ 0 ∷ [] })
    ∷ (262, short_field 6) ∷ (317, short_field 1) ∷ (259, short_field 1)
    ∷ (257, long_field 1) ∷ (256, long_field 1) ∷ []

abbrev two_longs : ℕ → Field
two_longs offset =
    record { field_type = LONG; count = 2; value = offset ∷ 0 ∷ 0 ∷ 0 ∷ 0 ∷ 0 ∷ 0 ∷ 0 ∷ [] }

abbrev packed_fields : List (ℕ × Field)
packed_fields =
    (279, two_longs 36) ∷ (273, two_longs 28) ∷ (339, short_field 1) ∷ (258, short_field 8)
    ∷ (296, short_field 1) ∷ (283, rational_field 16) ∷ (282, rational_field 8)
    ∷ (277, short_field 1)
    ∷ (278, long_field 1) ∷ (262, short_field 1) ∷ (317, short_field 1) ∷ (259, short_field 32773)
    ∷ (257, long_field 2) ∷ (256, long_field 4) ∷ []

pub gray_begun : s.gray_begun
unfolding tiff_on_literals
gray_begun = (refl, refl)

pub pixel_finished : s.pixel_finished
unfolding tiff_on_literals
pixel_finished =
    (ap (λ t. t.answer) (finish_told (record (new_file Classic) { bytes = header ++ (s.resolutions ++ (7 ∷ [])) }) (with_fields (new_directory (Some 4) true) s.all_fields) 14 (puts s.all_fields) (len_puts s.all_fields) (entries_puts s.all_fields)), ap (λ t. t.next.bytes) (finish_told (record (new_file Classic) { bytes = header ++ (s.resolutions ++ (7 ∷ [])) }) (with_fields (new_directory (Some 4) true) s.all_fields) 14 (puts s.all_fields) (len_puts s.all_fields) (entries_puts s.all_fields)))

pub pixel_data : s.pixel_data
unfolding tiff_on_literals
pixel_data =
    (ap (λ t. t.answer) (finish_told (record (new_file Classic) { bytes = header ++ (s.resolutions ++ (7 ∷ [])) }) (with_fields (new_directory (Some 4) true) s.all_fields) 14 (puts s.all_fields) (len_puts s.all_fields) (entries_puts s.all_fields)), ap (λ t. t.next.bytes) (finish_told (record (new_file Classic) { bytes = header ++ (s.resolutions ++ (7 ∷ [])) }) (with_fields (new_directory (Some 4) true) s.all_fields) 14 (puts s.all_fields) (len_puts s.all_fields) (entries_puts s.all_fields)))

pub pixel_written : s.pixel_written
unfolding tiff_on_literals
pixel_written =
    (ap (λ t. t.answer) (finish_told (record (new_file Classic) { bytes = header ++ (s.resolutions ++ (7 ∷ [])) }) (with_fields (new_directory (Some 4) true) s.all_fields) 14 (puts s.all_fields) (len_puts s.all_fields) (entries_puts s.all_fields)), ap (λ t. t.next.bytes) (finish_told (record (new_file Classic) { bytes = header ++ (s.resolutions ++ (7 ∷ [])) }) (with_fields (new_directory (Some 4) true) s.all_fields) 14 (puts s.all_fields) (len_puts s.all_fields) (entries_puts s.all_fields)))

pub pixel_chain : s.pixel_chain
unfolding tiff_on_literals
pixel_chain =
    ap (λ t. t.next.chain) (finish_told (record (new_file Classic) { bytes = header ++ (s.resolutions ++ (7 ∷ [])) }) (with_fields (new_directory (Some 4) true) s.all_fields) 14 (puts s.all_fields) (len_puts s.all_fields) (entries_puts s.all_fields))

pub after_few : s.after_few
unfolding tiff_on_literals
after_few =
    ap (λ t. t.answer) (finish_told (record (new_file Classic) { bytes = header ++ (s.resolutions ++ (s.resolutions ++ (7 ∷ []))) }) (with_fields (new_directory (Some 4) true) (page_fields 24 40)) 14 (puts (page_fields 24 40)) (len_puts (page_fields 24 40)) (entries_puts (page_fields 24 40)))

pub packed_written : s.packed_written
unfolding tiff_on_literals
packed_written =
    ap (λ t. t.answer) (finish_told (record s.packed_file { bytes = header ++ (s.resolutions ++ (0xfd ∷ 1 ∷ 0xfd ∷ 2 ∷ 24 ∷ 0 ∷ 0 ∷ 0 ∷ 26 ∷ 0 ∷ 0 ∷ 0 ∷ 2 ∷ 0 ∷ 0 ∷ 0 ∷ 2 ∷ 0 ∷ 0 ∷ 0 ∷ [])) }) (with_fields (new_directory (Some 4) true) packed_fields) 14 (puts packed_fields) (len_puts packed_fields) (entries_puts packed_fields))

pub packed_bytes : s.packed_bytes
unfolding tiff_on_literals
packed_bytes =
    ap (λ t. take 20 (drop 24 t.next.bytes)) (finish_told (record s.packed_file { bytes = header ++ (s.resolutions ++ (0xfd ∷ 1 ∷ 0xfd ∷ 2 ∷ 24 ∷ 0 ∷ 0 ∷ 0 ∷ 26 ∷ 0 ∷ 0 ∷ 0 ∷ 2 ∷ 0 ∷ 0 ∷ 0 ∷ 2 ∷ 0 ∷ 0 ∷ 0 ∷ [])) }) (with_fields (new_directory (Some 4) true) packed_fields) 14 (puts packed_fields) (len_puts packed_fields) (entries_puts packed_fields))

pub second_page : s.second_page
unfolding tiff_on_literals
second_page =
    ap (λ t. t.answer) (finish_told (record s.page_file { bytes = gray_file ++ (0 ∷ (s.resolutions ++ (7 ∷ []))) }) (with_fields (new_directory (Some 195) true) (page_fields 200 216)) 14 (puts (page_fields 200 216)) (len_puts (page_fields 200 216)) (entries_puts (page_fields 200 216)))

pub third_page : s.third_page
unfolding tiff_on_literals
third_page =
    ap (λ t. t.answer) (finish_told (record s.page_file { bytes = gray_file ++ (0 ∷ (s.resolutions ++ (s.resolutions ++ (7 ∷ [])))) }) (with_fields (new_directory (Some 195) true) (page_fields 216 232)) 14 (puts (page_fields 216 232)) (len_puts (page_fields 216 232)) (entries_puts (page_fields 216 232)))

pub third_link : s.third_link
unfolding tiff_on_literals
third_link =
    ap (λ t. take 4 (drop 195 t.next.bytes)) (finish_told (record s.page_file { bytes = gray_file ++ (0 ∷ (s.resolutions ++ (s.resolutions ++ (7 ∷ [])))) }) (with_fields (new_directory (Some 195) true) (page_fields 216 232)) 14 (puts (page_fields 216 232)) (len_puts (page_fields 216 232)) (entries_puts (page_fields 216 232)))

pub ycbcr_written : s.ycbcr_written
unfolding tiff_on_literals
ycbcr_written =
    ap (λ t. t.answer) (finish_told (record (new_file Classic) { bytes = header ++ (s.resolutions ++ (1 ∷ 2 ∷ 3 ∷ 8 ∷ 0 ∷ 8 ∷ 0 ∷ 8 ∷ 0 ∷ 1 ∷ 0 ∷ 1 ∷ 0 ∷ 1 ∷ 0 ∷ [])) }) (with_fields (new_directory (Some 4) true) ycbcr_fields) 15 (puts ycbcr_fields) (len_puts ycbcr_fields) (entries_puts ycbcr_fields))
