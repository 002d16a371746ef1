-- The worked examples of `Decode.Outcome` hold.
use Rattle.tiff_page.specs.Checks.{page_of}
use Rattle.std.specs.Prelude.{◌≡◌, ℕ, List, [], ◌∷◌, drop, reverse, is_some, Some, Result, Ok}
use Rattle.std.proofs.Common.{ap}
use Rattle.std.specs.Ordering.{nat_cmp}
use Rattle.std.specs.Cmp.{nat_cmp_total}
use Rattle.std.specs.FinMap.{find, from_entries, get-from_entries}
use Rattle.tiff_base.specs.declared.error.TiffError.{TiffError}
use Rattle.tiff_base.specs.Answers.{◌>>=◌}
use Rattle.tiff_base.specs.Field.{Field}
use Rattle.tiff_base.specs.Tags.{tag_number}
use Rattle.tiff_base.specs.SourceAndSink.{put}
use Rattle.tiff_ifd.specs.PlainValue.{PlainValue}
use Rattle.tiff_ifd.specs.FieldValue.{field_value}
use Rattle.tiff_ifd.specs.TagLookup.{TagLookup, look_up_in, if_found}
use Rattle.tiff_decode.specs.Machine.{Decoding}
use Rattle.tiff_decode.specs.DefaultLimits.{default_limits}
use Rattle.test_definitions.specs.Decoders.{at, gray_state, decoder_at, two_decoder}
use Rattle.test_definitions.specs.Files.{gray_file, gray_entries, one_long, one_short}
use Rattle.test_definitions.specs.Decode.Outcome as s
use Rattle.tiff.proofs.OnLiterals.{tiff_on_literals}

-- the look-up in fields, computed from the list that the fields are made from
pub looked_by : (value : Field → Result PlainValue TiffError) (fields : List (ℕ × Field))
    → look_up_in value (from_entries {R = nat_cmp} fields)
    ≡ record {
      has = λ tag. is_some (find nat_cmp (tag_number tag) fields);
      value = λ tag. if_found value (find nat_cmp (tag_number tag) fields);
    }
looked_by value fields = λ i. record {
  has = λ tag. is_some (get-from_entries nat_cmp_total fields (tag_number tag) i);
  value = λ tag. if_found value (get-from_entries nat_cmp_total fields (tag_number tag) i);
}

-- the fields of a file like that of one gray pixel, with some fields replaced
abbrev fields_with : Field → Field → Field → List (ℕ × Field)
fields_with width method count = reverse (
    (256, width)
    ∷ (257, one_long (1 ∷ 0 ∷ 0 ∷ 0 ∷ 0 ∷ 0 ∷ 0 ∷ 0 ∷ []))
    ∷ (258, one_short (8 ∷ 0 ∷ 0 ∷ 0 ∷ 0 ∷ 0 ∷ 0 ∷ 0 ∷ []))
    ∷ (259, method)
    ∷ (262, one_short (1 ∷ 0 ∷ 0 ∷ 0 ∷ 0 ∷ 0 ∷ 0 ∷ 0 ∷ []))
    ∷ (273, one_long (24 ∷ 0 ∷ 0 ∷ 0 ∷ 0 ∷ 0 ∷ 0 ∷ 0 ∷ []))
    ∷ (277, one_short (1 ∷ 0 ∷ 0 ∷ 0 ∷ 0 ∷ 0 ∷ 0 ∷ 0 ∷ []))
    ∷ (278, one_long (64 ∷ 66 ∷ 15 ∷ 0 ∷ 0 ∷ 0 ∷ 0 ∷ 0 ∷ []))
    ∷ (279, count)
    ∷ drop 9 gray_entries)

-- LONG fields with the values 0, 1 and 5
abbrev long_0 : Field
long_0 = one_long (0 ∷ 0 ∷ 0 ∷ 0 ∷ 0 ∷ 0 ∷ 0 ∷ 0 ∷ [])

abbrev long_1 : Field
long_1 = one_long (1 ∷ 0 ∷ 0 ∷ 0 ∷ 0 ∷ 0 ∷ 0 ∷ 0 ∷ [])

abbrev short_1 : Field
short_1 = one_short (1 ∷ 0 ∷ 0 ∷ 0 ∷ 0 ∷ 0 ∷ 0 ∷ 0 ∷ [])

abbrev short_5 : Field
short_5 = one_short (5 ∷ 0 ∷ 0 ∷ 0 ∷ 0 ∷ 0 ∷ 0 ∷ 0 ∷ [])

-- the decoder that opens, given a look-up of the first page's tags
abbrev answer : Decoding → TagLookup → Result Decoding TiffError
answer d look = page_of look >>= λ page. Ok (record d { state = record d.state { page = page } })

-- the tag look-up of a decoder
abbrev tags_of : (d : Decoding) (fields : List (ℕ × Field))
    → look_up_in (field_value d.kind d.order d.bytes default_limits)
    (from_entries {R = nat_cmp} fields) ≡ record {
      has = λ tag. is_some (find nat_cmp (tag_number tag) fields);
      value =
          λ tag. if_found (field_value d.kind d.order d.bytes default_limits)
          (find nat_cmp (tag_number tag) fields);
    }
tags_of d fields = looked_by (field_value d.kind d.order d.bytes default_limits) fields

-- the decoder of a file like that of one gray pixel, with changed bytes and fields
abbrev changed : List ℕ → List (ℕ × Field) → Decoding
changed bytes fields =
    decoder_at bytes 25 (record gray_state { directory = record gray_state.directory { entries = from_entries fields } })

pub no_tags : s.no_tags
unfolding tiff_on_literals
no_tags =
    let d : Decoding = decoder_at s.bare_file 8 gray_state in
    ap (answer (record d { state = record d.state { pointer = Some (at 8); directory = s.alone [] } })) (tags_of d [])

pub width_0 : s.width_0
unfolding tiff_on_literals
width_0 =
    let d : Decoding = changed (put gray_file 35 (0 ∷ [])) (fields_with long_0 short_1 long_1) in
    ap (answer d) (tags_of d (fields_with long_0 short_1 long_1))

pub lzw : s.lzw
unfolding tiff_on_literals
lzw =
    let d : Decoding = changed (put gray_file 71 (5 ∷ [])) (fields_with long_1 short_5 long_1) in
    ap (λ (l : TagLookup). answer d l >>= λ d. Ok d.state.page) (tags_of d (fields_with long_1 short_5 long_1))

pub count_0 : s.count_0
unfolding tiff_on_literals
count_0 =
    let d : Decoding = changed (put gray_file 131 (0 ∷ [])) (fields_with long_1 short_1 long_0) in
    ap (λ (l : TagLookup). answer d l >>= λ d. Ok d.state.page) (tags_of d (fields_with long_1 short_1 long_0))

pub list_limited : s.list_limited
unfolding tiff_on_literals
list_limited =
    let fields : List (ℕ × Field) =
    fields_with long_1 short_1 (record long_1 { count = 8388609 }) in
    let d : Decoding = changed (put gray_file 127 (1 ∷ 0 ∷ 128 ∷ 0 ∷ [])) fields in
    ap (answer d) (tags_of d fields)

pub list_within : s.list_within
unfolding tiff_on_literals
list_within =
    let fields : List (ℕ × Field) =
    fields_with long_1 short_1 (record long_1 { count = 8388608 }) in
    let d : Decoding = changed (put gray_file 127 (0 ∷ 0 ∷ 128 ∷ 0 ∷ [])) fields in
    ap (answer d) (tags_of d fields)

pub next_unread : s.next_unread
unfolding tiff_on_literals
next_unread = ap (answer (two_decoder [])) (tags_of (two_decoder []) (reverse gray_entries))

pub big_endian : s.big_endian
unfolding tiff_on_literals
big_endian =
    ap (answer s.big_endian_decoder) (tags_of s.big_endian_decoder (reverse s.big_endian_entries))

pub big : s.big
unfolding tiff_on_literals
big = ap (answer s.big_decoder) (tags_of s.big_decoder (reverse s.big_entries))

pub ruleset worked =
    (no_tags, width_0, lzw, count_0, list_limited, list_within, next_unread, big_endian, big)
