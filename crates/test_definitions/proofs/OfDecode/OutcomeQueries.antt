-- The worked examples of `Decode.OutcomeQueries` hold.
use Rattle.std.specs.Prelude.{[], ◌∷◌, Option, Ok}
use Rattle.std.proofs.Common.{ap}
use Rattle.std.specs.Cmp.{nat_cmp_total}
use Rattle.std.specs.FinMap.{get-from_entries}
use Rattle.tiff_base.specs.declared.tags.ByteOrder.TheVariants.{LittleEndian}
use Rattle.tiff_base.specs.declared.tags.FileKind.TheVariants.{Classic}
use Rattle.tiff_base.specs.declared.tags.Tag.TheVariants as tag
use Rattle.tiff_base.specs.declared.tags.«Type».TheVariants.{BYTE, ASCII, SHORT, LONG, LONG8, FLOAT, DOUBLE, RATIONAL, UNDEFINED}
use Rattle.tiff_base.specs.Field.{Field}
use Rattle.tiff_value.specs.Buffer.{empty_buffer}
use Rattle.tiff_ifd.specs.TagQueries.{find_unsigned, find_unsigned_vec, get_unsigned}
use Rattle.tiff_ifd.specs.FieldValue.{field_value}
use Rattle.tiff_ifd.specs.Into as into
use Rattle.tiff_ifd.specs.TagLookup.{TagLookup, require}
use Rattle.tiff_decode.specs.Machine.{stays}
use Rattle.tiff_decode.specs.Outcome as outcome
use Rattle.tiff_decode.specs.DefaultLimits.{default_limits}
use Rattle.test_definitions.specs.Files.{gray_file, one_short}
use Rattle.test_definitions.specs.Decoders as dec
use Rattle.test_definitions.specs.Decode.OutcomeQueries as s
use Rattle.test_definitions.proofs.OfDecode.Outcome.{looked_by}
use Rattle.tiff.proofs.OnLiterals.{tiff_on_literals}

pub value_found : s.value_found
unfolding tiff_on_literals
value_found =
    ap (λ (l : TagLookup). stays (s.one_field (one_short (0x01 ∷ 0x00 ∷ 0x00 ∷ 0x00 ∷ 0x00 ∷ 0x00 ∷ 0x00 ∷ 0x00 ∷ []))) (l.value (tag.Unknown 65000))) (looked_by (field_value Classic LittleEndian gray_file default_limits) ((65000, (one_short (0x01 ∷ 0x00 ∷ 0x00 ∷ 0x00 ∷ 0x00 ∷ 0x00 ∷ 0x00 ∷ 0x00 ∷ []))) ∷ []))

pub value_none : s.value_none
unfolding tiff_on_literals
value_none =
    ap (λ (l : TagLookup). stays (dec.fields_decoder gray_file []) (l.value (tag.Unknown 65000)))
    (looked_by (field_value Classic LittleEndian gray_file default_limits) [])

pub unsigned_found : s.unsigned_found
unfolding tiff_on_literals
unsigned_found =
    ap (λ (l : TagLookup). stays (s.one_field (one_short (0x01 ∷ 0x00 ∷ 0x00 ∷ 0x00 ∷ 0x00 ∷ 0x00 ∷ 0x00 ∷ 0x00 ∷ []))) (find_unsigned 18446744073709551616 l (tag.Unknown 65000))) (looked_by (field_value Classic LittleEndian gray_file default_limits) ((65000, (one_short (0x01 ∷ 0x00 ∷ 0x00 ∷ 0x00 ∷ 0x00 ∷ 0x00 ∷ 0x00 ∷ 0x00 ∷ []))) ∷ []))

pub unsigned_text : s.unsigned_text
unfolding tiff_on_literals
unsigned_text =
    ap (λ (l : TagLookup). stays (s.one_field (record { field_type = ASCII; count = 2; value = 0x41 ∷ 0x00 ∷ 0x00 ∷ 0x00 ∷ 0x00 ∷ 0x00 ∷ 0x00 ∷ 0x00 ∷ [] })) (find_unsigned 18446744073709551616 l (tag.Unknown 65000))) (looked_by (field_value Classic LittleEndian gray_file default_limits) ((65000, (record { field_type = ASCII; count = 2; value = 0x41 ∷ 0x00 ∷ 0x00 ∷ 0x00 ∷ 0x00 ∷ 0x00 ∷ 0x00 ∷ 0x00 ∷ [] })) ∷ []))

pub unsigned_list : s.unsigned_list
unfolding tiff_on_literals
unsigned_list =
    ap (λ (l : TagLookup). stays (s.one_field (record { field_type = LONG; count = 2; value = 0x08 ∷ 0x00 ∷ 0x00 ∷ 0x00 ∷ 0x00 ∷ 0x00 ∷ 0x00 ∷ 0x00 ∷ [] })) (find_unsigned_vec 18446744073709551616 l (tag.Unknown 65000))) (looked_by (field_value Classic LittleEndian gray_file default_limits) ((65000, (record { field_type = LONG; count = 2; value = 0x08 ∷ 0x00 ∷ 0x00 ∷ 0x00 ∷ 0x00 ∷ 0x00 ∷ 0x00 ∷ 0x00 ∷ [] })) ∷ []))

pub unsigned_float : s.unsigned_float
unfolding tiff_on_literals
unsigned_float =
    ap (λ (l : TagLookup). stays (s.one_field (record { field_type = FLOAT; count = 1; value = 0x00 ∷ 0x00 ∷ 0x80 ∷ 0x3f ∷ 0x00 ∷ 0x00 ∷ 0x00 ∷ 0x00 ∷ [] })) (find_unsigned_vec 18446744073709551616 l (tag.Unknown 65000))) (looked_by (field_value Classic LittleEndian gray_file default_limits) ((65000, (record { field_type = FLOAT; count = 1; value = 0x00 ∷ 0x00 ∷ 0x80 ∷ 0x3f ∷ 0x00 ∷ 0x00 ∷ 0x00 ∷ 0x00 ∷ [] })) ∷ []))

pub value_got : s.value_got
unfolding tiff_on_literals
value_got =
    ap (λ (l : TagLookup). stays (s.one_field (one_short (0x01 ∷ 0x00 ∷ 0x00 ∷ 0x00 ∷ 0x00 ∷ 0x00 ∷ 0x00 ∷ 0x00 ∷ []))) (require (λ value. Ok value) l (tag.Unknown 65000))) (looked_by (field_value Classic LittleEndian gray_file default_limits) ((65000, (one_short (0x01 ∷ 0x00 ∷ 0x00 ∷ 0x00 ∷ 0x00 ∷ 0x00 ∷ 0x00 ∷ 0x00 ∷ []))) ∷ []))

pub value_missing : s.value_missing
unfolding tiff_on_literals
value_missing =
    ap (λ (l : TagLookup). stays (dec.fields_decoder gray_file []) (require (λ value. Ok value) l (tag.Unknown 65000))) (looked_by (field_value Classic LittleEndian gray_file default_limits) [])

pub number_got : s.number_got
unfolding tiff_on_literals
number_got =
    ap (λ (l : TagLookup). stays (s.one_field (record { field_type = LONG8; count = 1; value = 0x08 ∷ 0x00 ∷ 0x00 ∷ 0x00 ∷ 0x00 ∷ 0x00 ∷ 0x00 ∷ 0x00 ∷ [] })) (get_unsigned 18446744073709551616 l (tag.Unknown 65000))) (looked_by (field_value Classic LittleEndian gray_file default_limits) ((65000, (record { field_type = LONG8; count = 1; value = 0x08 ∷ 0x00 ∷ 0x00 ∷ 0x00 ∷ 0x00 ∷ 0x00 ∷ 0x00 ∷ 0x00 ∷ [] })) ∷ []))

pub number_missing : s.number_missing
unfolding tiff_on_literals
number_missing =
    ap (λ (l : TagLookup). stays (dec.fields_decoder gray_file []) (get_unsigned 18446744073709551616 l (tag.Unknown 65000))) (looked_by (field_value Classic LittleEndian gray_file default_limits) [])

pub u32_got : s.u32_got
unfolding tiff_on_literals
u32_got =
    ap (λ (l : TagLookup). stays (s.one_field (one_short (0x01 ∷ 0x00 ∷ 0x00 ∷ 0x00 ∷ 0x00 ∷ 0x00 ∷ 0x00 ∷ 0x00 ∷ []))) (require into.into_u32 l (tag.Unknown 65000))) (looked_by (field_value Classic LittleEndian gray_file default_limits) ((65000, (one_short (0x01 ∷ 0x00 ∷ 0x00 ∷ 0x00 ∷ 0x00 ∷ 0x00 ∷ 0x00 ∷ 0x00 ∷ []))) ∷ []))

pub u32_too_great : s.u32_too_great
unfolding tiff_on_literals
u32_too_great =
    ap (λ (l : TagLookup). stays (s.one_field (record { field_type = LONG8; count = 1; value = 0x08 ∷ 0x00 ∷ 0x00 ∷ 0x00 ∷ 0x00 ∷ 0x00 ∷ 0x00 ∷ 0x00 ∷ [] })) (require into.into_u32 l (tag.Unknown 65000))) (looked_by (field_value Classic LittleEndian gray_file default_limits) ((65000, (record { field_type = LONG8; count = 1; value = 0x08 ∷ 0x00 ∷ 0x00 ∷ 0x00 ∷ 0x00 ∷ 0x00 ∷ 0x00 ∷ 0x00 ∷ [] })) ∷ []))

pub u64_got : s.u64_got
unfolding tiff_on_literals
u64_got =
    ap (λ (l : TagLookup). stays (s.one_field (record { field_type = LONG8; count = 1; value = 0x08 ∷ 0x00 ∷ 0x00 ∷ 0x00 ∷ 0x00 ∷ 0x00 ∷ 0x00 ∷ 0x00 ∷ [] })) (require into.into_u64 l (tag.Unknown 65000))) (looked_by (field_value Classic LittleEndian gray_file default_limits) ((65000, (record { field_type = LONG8; count = 1; value = 0x08 ∷ 0x00 ∷ 0x00 ∷ 0x00 ∷ 0x00 ∷ 0x00 ∷ 0x00 ∷ 0x00 ∷ [] })) ∷ []))

pub u64_text : s.u64_text
unfolding tiff_on_literals
u64_text =
    ap (λ (l : TagLookup). stays (s.one_field (record { field_type = ASCII; count = 2; value = 0x41 ∷ 0x00 ∷ 0x00 ∷ 0x00 ∷ 0x00 ∷ 0x00 ∷ 0x00 ∷ 0x00 ∷ [] })) (require into.into_u64 l (tag.Unknown 65000))) (looked_by (field_value Classic LittleEndian gray_file default_limits) ((65000, (record { field_type = ASCII; count = 2; value = 0x41 ∷ 0x00 ∷ 0x00 ∷ 0x00 ∷ 0x00 ∷ 0x00 ∷ 0x00 ∷ 0x00 ∷ [] })) ∷ []))

pub f32_got : s.f32_got
unfolding tiff_on_literals
f32_got =
    ap (λ (l : TagLookup). stays (s.one_field (record { field_type = FLOAT; count = 1; value = 0x00 ∷ 0x00 ∷ 0x80 ∷ 0x3f ∷ 0x00 ∷ 0x00 ∷ 0x00 ∷ 0x00 ∷ [] })) (require into.into_f32 l (tag.Unknown 65000))) (looked_by (field_value Classic LittleEndian gray_file default_limits) ((65000, (record { field_type = FLOAT; count = 1; value = 0x00 ∷ 0x00 ∷ 0x80 ∷ 0x3f ∷ 0x00 ∷ 0x00 ∷ 0x00 ∷ 0x00 ∷ [] })) ∷ []))

pub f32_short : s.f32_short
unfolding tiff_on_literals
f32_short =
    ap (λ (l : TagLookup). stays (s.one_field (one_short (0x01 ∷ 0x00 ∷ 0x00 ∷ 0x00 ∷ 0x00 ∷ 0x00 ∷ 0x00 ∷ 0x00 ∷ []))) (require into.into_f32 l (tag.Unknown 65000))) (looked_by (field_value Classic LittleEndian gray_file default_limits) ((65000, (one_short (0x01 ∷ 0x00 ∷ 0x00 ∷ 0x00 ∷ 0x00 ∷ 0x00 ∷ 0x00 ∷ 0x00 ∷ []))) ∷ []))

pub f64_got : s.f64_got
unfolding tiff_on_literals
f64_got =
    ap (λ (l : TagLookup). stays (s.one_field (record { field_type = DOUBLE; count = 1; value = 0x08 ∷ 0x00 ∷ 0x00 ∷ 0x00 ∷ 0x00 ∷ 0x00 ∷ 0x00 ∷ 0x00 ∷ [] })) (require into.into_f64 l (tag.Unknown 65000))) (looked_by (field_value Classic LittleEndian gray_file default_limits) ((65000, (record { field_type = DOUBLE; count = 1; value = 0x08 ∷ 0x00 ∷ 0x00 ∷ 0x00 ∷ 0x00 ∷ 0x00 ∷ 0x00 ∷ 0x00 ∷ [] })) ∷ []))

pub f64_float : s.f64_float
unfolding tiff_on_literals
f64_float =
    ap (λ (l : TagLookup). stays (s.one_field (record { field_type = FLOAT; count = 1; value = 0x00 ∷ 0x00 ∷ 0x80 ∷ 0x3f ∷ 0x00 ∷ 0x00 ∷ 0x00 ∷ 0x00 ∷ [] })) (require into.into_f64 l (tag.Unknown 65000))) (looked_by (field_value Classic LittleEndian gray_file default_limits) ((65000, (record { field_type = FLOAT; count = 1; value = 0x00 ∷ 0x00 ∷ 0x80 ∷ 0x3f ∷ 0x00 ∷ 0x00 ∷ 0x00 ∷ 0x00 ∷ [] })) ∷ []))

pub u32s_got : s.u32s_got
unfolding tiff_on_literals
u32s_got =
    ap (λ (l : TagLookup). stays (s.one_field (record { field_type = LONG; count = 2; value = 0x08 ∷ 0x00 ∷ 0x00 ∷ 0x00 ∷ 0x00 ∷ 0x00 ∷ 0x00 ∷ 0x00 ∷ [] })) (require into.into_u32_vec l (tag.Unknown 65000))) (looked_by (field_value Classic LittleEndian gray_file default_limits) ((65000, (record { field_type = LONG; count = 2; value = 0x08 ∷ 0x00 ∷ 0x00 ∷ 0x00 ∷ 0x00 ∷ 0x00 ∷ 0x00 ∷ 0x00 ∷ [] })) ∷ []))

pub u32s_float : s.u32s_float
unfolding tiff_on_literals
u32s_float =
    ap (λ (l : TagLookup). stays (s.one_field (record { field_type = FLOAT; count = 1; value = 0x00 ∷ 0x00 ∷ 0x80 ∷ 0x3f ∷ 0x00 ∷ 0x00 ∷ 0x00 ∷ 0x00 ∷ [] })) (require into.into_u32_vec l (tag.Unknown 65000))) (looked_by (field_value Classic LittleEndian gray_file default_limits) ((65000, (record { field_type = FLOAT; count = 1; value = 0x00 ∷ 0x00 ∷ 0x80 ∷ 0x3f ∷ 0x00 ∷ 0x00 ∷ 0x00 ∷ 0x00 ∷ [] })) ∷ []))

pub u16s_got : s.u16s_got
unfolding tiff_on_literals
u16s_got =
    ap (λ (l : TagLookup). stays (s.one_field (record { field_type = SHORT; count = 2; value = 0x01 ∷ 0x00 ∷ 0x02 ∷ 0x00 ∷ 0x00 ∷ 0x00 ∷ 0x00 ∷ 0x00 ∷ [] })) (require into.into_u16_vec l (tag.Unknown 65000))) (looked_by (field_value Classic LittleEndian gray_file default_limits) ((65000, (record { field_type = SHORT; count = 2; value = 0x01 ∷ 0x00 ∷ 0x02 ∷ 0x00 ∷ 0x00 ∷ 0x00 ∷ 0x00 ∷ 0x00 ∷ [] })) ∷ []))

pub u16s_rational : s.u16s_rational
unfolding tiff_on_literals
u16s_rational =
    ap (λ (l : TagLookup). stays (s.one_field (record { field_type = RATIONAL; count = 1; value = 0x08 ∷ 0x00 ∷ 0x00 ∷ 0x00 ∷ 0x00 ∷ 0x00 ∷ 0x00 ∷ 0x00 ∷ [] })) (require into.into_u16_vec l (tag.Unknown 65000))) (looked_by (field_value Classic LittleEndian gray_file default_limits) ((65000, (record { field_type = RATIONAL; count = 1; value = 0x08 ∷ 0x00 ∷ 0x00 ∷ 0x00 ∷ 0x00 ∷ 0x00 ∷ 0x00 ∷ 0x00 ∷ [] })) ∷ []))

pub u64s_got : s.u64s_got
unfolding tiff_on_literals
u64s_got =
    ap (λ (l : TagLookup). stays (s.one_field (record { field_type = RATIONAL; count = 1; value = 0x08 ∷ 0x00 ∷ 0x00 ∷ 0x00 ∷ 0x00 ∷ 0x00 ∷ 0x00 ∷ 0x00 ∷ [] })) (require into.into_u64_vec l (tag.Unknown 65000))) (looked_by (field_value Classic LittleEndian gray_file default_limits) ((65000, (record { field_type = RATIONAL; count = 1; value = 0x08 ∷ 0x00 ∷ 0x00 ∷ 0x00 ∷ 0x00 ∷ 0x00 ∷ 0x00 ∷ 0x00 ∷ [] })) ∷ []))

pub u64s_float : s.u64s_float
unfolding tiff_on_literals
u64s_float =
    ap (λ (l : TagLookup). stays (s.one_field (record { field_type = FLOAT; count = 1; value = 0x00 ∷ 0x00 ∷ 0x80 ∷ 0x3f ∷ 0x00 ∷ 0x00 ∷ 0x00 ∷ 0x00 ∷ [] })) (require into.into_u64_vec l (tag.Unknown 65000))) (looked_by (field_value Classic LittleEndian gray_file default_limits) ((65000, (record { field_type = FLOAT; count = 1; value = 0x00 ∷ 0x00 ∷ 0x80 ∷ 0x3f ∷ 0x00 ∷ 0x00 ∷ 0x00 ∷ 0x00 ∷ [] })) ∷ []))

pub f32s_got : s.f32s_got
unfolding tiff_on_literals
f32s_got =
    ap (λ (l : TagLookup). stays (s.one_field (record { field_type = FLOAT; count = 2; value = 0x08 ∷ 0x00 ∷ 0x00 ∷ 0x00 ∷ 0x00 ∷ 0x00 ∷ 0x00 ∷ 0x00 ∷ [] })) (require into.into_f32_vec l (tag.Unknown 65000))) (looked_by (field_value Classic LittleEndian gray_file default_limits) ((65000, (record { field_type = FLOAT; count = 2; value = 0x08 ∷ 0x00 ∷ 0x00 ∷ 0x00 ∷ 0x00 ∷ 0x00 ∷ 0x00 ∷ 0x00 ∷ [] })) ∷ []))

pub f32s_long : s.f32s_long
unfolding tiff_on_literals
f32s_long =
    ap (λ (l : TagLookup). stays (s.one_field (record { field_type = LONG; count = 2; value = 0x08 ∷ 0x00 ∷ 0x00 ∷ 0x00 ∷ 0x00 ∷ 0x00 ∷ 0x00 ∷ 0x00 ∷ [] })) (require into.into_f32_vec l (tag.Unknown 65000))) (looked_by (field_value Classic LittleEndian gray_file default_limits) ((65000, (record { field_type = LONG; count = 2; value = 0x08 ∷ 0x00 ∷ 0x00 ∷ 0x00 ∷ 0x00 ∷ 0x00 ∷ 0x00 ∷ 0x00 ∷ [] })) ∷ []))

pub f64s_got : s.f64s_got
unfolding tiff_on_literals
f64s_got =
    ap (λ (l : TagLookup). stays (s.one_field (record { field_type = DOUBLE; count = 2; value = 0x08 ∷ 0x00 ∷ 0x00 ∷ 0x00 ∷ 0x00 ∷ 0x00 ∷ 0x00 ∷ 0x00 ∷ [] })) (require into.into_f64_vec l (tag.Unknown 65000))) (looked_by (field_value Classic LittleEndian gray_file default_limits) ((65000, (record { field_type = DOUBLE; count = 2; value = 0x08 ∷ 0x00 ∷ 0x00 ∷ 0x00 ∷ 0x00 ∷ 0x00 ∷ 0x00 ∷ 0x00 ∷ [] })) ∷ []))

pub f64s_float : s.f64s_float
unfolding tiff_on_literals
f64s_float =
    ap (λ (l : TagLookup). stays (s.one_field (record { field_type = FLOAT; count = 2; value = 0x08 ∷ 0x00 ∷ 0x00 ∷ 0x00 ∷ 0x00 ∷ 0x00 ∷ 0x00 ∷ 0x00 ∷ [] })) (require into.into_f64_vec l (tag.Unknown 65000))) (looked_by (field_value Classic LittleEndian gray_file default_limits) ((65000, (record { field_type = FLOAT; count = 2; value = 0x08 ∷ 0x00 ∷ 0x00 ∷ 0x00 ∷ 0x00 ∷ 0x00 ∷ 0x00 ∷ 0x00 ∷ [] })) ∷ []))

pub bytes_got : s.bytes_got
unfolding tiff_on_literals
bytes_got =
    ap (λ (l : TagLookup). stays (s.one_field (record { field_type = UNDEFINED; count = 5; value = 0x08 ∷ 0x00 ∷ 0x00 ∷ 0x00 ∷ 0x00 ∷ 0x00 ∷ 0x00 ∷ 0x00 ∷ [] })) (require into.into_u8_vec l (tag.Unknown 65000))) (looked_by (field_value Classic LittleEndian gray_file default_limits) ((65000, (record { field_type = UNDEFINED; count = 5; value = 0x08 ∷ 0x00 ∷ 0x00 ∷ 0x00 ∷ 0x00 ∷ 0x00 ∷ 0x00 ∷ 0x00 ∷ [] })) ∷ []))

pub bytes_inline : s.bytes_inline
unfolding tiff_on_literals
bytes_inline =
    ap (λ (l : TagLookup). stays (s.one_field (record { field_type = BYTE; count = 2; value = 0x01 ∷ 0x02 ∷ 0x00 ∷ 0x00 ∷ 0x00 ∷ 0x00 ∷ 0x00 ∷ 0x00 ∷ [] })) (require into.into_u8_vec l (tag.Unknown 65000))) (looked_by (field_value Classic LittleEndian gray_file default_limits) ((65000, (record { field_type = BYTE; count = 2; value = 0x01 ∷ 0x02 ∷ 0x00 ∷ 0x00 ∷ 0x00 ∷ 0x00 ∷ 0x00 ∷ 0x00 ∷ [] })) ∷ []))

pub text_got : s.text_got
unfolding tiff_on_literals
text_got =
    ap (λ (l : TagLookup). stays (s.one_field (record { field_type = ASCII; count = 2; value = 0x41 ∷ 0x00 ∷ 0x00 ∷ 0x00 ∷ 0x00 ∷ 0x00 ∷ 0x00 ∷ 0x00 ∷ [] })) (require into.into_string l (tag.Unknown 65000))) (looked_by (field_value Classic LittleEndian gray_file default_limits) ((65000, (record { field_type = ASCII; count = 2; value = 0x41 ∷ 0x00 ∷ 0x00 ∷ 0x00 ∷ 0x00 ∷ 0x00 ∷ 0x00 ∷ 0x00 ∷ [] })) ∷ []))

pub text_number : s.text_number
unfolding tiff_on_literals
text_number =
    ap (λ (l : TagLookup). stays (s.one_field (one_short (0x01 ∷ 0x00 ∷ 0x00 ∷ 0x00 ∷ 0x00 ∷ 0x00 ∷ 0x00 ∷ 0x00 ∷ []))) (require into.into_string l (tag.Unknown 65000))) (looked_by (field_value Classic LittleEndian gray_file default_limits) ((65000, (one_short (0x01 ∷ 0x00 ∷ 0x00 ∷ 0x00 ∷ 0x00 ∷ 0x00 ∷ 0x00 ∷ 0x00 ∷ []))) ∷ []))

pub field_got : s.field_got
field_got =
    get-from_entries nat_cmp_total ((65000, (one_short (0x01 ∷ 0x00 ∷ 0x00 ∷ 0x00 ∷ 0x00 ∷ 0x00 ∷ 0x00 ∷ 0x00 ∷ []))) ∷ []) 65000

pub field_none : s.field_none
field_none = get-from_entries nat_cmp_total [] 65000

pub buffer_found : s.buffer_found
unfolding tiff_on_literals
buffer_found =
    ap (λ (f : Option Field). stays (s.one_field (record { field_type = LONG; count = 2; value = 0x08 ∷ 0x00 ∷ 0x00 ∷ 0x00 ∷ 0x00 ∷ 0x00 ∷ 0x00 ∷ 0x00 ∷ [] })) (outcome.field_in_buffer (s.one_field (record { field_type = LONG; count = 2; value = 0x08 ∷ 0x00 ∷ 0x00 ∷ 0x00 ∷ 0x00 ∷ 0x00 ∷ 0x00 ∷ 0x00 ∷ [] })) (empty_buffer BYTE) f)) (get-from_entries nat_cmp_total ((65000, (record { field_type = LONG; count = 2; value = 0x08 ∷ 0x00 ∷ 0x00 ∷ 0x00 ∷ 0x00 ∷ 0x00 ∷ 0x00 ∷ 0x00 ∷ [] })) ∷ []) 65000)

pub buffer_none : s.buffer_none
unfolding tiff_on_literals
buffer_none =
    ap (λ (f : Option Field). stays (dec.fields_decoder gray_file []) (outcome.field_in_buffer (dec.fields_decoder gray_file []) (empty_buffer BYTE) f)) (get-from_entries nat_cmp_total [] 65000)

pub slice_from_4 : s.slice_from_4
unfolding tiff_on_literals
slice_from_4 =
    ap (λ (f : Option Field). stays (s.one_field (record { field_type = LONG; count = 2; value = 0x08 ∷ 0x00 ∷ 0x00 ∷ 0x00 ∷ 0x00 ∷ 0x00 ∷ 0x00 ∷ 0x00 ∷ [] })) (outcome.bytes_in_slice (s.one_field (record { field_type = LONG; count = 2; value = 0x08 ∷ 0x00 ∷ 0x00 ∷ 0x00 ∷ 0x00 ∷ 0x00 ∷ 0x00 ∷ 0x00 ∷ [] })) (0xaa ∷ 0xaa ∷ 0xaa ∷ 0xaa ∷ 0xaa ∷ 0xaa ∷ []) 4 f)) (get-from_entries nat_cmp_total ((65000, (record { field_type = LONG; count = 2; value = 0x08 ∷ 0x00 ∷ 0x00 ∷ 0x00 ∷ 0x00 ∷ 0x00 ∷ 0x00 ∷ 0x00 ∷ [] })) ∷ []) 65000)

pub slice_from_8 : s.slice_from_8
unfolding tiff_on_literals
slice_from_8 =
    ap (λ (f : Option Field). stays (s.one_field (record { field_type = LONG; count = 2; value = 0x08 ∷ 0x00 ∷ 0x00 ∷ 0x00 ∷ 0x00 ∷ 0x00 ∷ 0x00 ∷ 0x00 ∷ [] })) (outcome.bytes_in_slice (s.one_field (record { field_type = LONG; count = 2; value = 0x08 ∷ 0x00 ∷ 0x00 ∷ 0x00 ∷ 0x00 ∷ 0x00 ∷ 0x00 ∷ 0x00 ∷ [] })) (0xaa ∷ 0xaa ∷ 0xaa ∷ 0xaa ∷ 0xaa ∷ 0xaa ∷ []) 8 f)) (get-from_entries nat_cmp_total ((65000, (record { field_type = LONG; count = 2; value = 0x08 ∷ 0x00 ∷ 0x00 ∷ 0x00 ∷ 0x00 ∷ 0x00 ∷ 0x00 ∷ 0x00 ∷ [] })) ∷ []) 65000)

pub slice_none : s.slice_none
unfolding tiff_on_literals
slice_none =
    ap (λ (f : Option Field). stays (dec.fields_decoder gray_file []) (outcome.bytes_in_slice (dec.fields_decoder gray_file []) (0xaa ∷ 0xaa ∷ 0xaa ∷ 0xaa ∷ 0xaa ∷ 0xaa ∷ []) 4 f)) (get-from_entries nat_cmp_total [] 65000)

pub ruleset worked = (
  value_found,
  value_none,
  unsigned_found,
  unsigned_text,
  unsigned_list,
  unsigned_float,
  value_got,
  value_missing,
  number_got,
  number_missing,
  u32_got,
  u32_too_great,
  u64_got,
  u64_text,
  f32_got,
  f32_short,
  f64_got,
  f64_float,
  u32s_got,
  u32s_float,
  u16s_got,
  u16s_rational,
  u64s_got,
  u64s_float,
  f32s_got,
  f32s_long,
  f64s_got,
  f64s_float,
  bytes_got,
  bytes_inline,
  text_got,
  text_number,
  field_got,
  field_none,
  buffer_found,
  buffer_none,
  slice_from_4,
  slice_from_8,
  slice_none,
)
