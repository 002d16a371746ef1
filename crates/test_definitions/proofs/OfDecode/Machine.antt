-- The worked examples of `Decode.Machine` hold.
use Rattle.std.specs.Prelude.{[], ◌∷◌, reverse, Some, None, true, false, Ok}
use Rattle.std.proofs.Common.{ap}
use Rattle.std.specs.FinMap.{from_entries}
use Rattle.tiff_base.specs.declared.tags.ByteOrder.TheVariants.{LittleEndian}
use Rattle.tiff_base.specs.declared.tags.FileKind.TheVariants.{Classic}
use Rattle.tiff_base.specs.Answers.{◌>>=◌}
use Rattle.tiff_ifd.specs.FieldValue.{field_value}
use Rattle.tiff_ifd.specs.TagLookup.{TagLookup}
use Rattle.tiff_page.specs.Checks.{page_of}
use Rattle.tiff_decode.specs.Outcome.{with_page}
use Rattle.tiff_decode.specs.DefaultLimits.{default_limits}
use Rattle.test_definitions.specs.Files.{gray_file, gray_entries}
use Rattle.test_definitions.specs.Decoders.{at, gray_state, gray_fields, gray_decoder, two_decoder, two_file, three_decoder, three_file}
use Rattle.test_definitions.specs.Decode.Machine as s
use Rattle.test_definitions.proofs.OfDecode.Outcome.{looked_by}
use Rattle.tiff.proofs.OnLiterals.{tiff_on_literals}

pub gray_begins : s.gray_begins
unfolding tiff_on_literals
gray_begins =
    ap (λ (l : TagLookup). page_of l >>= λ page. Ok (record gray_decoder { failures = 3; state = record gray_state { page = page } }))
    (looked_by (field_value Classic LittleEndian gray_file default_limits) (reverse gray_entries))

pub next_bare : s.next_bare
unfolding tiff_on_literals
next_bare =
    ap (λ (l : TagLookup). with_page (record (two_decoder []).state { pointer = Some (at 199); more = false }) (record { entries = from_entries []; next = None }) (page_of l))
    (looked_by (field_value Classic LittleEndian (two_file (0 ∷ 0 ∷ 0 ∷ 0 ∷ [])) default_limits) [])

pub seek_1 : s.seek_1
unfolding tiff_on_literals
seek_1 =
    ap (λ (l : TagLookup). with_page (record three_decoder.state { pointer = Some (at 14); more = true }) (record { entries = from_entries []; next = Some 20 }) (page_of l))
    (looked_by (field_value Classic LittleEndian three_file default_limits) [])

pub seek_0 : s.seek_0
unfolding tiff_on_literals
seek_0 =
    ap (λ (l : TagLookup). with_page (record gray_state { page = record gray_state.page { width = 9 } }) gray_fields (page_of l))
    (looked_by (field_value Classic LittleEndian gray_file default_limits) (reverse gray_entries))

pub ruleset worked = (gray_begins, next_bare, seek_1, seek_0)
