-- The worked examples of `Base.SourceAndSink` hold.
use Rattle.std.specs.Prelude.{◌≡◌, ℕ, List, [], ◌∷◌, reverse}
use Rattle.std.proofs.Common.{ap, arith}
use Rattle.std.specs.Ordering.{nat_cmp}
use Rattle.std.specs.Cmp.{nat_cmp_total}
use Rattle.std.specs.FinMap.{find, get, from_entries, get-from_entries}
use Rattle.tiff_base.specs.declared.tags.ByteOrder.TheVariants.{LittleEndian, BigEndian}
use Rattle.tiff_base.specs.declared.tags.FileKind.TheVariants.{Classic}
use Rattle.tiff_base.specs.Field.{Field}
use Rattle.tiff_ifd.specs.Limits.{unlimited}
use Rattle.tiff_ifd.specs.FieldValue.{field_value}
use Rattle.tiff_ifd.specs.TagLookup.{if_found}
use Rattle.test_definitions.specs.Base.SourceAndSink as s
use Rattle.tiff.proofs.OnLiterals.{tiff_on_literals}

-- a look-up in fields that are made from a list is a search in that list
by_list : (fields : List (ℕ × Field)) (q : ℕ)
    → get (from_entries {R = nat_cmp} fields) q ≡ find nat_cmp q fields
by_list = get-from_entries nat_cmp_total

pub no_octets : s.no_octets
no_octets = λ h. omega (arith, h 0)

pub look_big_endian : s.look_big_endian
unfolding tiff_on_literals
look_big_endian =
    ap (if_found (field_value Classic BigEndian [] unlimited)) (by_list (reverse s.short_field) 258)

pub look_placed : s.look_placed
unfolding tiff_on_literals
look_placed =
    ap (if_found (field_value Classic LittleEndian (0x08 ∷ 0x00 ∷ 0x08 ∷ 0x00 ∷ 0x08 ∷ 0x00
    ∷ []) unlimited)) (by_list (reverse s.shorts_field) 258)

pub look_limited : s.look_limited
unfolding tiff_on_literals
look_limited =
    ap (if_found (field_value Classic LittleEndian (0x08 ∷ 0x00 ∷ 0x08 ∷ 0x00 ∷ 0x08 ∷ 0x00
    ∷ []) (s.limited 95))) (by_list (reverse s.shorts_field) 258)

pub ruleset worked = (no_octets, look_big_endian, look_placed, look_limited)
