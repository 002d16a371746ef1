-- The worked examples of `Base.Directory` hold.
use Rattle.std.specs.Prelude.{reverse, ◌∷◌, []}
use Rattle.std.specs.Cmp.{nat_cmp_total}
use Rattle.std.specs.FinMap.{get-from_entries}
use Rattle.test_definitions.specs.Files.{gray_entries, one_long}
use Rattle.test_definitions.proofs.Maps.{len_puts}
use Rattle.test_definitions.specs.Base.Directory as s
use Rattle.tiff.proofs.OnLiterals.{tiff_on_literals}

pub last_stands : s.last_stands
unfolding tiff_on_literals
last_stands = get-from_entries nat_cmp_total (reverse s.twice_entries) 256

pub one_stands : s.one_stands
unfolding tiff_on_literals
one_stands = len_puts (reverse s.twice_entries)

pub first_stands : s.first_stands
unfolding tiff_on_literals
first_stands =
    get-from_entries nat_cmp_total ((256, one_long (1 ∷ 0 ∷ 0 ∷ 0 ∷ 0 ∷ 0 ∷ 0 ∷ 0 ∷ [])) ∷ []) 256

pub gray_14 : s.gray_14
unfolding tiff_on_literals
gray_14 = len_puts (reverse gray_entries)

pub gray_rows : s.gray_rows
unfolding tiff_on_literals
gray_rows = get-from_entries nat_cmp_total (reverse gray_entries) 278

pub gray_artist : s.gray_artist
unfolding tiff_on_literals
gray_artist = get-from_entries nat_cmp_total (reverse gray_entries) 315

pub ruleset worked = (last_stands, one_stands, first_stands, gray_14, gray_rows, gray_artist)
