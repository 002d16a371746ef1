-- Worked examples of pages whose samples come tile by tile.
use Rattle.std.specs.Prelude.{◌≡◌, [], ◌∷◌, false, Ok, Err}
use Rattle.tiff_base.specs.declared.error.TiffError.TheVariants.{UsageError}
use Rattle.tiff_base.specs.declared.error.UsageError.TheVariants.{MismatchedEntryLength}
use Rattle.tiff_base.specs.declared.tags.PlanarConfiguration.TheVariants.{Chunky}
use Rattle.tiff_base.specs.declared.tags.«Type».TheVariants.{SHORT}
use Rattle.tiff_value.specs.declared.encoder.colortype.ColorTypeName.TheVariants.{Gray8, Gray16}
use Rattle.tiff_ffi.specs.declared.pages.NewPage.{NewPage}
use Rattle.tiff_ffi.specs.declared.pages.PageNames.{PageNames}
use Rattle.tiff_ffi.specs.Pages.{are_tiles, finishes, in_planes, pieces, tile_step, tiles_of, with_rows, with_tiles, write_chunk, writes}

-- mistake: `tiles_of` leaves out tiles that the image doesn't fill
abbrev pub two_tiles : Type 0
two_tiles =
    (page : NewPage) (names : PageNames)
    → tiles_of (record page { width = 20; height = 10; tile_width = 16; tile_length = 16 })
    (record names { planar = Chunky })
    ≡ 2

-- mistake: `are_tiles` takes a page without tiles and without samples for one that has all its tiles
abbrev pub untiled : Type 0
untiled =
    (page : NewPage) (names : PageNames)
    → are_tiles (record page { tile_width = 0 }) names ≡ false

-- mistake: `pieces` begins each piece at its number
abbrev pub three_pieces : Type 0
three_pieces =
    pieces 3 2 (1 ∷ 2 ∷ 3 ∷ 4 ∷ 5 ∷ 6 ∷ []) ≡ (1 ∷ 2 ∷ []) ∷ (3 ∷ 4 ∷ []) ∷ (5 ∷ 6 ∷ []) ∷ []

-- mistake: `with_tiles` puts the tiles in front of the settings
abbrev pub by_tiles : Type 0
by_tiles =
    with_tiles Gray8 ((1 ∷ []) ∷ (2 ∷ []) ∷ []) (in_planes ∷ [])
    ≡ Ok (in_planes ∷ write_chunk (1 ∷ []) ∷ write_chunk (2 ∷ []) ∷ [], finishes)

abbrev pub by_rows : Type 0
by_rows =
    with_rows Gray8 (1 ∷ 2 ∷ []) (in_planes ∷ []) ≡ Ok (in_planes ∷ [], writes (1 ∷ 2 ∷ []))

-- mistake: `tile_step` drops a part of a sample
abbrev pub half_a_sample : Type 0
half_a_sample = tile_step Gray16 (1 ∷ []) ≡ Err (UsageError (MismatchedEntryLength SHORT 1))
