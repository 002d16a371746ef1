-- The number of chunks.
use Rattle.std.specs.Prelude.{ℕ, ◌+◌, ◌-◌, ◌*◌, ◌/◌, ◌^◌, Result, Ok, Err, if◌then◌else◌, nat_lt}
use Rattle.tiff_base.specs.declared.color.ChunkType.{ChunkType}
use Rattle.tiff_base.specs.declared.color.ChunkType.TheVariants.{Strip, Tile}
use Rattle.tiff_base.specs.declared.error.TiffError.{TiffError}
use Rattle.tiff_base.specs.declared.error.TiffError.TheVariants.{UsageError, IntSizeError}
use Rattle.tiff_base.specs.declared.error.UsageError.TheVariants.{InvalidChunkType}
use Rattle.tiff_base.specs.declared.tags.PlanarConfiguration.{PlanarConfiguration}
use Rattle.tiff_base.specs.declared.tags.PlanarConfiguration.TheVariants.{Chunky, Planar}
use Rattle.tiff_page.specs.Page.{PageRecord}

-- how many parts of a size cover a length
abbrev pub parts : ℕ → ℕ → ℕ
parts length size = (length + size - 1) / size

-- the number of chunks of all planes
abbrev pub chunk_count : ℕ → ℕ → ℕ → ℕ → ℕ → ℕ
chunk_count width height chunk_width chunk_height planes =
    parts width chunk_width * parts height chunk_height * planes

-- how often chunks cover the image
abbrev pub planes_of : PlanarConfiguration → ℕ → ℕ
planes_of Chunky samples = 1
planes_of Planar samples = samples

-- the number of chunks of all planes of a page
abbrev pub all_chunks : PageRecord → ℕ
all_chunks p =
    chunk_count p.width p.height p.chunk_width p.chunk_height (planes_of p.planar p.samples)

-- the width and the height of a chunk as the tags define them, not cut to the image
abbrev pub chunk_dimensions : PageRecord → ℕ × ℕ
chunk_dimensions p = (p.chunk_width, p.chunk_height)

-- the number of strips of all planes; the height plus the rows of a strip, less one, is below 2^32
-- (as in the Rust crate)
abbrev pub strips_from : ChunkType → PageRecord → Result ℕ TiffError
strips_from Strip p = if nat_lt (p.height + p.chunk_height - 1) (2 ^ 32) then Ok (all_chunks p)
    else Err IntSizeError
strips_from Tile p = Err (UsageError (InvalidChunkType Strip Tile))

unfoldable pub strip_count : PageRecord → Result ℕ TiffError
strip_count p = strips_from p.chunk_type p

-- the number of tiles of all planes
abbrev pub tiles_from : ChunkType → PageRecord → Result ℕ TiffError
tiles_from Tile p = Ok (all_chunks p)
tiles_from Strip p = Err (UsageError (InvalidChunkType Tile Strip))

unfoldable pub tile_count : PageRecord → Result ℕ TiffError
tile_count p = tiles_from p.chunk_type p
