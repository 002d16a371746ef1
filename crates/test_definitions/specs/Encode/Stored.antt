-- Worked examples of images in tiles and in separate planes (TIFF 6.0 section 15;
-- PlanarConfiguration).
use Rattle.std.specs.Prelude.{◌≡◌, ℕ, ◌%◌, true, List, [], ◌∷◌, ◌++◌, map, take, replicate, get_or, None, Ok, Err}
use Rattle.std.specs.List.{range_with_len}
use Rattle.tiff_base.specs.declared.color.ColorType.TheVariants.{Gray}
use Rattle.tiff_base.specs.declared.error.TiffError.TheVariants.{LimitsExceeded}
use Rattle.tiff_base.specs.declared.tags.ByteOrder.TheVariants.{LittleEndian}
use Rattle.tiff_base.specs.declared.tags.FileKind.TheVariants.{Classic}
use Rattle.tiff_base.specs.declared.tags.PhotometricInterpretation.TheVariants.{BlackIsZero}
use Rattle.tiff_base.specs.declared.tags.PlanarConfiguration.TheVariants.{Chunky, Planar}
use Rattle.tiff_base.specs.declared.tags.Predictor.TheVariants as predictor
use Rattle.tiff_base.specs.declared.tags.SampleFormat.TheVariants.{Uint}
use Rattle.tiff_base.specs.declared.tags.Tag.TheVariants as tag
use Rattle.tiff_value.specs.Data.{u16s, u32s, formats}
use Rattle.tiff_value.specs.ColorType.{ColorTypeRecord}
use Rattle.tiff_ifd.specs.Limits.{unlimited}
use Rattle.tiff_page.specs.Page.{PageRecord}
use Rattle.tiff_page.specs.Counts.{all_chunks}
use Rattle.tiff_page.specs.Layout.{color_of}
use Rattle.tiff_page.specs.PixelCalls.{image_of}
use Rattle.tiff_encode.specs.declared.encoder.settings.Compression.TheVariants.{Packbits}
use Rattle.tiff_encode.specs.Machine.{OpenImage}
use Rattle.tiff_encode.specs.Chunks.{image_page, next_chunk_sample_count, parts_left, sample_in}
use Rattle.tiff_encode.specs.Calls as calls
use Rattle.tiff_encode.specs.Calls.{new_directory, image_in, with_chunk, strips_of, tiles_of}
use Rattle.tiff_encode.specs.Stored.{unpacked_chunk}
use Rattle.test_definitions.specs.OneValue.{short_field, long_field}
use Rattle.test_definitions.specs.Encode.Causes.{new_file, gray, rgb}
use Rattle.test_definitions.specs.Encode.Calls.{IsSeen, header, with_fields}

-- ---- tiles of 16 by 16 of a gray image of 20 by 20

abbrev pub tiled : OpenImage
tiled = record (image_in (new_file Classic) (new_directory None true) gray 1 20 20)
    { form = tiles_of 16 16 Chunky }

-- the samples of the image: 20 * y + x in row y and column x, modulo 256
abbrev pub numbers : List ℕ
numbers = map (λ n. n % 256) (range_with_len 0 400)

-- four tiles of 256 samples each, also at the edges, and none after the last
abbrev pub four_tiles : Type 0
four_tiles = all_chunks (image_page tiled) ≡ 4

abbrev pub first_count : Type 0
first_count = next_chunk_sample_count tiled ≡ 256

-- mistake: `chunk_rows` clips tiles at the edges
abbrev pub last_count : Type 0
last_count =
    next_chunk_sample_count (with_chunk (with_chunk (with_chunk tiled 24 256) 280 256) 536 256)
    ≡ 256

-- mistake: `chunks_left` counts one more than there are
abbrev pub no_count : Type 0
no_count =
    next_chunk_sample_count
    (with_chunk (with_chunk (with_chunk (with_chunk tiled 24 256) 280 256) 536 256) 792 256) ≡ 0

-- mistake: `cut_out` pads with the next row's samples
-- `write_data` writes 16 to 19 and twelve zeros in the first row of tile 1, and 80 to 83 in that of
-- tile 3
abbrev pub tile_1 : Type 0
tile_1 = take 17 (get_or (parts_left tiled numbers) 1 [])
    ≡ (0x10 ∷ 0x11 ∷ 0x12 ∷ 0x13 ∷ replicate 12 0) ++ (0x24 ∷ [])

abbrev pub tile_3 : Type 0
tile_3 = take 16 (get_or (parts_left tiled numbers) 3 []) ≡ 0x50 ∷ 0x51 ∷ 0x52 ∷ 0x53
    ∷ replicate 12 0

-- the tiles show each sample of the image, and no padding
abbrev pub shown_here : ℕ → ℕ → ℕ
shown_here x y = sample_in (image_page tiled) (parts_left tiled numbers) x y 0

abbrev pub shown_corner : Type 0
shown_corner = shown_here 0 0 ≡ 0

-- mistake: `sample_in` takes the image's column for the chunk's
abbrev pub shown_edge : Type 0
shown_edge = shown_here 19 0 ≡ 19

abbrev pub shown_below : Type 0
shown_below = shown_here 3 17 ≡ 87

abbrev pub shown_last : Type 0
shown_last = shown_here 19 19 ≡ 143

-- mistake: `last_tags` takes strips for tiles
-- the tags at the image's end
abbrev pub tiled_tags : Type 0
tiled_tags = calls.last_tags Classic (with_chunk (with_chunk tiled 24 256) 280 256)
    ≡ (tag.BitsPerSample, u16s (8 ∷ [])) ∷ (tag.SampleFormat, formats (Uint ∷ []))
    ∷ (tag.TileOffsets, u32s (24 ∷ 280 ∷ [])) ∷ (tag.TileByteCounts, u32s (256 ∷ 256 ∷ [])) ∷ []

-- mistake: `tiles` keeps RowsPerStrip
-- the call that sets tiles writes their dimensions, and removes the rows per strip
abbrev pub tiles_set : Type 0
tiles_set =
    IsSeen (calls.tiles
    (image_in (new_file Classic)
    (with_fields (new_directory None true) ((278, long_field 5) ∷ [])) gray 1 20 20) 32
    16 (new_file Classic))
    (Ok (record (image_in (new_file Classic) (calls.without_field
    (with_fields (new_directory None true)
    ((323, long_field 16) ∷ (322, long_field 32) ∷ (278, long_field 5) ∷ []))
    tag.RowsPerStrip) gray 1 20 20)
    { form = tiles_of 32 16 Chunky })) header

-- ---- planes of RGB of 2 by 1, in strips

abbrev pub planar : OpenImage
planar = record (image_in (new_file Classic) (new_directory None true) rgb 1 2 1)
    { form = strips_of 2 1 Planar }

abbrev pub three_planes : Type 0
three_planes = all_chunks (image_page planar) ≡ 3

-- mistake: `row_samples` counts all samples in a separate plane
abbrev pub plane_count : Type 0
plane_count = next_chunk_sample_count planar ≡ 2

-- mistake: `is_in_order` counts planes as in order
-- each strip has the samples of one plane
abbrev pub planes : Type 0
planes = parts_left planar (1 ∷ 2 ∷ 3 ∷ 4 ∷ 5 ∷ 6 ∷ []) ≡ (1 ∷ 4 ∷ []) ∷ (2 ∷ 5 ∷ []) ∷ (3 ∷ 6 ∷ [])
    ∷ []

-- differences are within a plane
abbrev pub plane_bytes : Type 0
plane_bytes = map (unpacked_chunk planar) (parts_left planar (1 ∷ 2 ∷ 3 ∷ 4 ∷ 5 ∷ 6 ∷ []))
    ≡ (1 ∷ 4 ∷ []) ∷ (2 ∷ 5 ∷ []) ∷ (3 ∷ 6 ∷ []) ∷ []

abbrev pub plane_differences : Type 0
plane_differences =
    map (unpacked_chunk (record planar { predictor = predictor.Horizontal }))
    (parts_left planar (1 ∷ 2 ∷ 3 ∷ 4 ∷ 5 ∷ 6 ∷ []))
    ≡ (1 ∷ 3 ∷ []) ∷ (2 ∷ 3 ∷ []) ∷ (3 ∷ 3 ∷ []) ∷ []

-- the third sample of the second pixel is shown
abbrev pub plane_shown : Type 0
plane_shown = sample_in (image_page planar) ((1 ∷ 4 ∷ []) ∷ (2 ∷ 5 ∷ []) ∷ (3 ∷ 6 ∷ []) ∷ []) 1 0 2
    ≡ 6

abbrev pub planar_tags : Type 0
planar_tags = calls.last_tags Classic (with_chunk (with_chunk (with_chunk planar 24 2) 26 2) 28 2)
    ≡ (tag.BitsPerSample, u16s (8 ∷ 8 ∷ 8 ∷ []))
    ∷ (tag.SampleFormat, formats (Uint ∷ Uint ∷ Uint ∷ []))
    ∷ (tag.StripOffsets, u32s (24 ∷ 26 ∷ 28 ∷ [])) ∷ (tag.StripByteCounts, u32s (2 ∷ 2 ∷ 2 ∷ []))
    ∷ []

-- mistake: `planar` forgets the planes
abbrev pub planar_set : Type 0
planar_set =
    IsSeen (calls.planar (image_in (new_file Classic) (new_directory None true) rgb 1 2 1)
    (new_file Classic))
    (Ok (record (image_in (new_file Classic)
    (with_fields (new_directory None true) ((284, short_field 2) ∷ [])) rgb 1 2 1)
    { form = strips_of 2 (calls.default_rows (new_file Classic).compression 6) Planar }))
    header

-- ---- planes in tiles: RGB of 20 by 20 in tiles of 16 by 16

abbrev pub tiled_planes : OpenImage
tiled_planes =
    record (image_in (new_file Classic) (new_directory None true) rgb 1 20 20)
    { form = tiles_of 16 16 Planar }

abbrev pub twelve_tiles : Type 0
twelve_tiles = all_chunks (image_page tiled_planes) ≡ 12

abbrev pub tile_count : Type 0
tile_count = next_chunk_sample_count tiled_planes ≡ 256

-- a pixel in column x and row y has the sample 3 * (20 * y + x) and the two following numbers,
-- modulo 256
abbrev pub colors : List ℕ
colors = map (λ n. n % 256) (range_with_len 0 1200)

-- tile 5 is the second tile of the second plane: its first row has the second samples of the
-- columns 16 to 19
abbrev pub tile_5 : Type 0
tile_5 = take 17 (get_or (parts_left tiled_planes colors) 5 [])
    ≡ (49 ∷ 52 ∷ 55 ∷ 58 ∷ replicate 12 0) ++ (109 ∷ [])

abbrev pub tile_shown : Type 0
tile_shown = sample_in (image_page tiled_planes) (parts_left tiled_planes colors) 17 1 1 ≡ 112

abbrev pub planes_tags : Type 0
planes_tags = map (λ t. t.0) (calls.last_tags Classic tiled_planes) ≡ tag.BitsPerSample
    ∷ tag.SampleFormat ∷ tag.TileOffsets ∷ tag.TileByteCounts ∷ []

-- ---- an image that is too large to be read whole, but has a color type

-- a row of 2147483649 2-byte numbers, in one strip of 4294967295 rows
abbrev pub gray_16 : ColorTypeRecord
gray_16 = record { interpretation = BlackIsZero; bits = 16 ∷ []; formats = Uint ∷ [] }

abbrev pub wide : PageRecord
wide = image_page
    (record (image_in (new_file Classic) (new_directory None true) gray_16 2 2147483649 1)
    { compression = Packbits; form = strips_of 2147483649 4294967295 Chunky })

abbrev pub wide_color : Type 0
wide_color = color_of wide ≡ Ok (Gray 16)

abbrev pub wide_unread : Type 0
wide_unread = (file : List ℕ) → image_of file LittleEndian wide unlimited ≡ Err LimitsExceeded
