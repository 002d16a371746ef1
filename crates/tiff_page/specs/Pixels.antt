-- The samples of a page: where they are in the file, and what they are (TIFF 6.0 sections 2, 8, 9,
-- 14; supplement 3).
use Rattle.std.specs.Prelude.{ℕ, ◌+◌, ◌-◌, ◌*◌, ◌/◌, ◌%◌, ◌^◌, Bool, true, false, ◌&&◌, ◌||◌, ◌==◌, if◌then◌else◌, nat_lt, List, map, length, slice_index, sum_by, Option, Some, None, unwrap_or}
use Rattle.std.specs.Int.{Width, w8, w16, w32, w64, div_ceil}
use Rattle.std.specs.List.{range_with_len}
use Rattle.tiff_base.specs.declared.color.ColorType.{ColorType}
use Rattle.tiff_base.specs.declared.tags.ByteOrder.{ByteOrder}
use Rattle.tiff_base.specs.declared.tags.ByteOrder.TheVariants.{LittleEndian, BigEndian}
use Rattle.tiff_base.specs.declared.tags.PhotometricInterpretation.{PhotometricInterpretation}
use Rattle.tiff_base.specs.declared.tags.PhotometricInterpretation.TheVariants as meaning
use Rattle.tiff_base.specs.declared.tags.PlanarConfiguration.{PlanarConfiguration}
use Rattle.tiff_base.specs.declared.tags.PlanarConfiguration.TheVariants.{Chunky, Planar}
use Rattle.tiff_base.specs.declared.tags.Predictor.{Predictor}
use Rattle.tiff_base.specs.declared.tags.Predictor.TheVariants as predictor
use Rattle.tiff_base.specs.Number.{number, sample_sum}
use Rattle.tiff_base.specs.SourceAndSink.{bytes_at}
use Rattle.tiff_page.specs.Page.{PageRecord}
use Rattle.tiff_page.specs.Rect.{across, chunks_of_plane, rect, chunk_of_pixel}
use Rattle.tiff_page.specs.Layout.{samples_in_chunk, row_bytes}
use Rattle.tiff_page.specs.Methods.{data_by_method}

-- the list f 0, f 1, .. below n
abbrev pub tabulate : {A : Type 0} → ℕ → (ℕ → A) → List A
tabulate n f = map f (range_with_len 0 n)

-- a number of one, two, four or eight bytes
abbrev pub width_of : ℕ → Width
width_of size = if size == 1 then w8 else if size == 2 then w16 else if size == 4 then w32 else w64

abbrev pub planar_or : {A : Type 0} → PlanarConfiguration → A → A → A
planar_or Planar x y = x
planar_or Chunky x y = y

-- how many samples of a pixel a chunk stores: all in a chunky page, one in a planar page
abbrev pub stored_samples : PageRecord → ℕ
stored_samples p = planar_or p.planar 1 p.samples

-- the number of bytes of a stored row of a chunk
abbrev pub stored_row_bytes : PageRecord → ℕ
stored_row_bytes p = (p.chunk_width * p.depth * stored_samples p + 7) / 8

abbrev pub is_byte_plane : Predictor → Bool
is_byte_plane predictor.FloatingPoint = true
is_byte_plane _ = false

-- whether the output needs whole stored rows: with the byte-plane predictor, or if samples are
-- dropped
abbrev pub needs_whole_rows : PageRecord → ColorType → Bool
needs_whole_rows p color =
    is_byte_plane p.predictor || nat_lt (samples_in_chunk p.planar color) (stored_samples p)

-- how many bytes of a stored row are read to output `len` bytes: all with the byte-plane predictor,
-- or if samples are dropped
abbrev pub needed_of_row : PageRecord → ColorType → ℕ → ℕ
needed_of_row p color len = if needs_whole_rows p color then stored_row_bytes p else len

-- how many bytes are needed of a chunk: all rows of its part of the image, and of the last row only
-- what is read of it
abbrev pub needed_bytes : PageRecord → ColorType → ℕ → ℕ
needed_bytes p color i =
    ((rect p i).height - 1) * stored_row_bytes p
    + needed_of_row p color (row_bytes p color (rect p i).width)

-- the number of bytes of a number
abbrev pub number_size : PageRecord → ℕ
number_size p = p.depth / 8

-- which number of its row a sample of a pixel is
abbrev pub in_row : PageRecord → ℕ → ℕ → ℕ
in_row p column sample = column * stored_samples p + sample

-- ---- the numbers of a row, from its bytes

-- number k of a row of numbers of `size` bytes
abbrev pub row_number : ByteOrder → ℕ → List ℕ → ℕ → ℕ
row_number order size row k =
    number order (width_of size) (tabulate size (λ j. slice_index row (k * size + j)))

-- number k of a row with the horizontal predictor, with `stored` numbers for each pixel
abbrev pub summed_number : ByteOrder → ℕ → ℕ → List ℕ → ℕ → ℕ
summed_number order size stored row k = sample_sum (256 ^ size) stored (row_number order size row) k

-- byte k of a row with the byte-plane predictor: the sum with the bytes before it that are whole
-- pixels away
abbrev pub summed_byte : ℕ → List ℕ → ℕ → ℕ
summed_byte stored row k =
    sum_by (λ n. slice_index row (k - n * stored)) (range_with_len 0 (k / stored + 1)) % 256

-- number k of a row of `count` numbers with the byte-plane predictor: its most significant byte is
-- in the first part of the row, the next byte in the second part, and so on
abbrev pub joined_number : ℕ → ℕ → ℕ → List ℕ → ℕ → ℕ
joined_number size stored count row k =
    number BigEndian (width_of size) (tabulate size (λ j. summed_byte stored row (j * count + k)))

-- number k of a row of a chunk, with its predictor undone
abbrev pub number_by : Predictor → ByteOrder → PageRecord → List ℕ → ℕ → ℕ
number_by predictor.None order p row k = row_number order (number_size p) row k
number_by predictor.Horizontal order p row k =
    summed_number order (number_size p) (stored_samples p) row k
number_by predictor.FloatingPoint order p row k =
    joined_number (number_size p) (stored_samples p) (p.chunk_width * stored_samples p) row k

abbrev pub number_of_row : ByteOrder → PageRecord → List ℕ → ℕ → ℕ
number_of_row order p row k = number_by p.predictor order p row k

-- ---- output numbers

-- the output number of a stored number below a limit
abbrev pub shown_number : PhotometricInterpretation → ℕ → ℕ → ℕ
shown_number meaning.WhiteIsZero limit v = limit - 1 - v
shown_number _ limit v = v

-- a part of the image that is read: a rectangle, its first plane, and, if it is a chunk's, the
-- index of the chunk in a plane
pub record Region : Type 0 where
  pub x : ℕ
  pub y : ℕ
  pub width : ℕ
  pub height : ℕ
  pub plane : ℕ
  pub chunk : Option ℕ

abbrev pub image_region : PageRecord → Region
image_region p =
    record { x = 0; y = 0; width = p.width; height = p.height; plane = 0; chunk = None }

abbrev pub chunk_region : PageRecord → ℕ → Region
chunk_region p i =
    let r = rect p i in
    record {
      x = r.x;
      y = r.y;
      width = r.width;
      height = r.height;
      plane = r.plane;
      chunk = Some (i % chunks_of_plane p);
    }

-- a file, its byte order, and a page of it
module _ (file : List ℕ) (order : ByteOrder) (p : PageRecord) where
  -- the data of a chunk
  abbrev pub chunk_data : ℕ → List ℕ
  chunk_data i =
      data_by_method file p.method (slice_index p.offsets i) (slice_index p.byte_counts i)

  -- the bytes of a row of a chunk as the file stores them
  abbrev pub stored_row : ℕ → ℕ → List ℕ
  stored_row i row = bytes_at (chunk_data i) (row * stored_row_bytes p) (stored_row_bytes p)

  -- the data of a chunk are too few
  abbrev pub is_short : ColorType → ℕ → Bool
  is_short color i = nat_lt (length (chunk_data i)) (needed_bytes p color i)

  -- the stored number of a sample of a pixel
  abbrev pub stored_number : ℕ → ℕ → ℕ → ℕ → ℕ
  stored_number i row column sample =
      number_of_row order p (stored_row i row) (in_row p column sample)

  -- the output number of a sample of a pixel, at depths of whole bytes
  unfoldable pub shown_sample : ℕ → ℕ → ℕ → ℕ
  shown_sample x y sample =
      shown_number p.interpretation (2 ^ p.depth)
      (stored_number (chunk_of_pixel p (planar_or p.planar sample 0) x y) (y % p.chunk_height)
      (x % p.chunk_width) (planar_or p.planar 0 sample))

  -- byte k of a row of a region at depths below 8: the stored byte, complemented if white is zero
  abbrev pub packed_byte : ColorType → Region → ℕ → ℕ → ℕ → ℕ
  packed_byte color r plane row k =
      let c = row_bytes p color p.chunk_width in
      let here = plane * chunks_of_plane p + unwrap_or r.chunk ((r.y + row) / p.chunk_height * across p + (r.x / p.chunk_width + k / c)) in
      shown_number p.interpretation 256
      (slice_index (stored_row here ((r.y + row) % p.chunk_height)) (k % c))

  -- byte k of a row of a region at depths of whole bytes: the bytes of a number come with the least
  -- significant first
  abbrev pub number_byte : ColorType → Region → ℕ → ℕ → ℕ → ℕ
  number_byte color r plane row k =
      let n = k / number_size p in
      let s = samples_in_chunk p.planar color in
      shown_sample (r.x + n / s) (r.y + row) (planar_or p.planar plane (n % s)) / 256
      ^ (k % number_size p) % 256

  abbrev pub region_byte : ColorType → Region → ℕ → ℕ → ℕ → ℕ
  region_byte color r plane row k =
      if nat_lt p.depth 8 then packed_byte color r plane row k else number_byte color r plane row k

  -- the byte at a position of a buffer that holds planes of a region, with rows a stride apart;
  -- none in a gap
  unfoldable pub byte_at : ColorType → Region → ℕ → ℕ → ℕ → Option ℕ
  byte_at color r stride planes i =
      let plane = i / (stride * r.height) in
      let k = i % stride in
      if nat_lt plane planes && nat_lt k (row_bytes p color r.width)
      then Some (region_byte color r (r.plane + plane) (i % (stride * r.height) / stride) k)
      else None

-- the little-endian numbers of `size` bytes each that a list of bytes holds, the last filled up by
-- zeros
unfoldable pub numbers_in : ℕ → List ℕ → List ℕ
numbers_in size bytes = tabulate (div_ceil (length bytes) size) (row_number LittleEndian size bytes)
