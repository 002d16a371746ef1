-- A page that shows an image is read as the image's samples.
use Rattle.std.proofs.Common.{◌≡◌, ℕ, ◌+◌, ◌*◌, ◌/◌, ◌%◌, ◌^◌, ◌<◌, ◌≤◌, min, inl, inr, Bool, true, false, cond, List, length, Result, Ok, refl, ap, sym, ◌∙◌, subst, arith, lit<}
use Rattle.std.specs.Prelude.{replicate, unwrap_or, nat_lt, nat_le, not, ◌==◌, slice_index}
use Rattle.std.specs.Int.{div_ceil}
use Rattle.std.proofs.lemmas.Bool.{lt-ltb, le-ltb, lt-leb, le-leb, eq-eqb, ne_eqb, and_right}
use Rattle.std.proofs.lemmas.Nat.{div-mul-add, mod-mul-add, mod_below, div_below}
use Rattle.std.proofs.Math.Nat.{div-eq_of_lt, mod-eq_of_lt, mul_comm, mul-mod_left, le-div_iff_mul-le, le-mul_of_pos_right}
use Rattle.tiff_base.specs.lemmas.Common.{bind_ok}
use Rattle.tiff_base.specs.declared.color.ColorType.{ColorType}
use Rattle.tiff_base.specs.declared.error.TiffError.{TiffError}
use Rattle.tiff_base.specs.declared.tags.ByteOrder.TheVariants.{LittleEndian}
use Rattle.tiff_base.specs.declared.tags.FileKind.{FileKind}
use Rattle.tiff_base.specs.declared.tags.PlanarConfiguration.{PlanarConfiguration}
use Rattle.tiff_base.specs.declared.tags.PlanarConfiguration.TheVariants.{Chunky, Planar}
use Rattle.tiff_base.specs.declared.tags.SampleFormat.{SampleFormat}
use Rattle.tiff_base.specs.declared.tags.SampleFormat.TheVariants.{Uint, Int, IEEEFP, Void, Unknown}
use Rattle.tiff_base.specs.Color.{num_samples}
use Rattle.tiff_base.specs.Directory.{directory_at}
use Rattle.tiff_ifd.specs.declared.limits.Limits.{Limits}
use Rattle.tiff_ifd.specs.Limits.{unlimited}
use Rattle.tiff_ifd.specs.TagLookup.{look_in}
use Rattle.tiff_page.specs.declared.layout.DecodingSampleType.{DecodingSampleType}
use Rattle.tiff_page.specs.declared.layout.DecodingSampleType.TheVariants.{U8, U16, U32, U64, F16, F32, F64, I8, I16, I32, I64}
use Rattle.tiff_page.specs.Page.{PageRecord}
use Rattle.tiff_page.specs.Counts.{all_chunks, parts}
use Rattle.tiff_page.specs.Rect.{chunks_of_plane}
use Rattle.tiff_page.specs.Layout.{LayoutRecord, row_bits, row_bytes, samples_in_chunk, planes, wide, whole_chunks, layout_of, sample_type_from, sample_type_of, size_of}
use Rattle.tiff_page.specs.PixelFault.{is_byte_multiple, depth_fault, form_fault, chunk_fault, limit_fault}
use Rattle.tiff_page.specs.Row.{IsSize}
use Rattle.tiff_page.specs.Pixels.{tabulate, planar_or, is_short, image_region, packed_byte, shown_sample, byte_at, numbers_in}
use Rattle.tiff_page.specs.Buffers.{planes_layout}
use Rattle.tiff_page.specs.PixelCalls as calls
use Rattle.tiff_page.specs.PixelCalls.{Part, bytes_with_region, part_fault, fill_buffer, image_part, image_of}
use Rattle.tiff_page.specs.Image.{Decoded, decoded_samples}
use Rattle.tiff_page.specs.lemmas.PositionLaws.{planes_some, no_fault}
use Rattle.tiff_page.specs.lemmas.Rows.{each_same, by_size, some_size}
use Rattle.tiff_page.specs.lemmas.Planes.{layout_gives, color_shows, first_plane_fault}
use Rattle.tiff_page.specs.lemmas.Requests.{placed_in_zeros}
use Rattle.tiff_page.specs.lemmas.Planes as plane
use Rattle.tiff_page.specs.lemmas.NumberBytes as octets
use Rattle.tiff_encode.specs.Shows.{Image, Shows}
use Rattle.tiff_encode.specs.ReadsBack.{samples_shown, HasSamplesOf, IsReadable, LetsPass, ReadsShown, ReadsBack}
use Rattle.tiff_encode.proofs.Shown.Whole.{whole_shown}
use Rattle.tiff_base.specs.lemmas.Slices.{ok_inj}
use Rattle.tiff_page.specs.lemmas.ShownNumbers.{some_right, all_are, sample_within, column_within, row_within, numbers_are}
use Rattle.tiff_page.specs.lemmas.ListedChunks.{IsListed, page_listed}

-- ---- properties of a page

-- a sample type has the number of bytes of its samples
sized : (x y : DecodingSampleType)
    → (let a : Result DecodingSampleType TiffError = Ok x in let b : Result DecodingSampleType TiffError = Ok y in a ≡ b)
    → size_of y ≡ size_of x
sized x y e = ap size_of (sym (ok_inj x y e))

type_sized : (f : SampleFormat) (size : ℕ) (t : DecodingSampleType) → IsSize size
    → sample_type_from f (8 * size) ≡ Ok t → size_of t ≡ size
type_sized Uint size t s =
    by_size (λ n. sample_type_from Uint (8 * n) ≡ Ok t
    → size_of t ≡ n) size (sized U8 t) (sized U16 t) (sized U32 t) (sized U64 t) s
type_sized Int size t s =
    by_size (λ n. sample_type_from Int (8 * n) ≡ Ok t
    → size_of t ≡ n) size (sized I8 t) (sized I16 t) (sized I32 t) (sized I64 t) s
type_sized IEEEFP size t s =
    by_size (λ n. sample_type_from IEEEFP (8 * n) ≡ Ok t
    → size_of t ≡ n) size (λ e. absurd cc) (sized F16 t) (sized F32 t) (sized F64 t) s
type_sized Void size t s = λ e. absurd cc
type_sized (Unknown n) size t s = λ e. absurd cc

-- samples of fewer bits than a byte are bytes
narrow_type : (f : SampleFormat) (d : ℕ) (t : DecodingSampleType) → d < 8
    → sample_type_from f d ≡ Ok t → size_of t ≡ 1
narrow_type Uint d t l e = sized U8 t (rw (le-leb d 8 (omega (arith, l))) at e)
narrow_type Int d t l e = sized I8 t (rw (le-leb d 8 (omega (arith, l))) at e)
narrow_type IEEEFP d t l e =
    let none =
    rw (ne_eqb d 16 (λ q. omega (arith, l, q)), ne_eqb d 32 (λ q. omega (arith, l, q)), ne_eqb d 64 (λ q. omega (arith, l, q))) at e in
    absurd cc
narrow_type Void d t l e = absurd cc
narrow_type (Unknown n) d t l e = absurd cc

-- the byte of the first plane, for each planar configuration
zero_plane : (planar : PlanarConfiguration) (f : ℕ → ℕ) → f (0 + 0) ≡ f (planar_or planar 0 0)
zero_plane Chunky f = ap f (omega arith)
zero_plane Planar f = ap f (omega arith)

-- samples of a supported size have whole bytes
whole_size : (size : ℕ) → IsSize size → is_byte_multiple (8 * size) ≡ true
whole_size size s = by_size (λ n. is_byte_multiple (8 * n) ≡ true) size refl refl refl refl s

-- a plane shows no more samples than the color has
shown_few : (planar : PlanarConfiguration) (color : ColorType) → 0 < num_samples color
    → samples_in_chunk planar color ≤ num_samples color
shown_few Chunky color h = omega arith
shown_few Planar color h = h

-- a color has at least one plane
planes_there : (planar : PlanarConfiguration) (color : ColorType) → 0 < num_samples color
    → 0 < planes planar color
planes_there Chunky color h = omega arith
planes_there Planar color h = h

-- if n * k is at most m, n is at most m / k
at_least : (n k m : ℕ) → 0 < k → n * k ≤ m → n ≤ m / k
at_least n k m b h = (le-div_iff_mul-le b).1 h

-- the decoded samples are those of the bytes that the decoder places into a buffer of zeros
samples_give : (file : List ℕ) (p : PageRecord) (limits : Limits) (color : ColorType) (part : Part)
    (len : ℕ) (d : Decoded)
    → calls.samples file LittleEndian p limits color part len ≡ Ok d
    → (t : DecodingSampleType) × ((sample_type_of p ≡ Ok t)
    × (decoded_samples t (bytes_with_region file LittleEndian p color part.region part.stride part.planes (replicate len 0)) ≡ d))
unfolding calls.samples fill_buffer
samples_give file p limits color part len d e =
    let zeros : List ℕ = replicate len 0 in
    let all : List ℕ =
    bytes_with_region file LittleEndian p color part.region part.stride part.planes zeros in
    let type = bind_ok (sample_type_of p) _ _ e in
    let passed = bind_ok (limit_fault limits (size_of type.0) len) _ _ type.1.1 in
    let made = bind_ok (fill_buffer file LittleEndian p limits color part zeros) _ _ passed.1.1 in
    let whole = bind_ok (part_fault file LittleEndian p limits color part) _ _ made.1.0 in
    let here : all ≡ made.0 = ok_inj all made.0 whole.1.1 in
    (type.0, (type.1.0, ap (decoded_samples type.0) here ∙ ok_inj (decoded_samples type.0 made.0) d made.1.1))

-- ---- properties of a page that shows an image
module _ (kind : FileKind) (file : List ℕ) (offset : ℕ) (i : Image) (size : ℕ) (limits : Limits)
    (s : Shows kind file offset i) (h : HasSamplesOf i size) where
  abbrev p : PageRecord
  p = s.page

  abbrev color : ColorType
  color = s.color

  depth_is : p.depth ≡ i.page.depth
  depth_is = ap (λ (q : PageRecord). q.depth) s.is_image

  listed : IsListed p
  listed =
      let d = bind_ok (directory_at kind LittleEndian file offset) _ _ s.is_page in
      page_listed (look_in kind LittleEndian file unlimited d.0.entries) p d.1.1

  some : 0 < num_samples color
  some = subst plane.Shows s.is_color (color_shows p listed.some)

  -- the decoded bytes, in rows of a number of bytes
  abbrev bytes : ColorType → ℕ → ℕ → List ℕ
  bytes c row all = bytes_with_region file LittleEndian p c (image_region p) row 1 (replicate all 0)

  -- ---- samples of whole bytes
  module _ (deep : p.depth ≡ 8 * size) where
    whole_bytes : nat_lt p.depth 8 ≡ false
    whole_bytes = le-ltb p.depth 8 (omega (arith, deep, some_size size h.is_size))

    -- the numbers of the decoded bytes are the samples that the page shows
    numbers_whole : numbers_in size (bytes color (row_bytes p color p.width) (row_bytes p color p.width * p.height)) ≡ samples_shown i p color
    numbers_whole =
        let n : ℕ = samples_in_chunk p.planar color in
        let row : ℕ = row_bytes p color p.width in
        let S : ℕ → ℕ → List ℕ =
        λ c k. tabulate (p.height * c * k) (λ m. i.sample_at (m / k % c) (m / k / c) (m % k)) in
        ap (numbers_in size) (placed_in_zeros file LittleEndian p color (image_region p) row 1 (row * p.height))
        ∙ numbers_are file p color size deep h.is_size (λ k. i.sample_at (k / n % p.width) (k / n / p.width) (k % n))
        (λ k b.
        let few : k % n < num_samples color =
        omega (arith, sample_within file p color size deep h.is_size k b, shown_few p.planar color some) in
        whole_shown kind file offset i s whole_bytes (k / n % p.width) (k / n / p.width) (k % n)
        (column_within file p color size deep h.is_size k b) (row_within file p color size deep h.is_size k b) few)
        (λ k. h.small (k / n % p.width) (k / n / p.width) (k % n))
        ∙ sym (ap (λ t. S (cond t row p.width) (cond t 1 n)) whole_bytes)

    -- the sample type of the page has the size of the samples
    whole_type : (t : DecodingSampleType) → sample_type_of p ≡ Ok t → size_of t ≡ size
    unfolding sample_type_of
    whole_type t e =
        type_sized p.format size t h.is_size (sym (ap (λ (n : ℕ). sample_type_from p.format n) deep)
        ∙ e)

  -- ---- packed pixels
  module _ (narrow : p.depth < 8) (byte : size ≡ 1) where
    -- the number of bytes of a row
    abbrev packed_row : ℕ
    packed_row = row_bytes p color p.width

    -- the byte at an index
    abbrev at : ℕ → ℕ
    at k = unwrap_or (byte_at file LittleEndian p color (image_region p) packed_row 1 k) 0

    packed_at : (k : ℕ) → k < p.height * packed_row
        → at k ≡ i.sample_at (k % packed_row) (k / packed_row) 0
    unfolding byte_at
    packed_at k b =
        let row : ℕ = packed_row in
        let within : k < row * p.height = subst (λ n. k < n) (mul_comm p.height row) b in
        let wide : 0 < row = some_right p.height row k b in
        let first : k / (row * p.height) ≡ 0 = div-eq_of_lt within in
        let rest : k % (row * p.height) ≡ k = mod-eq_of_lt within in
        let column : k % row < row = mod_below k row wide in
        let high : k / row < p.height = div_below k row p.height wide b in
        let test : nat_lt (k % row) row ≡ true = lt-ltb (k % row) row column in
        let packed : nat_lt p.depth 8 ≡ true = lt-ltb p.depth 8 narrow in
        let P : Bool → Type 0 =
        λ d. k % row < cond d row p.width → k / row < p.height → 0 < num_samples color
        → cond d (packed_byte file LittleEndian p color (image_region p) (planar_or p.planar 0 0) (k / row) (k % row))
        (shown_sample file LittleEndian p (k % row) (k / row) 0)
        ≡ i.sample_at (k % row) (k / row) 0 in
        let shown = subst P packed (s.shows (k % row) (k / row) 0) column high some in
        rw (first, test, packed, rest) (zero_plane p.planar (λ n. packed_byte file LittleEndian p color (image_region p) n (k / row) (k % row)) ∙ shown)

    numbers_packed : numbers_in size (bytes color packed_row (packed_row * p.height))
        ≡ samples_shown i p color
    numbers_packed =
        let row : ℕ = packed_row in
        let S : ℕ → ℕ → List ℕ =
        λ c k. tabulate (p.height * c * k) (λ m. i.sample_at (m / k % c) (m / k / c) (m % k)) in
        let packed : nat_lt p.depth 8 ≡ true = lt-ltb p.depth 8 narrow in
        let count : row * p.height ≡ p.height * row * 1 = mul_comm row p.height ∙ omega arith in
        ap (numbers_in size) (placed_in_zeros file LittleEndian p color (image_region p) row 1 (row * p.height))
        ∙ ap (λ n. numbers_in n (tabulate (row * p.height) at)) byte
        ∙ octets.numbers_are (tabulate (row * p.height) at)
        ∙ ap (λ n. tabulate n at) count
        ∙ each_same (p.height * row * 1) at (λ m. i.sample_at (m / 1 % row) (m / 1 / row) (m % 1))
        (λ m b.
        let one : m ≡ m / 1 = omega arith in
        let none : 0 ≡ m % 1 = omega (arith, mod_below m 1 (lit< tt)) in
        packed_at m (omega (arith, b)) ∙ (λ t. i.sample_at (one t % row) (one t / row) (none t)))
        ∙ sym (ap (λ t. S (cond t row p.width) (cond t 1 (samples_in_chunk p.planar color))) packed)

    packed_type : (t : DecodingSampleType) → sample_type_of p ≡ Ok t → size_of t ≡ size
    unfolding sample_type_of
    packed_type t e = narrow_type p.format p.depth t narrow e ∙ sym byte

  -- ---- both
  bytes_are : numbers_in size (bytes color (row_bytes p color p.width) (row_bytes p color p.width * p.height)) ≡ samples_shown i p color
  bytes_are = elim h.depth [
    | inl e ↦ numbers_whole (depth_is ∙ e)
    | inr t ↦ numbers_packed (subst (λ n. n < 8) (sym depth_is) t.0) t.1
  ]

  type_is : (t : DecodingSampleType) → sample_type_of p ≡ Ok t → size_of t ≡ size
  type_is = elim h.depth [
    | inl e ↦ whole_type (depth_is ∙ e)
    | inr t ↦ packed_type (subst (λ n. n < 8) (sym depth_is) t.0) t.1
  ]

  numbers_of : (t : DecodingSampleType) (c : ColorType) → sample_type_of p ≡ Ok t → c ≡ color
      → numbers_in (size_of t) (bytes c (row_bytes p c p.width) (row_bytes p c p.width * p.height))
      ≡ samples_shown i p color
  numbers_of t c e f =
      ap (λ (n : ℕ). numbers_in n (bytes c (row_bytes p c p.width) (row_bytes p c p.width * p.height))) (type_is t e)
      ∙ ap (λ (k : ColorType). numbers_in size (bytes k (row_bytes p k p.width) (row_bytes p k p.width * p.height))) f
      ∙ bytes_are

  -- each result of reading the page contains these samples
  shown_read : (d : Decoded) → image_of file LittleEndian p limits ≡ Ok d
      → (d.numbers ≡ samples_shown i p color) × (sample_type_of p ≡ Ok d.sample_type)
  unfolding image_of planes_layout
  shown_read d e =
      let whole = bind_ok (planes_layout p p.width p.height) _ _ e in
      let laid = bind_ok (layout_of p p.width p.height) _ _ whole.1.0 in
      let l : LayoutRecord = laid.0 in
      let fits = bind_ok (wide (l.plane_stride * planes p.planar l.color)) _ _ laid.1.1 in
      let is_l : l ≡ whole.0 = ok_inj l whole.0 fits.1.1 in
      let given = layout_gives p p.width p.height l laid.1.0 in
      let same : l.color ≡ color = ok_inj l.color color (sym given.1.0 ∙ s.is_color) in
      let read : calls.samples file LittleEndian p limits l.color (image_part p 1 l.row_bytes) l.plane_stride ≡ Ok d =
      (λ t. calls.samples file LittleEndian p limits (is_l t).color (image_part p 1 (is_l t).row_bytes) (is_l t).plane_stride) ∙ whole.1.1 in
      let a =
      samples_give file p limits l.color (image_part p 1 l.row_bytes) l.plane_stride d read in
      let numbers : d.numbers ≡ numbers_in (size_of a.0) (bytes l.color l.row_bytes l.plane_stride) = ap (λ (x : Decoded). x.numbers) (sym a.1.1) in
      let type : sample_type_of p ≡ Ok d.sample_type =
      a.1.0 ∙ ap (λ (x : Decoded). Ok x.sample_type) a.1.1 in (
        numbers
            ∙ (λ t. numbers_in (size_of a.0) (bytes l.color (given.0.0 t) (given.0.1 t)))
            ∙ numbers_of a.0 l.color a.1.0 same,
        type,
      )

  -- ---- a readable page within the limits
  module _ (type : DecodingSampleType) (is_type : sample_type_of p ≡ Ok type)
      (r : IsReadable p color) (l : LetsPass limits p color) where
    -- the bytes of a row, and of the image
    abbrev row : ℕ
    row = row_bytes p color p.width

    abbrev all : ℕ
    all = row * p.height

    aligned_whole : p.depth ≡ 8 * size → whole_chunks p color p.width ≡ Ok color
    unfolding row_bits
    aligned_whole deep =
        let w : ℕ = p.chunk_width in
        let n : ℕ = samples_in_chunk p.planar color in
        let a : w * p.depth * n ≡ w * (8 * size) * n = ap (λ (m : ℕ). w * m * n) deep in
        let b : w * (8 * size) * n ≡ w * size * n * 8 = omega arith in
        let e : row_bits p color w % 8 ≡ 0 =
        ap (λ (m : ℕ). m % 8) (a ∙ b) ∙ mul-mod_left (w * size * n) 8 in
        let t : not (row_bits p color w % 8 == 0) ≡ false =
        ap not (eq-eqb (row_bits p color w % 8) 0 e) in
        rw (and_right (nat_lt 1 (parts p.width w)) (not (row_bits p color w % 8 == 0)) t) refl

    aligned_is : whole_chunks p color p.width ≡ Ok color
    aligned_is = elim h.depth [
      | inl e ↦ aligned_whole (depth_is ∙ e)
      | inr t ↦ (r.narrow (subst (λ n. n < 8) (sym depth_is) t.0)).1
    ]

    plane_fits : all < 2 ^ 64
    plane_fits =
        let m : all ≤ all * planes p.planar color =
        le-mul_of_pos_right all (planes_there p.planar color some) in
        omega (arith, m, l.whole)

    layout_is : layout_of p p.width p.height
        ≡ Ok (record { color = color; row_bytes = row; plane_stride = all })
    unfolding layout_of
    layout_is =
        rw (s.is_color, lt-ltb (row * p.chunk_height) (2 ^ 64) l.rows, lt-ltb all (2 ^ 64) plane_fits, aligned_is, r.chroma) refl

    -- the bytes are those of a whole number of samples
    whole_count : (n : ℕ) → n ≡ 1 → all ≡ all / n * n
    whole_count n e = subst (λ k. all ≡ all / k * k) (sym e) (omega arith)

    all_times : all ≡ all / size * size
    all_times = elim h.depth [
      | inl e ↦
          let deep : p.depth ≡ 8 * size = depth_is ∙ e in
          let count : ℕ = p.height * p.width * samples_in_chunk p.planar color in
          let a : all ≡ count * size = all_are file p color size deep h.is_size in
          let z : count * size ≡ count * size + 0 = omega arith in
          let d : count ≡ all / size =
          sym (ap (λ (m : ℕ). m / size) (a ∙ z) ∙ div-mul-add count size 0 (some_size size h.is_size)) in
          a ∙ ap (λ m. m * size) d
      | inr t ↦ whole_count size t.1
    ]

    -- the number of samples is within the limits
    samples_pass : limit_fault limits (size_of type) all ≡ Ok tt
    samples_pass =
        let samples : ℕ = all / size in
        let some_bytes : 0 < size = some_size size h.is_size in
        let e : samples * size ≡ samples * size + 0 = omega arith in
        let d : (samples * size) / size ≡ samples =
        ap (λ (m : ℕ). m / size) e ∙ div-mul-add samples size 0 some_bytes in
        let m : (samples * size) % size ≡ 0 =
        ap (λ (k : ℕ). k % size) e ∙ mod-mul-add samples size 0 some_bytes in
        let c : div_ceil all size ≡ samples =
        ap (λ (k : ℕ). div_ceil k size) all_times ∙ (λ t. d t + min 1 (m t)) ∙ omega arith in
        let b : samples ≤ limits.decoding_buffer_size / size =
        at_least samples size limits.decoding_buffer_size some_bytes (omega (arith, all_times, l.image)) in
        let f : nat_lt (limits.decoding_buffer_size / size) (div_ceil all size) ≡ false =
        le-ltb (limits.decoding_buffer_size / size) (div_ceil all size) (omega (arith, b, c)) in
        rw (type_is type is_type, f) refl

    -- no chunk returns an error
    chunk_listed : (k : ℕ) → k < chunks_of_plane p → k < all_chunks p
    chunk_listed k b =
        let m : chunks_of_plane p ≤ all_chunks p =
        le-mul_of_pos_right (chunks_of_plane p) (planes_some p.planar p.samples listed.some) in
        omega (arith, b, m)

    depth_whole : p.depth ≡ 8 * size → depth_fault p color ≡ Ok tt
    unfolding depth_fault
    depth_whole deep =
        let w : is_byte_multiple p.depth ≡ true =
        ap is_byte_multiple deep ∙ whole_size size h.is_size in
        rw (w, r.plain) refl

    depth_passes : depth_fault p color ≡ Ok tt
    depth_passes = elim h.depth [
      | inl e ↦ depth_whole (depth_is ∙ e)
      | inr t ↦ (r.narrow (subst (λ n. n < 8) (sym depth_is) t.0)).0
    ]

    form_is : (k : ℕ) → k < chunks_of_plane p → form_fault p limits color k ≡ Ok tt
    unfolding form_fault
    form_is k b =
        let a : nat_le (length p.offsets) k ≡ false =
        lt-leb (length p.offsets) k (omega (arith, chunk_listed k b, listed.offsets)) in
        let c : nat_lt limits.intermediate_buffer_size (slice_index p.byte_counts k) ≡ false =
        le-ltb limits.intermediate_buffer_size (slice_index p.byte_counts k) (l.chunks k b) in
        rw (a, depth_passes, r.predictor, c, r.packed_by) r.upright

    chunk_is : (k : ℕ) → k < chunks_of_plane p
        → chunk_fault p limits (is_short file LittleEndian p color) color k ≡ Ok tt
    chunk_is k b = rw (form_is k b, s.whole k (chunk_listed k b)) refl

    chunks_are : part_fault file LittleEndian p limits color (image_part p 1 row) ≡ Ok tt
    chunks_are =
        first_plane_fault file LittleEndian p limits color row
        ∙ (no_fault (chunk_fault p limits (is_short file LittleEndian p color) color) (chunks_of_plane p)).1 chunk_is

    -- the decoder reads the page
    is_read : image_of file LittleEndian p limits
        ≡ Ok (record { sample_type = type; numbers = samples_shown i p color })
    unfolding image_of planes_layout calls.samples fill_buffer
    is_read =
        let decoded_by : List ℕ → Result Decoded TiffError =
        λ numbers. Ok (record { sample_type = type; numbers = numbers }) in
        let fits : nat_lt (all * planes p.planar color) (2 ^ 64) ≡ true =
        lt-ltb (all * planes p.planar color) (2 ^ 64) l.whole in
        rw (layout_is, fits, is_type, samples_pass, chunks_are) (ap decoded_by (numbers_of type color is_type refl))

pub reads_shown : ReadsShown
reads_shown kind file offset i size limits d s h e =
    shown_read kind file offset i size limits s h d e

pub reads_back : ReadsBack
reads_back kind file offset i size limits type s h is_type r l =
    is_read kind file offset i size limits s h type is_type r l
