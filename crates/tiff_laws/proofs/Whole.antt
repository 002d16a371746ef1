-- A plane of an image is its chunks, read one by one and placed.
use Rattle.std.proofs.Common.{◌≡◌, ℕ, Some, None, ◌+◌, ◌*◌, ◌/◌, ◌%◌, ◌<◌, ◌≤◌, min, Bool, true, List, length, Ok, refl, ap, sym, subst, ◌∙◌, ⊎_elim, arith}
use Rattle.std.specs.Prelude.{Result, ◌&&◌, if◌then◌else◌, nat_lt, nat_le, slice_index, unwrap_or}
use Rattle.std.proofs.lemmas.Bool.{cases_lt, lt-ltb}
use Rattle.std.proofs.lemmas.Nat.{mul-add-lt, div-mul-add, mod-mul-add, div_below}
use Rattle.std.proofs.Math.Nat.{div-eq_of_lt, mod-eq_of_lt, div-mul-le_self, mul_assoc, mul_comm, mul-le-mul_right}
use Rattle.tiff_base.specs.lemmas.Common.{bind_ok}
use Rattle.tiff_base.specs.declared.color.ColorType.{ColorType}
use Rattle.tiff_base.specs.declared.error.TiffError.{TiffError}
use Rattle.tiff_base.specs.declared.error.TiffError.TheVariants.{FormatError, IoError, LimitsExceeded}
use Rattle.tiff_base.specs.declared.error.TiffFormatError.TheVariants.{InconsistentSizesEncountered}
use Rattle.tiff_base.specs.declared.io.IoKind.TheVariants.{UnexpectedEof}
use Rattle.tiff_base.specs.declared.tags.ByteOrder.{ByteOrder}
use Rattle.tiff_base.specs.Answers.{◌>>=◌}
use Rattle.tiff_ifd.specs.declared.limits.Limits.{Limits}
use Rattle.tiff_page.specs.Page.{PageRecord}
use Rattle.tiff_page.specs.Rect.{rect, chunks_of_plane}
use Rattle.tiff_page.specs.Layout.{LayoutRecord, layout_of, planes, row_bits, row_bytes, samples_in_chunk}
use Rattle.tiff_page.specs.Methods.{method_fault}
use Rattle.tiff_page.specs.PixelFault.{fail_if, depth_fault, predictor_fault, inversion_fault, form_fault, chunk_fault}
use Rattle.tiff_page.specs.Pixels.{Region, is_short, byte_at, region_byte, image_region, chunk_region}
use Rattle.tiff_page.specs.PixelCalls as pixels
use Rattle.tiff_page.specs.PixelCalls.{Part, image_part, chunk_part, planes_used, bytes_with_region}
use Rattle.tiff_page.specs.Laws.{HasSides, ChunkIsWithin, HasWholeRows, ChunksWithin, PlacedEach, WholeRows, ImageOfChunks}
use Rattle.tiff_page.specs.lemmas.PassedChecks.{ok_is}
use Rattle.tiff_decode.specs.Outcome as outcome
use Rattle.tiff_laws.specs.Whole.{IsPlacedIn, PlaneOfChunks, chunks_used, chunk_row, at_chunk, at_image}
use Rattle.tiff_laws.proofs.Laid.{IsLaid, IsReadInto, laid, planes_laid, read_gives}

-- ---- where a byte is

-- byte t of line y of plane n, where lines are s bytes and a plane has h of them
module _ (n h y s t : ℕ) (yl : y < h) (tl : t < s) where
  pub within : y * s + t < s * h
  within = mul-add-lt y s t h yl tl

  pub split : (n * h + y) * s + t ≡ n * (s * h) + (y * s + t)
  split =
      let a : n * h * s ≡ n * (h * s) = mul_assoc n h s in
      let b : n * (h * s) ≡ n * (s * h) = ap (λ (z : ℕ). n * z) (mul_comm h s) in
      omega (arith, a, b)

  pub plane_at : ((n * h + y) * s + t) / (s * h) ≡ n
  plane_at = ap (λ (z : ℕ). z / (s * h)) split ∙ div-mul-add n (s * h) (y * s + t) within

  pub line_at : ((n * h + y) * s + t) % (s * h) / s ≡ y
  line_at =
      ap (λ (z : ℕ). z % (s * h) / s) split
      ∙ ap (λ (z : ℕ). z / s) (mod-mul-add n (s * h) (y * s + t) within) ∙ div-mul-add y s t tl

  pub column_at : ((n * h + y) * s + t) % s ≡ t
  column_at = mod-mul-add (n * h + y) s t tl

  -- a slice that contains the plane contains the byte
  pub in_slice : (used len : ℕ) → n < min used (len / (s * h)) → (n * h + y) * s + t < len
  in_slice used len l =
      let a : (n + 1) * (s * h) ≤ len / (s * h) * (s * h) =
      mul-le-mul_right (s * h) (omega (arith, l)) in
      let b : len / (s * h) * (s * h) ≤ len = div-mul-le_self len (s * h) in
      let c : (n + 1) * (s * h) ≡ n * (s * h) + s * h = omega arith in
      omega (arith, a, b, c, split, within)

-- a multiple of bits in whole bytes, and other bits after them
pub bits_within : (x w d s width : ℕ) → x + w ≤ width
    → x * d * s / 8 + (w * d * s + 7) / 8 ≤ (width * d * s + 7) / 8
bits_within x w d s width h =
    let a : (x + w) * d ≤ width * d = mul-le-mul_right d h in
    let b : (x + w) * d * s ≤ width * d * s = mul-le-mul_right s a in
    let c : (x + w) * d * s ≡ x * d * s + w * d * s = omega arith in
    omega (arith, b, c)

module _ (file : List ℕ) (order : ByteOrder) (p : PageRecord) (color : ColorType) where
  -- the byte at a position that is in a plane and a row
  pub byte_is : (region : Region) (stride planes at plane row k v : ℕ)
      → at / (stride * region.height) ≡ plane
      → at % (stride * region.height) / stride ≡ row → at % stride ≡ k → plane < planes
      → k < row_bytes p color region.width
      → unwrap_or (byte_at file order p color region stride planes at) v
      ≡ region_byte file order p color region (region.plane + plane) row k
  unfolding byte_at
  byte_is region stride planes at plane row k v ep er ek pl kl =
      let found : ℕ → ℕ → ℕ → ℕ =
      λ a b c. unwrap_or (if nat_lt a planes && nat_lt c (row_bytes p color region.width) then
      Some (region_byte file order p color region (region.plane + a) b c) else None) v in
      let in_planes : nat_lt plane planes ≡ true = lt-ltb plane planes pl in
      let in_row : nat_lt k (row_bytes p color region.width) ≡ true =
      lt-ltb k (row_bytes p color region.width) kl in
      (λ i. found (ep i) (er i) (ek i)) ∙ rw (in_planes, in_row) refl

-- ---- the depth of what was read

-- a chunk that has no error has a supported depth
pub depth_read : (p : PageRecord) (limits : Limits) (short : ℕ → Bool) (color : ColorType) (i : ℕ)
    → chunk_fault p limits short color i ≡ Ok tt
    → depth_fault p color ≡ Ok tt
unfolding form_fault
depth_read p limits short color i h =
    let late : Result (Unit {0}) TiffError = fail_if (short i) (IoError UnexpectedEof) in
    let rest : Result (Unit {0}) TiffError =
    predictor_fault p color
    >>= (λ _. fail_if (nat_lt limits.intermediate_buffer_size (slice_index p.byte_counts i)) LimitsExceeded
    >>= (λ _. method_fault p.method >>= (λ _. inversion_fault p color))) in
    let deep : Result (Unit {0}) TiffError = depth_fault p color >>= (λ _. rest) in
    let listed : Result (Unit {0}) TiffError =
    fail_if (nat_le (length p.offsets) i) (FormatError InconsistentSizesEncountered) in
    let a = bind_ok (form_fault p limits color i) (λ _. late) tt h in
    let b = bind_ok listed (λ _. deep) a.0 a.1.0 in
    (bind_ok (depth_fault p color) (λ _. rest) a.0 b.1.1).1.0

-- a chunk below all chunks of the planes belongs to one of them
pub some_chunk : (i n c : ℕ) → i < n * c → 0 < c
some_chunk i n c l =
    ⊎_elim (λ (some : 0 < c). some)
    (λ (none : c ≤ 0). let e : n * c ≡ n * 0 =
    (let z : c ≡ 0 = omega (arith, none) in ap (λ (m : ℕ). n * m) z) in Prim.absurd (omega (arith, l, e)))
    (cases_lt 0 c)

pub plane_of : (i n c : ℕ) → i < n * c → i / c < n
plane_of i n c l = div_below i c n (some_chunk i n c l) l

module _ (within_image : ChunksWithin) (placed_each : PlacedEach) (whole_rows : WholeRows)
    (image_of_chunks : ImageOfChunks) where
  module _ (file : List ℕ) (order : ByteOrder) (p : PageRecord) (limits : Limits) (l : LayoutRecord)
      (sides : HasSides p) (given : layout_of p p.width p.height ≡ Ok l) (i : ℕ) where
    is_laid : IsLaid p p.width p.height l
    is_laid = laid p p.width p.height l given

    abbrev into_image : List ℕ → LayoutRecord → Part
    into_image buf layout = image_part p (planes_used p layout (length buf)) layout.row_bytes

    abbrev into_chunk : LayoutRecord → Part
    into_chunk layout = chunk_part p i 1 layout.row_bytes

    abbrev IsImageRead : List ℕ → List ℕ → LayoutRecord → Type 0
    IsImageRead buf image layout =
        IsReadInto file order p limits p.width p.height (into_image buf) buf image layout

    abbrev IsChunkRead : List ℕ → List ℕ → LayoutRecord → Type 0
    IsChunkRead part chunk layout =
        IsReadInto file order p limits (rect p i).width (rect p i).height into_chunk part chunk layout

    plane_is : (len : ℕ) → i < chunks_used p l len → (rect p i).plane < planes_used p l len
    unfolding rect
    plane_is len used = plane_of i (planes_used p l len) (chunks_of_plane p) used

    row_within : row_bits p l.color (rect p i).x / 8 + chunk_row p l i ≤ row_bytes p l.color p.width
    unfolding row_bits
    row_within =
        bits_within (rect p i).x (rect p i).width p.depth (samples_in_chunk p.planar l.color) p.width (within_image p i sides).columns

    -- the byte of the image
    image_byte : (buf image : List ℕ) (r b : ℕ) → IsImageRead buf image l
        → i < chunks_used p l (length buf)
        → r < (rect p i).height → b < chunk_row p l i
        → slice_index image (at_image p l i r b)
        ≡ region_byte file order p l.color (image_region p) (rect p i).plane ((rect p i).y
        + r) (row_bits p l.color (rect p i).x / 8 + b)
    image_byte buf image r b read used rl bl =
        let region : Region = image_region p in
        let s : ℕ = l.row_bytes in
        let n : ℕ = (rect p i).plane in
        let y : ℕ = (rect p i).y + r in
        let t : ℕ = row_bits p l.color (rect p i).x / 8 + b in
        let count : ℕ = planes_used p l (length buf) in
        let all : List ℕ = bytes_with_region file order p l.color region s count buf in
        let at : ℕ = (n * p.height + y) * s + t in
        let inside : ChunkIsWithin p i = within_image p i sides in
        let yl : y < p.height = omega (arith, inside.rows, rl) in
        let tr : t < row_bytes p l.color p.width = omega (arith, row_within, bl) in
        let tl : t < s = omega (arith, tr, is_laid.rows) in
        let nl : n < count = plane_is (length buf) used in
        let stride : l.plane_stride ≡ s * p.height =
        is_laid.stride ∙ ap (λ (z : ℕ). z * p.height) (sym is_laid.rows) in
        let nl' : n < min (planes p.planar l.color) (length buf / (s * p.height)) =
        subst (λ (z : ℕ). n < min (planes p.planar l.color) (length buf / z)) stride nl in
        let room : at < length buf =
        in_slice n p.height y s t yl tl (planes p.planar l.color) (length buf) nl' in
        let from : at_image p l i r b ≡ at = omega arith in
        let zero_and : 0 + n ≡ n = omega arith in
        ap (λ (z : ℕ). slice_index image z) from
        ∙ ap (λ (z : List ℕ). slice_index z at) read.filled.bytes
        ∙ (placed_each file order p l.color region s count buf).1 at room
        ∙ byte_is file order p l.color region s count at n y t (slice_index buf at)
        (plane_at n p.height y s t yl tl) (line_at n p.height y s t yl tl)
        (column_at n p.height y s t yl tl) nl tr
        ∙ ap (λ (z : ℕ). region_byte file order p l.color region z y t) zero_and

    chunk_laid : (part chunk : List ℕ) (layout : LayoutRecord) → IsChunkRead part chunk layout
        → IsLaid p (rect p i).width (rect p i).height layout
    chunk_laid part chunk layout read =
        laid p (rect p i).width (rect p i).height layout (planes_laid p (rect p i).width (rect p i).height layout read.laid).0

    same_color : (part chunk : List ℕ) (layout : LayoutRecord) → IsChunkRead part chunk layout
        → layout.color ≡ l.color
    same_color part chunk layout read =
        ok_is layout.color l.color (sym (chunk_laid part chunk layout read).color ∙ is_laid.color)

    -- the same byte of the chunk
    chunk_byte : (part chunk : List ℕ) (layout : LayoutRecord) (r b : ℕ)
        → IsChunkRead part chunk layout
        → r < (rect p i).height → b < chunk_row p l i
        → slice_index chunk (at_chunk p l i r b)
        ≡ region_byte file order p l.color (chunk_region p i) (rect p i).plane r b
    chunk_byte part chunk layout r b read rl bl =
        let region : Region = chunk_region p i in
        let s : ℕ = chunk_row p l i in
        let h : ℕ = (rect p i).height in
        let n : ℕ = (rect p i).plane in
        let at : ℕ = r * s + b in
        let is : IsLaid p (rect p i).width h layout = chunk_laid part chunk layout read in
        let color : layout.color ≡ l.color = same_color part chunk layout read in
        let rows : layout.row_bytes ≡ s =
        is.rows ∙ ap (λ (c : ColorType). row_bytes p c (rect p i).width) color in
        let stride : layout.plane_stride ≡ s * h =
        is.stride ∙ ap (λ (c : ColorType). row_bytes p c (rect p i).width * h) color in
        let inside : at < s * h = mul-add-lt r s b h rl bl in
        let room : at < length part = omega (arith, inside, stride, read.room) in
        let plane : at / (s * h) ≡ 0 = div-eq_of_lt inside in
        let line : at % (s * h) / s ≡ r =
        ap (λ (z : ℕ). z / s) (mod-eq_of_lt inside) ∙ div-mul-add r s b bl in
        let column : at % s ≡ b = mod-mul-add r s b bl in
        let one : 0 < 1 = omega arith in
        let and_zero : n + 0 ≡ n = omega arith in
        ap (λ (z : List ℕ). slice_index z at) read.filled.bytes
        ∙ (λ t. slice_index (bytes_with_region file order p (color t) region (rows t) 1 part) at)
        ∙ (placed_each file order p l.color region s 1 part).1 at room
        ∙ byte_is file order p l.color region s 1 at 0 r b (slice_index part at) plane line column one bl
        ∙ ap (λ (z : ℕ). region_byte file order p l.color region z r b) and_zero

    rows_whole : (part chunk : List ℕ) (layout : LayoutRecord) → IsChunkRead part chunk layout
        → HasWholeRows p l.color
    rows_whole part chunk layout read =
        let deep : depth_fault p layout.color ≡ Ok tt =
        depth_read p limits (is_short file order p layout.color) layout.color
        (0 * chunks_of_plane p + (i + 0)) read.filled.none in
        whole_rows p l given (ap (depth_fault p) (sym (same_color part chunk layout read)) ∙ deep)

    pub placed_in : (buf image part chunk : List ℕ) (layout : LayoutRecord)
        → i < chunks_used p l (length buf)
        → IsImageRead buf image l → IsChunkRead part chunk layout → IsPlacedIn p l i chunk image
    placed_in buf image part chunk layout used read read' = record {
      each = λ r b rl bl.
          image_byte buf image r b read used rl bl
          ∙ image_of_chunks file order p l.color i r b sides (rows_whole part chunk layout read') rl bl
          ∙ sym (chunk_byte part chunk layout r b read' rl bl);
    }

  pub plane_of_chunks : PlaneOfChunks
  unfolding outcome.read_image_bytes outcome.read_chunk_bytes pixels.read_image_bytes pixels.read_chunk_bytes
  plane_of_chunks d l buf image part chunk i sides given used of_image of_chunk =
      let file : List ℕ = d.bytes in
      let p : PageRecord = d.state.page in
      let a =
      read_gives file d.order p d.state.limits p.width p.height (into_image file d.order p d.state.limits l sides given i buf) buf image of_image in
      let same : a.0 ≡ l =
      ok_is a.0 l (sym (planes_laid p p.width p.height a.0 a.1.laid).0 ∙ given) in
      let b =
      read_gives file d.order p d.state.limits (rect p i).width (rect p i).height
      (into_chunk file d.order p d.state.limits l sides given i) part chunk of_chunk in
      placed_in file d.order p d.state.limits l sides given i buf image part chunk b.0 used
      (subst (IsImageRead file d.order p d.state.limits l sides given i buf image) same a.1)
      b.1
