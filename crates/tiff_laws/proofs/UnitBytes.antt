-- A coding unit that is read is what its chunks make, read one by one and placed.
use Rattle.std.proofs.Common.{◌≡◌, ℕ, ◌+◌, ◌*◌, ◌/◌, ◌%◌, ◌<◌, ◌≤◌, List, length, Ok, ap, sym, subst, ◌∙◌, ⊎_elim, arith}
use Rattle.std.specs.Prelude.{replicate, slice_index}
use Rattle.std.proofs.lemmas.Bool.{cases_lt}
use Rattle.std.proofs.lemmas.List.{ext_get_or, length-replicate}
use Rattle.std.proofs.lemmas.Nat.{mod_below, div_below, div-add-mod', div-mul-add}
use Rattle.std.proofs.Math.Nat.{div-eq_of_lt, div-mul-le_self, mul_comm, mul-le-mul_right}
use Rattle.tiff_base.specs.declared.color.ColorType.{ColorType}
use Rattle.tiff_base.specs.declared.tags.ByteOrder.{ByteOrder}
use Rattle.tiff_page.specs.Page.{PageRecord}
use Rattle.tiff_page.specs.Rect.{rect, chunks_of_plane}
use Rattle.tiff_page.specs.Layout.{LayoutRecord, row_bytes}
use Rattle.tiff_page.specs.Pixels.{Region, region_byte, chunk_region}
use Rattle.tiff_page.specs.PixelCalls as pixels
use Rattle.tiff_page.specs.PixelCalls.{planes_used, bytes_with_region}
use Rattle.tiff_page.specs.Laws.{HasSides, ChunksWithin, PlacedEach, UnitOfChunks}
use Rattle.tiff_page.specs.lemmas.PassedChecks.{good, ok_is}
use Rattle.tiff_decode.specs.Machine.{Decoding}
use Rattle.tiff_decode.specs.Outcome as outcome
use Rattle.tiff_laws.specs.Whole.{IsChunkRead, chunk_byte_count}
use Rattle.tiff_laws.specs.Units.{HasUnitRoom, EachPlane, IsBehind, IsMadeOfUnit, UnitIsItsChunks, UnitWhereChunks, unit_chunk}
use Rattle.tiff_laws.proofs.Laid.{IsLaid, IsReadInto, read_gives}
use Rattle.tiff_laws.proofs.Whole as whole
use Rattle.tiff_laws.proofs.Whole.{byte_is, some_chunk}
use Rattle.tiff_laws.proofs.WhereChunks.{ok_or, is_good}
use Rattle.tiff_laws.proofs.Made.{none_at, past}
use Rattle.tiff_laws.proofs.Bytes.{below_planes}
use Rattle.tiff_laws.proofs.UnitChunks.{is_laid, into, same_width, same_height, chunk_laid, unit_gives}

-- whole parts of a length lie within it
whole_in : (len size n : ℕ) → n ≤ len / size → n * size ≤ len
whole_in len size n h =
    let a : n * size ≤ len / size * size = mul-le-mul_right size h in
    omega (arith, a, div-mul-le_self len size)

-- where byte k of plane n is, if lines have s bytes and planes h lines
module _ (n h s k : ℕ) (below : k < s * h) where
  some_line : 0 < s
  some_line = some_chunk k h s (omega (arith, below, mul_comm s h))

  line_below : k / s < h
  line_below = div_below k s h some_line (omega (arith, below, mul_comm s h))

  rest_below : k % s < s
  rest_below = mod_below k s some_line

  pub is_at : n * (s * h) + k ≡ (n * h + k / s) * s + k % s
  is_at =
      let e : k / s * s + k % s ≡ k = div-add-mod' k s in
      let f : (n * h + k / s) * s + k % s ≡ n * (s * h) + (k / s * s + k % s) =
      whole.split n h (k / s) s (k % s) line_below rest_below in
      omega (arith, e, f)

  pub plane_at : (n * (s * h) + k) / (s * h) ≡ n
  plane_at =
      ap (λ (z : ℕ). z / (s * h)) is_at ∙ whole.plane_at n h (k / s) s (k % s) line_below rest_below

  pub line_at : (n * (s * h) + k) % (s * h) / s ≡ k / s
  line_at =
      ap (λ (z : ℕ). z % (s * h) / s) is_at
      ∙ whole.line_at n h (k / s) s (k % s) line_below rest_below

  pub along_at : (n * (s * h) + k) % s ≡ k % s
  along_at =
      ap (λ (z : ℕ). z % s) is_at ∙ whole.column_at n h (k / s) s (k % s) line_below rest_below

-- a byte of a plane of a region that was placed
module _ (placed_each : PlacedEach) (file : List ℕ) (order : ByteOrder) (p : PageRecord)
    (color : ColorType) (region : Region) (s planes n k : ℕ) (buf : List ℕ) where
  pub byte_placed : s ≡ row_bytes p color region.width → k < s * region.height → n < planes
      → n * (s * region.height) + k < length buf
      → slice_index (bytes_with_region file order p color region s planes buf)
      (n * (s * region.height) + k)
      ≡ region_byte file order p color region (region.plane + n) (k / s) (k % s)
  byte_placed rows below nl room =
      let at : ℕ = n * (s * region.height) + k in
      let rest : k % s < row_bytes p color region.width =
      omega (arith, rest_below n region.height s k below, rows) in
      (placed_each file order p color region s planes buf).1 at room
      ∙ byte_is file order p color region s planes at n (k / s) (k % s) (slice_index buf at)
      (plane_at n region.height s k below) (line_at n region.height s k below)
      (along_at n region.height s k below) nl rest

module _ (chunks_within : ChunksWithin) (placed_each : PlacedEach) (unit_of_chunks : UnitOfChunks)
    (d : Decoding) (l : LayoutRecord) (unit : ℕ) (sides : HasSides d.state.page)
    (buf image : List ℕ) (has : HasUnitRoom d.state.page l unit (length buf))
    (read : (outcome.read_coding_unit_bytes d unit buf).answer ≡ Ok image) where
  abbrev p : PageRecord
  p = d.state.page

  abbrev used : ℕ
  used = planes_used p l (length buf)

  abbrev region : Region
  region = chunk_region p unit

  abbrev s : ℕ
  s = l.row_bytes

  abbrev h : ℕ
  h = (rect p unit).height

  is : IsLaid p (rect p unit).width h l
  is = is_laid d l unit has.laid has.listed

  plane_bytes : l.plane_stride ≡ s * h
  plane_bytes = is.stride ∙ ap (λ (z : ℕ). z * h) (sym is.rows)

  pub image_is : image ≡ bytes_with_region d.bytes d.order p l.color region s used buf
  image_is =
      let a = unit_gives d unit buf image read in
      let same : a.0 ≡ l = ok_is a.0 l (sym a.1.has.laid ∙ has.laid) in
      a.1.filled.bytes ∙ ap (λ (z : LayoutRecord). bytes_with_region d.bytes d.order p z.color region z.row_bytes (planes_used p z (length buf)) buf) same

  pub as_long : length image ≡ length buf
  as_long = ap length image_is ∙ (placed_each d.bytes d.order p l.color region s used buf).0

  pub stays : (at : ℕ) → used * l.plane_stride ≤ at → at < length buf
      → slice_index image at ≡ slice_index buf at
  stays at above below =
      let over : used * (s * h) ≤ at = subst (λ (z : ℕ). used * z ≤ at) plane_bytes above in
      ap (λ (z : List ℕ). slice_index z at) image_is
      ∙ (placed_each d.bytes d.order p l.color region s used buf).1 at below
      ∙ none_at d.bytes d.order p l.color region s used at (slice_index buf at)
      (past s h used at (row_bytes p l.color (rect p unit).width) (chunks_within p unit sides).some_row is.rows over)

  -- the planes that the slice holds lie in the slice
  in_slice : (n k : ℕ) → n < used → k < s * h → n * (s * h) + k < length buf
  in_slice n k nl kl =
      let u : used ≤ length buf / l.plane_stride = omega arith in
      let v : used * l.plane_stride ≤ length buf = whole_in (length buf) l.plane_stride used u in
      let w : used * (s * h) ≤ length buf =
      subst (λ (z : ℕ). used * z ≤ length buf) plane_bytes v in
      omega (arith, below_planes n used (s * h) k nl kl, w)

  module _ (plane : ℕ) (below : plane < used) where
    abbrev i : ℕ
    i = unit_chunk p unit plane

    chunk_plane : (rect p i).plane ≡ plane
    unfolding rect
    chunk_plane = div-mul-add plane (chunks_of_plane p) unit has.listed

    unit_plane : (rect p unit).plane ≡ 0
    unfolding rect
    unit_plane = div-eq_of_lt has.listed

    -- byte k of the plane, in the unit and in the chunk
    unit_byte : (k : ℕ) → k < s * h
        → slice_index image (plane * (s * h) + k)
        ≡ region_byte d.bytes d.order p l.color region plane (k / s) (k % s)
    unit_byte k kl =
        let e : (rect p unit).plane + plane ≡ plane = omega (arith, unit_plane) in
        ap (λ (z : List ℕ). slice_index z (plane * (s * h) + k)) image_is
        ∙ byte_placed placed_each d.bytes d.order p l.color region s used plane k buf is.rows kl below (in_slice plane k below kl)
        ∙ ap (λ (z : ℕ). region_byte d.bytes d.order p l.color region z (k / s) (k % s)) e

    module _ (part chunk : List ℕ) (of_chunk : (outcome.read_chunk_bytes d i part).answer ≡ Ok chunk) where
      abbrev of : Region
      of = chunk_region p i

      chunk_read : IsReadInto d.bytes d.order p d.state.limits (rect p i).width (rect p i).height
          (into d l unit has.laid has.listed i) part chunk l
      unfolding outcome.read_chunk_bytes pixels.read_chunk_bytes
      chunk_read =
          let a =
          read_gives d.bytes d.order p d.state.limits (rect p i).width (rect p i).height
          (into d l unit has.laid has.listed i) part chunk of_chunk in
          let same : a.0 ≡ l =
          ok_is a.0 l (sym a.1.laid ∙ chunk_laid d l unit has.laid has.listed plane) in
          subst (IsReadInto d.bytes d.order p d.state.limits (rect p i).width (rect p i).height (into d l unit has.laid has.listed i) part chunk) same a.1

      rows_is : s ≡ row_bytes p l.color (rect p i).width
      rows_is =
          is.rows ∙ ap (row_bytes p l.color) (sym (same_width d l unit has.laid has.listed plane))

      high_is : (rect p i).height ≡ h
      high_is = same_height d l unit has.laid has.listed plane

      chunk_byte : (k : ℕ) → k < s * h
          → slice_index chunk k ≡ region_byte d.bytes d.order p l.color of plane (k / s) (k % s)
      chunk_byte k kl =
          let kl' : k < s * (rect p i).height = subst (λ (z : ℕ). k < s * z) (sym high_is) kl in
          let from : k ≡ 0 * (s * (rect p i).height) + k = omega arith in
          let room : 0 * (s * (rect p i).height) + k < length part =
          omega (arith, kl, plane_bytes, chunk_read.room) in
          let one : 0 < 1 = omega arith in
          let e : (rect p i).plane + 0 ≡ plane = omega (arith, chunk_plane) in
          (λ t. slice_index (chunk_read.filled.bytes t) (from t))
          ∙ byte_placed placed_each d.bytes d.order p l.color of s 1 0 k part rows_is kl' one room
          ∙ ap (λ (z : ℕ). region_byte d.bytes d.order p l.color of z (k / s) (k % s)) e

      pub behind : IsBehind l plane chunk image
      behind = record {
        each = λ k kl.
            let kl' : k < s * h = omega (arith, kl, plane_bytes) in
            ap (λ (z : ℕ). slice_index image (plane * z + k)) plane_bytes
            ∙ unit_byte k kl'
            ∙ unit_of_chunks d.bytes d.order p l.color unit plane (k / s) (k % s) has.listed
            ∙ sym (chunk_byte k kl');
      }

  -- what the chunks make is the unit
  module _ (made : List ℕ) (is_made : IsMadeOfUnit d l unit buf made) where
    same_byte : (at : ℕ) → at < used * l.plane_stride → slice_index made at ≡ slice_index image at
    same_byte at below =
        let some : 0 < l.plane_stride = some_chunk at used l.plane_stride below in
        let n : ℕ = at / l.plane_stride in
        let k : ℕ = at % l.plane_stride in
        let nl : n < used = div_below at l.plane_stride used some below in
        let kl : k < l.plane_stride = mod_below at l.plane_stride some in
        let there : n * l.plane_stride + k ≡ at = div-add-mod' at l.plane_stride in
        let one = is_made.placed n nl in
        ap (slice_index made) (sym there)
        ∙ one.2.1.each k kl
        ∙ sym ((behind n nl one.0 one.1 one.2.0).each k kl)
        ∙ ap (slice_index image) there

    pub made_is : made ≡ image
    made_is =
        ext_get_or 0 made image (is_made.long ∙ sym as_long)
        (λ at under.
        let here : at < length buf = omega (arith, under, is_made.long) in
        ⊎_elim
        (λ (below : at < used * l.plane_stride). same_byte at below)
        (λ (above : used * l.plane_stride ≤ at). is_made.stays at above here
        ∙ sym (stays at above here))
        (cases_lt at (used * l.plane_stride)))

  -- the unit is made of the chunks
  pub is_made : ((plane : ℕ) → plane < used → IsChunkRead d l (unit_chunk p unit plane))
      → IsMadeOfUnit d l unit buf image
  is_made each = record {
    long = as_long;
    placed = λ plane below.
        let k : ℕ = unit_chunk p unit plane in
        let part : List ℕ = replicate (chunk_byte_count p l k) 0 in
        let room : chunk_byte_count p l k ≤ length part =
        omega (arith, length-replicate {A = ℕ} (chunk_byte_count p l k) 0) in
        let bytes = ok_or (outcome.read_chunk_bytes d k part).answer (each plane below part room) in
        (part, bytes.0, (bytes.1, behind plane below part bytes.0 bytes.1));
    stays = stays;
  }

module _ (chunks_within : ChunksWithin) (placed_each : PlacedEach) (unit_of_chunks : UnitOfChunks)
    (unit_where_chunks : UnitWhereChunks) where
  pub unit_is_its_chunks : UnitIsItsChunks
  unit_is_its_chunks d l unit buf made sides has = (
    λ read.
        let w =
        (unit_where_chunks d unit buf sides).0 (is_good (outcome.read_coding_unit_bytes d unit buf).answer made read) in
        let same : w.0 ≡ l = ok_is w.0 l (sym w.1.0.laid ∙ has.laid) in
        is_made chunks_within placed_each unit_of_chunks d l unit sides buf made has read
        (subst (λ (z : LayoutRecord). EachPlane d.state.page z unit (length buf) (IsChunkRead d z)) same w.1.1),
    λ is.
        let ok = (unit_where_chunks d unit buf sides).1 l has
        (λ plane below. ((is.placed plane below).0, is_good (outcome.read_chunk_bytes d (unit_chunk d.state.page unit plane) (is.placed plane below).0).answer (is.placed plane below).1 (is.placed plane below).2.0)) in
        let image = ok_or (outcome.read_coding_unit_bytes d unit buf).answer ok in
        image.1 ∙ ap good (sym (made_is chunks_within placed_each unit_of_chunks d l unit sides buf image.0 has image.1 made is)),
  )
