-- An image is read exactly if its chunks are.
use Rattle.std.proofs.Common.{◌≡◌, ℕ, ◌+◌, ◌-◌, ◌*◌, ◌/◌, ◌%◌, ◌^◌, ◌<◌, ◌≤◌, true, false, List, length, Ok, Err, refl, ap, sym, ◌∙◌, arith}
use Rattle.std.specs.Prelude.{Result, nat_lt}
use Rattle.std.specs.Result.{is_ok, IsOk}
use Rattle.std.proofs.lemmas.Bool.{lt-ltb, le-ltb}
use Rattle.std.proofs.lemmas.Nat.{mul-add-lt, div_below, mod_below, div-add-mod'}
use Rattle.std.proofs.Math.Nat.{mul_comm, mul-le-mul, mul-le-mul_right}
use Rattle.tiff_page.specs.lemmas.ChunkRows.{fewer_bytes}
use Rattle.tiff_base.specs.declared.color.ColorType.{ColorType}
use Rattle.tiff_base.specs.declared.error.TiffError.{TiffError}
use Rattle.tiff_base.specs.declared.tags.ByteOrder.{ByteOrder}
use Rattle.tiff_base.specs.Answers.{◌>>=◌}
use Rattle.tiff_ifd.specs.declared.limits.Limits.{Limits}
use Rattle.tiff_page.specs.Page.{PageRecord}
use Rattle.tiff_page.specs.Counts.{parts}
use Rattle.tiff_page.specs.Rect.{rect, chunks_of_plane}
use Rattle.tiff_page.specs.Layout.{LayoutRecord, layout_of, planes, row_bits, row_bytes, samples_in_chunk, wide, whole_chunks}
use Rattle.tiff_page.specs.PixelFault.{each_below, chunk_fault}
use Rattle.tiff_page.specs.Pixels.{is_short}
use Rattle.tiff_page.specs.Buffers.{planes_layout}
use Rattle.tiff_page.specs.PixelCalls as pixels
use Rattle.tiff_page.specs.PixelCalls.{Part, image_part, chunk_part, part_fault, room_fault, planes_used, bytes_with_region, fill_buffer}
use Rattle.tiff_page.specs.Laws.{HasSides, ChunkIsWithin, ChunksWithin, NoFault}
use Rattle.tiff_page.specs.lemmas.PassedChecks.{ok_is}
use Rattle.tiff_decode.specs.Machine.{Decoding}
use Rattle.tiff_decode.specs.Outcome as outcome
use Rattle.tiff_laws.specs.Whole.{HasRoom, EachUsed, IsChunkRead, ReadWhereChunks, chunk_row, chunk_byte_count}
use Rattle.tiff_laws.proofs.Whole.{some_chunk, plane_of}
use Rattle.tiff_laws.proofs.Laid.{IsLaid, laid, planes_laid, read_gives}

-- ---- the layout of a chunk

pub wide_is : (n : ℕ) → n < 2 ^ 64 → wide n ≡ Ok n
wide_is n h = let t : nat_lt n (2 ^ 64) ≡ true = lt-ltb n (2 ^ 64) h in rw t refl

-- a length of at most one chunk takes at most one chunk
pub one_part : (w n : ℕ) → 0 < n → w ≤ n → parts w n ≤ 1
one_part w n p h =
    let a : (w + n - 1) / n < 2 = div_below (w + n - 1) n 2 p (omega (arith, h, p)) in
    omega (arith, a)

pub aligned_alone : (p : PageRecord) (c : ColorType) (w : ℕ) → 0 < p.chunk_width → w ≤ p.chunk_width
    → whole_chunks p c w ≡ Ok c
aligned_alone p c w some h =
    let t : nat_lt 1 (parts w p.chunk_width) ≡ false =
    le-ltb 1 (parts w p.chunk_width) (one_part w p.chunk_width some h) in
    rw t refl

module _ (p : PageRecord) (l : LayoutRecord) (sides : HasSides p)
    (whole : planes_layout p p.width p.height ≡ Ok l) (i : ℕ) (inside : ChunkIsWithin p i) where
  abbrev pub chunk_layout : LayoutRecord
  chunk_layout =
      record { color = l.color; row_bytes = chunk_row p l i; plane_stride = chunk_byte_count p l i }

  is_laid : IsLaid p p.width p.height l
  is_laid = laid p p.width p.height l (planes_laid p p.width p.height l whole).0

  no_wider : (rect p i).width ≤ p.chunk_width
  unfolding rect
  no_wider = omega arith

  row_less : chunk_row p l i ≤ row_bytes p l.color p.width
  unfolding row_bits
  row_less =
      fewer_bytes (rect p i).width p.width p.depth (samples_in_chunk p.planar l.color)
      (omega (arith, inside.columns))

  plane_less : chunk_byte_count p l i ≤ row_bytes p l.color p.width * p.height
  plane_less = mul-le-mul row_less (omega (arith, inside.rows))

  -- the layout of the chunk
  pub chunk_laid : planes_layout p (rect p i).width (rect p i).height ≡ Ok chunk_layout
  unfolding planes_layout layout_of
  chunk_laid =
      let a : chunk_row p l i * p.chunk_height ≤ row_bytes p l.color p.width * p.chunk_height =
      mul-le-mul_right p.chunk_height row_less in
      let tall : wide (chunk_row p l i * p.chunk_height) ≡ Ok (chunk_row p l i * p.chunk_height) =
      wide_is (chunk_row p l i * p.chunk_height) (omega (arith, a, is_laid.tall)) in
      let few : wide (chunk_byte_count p l i) ≡ Ok (chunk_byte_count p l i) =
      wide_is (chunk_byte_count p l i) (omega (arith, plane_less, is_laid.few)) in
      let alone : whole_chunks p l.color (rect p i).width ≡ Ok l.color =
      aligned_alone p l.color (rect p i).width sides.chunk_wide no_wider in
      let n : ℕ = planes p.planar l.color in
      let b : chunk_byte_count p l i * n ≤ l.plane_stride * n =
      mul-le-mul_right n (omega (arith, plane_less, is_laid.stride)) in
      let all : wide (chunk_byte_count p l i * n) ≡ Ok (chunk_byte_count p l i * n) =
      wide_is (chunk_byte_count p l i * n) (omega (arith, b, (planes_laid p p.width p.height l whole).1)) in
      rw (is_laid.color, tall, few, alone, is_laid.chroma.1, all) refl

-- ---- errors of chunks

pub ok_or : (r : Result (List ℕ) TiffError) → IsOk r → (x : List ℕ) × (r ≡ Ok x)
ok_or (Ok x) h = (x, refl)
ok_or (Err e) h = cc

pub is_good : (r : Result (List ℕ) TiffError) (x : List ℕ) → r ≡ Ok x → IsOk r
is_good r x h = ap is_ok h

pub has_room : (provided needed : ℕ) → needed ≤ provided → room_fault provided needed ≡ Ok tt
has_room provided needed h =
    let t : nat_lt provided needed ≡ false = le-ltb provided needed h in rw t refl

module _ (file : List ℕ) (order : ByteOrder) (p : PageRecord) (limits : Limits) where
  abbrev pub fault_of : ColorType → ℕ → Result (Unit {0}) TiffError
  fault_of color i = chunk_fault p limits (is_short file order p color) color i

  -- a part without an error is read
  pub fills : (color : ColorType) (part : Part) (buf : List ℕ)
      → part_fault file order p limits color part ≡ Ok tt
      → fill_buffer file order p limits color part buf
      ≡ Ok (bytes_with_region file order p color part.region part.stride part.planes buf)
  unfolding fill_buffer
  fills color part buf none = rw none refl

  -- a slice with room for the part is read
  pub read_into : (width height : ℕ) (part : LayoutRecord → Part) (buf : List ℕ) (l : LayoutRecord)
      → planes_layout p width height ≡ Ok l
      → l.plane_stride ≤ length buf → part_fault file order p limits l.color (part l) ≡ Ok tt
      → IsOk (planes_layout p width height >>= (λ l. room_fault (length buf) l.plane_stride
      >>= (λ _. fill_buffer file order p limits l.color (part l) buf)))
  read_into width height part buf l whole room none =
      let a : room_fault (length buf) l.plane_stride ≡ Ok tt =
      has_room (length buf) l.plane_stride room in
      let b : fill_buffer file order p limits l.color (part l) buf
      ≡ Ok (bytes_with_region file order p l.color (part l).region (part l).stride (part l).planes buf) = fills l.color (part l) buf none in
      rw (whole, a, b) refl

  -- the chunk is the only one of its part
  pub one_fault : (color : ColorType) (i s : ℕ)
      → part_fault file order p limits color (chunk_part p i 1 s) ≡ fault_of color i
  one_fault color i s =
      let e : 0 * chunks_of_plane p + (i + 0) ≡ i = omega arith in ap (fault_of color) e

  module _ (no_fault : NoFault) (color : ColorType) (used s : ℕ) where
    abbrev pub of_column : ℕ → Result (Unit {0}) TiffError
    of_column j = each_below (λ plane. fault_of color (plane * chunks_of_plane p + (0 + j))) used

    -- an image without an error has no chunk with an error
    pub none_has : part_fault file order p limits color (image_part p used s) ≡ Ok tt
        → (i : ℕ) → i < used * chunks_of_plane p → fault_of color i ≡ Ok tt
    none_has none i l =
        let c : ℕ = chunks_of_plane p in
        let column : of_column (i % c) ≡ Ok tt =
        (no_fault of_column c).0 none (i % c) (mod_below i c (some_chunk i used c l)) in
        let at : fault_of color (i / c * c + (0 + i % c)) ≡ Ok tt =
        (no_fault (λ plane. fault_of color (plane * c
        + (0 + i % c))) used).0 column (i / c) (plane_of i used c l) in
        let e : i ≡ i / c * c + (0 + i % c) = omega (arith, div-add-mod' i c) in
        ap (fault_of color) e ∙ at

    pub none_have : ((i : ℕ) → i < used * chunks_of_plane p → fault_of color i ≡ Ok tt)
        → part_fault file order p limits color (image_part p used s) ≡ Ok tt
    none_have each =
        let c : ℕ = chunks_of_plane p in
        (no_fault of_column c).1
        (λ j jl.
        (no_fault (λ plane. fault_of color (plane * c + (0 + j))) used).1
        (λ plane l.
        let below : plane * c + j < c * used = mul-add-lt plane c j used l jl in
        each (plane * c + (0 + j)) (omega (arith, below, mul_comm c used))))

-- ---- reads

module _ (within_image : ChunksWithin) (no_fault : NoFault) where
  module _ (d : Decoding) (sides : HasSides d.state.page) (l : LayoutRecord)
      (whole : planes_layout d.state.page d.state.page.width d.state.page.height ≡ Ok l) where
    abbrev p : PageRecord
    p = d.state.page

    abbrev fault : ℕ → Result (Unit {0}) TiffError
    fault i = fault_of d.bytes d.order p d.state.limits l.color i

    -- a chunk without an error is read
    pub chunk_read : (i : ℕ) → fault i ≡ Ok tt → IsChunkRead d l i
    unfolding outcome.read_chunk_bytes pixels.read_chunk_bytes
    chunk_read i none part room =
        read_into d.bytes d.order p d.state.limits (rect p i).width (rect p i).height
        (λ layout. chunk_part p i 1 layout.row_bytes) part
        (chunk_layout p l sides whole i (within_image p i sides)) (chunk_laid p l sides whole i (within_image p i sides)) room
        (one_fault d.bytes d.order p d.state.limits l.color i (chunk_row p l i) ∙ none)

    -- a chunk that is read has no error
    pub chunk_none : (i : ℕ) (part : List ℕ) → IsOk (outcome.read_chunk_bytes d i part).answer
        → fault i ≡ Ok tt
    unfolding outcome.read_chunk_bytes pixels.read_chunk_bytes
    chunk_none i part ok =
        let bytes = ok_or (outcome.read_chunk_bytes d i part).answer ok in
        let a =
        read_gives d.bytes d.order p d.state.limits (rect p i).width (rect p i).height
        (λ layout. chunk_part p i 1 layout.row_bytes) part bytes.0 bytes.1 in
        let is : IsLaid p (rect p i).width (rect p i).height a.0 =
        laid p (rect p i).width (rect p i).height a.0 (planes_laid p (rect p i).width (rect p i).height a.0 a.1.laid).0 in
        let is' : IsLaid p p.width p.height l =
        laid p p.width p.height l (planes_laid p p.width p.height l whole).0 in
        let color : l.color ≡ a.0.color = ok_is l.color a.0.color (sym is'.color ∙ is.color) in
        ap (λ (c : ColorType). fault_of d.bytes d.order p d.state.limits c i) color
        ∙ sym (one_fault d.bytes d.order p d.state.limits a.0.color i a.0.row_bytes)
        ∙ a.1.filled.none

  image_then_chunks : (d : Decoding) (buf : List ℕ) → HasSides d.state.page
      → IsOk (outcome.read_image_bytes d buf).answer
      → (layout : LayoutRecord) × (HasRoom d.state.page layout (length buf)
      × EachUsed d.state.page layout (length buf) (IsChunkRead d layout))
  unfolding outcome.read_image_bytes pixels.read_image_bytes
  image_then_chunks d buf sides ok =
      let page : PageRecord = d.state.page in
      let bytes = ok_or (outcome.read_image_bytes d buf).answer ok in
      let into : LayoutRecord → Part =
      λ layout. image_part page (planes_used page layout (length buf)) layout.row_bytes in
      let a =
      read_gives d.bytes d.order page d.state.limits page.width page.height into buf bytes.0 bytes.1 in (
        a.0,
        (
          record { laid = a.1.laid; room = a.1.room },
          λ i below. chunk_read d sides a.0 a.1.laid i
              (none_has d.bytes d.order page d.state.limits no_fault a.0.color (planes_used page a.0 (length buf)) a.0.row_bytes a.1.filled.none i below),
        ),
      )

  chunks_then_image : (d : Decoding) (buf : List ℕ) → HasSides d.state.page
      → (layout : LayoutRecord) → HasRoom d.state.page layout (length buf)
      → EachUsed d.state.page layout (length buf) (λ i. (part : List ℕ)
      × IsOk (outcome.read_chunk_bytes d i part).answer)
      → IsOk (outcome.read_image_bytes d buf).answer
  unfolding outcome.read_image_bytes pixels.read_image_bytes
  chunks_then_image d buf sides l room each =
      let page : PageRecord = d.state.page in
      let into : LayoutRecord → Part =
      λ layout. image_part page (planes_used page layout (length buf)) layout.row_bytes in
      read_into d.bytes d.order page d.state.limits page.width page.height into buf l room.laid room.room
      (none_have d.bytes d.order page d.state.limits no_fault l.color (planes_used page l (length buf)) l.row_bytes
      (λ i below. chunk_none d sides l room.laid i (each i below).0 (each i below).1))

  pub read_where_chunks : ReadWhereChunks
  read_where_chunks d buf sides = (image_then_chunks d buf sides, chunks_then_image d buf sides)
