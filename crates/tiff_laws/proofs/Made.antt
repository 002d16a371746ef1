-- An image that is read whole is what its chunks make, read one by one and placed.
use Rattle.std.proofs.Common.{◌≡◌, ℕ, Some, None, ◌+◌, ◌*◌, ◌/◌, ◌%◌, ◌<◌, ◌≤◌, Bool, true, false, List, length, Ok, refl, ap, sym, subst, ◌∙◌, ◌⊎◌, inl, inr, ⊎_elim, arith}
use Rattle.std.specs.Prelude.{◌&&◌, if◌then◌else◌, nat_lt, replicate, slice_index, unwrap_or}
use Rattle.std.proofs.lemmas.Bool.{cases_lt, le-ltb}
use Rattle.std.proofs.lemmas.List.{ext_get_or, length-replicate}
use Rattle.std.proofs.Math.Nat.{le-div_iff_mul-le, one-le-mul}
use Rattle.tiff_base.specs.declared.color.ColorType.{ColorType}
use Rattle.tiff_base.specs.declared.tags.ByteOrder.{ByteOrder}
use Rattle.tiff_ifd.specs.declared.limits.Limits.{Limits}
use Rattle.tiff_page.specs.Page.{PageRecord}
use Rattle.tiff_page.specs.Layout.{LayoutRecord, layout_of, row_bytes}
use Rattle.tiff_page.specs.Pixels.{Region, byte_at, region_byte, image_region}
use Rattle.tiff_page.specs.PixelCalls as pixels
use Rattle.tiff_page.specs.PixelCalls.{Part, image_part, planes_used, bytes_with_region}
use Rattle.tiff_page.specs.Laws.{HasSides, PlacedEach}
use Rattle.tiff_page.specs.lemmas.PassedChecks.{good, ok_is}
use Rattle.tiff_decode.specs.Machine.{Decoding}
use Rattle.tiff_decode.specs.Outcome as outcome
use Rattle.tiff_laws.specs.Whole.{EachUsed, HasRoom, IsChunkRead, IsLayout, IsMadeOfChunks, ByteIsOfChunk, ImageIsItsChunks, PlaneOfChunks, PlanesCovered, ReadWhereChunks, at_image, chunk_byte_count}
use Rattle.tiff_laws.proofs.Laid.{IsLaid, IsReadInto, laid, planes_laid, read_gives}
use Rattle.tiff_laws.proofs.WhereChunks.{ok_or, is_good}

pub none_found : (a b : Bool) (x v : ℕ) → (a ≡ false) ⊎ (b ≡ false)
    → unwrap_or (if a && b then Some x else None) v ≡ v
none_found false b x v h = refl
none_found true false x v h = refl
none_found true true x v (inl h) = cc
none_found true true x v (inr h) = cc

-- after the planes there is no byte of the region
pub none_at : (file : List ℕ) (order : ByteOrder) (p : PageRecord) (color : ColorType)
    (region : Region) (stride planes at v : ℕ)
    → (planes ≤ at / (stride * region.height)) ⊎ (row_bytes p color region.width ≤ at % stride)
    → unwrap_or (byte_at file order p color region stride planes at) v ≡ v
unfolding byte_at
none_at file order p color region stride planes at v h =
    let plane : ℕ = at / (stride * region.height) in
    none_found (nat_lt plane planes) (nat_lt (at % stride) (row_bytes p color region.width))
    (region_byte file order p color region (region.plane
    + plane) (at % (stride * region.height) / stride) (at % stride)) v
    (⊎_elim
    (λ (a : planes ≤ plane). inl (le-ltb plane planes a))
    (λ (b : row_bytes p color region.width ≤ at % stride). inr (le-ltb (at % stride) (row_bytes p color region.width) b))
    h)

-- a position after the planes is past them, or past its row
pub past : (s h planes at row : ℕ) → 0 < h → s ≡ row → planes * (s * h) ≤ at
    → (planes ≤ at / (s * h)) ⊎ (row ≤ at % s)
past s h planes at row some e l =
    ⊎_elim
    (λ (t : 0 < s). inl ((le-div_iff_mul-le {k = s * h} {x = planes} {y = at} (one-le-mul t some)).1 l))
    (λ (t : s ≤ 0). inr (omega (arith, t, e)))
    (cases_lt 0 s)

module _ (placed_each : PlacedEach) (file : List ℕ) (order : ByteOrder) (p : PageRecord)
    (limits : Limits) (l : LayoutRecord) (sides : HasSides p) (given : layout_of p p.width p.height ≡ Ok l) (buf image : List ℕ) where
  abbrev count : ℕ
  count = planes_used p l (length buf)

  abbrev pub into : LayoutRecord → Part
  into layout = image_part p (planes_used p layout (length buf)) layout.row_bytes

  module _ (read : IsReadInto file order p limits p.width p.height into buf image l) where
    abbrev all : List ℕ
    all = bytes_with_region file order p l.color (image_region p) l.row_bytes count buf

    pub as_long : length image ≡ length buf
    as_long =
        ap length read.filled.bytes ∙ (placed_each file order p l.color (image_region p) l.row_bytes count buf).0

    pub stays : (at : ℕ) → count * l.plane_stride ≤ at → at < length buf
        → slice_index image at ≡ slice_index buf at
    stays at above below =
        let is : IsLaid p p.width p.height l = laid p p.width p.height l given in
        let stride : l.plane_stride ≡ l.row_bytes * p.height =
        is.stride ∙ ap (λ (z : ℕ). z * p.height) (sym is.rows) in
        let over : count * (l.row_bytes * p.height) ≤ at =
        subst (λ (z : ℕ). count * z ≤ at) stride above in
        ap (λ (z : List ℕ). slice_index z at) read.filled.bytes
        ∙ (placed_each file order p l.color (image_region p) l.row_bytes count buf).1 at below
        ∙ none_at file order p l.color (image_region p) l.row_bytes count at (slice_index buf at)
        (past l.row_bytes p.height count at (row_bytes p l.color p.width) sides.high is.rows over)

module _ (placed_each : PlacedEach) (plane_of_chunks : PlaneOfChunks) (planes_covered : PlanesCovered) where
  image_byte : (d : Decoding) (l : LayoutRecord) (buf image made : List ℕ) → HasSides d.state.page
      → IsLayout d.state.page l
      → (outcome.read_image_bytes d buf).answer ≡ Ok image → IsMadeOfChunks d l buf made
      → (at : ℕ) → at < planes_used d.state.page l (length buf) * l.plane_stride
      → slice_index made at ≡ slice_index image at
  image_byte d l buf image made sides given read is at below =
      let p : PageRecord = d.state.page in
      let of : ByteIsOfChunk p l (planes_used p l (length buf)) at =
      planes_covered p l (planes_used p l (length buf)) at sides given below in
      let one = is.placed of.chunk of.used in
      let e : slice_index image (at_image p l of.chunk of.row of.byte)
      ≡ slice_index made (at_image p l of.chunk of.row of.byte) =
      (plane_of_chunks d l buf image one.0 one.1 of.chunk sides given of.used read one.2.0).each of.row of.byte of.in_chunk of.in_row
      ∙ sym (one.2.1.each of.row of.byte of.in_chunk of.in_row) in
      ap (slice_index made) of.here ∙ sym e ∙ sym (ap (slice_index image) of.here)

  module _ (d : Decoding) (l : LayoutRecord) (buf image : List ℕ) (sides : HasSides d.state.page)
      (given : IsLayout d.state.page l) (read : (outcome.read_image_bytes d buf).answer ≡ Ok image) where
    abbrev page : PageRecord
    page = d.state.page

    abbrev to : LayoutRecord → Part
    to = into placed_each d.bytes d.order page d.state.limits l sides given buf image

    is_read : IsReadInto d.bytes d.order page d.state.limits page.width page.height to buf image l
    unfolding outcome.read_image_bytes pixels.read_image_bytes
    is_read =
        let a =
        read_gives d.bytes d.order page d.state.limits page.width page.height to buf image read in
        let same : a.0 ≡ l =
        ok_is a.0 l (sym (planes_laid page page.width page.height a.0 a.1.laid).0 ∙ given) in
        subst (IsReadInto d.bytes d.order page d.state.limits page.width page.height to buf image) same a.1

    length_is : length image ≡ length buf
    length_is =
        as_long placed_each d.bytes d.order page d.state.limits l sides given buf image is_read

    past_is : (at : ℕ) → planes_used page l (length buf) * l.plane_stride ≤ at → at < length buf
        → slice_index image at ≡ slice_index buf at
    past_is = stays placed_each d.bytes d.order page d.state.limits l sides given buf image is_read

    -- what the chunks make is the image
    pub made_is : (made : List ℕ) → IsMadeOfChunks d l buf made → made ≡ image
    made_is made is =
        ext_get_or 0 made image (is.long ∙ sym length_is)
        (λ at under.
        let here : at < length buf = omega (arith, under, is.long) in
        ⊎_elim
        (λ (below : at < planes_used page l (length buf) * l.plane_stride). image_byte d l buf image made sides given read is at below)
        (λ (above : planes_used page l (length buf) * l.plane_stride ≤ at). is.stays at above here
        ∙ sym (past_is at above here))
        (cases_lt at (planes_used page l (length buf) * l.plane_stride)))

    -- the image is made of the chunks
    pub is_made : EachUsed page l (length buf) (IsChunkRead d l) → IsMadeOfChunks d l buf image
    is_made each = record {
      long = length_is;
      placed = λ i below.
          let part : List ℕ = replicate (chunk_byte_count page l i) 0 in
          let room : chunk_byte_count page l i ≤ length part =
          omega (arith, length-replicate {A = ℕ} (chunk_byte_count page l i) 0) in
          let bytes = ok_or (outcome.read_chunk_bytes d i part).answer (each i below part room) in
          (part, bytes.0, (bytes.1, plane_of_chunks d l buf image part bytes.0 i sides given below read bytes.1));
      stays = past_is;
    }

  module _ (read_where_chunks : ReadWhereChunks) where
    -- each chunk of an image that is read is read
    each_read : (d : Decoding) (l : LayoutRecord) (buf image : List ℕ) → HasSides d.state.page
        → HasRoom d.state.page l (length buf)
        → (outcome.read_image_bytes d buf).answer ≡ Ok image
        → EachUsed d.state.page l (length buf) (IsChunkRead d l)
    each_read d l buf image sides room read =
        let w =
        (read_where_chunks d buf sides).0 (is_good (outcome.read_image_bytes d buf).answer image read) in
        let same : w.0 ≡ l = ok_is w.0 l (sym w.1.0.laid ∙ room.laid) in
        subst (λ (z : LayoutRecord). EachUsed d.state.page z (length buf) (IsChunkRead d z)) same w.1.1

    pub image_is_its_chunks : ImageIsItsChunks
    image_is_its_chunks d l buf made sides room =
        let p : PageRecord = d.state.page in
        let given : IsLayout p l = (planes_laid p p.width p.height l room.laid).0 in (
          λ read. is_made d l buf made sides given read (each_read d l buf made sides room read),
          λ is.
              let ok = (read_where_chunks d buf sides).1 l room
              (λ i below. ((is.placed i below).0, is_good (outcome.read_chunk_bytes d i (is.placed i below).0).answer (is.placed i below).1 (is.placed i below).2.0)) in
              let image = ok_or (outcome.read_image_bytes d buf).answer ok in
              image.1 ∙ ap good (sym (made_is d l buf image.0 sides given image.1 made is)),
        )
