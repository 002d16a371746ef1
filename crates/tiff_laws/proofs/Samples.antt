-- Samples are the numbers of the bytes that are read into a slice of zeros.
use Rattle.std.proofs.Common.{◌≡◌, ℕ, ◌+◌, ◌*◌, ◌/◌, ◌<◌, ◌≤◌, min, Bool, true, false, List, length, Ok, Err, refl, ap, sym, subst, ◌∙◌, arith}
use Rattle.std.specs.Prelude.{Result, if◌then◌else◌, nat_le, replicate}
use Rattle.std.proofs.lemmas.List.{length-replicate}
use Rattle.std.proofs.lemmas.Nat.{div-mul-add}
use Rattle.std.proofs.Math.Nat.{mul_comm, mul-le-mul_right}
use Rattle.tiff_base.specs.declared.color.ColorType.{ColorType}
use Rattle.tiff_base.specs.declared.error.TiffError.{TiffError}
use Rattle.tiff_base.specs.declared.tags.ByteOrder.{ByteOrder}
use Rattle.tiff_base.specs.declared.tags.PlanarConfiguration.{PlanarConfiguration}
use Rattle.tiff_base.specs.declared.tags.PlanarConfiguration.TheVariants.{Chunky, Planar}
use Rattle.tiff_base.specs.Answers.{◌>>=◌}
use Rattle.tiff_base.specs.Color.{num_samples}
use Rattle.tiff_ifd.specs.declared.limits.Limits.{Limits}
use Rattle.tiff_page.specs.declared.layout.BufferLayoutPreference.{BufferLayoutPreference}
use Rattle.tiff_page.specs.Page.{PageRecord}
use Rattle.tiff_page.specs.Rect.{rect}
use Rattle.tiff_page.specs.Layout.{LayoutRecord, layout_of, planes}
use Rattle.tiff_page.specs.Image.{Decoded}
use Rattle.tiff_page.specs.Buffers.{planes_layout, all_planes}
use Rattle.tiff_page.specs.PixelCalls as pixels
use Rattle.tiff_page.specs.PixelCalls.{Part, image_part, chunk_part, room_fault, planes_used, fill_buffer, samples}
use Rattle.tiff_page.specs.Laws.{HasSides, SomeBytes}
use Rattle.tiff_page.specs.lemmas.Planes.{Shows, color_shows}
use Rattle.tiff_decode.specs.Machine.{Decoding}
use Rattle.tiff_decode.specs.Outcome as outcome
use Rattle.tiff_laws.specs.Sides.{HasSamples}
use Rattle.tiff_laws.specs.Samples.{numbers_by, image_read, chunk_read, planes_let, ImageByBytes, BufferByBytes, ChunkByBytes}
use Rattle.tiff_laws.proofs.Laid.{laid, planes_laid}
use Rattle.tiff_laws.proofs.WhereChunks.{has_room}

-- two chains that go on in the same way
pub same_after : {A B : Type 0} (r : Result A TiffError) (f g : A → Result B TiffError)
    → ((x : A) → r ≡ Ok x → f x ≡ g x) → (r >>= f) ≡ (r >>= g)
same_after (Ok x) f g h = h x refl
same_after (Err e) f g h = refl

planes_some : (planar : PlanarConfiguration) (c : ColorType) → 0 < num_samples c
    → 0 < planes planar c
planes_some Chunky c h = omega arith
planes_some Planar c h = h

pub all_or_one : (b : Bool) (all : ℕ) → 0 < all
    → (0 < (if b then all else 1)) × ((if b then all else 1) ≤ all)
all_or_one true all h = (h, omega arith)
all_or_one false all h = (omega arith, omega (arith, h))

-- a slice of the bytes of a number of planes holds these planes whole
pub used_of : (all used size : ℕ) → used ≤ all → 0 < size → min all (size * used / size) ≡ used
used_of all used size l some =
    let a : size * used ≡ used * size + 0 = omega (arith, mul_comm size used) in
    let b : size * used / size ≡ used = ap (λ (z : ℕ). z / size) a ∙ div-mul-add used size 0 some in
    omega (arith, b, l)

module _ (file : List ℕ) (order : ByteOrder) (p : PageRecord) (limits : Limits) (width height : ℕ)
    (part : LayoutRecord → Part) (buf : List ℕ) (l : LayoutRecord)
    (whole : planes_layout p width height ≡ Ok l) (room : l.plane_stride ≤ length buf) where
  -- with a layout and room, a slice is filled
  pub fills_part : (planes_layout p width height
      >>= (λ l. room_fault (length buf) l.plane_stride >>= (λ _. fill_buffer file order p limits l.color (part l) buf)))
      ≡ fill_buffer file order p limits l.color (part l) buf
  fills_part =
      let a : room_fault (length buf) l.plane_stride ≡ Ok tt =
      has_room (length buf) l.plane_stride room in rw (whole, a) refl

module _ (some_bytes : SomeBytes) (d : Decoding) (sides : HasSides d.state.page)
    (has : HasSamples d.state.page) (l : LayoutRecord) (whole : planes_layout d.state.page d.state.page.width d.state.page.height ≡ Ok l) where
  abbrev p : PageRecord
  p = d.state.page

  given : layout_of p p.width p.height ≡ Ok l
  given = (planes_laid p p.width p.height l whole).0

  pub some_plane : 0 < l.plane_stride
  some_plane =
      (some_bytes p p.width p.height l sides.wide sides.high has.has_bits has.sampled given).1

  pub all_some : 0 < planes p.planar l.color
  all_some =
      let shows : 0 < num_samples l.color =
      subst Shows (laid p p.width p.height l given).color (color_shows p has.sampled) in
      planes_some p.planar l.color shows

  module _ (used : ℕ) (some : 0 < used) (few : used ≤ planes p.planar l.color) where
    abbrev zeros : List ℕ
    zeros = replicate (l.plane_stride * used) 0

    long : length zeros ≡ l.plane_stride * used
    long = length-replicate {A = ℕ} (l.plane_stride * used) 0

    room : l.plane_stride ≤ length zeros
    room =
        let a : 1 * l.plane_stride ≤ used * l.plane_stride =
        mul-le-mul_right l.plane_stride (omega (arith, some)) in
        omega (arith, a, long, mul_comm l.plane_stride used)

    used_is : planes_used p l (length zeros) ≡ used
    used_is =
        ap (λ (z : ℕ). min (planes p.planar l.color) (z / l.plane_stride)) long
        ∙ used_of (planes p.planar l.color) used l.plane_stride few some_plane

    pub bytes_are : image_read d zeros
        ≡ fill_buffer d.bytes d.order p d.state.limits l.color (image_part p used l.row_bytes) zeros
    unfolding outcome.read_image_bytes pixels.read_image_bytes
    bytes_are =
        fills_part d.bytes d.order p d.state.limits p.width p.height (λ layout. image_part p (planes_used p layout (length zeros)) layout.row_bytes) zeros l whole room
        ∙ (λ k. fill_buffer d.bytes d.order p d.state.limits l.color (image_part p (used_is k) l.row_bytes) zeros)

    pub numbers_are : samples d.bytes d.order p d.state.limits l.color
        (image_part p used l.row_bytes) (l.plane_stride * used)
        ≡ numbers_by d (image_read d) (l.plane_stride * used)
    unfolding samples
    numbers_are =
        ap (λ (r : Result (List ℕ) TiffError). numbers_by d (λ _. r) (l.plane_stride * used)) (sym bytes_are)

  -- one plane
  pub first_numbers : samples d.bytes d.order p d.state.limits l.color
      (image_part p 1 l.row_bytes) l.plane_stride
      ≡ numbers_by d (image_read d) l.plane_stride
  first_numbers =
      let e : l.plane_stride * 1 ≡ l.plane_stride = omega arith in
      subst (λ (z : ℕ). samples d.bytes d.order p d.state.limits l.color (image_part p 1 l.row_bytes) z ≡ numbers_by d (image_read d) z) e
      (numbers_are 1 (omega arith) (omega (arith, all_some)))

  -- the planes within the limit
  pub let_numbers : samples d.bytes d.order p d.state.limits l.color
      (image_part p (planes_let d l) l.row_bytes) (l.plane_stride * planes_let d l)
      ≡ numbers_by d (image_read d) (l.plane_stride * planes_let d l)
  let_numbers =
      let all : ℕ = planes p.planar l.color in
      let a =
      all_or_one (nat_le (l.plane_stride * all) d.state.limits.decoding_buffer_size) all all_some in
      numbers_are (planes_let d l) a.0 a.1

pub image_by : SomeBytes → ImageByBytes
unfolding outcome.read_image pixels.image_of
image_by some_bytes d sides has =
    let p : PageRecord = d.state.page in
    same_after (planes_layout p p.width p.height)
    (λ (l : LayoutRecord). samples d.bytes d.order p d.state.limits l.color (image_part p 1 l.row_bytes) l.plane_stride)
    (λ (l : LayoutRecord). numbers_by d (image_read d) l.plane_stride)
    (λ l whole. first_numbers some_bytes d sides has l whole)

pub buffer_by : SomeBytes → BufferByBytes
unfolding outcome.read_image_to_buffer pixels.read_image_to_buffer
buffer_by some_bytes d sides has =
    let p : PageRecord = d.state.page in
    let named : LayoutRecord → Decoded → Result (BufferLayoutPreference × Decoded) TiffError =
    λ l numbers. Ok (all_planes p l, numbers) in
    same_after (planes_layout p p.width p.height)
    (λ (l : LayoutRecord). samples d.bytes d.order p d.state.limits l.color (image_part p (planes_let d l) l.row_bytes) (l.plane_stride * planes_let d l) >>= named l)
    (λ (l : LayoutRecord). numbers_by d (image_read d) (l.plane_stride * planes_let d l)
    >>= named l)
    (λ l whole. ap (λ (r : Result Decoded TiffError). r
    >>= named l) (let_numbers some_bytes d sides has l whole))

pub chunk_by : ChunkByBytes
unfolding outcome.read_chunk outcome.read_chunk_bytes pixels.read_chunk pixels.read_chunk_bytes samples
chunk_by d i =
    let p : PageRecord = d.state.page in
    let into : LayoutRecord → Part = λ layout. chunk_part p i 1 layout.row_bytes in
    same_after (planes_layout p (rect p i).width (rect p i).height)
    (λ (l : LayoutRecord). samples d.bytes d.order p d.state.limits l.color (into l) l.plane_stride)
    (λ (l : LayoutRecord). numbers_by d (chunk_read d i) l.plane_stride)
    (λ l whole.
    let zeros : List ℕ = replicate l.plane_stride 0 in
    let room : l.plane_stride ≤ length zeros =
    omega (arith, length-replicate {A = ℕ} l.plane_stride 0) in
    ap (λ (r : Result (List ℕ) TiffError). numbers_by d (λ _. r) l.plane_stride)
    (sym (fills_part d.bytes d.order p d.state.limits (rect p i).width (rect p i).height into zeros l whole room)))
