-- An image is refused with the error of the first chunk that is refused.
use Rattle.std.proofs.Common.{◌≡◌, ℕ, ◌+◌, ◌*◌, ◌<◌, ◌≤◌, List, length, Ok, Err, refl, ap, sym, ◌∙◌, arith}
use Rattle.std.specs.Prelude.{Result, replicate}
use Rattle.std.proofs.lemmas.List.{length-replicate}
use Rattle.tiff_base.specs.declared.error.TiffError.{TiffError}
use Rattle.tiff_base.specs.declared.tags.ByteOrder.{ByteOrder}
use Rattle.tiff_base.specs.Answers.{◌>>=◌}
use Rattle.tiff_ifd.specs.declared.limits.Limits.{Limits}
use Rattle.tiff_page.specs.Page.{PageRecord}
use Rattle.tiff_page.specs.Rect.{rect, chunks_of_plane}
use Rattle.tiff_page.specs.Layout.{LayoutRecord}
use Rattle.tiff_page.specs.PixelFault.{each_below}
use Rattle.tiff_page.specs.Buffers.{planes_layout}
use Rattle.tiff_page.specs.PixelCalls as pixels
use Rattle.tiff_page.specs.PixelCalls.{Part, image_part, chunk_part, part_fault, room_fault, planes_used, bytes_with_region, fill_buffer}
use Rattle.tiff_page.specs.Laws.{HasSides, IsFirst, ChunksWithin, NoFault, FirstFault}
use Rattle.tiff_decode.specs.Machine.{Decoding}
use Rattle.tiff_decode.specs.Outcome as outcome
use Rattle.tiff_laws.specs.Whole.{IsChunkRead, IsChunkRefused, IsFirstRefused, RefusedWhereChunks, chunk_row, chunk_byte_count}
use Rattle.tiff_laws.proofs.WhereChunks.{fault_of, chunk_layout, chunk_laid, chunk_read, chunk_none, one_fault, has_room}

-- ---- refused reads

pub fault_first : (r : Result (Unit {0}) TiffError) (x : List ℕ) (e : TiffError)
    → (r >>= (λ _. Ok x)) ≡ Err e → r ≡ Err e
fault_first (Ok u) x e h = cc
fault_first (Err f) x e h = cc

module _ (file : List ℕ) (order : ByteOrder) (p : PageRecord) (limits : Limits) (width height : ℕ)
    (part : LayoutRecord → Part) (buf : List ℕ) (l : LayoutRecord)
    (whole : planes_layout p width height ≡ Ok l) (room : l.plane_stride ≤ length buf) where
  abbrev answer : Result (List ℕ) TiffError
  answer =
      planes_layout p width height >>= (λ l. room_fault (length buf) l.plane_stride
      >>= (λ _. fill_buffer file order p limits l.color (part l) buf))

  abbrev none_or : Result (Unit {0}) TiffError
  none_or = part_fault file order p limits l.color (part l)

  -- with a layout and room, the result is the error of the part, or bytes
  answer_is : answer ≡ (none_or >>= (λ _. Ok (bytes_with_region file order p l.color (part l).region (part l).stride (part l).planes buf)))
  unfolding fill_buffer
  answer_is =
      let a : room_fault (length buf) l.plane_stride ≡ Ok tt =
      has_room (length buf) l.plane_stride room in rw (whole, a) refl

  pub refusal_of : (e : TiffError) → answer ≡ Err e → none_or ≡ Err e
  refusal_of e h =
      fault_first none_or (bytes_with_region file order p l.color (part l).region (part l).stride (part l).planes buf) e (sym answer_is ∙ h)

  pub refusal_by : (e : TiffError) → none_or ≡ Err e → answer ≡ Err e
  refusal_by e h = answer_is ∙ rw h refl

module _ (within_image : ChunksWithin) (d : Decoding) (sides : HasSides d.state.page)
    (l : LayoutRecord) (whole : planes_layout d.state.page d.state.page.width d.state.page.height ≡ Ok l) where
  abbrev page : PageRecord
  page = d.state.page

  abbrev fault : ℕ → Result (Unit {0}) TiffError
  fault i = fault_of d.bytes d.order page d.state.limits l.color i

  abbrev into : ℕ → LayoutRecord → Part
  into i layout = chunk_part page i 1 layout.row_bytes

  -- a chunk with an error is refused
  pub chunk_refused : (i : ℕ) (e : TiffError) → fault i ≡ Err e → IsChunkRefused d l e i
  unfolding outcome.read_chunk_bytes pixels.read_chunk_bytes
  chunk_refused i e h part room =
      refusal_by d.bytes d.order page d.state.limits (rect page i).width (rect page i).height (into i) part
      (chunk_layout page l sides whole i (within_image page i sides))
      (chunk_laid page l sides whole i (within_image page i sides)) room e
      (one_fault d.bytes d.order page d.state.limits l.color i (chunk_row page l i) ∙ h)

  abbrev some_part : ℕ → List ℕ
  some_part i = replicate (chunk_byte_count page l i) 0

  has_part : (i : ℕ) → chunk_byte_count page l i ≤ length (some_part i)
  has_part i = omega (arith, length-replicate {A = ℕ} (chunk_byte_count page l i) 0)

  -- a chunk that is refused has an error
  pub fault_is : (i : ℕ) (e : TiffError) → IsChunkRefused d l e i → fault i ≡ Err e
  unfolding outcome.read_chunk_bytes pixels.read_chunk_bytes
  fault_is i e h =
      sym (one_fault d.bytes d.order page d.state.limits l.color i (chunk_row page l i))
      ∙ refusal_of d.bytes d.order page d.state.limits (rect page i).width (rect page i).height
      (into i) (some_part i)
      (chunk_layout page l sides whole i (within_image page i sides))
      (chunk_laid page l sides whole i (within_image page i sides)) (has_part i) e
      (h (some_part i) (has_part i))

  pub none_is : (no_fault : NoFault) (i : ℕ) → IsChunkRead d l i → fault i ≡ Ok tt
  none_is no_fault i h =
      chunk_none within_image no_fault d sides l whole i (some_part i) (h (some_part i) (has_part i))

  module _ (no_fault : NoFault) (first_fault : FirstFault) (used s : ℕ) where
    abbrev c : ℕ
    c = chunks_of_plane page

    abbrev pub of_chunk : ℕ → ℕ → Result (Unit {0}) TiffError
    of_chunk j plane = fault (plane * c + (0 + j))

    abbrev pub of_column : ℕ → Result (Unit {0}) TiffError
    of_column j = each_below (of_chunk j) used

    at_chunk : (j plane : ℕ) → of_chunk j plane ≡ fault (plane * c + j)
    at_chunk j plane = let e : 0 + j ≡ j = omega arith in ap (λ (z : ℕ). fault (plane * c + z)) e

    pub first_of : (e : TiffError)
        → part_fault d.bytes d.order page d.state.limits l.color (image_part page used s) ≡ Err e
        → (plane k : ℕ) × IsFirstRefused d l used plane k e
    first_of e h =
        let a : (k : ℕ) × ((k < c) × IsFirst of_column k e) = (first_fault of_column c e).0 h in
        let k : ℕ = a.0 in
        let b : (m : ℕ) × ((m < used) × IsFirst (of_chunk k) m e) =
        (first_fault (of_chunk k) used e).0 a.1.1.found in (
          b.0,
          k,
          record {
            used = b.1.0;
            of_plane = a.1.0;
            refused = chunk_refused (b.0 * c + k) e (sym (at_chunk k b.0) ∙ b.1.1.found);
            before =
                λ n j nl jl. chunk_read within_image no_fault d sides l whole (n * c
                + j) (sym (at_chunk j n) ∙ (no_fault (of_chunk j) used).0 (a.1.1.none j jl) n nl);
            above =
                λ n nl. chunk_read within_image no_fault d sides l whole (n * c
                + k) (sym (at_chunk k n) ∙ b.1.1.none n nl);
          },
        )

    pub by_first : (e : TiffError) (plane k : ℕ) → IsFirstRefused d l used plane k e
        → part_fault d.bytes d.order page d.state.limits l.color (image_part page used s) ≡ Err e
    by_first e plane k is =
        let found : of_column k ≡ Err e =
        (first_fault (of_chunk k) used e).1 plane is.used (record {
          found = at_chunk k plane ∙ fault_is (plane * c + k) e is.refused;
          none = λ n nl. at_chunk k n ∙ none_is no_fault (n * c + k) (is.above n nl);
        }) in
        (first_fault of_column c e).1 k is.of_plane (record {
          found = found;
          none =
              λ j jl. (no_fault (of_chunk j) used).1 (λ n nl. at_chunk j n
              ∙ none_is no_fault (n * c + j) (is.before n j nl jl));
        })

module _ (within_image : ChunksWithin) (no_fault : NoFault) (first_fault : FirstFault) where
  pub refused_where_chunks : RefusedWhereChunks
  unfolding outcome.read_image_bytes pixels.read_image_bytes
  refused_where_chunks d l buf e sides room =
      let p : PageRecord = d.state.page in
      let to : LayoutRecord → Part =
      λ layout. image_part p (planes_used p layout (length buf)) layout.row_bytes in
      let used : ℕ = planes_used p l (length buf) in (
        λ h. first_of within_image d sides l room.laid no_fault first_fault used l.row_bytes e
            (refusal_of d.bytes d.order p d.state.limits p.width p.height to buf l room.laid room.room e h),
        λ plane k is. refusal_by d.bytes d.order p d.state.limits p.width p.height to buf l room.laid room.room e
            (by_first within_image d sides l room.laid no_fault first_fault used l.row_bytes e plane k is),
      )
