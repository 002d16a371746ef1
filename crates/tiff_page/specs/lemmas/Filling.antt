-- The chunks of an image are read one after another, each in all planes.
use Rattle.std.proofs.Common.{◌≡◌, ℕ, zero, suc, ◌+◌, ◌-◌, ◌*◌, ◌/◌, ◌%◌, ◌<◌, ◌≤◌, ◌⊎◌, min, List, Ok, Err, refl, ap, sym, ◌∙◌, subst, inl, inr, ⊎_elim, arith}
use Rattle.std.proofs.lemmas.Nat.{mod-mul-add}
use Rattle.std.proofs.Math.Nat.{mul-le-mul_right, mod-eq_of_lt, mul_assoc, mul_comm}
use Rattle.std.specs.Prelude.{Result, OnOk}
use Rattle.std.proofs.lemmas.Bool.{cases_lt}
use Rattle.tiff_base.specs.declared.color.ColorType.{ColorType}
use Rattle.tiff_base.specs.declared.error.TiffError.{TiffError}
use Rattle.tiff_base.specs.declared.error.TiffError.TheVariants.{IoError}
use Rattle.tiff_base.specs.declared.io.IoKind.TheVariants.{UnexpectedEof}
use Rattle.tiff_base.specs.declared.tags.ByteOrder.{ByteOrder}
use Rattle.tiff_base.specs.Answers.{AnswersBut, IsCause}
use Rattle.tiff_base.specs.lemmas.Causes.{cause_along}
use Rattle.tiff_ifd.specs.declared.limits.Limits.{Limits}
use Rattle.tiff_page.specs.Layout.{LayoutRecord, layout_of, color_of, row_bits, row_bytes}
use Rattle.tiff_page.specs.PixelFault.{fail_if, form_fault, chunk_fault, each_below}
use Rattle.tiff_page.specs.Pixels.{is_short, image_region}
use Rattle.tiff_page.specs.BufferPositions.{Writes, IsIn, in_rect, chunk_byte, WritesChunk, HasRoom, WritesPlanes, top_of, left_of, IsBefore, image_byte, IsInUnit, unit_byte}
use Rattle.tiff_page.specs.ReadablePage.{IsRead}
use Rattle.tiff_page.specs.lemmas.Planes.{layout_gives, some_bytes, whole_rows, depth_passed, form_read}
use Rattle.tiff_page.specs.lemmas.Bands.{row_some}
use Rattle.tiff_page.specs.lemmas.Covering.{unit_plane_written, no_plane_written, unit_written, row_in_stride, chunk_written, chunks_written, image_written}
use Rattle.tiff_page.specs.Page.{PageRecord}
use Rattle.tiff_page.specs.Rect.{rect, across, chunks_of_plane}
use Rattle.tiff_page.specs.Laws.{HasSides, HasWholeRows}
use Rattle.tiff_page.specs.lemmas.PositionLaws.{chunks_within, cases_fault, all_ok, ok_all, of_first, plane_some}
use Rattle.tiff_page.specs.PixelCalls.{fill_buffer, bytes_with_region, image_part, chunk_part}

-- the chunks of one index lie at the same position
module _ (p : PageRecord) (plane j : ℕ) (l : j < chunks_of_plane p) where
  pub index : (plane * chunks_of_plane p + j) % chunks_of_plane p ≡ j % chunks_of_plane p
  index = mod-mul-add plane (chunks_of_plane p) j l ∙ sym (mod-eq_of_lt l)

  pub same_x : (rect p (plane * chunks_of_plane p + j)).x ≡ (rect p j).x
  unfolding rect
  same_x = ap (λ m. m % across p * p.chunk_width) index

  pub same_y : (rect p (plane * chunks_of_plane p + j)).y ≡ (rect p j).y
  unfolding rect
  same_y = ap (λ m. m / across p * p.chunk_height) index

  pub same_height : (rect p (plane * chunks_of_plane p + j)).height ≡ (rect p j).height
  unfolding rect
  same_height = ap (λ m. min p.chunk_height (p.height - m / across p * p.chunk_height)) index

  pub same_width : (rect p (plane * chunks_of_plane p + j)).width ≡ (rect p j).width
  unfolding rect
  same_width = ap (λ m. min p.chunk_width (p.width - m % across p * p.chunk_width)) index

-- an error is the first of several
pub first_at : (fault : ℕ → Result (Unit {0}) TiffError) (n k : ℕ) (e : TiffError) → k < n
    → each_below fault k ≡ Ok tt → fault k ≡ Err e → each_below fault n ≡ Err e
first_at fault n k e l none h =
    of_first fault n e k l (record { found = h; none = all_ok fault k none })

pub one_more : (fault : ℕ → Result (Unit {0}) TiffError) (k : ℕ) → each_below fault k ≡ Ok tt
    → fault k ≡ Ok tt → each_below fault (k + 1) ≡ Ok tt
one_more fault k none h =
    ok_all fault (k + 1) (λ m l. ⊎_elim (λ (b : m < k). all_ok fault k none m b) (λ (b : k ≤ m). let e : m ≡ k = omega (arith, l, b) in ap fault e ∙ h) (cases_lt m k))

-- a buffer has room for the chunks of its planes
pub plane_room : (plane planes rows y h stride len : ℕ) → plane < planes → y + h ≤ rows
    → planes * (rows * stride) ≤ len → (plane * rows + y + h) * stride ≤ len
plane_room plane planes rows y h stride len l f r =
    let a : (plane + 1) * rows ≤ planes * rows = mul-le-mul_right rows (omega (arith, l)) in
    let b : (plane * rows + y + h) * stride ≤ planes * rows * stride =
    mul-le-mul_right stride (omega (arith, a, f)) in
    omega (arith, b, mul_assoc planes rows stride, r)

-- equal arguments write the same rows
pub chunk_moved : (order : ByteOrder) (p : PageRecord) (color : ColorType) (f f' : List ℕ)
    (i i' stride stride' top top' left left' : ℕ) (mid new : List ℕ) → f ≡ f' → i ≡ i'
    → stride ≡ stride' → top ≡ top' → left ≡ left'
    → WritesChunk f order p color i stride top left mid new
    → WritesChunk f' order p color i' stride' top' left' mid new
chunk_moved order p color f f' i i' stride stride' top top' left left' mid new ef ei es et el w =
    rw (← ef, ← ei, ← es, ← et, ← el) w

-- ---- the chunk of each of several planes

module _ (file : List ℕ) (order : ByteOrder) (p : PageRecord) (limits : Limits) (color : ColorType)
    (planes j : ℕ) where
  abbrev pub at : ℕ → ℕ
  at plane = plane * chunks_of_plane p + j

  abbrev pub fault_of : ℕ → Result (Unit {0}) TiffError
  fault_of i = chunk_fault p limits (is_short file order p color) color i

  abbrev pub of_plane : ℕ → Result (Unit {0}) TiffError
  of_plane plane = fault_of (plane * chunks_of_plane p + (0 + j))

  pub from_first : (plane : ℕ) → of_plane plane ≡ fault_of (at plane)
  from_first plane =
      let e : plane * chunks_of_plane p + (0 + j) ≡ plane * chunks_of_plane p + j =
      omega arith in ap fault_of e

  pub form_cause : (failed : Type 0) (plane i : ℕ) (e : TiffError) → i ≡ at plane → plane < planes
      → each_below of_plane plane ≡ Ok tt
      → IsCause ⊥ ⊥ e (form_fault p limits color i ≡ Err e)
      → IsCause (Unit {0}) failed e (each_below of_plane planes ≡ Err e)
  form_cause failed plane i e q below none c =
      cause_along e (λ z. Prim.absurd z) (λ z. Prim.absurd z)
      (λ h.
      let f : form_fault p limits color (at plane) ≡ Err e =
      subst (λ (m : ℕ). form_fault p limits color m ≡ Err e) q h in
      first_at of_plane planes plane e below none (from_first plane ∙ rw f refl))
      c

  pub rows_cause : (failed failed' : Type 0) (plane i : ℕ) (e : TiffError) → i ≡ at plane
      → (failed → failed') → plane < planes → each_below of_plane plane ≡ Ok tt
      → form_fault p limits color i ≡ Ok tt
      → IsCause (Unit {0}) failed e (fail_if (is_short file order p color i) (IoError UnexpectedEof)
      ≡ Err e) → IsCause (Unit {0}) failed' e (each_below of_plane planes ≡ Err e)
  rows_cause failed failed' plane i e q grew below none formed c =
      cause_along e (λ w. w) grew
      (λ h.
      let f : fault_of i ≡ Err e = rw formed h in
      first_at of_plane planes plane e below none (from_first plane ∙ subst (λ (m : ℕ). fault_of m ≡ Err e) q f))
      c

  pub plane_none : (plane i : ℕ) → i ≡ at plane → each_below of_plane plane ≡ Ok tt
      → form_fault p limits color i ≡ Ok tt
      → fail_if (is_short file order p color i) (IoError UnexpectedEof) ≡ Ok tt
      → each_below of_plane (plane + 1) ≡ Ok tt
  plane_none plane i q none formed whole =
      let f : fault_of i ≡ Ok tt = rw formed whole in
      one_more of_plane plane none (from_first plane ∙ subst (λ (m : ℕ). fault_of m ≡ Ok tt) q f)

  -- one more plane is written
  pub plane_more : (f : List ℕ) (plane i stride rows top top' left : ℕ) (old mid new : List ℕ)
      → f ≡ file → i ≡ at plane → top' ≡ plane * rows + top
      → WritesPlanes file order p color j stride rows top left plane old mid
      → WritesChunk f order p color i stride top' left mid new
      → WritesPlanes file order p color j stride rows top left (plane + 1) old new
  plane_more f plane i stride rows top top' left old mid new same q t a b =
      let s : suc plane ≡ plane + 1 = omega arith in
      subst (λ (n : ℕ). WritesPlanes file order p color j stride rows top left n old new) s
      (record { mid = mid; before = a; after = chunk_moved order p color f file i (at plane) stride stride top' (plane * rows + top) left left mid new same q refl t refl b })

  pub form_of : (i : ℕ) → fault_of i ≡ Ok tt → form_fault p limits color i ≡ Ok tt
  form_of i h =
      ⊎_elim (λ ok. ok) (λ er. let g : Err er.0
      ≡ Ok tt = rw (er.1) at h in cc) (cases_fault (form_fault p limits color i))

  pub formed_at : each_below of_plane planes ≡ Ok tt → (plane : ℕ) → plane < planes
      → form_fault p limits color (at plane) ≡ Ok tt
  formed_at none plane below =
      form_of (at plane) (sym (from_first plane) ∙ all_ok of_plane planes none plane below)

module _ (file : List ℕ) (order : ByteOrder) (p : PageRecord) (limits : Limits) (l : LayoutRecord)
    (sides : HasSides p) (samples : 0 < p.samples) (deep : 0 < p.depth)
    (laid : layout_of p p.width p.height ≡ Ok l) where
  pub row_is : l.row_bytes ≡ row_bytes p l.color p.width
  row_is = (layout_gives p p.width p.height l laid).0.0

  pub plane_is : l.plane_stride ≡ l.row_bytes * p.height
  plane_is = (layout_gives p p.width p.height l laid).0.1 ∙ ap (λ m. m * p.height) (sym row_is)

  pub color_is : color_of p ≡ Ok l.color
  color_is = (layout_gives p p.width p.height l laid).1.0

  pub stride_some : 0 < l.row_bytes
  stride_some = (some_bytes p p.width p.height l sides.wide sides.high deep samples laid).0

  pub is_whole : (i : ℕ) → form_fault p limits l.color i ≡ Ok tt → HasWholeRows p l.color
  is_whole i h = whole_rows p l laid (depth_passed p limits l.color i h)

  pub is_formed : (i : ℕ) → form_fault p limits l.color i ≡ Ok tt → IsRead p l.color
  is_formed i h = form_read p limits l.color i samples color_is h

  module _ (planes j : ℕ) (in_plane : j < chunks_of_plane p) where
    abbrev pub chunk_at : ℕ → ℕ
    chunk_at plane = plane * chunks_of_plane p + j

    pub columns_in : (plane i : ℕ) → i ≡ chunk_at plane → form_fault p limits l.color i ≡ Ok tt
        → left_of p l.color l.row_bytes plane j + row_bytes p l.color (rect p i).width ≤ l.row_bytes
    columns_in plane i q formed =
        let a =
        row_in_stride p l.color l.row_bytes plane j sides (is_whole i formed)
        (omega (arith, row_is)) in_plane in
        subst (λ (m : ℕ). left_of p l.color l.row_bytes plane j
        + row_bytes p l.color (rect p m).width ≤ l.row_bytes) (sym q) a

    module _ (stride rows top left : ℕ) (es : stride ≡ l.row_bytes) (er : rows ≡ p.height)
        (et : top ≡ top_of p l.color l.row_bytes 0 j) (el : left ≡ left_of p l.color l.row_bytes 0 j) where
      pub first_y : (plane : ℕ) → top ≡ (rect p (chunk_at plane)).y
      first_y plane =
          et ∙ (let z : 0 * p.height + (rect p (chunk_at 0)).y ≡ (rect p (chunk_at 0)).y = omega arith in z) ∙ same_y p 0 j in_plane ∙ sym (same_y p plane j in_plane)

      pub top_is : (plane : ℕ) → plane * rows + top ≡ top_of p l.color l.row_bytes plane j
      top_is plane = λ t. plane * er t + first_y plane t

      pub left_is : (plane : ℕ) → left ≡ left_of p l.color l.row_bytes plane j
      left_is plane =
          el ∙ ap (λ m. row_bits p l.color m / 8) (same_x p 0 j in_plane
          ∙ sym (same_x p plane j in_plane))

      -- the chunk of a plane has room
      pub chunk_room : (plane : ℕ) → form_fault p limits l.color (chunk_at plane) ≡ Ok tt
          → HasRoom p l.color stride rows top left (chunk_at plane)
      chunk_room plane formed =
          let w : (rect p (chunk_at plane)).y + (rect p (chunk_at plane)).height ≤ p.height =
          (chunks_within p (chunk_at plane) sides).rows in
          record { some = omega (arith, stride_some, es); columns = omega (arith, columns_in plane (chunk_at plane) refl formed, left_is plane, es); above = omega (arith, w, er, first_y plane) }

      pub size_is : planes * (rows * stride) ≡ planes * l.plane_stride
      size_is =
          (λ t. planes * (er t * es t))
          ∙ ap (λ m. planes * m) (mul_comm p.height l.row_bytes ∙ sym plane_is)

      -- the chunks of the planes are those of the image
      pub planes_next : each_below (of_plane file order p limits l.color planes j) planes ≡ Ok tt
          → (n : ℕ) → n ≤ planes → (before old new : List ℕ)
          → WritesPlanes file order p l.color j stride rows top left n old new
          → Writes (IsBefore p l.color l.row_bytes planes j 0) (image_byte p l.color l.row_bytes file order) before old
          → Writes (IsBefore p l.color l.row_bytes planes j n) (image_byte p l.color l.row_bytes file order) before new
      planes_next none zero below before old new w a =
          subst (λ (xs : List ℕ). Writes (IsBefore p l.color l.row_bytes planes j 0) (image_byte p l.color l.row_bytes file order) before xs) (sym w) a
      planes_next none (suc n) below before old new w a =
          let s : n + 1 ≡ suc n = omega arith in
          let here =
          chunk_moved order p l.color file file (chunk_at n) (chunk_at n) stride l.row_bytes
          (n * rows + top) (top_of p l.color l.row_bytes n j) left (left_of p l.color l.row_bytes n j) w.mid new refl refl es (top_is n) (left_is n) w.after in
          subst (λ (m : ℕ). Writes (IsBefore p l.color l.row_bytes planes j m) (image_byte p l.color l.row_bytes file order) before new) s
          (chunks_written p l.color l.row_bytes planes j n (image_byte p l.color l.row_bytes file order) before w.mid new (omega (arith, below)) (planes_next none n (omega (arith, below)) before old w.mid w.before a)
          (chunk_written file order p l.color l.row_bytes n j w.mid new sides (is_whole (chunk_at n) (formed_at file order p limits l.color planes j none n (omega (arith, below)))) (omega (arith, row_is)) in_plane here))

module _ (file : List ℕ) (order : ByteOrder) (p : PageRecord) (limits : Limits) (l : LayoutRecord)
    (sides : HasSides p) (samples : 0 < p.samples) (deep : 0 < p.depth)
    (laid : layout_of p p.width p.height ≡ Ok l) (planes : ℕ) where
  -- the first error of a chunk in all planes
  abbrev pub of_chunk : ℕ → Result (Unit {0}) TiffError
  of_chunk j =
      each_below (λ plane. chunk_fault p limits (is_short file order p l.color) l.color (plane * chunks_of_plane p + (0 + j))) planes

  pub chunk_cause : (failed failed' : Type 0) (j : ℕ) (old : List ℕ) (e : TiffError)
      → (failed → failed') → j < chunks_of_plane p → each_below of_chunk j ≡ Ok tt
      → IsCause (Unit {0}) failed e (of_chunk j ≡ Err e)
      → IsCause (Unit {0}) failed' e (fill_buffer file order p limits l.color (image_part p planes l.row_bytes) old ≡ Err e)
  unfolding fill_buffer
  chunk_cause failed failed' j old e grew below none c =
      cause_along e (λ w. w) grew (λ h. let f : each_below of_chunk (chunks_of_plane p)
      ≡ Err e = first_at of_chunk (chunks_of_plane p) j e below none h in rw f refl) c

  pub image_filled : (old new : List ℕ) → 0 < planes
      → each_below of_chunk (chunks_of_plane p) ≡ Ok tt
      → Writes (IsBefore p l.color l.row_bytes planes (chunks_of_plane p) 0)
      (image_byte p l.color l.row_bytes file order) old new
      → fill_buffer file order p limits l.color (image_part p planes l.row_bytes) old ≡ Ok new
  unfolding fill_buffer
  image_filled old new some none w =
      let first : of_chunk 0 ≡ Ok tt =
      all_ok of_chunk (chunks_of_plane p) none 0 (plane_some p.width p.height p.chunk_width p.chunk_height sides.wide sides.high sides.chunk_wide sides.chunk_high) in
      let fault =
      all_ok (λ plane. chunk_fault p limits (is_short file order p l.color) l.color (plane * chunks_of_plane p + (0 + 0))) planes first 0 some in
      let whole =
      is_whole file order p limits l sides samples deep laid (0 * chunks_of_plane p
      + (0 + 0)) (form_of file order p limits l.color planes 0 (0 * chunks_of_plane p
      + (0 + 0)) fault) in
      let e : new ≡ bytes_with_region file order p l.color (image_region p) l.row_bytes planes old =
      image_written file order p l.color l.row_bytes planes old new sides whole
      (omega (arith, row_is file order p limits l sides samples deep laid)) w in
      rw none (ap (λ (z : List ℕ). Ok z) (sym e))

-- ---- one chunk, or that of each plane

pub plane_is_first : (planes plane k chunks : ℕ) → plane < planes → (planes ≡ 1) ⊎ (k < chunks)
    → (plane ≡ 0) ⊎ (k < chunks)
plane_is_first planes plane k chunks l w =
    ⊎_elim (λ (e : planes ≡ 1). inl (omega (arith, l, e))) (λ (b : k < chunks). inr b) w

pub first_index : (plane k chunks : ℕ) → plane ≡ 0 → plane * chunks + k ≡ k
first_index plane k chunks z =
    let e : plane * chunks ≡ 0 * chunks = ap (λ m. m * chunks) z in omega (arith, e)

module _ (file : List ℕ) (order : ByteOrder) (p : PageRecord) (limits : Limits) (color : ColorType)
    (sides : HasSides p) (samples : 0 < p.samples) (deep : 0 < p.depth)
    (colored : color_of p ≡ Ok color) (stride k planes : ℕ) (which : (planes ≡ 1) ⊎ (k < chunks_of_plane p)) where
  abbrev pub h : ℕ
  h = (rect p k).height

  abbrev pub len : ℕ
  len = row_bytes p color (rect p k).width

  abbrev pub position : ℕ → ℕ
  position plane = plane * chunks_of_plane p + k

  abbrev pub in_unit : ℕ → Result (Unit {0}) TiffError
  in_unit plane = fault_of file order p limits color planes k (plane * chunks_of_plane p + (k + 0))

  pub unit_faults : each_below in_unit planes
      ≡ each_below (of_plane file order p limits color planes k) planes
  unit_faults =
      let e : (plane : ℕ) → plane * chunks_of_plane p + (k + 0) ≡ plane * chunks_of_plane p
      + (0 + k) = λ plane. omega arith in
      λ t. each_below (λ plane. fault_of file order p limits color planes k (e plane t)) planes

  pub unit_height : (plane : ℕ) → plane < planes → (rect p (position plane)).height ≡ h
  unit_height plane l =
      ⊎_elim
      (λ (z : plane ≡ 0). ap (λ m. (rect p m).height) (first_index plane k (chunks_of_plane p) z))
      (λ (b : k < chunks_of_plane p). same_height p plane k b)
      (plane_is_first planes plane k (chunks_of_plane p) l which)

  pub unit_width : (plane : ℕ) → plane < planes → (rect p (position plane)).width ≡ (rect p k).width
  unit_width plane l =
      ⊎_elim
      (λ (z : plane ≡ 0). ap (λ m. (rect p m).width) (first_index plane k (chunks_of_plane p) z))
      (λ (b : k < chunks_of_plane p). same_width p plane k b)
      (plane_is_first planes plane k (chunks_of_plane p) l which)

  -- the chunk of a plane has room
  pub unit_room : (rows plane : ℕ) → rows ≡ h → len ≤ stride → plane < planes
      → form_fault p limits color (position plane) ≡ Ok tt
      → HasRoom p color stride rows 0 0 (position plane)
  unit_room rows plane er fits below formed =
      let some : 0 < len =
      row_some p color (rect p k).width (chunks_within p k sides).some_column deep
      (form_read p limits color (position plane) samples colored formed).stored.shows in
      record {
        some = omega (arith, some, fits);
        columns = omega (arith, ap (row_bytes p color) (unit_width plane below), fits);
        above = omega (arith, unit_height plane below, er);
      }

  pub unit_planes : (n : ℕ) → n ≤ planes → (old new : List ℕ)
      → WritesPlanes file order p color k stride h 0 0 n old new
      → Writes (IsInUnit p color stride k n) (unit_byte file order p color stride k) old new
  unit_planes zero below old new w =
      subst (λ (xs : List ℕ). Writes (IsInUnit p color stride k 0) (unit_byte file order p color stride k) old xs) (sym w) (no_plane_written p color stride k (unit_byte file order p color stride k) old)
  unit_planes (suc n) below old new w =
      let s : n + 1 ≡ suc n = omega arith in
      let top : n * h + 0 ≡ n * h = omega arith in
      let b1 =
      subst (λ (m : ℕ). Writes (IsIn stride m (rect p (position n)).height 0 (row_bytes p color (rect p (position n)).width)) (in_rect (chunk_byte file order p color (position n)) stride m 0) w.mid new) top w.after in
      let b2 =
      subst (λ (m : ℕ). Writes (IsIn stride (n * h) m 0 (row_bytes p color (rect p (position n)).width)) (in_rect (chunk_byte file order p color (position n)) stride (n * h) 0) w.mid new) (unit_height n (omega (arith, below))) b1 in
      let b3 =
      subst (λ (m : ℕ). Writes (IsIn stride (n * h) h 0 (row_bytes p color m)) (in_rect (chunk_byte file order p color (position n)) stride (n * h) 0) w.mid new) (unit_width n (omega (arith, below))) b2 in
      subst (λ (m : ℕ). Writes (IsInUnit p color stride k m) (unit_byte file order p color stride k) old new) s
      (unit_plane_written file order p color stride k n old w.mid new sides (plane_is_first planes n k (chunks_of_plane p) (omega (arith, below)) which) (unit_planes n (omega (arith, below)) old w.mid w.before) b3)

  pub unit_filled : (old new : List ℕ) → len ≤ stride → each_below in_unit planes ≡ Ok tt
      → Writes (IsInUnit p color stride k planes) (unit_byte file order p color stride k) old new
      → fill_buffer file order p limits color (chunk_part p k planes stride) old ≡ Ok new
  unfolding fill_buffer
  unit_filled old new fits none w =
      rw none (ap (λ (z : List ℕ). Ok z) (sym (unit_written file order p color stride k planes old new sides fits w)))

  -- the answer for the chunks of the planes is that for the unit
  pub unit_given : (failed : Type 0) (result : Result (Unit {0}) TiffError) (rows : ℕ)
      (old new : List ℕ) → rows ≡ h → len ≤ stride
      → OnOk result (WritesPlanes file order p color k stride rows 0 0 planes old new)
      → AnswersBut (Unit {0}) failed (λ _. tt) result (each_below (of_plane file order p limits color planes k) planes)
      → AnswersBut (Unit {0}) failed (λ _. new) result (fill_buffer file order p limits color (chunk_part p k planes stride) old)
  unfolding fill_buffer
  unit_given failed (Ok done) rows old new er fits w none =
      unit_filled old new fits (unit_faults ∙ none) (unit_planes planes (omega arith) old new (subst (λ (n : ℕ). WritesPlanes file order p color k stride n 0 0 planes old new) er w))
  unit_given failed (Err e) rows old new er fits w c =
      cause_along e (λ z. z) (λ f. f) (λ t. let g : each_below in_unit planes ≡ Err e = unit_faults
      ∙ t in rw g refl) c
