-- The samples of an image or a chunk, whose bytes are written into a list of numbers.
use Rattle.std.proofs.Common.{◌≡◌, ℕ, ◌+◌, ◌*◌, ◌/◌, ◌%◌, ◌<◌, ◌≤◌, true, false, List, length, get_or, None, Ok, Err, refl, ap, sym, subst, ◌∙◌, arith, ⊎_elim, zero, suc, ◌-◌, ◌^◌, min, [], ◌∷◌, take, drop, Bool, Fits, length-append, length-drop, cond}
use Rattle.std.specs.Prelude.{replicate, unwrap_or, nat_lt, Result, slice_index, nat_le, if◌then◌else◌}
use Rattle.std.specs.Int.{div_ceil, w128}
use Rattle.std.proofs.lemmas.Bool.{cases_Bool, cases_lt, le-ltb, lt-ltb, ltb-true}
use Rattle.std.proofs.lemmas.Grind.{div_ceil_times}
use Rattle.std.proofs.lemmas.List.{length-replicate, get_or_past, length-take}
use Rattle.std.proofs.lemmas.List.FromFn.{length-map-range_with_len, get_or-map-range_with_len}
use Rattle.std.proofs.lemmas.Nat.{le-div, mul-lt}
use Rattle.std.proofs.Math.Nat.{mul_comm, one-le-mul, mul-le-mul_right}
use Rattle.tiff_base.specs.declared.color.ColorType.{ColorType}
use Rattle.tiff_base.specs.declared.error.TiffError.{TiffError}
use Rattle.tiff_base.specs.declared.tags.ByteOrder.{ByteOrder}
use Rattle.tiff_base.specs.declared.tags.ByteOrder.TheVariants.{LittleEndian}
use Rattle.tiff_base.specs.Answers.{IsCause, AnswersBut, ◌>>=◌, ReadsOnly, IsNotDevice}
use Rattle.tiff_base.specs.Number.{number}
use Rattle.tiff_base.specs.lemmas.Causes.{cause_along}
use Rattle.tiff_ifd.specs.declared.limits.Limits.{Limits}
use Rattle.tiff_page.specs.declared.layout.DecodingSampleType.{DecodingSampleType}
use Rattle.tiff_page.specs.declared.samples.ReadRequest.{ReadRequest}
use Rattle.tiff_page.specs.declared.samples.ReadRequest.TheVariants.{Image, Chunks}
use Rattle.tiff_page.specs.EarlyFaults.{check_first_chunk, is_cut, samples_early, image_early, planes_early, chunk_early, strided_early}
use Rattle.tiff_page.specs.Laws.{HasSides}
use Rattle.tiff_page.specs.Layout.{LayoutRecord, row_bytes, sample_type_of, size_of, planes, wide}
use Rattle.tiff_page.specs.NumberBytes.{bytes_in}
use Rattle.tiff_page.specs.Page.{PageRecord}
use Rattle.tiff_page.specs.PageView as view
use Rattle.tiff_page.specs.PixelCalls.{Part, part_fault, bytes_with_region, fill_buffer, samples, image_part, chunk_part, planes_used, read_chunk_bytes, read_coding_unit_bytes, read_image_bytes, room_fault, image_of, planes_within, read_image_to_buffer, read_chunk, read_chunk_to_buffer, stride_fault}
use Rattle.tiff_page.specs.PixelFault.{limit_fault, fail_if, form_fault, chunk_fault, each_below}
use Rattle.tiff_page.specs.Pixels.{Region, tabulate, width_of, numbers_in, byte_at, chunk_data, needed_bytes, is_short, needed_of_row, stored_row_bytes}
use Rattle.tiff_page.specs.Rect.{rect, chunks_of_plane}
use Rattle.tiff_page.specs.Row.{IsSize}
use Rattle.tiff_page.specs.Samples.{color_in, first_in, part_of, IsLaid, room_of}
use Rattle.tiff_page.specs.lemmas.Rects.{zero_in}
use Rattle.tiff_page.specs.lemmas.NumberBytes.{numbers_again, numbers_are}
use Rattle.tiff_page.specs.lemmas.PositionLaws.{chunks_within, cases_fault, plane_some}
use Rattle.tiff_page.specs.lemmas.Planes.{layout_gives, laid_once, some_planes}
use Rattle.tiff_page.specs.lemmas.Rows.{some_size, each_same, by_size}
use Rattle.tiff_base.specs.declared.error.TiffError.TheVariants.{IoError}
use Rattle.tiff_base.specs.declared.io.IoKind.TheVariants.{UnexpectedEof}
use Rattle.tiff_base.specs.declared.tags.CompressionMethod.{CompressionMethod}
use Rattle.tiff_base.specs.declared.tags.CompressionMethod.TheVariants as method
use Rattle.tiff_base.specs.Runs.{Broken, Unpacked, with_front, runs_after, runs}
use Rattle.tiff_base.specs.SourceAndSink.{exactly_at, AreReadable, SourceRecord}
use Rattle.tiff_base.specs.lemmas.Blocks.{runs_no_op, runs_literal, runs_run, runs_broken}
use Rattle.tiff_base.specs.lemmas.Bytes.{missing}
use Rattle.tiff_ifd.specs.lemmas.Unpacking.{byte_there}
use Rattle.tiff_page.specs.Buffers.{planes_layout, unit_fault, all_planes}
use Rattle.tiff_page.specs.Methods.{data_by_method, least_stored, bytes_held, is_packed}
use Rattle.tiff_page.specs.lemmas.Filling.{first_at}
use Rattle.tiff_page.specs.EarlyLaws.{EarlyIsAnswered}
use Rattle.tiff_base.specs.lemmas.Contents.{part_readable}
use Rattle.tiff_page.specs.declared.chunk_data.ChunkCursor.{ChunkCursor}
use Rattle.tiff_page.specs.declared.chunk_data.ChunkCursor.TheVariants.{Plain, Packed, Ended}
use Rattle.tiff_page.specs.Reach.{StoredReadable, Moves, DataReadable, ChunkReadable, PartReadable, LaidReadable}

-- the rows of a chunk have fewer than 2^88 bytes
rows_few : (h r : ℕ) → h < 2 ^ 32 → r < 2 ^ 56 → (h - 1) * r < 2 ^ 88
rows_few h r a b =
    let k : (h - 1) * r < 2 ^ 32 * 2 ^ 56 =
    mul-lt (h - 1) r (2 ^ 32) (2 ^ 56) (omega (arith, a)) b in omega (arith, k)

pub rows_fit : (h r : ℕ) → h < 2 ^ 32 → r < 2 ^ 56 → Fits w128 ((h - 1) * r)
rows_fit h r a b = let k = rows_few h r a b in omega (arith, k)

pub bytes_few : (h r l : ℕ) → h < 2 ^ 32 → r < 2 ^ 56 → l < 2 ^ 56 → (h - 1) * r + l < 2 ^ 89
bytes_few h r l a b d = let k = rows_few h r a b in omega (arith, k, d)

-- ---- the last byte

pub reached : (failed : Type 0) (bytes buf : List ℕ) (at len last : ℕ)
    (r : Result (Unit {0}) TiffError) → last ≡ at + len - 1 → 0 < len
    → AnswersBut ⊥ failed (λ _. buf) r (exactly_at bytes last 1)
    → AnswersBut ⊥ failed (λ _. tt) r (fail_if (nat_lt (length bytes - at) len) (IoError UnexpectedEof))
reached failed bytes buf at len last (Ok x) e s h =
    rw (le-ltb (length bytes - at) len (omega (arith, (byte_there bytes buf last h).0, e, s))) refl
reached failed bytes buf at len last (Err f) e s h =
    cause_along f (λ w. w) (λ d. d)
    (λ g. (let m = missing bytes last 1 f g in
    rw (lt-ltb (length bytes - at) len (omega (arith, m.0, e, s))) (ap Err m.1))) h

-- there is no byte at offset 2^64 or after
pub past_all : (bytes : List ℕ) (at len : ℕ) → length bytes < 2 ^ 64 → 0 < len
    → 2 ^ 64 ≤ at + len - 1 → fail_if (nat_lt (length bytes - at) len) (IoError UnexpectedEof)
    ≡ Err (IoError UnexpectedEof)
past_all bytes at len l s p = rw (lt-ltb (length bytes - at) len (omega (arith, l, s, p))) refl

-- ---- PackBits data

pub least_few : (n : ℕ) → n < 2 ^ 89 → div_ceil n 64 < 2 ^ 89
least_few n h = let k = div_ceil_times n 64 (omega arith) in omega (arith, h, k.1)

pub counted_few : (bytes : List ℕ) (at count least : ℕ) → count < least
    → fail_if (nat_lt (min count (length bytes - at)) least) (IoError UnexpectedEof)
    ≡ Err (IoError UnexpectedEof)
counted_few bytes at count least h =
    rw (lt-ltb (min count (length bytes - at)) least (omega (arith, h))) refl

pub counted_all : (bytes : List ℕ) (at count least : ℕ) → least ≤ count
    → nat_lt (length bytes - at) least ≡ nat_lt (min count (length bytes - at)) least
counted_all bytes at count least h =
    ⊎_elim
    (λ (l : length bytes - at < least). lt-ltb (length bytes - at) least l
    ∙ sym (lt-ltb (min count (length bytes - at)) least (omega (arith, l))))
    (λ (l : least ≤ length bytes - at). le-ltb (length bytes - at) least l
    ∙ sym (le-ltb (min count (length bytes - at)) least (omega (arith, l, h))))
    (cases_lt (length bytes - at) least)

-- ---- how many bytes PackBits data decompress to at most

of_step : (u v : Unpacked) (n : ℕ) → u ≡ v → length v.out ≤ n → length u.out ≤ n
of_step u v n e h = subst (λ (w : Unpacked). length w.out ≤ n) (sym e) h

run_few : (early : Bool) (h : ℕ) (P : List ℕ) → 128 < h
    → length (runs_after 1 early P).out ≤ 64 * (length P - 1)
    → length (runs early (h ∷ P)).out ≤ 64 * (length P + 1)
unfolding runs_after
run_few early h [] a k =
    of_step (runs early (h ∷ [])) (record { out = []; end = Broken }) (64 * (0
    + 1)) (runs_broken early h a) (omega arith)
run_few early h (v ∷ P) a k =
    of_step (runs early (h ∷ v ∷ P)) (with_front (replicate (257 - h) v) (runs early P))
    (64 * (length (v ∷ P) + 1)) (runs_run early h v P a)
    (omega (arith, a, k, length-append (replicate (257 - h) v) (runs early P).out, length-replicate (257 - h) v))

runs_few : (n : ℕ) (early : Bool) (P : List ℕ)
    → length (runs_after n early P).out ≤ 64 * (length P - n)
unfolding runs_after
runs_few (suc n) early [] = omega arith
runs_few (suc n) early (b ∷ P) = omega (arith, runs_few n early P)
runs_few zero early [] = omega arith
runs_few zero early (h ∷ P) =
    ⊎_elim
    (λ (a : h < 128).
    of_step (runs early (h ∷ P)) (with_front (take (h + 1) P) (runs_after (h
    + 1) early P)) (64 * (length (h ∷ P) - 0)) (runs_literal early h P a)
    (omega (arith, runs_few (h + 1) early P, length-append (take (h + 1) P) (runs_after (h + 1) early P).out, length-take (h + 1) P)))
    (λ (a : 128 ≤ h).
    ⊎_elim
    (λ (b : h < 129).
    let e : h ≡ 128 = omega (arith, a, b) in
    of_step (runs early (h ∷ P)) (runs early P) (64 * (length (h ∷ P) - 0)) (ap (λ (k : ℕ). runs early (k ∷ P)) e ∙ runs_no_op early P) (omega (arith, runs_few zero early P)))
    (λ (b : 129 ≤ h). omega (arith, run_few early h P b (runs_few 1 early P)))
    (cases_lt h 129))
    (cases_lt h 128)

-- ---- fewer bytes than the data take are too few data

packed_short : (file : List ℕ) (position count n : ℕ) (early : Bool)
    → min count (length file - position) < div_ceil n 64
    → length (runs early (take count (drop position file))).out < n
packed_short file position count n early h =
    omega (arith, h, runs_few zero early (take count (drop position file)), (div_ceil_times n 64 (omega arith)).1, length-take count (drop position file), length-drop position file)

cut_short : (file : List ℕ) (order : ByteOrder) (p : PageRecord) (m : CompressionMethod)
    (position count n : ℕ) → bytes_held file m position count < least_stored m n
    → length (data_by_method file m position count) < n
cut_short file order p method.None position count n h = omega (arith, h, length-drop position file)
cut_short file order p method.PackBits position count n h =
    packed_short file position count n (nat_lt (length file - position) count) h
cut_short file order p m position count n h = omega (arith, h)

module _ (file : List ℕ) (order : ByteOrder) (p : PageRecord) (limits : Limits) (color : ColorType) where
  is_short_of : (i : ℕ) → is_cut file p color i ≡ true → is_short file order p color i ≡ true
  is_short_of i h =
      lt-ltb (length (chunk_data file order p i)) (needed_bytes p color i)
      (cut_short file order p p.method (slice_index p.offsets i) (slice_index p.byte_counts i) (needed_bytes p color i)
      (ltb-true (bytes_held file p.method (slice_index p.offsets i) (slice_index p.byte_counts i)) (least_stored p.method (needed_bytes p color i)) h))

  abbrev fault_of : ℕ → Result (Unit {0}) TiffError
  fault_of i = chunk_fault p limits (is_short file order p color) color i

  -- the early error of a chunk is its error
  found_early : (i : ℕ) (e : TiffError) → chunk_fault p limits (is_cut file p color) color i ≡ Err e
      → fault_of i ≡ Err e
  found_early i e h =
      ⊎_elim
      (λ (formed : form_fault p limits color i ≡ Ok tt).
      ⊎_elim
      (λ (t : is_cut file p color i ≡ true). let g : Err (IoError UnexpectedEof)
      ≡ Err e = rw (formed, t) at h in rw (formed, is_short_of i t) g)
      (λ (f : is_cut file p color i ≡ false). let g : Ok tt ≡ Err e = rw (formed, f) at h in cc)
      (cases_Bool (is_cut file p color i)))
      (λ er. let g : Err er.0 ≡ Err e = rw (er.1) at h in rw (er.1) g)
      (cases_fault (form_fault p limits color i))

  -- an error of the first chunk is the first error of a part
  part_early : (part : Part) (e : TiffError) → 0 < part.count → 0 < part.planes
      → fault_of part.first ≡ Err e → part_fault file order p limits color part ≡ Err e
  part_early part e some planes h =
      let in_plane : ℕ → ℕ → Result (Unit {0}) TiffError =
      λ j plane. fault_of (plane * chunks_of_plane p + (part.first + j)) in
      let at : part.first ≡ 0 * chunks_of_plane p + (part.first + 0) = omega arith in
      first_at (λ j. each_below (in_plane j) part.planes) part.count 0 e some refl
      (first_at (in_plane 0) part.planes 0 e planes refl (subst (λ (m : ℕ). fault_of m
      ≡ Err e) at h))

  -- an error of the first chunk is the error of the part's samples
  pub from_early : (part : Part) (type : DecodingSampleType) (len : ℕ) (e : TiffError)
      → 0 < part.count → 0 < part.planes → sample_type_of p ≡ Ok type
      → check_first_chunk file p limits color type part.first len ≡ Err e
      → samples file order p limits color part len ≡ Err e
  unfolding samples fill_buffer
  from_early part type len e some planes typed h =
      ⊎_elim
      (λ (few : limit_fault limits (size_of type) len ≡ Ok tt).
      let g : chunk_fault p limits (is_cut file p color) color part.first ≡ Err e = rw few at h in
      rw (typed, few, part_early part e some planes (found_early part.first e g)) refl)
      (λ er. let g : Err er.0 ≡ Err e = rw (er.1) at h in let q : er.0
      ≡ e = cc in rw (typed, er.1) (ap Err q))
      (cases_fault (limit_fault limits (size_of type) len))

  -- an error of the form of the first chunk is the result of filling a buffer
  form_early : (part : Part) (buf : List ℕ) (e : TiffError) → 0 < part.count → 0 < part.planes
      → form_fault p limits color part.first ≡ Err e
      → fill_buffer file order p limits color part buf ≡ Err e
  unfolding fill_buffer
  form_early part buf e some planes h =
      let f : fault_of part.first ≡ Err e = rw h refl in
      rw (part_early part e some planes f) refl

-- ---- the form of the first chunk, for reads into a slice

module _ (wanting failed : Type 0) (file : List ℕ) (order : ByteOrder) (p : PageRecord)
    (limits : Limits) (buf : List ℕ) (l : LayoutRecord) (e : TiffError) where
  pub image_form : 0 < p.width → 0 < p.height → 0 < p.chunk_width → 0 < p.chunk_height
      → planes_layout p p.width p.height ≡ Ok l → room_fault (length buf) l.plane_stride ≡ Ok tt
      → 0 < planes_used p l (length buf) → IsCause ⊥ ⊥ e (form_fault p limits l.color 0 ≡ Err e)
      → IsCause wanting failed e (read_image_bytes file order p limits buf ≡ Err e)
  unfolding read_image_bytes
  image_form w h cw ch laid room some c =
      cause_along e (λ n. absurd n) (λ n. absurd n)
      (λ f. rw (laid, room)
      (form_early file order p limits l.color (image_part p (planes_used p l (length buf)) l.row_bytes) buf e (plane_some p.width p.height p.chunk_width p.chunk_height w h cw ch) some f)) c

  pub chunk_form : (i : ℕ) → planes_layout p (rect p i).width (rect p i).height ≡ Ok l
      → room_fault (length buf) l.plane_stride ≡ Ok tt
      → IsCause ⊥ ⊥ e (form_fault p limits l.color i ≡ Err e)
      → IsCause wanting failed e (read_chunk_bytes file order p limits i buf ≡ Err e)
  unfolding read_chunk_bytes
  chunk_form i laid room c =
      cause_along e (λ n. absurd n) (λ n. absurd n)
      (λ f. rw (laid, room) (form_early file order p limits l.color (chunk_part p i 1 l.row_bytes) buf e (omega arith) (omega arith) f)) c

  pub unit_form : (unit : ℕ) → planes_layout p (rect p unit).width (rect p unit).height ≡ Ok l
      → unit_fault p unit ≡ Ok tt → room_fault (length buf) l.plane_stride ≡ Ok tt
      → 0 < planes_used p l (length buf) → IsCause ⊥ ⊥ e (form_fault p limits l.color unit ≡ Err e)
      → IsCause wanting failed e (read_coding_unit_bytes file order p limits unit buf ≡ Err e)
  unfolding read_coding_unit_bytes
  unit_form unit laid below room some c =
      cause_along e (λ n. absurd n) (λ n. absurd n)
      (λ f. rw (laid, below, room) (form_early file order p limits l.color (chunk_part p unit (planes_used p l (length buf)) l.row_bytes) buf e (omega arith) some f)) c

-- ---- early errors

-- a part has chunks, planes, and the first chunk of its request
part_some : (p : PageRecord) (request : ReadRequest) → HasSides p → IsLaid p request
    → (0 < (part_of p request).count)
    × ((0 < (part_of p request).planes) × ((part_of p request).first ≡ first_in request))
part_some p (Image layout planes) sides laid =
    (plane_some p.width p.height p.chunk_width p.chunk_height sides.wide sides.high sides.chunk_wide sides.chunk_high, (laid.some, refl))
part_some p (Chunks color i planes stride) sides laid = (omega arith, (laid.some, refl))

pub portion_early : (wanting failed : Type 0) (file : List ℕ) (order : ByteOrder) (p : PageRecord)
    (limits : Limits) (request : ReadRequest) (color : ColorType) (type : DecodingSampleType)
    (first len : ℕ) (e : TiffError)
    → HasSides p → IsLaid p request → sample_type_of p ≡ Ok type → color ≡ color_in request
    → first ≡ first_in request
    → IsCause wanting failed e (check_first_chunk file p limits color type first len ≡ Err e)
    → IsCause (Unit {0}) failed e (samples file order p limits (color_in request) (part_of p request) len ≡ Err e)
portion_early wanting failed file order p limits request color type first len e sides laid typed c f h =
    let some = part_some p request sides laid in
    cause_along e (λ _. tt) (λ d. d)
    (λ t.
    from_early file order p limits (color_in request) (part_of p request) type len e some.0 some.1.0 typed
    (subst (λ (n : ℕ). check_first_chunk file p limits (color_in request) type n len ≡ Err e) (f
    ∙ sym some.1.1)
    (subst (λ (c : ColorType). check_first_chunk file p limits c type first len ≡ Err e) c t))) h

-- without an early error, there is no error of the limit
pub within_limit : (file : List ℕ) (p : PageRecord) (limits : Limits) (color : ColorType)
    (type : DecodingSampleType) (first len : ℕ)
    → check_first_chunk file p limits color type first len ≡ Ok tt
    → limit_fault limits (size_of type) len ≡ Ok tt
within_limit file p limits color type first len h =
    ⊎_elim (λ ok. ok) (λ er. let g : Err er.0
    ≡ Ok tt = rw (er.1) at h in cc) (cases_fault (limit_fault limits (size_of type) len))

-- ---- what follows a portion

module _ (file : List ℕ) (order : ByteOrder) (p : PageRecord) where
  past : (color : ColorType) (r : Region) (stride planes i : ℕ) → row_bytes p color r.width ≤ stride
      → 0 < r.height → planes * (stride * r.height) ≤ i
      → byte_at file order p color r stride planes i ≡ None
  unfolding byte_at
  past color r stride planes i fits high behind =
      ⊎_elim
      (λ (s : 0 < stride).
      let some : 0 < stride * r.height = omega (arith, one-le-mul s high) in
      let f : nat_lt (i / (stride * r.height)) planes ≡ false =
      le-ltb (i / (stride * r.height)) planes (le-div planes i (stride * r.height) some behind) in
      rw f refl)
      (λ (z : stride ≤ 0).
      let f : nat_lt (i % stride) (row_bytes p color r.width) ≡ false =
      le-ltb (i % stride) (row_bytes p color r.width) (omega (arith, z, fits)) in
      ⊎_elim
      (λ (t : nat_lt (i / (stride * r.height)) planes ≡ true). rw (t, f) refl)
      (λ (t : nat_lt (i / (stride * r.height)) planes ≡ false). rw t refl)
      (cases_Bool (nat_lt (i / (stride * r.height)) planes)))
      (cases_lt 0 stride)

  portion_past : (request : ReadRequest) (i : ℕ) → HasSides p → IsLaid p request
      → room_of p request ≤ i
      → byte_at file order p (color_in request) (part_of p request).region
      (part_of p request).stride (part_of p request).planes i ≡ None
  portion_past (Image layout planes) i sides laid behind =
      let g = layout_gives p p.width p.height (view.layout layout) laid.laid in
      let fits : row_bytes p layout.color p.width ≤ layout.row_bytes = omega (arith, g.0.0) in
      past layout.color (part_of p (Image layout planes)).region layout.row_bytes planes i fits sides.high (subst (λ (m : ℕ). planes * m ≤ i) (g.0.1 ∙ ap (λ m. m * p.height) (sym g.0.0)) behind)
  portion_past (Chunks color k planes stride) i sides laid behind =
      past color (part_of p (Chunks color k planes stride)).region stride planes i laid.columns
      (chunks_within p k sides).some_row (subst (λ (m : ℕ). planes * m
      ≤ i) (mul_comm (rect p k).height stride) behind)

-- ---- lists of zeros that are longer

pub placed_in_zeros : (file : List ℕ) (order : ByteOrder) (p : PageRecord) (color : ColorType)
    (region : Region) (stride planes n : ℕ)
    → bytes_with_region file order p color region stride planes (replicate n 0)
    ≡ tabulate n (λ i. unwrap_or (byte_at file order p color region stride planes i) 0)
unfolding bytes_with_region
placed_in_zeros file order p color region stride planes n =
    let found : ℕ → ℕ → ℕ =
    λ i v. unwrap_or (byte_at file order p color region stride planes i) v in
    ap (λ (k : ℕ). tabulate k (λ i. found i (get_or (replicate n 0) i 0))) (length-replicate n 0)
    ∙ each_same n (λ i. found i (get_or (replicate n 0) i 0)) (λ i. found i 0)
    (λ i l. ap (found i) (zero_in n i))

-- a list by its positions, with zeros after it
at_position : (f : ℕ → ℕ) (n i : ℕ) → ((k : ℕ) → n ≤ k → f k ≡ 0) → get_or (tabulate n f) i 0 ≡ f i
at_position f n i none =
    ⊎_elim
    (λ (l : i < n). get_or-map-range_with_len f 0 n i i 0 l (omega arith))
    (λ (l : n ≤ i). get_or_past (tabulate n f) i 0 (omega (arith, l, length-map-range_with_len f 0 n)) ∙ sym (none i l))
    (cases_lt i n)

-- numbers of bytes that are filled up with zeros are the same
filled_up : (size : ℕ) (f : ℕ → ℕ) (n : ℕ) → IsSize size → ((k : ℕ) → n ≤ k → f k ≡ 0)
    → numbers_in size (tabulate (div_ceil n size * size) f) ≡ numbers_in size (tabulate n f)
unfolding numbers_in
filled_up size f n z none =
    let more : ℕ = div_ceil n size * size in
    let m : n ≤ more = (div_ceil_times n size (some_size size z)).0 in
    let short : length (tabulate n f) ≡ n = length-map-range_with_len f 0 n in
    let count : div_ceil (div_ceil n size * size) size ≡ div_ceil n size =
    by_size (λ m. div_ceil (div_ceil n m * m) m
    ≡ div_ceil n m) size (omega arith) (omega arith) (omega arith) (omega arith) z in
    let number_at : List ℕ → ℕ → ℕ =
    λ bytes k. number LittleEndian (width_of size) (tabulate size (λ j. get_or bytes (k * size
    + j) 0)) in
    ap (λ (x : ℕ). tabulate x (number_at (tabulate more f))) (ap (λ (x : ℕ). div_ceil x size) (length-map-range_with_len f 0 more) ∙ (count ∙ sym (ap (λ (x : ℕ). div_ceil x size) short)))
    ∙ each_same (div_ceil (length (tabulate n f)) size) (number_at (tabulate more f))
    (number_at (tabulate n f))
    (λ k h.
    ap (number LittleEndian (width_of size))
    (each_same size (λ j. get_or (tabulate more f) (k * size
    + j) 0) (λ j. get_or (tabulate n f) (k * size + j) 0)
    (λ j l. at_position f more (k * size + j) (λ x y. none x (omega (arith, y, m))) ∙ sym (at_position f n (k * size + j) none))))

-- ---- the samples of a portion

module _ (file : List ℕ) (order : ByteOrder) (p : PageRecord) (limits : Limits)
    (request : ReadRequest) (sides : HasSides p) (laid : IsLaid p request) where
  abbrev part : Part
  part = part_of p request

  abbrev in_place : ℕ → ℕ
  in_place i =
      unwrap_or (byte_at file order p (color_in request) part.region part.stride part.planes i) 0

  -- what is placed in zeros
  placed_here : (n : ℕ) → bytes_with_region file order p (color_in request) part.region part.stride part.planes (replicate n 0) ≡ tabulate n in_place
  placed_here n =
      placed_in_zeros file order p (color_in request) part.region part.stride part.planes n

  none_behind : (len i : ℕ) → room_of p request ≤ len → len ≤ i → in_place i ≡ 0
  none_behind len i room l =
      ap (λ o. unwrap_or o 0) (portion_past file order p request i sides laid (omega (arith, room, l)))

  -- bytes that were filled into some zeros
  filled_bytes : (zeros new : List ℕ)
      → fill_buffer file order p limits (color_in request) part zeros ≡ Ok new
      → (part_fault file order p limits (color_in request) part ≡ Ok tt)
      × (new ≡ bytes_with_region file order p (color_in request) part.region part.stride part.planes zeros)
  unfolding fill_buffer
  filled_bytes zeros new h =
      ⊎_elim
      (λ (ok : part_fault file order p limits (color_in request) part ≡ Ok tt).
      let g : Ok (bytes_with_region file order p (color_in request) part.region part.stride part.planes zeros) ≡ Ok new = rw ok at h in
      (ok, cc))
      (λ er. let g : Err er.0 ≡ Ok new = rw (er.1) at h in absurd (let n : ⊥ = cc in n))
      (cases_fault (part_fault file order p limits (color_in request) part))

  filled_fault : (zeros : List ℕ) (e : TiffError)
      → fill_buffer file order p limits (color_in request) part zeros ≡ Err e
      → part_fault file order p limits (color_in request) part ≡ Err e
  unfolding fill_buffer
  filled_fault zeros e h =
      ⊎_elim
      (λ (ok : part_fault file order p limits (color_in request) part ≡ Ok tt).
      let g : Ok (bytes_with_region file order p (color_in request) part.region part.stride part.planes zeros) ≡ Err e = rw ok at h in cc)
      (λ er. let g : Err er.0 ≡ Err e = rw (er.1) at h in let q : er.0 ≡ e = cc in er.1 ∙ ap Err q)
      (cases_fault (part_fault file order p limits (color_in request) part))

  -- the samples, if bytes were filled into as many zeros as whole numbers take
  pub zeros_filled : (color : ColorType) (type : DecodingSampleType) (size first len : ℕ)
      (before after : List ℕ) → IsSize size → size_of type ≡ size → sample_type_of p ≡ Ok type
      → check_first_chunk file p limits color type first len ≡ Ok tt → room_of p request ≤ len
      → before ≡ replicate (div_ceil len size * size) 0
      → fill_buffer file order p limits (color_in request) part before ≡ Ok (bytes_in size after)
      → samples file order p limits (color_in request) part len
      ≡ Ok (record { sample_type = type; numbers = after })
  unfolding samples fill_buffer
  zeros_filled color type size first len before after z sized typed early room zeros h =
      let more : ℕ = div_ceil len size * size in
      let f = filled_bytes (replicate more 0) (bytes_in size after) (rw zeros at h) in
      let numbers : numbers_in size (bytes_with_region file order p (color_in request) part.region part.stride part.planes (replicate len 0)) ≡ after =
      ap (numbers_in size) (placed_here len)
      ∙ (sym (filled_up size in_place len z (λ i l. none_behind len i room l))
      ∙ (sym (ap (numbers_in size) (f.1 ∙ placed_here more)) ∙ numbers_again size after z)) in
      rw (typed, within_limit file p limits color type first len early, f.0)
      (ap Ok (λ i. record { sample_type = type; numbers = ((λ t. numbers_in (sized t) (bytes_with_region file order p (color_in request) part.region part.stride part.planes (replicate len 0))) ∙ numbers) i }))

  -- the bytes, if these are the numbers
  pub bytes_given : (color : ColorType) (type : DecodingSampleType) (first len : ℕ)
      (before after : List ℕ) → size_of type ≡ 1 → sample_type_of p ≡ Ok type
      → check_first_chunk file p limits color type first len ≡ Ok tt → before ≡ replicate len 0
      → fill_buffer file order p limits (color_in request) part before ≡ Ok after
      → samples file order p limits (color_in request) part len
      ≡ Ok (record { sample_type = type; numbers = after })
  unfolding samples fill_buffer
  bytes_given color type first len before after sized typed early zeros h =
      let f = filled_bytes before after h in
      let numbers : numbers_in 1 (bytes_with_region file order p (color_in request) part.region part.stride part.planes (replicate len 0)) ≡ after =
      numbers_are (bytes_with_region file order p (color_in request) part.region part.stride part.planes (replicate len 0))
      ∙ (sym (ap (λ (xs : List ℕ). bytes_with_region file order p (color_in request) part.region part.stride part.planes xs) zeros) ∙ sym f.1) in
      rw (typed, within_limit file p limits color type first len early, f.0)
      (ap Ok (λ i. record { sample_type = type; numbers = ((λ t. numbers_in (sized t) (bytes_with_region file order p (color_in request) part.region part.stride part.planes (replicate len 0))) ∙ numbers) i }))

  -- an error of filling is an error of the samples
  pub filling_cause : (failed failed' : Type 0) (color : ColorType) (type : DecodingSampleType)
      (first len : ℕ) (zeros : List ℕ) (e : TiffError) → (failed → failed')
      → sample_type_of p ≡ Ok type
      → check_first_chunk file p limits color type first len ≡ Ok tt
      → IsCause (Unit {0}) failed e (fill_buffer file order p limits (color_in request) part zeros
      ≡ Err e)
      → IsCause (Unit {0}) failed' e (samples file order p limits (color_in request) part len
      ≡ Err e)
  unfolding samples fill_buffer
  filling_cause failed failed' color type first len zeros e grew typed early c =
      cause_along e (λ w. w) grew
      (λ h. rw (typed, within_limit file p limits color type first len early, filled_fault zeros e h) refl)
      c

-- ---- a call returns the error that is found before memory is allocated for samples

-- an error of what two chains begin with, or of what follows it
follows : {A B C : Type 0} (r : Result A TiffError) (early : A → Result B TiffError)
    (call : A → Result C TiffError) (e : TiffError)
    → ((x : A) → r ≡ Ok x → early x ≡ Err e → call x ≡ Err e) → (r >>= early) ≡ Err e
    → (r >>= call) ≡ Err e
follows (Ok x) early call e k h = k x refl h
follows (Err f) early call e k h = let q : f ≡ e = cc in ap Err q

-- an error of a step is the error of all steps after it
goes_on : {A B : Type 0} (r : Result A TiffError) (next : A → Result B TiffError) (e : TiffError)
    → r ≡ Err e → (r >>= next) ≡ Err e
goes_on r next e h = ap (λ q. q >>= next) h

module _ (file : List ℕ) (order : ByteOrder) (p : PageRecord) (limits : Limits) where
  typed : (color : ColorType) (part : Part) (len : ℕ) (e : TiffError)
      (t : Result DecodingSampleType TiffError) → 0 < part.count → 0 < part.planes
      → sample_type_of p ≡ t → (t >>= λ type. check_first_chunk file p limits color type part.first len) ≡ Err e
      → samples file order p limits color part len ≡ Err e
  unfolding samples
  typed color part len e (Ok type) some used q h =
      from_early file order p limits color part type len e some used q h
  typed color part len e (Err f) some used q h = let s : f ≡ e = cc in rw q (ap Err s)

  sampled : (color : ColorType) (part : Part) (len : ℕ) (e : TiffError) → 0 < part.count
      → 0 < part.planes
      → samples_early file p limits color part.first len ≡ Err e
      → samples file order p limits color part len ≡ Err e
  sampled color part len e some used h = typed color part len e (sample_type_of p) some used refl h

  -- a part of all chunks of a plane has at least one chunk
  some_chunks : HasSides p → 0 < chunks_of_plane p
  some_chunks s =
      plane_some p.width p.height p.chunk_width p.chunk_height s.wide s.high s.chunk_wide s.chunk_high

  image : (e : TiffError) → HasSides p → image_early file p limits ≡ Err e
      → image_of file order p limits ≡ Err e
  unfolding image_of
  image e s h =
      follows (planes_layout p p.width p.height) (λ l. samples_early file p limits l.color 0 l.plane_stride)
      (λ l. samples file order p limits l.color (image_part p 1 l.row_bytes) l.plane_stride) e
      (λ l _ k. sampled l.color (image_part p 1 l.row_bytes) l.plane_stride e (some_chunks s) (omega arith) k) h

  chunk : (i : ℕ) (e : TiffError) → chunk_early file p limits i ≡ Err e
      → read_chunk file order p limits i ≡ Err e
  unfolding read_chunk
  chunk i e h =
      follows (planes_layout p (rect p i).width (rect p i).height) (λ l. samples_early file p limits l.color i l.plane_stride)
      (λ l. samples file order p limits l.color (chunk_part p i 1 l.row_bytes) l.plane_stride) e
      (λ l _ k. sampled l.color (chunk_part p i 1 l.row_bytes) l.plane_stride e (omega arith) (omega arith) k) h

  strided : (i stride : ℕ) (e : TiffError) → strided_early file p limits i stride ≡ Err e
      → read_chunk_to_buffer file order p limits i stride ≡ Err e
  unfolding read_chunk_to_buffer
  strided i stride e h =
      let len : ℕ = stride * (rect p i).height in
      let early : LayoutRecord → Result (Unit {0}) TiffError =
      λ l. samples_early file p limits l.color i len in
      let read : LayoutRecord → Result _ TiffError =
      λ l. samples file order p limits l.color (chunk_part p i 1 stride) len in
      follows (planes_layout p (rect p i).width (rect p i).height)
      (λ l. stride_fault stride l.row_bytes >>= (λ _. wide (stride * p.chunk_height)
      >>= (λ _. early l)))
      (λ l. stride_fault stride l.row_bytes >>= (λ _. wide (stride * p.chunk_height)
      >>= (λ _. read l))) e
      (λ l _ k. follows (stride_fault stride l.row_bytes) (λ _. wide (stride * p.chunk_height)
      >>= (λ _. early l))
      (λ _. wide (stride * p.chunk_height) >>= (λ _. read l)) e
      (λ _ _ m. follows (wide (stride * p.chunk_height)) (λ _. early l) (λ _. read l) e
      (λ _ _ n. sampled l.color (chunk_part p i 1 stride) len e (omega arith) (omega arith) n) m) k) h

  -- at least one plane is within the limit
  within_some : (l : LayoutRecord) → 0 < planes p.planar l.color → 0 < planes_within p limits l
  within_some l s =
      chosen (nat_le (l.plane_stride * planes p.planar l.color) limits.decoding_buffer_size)
    where
      chosen : (b : Bool) → 0 < cond b (planes p.planar l.color) 1
      chosen true = s
      chosen false = omega arith

  all : (e : TiffError) → HasSides p → 0 < p.samples → planes_early file p limits ≡ Err e
      → read_image_to_buffer file order p limits ≡ Err e
  unfolding read_image_to_buffer
  all e s some h =
      follows (planes_layout p p.width p.height)
      (λ l. samples_early file p limits l.color 0 (l.plane_stride * planes_within p limits l))
      (λ l. samples file order p limits l.color (image_part p (planes_within p limits l) l.row_bytes) (l.plane_stride * planes_within p limits l)
      >>= (λ numbers. Ok (all_planes p l, numbers))) e
      (λ l q k.
      let used = planes_within p limits l in
      goes_on _ (λ numbers. Ok (all_planes p l, numbers)) e
      (sampled l.color (image_part p used l.row_bytes) (l.plane_stride * used) e (some_chunks s)
      (within_some l (some_planes p l.color some (layout_gives p p.width p.height l (laid_once p p.width p.height l q)).1.0)) k)) h

pub early_is_answered : EarlyIsAnswered
early_is_answered = record {
  image = λ file order p limits e s h. image file order p limits e s h;
  planes = λ file order p limits e s some h. all file order p limits e s some h;
  chunk = λ file order p limits i e h. chunk file order p limits i e h;
  strided = λ file order p limits i stride e h. strided file order p limits i stride e h;
}

-- ---- which bytes reads of pixels ask a source for

-- a call asks for bytes among others
pub asks_more : {X : Type 0} (P Q : Type 0) (r : Result X TiffError) → (Q → P) → ReadsOnly P r
    → ReadsOnly Q r
asks_more P Q (Ok x) f a = tt
asks_more P Q (Err e) f a = λ q. a (f q)

-- fewer bytes are among more
pub fewer : (s : ChunkCursor) (a b : ℕ) → a ≤ b → (t : SourceRecord) → StoredReadable t s b
    → StoredReadable t s a
fewer (Plain at) a b h t r = part_readable t at b at a (omega arith) (omega (arith, h)) r
fewer (Packed position) a b h t r = r
fewer Ended a b h t r = r

counted_fewer : (packed : Bool) (at count a b : ℕ) → a ≤ b → (t : SourceRecord)
    → AreReadable t at (if packed then count else b)
    → AreReadable t at (if packed then count else a)
counted_fewer true at count a b h t r = r
counted_fewer false at count a b h t r =
    part_readable t at b at a (omega arith) (omega (arith, h)) r

data_fewer : (p : PageRecord) (i a b : ℕ) → a ≤ b → (t : SourceRecord) → DataReadable t p i b
    → DataReadable t p i a
data_fewer p i a b h t r =
    counted_fewer (is_packed p.method) (slice_index p.offsets i) (slice_index p.byte_counts i) a b h t r

-- a position after one that is after another
pub moves_on : (from mid rest : ChunkCursor) (a b n : ℕ) → a + b ≡ n → Moves from a mid
    → Moves mid b rest → Moves from n rest
moves_on from mid rest a b n e g m t k r =
    let x : n + k ≡ a + (b + k) = omega (arith, e) in
    m t k (g t (b + k) (subst (StoredReadable t from) x r))

-- some more of the bytes are read
pub more_asked : (from mid : ChunkCursor) (a b n : ℕ) (e : TiffError) (s t : SourceRecord) → t ≡ s
    → a + b ≤ n → Moves from a mid
    → (StoredReadable t mid b → IsNotDevice e) → StoredReadable s from n → IsNotDevice e
more_asked from mid a b n e s t same l g asked r =
    asked (g t b (fewer from (a + b) n l t (subst (λ x. StoredReadable x from n) (sym same) r)))

-- ---- the data of a chunk

-- a position is n bytes after the front of a chunk's data
abbrev pub StandsAt : PageRecord → ℕ → ℕ → ChunkCursor → Type 0
StandsAt p i at position =
    (t : SourceRecord) (m : ℕ) → DataReadable t p i (at + m) → StoredReadable t position m

pub stands_on : (p : PageRecord) (i at n next : ℕ) (position rest : ChunkCursor) → at + n ≤ next
    → StandsAt p i at position → Moves position n rest → StandsAt p i next rest
stands_on p i at n next position rest l s h t m r =
    h t m (s t (n + m) (data_fewer p i (at + (n + m)) (next + m) (omega (arith, l)) t r))

-- the front is 0 bytes after itself
pub front_stands : (p : PageRecord) (i at : ℕ) (position : ChunkCursor)
    → ((t : SourceRecord) (n : ℕ) → DataReadable t p i n → StoredReadable t position n)
    → StandsAt p i at position
front_stands p i at position e t m r = e t m (data_fewer p i m (at + m) (omega arith) t r)

-- bytes within the needed bytes of a chunk are read
pub chunk_asked : (p : PageRecord) (color : ColorType) (i at n : ℕ) (position : ChunkCursor)
    (e : TiffError) (s t : SourceRecord) → t ≡ s → at + n ≤ needed_bytes p color i
    → StandsAt p i at position → (StoredReadable t position n → IsNotDevice e)
    → ChunkReadable s p color i → IsNotDevice e
chunk_asked p color i at n position e s t same l stands asked r =
    asked (stands t n (data_fewer p i (at + n) (needed_bytes p color i) l t (subst (λ x. ChunkReadable x p color i) (sym same) r)))

-- a row, and the bytes after it up to the next one, are within the needed bytes
pub row_within : (row h stored need gap : ℕ) → row < h → need + gap ≤ stored
    → (row + 1 ≡ h → gap ≡ 0) → row * stored + (need + gap) ≤ (h - 1) * stored + need
row_within row h stored need gap l w e =
    ⊎_elim
    (λ (a : row + 1 < h).
    let x : (row + 1) * stored ≤ (h - 1) * stored = mul-le-mul_right stored (omega (arith, a)) in
    let y : (row + 1) * stored ≡ row * stored + stored = omega arith in
    omega (arith, x, y, w))
    (λ (a : h ≤ row + 1).
    let b : row ≡ h - 1 = omega (arith, a, l) in
    let z : gap ≡ 0 = e (omega (arith, a, l)) in
    omega (arith, ap (λ m. m * stored) b, z))
    (cases_lt (row + 1) h)

-- the bytes between rows are those of a row that are not read
pub behind_within : (row h stored need gap : ℕ) → row < h → need ≤ stored
    → (row + 1 < h → gap ≡ stored - need) → (row + 1 ≡ h → gap ≡ 0) → need + gap ≤ stored
behind_within row h stored need gap l w b e =
    ⊎_elim
    (λ (a : row + 1 < h). omega (arith, b a, w))
    (λ (a : h ≤ row + 1). let z : gap ≡ 0 = e (omega (arith, a, l)) in omega (arith, z, w))
    (cases_lt (row + 1) h)

-- ---- the rows of a chunk, one after another

module _ (p : PageRecord) (color : ColorType) (k row n : ℕ) (position : ChunkCursor)
    (rl : row < (rect p k).height)
    (whole : n ≡ row_bytes p color (rect p k).width) (stands : StandsAt p k (row * stored_row_bytes p) position) where
  abbrev h : ℕ
  h = (rect p k).height

  abbrev need : ℕ
  need = needed_of_row p color (row_bytes p color (rect p k).width)

  abbrev stored : ℕ
  stored = stored_row_bytes p

  abbrev at : ℕ
  at = row * stored

  need_is : needed_of_row p color n ≡ need
  need_is = ap (needed_of_row p color) whole

  -- a row is read
  pub row_asked : (e : TiffError) (s t : SourceRecord) → t ≡ s
      → (StoredReadable t position (needed_of_row p color n) → IsNotDevice e)
      → ChunkReadable s p color k → IsNotDevice e
  row_asked e s t same asked =
      let x : row * stored ≤ (h - 1) * stored = mul-le-mul_right stored (omega (arith, rl)) in
      chunk_asked p color k at (needed_of_row p color n) position e s t same
      (omega (arith, x, need_is)) stands asked

  -- the bytes after a row are skipped
  module _ (rest : ChunkCursor) (behind : ℕ) (within : need ≤ stored)
      (moves : Moves position (needed_of_row p color n) rest)
      (between : row + 1 < h → behind ≡ stored - need) (last : row + 1 ≡ h → behind ≡ 0) where
    gap : need + behind ≤ stored
    gap = behind_within row h stored need behind rl within between last

    rest_stands : StandsAt p k (at + need) rest
    rest_stands =
        stands_on p k at (needed_of_row p color n) (at
        + need) position rest (omega (arith, need_is)) stands moves

    pub behind_asked : (e : TiffError) (s t : SourceRecord) → t ≡ s
        → (StoredReadable t rest behind → IsNotDevice e) → ChunkReadable s p color k → IsNotDevice e
    behind_asked e s t same asked =
        chunk_asked p color k (at + need) behind rest e s t same (omega (arith, row_within row h stored need behind rl gap last)) rest_stands asked

    pub next_stands : (next : ChunkCursor) → Moves rest behind next
        → StandsAt p k ((row + 1) * stored) next
    next_stands next m =
        let y : (row + 1) * stored ≡ at + stored = omega arith in
        stands_on p k (at + need) behind ((row + 1) * stored) rest next (omega (arith, gap, y)) rest_stands m

-- ---- the chunks of a part of an image

-- one more chunk of a part is read
pub part_asked : (p : PageRecord) (color : ColorType) (part : Part) (plane j i : ℕ) (e : TiffError)
    (s t : SourceRecord) → t ≡ s → i ≡ plane * chunks_of_plane p + (part.first + j)
    → plane < part.planes → j < part.count → (ChunkReadable t p color i → IsNotDevice e)
    → PartReadable s p color part → IsNotDevice e
part_asked p color part plane j i e s t same x pl jl asked r =
    asked (subst (λ k. ChunkReadable t p color k) (sym x) (subst (λ z. ChunkReadable z p color (plane * chunks_of_plane p + (part.first + j))) (sym same) (r.chunk plane pl j jl)))

-- one more chunk of an image is read in its planes
pub image_asked : (p : PageRecord) (color : ColorType) (planes stride chunk : ℕ) (e : TiffError)
    (s t : SourceRecord) → t ≡ s → chunk < chunks_of_plane p
    → (PartReadable t p color (chunk_part p chunk planes stride) → IsNotDevice e)
    → PartReadable s p color (image_part p planes stride) → IsNotDevice e
image_asked p color planes stride chunk e s t same l asked r =
    asked (record {
      chunk = λ plane pl j jl.
          let x : plane * chunks_of_plane p + (0 + chunk) ≡ plane * chunks_of_plane p
          + (chunk + j) = omega (arith, jl) in
          subst (λ k. ChunkReadable t p color k) x (subst (λ z. ChunkReadable z p color (plane * chunks_of_plane p + (0 + chunk))) (sym same) (r.chunk plane pl chunk l));
    })

-- the first chunk is in the part
pub first_readable : (file : List ℕ) (order : ByteOrder) (p : PageRecord) (request : ReadRequest)
    (s : SourceRecord) → HasSides p → IsLaid p request
    → PartReadable s p (color_in request) (part_of p request)
    → ChunkReadable s p (color_in request) (first_in request)
first_readable file order p request s sides laid r =
    let some = part_some p request sides laid in
    let x : 0 * chunks_of_plane p + ((part_of p request).first + 0) ≡ first_in request =
    omega (arith, some.1.1) in
    subst (λ k. ChunkReadable s p (color_in request) k) x (r.chunk 0 some.1.0 0 some.0)

-- a portion is read from a source with the same bytes
pub portion_filled : (order : ByteOrder) (p : PageRecord) (request : ReadRequest) (e : TiffError)
    (s t : SourceRecord) → t ≡ s
    → (PartReadable t p (color_in request) (part_of p request) → IsNotDevice e)
    → PartReadable s p (color_in request) (part_of p request) → IsNotDevice e
portion_filled order p request e s t same asked r =
    asked (subst (λ z. PartReadable z p (color_in request) (part_of p request)) (sym same) r)

-- ---- what a layout defines

-- the part that the layout defines was read
pub laid_asked : {X : Type 0} (p : PageRecord) (laid : Result LayoutRecord TiffError)
    (shape : LayoutRecord → Part) (l : LayoutRecord) (here : Part) (s : SourceRecord) (r : Result X TiffError)
    → laid ≡ Ok l → here ≡ shape l → ReadsOnly (PartReadable s p l.color here) r
    → ReadsOnly (LaidReadable s p laid shape) r
laid_asked p laid shape l here s r given same a =
    asks_more (PartReadable s p l.color here) (LaidReadable s p laid shape) r
    (λ q. subst (λ (x : Part). PartReadable s p l.color x) (sym same) (q.part_readable l given)) a

-- the bytes of a chunk don't depend on the distance of its rows
pub strided_asked : {X : Type 0} (p : PageRecord) (laid : Result LayoutRecord TiffError)
    (i stride : ℕ) (l : LayoutRecord) (s : SourceRecord) (r : Result X TiffError)
    → laid ≡ Ok l → ReadsOnly (PartReadable s p l.color (chunk_part p i 1 stride)) r
    → ReadsOnly (LaidReadable s p laid (λ l. chunk_part p i 1 l.row_bytes)) r
strided_asked p laid i stride l s r given a =
    asks_more (PartReadable s p l.color (chunk_part p i 1 stride))
    (LaidReadable s p laid (λ l. chunk_part p i 1 l.row_bytes)) r
    (λ q. record { chunk = (q.part_readable l given).chunk }) a
