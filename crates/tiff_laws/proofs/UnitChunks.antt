-- The chunks of a coding unit: their layout, their errors, and when they are read.
use Rattle.std.proofs.Common.{◌≡◌, ℕ, ◌+◌, ◌*◌, ◌/◌, ◌%◌, ◌<◌, ◌≤◌, true, false, min, List, length, Ok, Err, refl, ap, sym, ◌∙◌, ⊎_elim, arith}
use Rattle.std.specs.Prelude.{◌-◌, Result, nat_lt, replicate}
use Rattle.std.specs.Result.{IsOk}
use Rattle.std.proofs.lemmas.Bool.{cases_Bool, lt-ltb, ltb-true}
use Rattle.std.proofs.lemmas.List.{length-replicate}
use Rattle.std.proofs.lemmas.Nat.{mod-mul-add}
use Rattle.std.proofs.Math.Nat.{mod-eq_of_lt}
use Rattle.tiff_base.specs.lemmas.Common.{bind_ok}
use Rattle.tiff_base.specs.declared.error.TiffError.{TiffError}
use Rattle.tiff_base.specs.declared.error.TiffError.TheVariants.{UsageError}
use Rattle.tiff_base.specs.declared.error.UsageError.TheVariants.{InvalidCodingUnit}
use Rattle.tiff_base.specs.Answers.{◌>>=◌}
use Rattle.tiff_page.specs.Page.{PageRecord}
use Rattle.tiff_page.specs.Rect.{rect, across, chunks_of_plane}
use Rattle.tiff_page.specs.Layout.{LayoutRecord, row_bytes}
use Rattle.tiff_page.specs.PixelFault.{each_below}
use Rattle.tiff_page.specs.Buffers.{planes_layout, unit_fault}
use Rattle.tiff_page.specs.PixelCalls as pixels
use Rattle.tiff_page.specs.PixelCalls.{Part, chunk_part, part_fault, room_fault, planes_used, bytes_with_region, fill_buffer}
use Rattle.tiff_page.specs.Laws.{IsFirst, NoFault, FirstFault}
use Rattle.tiff_page.specs.lemmas.Planes.{each_same}
use Rattle.tiff_page.specs.lemmas.PassedChecks.{ok_is}
use Rattle.tiff_decode.specs.Machine.{Decoding}
use Rattle.tiff_decode.specs.Outcome as outcome
use Rattle.tiff_laws.specs.Whole.{IsChunkRead, IsChunkRefused, chunk_byte_count}
use Rattle.tiff_laws.specs.Units.{HasUnitRoom, IsFirstPlaneRefused, UnitWhereChunks, UnitRefusedWhereChunks, unit_chunk}
use Rattle.tiff_laws.proofs.Laid.{IsLaid, IsFilled, laid, planes_laid, filled_gives, read_gives, room_ok}
use Rattle.tiff_laws.proofs.WhereChunks.{fault_of, read_into, one_fault, ok_or, is_good, has_room}
use Rattle.tiff_laws.proofs.FirstRefused.{fault_first, refusal_of, refusal_by}

-- a unit is one of the chunks of a plane
pub unit_listed : (p : PageRecord) (unit : ℕ) (u : Unit {0}) → unit_fault p unit ≡ Ok u
    → unit < chunks_of_plane p
unit_listed p unit u h =
    ⊎_elim
    (λ (t : nat_lt unit (chunks_of_plane p) ≡ true). ltb-true unit (chunks_of_plane p) t)
    (λ (f : nat_lt unit (chunks_of_plane p) ≡ false). let g : Err (UsageError (InvalidCodingUnit unit (chunks_of_plane p))) ≡ Ok u = rw f at h in cc)
    (cases_Bool (nat_lt unit (chunks_of_plane p)))

pub unit_passes : (p : PageRecord) (unit : ℕ) → unit < chunks_of_plane p → unit_fault p unit ≡ Ok tt
unit_passes p unit l =
    let t : nat_lt unit (chunks_of_plane p) ≡ true = lt-ltb unit (chunks_of_plane p) l in rw t refl

-- the result is the error of the first step, if it has one, or bytes
pub first_is_ok : (r : Result (Unit {0}) TiffError) (x : List ℕ) → r ≡ Ok tt
    → (r >>= (λ _. Ok x)) ≡ Ok x
first_is_ok r x h = rw h refl

pub first_is_err : (r : Result (Unit {0}) TiffError) (x : List ℕ) (e : TiffError) → r ≡ Err e
    → (r >>= (λ _. Ok x)) ≡ Err e
first_is_err r x e h = rw h refl

module _ (d : Decoding) (l : LayoutRecord) (unit : ℕ) (whole : planes_layout d.state.page (rect d.state.page unit).width (rect d.state.page unit).height ≡ Ok l) (listed : unit < chunks_of_plane d.state.page) where
  abbrev pub page : PageRecord
  page = d.state.page

  abbrev pub fault : ℕ → Result (Unit {0}) TiffError
  fault i = fault_of d.bytes d.order page d.state.limits l.color i

  abbrev pub into : ℕ → LayoutRecord → Part
  into i layout = chunk_part page i 1 layout.row_bytes

  pub is_laid : IsLaid page (rect page unit).width (rect page unit).height l
  is_laid =
      laid page (rect page unit).width (rect page unit).height l (planes_laid page (rect page unit).width (rect page unit).height l whole).0

  module _ (plane : ℕ) where
    abbrev pub i : ℕ
    i = unit_chunk page unit plane

    same_index : i % chunks_of_plane page ≡ unit % chunks_of_plane page
    same_index = mod-mul-add plane (chunks_of_plane page) unit listed ∙ sym (mod-eq_of_lt listed)

    pub same_width : (rect page i).width ≡ (rect page unit).width
    unfolding rect
    same_width =
        ap (λ (j : ℕ). min page.chunk_width (page.width - j % across page * page.chunk_width)) same_index

    pub same_height : (rect page i).height ≡ (rect page unit).height
    unfolding rect
    same_height =
        ap (λ (j : ℕ). min page.chunk_height (page.height - j / across page * page.chunk_height)) same_index

    -- the chunk has the layout of the unit
    pub chunk_laid : planes_layout page (rect page i).width (rect page i).height ≡ Ok l
    chunk_laid = (λ t. planes_layout page (same_width t) (same_height t)) ∙ whole

    pub stride_is : l.plane_stride ≡ chunk_byte_count page l i
    stride_is =
        is_laid.stride ∙ (λ t. row_bytes page l.color (sym same_width t) * sym same_height t)

    -- a chunk without an error is read
    pub chunk_read : fault i ≡ Ok tt → IsChunkRead d l i
    unfolding outcome.read_chunk_bytes pixels.read_chunk_bytes
    chunk_read none part room =
        read_into d.bytes d.order page d.state.limits (rect page i).width (rect page i).height
        (into i) part l chunk_laid (omega (arith, stride_is, room))
        (one_fault d.bytes d.order page d.state.limits l.color i l.row_bytes ∙ none)

    -- a chunk that is read has no error
    pub chunk_none : (part : List ℕ) → IsOk (outcome.read_chunk_bytes d i part).answer
        → fault i ≡ Ok tt
    unfolding outcome.read_chunk_bytes pixels.read_chunk_bytes
    chunk_none part ok =
        let bytes = ok_or (outcome.read_chunk_bytes d i part).answer ok in
        let a =
        read_gives d.bytes d.order page d.state.limits (rect page i).width (rect page i).height
        (into i) part bytes.0 bytes.1 in
        let same : l ≡ a.0 = ok_is l a.0 (sym chunk_laid ∙ a.1.laid) in
        ap (λ (z : LayoutRecord). fault_of d.bytes d.order page d.state.limits z.color i) same
        ∙ sym (one_fault d.bytes d.order page d.state.limits a.0.color i a.0.row_bytes)
        ∙ a.1.filled.none

    -- a chunk with an error is refused
    pub chunk_refused : (e : TiffError) → fault i ≡ Err e → IsChunkRefused d l e i
    unfolding outcome.read_chunk_bytes pixels.read_chunk_bytes
    chunk_refused e h part room =
        refusal_by d.bytes d.order page d.state.limits (rect page i).width (rect page i).height
        (into i) part l chunk_laid (omega (arith, stride_is, room)) e
        (one_fault d.bytes d.order page d.state.limits l.color i l.row_bytes ∙ h)

    abbrev some_part : List ℕ
    some_part = replicate (chunk_byte_count page l i) 0

    has_part : chunk_byte_count page l i ≤ length some_part
    has_part = omega (arith, length-replicate {A = ℕ} (chunk_byte_count page l i) 0)

    -- a chunk that is refused has an error
    pub fault_is : (e : TiffError) → IsChunkRefused d l e i → fault i ≡ Err e
    unfolding outcome.read_chunk_bytes pixels.read_chunk_bytes
    fault_is e h =
        sym (one_fault d.bytes d.order page d.state.limits l.color i l.row_bytes)
        ∙ refusal_of d.bytes d.order page d.state.limits (rect page i).width (rect page i).height
        (into i) some_part l chunk_laid (omega (arith, stride_is, has_part)) e
        (h some_part has_part)

    pub none_is : IsChunkRead d l i → fault i ≡ Ok tt
    none_is h = chunk_none some_part (h some_part has_part)

  -- ---- the errors of the unit

  abbrev pub of_plane : ℕ → Result (Unit {0}) TiffError
  of_plane plane = fault (unit_chunk page unit plane)

  abbrev pub unit_part : ℕ → ℕ → Part
  unit_part used s = chunk_part page unit used s

  pub faults_are : (used s : ℕ)
      → part_fault d.bytes d.order page d.state.limits l.color (unit_part used s)
      ≡ each_below of_plane used
  faults_are used s =
      let e : unit + 0 ≡ unit = omega arith in
      each_same (λ plane. fault (plane * chunks_of_plane page
      + (unit + 0))) of_plane used (λ plane. ap (λ (z : ℕ). fault (plane * chunks_of_plane page
      + z)) e)

  module _ (buf : List ℕ) (room : l.plane_stride ≤ length buf) where
    abbrev pub used : ℕ
    used = planes_used page l (length buf)

    abbrev pub bytes : List ℕ
    bytes =
        bytes_with_region d.bytes d.order page l.color (unit_part used l.row_bytes).region l.row_bytes used buf

    -- the result of a unit that has room
    pub answer_is : (outcome.read_coding_unit_bytes d unit buf).answer
        ≡ (each_below of_plane used >>= (λ _. Ok bytes))
    unfolding outcome.read_coding_unit_bytes pixels.read_coding_unit_bytes fill_buffer
    answer_is =
        let a : room_fault (length buf) l.plane_stride ≡ Ok tt =
        has_room (length buf) l.plane_stride room in
        let b : unit_fault page unit ≡ Ok tt = unit_passes page unit listed in
        rw (whole, b, a) (ap (λ (r : Result (Unit {0}) TiffError). r
        >>= (λ _. Ok bytes)) (faults_are used l.row_bytes))

    module _ (no_fault : NoFault) where
      pub unit_read : ((plane : ℕ) → plane < used → of_plane plane ≡ Ok tt)
          → (outcome.read_coding_unit_bytes d unit buf).answer ≡ Ok bytes
      unit_read each =
          answer_is ∙ first_is_ok (each_below of_plane used) bytes ((no_fault of_plane used).1 each)

    module _ (no_fault : NoFault) (first_fault : FirstFault) (e : TiffError) where
      pub first_of : (outcome.read_coding_unit_bytes d unit buf).answer ≡ Err e
          → (plane : ℕ) × IsFirstPlaneRefused d l unit used plane e
      first_of h =
          let a : (m : ℕ) × ((m < used) × IsFirst of_plane m e) =
          (first_fault of_plane used e).0 (fault_first (each_below of_plane used) bytes e (sym answer_is ∙ h)) in (
            a.0,
            record {
              used = a.1.0;
              refused = chunk_refused a.0 e a.1.1.found;
              before = λ n nl. chunk_read n (a.1.1.none n nl);
            },
          )

      pub by_first : (plane : ℕ) → IsFirstPlaneRefused d l unit used plane e
          → (outcome.read_coding_unit_bytes d unit buf).answer ≡ Err e
      by_first plane is =
          answer_is
          ∙ first_is_err (each_below of_plane used) bytes e
          ((first_fault of_plane used e).1 plane is.used (record { found = fault_is plane e is.refused; none = λ n nl. none_is n (is.before n nl) }))

-- facts of a read of a unit that returned bytes
pub record IsUnitRead (d : Decoding) (unit : ℕ) (buf new : List ℕ) (l : LayoutRecord) : Type 0 where
  pub has : HasUnitRoom d.state.page l unit (length buf)
  pub filled : IsFilled d.bytes d.order d.state.page d.state.limits l.color
      (chunk_part d.state.page unit (planes_used d.state.page l (length buf)) l.row_bytes) buf new

pub unit_gives : (d : Decoding) (unit : ℕ) (buf new : List ℕ)
    → (outcome.read_coding_unit_bytes d unit buf).answer ≡ Ok new
    → (l : LayoutRecord) × IsUnitRead d unit buf new l
unfolding outcome.read_coding_unit_bytes pixels.read_coding_unit_bytes
unit_gives d unit buf new h =
    let p : PageRecord = d.state.page in
    let part : LayoutRecord → Part =
    λ l. chunk_part p unit (planes_used p l (length buf)) l.row_bytes in
    let fill : LayoutRecord → Result (List ℕ) TiffError =
    λ l. fill_buffer d.bytes d.order p d.state.limits l.color (part l) buf in
    let sized : LayoutRecord → Result (List ℕ) TiffError =
    λ l. room_fault (length buf) l.plane_stride >>= (λ _. fill l) in
    let a =
    bind_ok (planes_layout p (rect p unit).width (rect p unit).height) (λ l. unit_fault p unit
    >>= (λ _. sized l)) new h in
    let b = bind_ok (unit_fault p unit) (λ _. sized a.0) new a.1.1 in
    let c = bind_ok (room_fault (length buf) a.0.plane_stride) (λ _. fill a.0) new b.1.1 in (
      a.0,
      record {
        has =
            record { laid = a.1.0; listed = unit_listed p unit b.0 b.1.0; room = room_ok (length buf) a.0.plane_stride c.1.0 };
        filled = filled_gives d.bytes d.order p d.state.limits a.0.color (part a.0) buf new c.1.1;
      },
    )

pub unit_where_chunks : NoFault → UnitWhereChunks
unit_where_chunks no_fault d unit buf sides = (
  λ ok.
      let new = ok_or (outcome.read_coding_unit_bytes d unit buf).answer ok in
      let a = unit_gives d unit buf new.0 new.1 in
      let l : LayoutRecord = a.0 in
      let has : HasUnitRoom d.state.page l unit (length buf) = a.1.has in
      let n : ℕ = planes_used d.state.page l (length buf) in
      let none : each_below (of_plane d l unit has.laid has.listed) n ≡ Ok tt =
      sym (faults_are d l unit has.laid has.listed n l.row_bytes) ∙ a.1.filled.none in
      (l, (has, λ plane below. chunk_read d l unit has.laid has.listed plane ((no_fault (of_plane d l unit has.laid has.listed) n).0 none plane below))),
  λ l has each.
      is_good (outcome.read_coding_unit_bytes d unit buf).answer _
      (unit_read d l unit has.laid has.listed buf has.room no_fault
      (λ plane below. chunk_none d l unit has.laid has.listed plane (each plane below).0 (each plane below).1)),
)

pub unit_refused_where_chunks : NoFault → FirstFault → UnitRefusedWhereChunks
unit_refused_where_chunks no_fault first_fault d l unit buf e sides has = (
  first_of d l unit has.laid has.listed buf has.room no_fault first_fault e,
  by_first d l unit has.laid has.listed buf has.room no_fault first_fault e,
)
