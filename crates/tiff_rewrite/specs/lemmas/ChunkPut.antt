-- A chunk of another file.
use Rattle.std.proofs.Common.{◌≡◌, ℕ, zero, suc, ◌+◌, ◌-◌, ◌*◌, ◌/◌, ◌%◌, ◌<◌, ◌≤◌, Bool, true, false, List, ◌++◌, length, drop, get_or, Ok, Err, Some, None, refl, ap, sym, ◌∙◌, subst, arith, ⊎_elim, length-append, length-drop}
use Rattle.std.specs.Prelude.{Result, slice_index, unwrap_or, nat_lt, nat_le, not, ◌==◌}
use Rattle.std.proofs.lemmas.Bool.{cases_lt, le-leb, le-ltb, ltb-false, eqb-true}
use Rattle.std.proofs.lemmas.List.{get_or_append_left, get_or-append_right, get_or-drop}
use Rattle.std.proofs.lemmas.Nat.{mod_below, div-add-mod', div_below, le-div}
use Rattle.std.proofs.Math.Nat.{mod-eq_of_lt, mul-le-mul_right, mul_comm}
use Rattle.tiff_base.specs.Answers.{◌>>=◌}
use Rattle.tiff_base.specs.declared.color.ColorType.{ColorType}
use Rattle.tiff_base.specs.declared.error.TiffError.{TiffError}
use Rattle.tiff_base.specs.declared.error.TiffError.TheVariants.{IoError, UnsupportedError}
use Rattle.tiff_base.specs.declared.error.TiffUnsupportedError.TheVariants.{FloatingPointPredictor}
use Rattle.tiff_base.specs.declared.io.IoKind.TheVariants.{InvalidData, UnexpectedEof}
use Rattle.tiff_base.specs.declared.tags.ByteOrder.{ByteOrder}
use Rattle.tiff_base.specs.declared.tags.CompressionMethod.{CompressionMethod}
use Rattle.tiff_base.specs.declared.tags.CompressionMethod.TheVariants as method
use Rattle.tiff_base.specs.SourceAndSink.{bytes_at, put}
use Rattle.tiff_ifd.specs.declared.limits.Limits.{Limits}
use Rattle.tiff_page.specs.Buffers.{planes_layout}
use Rattle.tiff_page.specs.BufferPositions.{chunk_byte, unit_byte}
use Rattle.tiff_page.specs.Counts.{all_chunks}
use Rattle.tiff_page.specs.Laws.{HasSides}
use Rattle.tiff_page.specs.Layout.{LayoutRecord, color_of, layout_of, planes, row_bytes, wide}
use Rattle.tiff_page.specs.Methods.{data_by_method}
use Rattle.tiff_page.specs.OutputRow.{StoresAllShown, handed_byte}
use Rattle.tiff_page.specs.Page.{PageRecord}
use Rattle.tiff_page.specs.PixelCalls.{part_fault, chunk_part, bytes_with_region, fill_buffer, read_chunk_bytes, room_fault}
use Rattle.tiff_page.specs.PixelFault.{fail_if, form_fault, chunk_fault}
use Rattle.tiff_page.specs.Pixels.{byte_at, chunk_data, chunk_region, is_byte_plane, is_short, needed_bytes, needed_of_row, region_byte, stored_row_bytes}
use Rattle.tiff_page.specs.ReadablePage.{IsRead}
use Rattle.tiff_page.specs.Rect.{rect, chunk_data_dimensions, chunks_of_plane}
use Rattle.tiff_page.specs.lemmas.ChunkRows.{row_handed}
use Rattle.tiff_page.specs.lemmas.Covering.{is_placed, unit_shown, unit_plane_gap, unit_row_gap}
use Rattle.tiff_page.specs.lemmas.Planes.{form_read, layout_gives, wide_is}
use Rattle.tiff_page.specs.lemmas.PositionLaws.{chunks_within, placed_each}
use Rattle.tiff_rewrite.specs.Rewrite.{output_len, packed_fault, rewrite_fault, rewrite_fault_of}
use Rattle.tiff_rewrite.specs.RewriteLaws.{IsRewrittenIn, KeepsApart, LiesApart, ShowsRewritten}
use Rattle.tiff_rewrite.specs.lemmas.Puts.{apart_same, get_at, inside_same, length_put}

-- ---- steps that passed

pub first_passed : {A B : Type 0} (r : Result A TiffError) (next : A → Result B TiffError) {x : B}
    → (r >>= next) ≡ Ok x → (a : A) × ((r ≡ Ok a) × (next a ≡ Ok x))
first_passed (Ok a) next h = (a, (refl, h))
first_passed (Err e) next h = cc

passed_test : (b : Bool) (e : TiffError) → fail_if b e ≡ Ok tt → b ≡ false
passed_test true e h = cc
passed_test false e h = refl

not_false : (b : Bool) → not b ≡ false → b ≡ true
not_false true h = refl
not_false false h = cc

is_listed : (p : PageRecord) (limits : Limits) (c : ColorType) (i : ℕ)
    → form_fault p limits c i ≡ Ok tt → i < length p.offsets
unfolding form_fault
is_listed p limits c i h =
    ⊎_elim
    (λ (l : i < length p.offsets). l)
    (λ (l : length p.offsets ≤ i).
    let none : nat_le (length p.offsets) i ≡ false = passed_test _ _ (first_passed _ _ h).1.0 in
    let all : nat_le (length p.offsets) i ≡ true = le-leb (length p.offsets) i l in
    cc)
    (cases_lt i (length p.offsets))

-- the layout of all planes is that of one
laid_once : (p : PageRecord) (w h : ℕ) (l : LayoutRecord) → planes_layout p w h ≡ Ok l
    → layout_of p w h ≡ Ok l
unfolding planes_layout
laid_once p w h l q =
    let a = first_passed (layout_of p w h) _ q in
    let b = first_passed (wide (a.0.plane_stride * planes p.planar a.0.color)) _ a.1.1 in
    a.1.0 ∙ b.1.1

one_color : (r : Result ColorType TiffError) (a b : ColorType) → r ≡ Ok a → r ≡ Ok b → a ≡ b
one_color r a b e f = cc

not_packed : (m : CompressionMethod) → packed_fault m ≡ Ok tt → m ≡ method.None
not_packed method.None h = refl
not_packed _ h = cc

-- what holds of a chunk that may be rewritten
pub record Passed (p : PageRecord) (limits : Limits) (c : ColorType) (i len stored : ℕ) : Type 0 where
  pub layout : LayoutRecord
  pub laid : planes_layout p (rect p i).width (rect p i).height ≡ Ok layout
  pub color_is : layout.color ≡ c
  pub row_is : layout.row_bytes ≡ output_len p c i
  pub plane_is : len ≡ output_len p c i * (rect p i).height
  pub exact : len ≡ layout.plane_stride
  pub formed : form_fault p limits c i ≡ Ok tt
  pub unpacked : p.method ≡ method.None
  pub in_place : is_byte_plane p.predictor ≡ false
  pub room : needed_bytes p c i ≤ stored

pub passes : (p : PageRecord) (limits : Limits) (c : ColorType) (i len stored : ℕ)
    → color_of p ≡ Ok c → rewrite_fault p limits i len stored ≡ Ok tt
    → Passed p limits c i len stored
unfolding rewrite_fault
passes p limits c i len stored colored h =
    let w : ℕ = (rect p i).width in
    let high : ℕ = (rect p i).height in
    let a = first_passed (planes_layout p w high) _ h in
    let l : LayoutRecord = a.0 in
    let g = layout_gives p w high l (laid_once p w high l a.1.0) in
    let b = first_passed (fail_if (not (len == l.plane_stride)) (IoError InvalidData)) _ a.1.1 in
    let same : l.color ≡ c = one_color (color_of p) l.color c g.1.0 colored in
    let d : rewrite_fault_of p limits c i stored ≡ Ok tt =
    ap (λ (x : ColorType). rewrite_fault_of p limits x i stored) (sym same) ∙ b.1.1 in
    let e = first_passed (form_fault p limits c i) _ d in
    let f = first_passed (packed_fault p.method) _ e.1.1 in
    let k =
    first_passed (fail_if (is_byte_plane p.predictor) (UnsupportedError (FloatingPointPredictor c))) _ f.1.1 in
    let m = first_passed (wide (needed_bytes p c i)) _ k.1.1 in
    let exact : len ≡ l.plane_stride =
    eqb-true len l.plane_stride (not_false (len == l.plane_stride) (passed_test _ _ b.1.0)) in
    let row : l.row_bytes ≡ output_len p c i =
    g.0.0 ∙ ap (λ (x : ColorType). row_bytes p x w) same in
    record {
      layout = l;
      laid = a.1.0;
      color_is = same;
      row_is = row;
      plane_is = exact ∙ g.0.1 ∙ ap (λ (x : ColorType). row_bytes p x w * high) same;
      exact = exact;
      formed = e.1.0;
      unpacked = not_packed p.method f.1.0;
      in_place = passed_test _ _ k.1.0;
      room =
          omega (arith, wide_is (needed_bytes p c i) m.0 m.1.0, ltb-false stored m.0 (passed_test _ _ m.1.1));
    }

-- the chunk that was tested is readable
pub tested_read : (p : PageRecord) (limits : Limits) (l : LayoutRecord) (i w h stored : ℕ)
    → 0 < p.samples → layout_of p w h ≡ Ok l → rewrite_fault_of p limits l.color i stored ≡ Ok tt
    → IsRead p l.color
tested_read p limits l i w h stored some laid q =
    form_read p limits l.color i some (layout_gives p w h l laid).1.0
    (first_passed (form_fault p limits l.color i) _ q).1.0

pub tested_len : (p : PageRecord) (l : LayoutRecord) (i n : ℕ) (d : ℕ × ℕ)
    → d ≡ chunk_data_dimensions p i → layout_of p d.0 d.1 ≡ Ok l → n ≡ l.plane_stride
    → n ≡ output_len p l.color i * (rect p i).height
tested_len p l i n d e laid q =
    q ∙ (layout_gives p d.0 d.1 l laid).0.1 ∙ ap (λ (k : ℕ × ℕ). row_bytes p l.color k.0 * k.1) e

pub tested_color : (p : PageRecord) (l : LayoutRecord) (c : ColorType) (w h : ℕ)
    → layout_of p w h ≡ Ok l → color_of p ≡ Ok c → l.color ≡ c
tested_color p l c w h laid e = one_color (color_of p) l.color c (layout_gives p w h l laid).1.0 e

-- a page of which a chunk may be rewritten has a color
pub has_color : (p : PageRecord) (limits : Limits) (i len stored : ℕ)
    → rewrite_fault p limits i len stored ≡ Ok tt → (c : ColorType) × (color_of p ≡ Ok c)
unfolding rewrite_fault
has_color p limits i len stored h =
    let a = first_passed (planes_layout p (rect p i).width (rect p i).height) _ h in
    (a.0.color, (layout_gives p (rect p i).width (rect p i).height a.0 (laid_once p (rect p i).width (rect p i).height a.0 a.1.0)).1.0)

-- ---- a chunk of which two files have the same bytes

module _ (p : PageRecord) (order : ByteOrder) (c : ColorType) (i : ℕ) (sides : HasSides p) where
  -- the rows of the chunk are among what is needed of it
  pub row_needed : (r : ℕ) → r < (rect p i).height
      → r * stored_row_bytes p + needed_of_row p c (output_len p c i) ≤ needed_bytes p c i
  row_needed r h =
      let a : r * stored_row_bytes p ≤ ((rect p i).height - 1) * stored_row_bytes p =
      mul-le-mul_right (stored_row_bytes p) (omega (arith, h)) in
      omega (arith, a)

  module _ (file other : List ℕ) (as_long : length (chunk_data other order p i) ≡ length (chunk_data file order p i))
      (same : (k n : ℕ) → k + n ≤ needed_bytes p c i → bytes_at (chunk_data other order p i) k n ≡ bytes_at (chunk_data file order p i) k n) where
    chunk_same : (limits : Limits)
        → chunk_fault p limits (is_short other order p c) c i
        ≡ chunk_fault p limits (is_short file order p c) c i
    chunk_same limits =
        λ t. form_fault p limits c i >>= (λ _. fail_if (nat_lt (as_long t) (needed_bytes p c i)) (IoError UnexpectedEof))

    part_same : (limits : Limits) (stride : ℕ)
        → part_fault other order p limits c (chunk_part p i 1 stride)
        ≡ part_fault file order p limits c (chunk_part p i 1 stride)
    part_same limits stride =
        let here : 0 * chunks_of_plane p + (i + 0) ≡ i = omega arith in
        (λ t. chunk_fault p limits (is_short other order p c) c (here t))
        ∙ chunk_same limits
        ∙ sym (λ t. chunk_fault p limits (is_short file order p c) c (here t))

    module _ (stored : StoresAllShown p c) (listed : i < all_chunks p) where
      pub byte_same : (r b : ℕ) → r < (rect p i).height → b < output_len p c i
          → chunk_byte other order p c i r b ≡ chunk_byte file order p c i r b
      byte_same r b rl bl =
          row_handed other order p c i r b sides stored listed rl bl
          ∙ ap (λ (row : List ℕ). handed_byte order p row c b) (same (r * stored_row_bytes p) (needed_of_row p c (output_len p c i)) (row_needed r rl))
          ∙ sym (row_handed file order p c i r b sides stored listed rl bl)

      module _ (stride : ℕ) (fits : output_len p c i ≤ stride) where
        unit_same : (j : ℕ) → j / stride / (rect p i).height < 1 → j % stride < output_len p c i
            → unit_byte other order p c stride i j ≡ unit_byte file order p c stride i j
        unit_same j a b =
            let first : (rect p i).plane + j / stride / (rect p i).height
            ≡ (rect p i).plane = omega (arith, a) in
            let some : 0 < (rect p i).height = (chunks_within p i sides).some_row in
            (λ t. region_byte other order p c (chunk_region p i) (first t) (j / stride % (rect p i).height) (j % stride))
            ∙ byte_same (j / stride % (rect p i).height) (j % stride) (mod_below (j / stride) (rect p i).height some) b
            ∙ sym (λ t. region_byte file order p c (chunk_region p i) (first t) (j / stride % (rect p i).height) (j % stride))

        position_same : (j : ℕ) → byte_at other order p c (chunk_region p i) stride 1 j
            ≡ byte_at file order p c (chunk_region p i) stride 1 j
        position_same j =
            ⊎_elim
            (λ (a : j / stride / (rect p i).height < 1).
            ⊎_elim
            (λ (b : j % stride < output_len p c i).
            unit_shown other order p c stride i sides 1 fits j a b
            ∙ ap Some (unit_same j a b)
            ∙ sym (unit_shown file order p c stride i sides 1 fits j a b))
            (λ (b : output_len p c i ≤ j % stride).
            unit_row_gap other order p c stride i sides 1 fits j b
            ∙ sym (unit_row_gap file order p c stride i sides 1 fits j b))
            (cases_lt (j % stride) (output_len p c i)))
            (λ (a : 1 ≤ j / stride / (rect p i).height).
            unit_plane_gap other order p c stride i sides 1 fits j a
            ∙ sym (unit_plane_gap file order p c stride i sides 1 fits j a))
            (cases_lt (j / stride / (rect p i).height) 1)

        placed_same : (buf : List ℕ) → bytes_with_region other order p c
            (chunk_region p i) stride 1 buf
            ≡ bytes_with_region file order p c (chunk_region p i) stride 1 buf
        placed_same buf =
            let placed = placed_each other order p c (chunk_region p i) stride 1 buf in
            is_placed file order p c (chunk_region p i) stride 1 buf (bytes_with_region other order p c (chunk_region p i) stride 1 buf) placed.0
            (λ j l. placed.1 j l ∙ ap (λ z. unwrap_or z (slice_index buf j)) (position_same j))

    fill_same : (limits : Limits) (stride : ℕ) (buf : List ℕ) → 0 < p.samples
        → length p.offsets ≡ all_chunks p → color_of p ≡ Ok c → output_len p c i ≤ stride
        → fill_buffer other order p limits c (chunk_part p i 1 stride) buf
        ≡ fill_buffer file order p limits c (chunk_part p i 1 stride) buf
    unfolding fill_buffer
    fill_same limits stride buf some counted colored fits =
        (λ t. part_same limits stride t >>= (λ _. Ok (bytes_with_region other order p c (chunk_region p i) stride 1 buf)))
        ∙ by_fault (part_fault file order p limits c (chunk_part p i 1 stride)) refl
      where
        by_fault : (r : Result (Unit {0}) TiffError)
            → part_fault file order p limits c (chunk_part p i 1 stride) ≡ r
            → (r >>= (λ _. Ok (bytes_with_region other order p c (chunk_region p i) stride 1 buf)))
            ≡ (r >>= (λ _. Ok (bytes_with_region file order p c (chunk_region p i) stride 1 buf)))
        by_fault (Err e) h = refl
        by_fault (Ok u) h =
            let here : 0 * chunks_of_plane p + (i + 0) ≡ i = omega arith in
            let formed : form_fault p limits c i ≡ Ok tt =
            (first_passed (form_fault p limits c i) _ ((λ t. chunk_fault p limits (is_short file order p c) c (sym here t)) ∙ h)).1.0 in
            ap Ok (placed_same (form_read p limits c i some colored formed).stored (subst (λ n. i
            < n) counted (is_listed p limits c i formed)) stride fits buf)

    pub read_same : (limits : Limits) (buf : List ℕ) → 0 < p.samples
        → length p.offsets ≡ all_chunks p → color_of p ≡ Ok c
        → read_chunk_bytes other order p limits i buf ≡ read_chunk_bytes file order p limits i buf
    unfolding read_chunk_bytes
    read_same limits buf some counted colored =
        by_layout (planes_layout p (rect p i).width (rect p i).height) refl
      where
        by_layout : (r : Result LayoutRecord TiffError)
            → planes_layout p (rect p i).width (rect p i).height ≡ r
            → (r >>= (λ layout. room_fault (length buf) layout.plane_stride
            >>= (λ _. fill_buffer other order p limits layout.color (chunk_part p i 1 layout.row_bytes) buf)))
            ≡ (r >>= (λ layout. room_fault (length buf) layout.plane_stride
            >>= (λ _. fill_buffer file order p limits layout.color (chunk_part p i 1 layout.row_bytes) buf)))
        by_layout (Err e) h = refl
        by_layout (Ok l) h =
            let g =
            layout_gives p (rect p i).width (rect p i).height l (laid_once p (rect p i).width (rect p i).height l h) in
            let same_color : l.color ≡ c = one_color (color_of p) l.color c g.1.0 colored in
            let fits : output_len p c i ≤ l.row_bytes =
            omega (arith, g.0.0 ∙ ap (λ (x : ColorType). row_bytes p x (rect p i).width) same_color) in
            λ t. room_fault (length buf) l.plane_stride >>= (λ _.
            ((λ s. fill_buffer other order p limits (same_color s) (chunk_part p i 1 l.row_bytes) buf)
            ∙ fill_same limits l.row_bytes buf some counted colored fits
            ∙ sym (λ s. fill_buffer file order p limits (same_color s) (chunk_part p i 1 l.row_bytes) buf)) t)

-- ---- the data of a chunk that isn't packed

plain_data : (file : List ℕ) (order : ByteOrder) (p : PageRecord) (i : ℕ) → p.method ≡ method.None
    → chunk_data file order p i ≡ drop (slice_index p.offsets i) file
plain_data file order p i e =
    ap (λ m. data_by_method file m (slice_index p.offsets i) (slice_index p.byte_counts i)) e

module _ (file new : List ℕ) (order : ByteOrder) (p : PageRecord) (at : ℕ)
    (within : at + length new ≤ length file) (plain : p.method ≡ method.None) where
  data_as_long : (i : ℕ) → length (chunk_data (put file at new) order p i)
      ≡ length (chunk_data file order p i)
  data_as_long i =
      ap (λ (xs : List ℕ). length xs) (plain_data (put file at new) order p i plain)
      ∙ length-drop (slice_index p.offsets i) (put file at new)
      ∙ ap (λ (n : ℕ). n - slice_index p.offsets i) (length_put file new at within)
      ∙ sym (length-drop (slice_index p.offsets i) file)
      ∙ sym (ap (λ (xs : List ℕ). length xs) (plain_data file order p i plain))

  data_apart : (c : ColorType) (j : ℕ) → LiesApart p c at (length new) j → (k n : ℕ)
      → k + n ≤ needed_bytes p c j
      → bytes_at (chunk_data (put file at new) order p j) k n
      ≡ bytes_at (chunk_data file order p j) k n
  data_apart c j a k n h =
      ap (λ (xs : List ℕ). bytes_at xs k n) (plain_data (put file at new) order p j plain)
      ∙ apart_same file new at within (slice_index p.offsets j) (needed_bytes p c j) k n a h
      ∙ sym (ap (λ (xs : List ℕ). bytes_at xs k n) (plain_data file order p j plain))

pub keeps_apart : KeepsApart
keeps_apart = record {
  shown = λ file order p limits c at new j r b page plain within formed apart rl bl.
      byte_same p order c j page.sides file (put file at new) (data_as_long file new order p at within plain j) (data_apart file new order p at within plain c j apart)
      (form_read p limits c j page.sampled page.colored formed).stored (subst (λ n. j
      < n) page.counted (is_listed p limits c j formed)) r b rl bl;
  read = λ file order p limits c at new j buf page plain within apart.
      read_same p order c j page.sides file (put file at new) (data_as_long file new order p at within plain j) (data_apart file new order p at within plain c j apart)
      limits buf page.sampled page.counted page.colored;
}

-- ---- the chunk that is rewritten

positive : (n h j : ℕ) → j < n * h → 0 < n
positive zero h j l = Prim.absurd (omega (arith, l))
positive (suc n) h j l = omega arith

module _ (file : List ℕ) (order : ByteOrder) (p : PageRecord) (limits : Limits) (c : ColorType)
    (i : ℕ) (samples old new : List ℕ)
    (w : IsRewrittenIn file order p limits c i samples old new) where
  abbrev after : List ℕ
  after = put file (slice_index p.offsets i) new

  passed : Passed p limits c i (length samples) (length old)
  passed = passes p limits c i (length samples) (length old) w.page.colored w.passed

  read_form : IsRead p c
  read_form = form_read p limits c i w.page.sampled w.page.colored passed.formed

  listed : i < all_chunks p
  listed = subst (λ n. i < n) w.page.counted (is_listed p limits c i passed.formed)

  needed_there : needed_bytes p c i ≤ length new
  needed_there = omega (arith, passed.room, w.rewritten.same_length)

  rewritten_byte : (r b : ℕ) → r < (rect p i).height → b < output_len p c i
      → chunk_byte after order p c i r b ≡ get_or samples (r * output_len p c i + b) 0
  rewritten_byte r b rl bl =
      let need : ℕ = needed_of_row p c (output_len p c i) in
      row_handed after order p c i r b w.page.sides read_form.stored listed rl bl
      ∙ ap (λ (row : List ℕ). handed_byte order p row c b)
      (ap (λ (xs : List ℕ). bytes_at xs (r * stored_row_bytes p) need) (plain_data after order p i passed.unpacked)
      ∙ inside_same file new (slice_index p.offsets i) w.within (r * stored_row_bytes p) need (omega (arith, row_needed p order c i w.page.sides r rl, needed_there)))
      ∙ (w.rewritten.rows r rl).output b bl
      ∙ get_at samples (r * output_len p c i) (output_len p c i) b bl

  long : is_short after order p c i ≡ false
  long =
      let all : length (chunk_data after order p i) ≡ length file - slice_index p.offsets i =
      data_as_long file new order p (slice_index p.offsets i) w.within passed.unpacked i
      ∙ ap (λ (xs : List ℕ). length xs) (plain_data file order p i passed.unpacked)
      ∙ length-drop (slice_index p.offsets i) file in
      le-ltb (length (chunk_data after order p i)) (needed_bytes p c i)
      (omega (arith, all, needed_there, w.within))

  none : part_fault after order p limits c (chunk_part p i 1 (output_len p c i)) ≡ Ok tt
  none =
      let here : 0 * chunks_of_plane p + (i + 0) ≡ i = omega arith in
      (λ t. chunk_fault p limits (is_short after order p c) c (here t))
      ∙ (λ t. passed.formed t >>= (λ _. fail_if (long t) (IoError UnexpectedEof)))

  module _ (buf : List ℕ) (fits : length samples ≤ length buf) where
    abbrev new_buf : List ℕ
    new_buf = samples ++ drop (length samples) buf

    as_long : length new_buf ≡ length buf
    as_long =
        omega (arith, length-append samples (drop (length samples) buf), length-drop (length samples) buf, fits)

    roomy : room_fault (length buf) passed.layout.plane_stride ≡ Ok tt
    roomy =
        rw (le-ltb (length buf) passed.layout.plane_stride (omega (arith, fits, passed.exact))) refl

    each : (j : ℕ) → j < length buf
        → slice_index new_buf j ≡ unwrap_or (byte_at after order p c (chunk_region p i) (output_len p c i) 1 j) (slice_index buf j)
    each j l =
        let stride : ℕ = output_len p c i in
        let high : ℕ = (rect p i).height in
        let tall : 0 < high = (chunks_within p i w.page.sides).some_row in
        ⊎_elim
        (λ (a : j < length samples).
        let some : 0 < stride = positive stride high j (omega (arith, a, passed.plane_is)) in
        let row : j / stride < high =
        div_below j stride high some (omega (arith, a, passed.plane_is, mul_comm stride high)) in
        let once : j / stride / high < 1 =
        div_below (j / stride) high 1 tall (omega (arith, row)) in
        let byte : j % stride < stride = mod_below j stride some in
        let first : (rect p i).plane + j / stride / high ≡ (rect p i).plane = omega (arith, once) in
        let same : unit_byte after order p c stride i j ≡ get_or samples j 0 =
        (λ t. region_byte after order p c (chunk_region p i) (first t) (mod-eq_of_lt row t) (j % stride))
        ∙ rewritten_byte (j / stride) (j % stride) row byte
        ∙ ap (λ (k : ℕ). get_or samples k 0) (div-add-mod' j stride) in
        get_or_append_left samples (drop (length samples) buf) 0 j a
        ∙ sym (ap (λ z. unwrap_or z (slice_index buf j)) (unit_shown after order p c stride i w.page.sides 1 (omega arith) j once byte) ∙ same))
        (λ (a : length samples ≤ j).
        let e : length samples + (j - length samples) ≡ j = omega (arith, a) in
        let kept : slice_index new_buf j ≡ slice_index buf j =
        get_or-append_right samples (drop (length samples) buf) (length samples) j 0 refl a
        ∙ get_or-drop (length samples) buf (j - length samples) 0
        ∙ ap (λ (k : ℕ). get_or buf k 0) e in
        let gap : byte_at after order p c (chunk_region p i) stride 1 j ≡ None =
        ⊎_elim
        (λ (z : 0 < stride).
        let below : high ≤ j / stride =
        le-div high j stride z (omega (arith, a, passed.plane_is, mul_comm stride high)) in
        unit_plane_gap after order p c stride i w.page.sides 1 (omega arith) j (le-div 1 (j / stride) high tall (omega (arith, below))))
        (λ (z : stride ≤ 0). unit_row_gap after order p c stride i w.page.sides 1 (omega arith) j (omega (arith, z)))
        (cases_lt 0 stride) in
        kept ∙ sym (ap (λ z. unwrap_or z (slice_index buf j)) gap))
        (cases_lt j (length samples))

    filled : fill_buffer after order p limits c (chunk_part p i 1 (output_len p c i)) buf
        ≡ Ok new_buf
    unfolding fill_buffer
    filled =
        rw none (ap Ok (sym (is_placed after order p c (chunk_region p i) (output_len p c i) 1 buf new_buf as_long each)))

    read_back : read_chunk_bytes after order p limits i buf ≡ Ok new_buf
    unfolding read_chunk_bytes
    read_back =
        (λ t. passed.laid t >>= (λ layout. room_fault (length buf) layout.plane_stride
        >>= (λ _. fill_buffer after order p limits layout.color (chunk_part p i 1 layout.row_bytes) buf)))
        ∙ (λ t. roomy t >>= (λ _. fill_buffer after order p limits (passed.color_is t) (chunk_part p i 1 (passed.row_is t)) buf))
        ∙ filled

pub shows_rewritten : ShowsRewritten
shows_rewritten = record {
  shown =
      λ file order p limits c i samples old new r b w. rewritten_byte file order p limits c i samples old new w r b;
  read =
      λ file order p limits c i samples old new buf w. read_back file order p limits c i samples old new w buf;
}
