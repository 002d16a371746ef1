-- Rows of a chunk that are rewritten one after another.
use Rattle.std.proofs.Common.{◌≡◌, ℕ, ◌+◌, ◌-◌, ◌*◌, ◌/◌, ◌%◌, ◌<◌, ◌≤◌, true, false, List, length, get_or, refl, ap, sym, ◌∙◌, subst, arith, ⊎_elim}
use Rattle.std.proofs.lemmas.Bool.{cases_Bool, cases_lt}
use Rattle.std.proofs.lemmas.Nat.{div-add-mod', div-mul-add, mod-mul-add}
use Rattle.std.proofs.Math.Nat.{mul-le-mul_left, mul-le-mul_right}
use borrow.Rule.Slice.PartMut.{put_mid}
use Rattle.tiff_base.specs.declared.color.ColorType.{ColorType}
use Rattle.tiff_base.specs.declared.tags.ByteOrder.{ByteOrder}
use Rattle.tiff_base.specs.SourceAndSink.{bytes_at}
use Rattle.tiff_page.specs.BufferPositions.{IsIn}
use Rattle.tiff_page.specs.Page.{PageRecord}
use Rattle.tiff_page.specs.lemmas.Rows.{put_above, put_below, put_there}
use Rattle.tiff_page.specs.Layout.{row_bits, row_bytes, samples_in_chunk}
use Rattle.tiff_page.specs.Pixels.{needed_bytes, needed_of_row, needs_whole_rows, stored_row_bytes, stored_samples}
use Rattle.tiff_page.specs.Rect.{rect}
use Rattle.std.proofs.Math.Path.{transport}
use Rattle.tiff_rewrite.specs.Rewrite.{ChunkRewritten, RowRewritten, output_len, read_len}
use Rattle.tiff_rewrite.proofs.NumberPlaces.{length_put_mid}
use Rattle.tiff_rewrite.specs.lemmas.Puts.{same_part}

-- the first n rows of a chunk are rewritten: rows of `len` bytes of samples, of `read` bytes that
-- are `step` bytes apart
pub record RowsTo (order : ByteOrder) (p : PageRecord) (c : ColorType) (width len read step : ℕ)
    (samples old : List ℕ) (n : ℕ) (new : List ℕ) : Type 0 where
  pub same_length : length new ≡ length old
  pub rows : (r : ℕ) → r < n → RowRewritten order p c width (bytes_at samples (r * len) len)
      (bytes_at old (r * step) read) (bytes_at new (r * step) read)
  pub others : (k : ℕ) → (IsIn step 0 n 0 read k → ⊥) → get_or new k 0 ≡ get_or old k 0

-- a position of a row
row_position : (step n read k : ℕ) → read ≤ step → n * step ≤ k → k < n * step + read
    → IsIn step 0 (n + 1) 0 read k
row_position step n read k few a b =
    let e : k ≡ n * step + (k - n * step) = omega (arith, a) in
    let line : k / step ≡ n =
    ap (λ (m : ℕ). m / step) e ∙ div-mul-add n step (k - n * step) (omega (arith, a, b, few)) in
    let byte : k % step ≡ k - n * step =
    ap (λ (m : ℕ). m % step) e ∙ mod-mul-add n step (k - n * step) (omega (arith, a, b, few)) in
    record { below = omega arith; above = omega (arith, line); right = omega arith; within = omega (arith, byte, a, b) }

no_position : (step n read k : ℕ) → read ≤ step → n * step ≤ k → IsIn step 0 n 0 read k → ⊥
no_position step n read k few a h =
    let u : (k / step + 1) * step ≤ n * step = mul-le-mul_right step (omega (arith, h.above)) in
    omega (arith, u, a, few, h.within, div-add-mod' k step)

module _ (order : ByteOrder) (p : PageRecord) (c : ColorType) (width len read step : ℕ)
    (samples old : List ℕ) (n : ℕ) (mid part : List ℕ) (k : ℕ)
    (few : read ≤ step) (wide : k ≡ read) (within : n * step + read ≤ length mid) (long : length part ≡ k)
    (before : RowsTo order p c width len read step samples old n mid)
    (row : RowRewritten order p c width (bytes_at samples (n * len) len) (bytes_at mid (n * step) read) part) where
  abbrev new : List ℕ
  new = put_mid (n * step) k mid part

  pub rows_more : RowsTo order p c width len read step samples old (n + 1) new
  rows_more =
      let same : length new ≡ length mid =
      length_put_mid mid part (n * step) k (omega (arith, within, wide)) long in
      record {
        same_length = same ∙ before.same_length;
        rows = λ r h. ⊎_elim
            (λ (l : r < n).
            let u : (r + 1) * step ≤ n * step = mul-le-mul_right step (omega (arith, l)) in
            let kept : bytes_at new (r * step) read ≡ bytes_at mid (r * step) read =
            same_part new mid (r * step) read same (λ j x y z. put_below mid part (n * step) k j (omega (arith, within)) (omega (arith, y, u, few))) in
            subst (λ (xs : List ℕ). RowRewritten order p c width (bytes_at samples (r * len) len) (bytes_at old (r * step) read) xs) (sym kept) (before.rows r l))
            (λ (l : n ≤ r).
            let e : n ≡ r = omega (arith, l, h) in
            let former : bytes_at mid (n * step) read ≡ bytes_at old (n * step) read =
            same_part mid old (n * step) read before.same_length (λ j x y z. before.others j (no_position step n read j few x)) in
            let there : bytes_at new (n * step) read ≡ part =
            ap (λ (m : ℕ). bytes_at new (n * step) m) (sym wide)
            ∙ put_there mid part (n * step) k (omega (arith, within, wide)) long in
            subst (λ (m : ℕ). RowRewritten order p c width (bytes_at samples (m * len) len) (bytes_at old (m * step) read) (bytes_at new (m * step) read)) e
            (subst (λ (xs : List ℕ). RowRewritten order p c width (bytes_at samples (n * len) len) xs (bytes_at new (n * step) read)) former
            (subst (λ (xs : List ℕ). RowRewritten order p c width (bytes_at samples (n * len) len) (bytes_at mid (n * step) read) xs) (sym there) row)))
            (cases_lt r n);
        others = λ j f.
            let old_j : get_or mid j 0 ≡ get_or old j 0 =
            before.others j (λ h. f (record { below = h.below; above = omega (arith, h.above); right = h.right; within = h.within })) in
            ⊎_elim
            (λ (l : j < n * step). put_below mid part (n * step) k j (omega (arith, within)) l
            ∙ old_j)
            (λ (l : n * step ≤ j).
            ⊎_elim
            (λ (g : j < n * step + read). Prim.absurd (f (row_position step n read j few l g)))
            (λ (g : n * step + read ≤ j). put_above mid part (n * step) k j (omega (arith, within)) long (omega (arith, g, wide)) ∙ old_j)
            (cases_lt j (n * step + read)))
            (cases_lt j (n * step));
      }

pub no_rows : (order : ByteOrder) (p : PageRecord) (c : ColorType) (width len read step : ℕ)
    (samples old : List ℕ) → RowsTo order p c width len read step samples old 0 old
no_rows order p c width len read step samples old =
    record { same_length = refl; rows = λ r h. Prim.absurd (omega (arith, h)); others = λ k f. refl }

pub all_rows : (order : ByteOrder) (p : PageRecord) (c : ColorType) (i width len read step n : ℕ)
    (samples old new : List ℕ)
    → width ≡ (rect p i).width → len ≡ output_len p c i → read ≡ read_len p c i
    → step ≡ stored_row_bytes p → n ≡ (rect p i).height
    → RowsTo order p c width len read step samples old n new
    → ChunkRewritten order p c i samples old new
all_rows order p c i width len read step n samples old new ew el er es en a =
    let b : RowsTo order p c (rect p i).width (output_len p c i) (read_len p c i)
    (stored_row_bytes p) samples old (rect p i).height new =
    transport (λ t. RowsTo order p c (ew t) (el t) (er t) (es t) samples old (en t) new) a in
    record { same_length = b.same_length; rows = b.rows; others = b.others }

-- ---- the sizes of a chunk

pub width_within : (p : PageRecord) (i : ℕ) → (rect p i).width ≤ p.chunk_width
unfolding rect
width_within p i = omega arith

pub read_within : (p : PageRecord) (c : ColorType) (width : ℕ)
    → samples_in_chunk p.planar c ≤ stored_samples p → width ≤ p.chunk_width
    → needed_of_row p c (row_bytes p c width) ≤ stored_row_bytes p
unfolding row_bits
read_within p c width stores few =
    let more : row_bytes p c width ≤ stored_row_bytes p =
    omega (arith, mul-le-mul_right (samples_in_chunk p.planar c) (mul-le-mul_right p.depth few), mul-le-mul_left (p.chunk_width * p.depth) stores) in
    ⊎_elim
    (λ (e : needs_whole_rows p c ≡ true). rw e (omega arith))
    (λ (e : needs_whole_rows p c ≡ false). rw e more)
    (cases_Bool (needs_whole_rows p c))

pub row_room : (p : PageRecord) (c : ColorType) (i r read step height n : ℕ) → read ≡ read_len p c i
    → step ≡ stored_row_bytes p → height ≡ (rect p i).height → r < height
    → needed_bytes p c i ≤ n → r * step + read ≤ n
row_room p c i r read step height n er es eh l room =
    let a : r * stored_row_bytes p ≤ ((rect p i).height - 1) * stored_row_bytes p =
    mul-le-mul_right (stored_row_bytes p) (omega (arith, l, eh)) in
    let b : r * step ≡ r * stored_row_bytes p = ap (λ (m : ℕ). r * m) es in
    omega (arith, a, b, er, room)
