-- How many bytes a decoder asks for to read pixels.
use Rattle.std.proofs.Common.{◌≡◌, ℕ, zero, suc, ◌+◌, ◌-◌, ◌*◌, ◌/◌, ◌<◌, ◌≤◌, Bool, true, false, List, [], ◌∷◌, ◌++◌, Result, Ok, refl, ap, sym, ◌∙◌, subst, ⊎_elim, arith, min}
use Rattle.std.proofs.lemmas.Bool.{cases_lt, cases_Bool}
use Rattle.std.proofs.lemmas.Nat.{div-mul-add, mul-add-lt}
use Rattle.std.proofs.Math.Nat.{mul_comm, mul_left_comm, mul-le-mul, mul-le-mul_right, mod-eq_of_lt}
use Rattle.std.specs.List.{range_with_len}
use Rattle.std.specs.Prelude.{if◌then◌else◌, slice_index, sum_by}
use Rattle.tiff_base.specs.declared.color.ColorType.{ColorType}
use Rattle.tiff_base.specs.declared.error.TiffError.{TiffError}
use Rattle.tiff_base.specs.SourceAndSink.{AreReadable, SourceRecord}
use Rattle.tiff_page.specs.Buffers.{planes_layout}
use Rattle.tiff_page.specs.Counts.{parts}
use Rattle.tiff_page.specs.Methods.{is_packed}
use Rattle.tiff_page.specs.Laws.{HasSides}
use Rattle.tiff_page.specs.Layout.{LayoutRecord, row_bits, row_bytes, samples_in_chunk}
use Rattle.tiff_page.specs.Page.{PageRecord}
use Rattle.tiff_page.specs.PixelCalls.{Part, chunk_part, image_part}
use Rattle.tiff_page.specs.Pixels.{needed_bytes, needed_of_row, needs_whole_rows, stored_row_bytes, stored_samples}
use Rattle.tiff_page.specs.Reach.{LaidReadable, PartReadable}
use Rattle.tiff_page.specs.Rect.{across, chunks_of_plane, rect}
use Rattle.tiff_page.specs.lemmas.Filling.{same_height}
use Rattle.tiff_page.specs.lemmas.Planes.{layout_gives, Stores, color_stores, shown_stored}
use Rattle.tiff_page.specs.lemmas.PositionLaws.{row_in}
use Rattle.tiff_laws.specs.Costs as spec
use Rattle.tiff_laws.specs.Costs.{AreAllReadable, stretch_bytes}
use Rattle.tiff_laws.proofs.Laid.{planes_laid}
use Rattle.tiff_laws.proofs.OnTheWay.{bytes_of_both, front_read, rest_read}
use Rattle.tiff_laws.proofs.Totals.{total, total_le, total_const, total_split, total_listed, rows_left}

-- ---- stretches by their number

-- f 0, .., f (n - 1)
abbrev below : ℕ → (ℕ → ℕ × ℕ) → List (ℕ × ℕ)
below zero f = []
below (suc n) f = below n f ++ f n ∷ []

bytes_below : (n : ℕ) (f : ℕ → ℕ × ℕ) → stretch_bytes (below n f) ≡ total n (λ i. (f i).1)
bytes_below zero f = refl
bytes_below (suc n) f =
    let rest : stretch_bytes (below n f) ≡ total n (λ i. (f i).1) = bytes_below n f in
    omega (arith, rest, bytes_of_both (below n f) (f n ∷ []))

read_below : (source : SourceRecord) (n : ℕ) (f : ℕ → ℕ × ℕ) → AreAllReadable source (below n f)
    → (i : ℕ) → i < n → AreReadable source (f i).0 (f i).1
read_below source zero f a i l = absurd (omega (arith, l))
read_below source (suc n) f a i l =
    ⊎_elim (λ (b : i < n). read_below source n f (front_read source (below n f) (f n ∷ []) a) i b)
    (λ (b : n ≤ i).
    let e : n ≡ i = omega (arith, l, b) in
    subst (λ (k : ℕ). AreReadable source (f k).0 (f k).1) e (rest_read source (below n f) (f n ∷ []) a).0)
    (cases_lt i n)

-- ---- a chunk

-- the bytes of a stored row are at least those that are read of it
row_within : (cw w d s k : ℕ) → w ≤ cw → s ≤ k → (w * d * s + 7) / 8 ≤ (cw * d * k + 7) / 8
row_within cw w d s k a b =
    let more : w * d * s ≤ cw * d * k = mul-le-mul (mul-le-mul_right d a) b in
    omega (arith, more)

row_needed : (p : PageRecord) (color : ColorType) (w : ℕ) → w ≤ p.chunk_width
    → samples_in_chunk p.planar color ≤ stored_samples p
    → needed_of_row p color (row_bytes p color w) ≤ stored_row_bytes p
unfolding row_bits
row_needed p color w a b =
    let P : Bool → Type 0 =
    λ c. (if c then stored_row_bytes p else row_bytes p color w) ≤ stored_row_bytes p in
    ⊎_elim (λ (t : needs_whole_rows p color ≡ true). subst P (sym t) (omega arith))
    (λ (f : needs_whole_rows p color ≡ false).
    subst P (sym f) (row_within p.chunk_width w p.depth (samples_in_chunk p.planar color) (stored_samples p) a b))
    (cases_Bool (needs_whole_rows p color))

-- rows and a part of the last one are no more than the rows
rows_within : (h S n : ℕ) → 0 < h → n ≤ S → (h - 1) * S + n ≤ h * S
rows_within zero S n a b = absurd (omega (arith, a))
rows_within (suc h) S n a b =
    let e : suc h - 1 ≡ h = omega arith in
    let one : (suc h - 1) * S ≡ h * S = ap (λ (k : ℕ). k * S) e in
    let all : suc h * S ≡ h * S + S = omega arith in
    omega (arith, one, all, b)

module _ (p : PageRecord) (color : ColorType) (sides : HasSides p)
    (stores : samples_in_chunk p.planar color ≤ stored_samples p) where
  abbrev row : ℕ
  row = stored_row_bytes p

  chunk_within : (i : ℕ) → needed_bytes p color i ≤ (rect p i).height * row
  unfolding rect
  chunk_within i =
      rows_within (rect p i).height row (needed_of_row p color (row_bytes p color (rect p i).width))
      (row_in p.width p.height p.chunk_width p.chunk_height i sides.wide sides.high sides.chunk_wide sides.chunk_high)
      (row_needed p color (rect p i).width (omega arith) stores)

  chunk_most : (i : ℕ) → needed_bytes p color i ≤ p.chunk_height * row
  unfolding rect
  chunk_most i =
      let high : (rect p i).height ≤ p.chunk_height = omega arith in
      let h = chunk_within i in
      let more : (rect p i).height * row ≤ p.chunk_height * row = mul-le-mul_right row high in
      omega (arith, h, more)

  -- the rows of the chunks of a plane
  plane_within : (plane : ℕ) → total (chunks_of_plane p) (λ j. needed_bytes p color (plane * chunks_of_plane p + j)) ≤ p.height * (across p * row)
  unfolding rect
  plane_within plane =
      let a : ℕ = across p in
      let d : ℕ = parts p.height p.chunk_height in
      let H : ℕ = p.height in
      let c : ℕ = p.chunk_height in
      let f : ℕ → ℕ = λ j. needed_bytes p color (plane * chunks_of_plane p + j) in
      let g : ℕ → ℕ = λ j. min c (H - j / a * c) * row in
      let each : (j : ℕ) → j < a * d → f j ≤ g j = λ j l.
      let h = chunk_within (plane * chunks_of_plane p + j) in
      let same : (rect p (plane * chunks_of_plane p + j)).height ≡ (rect p j).height =
      same_height p plane j l in
      let here : (rect p j).height ≡ min c (H - j / a * c) =
      ap (λ (m : ℕ). min c (H - m / a * c)) (mod-eq_of_lt l) in
      let all : (rect p (plane * chunks_of_plane p + j)).height * row ≡ g j =
      ap (λ (k : ℕ). k * row) (same ∙ here) in
      omega (arith, h, all) in
      let first : total (a * d) f ≤ total (a * d) g = total_le (a * d) f g each in
      let turned : total (a * d) g ≡ total (d * a) g = ap (λ (n : ℕ). total n g) (mul_comm a d) in
      let lines : total (d * a) g ≡ total d (λ q. total a (λ r. g (q * a + r))) =
      total_split d a g in
      let line : (q : ℕ) → q < d → total a (λ r. g (q * a + r))
      ≤ a * (min c (H - q * c) * row) = λ q _.
      let h : total a (λ r. g (q * a + r)) ≤ total a (λ _. min c (H - q * c) * row) =
      total_le a (λ r. g (q * a + r)) (λ _. min c (H - q * c) * row)
      (λ r l. let e : g (q * a + r) ≡ min c (H - q * c) * row =
      ap (λ (m : ℕ). min c (H - m * c) * row) (div-mul-add q a r l) in omega (arith, e)) in
      let k : total a (λ _. min c (H - q * c) * row) ≡ a * (min c (H - q * c) * row) =
      total_const a (min c (H - q * c) * row) in
      omega (arith, h, k) in
      let each_line : total d (λ q. total a (λ r. g (q * a + r)))
      ≤ total d (λ q. a * (min c (H - q * c) * row)) =
      total_le d (λ q. total a (λ r. g (q * a + r))) (λ q. a * (min c (H - q * c) * row)) line in
      let left = rows_left d c H a row in
      let order : a * (H * row) ≡ H * (a * row) = mul_left_comm a H row in
      omega (arith, first, turned, lines, each_line, left, order)

  -- the rows of several planes
  planes_within : (n : ℕ) → total (n * chunks_of_plane p) (λ i. needed_bytes p color i)
      ≤ n * (p.height * (across p * row))
  planes_within n =
      let N : ℕ = chunks_of_plane p in
      let all : ℕ = p.height * (across p * row) in
      let f : ℕ → ℕ = λ i. needed_bytes p color i in
      let split : total (n * N) f ≡ total n (λ q. total N (λ r. f (q * N + r))) =
      total_split n N f in
      let each : total n (λ q. total N (λ r. f (q * N + r))) ≤ total n (λ _. all) =
      total_le n (λ q. total N (λ r. f (q * N + r))) (λ _. all) (λ q _. plane_within q) in
      omega (arith, split, each, total_const n all)

-- ---- an image, and a chunk

-- a bound of each method is a bound of the method of a page
by_method : (b : Bool) (n : ℕ) (c d : ℕ → ℕ) (C D : ℕ) → total n c ≤ C → total n d ≤ D
    → total n (λ i. if b then c i else d i) ≤ (if b then C else D)
by_method true n c d C D x y = x
by_method false n c d C D x y = y

-- the stretch of a chunk
abbrev stretch : PageRecord → ColorType → ℕ → ℕ × ℕ
stretch p color i =
    (slice_index p.offsets i, if is_packed p.method then slice_index p.byte_counts i else needed_bytes p color i)

-- the value of a result is one
ok_same : {A : Type 0} (x y : A) (r : Result A TiffError) → r ≡ Ok x → r ≡ Ok y → x ≡ y
ok_same x y r a b = let e : Ok x ≡ Ok y = sym a ∙ b in cc

laid : (source : SourceRecord) (p : PageRecord) (w h : ℕ) (part : LayoutRecord → Part) (l : LayoutRecord)
    → planes_layout p w h ≡ Ok l → PartReadable source p l.color (part l)
    → LaidReadable source p (planes_layout p w h) part
laid source p w h part l e r = record {
  part_readable =
      λ other is. subst (λ (z : LayoutRecord). PartReadable source p z.color (part z))
      (ok_same l other (planes_layout p w h) e is) r;
}

layout_stores : (p : PageRecord) (w h : ℕ) (l : LayoutRecord) → planes_layout p w h ≡ Ok l
    → samples_in_chunk p.planar l.color ≤ stored_samples p
layout_stores p w h l e =
    let given = layout_gives p w h l (planes_laid p w h l e).0 in
    let stores : Stores p.samples (Ok l.color) =
    subst (Stores p.samples) given.1.0 (color_stores p) in
    shown_stored p.planar p l.color refl stores.0

pub image_costs : spec.ImageCosts
image_costs p planes l sides e =
    let color : ColorType = l.color in
    let N : ℕ = chunks_of_plane p in
    let n : ℕ = planes l in
    let all : List (ℕ × ℕ) = below (n * N) (stretch p color) in
    let counted : total (n * N) (slice_index p.byte_counts)
    ≤ sum_by (slice_index p.byte_counts) (range_with_len 0 (n * N)) =
    (let h = total_listed (n * N) (slice_index p.byte_counts) in omega (arith, h)) in
    let most =
    by_method (is_packed p.method) (n * N) (slice_index p.byte_counts) (needed_bytes p color)
    (sum_by (slice_index p.byte_counts) (range_with_len 0 (n * N)))
    (n * (p.height * (across p * stored_row_bytes p)))
    counted (planes_within p color sides (layout_stores p p.width p.height l e) n) in (
      all,
      (
        omega (arith, bytes_below (n * N) (stretch p color), most),
        λ source a.
            laid source p p.width p.height (λ m. image_part p (planes m) m.row_bytes) l e (record {
              chunk =
                  λ plane few j within. read_below source (n * N) (stretch p color) a (plane * N
                  + (0 + j))
                  (let h = mul-add-lt plane N j n few within in omega (arith, h, mul_comm N n));
            }),
      ),
    )

pub chunk_costs : spec.ChunkCosts
chunk_costs p i planes l sides e =
    let color : ColorType = l.color in
    let N : ℕ = chunks_of_plane p in
    let n : ℕ = planes l in
    let counts : ℕ → ℕ = λ plane. slice_index p.byte_counts (plane * N + i) in
    let needed : ℕ → ℕ = λ plane. needed_bytes p color (plane * N + i) in
    let stores = layout_stores p (rect p i).width (rect p i).height l e in
    let f : ℕ → ℕ × ℕ = λ plane. stretch p color (plane * N + i) in
    let all : List (ℕ × ℕ) = below n f in
    let counted : total n counts ≤ sum_by counts (range_with_len 0 n) =
    (let h = total_listed n counts in omega (arith, h)) in
    let each : total n needed ≤ total n (λ _. p.chunk_height * stored_row_bytes p) =
    total_le n needed (λ _. p.chunk_height * stored_row_bytes p) (λ plane _. chunk_most p color sides stores (plane * N + i)) in
    let rows : total n needed ≤ n * (p.chunk_height * stored_row_bytes p) =
    (let h = total_const n (p.chunk_height * stored_row_bytes p) in omega (arith, each, h)) in
    let most =
    by_method (is_packed p.method) n counts needed (sum_by counts (range_with_len 0 n))
    (n * (p.chunk_height * stored_row_bytes p)) counted rows in (
      all,
      (
        omega (arith, bytes_below n f, most),
        λ source a.
            laid source p (rect p i).width (rect p i).height (λ m. chunk_part p i (planes m) m.row_bytes) l e (record {
              chunk = λ plane few j within.
                  let here : plane * N + i ≡ plane * N + (i + j) = omega (arith, within) in
                  subst (λ (k : ℕ). AreReadable source (stretch p color k).0 (stretch p color k).1) here (read_below source n f a plane few);
            }),
      ),
    )

-- ---- strips

-- one chunk is as wide as the image
one_across : (w : ℕ) → 0 < w → parts w w ≡ 1
one_across w a =
    let e : w + w - 1 ≡ 1 * w + (w - 1) = omega (arith, a) in
    ap (λ (n : ℕ). n / w) e ∙ div-mul-add 1 w (w - 1) (omega (arith, a))

pub strips_cost : spec.StripsCost
unfolding row_bits
strips_cost p l n sides e wide plain all =
    let given = layout_gives p p.width p.height l (planes_laid p p.width p.height l e).0 in
    let one : across p ≡ 1 = ap (λ (w : ℕ). parts p.width w) wide ∙ one_across p.width sides.wide in
    let row : stored_row_bytes p ≡ row_bytes p l.color p.width =
    ap (λ (w : ℕ). (w * p.depth * stored_samples p + 7) / 8) wide
    ∙ ap (λ (s : ℕ). (p.width * p.depth * s + 7) / 8) (sym all) in
    let plane : p.height * (across p * stored_row_bytes p) ≡ l.plane_stride =
    ap (λ (a : ℕ). p.height * (a * stored_row_bytes p)) one
    ∙ (let h : 1 * stored_row_bytes p ≡ stored_row_bytes p = omega arith in ap (λ (r : ℕ). p.height * r) h)
    ∙ ap (λ (r : ℕ). p.height * r) row ∙ mul_comm p.height (row_bytes p l.color p.width)
    ∙ sym given.0.1 in
    rw plain (ap (λ (s : ℕ). n * s) plane)
