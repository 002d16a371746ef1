-- Each pixel belongs to one chunk of a plane; the first error; a buffer position by position.
use Rattle.std.proofs.Common.{◌≡◌, ℕ, zero, suc, ◌+◌, ◌-◌, ◌*◌, ◌/◌, ◌%◌, ◌<◌, ◌≤◌, min, length, Ok, Err, refl, ap, sym, ◌∙◌, ◌⊎◌, inl, inr, ⊎_elim, arith, ◌^◌, Fits, w64, div-le_self}
use Rattle.std.specs.Prelude.{Result, slice_index, unwrap_or}
use Rattle.std.proofs.lemmas.Bool.{cases_lt}
use Rattle.std.proofs.lemmas.Nat.{div_below, mod_below, div-add-mod', div-mul-add, mod-mul-add, mul-lt}
use Rattle.std.proofs.Math.Nat.{mul_comm, mul-le-mul_right, div-mul-le_self, le-mul_of_pos_right, one-le-mul}
use Rattle.std.proofs.lemmas.List.FromFn.{length-map-range_with_len, get_or-map-range_with_len}
use Rattle.tiff_base.specs.declared.error.TiffError.{TiffError}
use Rattle.tiff_page.specs.Page.{PageRecord}
use Rattle.tiff_page.specs.Counts.{parts, planes_of}
use Rattle.tiff_page.specs.Rect.{rect, across, chunks_of_plane, chunk_of_pixel}
use Rattle.tiff_page.specs.PixelFault.{each_below}
use Rattle.tiff_page.specs.Pixels.{byte_at}
use Rattle.tiff_page.specs.PixelCalls.{bytes_with_region}
use Rattle.tiff_page.specs.Laws as law
use Rattle.tiff_page.specs.Laws.{HasSides, HasPixel, IsFirst}
use Rattle.tiff_base.specs.declared.tags.PlanarConfiguration.{PlanarConfiguration}
use Rattle.tiff_base.specs.declared.tags.PlanarConfiguration.TheVariants.{Chunky, Planar}
use Rattle.tiff_page.specs.PageView as view
use Rattle.tiff_page.specs.declared.page.Page.{Page}

pub parts_cover : (w n : ℕ) → 0 < n → w ≤ parts w n * n
parts_cover w n p =
    let e : parts w n * n + (w + n - 1) % n ≡ w + n - 1 =
    div-add-mod' (w + n - 1) n in omega (arith, mod_below (w + n - 1) n p)

pub parts_within : (w n c : ℕ) → 0 < n → c < parts w n → c * n < w
parts_within w n c p h =
    let a : (c + 1) * n ≤ parts w n * n = mul-le-mul_right n (omega arith) in
    let b : parts w n * n ≤ w + n - 1 = div-mul-le_self (w + n - 1) n in
    omega arith

pub parts_some : (w n : ℕ) → 0 < n → 0 < w → 0 < parts w n
parts_some w n p q =
    ⊎_elim (λ z. let e : parts w n ≡ 0 = omega arith in
    Prim.absurd (omega (arith, rw e at (parts_cover w n p)))) (λ h. h) (cases_lt (parts w n) 1)

pub planes_some : (c : PlanarConfiguration) (s : ℕ) → 0 < s → 0 < planes_of c s
planes_some Chunky s h = omega arith
planes_some Planar s h = h

-- a plane has at least one chunk, and fewer than 2^32
pub plane_some : (w h cw ch : ℕ) → 0 < w → 0 < h → 0 < cw → 0 < ch → 0 < parts w cw * parts h ch
plane_some w h cw ch a b c d = one-le-mul (parts_some w cw c a) (parts_some h ch d b)

pub plane_few : (w h cw ch s n : ℕ) (c : PlanarConfiguration) → 0 < s
    → n ≡ parts w cw * parts h ch * planes_of c s → n < 2 ^ 32
    → parts w cw * parts h ch < 2 ^ 32
plane_few w h cw ch s n c a e l =
    let k : parts w cw * parts h ch ≤ parts w cw * parts h ch * planes_of c s =
    le-mul_of_pos_right (parts w cw * parts h ch) (planes_some c s a) in
    omega arith

-- products that fit
pub product_fits : (a b : ℕ) → a < 2 ^ 32 → b < 2 ^ 32 → Fits w64 (a * b)
product_fits a b p q =
    let k : a * b < 2 ^ 32 * 2 ^ 32 = mul-lt a b (2 ^ 32) (2 ^ 32) p q in omega arith

pub column_fits : (c a n : ℕ) → c < 2 ^ 32 → n < 2 ^ 32 → Fits w64 (c % a * n)
column_fits c a n p q =
    let e : c / a * a + c % a ≡ c = div-add-mod' c a in product_fits (c % a) n (omega arith) q

pub row_fits : (c a n : ℕ) → c < 2 ^ 32 → n < 2 ^ 32 → Fits w64 (c / a * n)
row_fits c a n p q = product_fits (c / a) n (omega (arith, div-le_self c a)) q

pub bits_few : (w d s : ℕ) → w < 2 ^ 32 → d < 2 ^ 8 → s < 2 ^ 16 → w * d * s < 2 ^ 56
bits_few w d s p q r =
    let k : w * d < 2 ^ 32 * 2 ^ 8 = mul-lt w d (2 ^ 32) (2 ^ 8) p q in
    let l : w * d * s < 2 ^ 40 * 2 ^ 16 = mul-lt (w * d) s (2 ^ 40) (2 ^ 16) (omega arith) r in
    omega arith

pub bits_fit : (w d s : ℕ) → w < 2 ^ 32 → d < 2 ^ 8 → s < 2 ^ 16 → Fits w64 (w * d * s)
bits_fit w d s p q r = let k : w * d * s < 2 ^ 56 = bits_few w d s p q r in omega arith

-- a chunk has a column and a row in the image
min_some : (a b : ℕ) → 0 < a → 0 < b → 0 < min a b
min_some a b p q = omega arith

pub column_in : (w cw c : ℕ) → 0 < w → 0 < cw → 0 < min cw (w - c % parts w cw * cw)
column_in w cw c p q =
    let k : c % parts w cw * cw < w =
    parts_within w cw (c % parts w cw) q (mod_below c (parts w cw) (parts_some w cw q p)) in
    min_some cw (w - c % parts w cw * cw) q (omega arith)

pub row_in : (w h cw ch i : ℕ) → 0 < w → 0 < h → 0 < cw → 0 < ch
    → 0 < min ch (h - i % (parts w cw * parts h ch) / parts w cw * ch)
row_in w h cw ch i a b c d =
    let n : ℕ = i % (parts w cw * parts h ch) in
    let l : n < parts w cw * parts h ch =
    mod_below i (parts w cw * parts h ch) (plane_some w h cw ch a b c d) in
    let k : n / parts w cw * ch < h =
    parts_within h ch (n / parts w cw) d (div_below n (parts w cw) (parts h ch) (parts_some w cw c a) (rw (mul_comm (parts h ch) (parts w cw)) l)) in
    min_some ch (h - n / parts w cw * ch) d (omega arith)

pub product_some : (w d s : ℕ) → 0 < w → 0 < d → 0 < s → 0 < (w * d * s + 7) / 8
product_some w d s p q r =
    let k : 1 ≤ w * d * s = one-le-mul (one-le-mul p q) r in
    omega arith

-- ---- the sides of a page and of its chunks have at least one pixel

abbrev pub sides_of : (p : Page) → HasSides (view.page p)
sides_of p =
    record { wide = p.wide; high = p.high; chunk_wide = p.chunk_wide; chunk_high = p.chunk_high }

-- a quotient by its bounds
pub div_is : (x a n : ℕ) → a * n ≤ x → x < a * n + n → x / n ≡ a
div_is x a n p q =
    let e : a * n + (x - a * n) ≡ x = omega arith in
    ap (λ z. z / n) (sym e) ∙ div-mul-add a n (x - a * n) (omega arith)

-- a length below another is in a part of it
pub part_below : (x w n : ℕ) → 0 < n → x < w → x / n < parts w n
part_below x w n p q =
    let k : w ≤ parts w n * n = parts_cover w n p in div_below x n (parts w n) p (omega arith)

-- the length of a part that begins within the length
pub in_part : (x w n : ℕ) → 0 < n → x < w → x < x / n * n + min n (w - x / n * n)
in_part x w n p q =
    let e : x / n * n + x % n ≡ x = div-add-mod' x n in
    let m : x % n < n = mod_below x n p in
    omega arith

pub before : (x n : ℕ) → x / n * n ≤ x
before x n = let e : x / n * n + x % n ≡ x = div-add-mod' x n in omega arith

pub one_below : (a b c d : ℕ) → a < c → b < d → b * c + a < c * d
one_below a b c d p q =
    let k : (b + 1) * c ≤ d * c = mul-le-mul_right c (omega arith) in
    let e : d * c ≡ c * d = mul_comm d c in
    omega arith

-- where the chunk of a pixel begins
module _ (p : PageRecord) (plane x y : ℕ) (s : HasSides p) (xl : x < p.width) (yl : y < p.height) where
  abbrev pub a : ℕ
  a = across p

  abbrev pub c : ℕ
  c = chunks_of_plane p

  abbrev pub j : ℕ
  j = y / p.chunk_height * a + x / p.chunk_width

  pub column_below : x / p.chunk_width < a
  column_below = part_below x p.width p.chunk_width s.chunk_wide xl

  pub j_below : j < c
  j_below =
      one_below (x / p.chunk_width) (y / p.chunk_height) a (parts p.height p.chunk_height) column_below
      (part_below y p.height p.chunk_height s.chunk_high yl)

  pub plane_is : (plane * c + j) / c ≡ plane
  plane_is = div-mul-add plane c j j_below

  pub column_is : (plane * c + j) % c % a ≡ x / p.chunk_width
  column_is =
      ap (λ z. z % a) (mod-mul-add plane c j j_below)
      ∙ mod-mul-add (y / p.chunk_height) a (x / p.chunk_width) column_below

  pub row_is : (plane * c + j) % c / a ≡ y / p.chunk_height
  row_is =
      ap (λ z. z / a) (mod-mul-add plane c j j_below)
      ∙ div-mul-add (y / p.chunk_height) a (x / p.chunk_width) column_below

  pub has_pixel : HasPixel p (chunk_of_pixel p plane x y) plane x y
  unfolding rect
  has_pixel =
      let e : (plane * c + j) % c % a * p.chunk_width ≡ x / p.chunk_width * p.chunk_width =
      ap (λ z. z * p.chunk_width) column_is in
      let f : (plane * c + j) % c / a * p.chunk_height ≡ y / p.chunk_height * p.chunk_height =
      ap (λ z. z * p.chunk_height) row_is in
      let l : x / p.chunk_width * p.chunk_width ≤ x = before x p.chunk_width in
      let t : y / p.chunk_height * p.chunk_height ≤ y = before y p.chunk_height in
      let r : x < x / p.chunk_width * p.chunk_width
      + min p.chunk_width (p.width - x / p.chunk_width * p.chunk_width) =
      in_part x p.width p.chunk_width s.chunk_wide xl in
      let b : y < y / p.chunk_height * p.chunk_height
      + min p.chunk_height (p.height - y / p.chunk_height * p.chunk_height) =
      in_part y p.height p.chunk_height s.chunk_high yl in
      record {
        of_plane = plane_is;
        left = omega arith;
        right = omega arith;
        top = omega arith;
        bottom = omega arith;
      }

  pub no_other : (i : ℕ) → HasPixel p i plane x y → i ≡ chunk_of_pixel p plane x y
  unfolding rect
  no_other i h =
      let n : ℕ = i % c in
      let col : x / p.chunk_width ≡ i % c % a =
      div_is x (i % c % a) p.chunk_width h.left (omega (arith, h.right)) in
      let row : y / p.chunk_height ≡ i % c / a =
      div_is y (i % c / a) p.chunk_height h.top (omega (arith, h.bottom)) in
      let u : i / c * c + i % c ≡ i = div-add-mod' i c in
      let v : i % c / a * a + i % c % a ≡ i % c = div-add-mod' (i % c) a in
      let k : i / c * c ≡ plane * c = ap (λ z. z * c) h.of_plane in
      let m : y / p.chunk_height * a ≡ i % c / a * a = ap (λ z. z * a) row in
      omega arith

pub one_chunk : law.OneChunk
one_chunk p plane x y s xl yl = (has_pixel p plane x y s xl yl, no_other p plane x y s xl yl)

pub chunks_within : law.ChunksWithin
unfolding rect
chunks_within p i s =
    let u : 0 < min p.chunk_width (p.width - i % chunks_of_plane p % across p * p.chunk_width) =
    column_in p.width p.chunk_width (i % chunks_of_plane p) s.wide s.chunk_wide in
    let v : 0 < min p.chunk_height (p.height - i % chunks_of_plane p / across p * p.chunk_height) =
    row_in p.width p.height p.chunk_width p.chunk_height i s.wide s.high s.chunk_wide s.chunk_high in
    record {
      some_column = u;
      some_row = v;
      columns = omega arith;
      rows = omega arith;
    }

-- ---- the first error

pub cases_fault : (r : Result (Unit {0}) TiffError) → (r ≡ Ok tt) ⊎ ((e : TiffError) × (r ≡ Err e))
cases_fault (Ok u) = inl refl
cases_fault (Err e) = inr (e, refl)

module _ (fault : ℕ → Result (Unit {0}) TiffError) where
  pub all_ok : (n : ℕ) → each_below fault n ≡ Ok tt → (k : ℕ) → k < n → fault k ≡ Ok tt
  all_ok zero h k l = Prim.absurd (omega (arith, l))
  all_ok (suc n) h k l =
      ⊎_elim
      (λ (ok : each_below fault n ≡ Ok tt).
      let at : fault n ≡ Ok tt = rw ok at h in
      ⊎_elim (λ (b : k < n). all_ok n ok k b) (λ (b : n ≤ k). let e : k ≡ n = omega (arith, l, b) in ap fault e ∙ at) (cases_lt k n))
      (λ er. let g : Err er.0 ≡ Ok tt = rw (er.1) at h in cc)
      (cases_fault (each_below fault n))

  pub ok_all : (n : ℕ) → ((k : ℕ) → k < n → fault k ≡ Ok tt) → each_below fault n ≡ Ok tt
  ok_all zero h = refl
  ok_all (suc n) h =
      let at : each_below fault n ≡ Ok tt = ok_all n (λ k l. h k (omega (arith, l))) in
      rw at (h n (omega arith))

  pub first_of : (n : ℕ) (e : TiffError) → each_below fault n ≡ Err e
      → (m : ℕ) × ((m < n) × IsFirst fault m e)
  first_of zero e h = cc
  first_of (suc n) e h =
      ⊎_elim
      (λ (ok : each_below fault n ≡ Ok tt).
      let at : fault n ≡ Err e = rw ok at h in
      (n, (omega arith, record { found = at; none = all_ok n ok })))
      (λ er.
      let g : Err er.0 ≡ Err e = rw (er.1) at h in
      let below : (m : ℕ) × ((m < n) × IsFirst fault m e) = first_of n e (er.1 ∙ g) in
      (below.0, (omega (arith, below.1.0), below.1.1)))
      (cases_fault (each_below fault n))

  pub of_first : (n : ℕ) (e : TiffError) (m : ℕ) → m < n → IsFirst fault m e
      → each_below fault n ≡ Err e
  of_first zero e m l h = Prim.absurd (omega (arith, l))
  of_first (suc n) e m l h =
      ⊎_elim
      (λ (b : m < n). let at : each_below fault n ≡ Err e = of_first n e m b h in rw at refl)
      (λ (b : n ≤ m).
      let q : m ≡ n = omega (arith, l, b) in
      let none : each_below fault n ≡ Ok tt = ok_all n (λ k c. h.none k (omega (arith, c, b))) in
      rw none (ap fault (sym q) ∙ h.found))
      (cases_lt m n)

pub first_fault : law.FirstFault
first_fault fault n e = (first_of fault n e, of_first fault n e)

pub no_fault : law.NoFault
no_fault fault n = (all_ok fault n, ok_all fault n)

-- ---- a buffer, position by position

pub placed_each : law.PlacedEach
unfolding bytes_with_region
placed_each file order p color region stride planes buf =
    let at : ℕ → ℕ =
    λ i. unwrap_or (byte_at file order p color region stride planes i) (slice_index buf i) in
    (length-map-range_with_len at 0 (length buf), λ i l. get_or-map-range_with_len at 0 (length buf) i i 0 l (omega arith))
