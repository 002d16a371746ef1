-- Facts of a layout; the image as its first plane; rows of whole bytes.
use Rattle.std.proofs.Common.{◌≡◌, ℕ, ◌+◌, ◌*◌, ◌/◌, ◌^◌, ◌<◌, ◌≤◌, zero, suc, Bool, true, false, List, Ok, Err, refl, ap, sym, subst, ◌∙◌, ◌⊎◌, inl, inr, ⊎_elim, arith, ◌-◌, [], ◌∷◌, min, Fits, w64}
use Rattle.std.specs.Prelude.{◌%◌, ◌&&◌, not, Result, if◌then◌else◌, nat_lt, ◌==◌, length, slice_index, nat_le}
use Rattle.std.proofs.lemmas.Bool.{cases_Bool, cases_lt, eqb-true, ltb-false, le-ltb, lt-ltb}
use Rattle.std.proofs.lemmas.Nat.{div-add-mod', le-div}
use Rattle.std.proofs.Math.Nat.{one-le-mul, mul_comm, mul-le-mul_right, div-mul-le_self}
use Rattle.tiff_base.specs.declared.color.ColorType.{ColorType}
use Rattle.tiff_base.specs.declared.color.ColorType.TheVariants.{Gray, RGB, RGBA, CMYK, CMYKA, YCbCr, Lab, Multiband}
use Rattle.tiff_base.specs.declared.error.TiffError.{TiffError}
use Rattle.tiff_base.specs.declared.error.TiffError.TheVariants.{UnsupportedError, LimitsExceeded, FormatError}
use Rattle.tiff_base.specs.declared.error.TiffUnsupportedError.TheVariants.{MisalignedTileBoundaries, UnsupportedColorType, HorizontalPredictor, FloatingPointPredictor}
use Rattle.tiff_page.specs.Counts.{parts}
use Rattle.tiff_base.specs.declared.tags.ByteOrder.{ByteOrder}
use Rattle.tiff_base.specs.declared.tags.PhotometricInterpretation.{PhotometricInterpretation}
use Rattle.tiff_base.specs.declared.tags.PhotometricInterpretation.TheVariants as meaning
use Rattle.tiff_base.specs.declared.tags.PlanarConfiguration.{PlanarConfiguration}
use Rattle.tiff_base.specs.declared.tags.PlanarConfiguration.TheVariants.{Chunky, Planar}
use Rattle.tiff_base.specs.declared.tags.SampleFormat.{SampleFormat}
use Rattle.tiff_base.specs.declared.tags.SampleFormat.TheVariants.{Uint}
use Rattle.tiff_base.specs.Answers.{◌>>=◌}
use Rattle.tiff_base.specs.lemmas.Common.{bind_ok}
use Rattle.tiff_base.specs.Color.{num_samples}
use Rattle.tiff_ifd.specs.declared.limits.Limits.{Limits}
use Rattle.tiff_page.specs.Page.{PageRecord}
use Rattle.tiff_page.specs.Rect.{chunks_of_plane, rect}
use Rattle.tiff_page.specs.Layout.{LayoutRecord, layout_of, color_of, color_from, no_color, gray, lab, photometric, first_is_alpha, row_bits, row_bytes, samples_in_chunk, wide, whole_chunks, whole_chroma, planes}
use Rattle.tiff_page.specs.PixelFault.{is_byte_multiple, depth_fault, each_below, chunk_fault, fail_if, is_gray, refuse_predictor, predictor_fault, form_fault}
use Rattle.tiff_page.specs.Pixels.{is_short, stored_samples}
use Rattle.tiff_page.specs.Buffers.{planes_layout}
use Rattle.tiff_page.specs.PixelCalls.{samples, image_part, part_fault, image_of}
use Rattle.tiff_page.specs.Laws as law
use Rattle.tiff_page.specs.lemmas.PositionLaws.{product_some}
use Rattle.tiff_base.specs.declared.error.TiffFormatError.TheVariants.{InconsistentSizesEncountered}
use Rattle.tiff_base.specs.declared.tags.ExtraSamples.{ExtraSamples}
use Rattle.tiff_base.specs.declared.tags.Predictor.{Predictor}
use Rattle.tiff_base.specs.declared.tags.Predictor.TheVariants as predictor
use Rattle.tiff_page.specs.Methods.{method_fault}
use Rattle.tiff_page.specs.Row.{IsSize}
use Rattle.tiff_page.specs.ReadablePage.{IsRead, FormRead}

pub cases_of : {A : Type 0} (r : Result A TiffError)
    → ((x : A) × (r ≡ Ok x)) ⊎ ((e : TiffError) × (r ≡ Err e))
cases_of (Ok x) = inl (x, refl)
cases_of (Err e) = inr (e, refl)

-- a property of the result of a chain of steps
pub given_bind : {A B : Type 0} (P : Result B TiffError → Type 0) (r : Result A TiffError)
    (f : A → Result B TiffError)
    → ((e : TiffError) → P (Err e)) → ((x : A) → r ≡ Ok x → P (f x)) → P (r >>= f)
given_bind P (Ok x) f a b = b x refl
given_bind P (Err e) f a b = a e

pub given_if : {A : Type 0} (P : A → Type 0) (b : Bool) (x y : A) → P x → P y
    → P (if b then x else y)
given_if P true x y a b = a
given_if P false x y a b = b

abbrev pub value : Result ℕ TiffError → ℕ → ℕ
value (Ok n) d = n
value (Err e) d = d

pub wide_value : (n : ℕ) → value (wide n) n ≡ n
wide_value n =
    given_if (λ r. value r n ≡ n) (nat_lt n (2 ^ 64)) (Ok n) (Err LimitsExceeded) refl refl

pub wide_is : (n m : ℕ) → wide n ≡ Ok m → m ≡ n
wide_is n m h = sym (ap (λ r. value r n) h) ∙ wide_value n

abbrev pub color_or : Result ColorType TiffError → ColorType → ColorType
color_or (Ok c) d = c
color_or (Err e) d = d

-- the check of whole chunks returns its color
pub aligned_gives : (p : PageRecord) (c : ColorType) (w : ℕ) → color_or (whole_chunks p c w) c ≡ c
aligned_gives p c w =
    given_if (λ r. color_or r c ≡ c) (nat_lt 1 (parts w p.chunk_width) && not (row_bits p c p.chunk_width % 8 == 0))
    (Err (UnsupportedError MisalignedTileBoundaries)) (Ok c) refl refl

pub aligned_is : (p : PageRecord) (c : ColorType) (w : ℕ) (a : ColorType)
    → whole_chunks p c w ≡ Ok a → a ≡ c
aligned_is p c w a h = sym (ap (λ r. color_or r c) h) ∙ aligned_gives p c w

-- ---- the layout

module _ (p : PageRecord) (w h : ℕ) where
  abbrev pub Given : Result LayoutRecord TiffError → Type 0
  Given (Ok l) =
      ((l.row_bytes ≡ row_bytes p l.color w) × (l.plane_stride ≡ row_bytes p l.color w * h))
      × ((color_of p ≡ Ok l.color) × (whole_chunks p l.color w ≡ Ok l.color))
  Given (Err e) = Unit {0}

  abbrev pub last : ColorType → ℕ → Result LayoutRecord TiffError
  last color s = Ok (record { color = color; row_bytes = row_bytes p color w; plane_stride = s })

  abbrev pub chroma : ColorType → ℕ → Result LayoutRecord TiffError
  chroma color s = whole_chroma p color >>= (λ _. last color s)

  abbrev pub line : ColorType → ℕ → Result LayoutRecord TiffError
  line color s = whole_chunks p color w >>= (λ _. chroma color s)

  abbrev pub plane : ColorType → Result LayoutRecord TiffError
  plane color = wide (row_bytes p color w * h) >>= (λ s. line color s)

  abbrev pub stored : ColorType → Result LayoutRecord TiffError
  stored color = wide (row_bytes p color w * p.chunk_height) >>= (λ _. plane color)

  pub layout_given : Given (layout_of p w h)
  unfolding layout_of
  layout_given =
      given_bind Given (color_of p) stored (λ e. tt) (λ color ec.
      given_bind Given (wide (row_bytes p color w * p.chunk_height)) (λ _. plane color) (λ e. tt) (λ n en.
      given_bind Given (wide (row_bytes p color w * h)) (line color) (λ e. tt) (λ s es.
      given_bind Given (whole_chunks p color w) (λ _. chroma color s) (λ e. tt) (λ a ea.
      given_bind Given (whole_chroma p color) (λ _. last color s) (λ e. tt) (λ b eb.
      ((refl, wide_is (row_bytes p color w * h) s es), (ec, ea ∙ ap (λ z. Ok z) (aligned_is p color w a ea))))))))

  pub layout_gives : (l : LayoutRecord) → layout_of p w h ≡ Ok l → Given (Ok l)
  layout_gives l e = subst Given e layout_given

-- the layout of all planes is that of one
pub laid_once : (p : PageRecord) (w h : ℕ) (l : LayoutRecord) → planes_layout p w h ≡ Ok l
    → layout_of p w h ≡ Ok l
unfolding planes_layout
laid_once p w h l q =
    let one = bind_ok (layout_of p w h) _ l q in
    one.1.0 ∙ (bind_ok (wide (one.0.plane_stride * planes p.planar one.0.color)) _ l one.1.1).1.1

-- ---- the samples of a color are samples of the page

-- how many samples a color has; gray and bands have all
abbrev pub AllShown : ColorType → ℕ → Type 0
AllShown (Gray d) n = 1 ≡ n
AllShown (Multiband d m) n = m ≡ n
AllShown _ n = Unit {0}

abbrev pub Stores : ℕ → Result ColorType TiffError → Type 0
Stores n (Ok c) = (num_samples c ≤ n) × AllShown c n
Stores n (Err e) = Unit {0}

no_color_stores : (p : PageRecord) → Stores p.samples (no_color p)
unfolding no_color
no_color_stores p = tt

-- the result if a count is a number
where_is : {A : Type 0} (P : A → Type 0) (n k : ℕ) (x y : A) → (n ≡ k → P x) → P y
    → P (if n == k then x else y)
where_is P n k x y a b =
    ⊎_elim (λ (t : (n == k) ≡ true). subst (λ (z : Bool). P (if z then
    x else y)) (sym t) (a (eqb-true n k t)))
    (λ (f : (n == k) ≡ false). subst (λ (z : Bool). P (if z then
    x else y)) (sym f) b) (cases_Bool (n == k))

-- an alpha sample is one more
alpha_more : (es : List ExtraSamples) (n k : ℕ) → first_is_alpha es ≡ true → n - length es ≡ suc k
    → suc (suc k) ≤ n
alpha_more [] n k a e = cc
alpha_more (x ∷ es) n k a e = omega (arith, e)

with_alpha : (p : PageRecord) (k : ℕ) (more less : ColorType) → photometric p ≡ suc k
    → (suc (suc k) ≤ p.samples → Stores p.samples (Ok more)) → Stores p.samples (Ok less)
    → Stores p.samples (Ok (if first_is_alpha p.extra then more else less))
with_alpha p k more less e a b =
    ⊎_elim (λ (t : first_is_alpha p.extra ≡ true). subst (λ (z : Bool). Stores p.samples (Ok (if z then more else less))) (sym t) (a (alpha_more p.extra p.samples k t e)))
    (λ (f : first_is_alpha p.extra ≡ false). subst (λ (z : Bool). Stores p.samples (Ok (if z then more else less))) (sym f) b) (cases_Bool (first_is_alpha p.extra))

lab_stores : (f : SampleFormat) (p : PageRecord) → Stores p.samples (lab f p)
lab_stores Uint p =
    where_is (Stores p.samples) (photometric p) 3 (Ok (Lab p.depth)) (no_color p)
    (λ e. (omega (arith, e), tt)) (no_color_stores p)
lab_stores _ p = no_color_stores p

gray_stores : (p : PageRecord) → Stores p.samples (gray p)
gray_stores p =
    where_is (Stores p.samples) p.samples 1 (Ok (Gray p.depth)) (Ok (Multiband p.depth p.samples))
    (λ e. (omega (arith, e), sym e)) (omega arith, refl)

from_stores : (i : PhotometricInterpretation) (p : PageRecord) → Stores p.samples (color_from i p)
from_stores meaning.RGB p =
    where_is (Stores p.samples) (photometric p) 3 (Ok (if first_is_alpha p.extra then
    RGBA p.depth else RGB p.depth)) (if photometric p == 4 then
    Ok (RGBA p.depth) else no_color p)
    (λ e. with_alpha p 2 (RGBA p.depth) (RGB p.depth) e (λ l. (l, tt)) (omega (arith, e), tt))
    (where_is (Stores p.samples) (photometric p) 4 (Ok (RGBA p.depth)) (no_color p) (λ e. (omega (arith, e), tt)) (no_color_stores p))
from_stores meaning.CMYK p =
    where_is (Stores p.samples) (photometric p) 4 (Ok (if first_is_alpha p.extra then
    CMYKA p.depth else CMYK p.depth)) (if photometric p == 5 then
    Ok (CMYKA p.depth) else no_color p)
    (λ e. with_alpha p 3 (CMYKA p.depth) (CMYK p.depth) e (λ l. (l, tt)) (omega (arith, e), tt))
    (where_is (Stores p.samples) (photometric p) 5 (Ok (CMYKA p.depth)) (no_color p) (λ e. (omega (arith, e), tt)) (no_color_stores p))
from_stores meaning.YCbCr p =
    where_is (Stores p.samples) (photometric p) 3 (Ok (YCbCr p.depth)) (no_color p)
    (λ e. (omega (arith, e), tt)) (no_color_stores p)
from_stores meaning.BlackIsZero p = gray_stores p
from_stores meaning.WhiteIsZero p = gray_stores p
from_stores meaning.IccLab p = lab_stores p.format p
from_stores _ p = no_color_stores p

pub color_stores : (p : PageRecord) → Stores p.samples (color_of p)
unfolding color_of
color_stores p = from_stores p.interpretation p

-- ---- a row has at least one byte

abbrev pub Shows : Result ColorType TiffError → Type 0
Shows (Ok c) = 0 < num_samples c
Shows (Err e) = Unit {0}

pub shown_some : (planar : PlanarConfiguration) (c : ColorType) → 0 < num_samples c
    → 0 < samples_in_chunk planar c
shown_some Chunky c h = h
shown_some Planar c h = omega arith

shows_of : (r : Result ColorType TiffError) (n : ℕ) → 0 < n → Stores n r → Shows r
shows_of (Ok (Multiband d m)) n h s = omega (arith, s.1, h)
shows_of (Ok c) n h s = omega arith
shows_of (Err e) n h s = tt

pub color_shows : (p : PageRecord) → 0 < p.samples → Shows (color_of p)
color_shows p h = shows_of (color_of p) p.samples h (color_stores p)

pub row_some : (p : PageRecord) (c : ColorType) (w : ℕ) → 0 < w → 0 < p.depth → 0 < num_samples c
    → 0 < row_bytes p c w
unfolding row_bits
row_some p c w a b s =
    product_some w p.depth (samples_in_chunk p.planar c) a b (shown_some p.planar c s)

pub some_bytes : law.SomeBytes
some_bytes p w h l wp hp d s e =
    let g : ((l.row_bytes ≡ row_bytes p l.color w) × (l.plane_stride ≡ row_bytes p l.color w * h))
    × ((color_of p ≡ Ok l.color) × (whole_chunks p l.color w ≡ Ok l.color)) =
    layout_gives p w h l e in
    let c : 0 < num_samples l.color = subst Shows g.1.0 (color_shows p s) in
    let r : 0 < row_bytes p l.color w = row_some p l.color w wp d c in
    (omega (arith, r, g.0.0), omega (arith, one-le-mul r hp, g.0.1))

-- the rows of a page whose samples have at least one bit
pub some_row : (p : PageRecord) (c : ColorType) (w : ℕ) → 0 < p.depth → 0 < p.samples
    → color_of p ≡ Ok c → 0 < w → 0 < row_bytes p c w
some_row p c w d s e wp =
    let k : 0 < num_samples c = subst Shows e (color_shows p s) in
    row_some p c w wp d k

pub some_plane : (n h : ℕ) → 0 < n → 0 < h → 0 < n * h
some_plane n h p q = one-le-mul p q

-- ---- the first plane

pub each_same : (f g : ℕ → Result (Unit {0}) TiffError) (n : ℕ) → ((k : ℕ) → f k ≡ g k)
    → each_below f n ≡ each_below g n
each_same f g zero h = refl
each_same f g (suc n) h = rw (each_same f g n h, h n) refl

pub one_plane : (f : ℕ → Result (Unit {0}) TiffError) (c j : ℕ)
    → f j ≡ each_below (λ plane. f (plane * c + (0 + j))) 1
one_plane f c j = let e : 0 * c + (0 + j) ≡ j = omega arith in ap f (sym e)

pub from_0 : (i : ℕ) → 0 + i ≡ i
from_0 i = omega arith

pub first_plane_fault : (file : List ℕ) (order : ByteOrder) (p : PageRecord) (limits : Limits)
    (color : ColorType) (stride : ℕ)
    → part_fault file order p limits color (image_part p 1 stride)
    ≡ each_below (chunk_fault p limits (is_short file order p color) color) (chunks_of_plane p)
first_plane_fault file order p limits color stride =
    let f : ℕ → Result (Unit {0}) TiffError =
    chunk_fault p limits (is_short file order p color) color in
    sym (each_same f (λ j. each_below (λ plane. f (plane * chunks_of_plane p + (0 + j))) 1) (chunks_of_plane p) (one_plane f (chunks_of_plane p)))

pub image_is_first_plane : (file : List ℕ) (order : ByteOrder) (p : PageRecord) (limits : Limits)
    → image_of file order p limits
    ≡ (planes_layout p p.width p.height >>= (λ layout. samples file order p limits layout.color (image_part p 1 layout.row_bytes) layout.plane_stride))
unfolding image_of
image_is_first_plane file order p limits = refl

-- ---- rows of whole bytes

whole_size : (d : ℕ) → is_byte_multiple d ≡ true → IsSize (d / 8) × (d ≡ d / 8 * 8)
whole_size d h =
    ⊎_elim (λ (t : (d == 8) ≡ true). let e : d
    ≡ 8 = eqb-true d 8 t in (inl (omega (arith, e)), omega (arith, e)))
    (λ (a : (d == 8) ≡ false).
    ⊎_elim (λ (t : (d == 16) ≡ true). let e : d
    ≡ 16 = eqb-true d 16 t in (inr (inl (omega (arith, e))), omega (arith, e)))
    (λ (b : (d == 16) ≡ false).
    ⊎_elim (λ (t : (d == 32) ≡ true). let e : d
    ≡ 32 = eqb-true d 32 t in (inr (inr (inl (omega (arith, e)))), omega (arith, e)))
    (λ (c : (d == 32) ≡ false).
    ⊎_elim (λ (t : (d == 64) ≡ true). let e : d
    ≡ 64 = eqb-true d 64 t in (inr (inr (inr (omega (arith, e)))), omega (arith, e)))
    (λ (f : (d == 64) ≡ false). let g : false ≡ true = rw (a, b, c, f) at h in cc)
    (cases_Bool (d == 64)))
    (cases_Bool (d == 32)))
    (cases_Bool (d == 16)))
    (cases_Bool (d == 8))

read_size : (p : PageRecord) (c : ColorType) → depth_fault p c ≡ Ok tt
    → (p.depth < 8) ⊎ (IsSize (p.depth / 8) × (p.depth ≡ p.depth / 8 * 8))
unfolding depth_fault
read_size p c h =
    ⊎_elim (λ (l : p.depth < 8). inl l)
    (λ (g : 8 ≤ p.depth).
    ⊎_elim (λ (t : is_byte_multiple p.depth ≡ true). inr (whole_size p.depth t))
    (λ (n : is_byte_multiple p.depth ≡ false). let k : Err (UnsupportedError (UnsupportedColorType c)) ≡ Ok tt = rw (n, le-ltb p.depth 8 g) at h in cc)
    (cases_Bool (is_byte_multiple p.depth)))
    (cases_lt p.depth 8)

read_depth : (p : PageRecord) (c : ColorType) → depth_fault p c ≡ Ok tt
    → (p.depth < 8) ⊎ (p.depth ≡ p.depth / 8 * 8)
read_depth p c h = ⊎_elim (λ l. inl l) (λ b. inr b.1) (read_size p c h)

pub aligned_rows : (p : PageRecord) (c : ColorType) (w : ℕ) (a : ColorType)
    → whole_chunks p c w ≡ Ok a
    → (parts w p.chunk_width ≤ 1)
    ⊎ (row_bits p c p.chunk_width ≡ row_bits p c p.chunk_width / 8 * 8)
aligned_rows p c w a h =
    let n : ℕ = row_bits p c p.chunk_width in
    ⊎_elim
    (λ (t : nat_lt 1 (parts w p.chunk_width) ≡ true).
    ⊎_elim
    (λ (z : (row_bits p c p.chunk_width % 8 == 0) ≡ true).
    inr (omega (arith, eqb-true (n % 8) 0 z, div-add-mod' n 8)))
    (λ (f : (row_bits p c p.chunk_width % 8 == 0) ≡ false).
    let k : Err (UnsupportedError MisalignedTileBoundaries) ≡ Ok a = rw (t, f) at h in cc)
    (cases_Bool (row_bits p c p.chunk_width % 8 == 0)))
    (λ (f : nat_lt 1 (parts w p.chunk_width) ≡ false). inl (ltb-false 1 (parts w p.chunk_width) f))
    (cases_Bool (nat_lt 1 (parts w p.chunk_width)))

pub whole_rows : law.WholeRows
whole_rows p l e d =
    record { depth = read_depth p l.color d; rows = aligned_rows p l.color p.width l.color (layout_gives p p.width p.height l e).1.1 }

-- ---- facts of a page that passed the checks of its form

pub shown_stored : (planar : PlanarConfiguration) (p : PageRecord) (c : ColorType)
    → p.planar ≡ planar → num_samples c ≤ p.samples → samples_in_chunk p.planar c ≤ stored_samples p
shown_stored Chunky p c e h = rw e h
shown_stored Planar p c e h = rw e (omega arith)

-- ---- depths

not_whole : (d : ℕ) → d < 8 → is_byte_multiple d ≡ false
not_whole d h =
    ⊎_elim (λ (t : is_byte_multiple d ≡ true). Prim.absurd (⊎_elim (λ (e : d / 8 ≡ 1). omega (arith, e, h))
    (λ o. ⊎_elim (λ (e : d / 8 ≡ 2). omega (arith, e, h)) (λ q. ⊎_elim (λ (e : d / 8 ≡ 4). omega (arith, e, h)) (λ (e : d / 8 ≡ 8). omega (arith, e, h)) q) o) (whole_size d t).0))
    (λ f. f) (cases_Bool (is_byte_multiple d))

-- depths below 8
packed_fault : (p : PageRecord) (c : ColorType) → p.depth < 8
    → depth_fault p c ≡ (if is_gray c then
    refuse_predictor p.predictor c else Err (UnsupportedError (UnsupportedColorType c)))
unfolding depth_fault
packed_fault p c h = rw (not_whole p.depth h, lt-ltb p.depth 8 h) refl

no_predictor : (d : Predictor) (c : ColorType)
    → (if is_gray c then refuse_predictor d c else Err (UnsupportedError (UnsupportedColorType c)))
    ≡ Ok tt → d ≡ predictor.None
no_predictor predictor.None c h = refl
no_predictor predictor.Horizontal c h =
    ⊎_elim (λ (t : is_gray c ≡ true). let k : Err (UnsupportedError (HorizontalPredictor c))
    ≡ Ok tt = rw t at h in cc)
    (λ (f : is_gray c ≡ false). let k : Err (UnsupportedError (UnsupportedColorType c))
    ≡ Ok tt = rw f at h in cc) (cases_Bool (is_gray c))
no_predictor predictor.FloatingPoint c h =
    ⊎_elim (λ (t : is_gray c ≡ true). let k : Err (UnsupportedError (FloatingPointPredictor c))
    ≡ Ok tt = rw t at h in cc)
    (λ (f : is_gray c ≡ false). let k : Err (UnsupportedError (UnsupportedColorType c))
    ≡ Ok tt = rw f at h in cc) (cases_Bool (is_gray c))

gray_here : (d : Predictor) (c : ColorType)
    → (if is_gray c then refuse_predictor d c else Err (UnsupportedError (UnsupportedColorType c)))
    ≡ Ok tt → is_gray c ≡ true
gray_here d c h =
    ⊎_elim (λ (t : is_gray c ≡ true). t)
    (λ (f : is_gray c ≡ false). let k : Err (UnsupportedError (UnsupportedColorType c))
    ≡ Ok tt = rw f at h in cc) (cases_Bool (is_gray c))

gray_all : (c : ColorType) (n : ℕ) → is_gray c ≡ true → AllShown c n → num_samples c ≡ n
gray_all (Gray d) n g a = a
gray_all (Multiband d m) n g a = a
gray_all _ n g a = cc

all_stored : (planar : PlanarConfiguration) (p : PageRecord) (c : ColorType) → p.planar ≡ planar
    → num_samples c ≡ p.samples → samples_in_chunk p.planar c ≡ stored_samples p
all_stored Chunky p c e h = rw e h
all_stored Planar p c e h = rw e refl

-- ---- the whole form

pub depth_passed : (p : PageRecord) (limits : Limits) (c : ColorType) (i : ℕ)
    → form_fault p limits c i ≡ Ok tt → depth_fault p c ≡ Ok tt
unfolding form_fault
depth_passed p limits c i h =
    (bind_ok (depth_fault p c) _ tt (bind_ok (fail_if (nat_le (length p.offsets) i) (FormatError InconsistentSizesEncountered)) _ tt h).1.1).1.0

pub method_passed : (p : PageRecord) (limits : Limits) (c : ColorType) (i : ℕ)
    → form_fault p limits c i ≡ Ok tt → method_fault p.method ≡ Ok tt
unfolding form_fault
method_passed p limits c i h =
    let b =
    bind_ok (depth_fault p c) _ tt (bind_ok (fail_if (nat_le (length p.offsets) i) (FormatError InconsistentSizesEncountered)) _ tt h).1.1 in
    let e =
    bind_ok (fail_if (nat_lt limits.intermediate_buffer_size (slice_index p.byte_counts i)) LimitsExceeded) _ tt (bind_ok (predictor_fault p c) _ tt b.1.1).1.1 in
    (bind_ok (method_fault p.method) _ tt e.1.1).1.0

is_read : (p : PageRecord) (c : ColorType) → 0 < p.samples → color_of p ≡ Ok c
    → depth_fault p c ≡ Ok tt → IsRead p c
is_read p c s e d =
    let few : (num_samples c ≤ p.samples) × AllShown c p.samples =
    subst (Stores p.samples) e (color_stores p) in
    let some : 0 < num_samples c = subst Shows e (color_shows p s) in
    record {
      stored =
          record { depth = read_depth p c d; shows = shown_some p.planar c some; stores = shown_stored p.planar p c refl few.0 };
      size = ⊎_elim (λ l. inl l) (λ b. inr b.0) (read_size p c d);
      unpredicted = λ l. no_predictor p.predictor c (sym (packed_fault p c l) ∙ d);
      all =
          λ l. all_stored p.planar p c refl (gray_all c p.samples (gray_here p.predictor c (sym (packed_fault p c l) ∙ d)) few.1);
    }

pub form_read : FormRead
form_read p limits c i s e h = is_read p c s e (depth_passed p limits c i h)

-- ---- facts of a layout, and of its room, for the calls that read pixels

module _ (p : PageRecord) (w h : ℕ) (c : ColorType) (r s : ℕ)
    (given : layout_of p w h ≡ Ok (record { color = c; row_bytes = r; plane_stride = s })) where
  pub colored : color_of p ≡ Ok c
  colored = (layout_gives p w h (record { color = c; row_bytes = r; plane_stride = s }) given).1.0

  pub columns : row_bytes p c w ≤ r
  columns =
      let e : r ≡ row_bytes p c w =
      (layout_gives p w h (record { color = c; row_bytes = r; plane_stride = s }) given).0.0 in
      omega (arith, e)

  pub stride : h * r ≡ s
  stride =
      let g : (r ≡ row_bytes p c w) × (s ≡ row_bytes p c w * h) =
      (layout_gives p w h (record { color = c; row_bytes = r; plane_stride = s }) given).0 in
      mul_comm h r ∙ ap (λ n. n * h) g.0 ∙ sym g.1

pub some_of : (planar : PlanarConfiguration) (c : ColorType) → 0 < num_samples c
    → 0 < planes planar c
some_of Chunky c h = omega arith
some_of Planar c h = h

pub some_planes : (p : PageRecord) (c : ColorType) → 0 < p.samples → color_of p ≡ Ok c
    → 0 < planes p.planar c
some_planes p c s e = some_of p.planar c (subst Shows e (color_shows p s))

-- ---- the whole planes that a slice holds

pub whole_planes : (all s n : ℕ) → min all (n / s) * s ≤ n
whole_planes all s n =
    let a : min all (n / s) * s ≤ n / s * s = mul-le-mul_right s (omega arith) in
    omega (arith, a, div-mul-le_self n s)

pub plane_held : (all s n : ℕ) → 0 < all → 0 < s → s ≤ n → 0 < min all (n / s)
plane_held all s n p q h =
    let k : 1 ≤ n / s = le-div 1 n s q (omega (arith, h)) in
    omega (arith, p, k)

-- ---- the rows of a chunk

pub height_within : (p : PageRecord) (i : ℕ) → (rect p i).height ≤ p.chunk_height
unfolding rect
height_within p i = omega arith

pub rows_fit : (s h c : ℕ) → h ≤ c → s * c < 2 ^ 64 → Fits w64 (s * h)
rows_fit s h c l f =
    omega (arith, mul-le-mul_right s l, mul_comm h s, mul_comm c s, f)
