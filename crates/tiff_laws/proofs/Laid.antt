-- Facts of a layout of a part of a page, and of a read of pixels that returned bytes.
use Rattle.std.proofs.Common.{◌≡◌, ℕ, ◌*◌, ◌^◌, ◌<◌, ◌≤◌, Bool, true, false, List, length, Ok, Err, refl, sym, subst, ⊎_elim}
use Rattle.std.specs.Prelude.{Result, nat_lt}
use Rattle.std.proofs.lemmas.Bool.{cases_Bool, ltb-true, ltb-false}
use Rattle.tiff_base.specs.lemmas.Common.{bind_ok}
use Rattle.tiff_base.specs.declared.color.ColorType.{ColorType}
use Rattle.tiff_base.specs.declared.error.TiffError.{TiffError}
use Rattle.tiff_base.specs.declared.error.TiffError.TheVariants.{LimitsExceeded, UsageError}
use Rattle.tiff_base.specs.declared.error.UsageError.TheVariants.{InsufficientOutputBufferSize}
use Rattle.tiff_base.specs.declared.tags.ByteOrder.{ByteOrder}
use Rattle.tiff_base.specs.Answers.{◌>>=◌}
use Rattle.tiff_ifd.specs.declared.limits.Limits.{Limits}
use Rattle.tiff_page.specs.Page.{PageRecord}
use Rattle.tiff_page.specs.Layout.{LayoutRecord, layout_of, color_of, row_bytes, planes, wide, whole_chunks, whole_chroma}
use Rattle.tiff_page.specs.PixelFault.{fail_if}
use Rattle.tiff_page.specs.Buffers.{planes_layout}
use Rattle.tiff_page.specs.PixelCalls.{Part, room_fault, part_fault, bytes_with_region, fill_buffer}
use Rattle.tiff_page.specs.lemmas.PassedChecks.{ok_is}

-- ---- chains of steps

pub fail_if_ok : (b : Bool) (e : TiffError) → fail_if b e ≡ Ok tt → b ≡ false
fail_if_ok true e h = cc
fail_if_ok false e h = refl

pub wide_ok : (n m : ℕ) → wide n ≡ Ok m → (n < 2 ^ 64) × (m ≡ n)
wide_ok n m h =
    ⊎_elim
    (λ (t : nat_lt n (2 ^ 64) ≡ true). let g : Ok n
    ≡ Ok m = rw t at h in (ltb-true n (2 ^ 64) t, sym (ok_is n m g)))
    (λ (f : nat_lt n (2 ^ 64) ≡ false). let g : Err LimitsExceeded ≡ Ok m = rw f at h in cc)
    (cases_Bool (nat_lt n (2 ^ 64)))

pub room_ok : (provided needed : ℕ) → room_fault provided needed ≡ Ok tt → needed ≤ provided
room_ok provided needed h =
    ltb-false provided needed (fail_if_ok (nat_lt provided needed) (UsageError (InsufficientOutputBufferSize needed provided)) h)

-- ---- layouts

-- a layout of a width and a height
pub record IsLaid (p : PageRecord) (width height : ℕ) (l : LayoutRecord) : Type 0 where
  pub color : color_of p ≡ Ok l.color
  pub rows : l.row_bytes ≡ row_bytes p l.color width
  pub stride : l.plane_stride ≡ row_bytes p l.color width * height
  pub tall : row_bytes p l.color width * p.chunk_height < 2 ^ 64
  pub few : row_bytes p l.color width * height < 2 ^ 64
  pub lined : (c : ColorType) × (whole_chunks p l.color width ≡ Ok c)
  pub chroma : (c : ColorType) × (whole_chroma p l.color ≡ Ok c)

pub laid : (p : PageRecord) (width height : ℕ) (l : LayoutRecord) → layout_of p width height ≡ Ok l
    → IsLaid p width height l
unfolding layout_of
laid p width height l h =
    let last : ColorType → ℕ → Result LayoutRecord TiffError =
    λ color stride. Ok (record { color = color; row_bytes = row_bytes p color width; plane_stride = stride }) in
    let chroma : ColorType → ℕ → Result LayoutRecord TiffError =
    λ color stride. whole_chroma p color >>= (λ _. last color stride) in
    let row : ColorType → ℕ → Result LayoutRecord TiffError =
    λ color stride. whole_chunks p color width >>= (λ _. chroma color stride) in
    let plane : ColorType → Result LayoutRecord TiffError =
    λ color. wide (row_bytes p color width * height) >>= (λ stride. row color stride) in
    let tall : ColorType → Result LayoutRecord TiffError =
    λ color. wide (row_bytes p color width * p.chunk_height) >>= (λ _. plane color) in
    let a = bind_ok (color_of p) tall l h in
    let b = bind_ok (wide (row_bytes p a.0 width * p.chunk_height)) (λ _. plane a.0) l a.1.1 in
    let c = bind_ok (wide (row_bytes p a.0 width * height)) (λ stride. row a.0 stride) l b.1.1 in
    let d = bind_ok (whole_chunks p a.0 width) (λ _. chroma a.0 c.0) l c.1.1 in
    let e = bind_ok (whole_chroma p a.0) (λ _. last a.0 c.0) l d.1.1 in
    let s = wide_ok (row_bytes p a.0 width * height) c.0 c.1.0 in
    let made : LayoutRecord =
    record { color = a.0; row_bytes = row_bytes p a.0 width; plane_stride = c.0 } in
    subst (λ (z : LayoutRecord). IsLaid p width height z) {x = made} (ok_is made l e.1.1)
    (record {
      color = a.1.0;
      rows = refl;
      stride = s.1;
      tall = (wide_ok (row_bytes p a.0 width * p.chunk_height) b.0 b.1.0).0;
      few = s.0;
      lined = (d.0, d.1.0);
      chroma = (e.0, e.1.0);
    })

-- the layout of several planes
pub planes_laid : (p : PageRecord) (width height : ℕ) (l : LayoutRecord)
    → planes_layout p width height ≡ Ok l
    → (layout_of p width height ≡ Ok l) × (l.plane_stride * planes p.planar l.color < 2 ^ 64)
unfolding planes_layout
planes_laid p width height l h =
    let whole : LayoutRecord → Result LayoutRecord TiffError =
    λ layout. wide (layout.plane_stride * planes p.planar layout.color) >>= (λ _. Ok layout) in
    let a = bind_ok (layout_of p width height) whole l h in
    let b = bind_ok (wide (a.0.plane_stride * planes p.planar a.0.color)) (λ _. Ok a.0) l a.1.1 in
    let few = (wide_ok (a.0.plane_stride * planes p.planar a.0.color) b.0 b.1.0).0 in
    subst (λ (z : LayoutRecord). (layout_of p width height ≡ Ok z)
    × (z.plane_stride * planes p.planar z.color < 2 ^ 64)) (ok_is a.0 l b.1.1) (a.1.0, few)

-- ---- reads

module _ (file : List ℕ) (order : ByteOrder) (p : PageRecord) (limits : Limits) where
  -- facts of a read of pixels that returned these bytes
  pub record IsFilled (color : ColorType) (part : Part) (buf new : List ℕ) : Type 0 where
    pub none : part_fault file order p limits color part ≡ Ok tt
    pub bytes : new ≡ bytes_with_region file order p color part.region part.stride part.planes buf

  pub filled_gives : (color : ColorType) (part : Part) (buf new : List ℕ)
      → fill_buffer file order p limits color part buf ≡ Ok new
      → IsFilled color part buf new
  unfolding fill_buffer
  filled_gives color part buf new h =
      let all : List ℕ =
      bytes_with_region file order p color part.region part.stride part.planes buf in
      let a = bind_ok (part_fault file order p limits color part) (λ _. Ok all) new h in
      record { none = a.1.0; bytes = sym (ok_is all new a.1.1) }

  -- a layout, room for a plane of it, and then the bytes
  pub record IsReadInto (width height : ℕ) (part : LayoutRecord → Part) (buf new : List ℕ)
      (l : LayoutRecord) : Type 0 where
    pub laid : planes_layout p width height ≡ Ok l
    pub room : l.plane_stride ≤ length buf
    pub filled : IsFilled l.color (part l) buf new

  pub read_gives : (width height : ℕ) (part : LayoutRecord → Part) (buf new : List ℕ)
      → (planes_layout p width height >>= (λ l. room_fault (length buf) l.plane_stride
      >>= (λ _. fill_buffer file order p limits l.color (part l) buf))) ≡ Ok new
      → (l : LayoutRecord) × IsReadInto width height part buf new l
  read_gives width height part buf new h =
      let fill : LayoutRecord → Result (List ℕ) TiffError =
      λ l. fill_buffer file order p limits l.color (part l) buf in
      let a =
      bind_ok (planes_layout p width height) (λ l. room_fault (length buf) l.plane_stride
      >>= (λ _. fill l)) new h in
      let b = bind_ok (room_fault (length buf) a.0.plane_stride) (λ _. fill a.0) new a.1.1 in (
        a.0,
        record {
          laid = a.1.0;
          room = room_ok (length buf) a.0.plane_stride b.1.0;
          filled = filled_gives a.0.color (part a.0) buf new b.1.1;
        },
      )
