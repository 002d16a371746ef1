-- A page with samples of whole bytes shows each sample of an image.
use Rattle.std.proofs.Common.{◌≡◌, ℕ, ◌<◌, false, cond, Bool, List, subst}
use Rattle.std.specs.Prelude.{nat_lt}
use Rattle.tiff_base.specs.declared.tags.ByteOrder.TheVariants.{LittleEndian}
use Rattle.tiff_base.specs.declared.tags.FileKind.{FileKind}
use Rattle.tiff_base.specs.Color.{num_samples}
use Rattle.tiff_page.specs.Layout.{row_bytes}
use Rattle.tiff_page.specs.Pixels.{planar_or, image_region, packed_byte, shown_sample}
use Rattle.tiff_encode.specs.Shows.{Image, Shows}

pub whole_shown : (kind : FileKind) (file : List ℕ) (offset : ℕ) (i : Image)
    (s : Shows kind file offset i) → nat_lt s.page.depth 8 ≡ false
    → (x y sample : ℕ) → x < s.page.width → y < s.page.height → sample < num_samples s.color
    → shown_sample file LittleEndian s.page x y sample ≡ i.sample_at x y sample
whole_shown kind file offset i s deep x y sample xl yl sl =
    let P : Bool → Type 0 = λ b. x < cond b (row_bytes s.page s.color s.page.width) s.page.width
    → cond b (packed_byte file LittleEndian s.page s.color (image_region s.page) (planar_or s.page.planar sample 0) y x)
    (shown_sample file LittleEndian s.page x y sample)
    ≡ i.sample_at x y sample in
    subst P deep (λ l. s.shows x y sample l yl sl) xl
