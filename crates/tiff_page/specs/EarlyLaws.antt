-- A call returns the error that is found before memory is allocated for samples.
use Rattle.std.specs.Prelude.{◌≡◌, ℕ, ◌<◌, List, Err}
use Rattle.tiff_base.specs.declared.error.TiffError.{TiffError}
use Rattle.tiff_base.specs.declared.tags.ByteOrder.{ByteOrder}
use Rattle.tiff_ifd.specs.declared.limits.Limits.{Limits}
use Rattle.tiff_page.specs.Page.{PageRecord}
use Rattle.tiff_page.specs.Laws.{HasSides}
use Rattle.tiff_page.specs.PixelCalls.{image_of, read_image_to_buffer, read_chunk, read_chunk_to_buffer}
use Rattle.tiff_page.specs.EarlyFaults.{image_early, planes_early, chunk_early, strided_early}

-- Each call that returns samples returns the error that is found early. The page has sides and
-- samples, as each page that was read.
pub record EarlyIsAnswered : Type 0 where
  pub image : (file : List ℕ) (order : ByteOrder) (p : PageRecord) (limits : Limits) (e : TiffError)
      → HasSides p
      → image_early file p limits ≡ Err e → image_of file order p limits ≡ Err e
  pub planes : (file : List ℕ) (order : ByteOrder) (p : PageRecord) (limits : Limits)
      (e : TiffError) → HasSides p → 0 < p.samples
      → planes_early file p limits ≡ Err e → read_image_to_buffer file order p limits ≡ Err e
  pub chunk : (file : List ℕ) (order : ByteOrder) (p : PageRecord) (limits : Limits) (i : ℕ)
      (e : TiffError)
      → chunk_early file p limits i ≡ Err e → read_chunk file order p limits i ≡ Err e
  pub strided : (file : List ℕ) (order : ByteOrder) (p : PageRecord) (limits : Limits)
      (i stride : ℕ) (e : TiffError)
      → strided_early file p limits i stride ≡ Err e
      → read_chunk_to_buffer file order p limits i stride ≡ Err e
