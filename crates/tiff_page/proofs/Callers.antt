-- What a call says of its caller: the errors that the caller returns, and the bytes that it reads.
use Rattle.std.proofs.Common.{◌≡◌, ℕ, Result, Ok, Err, ap}
use Rattle.std.specs.Prelude.{IsErrAnd}
use Rattle.std.proofs.lemmas.Result.{err_from_is_err_and}
use Rattle.tiff_base.specs.declared.error.TiffError.{TiffError}
use Rattle.tiff_base.specs.Answers.{AnswersBut, IsCause, ReadsOnly}
use Rattle.tiff_base.specs.SourceAndSink.{SourceRecord}
use Rattle.tiff_base.specs.lemmas.Causes.{cause_along}
use Rattle.tiff_page.specs.Buffers.{planes_layout}
use Rattle.tiff_page.specs.Layout.{LayoutRecord}
use Rattle.tiff_page.specs.Page.{PageRecord}
use Rattle.tiff_page.specs.PixelCalls.{chunk_part, image_part}
use Rattle.tiff_page.specs.Reach.{ChunksReadable, ImageReadable, PartReadable}
use Rattle.tiff_page.specs.Rect.{rect}
use Rattle.tiff_page.specs.lemmas.Requests.{laid_asked}

-- the error of a call is returned with its cause
pub returned : {X Y : Type 0} (view : X → Y) (r : Result X TiffError) (e : TiffError)
    (answer : Result Y TiffError) (wanting failed : Type 0) → IsErrAnd r (λ y. y ≡ e)
    → IsCause wanting failed e (answer ≡ Err e) → AnswersBut wanting failed view r answer
returned view r e answer wanting failed is_err c =
    let is = err_from_is_err_and r is_err in rw (is.1, is.2) c

-- the error of a call is returned, and what follows from its cause is the cause
pub refused : {X Y : Type 0} (view : X → Y) (r : Result X TiffError) (e : TiffError)
    (answer : Result Y TiffError) (wanting failed given wanting' failed' : Type 0)
    → IsErrAnd r (λ y. y ≡ e) → (wanting → wanting') → (failed → failed') → (given → answer ≡ Err e)
    → IsCause wanting failed e given → AnswersBut wanting' failed' view r answer
refused view r e answer wanting failed given wanting' failed' is_err w f g c =
    returned view r e answer wanting' failed' is_err (cause_along e w f g c)

-- planes of the image that its layout defines were read
pub image_planes_asked : {X : Type 0} (p : PageRecord) (planes_of : LayoutRecord → ℕ) (planes : ℕ)
    (l : LayoutRecord) (s : SourceRecord) (r : Result X TiffError)
    → planes_layout p p.width p.height ≡ Ok l → planes ≡ planes_of l
    → ReadsOnly (PartReadable s p l.color (image_part p planes l.row_bytes)) r
    → ReadsOnly (ImageReadable s p planes_of) r
image_planes_asked p planes_of planes l s r given same a =
    laid_asked p (planes_layout p p.width p.height) (λ l. image_part p (planes_of l) l.row_bytes) l
    (image_part p planes l.row_bytes) s r given (ap (λ (n : ℕ). image_part p n l.row_bytes) same) a

-- chunks of a place in planes that the layout defines were read
pub chunk_planes_asked : {X : Type 0} (p : PageRecord) (i : ℕ) (planes_of : LayoutRecord → ℕ)
    (planes : ℕ) (l : LayoutRecord) (s : SourceRecord) (r : Result X TiffError)
    → planes_layout p (rect p i).width (rect p i).height ≡ Ok l → planes ≡ planes_of l
    → ReadsOnly (PartReadable s p l.color (chunk_part p i planes l.row_bytes)) r
    → ReadsOnly (ChunksReadable s p i planes_of) r
chunk_planes_asked p i planes_of planes l s r given same a =
    laid_asked p (planes_layout p (rect p i).width (rect p i).height)
    (λ l. chunk_part p i (planes_of l) l.row_bytes) l (chunk_part p i planes l.row_bytes) s r given
    (ap (λ (n : ℕ). chunk_part p i n l.row_bytes) same) a
