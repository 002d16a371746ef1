-- The result of reading each page of a file whole (this project's).
use Rattle.std.specs.Prelude.{◌≡◌, ℕ, Bool, List, length, map, nat_lt, is_ok, Option, Some, Result, Ok, Err, if◌then◌else◌}
use Rattle.std.specs.List.{list_all, slice_get}
use Rattle.tiff_base.specs.declared.error.TiffError.{TiffError}
use Rattle.tiff_base.specs.declared.error.TiffError.TheVariants.{LimitsExceeded}
use Rattle.tiff_base.specs.Answers.{◌>>=◌, Answers}
use Rattle.tiff_page.specs.Image.{Decoded}
use Rattle.tiff_page.specs.PixelCalls as pixels
use Rattle.tiff_decode.specs.Machine.{Decoding}
use Rattle.tiff_decode.specs.Outcome.{chain_of}
use Rattle.tiff_decode.specs.Result.{bytes_of}
use Rattle.tiff_page.specs.Page.{PageRecord}
use Rattle.tiff_page.specs.declared.layout.BufferLayoutPreference.{BufferLayoutPreference}
use Rattle.tiff_laws.specs.Pages.{page_at}
use Rattle.tiff_pages.specs.Pages.{IsOfFile}
use Rattle.tiff_pages.specs.Adler.{adler_32}
use Rattle.tiff_pages.specs.declared.check.ImageSum.{ImageSum}
use Rattle.tiff_pages.specs.declared.check.PageCheck.{PageCheck}
use Rattle.tiff_pages.specs.declared.check.FileCheck.{FileCheck}

-- the samples as bytes; an error if there are fewer than `len`
abbrev pub all_bytes : ℕ → Decoded → Result (List ℕ) TiffError
all_bytes len samples = if nat_lt (length (bytes_of samples)) len then Err LimitsExceeded
    else Ok (bytes_of samples)

-- how many bytes there are, and their sum
abbrev pub sum_of : List ℕ → ImageSum
sum_of bytes = record { bytes = length bytes; adler = adler_32 bytes }

-- the planes of a page's image, as many as the limit allows, with the layout of all planes
abbrev pub planes_read : Decoding → PageRecord → Result (BufferLayoutPreference × Decoded) TiffError
planes_read d page = pixels.read_image_to_buffer d.bytes d.order page d.state.limits

-- the bytes of a page's image, in all its planes, or its first error; `LimitsExceeded` if the limit
-- doesn't allow all planes
abbrev pub whole_image : Decoding → PageRecord → Result (List ℕ) TiffError
whole_image d page = do
  image ← planes_read d page
  all_bytes image.0.complete_len image.1

abbrev pub image_sum : Decoding → PageRecord → Result ImageSum TiffError
image_sum d page = do
  bytes ← whole_image d page
  Ok (sum_of bytes)

-- the page at an offset of the chain, read whole; or its first error
abbrev pub check_at : Decoding → ℕ → PageCheck
check_at d offset =
    record { place = record { 0 = offset }; image = page_at d offset >>= image_sum d }

-- this is the check of the page with this number in the chain
abbrev pub IsCheckOf : Decoding → ℕ → PageCheck → Type 0
IsCheckOf d number check = (offset : ℕ) × (slice_get (chain_of d).offsets number ≡ Some offset)
    × (check ≡ check_at d offset)

-- the pages of a file, each read whole, and how their chain ends
pub record Checks : Type 0 where
  pub items : List PageCheck
  pub end : Option TiffError

abbrev pub checks_in : FileCheck → Checks
checks_in check = record { items = check.pages.items; end = check.end }

abbrev pub checks_of : Decoding → Checks
checks_of d = record { items = map (check_at d) (chain_of d).offsets; end = (chain_of d).end }

-- whether the image of each page was read
abbrev pub are_well : List PageCheck → Bool
are_well checks = list_all (λ check. is_ok check.image) checks

-- ---- a read of the decoder's page

-- A read returns the given result, seen by `view`, unless memory is out or the device fails; except
-- for these two, it leaves all as it was, and it always leaves what can be read.
pub record ReadsPage {X Y : Type 0} (view : X → Y) (given : Result Y TiffError)
    (result : Result X TiffError) (old new : Decoding) : Type 0 where
  pub answer : Answers view result given old.failures new.failures
  pub stays : IsOfFile result → new ≡ old
  pub readable : new.readable ≡ old.readable
