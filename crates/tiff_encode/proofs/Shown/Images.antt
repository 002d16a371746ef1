-- An image that a file contains and holds is shown.
use Rattle.std.proofs.Common.{ℕ, List, refl}
use Rattle.std.specs.Prelude.{slice_index}
use Rattle.tiff_base.specs.declared.tags.FileKind.{FileKind}
use Rattle.tiff_value.specs.Model.{Model, FileContains}
use Rattle.tiff_encode.specs.Machine.{OpenImage}
use Rattle.tiff_encode.specs.Chunks.{image_page, shown_page, sample_in}
use Rattle.tiff_encode.specs.Held.{HasChunks, RegionsHaveChunks, ShowsSamples, PageTold, ImagesShow}
use Rattle.tiff_encode.proofs.Shown.Chunks.{chunks_show}

-- regions that encode the samples of chunks are in the file
regions_stand : (kind : FileKind) (file : List ℕ) (m : Model) (i : OpenImage) (samples : List (List ℕ))
    → FileContains kind file m → RegionsHaveChunks m i samples → HasChunks file i samples
regions_stand kind file m i samples s r k b =
    let t = r k b in
    (t.0, (s.regions (record { offset = slice_index (image_page i).offsets k; bytes = t.0 }) t.1.0, t.1.1))

-- images are shown if a directory with the tags of an image is read as the image's page
pub images_show_by : PageTold → ImagesShow
images_show_by told kind file m d fields given i samples s in_directories is_listed holds whole tells supplied regions =
    let c : ShowsSamples file (shown_page i) (sample_in (image_page i) samples) =
    chunks_show kind file i samples whole supplied (regions_stand kind file m i samples s regions) in
    record {
      page = shown_page i;
      is_page = told kind file m d fields given i s in_directories is_listed holds whole tells;
      is_image = refl;
      color = c.color;
      is_color = c.is_color;
      whole = c.whole;
      shows = c.shows;
    }
