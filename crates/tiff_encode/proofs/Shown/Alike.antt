-- A page that shows an image shows each image that has the same page and the same samples.
use Rattle.std.proofs.Common.{◌≡◌, ℕ, ◌<◌, List, ◌∙◌}
use Rattle.tiff_base.specs.declared.tags.FileKind.{FileKind}
use Rattle.tiff_base.specs.Color.{num_samples}
use Rattle.tiff_encode.specs.Shows.{Image, shown_columns, Shows}

pub shown_alike : {kind : FileKind} {file : List ℕ} {offset : ℕ} {i j : Image}
    (s : Shows kind file offset i)
    → s.page ≡ record j.page { offsets = s.page.offsets; byte_counts = s.page.byte_counts }
    → ((x y sample : ℕ) → x < shown_columns s.page s.color → y < s.page.height
    → sample < num_samples s.color → i.sample_at x y sample ≡ j.sample_at x y sample)
    → Shows kind file offset j
shown_alike s is same = record {
  page = s.page;
  is_page = s.is_page;
  is_image = is;
  color = s.color;
  is_color = s.is_color;
  whole = s.whole;
  shows = λ x y sample xl yl sl. s.shows x y sample xl yl sl ∙ same x y sample xl yl sl;
}
