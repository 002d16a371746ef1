-- A chunk's position in the image.
use Rattle.std.specs.Prelude.{ℕ, ◌+◌, ◌-◌, ◌*◌, ◌/◌, ◌%◌, min}
use Rattle.tiff_page.specs.Counts.{parts}
use Rattle.tiff_page.specs.Page.{PageRecord}

-- the number of chunks side by side, and the number of chunks of a plane
abbrev pub across : PageRecord → ℕ
across p = parts p.width p.chunk_width

abbrev pub chunks_of_plane : PageRecord → ℕ
chunks_of_plane p = across p * parts p.height p.chunk_height

pub record RectRecord : Type 0 where
  pub plane : ℕ
  pub x : ℕ
  pub y : ℕ
  pub width : ℕ
  pub height : ℕ

-- the rectangle of the j-th chunk of a plane, clipped to the image
abbrev pub rect_at : PageRecord → ℕ → ℕ → RectRecord
rect_at p plane j =
    record {
      plane = plane;
      x = j % across p * p.chunk_width;
      y = j / across p * p.chunk_height;
      width = min p.chunk_width (p.width - j % across p * p.chunk_width);
      height = min p.chunk_height (p.height - j / across p * p.chunk_height);
    }

-- the rectangle of a chunk by its index in all planes; the index counts modulo the chunks of a
-- plane
unfoldable pub rect : PageRecord → ℕ → RectRecord
rect p i = rect_at p (i / chunks_of_plane p) (i % chunks_of_plane p)

-- the width and the height of a chunk in the image
abbrev pub chunk_data_dimensions : PageRecord → ℕ → ℕ × ℕ
chunk_data_dimensions p i = ((rect p i).width, (rect p i).height)

-- the chunk of a plane that contains a pixel
abbrev pub chunk_of_pixel : PageRecord → ℕ → ℕ → ℕ → ℕ
chunk_of_pixel p plane x y =
    plane * chunks_of_plane p + (y / p.chunk_height * across p + x / p.chunk_width)
