use Rattle.std.proofs.Common.{◌≡◌, ◌*◌, map}
use Rattle.tiff_base.specs.Types.{type_size}
use Rattle.tiff_page.specs.Pixels.{tabulate}
use Rattle.tiff_value.specs.ColorType.{sample_number}
use Rattle.tiff_encode.specs.Chunks.{image_page, row_samples}
use Rattle.tiff_encode.specs.lemmas.Data.Cut.{by_row}
use Rattle.tiff_encode.proofs.encoder.image.state.ImageState.cut_out.Given as goal

-- the first rows are cut out
abbrev pub invariant-loop-at : goal.invariant-loop-at
invariant-loop-at g l =
    let number = sample_number (type_size g.T.TiffValue.value_type) g.T.Sample.bits in
    let p = image_page l.self in
    map number l.out.items ≡ tabulate (l.at * row_samples p) (by_row p (map number l.samples) l.chunk)
