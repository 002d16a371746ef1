use Rattle.std.proofs.Common.{◌≡◌, ◌+◌, ◌*◌, ◌++◌, map}
use Rattle.std.specs.Prelude.{slice_index}
use Rattle.tiff_base.specs.Types.{type_size}
use Rattle.tiff_page.specs.Pixels.{tabulate}
use Rattle.tiff_value.specs.ColorType.{sample_number}
use Rattle.tiff_encode.proofs.encoder.image.data.push_plane.Given as goal

abbrev pub invariant-loop-column : goal.invariant-loop-column
invariant-loop-column g l =
    let number = sample_number (type_size g.T.TiffValue.value_type) g.T.Sample.bits in
    map number l.out.items ≡ map number l.fn.out.items
    ++ tabulate l.column (λ column. slice_index (map number l.pixels) (column * l.samples
    + l.plane))
