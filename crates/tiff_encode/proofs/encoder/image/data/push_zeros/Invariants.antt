use Rattle.std.proofs.Common.{◌≡◌, ◌++◌, map}
use Rattle.tiff_base.specs.Types.{type_size}
use Rattle.tiff_page.specs.Pixels.{tabulate}
use Rattle.tiff_value.specs.ColorType.{sample_number}
use Rattle.tiff_encode.proofs.encoder.image.data.push_zeros.Given as goal

abbrev pub invariant-loop : goal.invariant-loop
invariant-loop g l =
    let number = sample_number (type_size g.T.TiffValue.value_type) g.T.Sample.bits in
    map number l.out.items ≡ map number l.fn.out.items ++ tabulate l.counter (λ _. 0)
