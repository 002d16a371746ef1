use Rattle.std.proofs.Common.{◌^◌, ◌%◌, ap, ◌∙◌}
use Rattle.std.proofs.Math.Nat.{zero-mod}
use Rattle.tiff_base.specs.Types.{type_size}
use Rattle.tiff_value.specs.ColorType.{sample_number}
use Rattle.tiff_encode.specs.lemmas.Data.Cut.{one_pushed}
use Rattle.tiff_encode.proofs.encoder.image.data.push_zeros.Goals as goal

pub loop-preserved : goal.loop-preserved
loop-preserved g c =
    let size = type_size g.T.TiffValue.value_type in
    let number = sample_number size g.T.Sample.bits in
    one_pushed number c.args.out.now.items c.loop.out.items c.push.new.self.items c.zero.result
    (λ _. 0) c.loop.counter c.loop.invariant c.in_ok-push.ensures.items
    (ap (λ n. n % 256 ^ size) c.zero.ensures ∙ zero-mod (256 ^ size))
