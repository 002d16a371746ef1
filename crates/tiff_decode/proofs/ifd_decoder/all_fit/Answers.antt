use Rattle.std.proofs.Common.{◌^◌, arith}
use Rattle.tiff_ifd.specs.lemmas.Fitted.{all_fit}
use Rattle.tiff_decode.proofs.ifd_decoder.all_fit.Goals as goal

pub returns : goal.returns
returns c =
    λ tag. all_fit tag (2 ^ 64) c.args.numbers.now (λ i. omega (arith, c.type_inv.numbers i))
