use Rattle.std.proofs.Common.{rules, ◌≡◌, subst, sym}
use Rattle.tiff_base.specs.Types.{type_size}
use Rattle.tiff_encode.specs.declared.encoder.image.chunks.ImageSamples.TheVariants.{Typed, Stored}
use Rattle.tiff_encode.specs.Given.{given_numbers}
use Rattle.tiff_encode.specs.ImageData.{AreNumbers}
use Rattle.tiff_encode.specs.lemmas.NumbersIn.{numbers_small}
use Rattle.tiff_encode.specs.lemmas.Samples.{are_numbers}
use Rattle.tiff_encode.specs.lemmas.Shown.Color.{size_of_type}
use Rattle.tiff_encode.proofs.encoder.image.chunks.ImageSamples.fact_numbers.Goals as goal

pub returns-in-Typed : goal.returns-in-Typed
returns-in-Typed g c =
    let size = type_size g.S.TiffValue.value_type in
    let is : c.args.self ≡ Typed c.in-Typed._samples = first_of (search rules, cc) in
    subst (λ s. AreNumbers size (given_numbers size g.S.Sample.bits s)) (sym is)
    (are_numbers size g.S.Sample.bits c.in-Typed._samples.now)

pub returns-in-Stored : goal.returns-in-Stored
returns-in-Stored g c =
    let size = type_size g.S.TiffValue.value_type in
    let is : c.args.self ≡ Stored c.in-Stored.bytes = first_of (search rules, cc) in
    subst (λ s. AreNumbers size (given_numbers size g.S.Sample.bits s)) (sym is)
    (numbers_small size c.in-Stored.bytes.now (size_of_type g.S.TiffValue.value_type) c.fact_octets.ensures)
