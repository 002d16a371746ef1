use Rattle.std.proofs.Common.{rules, ◌≡◌, ◌≤◌, length, subst}
use Rattle.tiff_base.specs.Types.{type_size}
use Rattle.tiff_page.specs.Pixels.{numbers_in}
use Rattle.tiff_encode.specs.declared.encoder.image.chunks.ImageSamples.TheVariants.{Stored}
use Rattle.tiff_encode.specs.Causes.{image_samples}
use Rattle.tiff_encode.specs.Given.{given_numbers, AreStorable}
use Rattle.tiff_encode.specs.lemmas.NumbersIn.{bytes_enough}
use Rattle.tiff_encode.proofs.encoder.TiffEncoder.write_part.Goals as goal

pub write_stored-requires-clause-whole : goal.write_stored-requires-clause-whole
write_stored-requires-clause-whole g c =
    let size = type_size g.T.TiffValue.value_type in
    let i = c.args.image.now in
    let bytes = c.in-Stored.bytes in
    let is : c.args.samples ≡ Stored bytes = first_of (search rules, cc) in
    let many : image_samples i ≤ length (numbers_in size bytes.now) =
    subst (λ s. image_samples i ≤ length (given_numbers size g.T.Sample.bits s)) is c.requires.whole in
    let storable = subst (λ s. AreStorable size i s) is c.requires.storable in
    bytes_enough size (image_samples i) bytes.now storable.1 many
