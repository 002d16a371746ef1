use Rattle.std.proofs.Common.{map, arith}
use Rattle.tiff_base.specs.Types.{type_size}
use Rattle.tiff_value.specs.ColorType.{sample_number}
use Rattle.tiff_encode.proofs.Data.Image.{image_leaves_by}
use Rattle.tiff_encode.specs.lemmas.Shown.Parts.{parts_show}
use Rattle.tiff_encode.specs.lemmas.Samples.{are_numbers}
use Rattle.tiff_encode.proofs.encoder.TiffEncoder.write_image.Goals as goal

pub returns-clause-leaves : goal.returns-clause-leaves
returns-clause-leaves g c m s l =
    image_leaves_by parts_show g.C.ColorType.described (type_size g.C.Inner.TiffValue.value_type) c.args.width c.args.height (map (sample_number (type_size g.C.Inner.TiffValue.value_type) g.C.Inner.Sample.bits) c.args.samples.now)
    c.write_new_image-answer.result c.args.self.now c.write_new_image-answer.new.self m
    (omega arith) (omega arith)
    (are_numbers (type_size g.C.Inner.TiffValue.value_type) g.C.Inner.Sample.bits c.args.samples.now) c.fact_short.ensures s l c.write_new_image-answer.ensures
