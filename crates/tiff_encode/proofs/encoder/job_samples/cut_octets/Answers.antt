use Rattle.std.proofs.Common.{map}
use Rattle.tiff_base.specs.Types.{type_size}
use Rattle.tiff_value.specs.ColorType.{sample_number}
use Rattle.tiff_encode.specs.lemmas.JobSamples.{octets_are}
use Rattle.tiff_encode.proofs.encoder.job_samples.cut_octets.Goals as goal

pub returns-in-Some : goal.returns-in-Some
returns-in-Some g c =
    let size = type_size g.S.TiffValue.value_type in
    octets_are size c.args.bytes.now (map (sample_number size g.S.Sample.bits) c.in-Some.samples.now) c.in-Some.ensures.0 c.in-Some.ensures.1 c.type_inv.bytes
