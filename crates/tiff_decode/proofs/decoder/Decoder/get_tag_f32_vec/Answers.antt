use Rattle.tiff_ifd.specs.Into.{into_f32_vec}
use Rattle.tiff_decode.specs.Outcome.{get_tag_f32_vec}
use Rattle.tiff_decode.proofs.Required.{converted_read}
use Rattle.tiff_decode.proofs.decoder.Decoder.get_tag_f32_vec.Goals as goal

pub returns-clause-read : goal.returns-clause-read
unfolding get_tag_f32_vec
returns-clause-read g c =
    converted_read (Unit {0}) _ _ into_f32_vec c.args.tag _ c.into_f32_vec.result c.args.self.now _ c.in_ok-get_tag.ensures.read c.into_f32_vec.ensures
