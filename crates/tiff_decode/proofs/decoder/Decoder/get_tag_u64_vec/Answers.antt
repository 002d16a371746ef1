use Rattle.tiff_ifd.specs.Into.{into_u64_vec}
use Rattle.tiff_decode.specs.Outcome.{get_tag_u64_vec}
use Rattle.tiff_decode.proofs.Required.{converted_read}
use Rattle.tiff_decode.proofs.decoder.Decoder.get_tag_u64_vec.Goals as goal

pub returns-clause-read : goal.returns-clause-read
unfolding get_tag_u64_vec
returns-clause-read g c =
    converted_read (Unit {0}) _ _ into_u64_vec c.args.tag _ c.into_u64_vec.result c.args.self.now _ c.in_ok-get_tag.ensures.read c.into_u64_vec.ensures
