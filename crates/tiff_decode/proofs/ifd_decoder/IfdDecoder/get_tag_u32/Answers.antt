use Rattle.tiff_ifd.specs.Into.{into_u32}
use Rattle.tiff_decode.specs.Outcome.{get_tag_u32}
use Rattle.tiff_decode.proofs.Required.{converted_reading}
use Rattle.tiff_decode.proofs.ifd_decoder.IfdDecoder.get_tag_u32.Goals as goal

pub returns-clause-read : goal.returns-clause-read
unfolding get_tag_u32
returns-clause-read g c =
    converted_reading ⊥ _ _ into_u32 c.args.tag _ c.into_u32.result c.args.self.now _ c.in_ok-get_tag.ensures.read c.into_u32.ensures
