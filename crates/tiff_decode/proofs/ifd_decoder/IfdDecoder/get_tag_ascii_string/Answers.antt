use Rattle.tiff_ifd.specs.Into.{into_string}
use Rattle.tiff_decode.specs.Outcome.{get_tag_ascii_string}
use Rattle.tiff_decode.proofs.Required.{converted_reading}
use Rattle.tiff_decode.proofs.ifd_decoder.IfdDecoder.get_tag_ascii_string.Goals as goal

pub returns-clause-read : goal.returns-clause-read
unfolding get_tag_ascii_string
returns-clause-read g c =
    converted_reading ⊥ _ _ into_string c.args.tag _ c.into_string.result c.args.self.now _ c.in_ok-get_tag.ensures.read c.into_string.ensures
