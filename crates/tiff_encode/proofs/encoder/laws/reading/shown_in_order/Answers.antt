use Rattle.tiff_encode.proofs.ReadsBack.Written.{shown_in_order}
use Rattle.tiff_encode.proofs.encoder.laws.reading.shown_in_order.Goals as goal

pub returns : goal.returns
returns c = shown_in_order
