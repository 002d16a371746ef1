use Rattle.std.proofs.Common.{refl}
use Rattle.tiff_decode.specs.Outcome.{read_chunk_to_buffer}
use Rattle.tiff_decode.proofs.Refusing.{refused_here}
use Rattle.tiff_decode.proofs.decoder.Decoder.read_chunk_to_buffer.Goals as goal

pub returns-in_err-read-clause-follows : goal.returns-in_err-read-clause-follows
unfolding read_chunk_to_buffer
returns-in_err-read-clause-follows g c =
    refused_here _ _ c.in_err-read.field-0.0 (λ x. read_chunk_to_buffer x c.args.chunk_index c.args.output_width) _ _ _ (g.R.Source.contents c.read_chunk_to_buffer.new.source) (g.R.Source.failures c.read_chunk_to_buffer.new.source)
    c.from_residual.ensures.1 c.self.view_is refl c.in_err-read.ensures.kept.contents c.in_err-read.ensures.kept.failures c.in_err-read.ensures.kept.swallowed c.in_err-read.ensures.answer
