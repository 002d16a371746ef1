use Rattle.tiff_decode.specs.Outcome.{read_chunk_bytes}
use Rattle.tiff_ffi.proofs.Slices.{gone, source_stays}
use Rattle.tiff_ffi.proofs.calls.chunk_here.Goals as goal

pub returns-clause-stays : goal.returns-clause-stays
unfolding read_chunk_bytes
returns-clause-stays c =
    gone _ (read_chunk_bytes c.args.decoder.now c.args.chunk c.args.buffer.now) c.read_chunk_bytes-answer.result c.args.decoder.now c.read_chunk_bytes-answer.new.self
    c.read_chunk_bytes-answer.ensures.follows c.never_failed.ensures c.never_failed-2.ensures

pub returns-clause-source : goal.returns-clause-source
unfolding read_chunk_bytes
returns-clause-source c =
    source_stays _ (read_chunk_bytes c.args.decoder.now c.args.chunk c.args.buffer.now) c.read_chunk_bytes-answer.result c.args.decoder.now c.read_chunk_bytes-answer.new.self
    c.read_chunk_bytes-answer.ensures.follows
