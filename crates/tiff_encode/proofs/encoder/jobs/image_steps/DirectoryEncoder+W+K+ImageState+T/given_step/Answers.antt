use Rattle.std.proofs.Common.{sym, subst}
use Rattle.tiff_base.specs.Types.{type_size}
use Rattle.tiff_encode.specs.Calls.{write_chunk}
use Rattle.tiff_encode.specs.Causes.{write_chunk_cause}
use Rattle.tiff_encode.specs.Given.{given_count, given_numbers}
use Rattle.tiff_encode.specs.ImageStepping.{ChunkDraws}
use Rattle.tiff_encode.proofs.Image.StepsStored.{cut_draws, chunks_store}
use Rattle.tiff_encode.proofs.StoredBytes.{count_given}
use Rattle.tiff_encode.proofs.encoder.jobs.image_steps.DirectoryEncoder+W+K+ImageState+T.given_step.Goals as goal

pub returns-clause-draws : goal.returns-clause-draws
returns-clause-draws g c numbers cut few =
    let size = type_size g.T.TiffValue.value_type in
    let bits = g.T.Sample.bits in
    let i = c.args.self.now.state in
    let old = c.args.self.now.encoder.now in
    let new = c.write_given_chunk-answer.new.self in
    subst (λ y. ChunkDraws i numbers y old new.encoder.now new.state) (sym c.replied.ensures)
    (cut_draws write_chunk (λ file i n. write_chunk_cause file i n 0) chunks_store i new.state numbers (given_numbers size bits c.args.samples) (given_count size c.args.samples) c.write_given_chunk-answer.result old new.encoder.now cut
    (count_given size bits c.args.samples) few c.fact_short.ensures c.fact_short-2.ensures c.write_given_chunk-answer.ensures.answer c.write_given_chunk-answer.ensures.leaves)
