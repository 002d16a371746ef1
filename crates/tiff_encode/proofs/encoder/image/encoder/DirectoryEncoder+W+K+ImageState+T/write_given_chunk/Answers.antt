use Rattle.tiff_base.specs.Types.{type_size}
use Rattle.tiff_encode.specs.Causes.{write_chunk_cause}
use Rattle.tiff_encode.specs.Given.{given_count, given_numbers}
use Rattle.tiff_encode.proofs.Data.Strips.{chunk_left}
use Rattle.tiff_encode.proofs.encoder.image.encoder.DirectoryEncoder+W+K+ImageState+T.write_given_chunk.Goals as goal

pub returns-clause-leaves : goal.returns-clause-leaves
returns-clause-leaves g c m s =
    let size = type_size g.T.TiffValue.value_type in
    chunk_left c.args.self.now.state (given_numbers size g.T.Sample.bits c.args.samples) c.args.self.now.encoder.now c.store_chunk-done.new.self c.store_chunk-done.new.image m
    (write_chunk_cause c.args.self.now.encoder.now c.args.self.now.state (given_count size c.args.samples) 0) c.store_chunk-done.result c.fact_fits.ensures c.fact_short.ensures s c.store_chunk-done.ensures
