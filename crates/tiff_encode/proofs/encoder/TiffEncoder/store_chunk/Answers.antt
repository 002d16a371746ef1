use Rattle.std.proofs.Common.{ap, sym, ◌∙◌}
use Rattle.tiff_base.specs.Types.{type_size}
use Rattle.tiff_encode.specs.Causes.{write_chunk_cause}
use Rattle.tiff_encode.specs.Given.{given_count, given_numbers}
use Rattle.tiff_encode.proofs.Storing.{chunk_counted, chunk_written}
use Rattle.tiff_encode.proofs.encoder.TiffEncoder.store_chunk.Goals as goal

pub put_given-requires-clause-next : goal.put_given-requires-clause-next
put_given-requires-clause-next g c =
    sym c.count.ensures.count
    ∙ chunk_counted c.args.self.now c.args.image.now c.count.result 0 c.in_ok-chunk_offset.ensures.2

pub returns : goal.returns
returns g c =
    let size = type_size g.T.TiffValue.value_type in
    let old = c.args.self.now in
    let i = c.args.image.now in
    chunk_written old i (given_numbers size g.T.Sample.bits c.args.samples) c.put_given.new.self c.put_given.new.image (given_count size c.args.samples) c.put_given.result
    (ap (λ n. write_chunk_cause old i n 0) (sym c.count.ensures.count) ∙ c.in_ok-chunk_offset.ensures.2) c.put_given.ensures
