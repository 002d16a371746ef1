use Rattle.std.proofs.Common.{◌%◌, ap, ◌∙◌}
use Rattle.std.proofs.Math.Nat.{mul-mod_left}
use Rattle.tiff_base.specs.Types.{type_size}
use Rattle.tiff_page.specs.Pixels.{numbers_in}
use Rattle.tiff_encode.specs.Chunks.{next_chunk_sample_count}
use Rattle.tiff_encode.proofs.StoredBytes.{strip_written}
use Rattle.tiff_encode.proofs.encoder.TiffEncoder.write_stored.Goals as goal

pub put_bytes-requires-clause-whole : goal.put_bytes-requires-clause-whole
put_bytes-requires-clause-whole g c =
    let size = type_size g.T.TiffValue.value_type in
    ap (λ n. n % size) c.bytes_out-part.ensures.count
    ∙ mul-mod_left (next_chunk_sample_count c.args.image.now) size

pub returns : goal.returns
returns g c =
    let size = type_size g.T.TiffValue.value_type in
    strip_written c.args.image.now (numbers_in size c.args.bytes.now) (numbers_in size c.bytes_out-part.result.now) c.args.written c.requires.plain.order c.bytes_out-part.ensures.part
    c.args.self.now c.put_bytes.new.self c.put_bytes.new.image c.put_bytes.result c.put_bytes.ensures
