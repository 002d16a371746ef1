use Rattle.tiff_base.specs.Types.{type_size}
use Rattle.tiff_encode.specs.Chunks.{parts_left}
use Rattle.tiff_encode.specs.Given.{given_numbers}
use Rattle.tiff_encode.proofs.Data.Written.{HasWritten}
use Rattle.tiff_encode.proofs.encoder.TiffEncoder.write_chunks_left.Given as goal

-- the first chunks are written
abbrev pub invariant-loop-written : goal.invariant-loop-written
invariant-loop-written g l =
    let numbers =
    given_numbers (type_size g.T.TiffValue.value_type) g.T.Sample.bits l.samples in
    HasWritten l.fn.image (parts_left l.fn.image numbers) l.written l.fn.self l.self l.image
