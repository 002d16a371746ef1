use Rattle.tiff_ffi.proofs.Delivered.{kept_around}
use Rattle.tiff_ffi.proofs.image_frame.Goals as goal

pub returns-clause-stays : goal.returns-clause-stays
returns-clause-stays c =
    kept_around c.args.samples.now c.write_new.result c.put_file_around.result c.args.buffer.now c.put_file_around.new.buffer c.args.frame.now c.put_file_around.new.lengths
    (c.write_new.ensures).around c.put_file_around.ensures
