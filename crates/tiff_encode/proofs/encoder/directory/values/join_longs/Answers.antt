use Rattle.tiff_encode.proofs.Tagging.{joined_longs}
use Rattle.tiff_encode.proofs.encoder.directory.values.join_longs.Goals as goal

pub returns : goal.returns
returns c =
    joined_longs c.args.a c.args.b c.copy_from_slice.new.self c.copy_from_slice-2.new.self c.copy_from_slice.ensures.len c.copy_from_slice.ensures.after
    c.copy_from_slice-2.ensures.after
