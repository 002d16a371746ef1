use Rattle.std.proofs.Common.{rules}
use Rattle.tiff_encode.specs.GivenValues.{Lent}
use Rattle.tiff_encode.proofs.Guarding.{entry_leaves}
use Rattle.tiff_encode.proofs.Rooms.{sets_tag}
use Rattle.tiff_encode.proofs.encoder.directory.encoder.DirectoryEncoder.write_tag_buf.Goals as goal

pub returns : goal.returns
returns g c =
    search (
      rules,
      sets_tag g.D.HasDirectory.open_directory g.D.HasDirectory.with_directory g.met.D.HasDirectory.given_directory g.met.D.HasDirectory.with_its_own c.args.self.now.state c.settle.new.self c.args.tag c.place_buffer-placed.result (Lent c.args.buffer.now) c.settle.result c.make_room-room.result c.is_made.result c.make_room-room.new.self c.args.self.now.encoder.now c.place_buffer-placed.new.self
          c.make_room-room.ensures.state c.make_room-room.ensures.room c.is_made.ensures c.place_buffer-placed.ensures.room c.place_buffer-placed.ensures.answer (λ m s. entry_leaves (Lent c.args.buffer.now) c.place_buffer-placed.result c.args.self.now.encoder.now c.place_buffer-placed.new.self m c.fits_short.ensures c.fact_fits.ensures c.place_buffer-placed.ensures.answer s) c.settle.ensures,
    )
