use Rattle.std.proofs.Common.{rules}
use Rattle.tiff_encode.specs.GivenValues.{Given}
use Rattle.tiff_encode.proofs.Guarding.{entry_leaves}
use Rattle.tiff_encode.proofs.Rooms.{sets_tag}
use Rattle.tiff_encode.proofs.encoder.directory.encoder.DirectoryEncoder.write_tag.Goals as goal

pub returns : goal.returns
returns g c =
    search (
      rules,
      sets_tag g.D.HasDirectory.open_directory g.D.HasDirectory.with_directory g.met.D.HasDirectory.given_directory g.met.D.HasDirectory.with_its_own c.args.self.now.state c.settle.new.self c.args.tag c.place_value-placed.result (Given (g.T.TiffValue.field_data c.args.value)) c.settle.result c.make_room-room.result c.is_made.result c.make_room-room.new.self c.args.self.now.encoder.now c.place_value-placed.new.self
          c.make_room-room.ensures.state c.make_room-room.ensures.room c.is_made.ensures c.place_value-placed.ensures.room c.place_value-placed.ensures.answer (λ m s. entry_leaves (Given (g.T.TiffValue.field_data c.args.value)) c.place_value-placed.result c.args.self.now.encoder.now c.place_value-placed.new.self m (g.T.TiffValue.value_type, (g.T.TiffValue.value_count c.args.value, g.met.T.TiffValue.sized c.args.value)) c.fact_fits.ensures c.place_value-placed.ensures.answer s) c.settle.ensures,
    )
