use Rattle.std.proofs.Common.{rules}
use Rattle.tiff_encode.specs.JobValues.{given_in}
use Rattle.tiff_encode.proofs.Rooms.{sets_tag}
use Rattle.tiff_encode.proofs.encoder.directory.encoder.DirectoryEncoder.write_job_tag.Goals as goal

pub returns : goal.returns
returns g c =
    search (
      rules,
      sets_tag g.D.HasDirectory.open_directory g.D.HasDirectory.with_directory g.met.D.HasDirectory.given_directory g.met.D.HasDirectory.with_its_own c.args.self.now.state c.settle.new.self c.args.tag c.place_job-placed.result (given_in c.args.field) c.settle.result c.make_room-room.result c.is_made.result c.make_room-room.new.self c.args.self.now.encoder.now c.place_job-placed.new.self
          c.make_room-room.ensures.state c.make_room-room.ensures.room c.is_made.ensures c.place_job-placed.ensures.room c.place_job-placed.ensures.answer (c.place_job-placed.ensures.leaves) c.settle.ensures,
    )
