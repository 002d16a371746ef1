use Rattle.std.proofs.Common.{refl}
use Rattle.tiff_encode.specs.Machine.{OpenDirectory}
use Rattle.tiff_encode.specs.GivenValues.{Given}
use Rattle.tiff_encode.proofs.Rooms.{tag_set}
use Rattle.tiff_encode.proofs.encoder.TiffEncoder.set_tag.Goals as goal

pub returns : goal.returns
returns g c =
    let set =
    tag_set (λ (d : OpenDirectory). d) (λ (s d : OpenDirectory). d) (λ s d. refl) (λ s. refl) c.args.fields.now c.settle.new.self c.args.tag c.place_value-placed.result
    (Given (g.T.TiffValue.field_data c.args.value.now)) c.settle.result c.make_room-room.result c.is_made.result c.make_room-room.new.self c.args.self.now c.place_value-placed.new.self
    c.make_room-room.ensures.state c.make_room-room.ensures.room c.is_made.ensures c.place_value-placed.ensures.room c.place_value-placed.ensures.answer c.settle.ensures in
    record { stays = set.0; answer = set.1 }
