use Rattle.std.proofs.Common.{Ok, refl, ap, subst}
use Rattle.tiff_base.specs.declared.tags.Tag.{Tag}
use Rattle.tiff_value.specs.Data.{FieldData}
use Rattle.tiff_encode.specs.Calls.{write_tag}
use Rattle.tiff_encode.specs.Ends.{Ends}
use Rattle.tiff_encode.specs.Machine.{OpenDirectory}
use Rattle.tiff_encode.specs.GivenValues.{Given}
use Rattle.tiff_encode.proofs.Rooms.{tag_set}
use Rattle.tiff_encode.proofs.Tagging.{kept_ends}
use Rattle.tiff_encode.proofs.encoder.TiffEncoder.set_value.Goals as goal

pub returns : goal.returns
returns g c =
    let v = c.value.inside in
    let value : Tag × FieldData = c.args.value.now in
    let placed =
    kept_ends value v.tag v.field_type v.len v.bytes c.place_entry_bytes-placed.result c.args.self.now c.place_entry_bytes-placed.new.self c.value.invariant.0 c.value.told c.value.invariant.1 c.value.view_is c.place_entry_bytes-placed.ensures.answer in
    let set =
    tag_set (λ (d : OpenDirectory). d) (λ (s d : OpenDirectory). d) (λ s d. refl) (λ s. refl) c.args.fields.now c.settle.new.self v.tag c.place_entry_bytes-placed.result
    (Given (Ok value.1)) c.settle.result c.make_room-room.result c.is_made.result c.make_room-room.new.self c.args.self.now c.place_entry_bytes-placed.new.self
    c.make_room-room.ensures.state c.make_room-room.ensures.room c.is_made.ensures c.place_entry_bytes-placed.ensures.room placed c.settle.ensures in
    record {
      stays = set.0;
      answer =
          subst (λ t. Ends (λ _. c.settle.new.self) (write_tag c.args.fields.now t (Ok value.1) c.args.self.now) c.settle.result c.args.self.now c.place_entry_bytes-placed.new.self)
          (ap (λ x. x.0) c.value.view_is) set.1;
    }
