use Rattle.std.proofs.Common.{◌≡◌, ap, subst, ◌∙◌}
use Rattle.tiff_encode.specs.declared.encoder.directory.state.Room.{Room}
use Rattle.tiff_encode.specs.Calls.{without_field}
use Rattle.tiff_encode.specs.Machine.{OpenDirectory}
use Rattle.tiff_encode.specs.Rooms.{IsRoomFor, with_room}
use Rattle.tiff_encode.proofs.Rooms.{room_left}
use Rattle.tiff_encode.proofs.encoder.directory.state.DirectoryState.give_up.Goals as goal

pub returns-in-Held : goal.returns-in-Held
returns-in-Held c d e is =
    c.remove.ensures
    ∙ ap (λ (s : OpenDirectory). without_field s c.args.tag) (subst (λ (r : Room). c.args.self.now
    ≡ with_room d c.args.tag r) c.in-Held.is e)
    ∙ room_left c.args.tag d (subst (λ (r : Room). IsRoomFor c.args.tag d r) c.in-Held.is is)
