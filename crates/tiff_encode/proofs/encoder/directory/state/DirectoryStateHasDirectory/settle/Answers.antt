use Rattle.std.proofs.Common.{◌≡◌, true, false, ℕ, IfOk, Result, ap, sym, subst, ◌∙◌}
use Rattle.std.specs.FinMap.{contains_key, insert}
use Rattle.tiff_base.specs.declared.error.TiffError.{TiffError}
use Rattle.tiff_base.specs.Field.{Field}
use Rattle.tiff_base.specs.Tags.{tag_number}
use Rattle.tiff_encode.specs.Calls.{with_field}
use Rattle.tiff_encode.specs.Machine.{OpenDirectory}
use Rattle.tiff_encode.specs.Rooms.{is_made}
use Rattle.tiff_encode.proofs.Rooms.{room_set, room_there}
use Rattle.tiff_encode.proofs.encoder.directory.state.DirectoryStateHasDirectory.settle.Goals as goal

pub returns-in-Ok-insert : goal.returns-in-Ok-insert
returns-in-Ok-insert c s e is made =
    let inside = c.self.inside in
    let number : ℕ = tag_number c.args.tag in
    let entry : Field = c.in-Ok.entry in
    let fields : c.insert.new.self.entries ≡ insert inside.directory.entries number entry =
    ap (λ d. d.entries) c.in-Ok-insert.ensures.ok
    ∙ ap (λ (n : ℕ). insert inside.directory.entries n entry) c.to_u16.ensures in (
      entry,
      (
        c.in-Ok.is,
        (λ k. record { fields = fields k; parent = inside.parent; chained = inside.chained })
            ∙ ap (λ (d : OpenDirectory). with_field d c.args.tag entry) (c.self.view_is ∙ e)
            ∙ room_set c.args.tag s c.args.room entry,
      ),
    )

pub returns-in-Err-insert : goal.returns-in-Err-insert
returns-in-Err-insert c s e is made =
    let has_room : is_made c.args.room ≡ true =
    subst (λ (p : Result Field TiffError). IfOk p (λ _. is_made c.args.room
    ≡ true)) c.in-Ok.is made in
    let there : contains_key c.self.inside.directory.entries (tag_number c.args.tag) ≡ true =
    subst (λ (d : OpenDirectory). contains_key d.fields (tag_number c.args.tag)
    ≡ true) (sym (c.self.view_is ∙ e))
    (room_there c.args.tag s c.args.room is has_room) in
    let no : false ≡ true =
    c.in-Err-insert.ensures.there
    (subst (λ (n : ℕ). contains_key c.self.inside.directory.entries n
    ≡ true) (sym c.to_u16.ensures) there) in
    cc
