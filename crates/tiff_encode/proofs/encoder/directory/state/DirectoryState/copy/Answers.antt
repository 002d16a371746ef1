use Rattle.std.proofs.Common.{ap}
use Rattle.tiff_encode.specs.Machine.{OpenDirectory}
use Rattle.tiff_encode.proofs.Settings.{copied}
use Rattle.tiff_encode.proofs.encoder.directory.state.DirectoryState.copy.Goals as goal

pub returns : goal.returns
returns c =
    let inside = c.self.inside in
    let d : OpenDirectory =
    record { fields = inside.directory.entries; parent = inside.parent; chained = inside.chained } in
    copied d c.args.self.now c.extend_from.new.self c.empty.result.entries c.self.view_is
    (ap (λ x. x.entries) c.empty.ensures) c.in_ok-extend_from.ensures.set
