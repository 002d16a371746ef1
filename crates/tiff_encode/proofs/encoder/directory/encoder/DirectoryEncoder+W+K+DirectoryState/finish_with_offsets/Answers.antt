use Rattle.tiff_encode.specs.Calls.{Offsets}
use Rattle.tiff_encode.proofs.Guarding.{finish_left}
use Rattle.tiff_encode.proofs.encoder.directory.encoder.DirectoryEncoder+W+K+DirectoryState.finish_with_offsets.Goals as goal

pub returns-clause-answer : goal.returns-clause-answer
returns-clause-answer g c = c.finish_directory.ensures

pub returns-clause-leaves : goal.returns-clause-leaves
returns-clause-leaves g c m s p =
    let view : Offsets → Offsets = λ offsets. offsets in
    finish_left c.args.self.encoder.now c.finish_directory.new.self m c.args.self.state c.fact_fits-2.ensures.entries c.fact_fits-2.ensures.few c.fact_fits.ensures s p view c.finish_directory.result c.finish_directory.ensures
