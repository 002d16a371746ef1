use Rattle.std.proofs.lemmas.Result.{err_from_is_err_and}
use Rattle.tiff_encode.specs.Calls.{finish}
use Rattle.tiff_encode.proofs.Running.Ends.{directory_ending, Nothing_held, silently_told, silently_failed}
use Rattle.tiff_encode.proofs.encoder.jobs.finish.DirectoryEncoder+W+K+DirectoryState.end_silently.Goals as goal

pub returns : goal.returns
returns g c =
    silently_told (finish c.args.self.state) Nothing_held c.args.self.state.parent c.args.self.encoder.now c.discard.new.self.0
    (directory_ending c.args.self.state c.args.self.encoder.now c.discard.new.self.0 c.fact_fits-2.ensures.entries c.fact_fits-2.ensures.few c.fact_fits.ensures)
    c.in_ok-discard.ensures.answer.0 c.in_ok-discard.ensures.answer.1 (λ m. tt)

pub returns-in_err-discard : goal.returns-in_err-discard
returns-in_err-discard g c =
    let p = err_from_is_err_and c.from_residual.result c.from_residual.ensures.1 in
    rw (p.1, p.2) (silently_failed (finish c.args.self.state) Nothing_held c.args.self.state.parent c.args.self.encoder.now c.discard.new.self.0
    (directory_ending c.args.self.state c.args.self.encoder.now c.discard.new.self.0 c.fact_fits-2.ensures.entries c.fact_fits-2.ensures.few c.fact_fits.ensures)
    c.in_err-discard.field-0.0 c.in_err-discard.ensures.answer (λ m n. tt))
