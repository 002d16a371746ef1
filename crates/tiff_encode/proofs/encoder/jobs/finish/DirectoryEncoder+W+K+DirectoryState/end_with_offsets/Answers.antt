use Rattle.std.proofs.Common.{ap, sym}
use Rattle.std.proofs.lemmas.Result.{err_from_is_err_and}
use Rattle.tiff_encode.proofs.Running.Ends.{directory_ending, offsets_told, offsets_failed}
use Rattle.tiff_encode.proofs.encoder.jobs.finish.DirectoryEncoder+W+K+DirectoryState.end_with_offsets.Goals as goal

pub returns : goal.returns
returns g c =
    offsets_told c.args.self.state c.args.self.encoder.now c.finish_with_offsets.new.self.0
    (directory_ending c.args.self.state c.args.self.encoder.now c.finish_with_offsets.new.self.0 c.fact_fits-2.ensures.entries c.fact_fits-2.ensures.few c.fact_fits.ensures)
    c.in_ok-offsets.offsets c.offsets.inside.pointer.0 c.link.result
    (sym (ap (λ o. o.pointer) c.offsets.view_is)) (sym c.link.ensures) c.in_ok-offsets.ensures.answer

pub returns-in_err-offsets : goal.returns-in_err-offsets
returns-in_err-offsets g c =
    let p = err_from_is_err_and c.from_residual.result c.from_residual.ensures.1 in
    rw (p.1, p.2) (offsets_failed c.args.self.state c.args.self.encoder.now c.finish_with_offsets.new.self.0
    (directory_ending c.args.self.state c.args.self.encoder.now c.finish_with_offsets.new.self.0 c.fact_fits-2.ensures.entries c.fact_fits-2.ensures.few c.fact_fits.ensures)
    c.in_err-offsets.field-0.0 c.in_err-offsets.ensures.answer)
