use Rattle.tiff_ffi.proofs.plan.bytes_fit.Goals as goal

pub returns : goal.returns
returns g c = g.met.R.Source.offsets c.args.source.now
