use Rattle.tiff_encode.proofs.Running.All.{jobs_run}
use Rattle.tiff_encode.proofs.encoder.script.run_new.Goals as goal

pub returns : goal.returns
returns g c =
    let contents = g.W.Sink.contents in
    let failures = g.W.Sink.failures in
    jobs_run g.K.TiffKind.kind (contents c.args.sink) (failures c.args.sink) c.args.jobs.now c.args.replies.now.items c.run_all.new.replies.items
    c.in_ok-encoder.encoder c.run_all.new.encoder (contents c.into_inner.result)
    (failures c.into_inner.result) c.in_ok-encoder.ensures.answer
    c.in_ok-encoder.ensures.leaves c.run_all.ensures c.into_inner.ensures.bytes c.into_inner.ensures.failures
