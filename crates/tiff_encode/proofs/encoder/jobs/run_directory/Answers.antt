use Rattle.std.proofs.Common.{rules, refl}
use Rattle.tiff_encode.proofs.Running.Steps.{directory_runs, directory_refused}
use Rattle.tiff_encode.proofs.encoder.jobs.run_directory.Goals as goal

pub returns-in-Ok : goal.returns-in-Ok
returns-in-Ok g c = λ kind known run parent q s named l.
    let begin = c.begin_directory in
    directory_runs c.args.parent c.args.job.now c.lead_directory.result c.args.encoder.now begin.new.self c.lead_directory.new.encoder _ c.in-Ok.state c.link_from.new.self known run parent
    (record { told = c.in-Ok.ensures.answer; leaves = c.in-Ok.ensures.leaves }) c.link_from.ensures c.lead_directory.ensures (search rules) kind q s named l

pub returns-in-Err : goal.returns-in-Err
returns-in-Err g c = λ kind known run parent q s named l.
    directory_refused c.args.job.now _ c.in-Err.fault c.args.encoder.now c.begin_directory.new.self known run parent
    (record { fails = c.in-Err.ensures.answer; leaves = c.in-Err.ensures.leaves }) (c.requires.0, refl) q s
