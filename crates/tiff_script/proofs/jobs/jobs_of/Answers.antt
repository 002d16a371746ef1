use Rattle.std.proofs.Common.{◌≡◌, length, map, arith}
use Rattle.std.proofs.lemmas.Iterator.Consumers.{YieldsList-end, YieldsList-turn}
use Rattle.std.proofs.lemmas.Iterator.Splits.{YieldsList-from_lines}
use Rattle.std.proofs.lemmas.List.{length_push}
use Rattle.std.specs.Str.Lines.{lines}
use Rattle.tiff_script.specs.Jobs.{job_held, jobs_spelled, lines_held, next}
use Rattle.tiff_script.proofs.Folds.{form_refused}
use Rattle.tiff_script.proofs.JobLines.{all_read, line_read, line_refused}
use Rattle.tiff_script.proofs.jobs.jobs_of.Goals as goal

pub loop-line-preserved : goal.loop-line-preserved
loop-line-preserved c =
    let t =
    YieldsList-turn (YieldsList-from_lines {s = c.into_iter-line-iterator.result} c.args.text.now (cc)) c.loop-line.yielded _ c.loop-line.yielded_by _ _ c.in-Some.line c.in-Some.is c.next.ensures.steps in
    let n : c.saturating_add-number.result ≡ next c.loop-line.number =
    c.saturating_add-number.ensures in
    rw (n, length_push c.loop-line.yielded c.in-Some.line) (line_read c.loop-line.number _ _ _ _ _ _ t c.loop-line.invariant c.in-Ok.ensures)

pub returns-in-Err-Form : goal.returns-in-Err-Form
unfolding jobs_spelled
returns-in-Err-Form c =
    let t =
    YieldsList-turn (YieldsList-from_lines {s = c.into_iter-line-iterator.result} c.args.text.now (cc)) c.loop-line.yielded _ c.loop-line.yielded_by _ _ c.in-Some.line c.in-Some.is c.next.ensures.steps in
    line_refused c.loop-line.number _ _ _ _ _ t c.loop-line.invariant
    (form_refused {A = Unit {0}} (λ _. lines_held c.take.new.self) _ _ c.in-Err-Form.ensures c.in-Err-Form.field-0-is)

pub returns : goal.returns
unfolding jobs_spelled lines_held
returns c =
    let e =
    YieldsList-end (YieldsList-from_lines {s = c.into_iter-line-iterator.result} c.args.text.now (cc)) c.loop-line.yielded _ c.loop-line.yielded_by _ _ c.in-None.is c.next.ensures.steps in
    let all =
    (all_read (λ jobs. map job_held jobs.items) c.loop-line.number (lines_held c.loop-line.list) (lines c.args.text.now) (length c.loop-line.yielded) _ c.all.result (omega (arith, e.1)) c.loop-line.invariant c.all.ensures) in
    rw c.ok_or.ensures.value all
