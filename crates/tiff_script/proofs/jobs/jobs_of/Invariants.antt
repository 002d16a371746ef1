use Rattle.std.proofs.Common.{◌≡◌, length, drop}
use Rattle.std.specs.Str.Lines.{lines}
use Rattle.tiff_script.specs.Jobs.{jobs_from, lines_held, no_lines}
use Rattle.tiff_script.proofs.jobs.jobs_of.Given as goal

abbrev pub invariant-loop-line : goal.invariant-loop-line
invariant-loop-line l =
    jobs_from l.number (lines_held l.list) (drop (length l.yielded) (lines l.text))
    ≡ jobs_from 1 no_lines (lines l.text)
