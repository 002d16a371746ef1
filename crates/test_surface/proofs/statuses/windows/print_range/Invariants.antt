use Rattle.std.proofs.Common.{[]}
use Rattle.test_surface.proofs.statuses.windows.print_range.Given as goal

abbrev pub ghost-read_planned_chunks_in : goal.ghost-read_planned_chunks_in
ghost-read_planned_chunks_in a = []
