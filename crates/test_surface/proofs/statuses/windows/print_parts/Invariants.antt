use Rattle.std.proofs.Common.{[]}
use Rattle.test_surface.proofs.statuses.windows.print_parts.Given as goal

abbrev pub ghost-page_plan_in : goal.ghost-page_plan_in
ghost-page_plan_in a = []

abbrev pub ghost-read_planned_chunk_in : goal.ghost-read_planned_chunk_in
ghost-read_planned_chunk_in a = []
