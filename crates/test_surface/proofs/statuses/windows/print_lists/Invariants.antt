use Rattle.std.proofs.Common.{[]}
use Rattle.test_surface.proofs.statuses.windows.print_lists.Given as goal

abbrev pub ghost-list_pages_in : goal.ghost-list_pages_in
ghost-list_pages_in a = []

abbrev pub ghost-list_directories_in : goal.ghost-list_directories_in
ghost-list_directories_in a = []
