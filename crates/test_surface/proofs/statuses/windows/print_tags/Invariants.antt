use Rattle.std.proofs.Common.{[]}
use Rattle.test_surface.proofs.statuses.windows.print_tags.Given as goal

abbrev pub ghost-list_tags_in : goal.ghost-list_tags_in
ghost-list_tags_in a = []

abbrev pub ghost-tag_bytes_in : goal.ghost-tag_bytes_in
ghost-tag_bytes_in a = []
