use Rattle.tiff_c.proofs.tiff_list_pages_in.Given as goal

abbrev pub ghost-list_pages_in : goal.ghost-list_pages_in
ghost-list_pages_in g a = g.file
