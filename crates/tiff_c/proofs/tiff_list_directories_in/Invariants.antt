use Rattle.tiff_c.proofs.tiff_list_directories_in.Given as goal

abbrev pub ghost-list_directories_in : goal.ghost-list_directories_in
ghost-list_directories_in g a = g.file
