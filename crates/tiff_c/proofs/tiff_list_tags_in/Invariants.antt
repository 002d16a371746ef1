use Rattle.tiff_c.proofs.tiff_list_tags_in.Given as goal

abbrev pub ghost-list_tags_in : goal.ghost-list_tags_in
ghost-list_tags_in g a = g.file
