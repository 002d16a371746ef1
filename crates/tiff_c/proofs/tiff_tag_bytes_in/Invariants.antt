use Rattle.tiff_c.proofs.tiff_tag_bytes_in.Given as goal

abbrev pub ghost-tag_bytes_in : goal.ghost-tag_bytes_in
ghost-tag_bytes_in g a = g.file
