use Rattle.tiff_c.proofs.tiff_read_planned_chunks_in.Given as goal

abbrev pub ghost-read_planned_chunks_in : goal.ghost-read_planned_chunks_in
ghost-read_planned_chunks_in g a = g.file
