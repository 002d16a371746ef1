use Rattle.tiff_c.proofs.tiff_page_plan_in.Given as goal

abbrev pub ghost-page_plan_in : goal.ghost-page_plan_in
ghost-page_plan_in g a = g.file
