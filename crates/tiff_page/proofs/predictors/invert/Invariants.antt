use Rattle.std.proofs.Common.{◌*◌}
use Rattle.tiff_page.specs.lemmas.Rows.{Upto}
use Rattle.tiff_page.proofs.predictors.invert.Given as goal

abbrev pub invariant-parts : goal.invariant-parts
invariant-parts l = Upto (l.k * 16) l.initial.row l.row

abbrev pub invariant-rest : goal.invariant-rest
invariant-rest l = Upto l.i l.fn.row l.row
