use Rattle.tiff_page.specs.lemmas.PassedChecks.{passed_checks}
use Rattle.tiff_page.proofs.laws.page_has_passed.Goals as goal

pub returns : goal.returns
returns c = passed_checks
