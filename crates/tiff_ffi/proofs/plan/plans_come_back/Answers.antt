use Rattle.tiff_ffi.proofs.Plans.{plans_come_back}
use Rattle.tiff_ffi.proofs.plan.plans_come_back.Goals as goal

pub returns : goal.returns
returns c = plans_come_back c.names_come_back.ensures
