use Rattle.tiffpage_lib.proofs.program.samples_by.Goals as goal

pub returns-then-planes : goal.returns-then-planes
returns-then-planes c = rw c.if-planes.true c.page_planes.ensures

pub returns-else-planes : goal.returns-else-planes
returns-else-planes c = rw c.if-planes.false c.page_samples.ensures
