use Rattle.std.proofs.Common.{rules}
use Rattle.tiff_ffi.specs.Plan.{read_planned_chunk}
use Rattle.tiff_ffi.specs.Status.{StatusTells}
use Rattle.tiff_base.specs.Windows.{file_of}
use Rattle.tiff_ffi.proofs.StatusTells.{tells_left}
use Rattle.tiff_ffi.proofs.SeenFiles.{tells_of}
use Rattle.tiff_ffi.proofs.in_windows.read_planned_chunk_in.Goals as goal

pub returns-in-Ok : goal.returns-in-Ok
returns-in-Ok g c =
    λ of. tells_of c.args.seen.now c.in-Some.windows.seen g.file c.unit_status.result c.args.wanted.now _
    (λ file. StatusTells (read_planned_chunk file c.args.plan.now c.args.chunk c.args.buffer.now) c.unit_status.result c.planned_seen.new.buffer)
    (c.in-Some.ensures).order of
    (tells_left (λ _. c.planned_seen.new.buffer) c.in-Ok.read (read_planned_chunk (file_of g.file c.in-Some.windows.seen) c.args.plan.now c.args.chunk c.args.buffer.now) c.unit_status.result
    c.planned_seen.new.buffer c.in-Ok.ensures c.unit_status.ensures (search rules))
