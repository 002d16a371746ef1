use Rattle.tiff_base.specs.Windows.{file_of}
use Rattle.tiff_ffi.proofs.in_windows.page_plan_in.Given as goal

abbrev pub ghosts-plan_seen : goal.ghosts-plan_seen
ghosts-plan_seen g a = record { bytes = file_of g.file a.seen.now.seen }
