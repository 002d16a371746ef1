use Rattle.tiff_base.specs.Windows.{file_of}
use Rattle.tiff_ffi.proofs.in_windows.read_planned_chunks_in.Given as goal

abbrev pub ghosts-range_seen : goal.ghosts-range_seen
ghosts-range_seen g a = record { bytes = file_of g.file a.seen.now.seen }
