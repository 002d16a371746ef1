use Rattle.tiff_base.specs.Windows.{file_of}
use Rattle.tiff_ffi.proofs.in_windows.read_planned_chunk_in.Given as goal

abbrev pub ghosts-planned_seen : goal.ghosts-planned_seen
ghosts-planned_seen g a = record { bytes = file_of g.file a.seen.now.seen }
