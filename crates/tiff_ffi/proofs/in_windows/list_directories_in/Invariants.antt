use Rattle.tiff_base.specs.Windows.{file_of}
use Rattle.tiff_ffi.proofs.in_windows.list_directories_in.Given as goal

abbrev pub ghosts-directories_seen : goal.ghosts-directories_seen
ghosts-directories_seen g a = record { bytes = file_of g.file a.seen.now.seen }
