use Rattle.tiff_base.specs.Windows.{file_of}
use Rattle.tiff_ffi.proofs.in_windows.list_pages_in.Given as goal

abbrev pub ghosts-pages_seen : goal.ghosts-pages_seen
ghosts-pages_seen g a = record { bytes = file_of g.file a.seen.now.seen }
