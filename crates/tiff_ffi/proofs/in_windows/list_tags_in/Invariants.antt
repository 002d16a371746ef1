use Rattle.tiff_base.specs.Windows.{file_of}
use Rattle.tiff_ffi.proofs.in_windows.list_tags_in.Given as goal

abbrev pub ghosts-entries_seen : goal.ghosts-entries_seen
ghosts-entries_seen g a = record { bytes = file_of g.file a.seen.now.seen }
