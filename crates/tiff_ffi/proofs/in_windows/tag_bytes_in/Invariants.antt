use Rattle.tiff_base.specs.Windows.{file_of}
use Rattle.tiff_ffi.proofs.in_windows.tag_bytes_in.Given as goal

abbrev pub ghosts-bytes_seen : goal.ghosts-bytes_seen
ghosts-bytes_seen g a = record { bytes = file_of g.file a.seen.now.seen }
