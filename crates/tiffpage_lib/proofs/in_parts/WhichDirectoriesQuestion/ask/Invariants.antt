use Rattle.tiff_base.specs.Windows.{file_of}
use Rattle.tiffpage_lib.proofs.in_parts.WhichDirectoriesQuestion.ask.Given as goal

abbrev pub ghosts-directories_seen : goal.ghosts-directories_seen
ghosts-directories_seen g a = record { bytes = file_of g.S.SeenFile.bytes a.seen.now.seen }
