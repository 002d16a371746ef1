use Rattle.tiff_base.specs.Windows.{file_of}
use Rattle.tiffpage_lib.proofs.in_parts.WhichImageQuestion.ask.Given as goal

abbrev pub ghosts-check_seen : goal.ghosts-check_seen
ghosts-check_seen g a = record { bytes = file_of g.S.SeenFile.bytes a.seen.now.seen }
