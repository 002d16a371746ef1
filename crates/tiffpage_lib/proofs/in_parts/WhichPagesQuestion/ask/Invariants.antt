use Rattle.tiff_base.specs.Windows.{file_of}
use Rattle.tiffpage_lib.proofs.in_parts.WhichPagesQuestion.ask.Given as goal

abbrev pub ghosts-pages_seen : goal.ghosts-pages_seen
ghosts-pages_seen g a = record { bytes = file_of g.S.SeenFile.bytes a.seen.now.seen }
