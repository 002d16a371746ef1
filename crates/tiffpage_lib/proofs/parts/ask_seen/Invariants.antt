use Rattle.tiff_base.specs.Windows.{file_of}
use Rattle.tiffpage_lib.proofs.parts.ask_seen.Given as goal

abbrev pub ghosts-follow_links : goal.ghosts-follow_links
ghosts-follow_links g a = record { bytes = file_of g.S.SeenFile.bytes a.seen.now.seen }
