use Rattle.tiff_pages.specs.OfFile.{tree_of}
use Rattle.tiff_ffi.specs.Directories.{TreeTells}
use Rattle.tiff_base.specs.Windows.{file_of}
use Rattle.tiff_ffi.proofs.SeenFiles.{tells_of}
use Rattle.tiff_ffi.proofs.in_windows.list_directories_in.Goals as goal

pub returns-in-Ok : goal.returns-in-Ok
returns-in-Ok g c =
    λ of. tells_of c.args.seen.now c.in-Some.windows.seen g.file c.tell_directories.result c.args.wanted.now _
    (λ file. TreeTells (tree_of file) c.tell_directories.result c.args.out.now c.tell_directories.new.out c.tell_directories.new.count)
    (c.in-Some.ensures).order of (c.tell_directories.ensures (tree_of (file_of g.file c.in-Some.windows.seen)) c.in-Ok.ensures)
