use Rattle.tiff_pages.specs.OfFile.{list_of}
use Rattle.tiff_ffi.specs.List.{ListTells}
use Rattle.tiff_base.specs.Windows.{file_of}
use Rattle.tiff_ffi.proofs.SeenFiles.{tells_of}
use Rattle.tiff_ffi.proofs.in_windows.list_pages_in.Goals as goal

pub returns-in-Ok : goal.returns-in-Ok
returns-in-Ok g c =
    λ of. tells_of c.args.seen.now c.in-Some.windows.seen g.file c.tell_pages.result c.args.wanted.now _
    (λ file. ListTells (list_of file) c.tell_pages.result c.args.out.now c.tell_pages.new.out c.tell_pages.new.count)
    (c.in-Some.ensures).order of (c.tell_pages.ensures (list_of (file_of g.file c.in-Some.windows.seen)) c.in-Ok.ensures)
