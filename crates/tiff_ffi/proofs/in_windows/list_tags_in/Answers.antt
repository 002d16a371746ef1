use Rattle.tiff_base.specs.Windows.{file_of}
use Rattle.tiff_ffi.specs.InWindows.{list_tags}
use Rattle.tiff_ffi.specs.Status.{StatusPuts}
use Rattle.tiff_ffi.proofs.StatusTells.{puts_both}
use Rattle.tiff_ffi.proofs.SeenFiles.{tells_of}
use Rattle.tiff_ffi.proofs.in_windows.list_tags_in.Goals as goal

pub returns-in-Ok : goal.returns-in-Ok
returns-in-Ok g c =
    let entries = c.args.entries.now in
    λ of. tells_of c.args.seen.now c.in-Some.windows.seen g.file c.put_value.result c.args.wanted.now _
    (λ file. StatusPuts (list_tags file c.args.page entries) c.put_value.result (c.args.count.now, entries) (c.put_value.new.out, c.entries_seen.new.out))
    (c.in-Some.ensures).order of
    (puts_both c.in-Ok.told (list_tags (file_of g.file c.in-Some.windows.seen) c.args.page entries) c.put_value.result c.args.count.now c.put_value.new.out entries c.entries_seen.new.out
    c.in-Ok.ensures.answer c.put_value.ensures.status c.put_value.ensures.put c.put_value.ensures.kept c.in-Ok.ensures.stays)
