use Rattle.std.proofs.Common.{◌≡◌, ◌⊎◌, ℕ, List, Result}
use Rattle.tiff_base.specs.declared.error.TiffError.{TiffError}
use Rattle.tiff_base.specs.Windows.{file_of}
use Rattle.tiff_ffi.specs.InWindows.{tag_bytes}
use Rattle.tiff_ffi.specs.Status.{StatusTells}
use Rattle.tiff_ffi.proofs.StatusTells.{kept_told, tells_both}
use Rattle.tiff_ffi.proofs.SeenFiles.{tells_of}
use Rattle.tiff_ffi.proofs.in_windows.tag_bytes_in.Goals as goal

pub returns-in-Ok : goal.returns-in-Ok
returns-in-Ok g c =
    let bytes : List ℕ → Result (ℕ × List ℕ) TiffError =
    λ file. tag_bytes file c.args.page c.args.number c.args.at c.args.buffer.now in
    λ of. tells_of c.args.seen.now c.in-Some.windows.seen g.file c.put_value.result c.args.wanted.now _
    (λ file. StatusTells (bytes file) c.put_value.result (c.put_value.new.out, c.bytes_seen.new.buffer) × ((c.put_value.result ≡ 0) ⊎ (c.put_value.new.out ≡ c.args.written.now)))
    (c.in-Some.ensures).order of (
      tells_both c.in-Ok.told (bytes (file_of g.file c.in-Some.windows.seen)) c.put_value.result c.put_value.new.out c.bytes_seen.new.buffer c.in-Ok.ensures c.put_value.ensures.status c.put_value.ensures.put,
      kept_told c.in-Ok.told c.put_value.result c.args.written.now c.put_value.new.out c.put_value.ensures.status c.put_value.ensures.kept,
    )
