-- The two parts are one behind the other.
use Rattle.std.proofs.Common.{◌≡◌, arith}
use Rattle.tiff_ffi.proofs.Placing.{put_two}
use Rattle.tiff_ffi.proofs.frame.Frame.put_around.Goals as goal

pub returns : goal.returns
returns c =
    let front = c.args.self.now.front.items in
    let behind = c.args.self.now.behind.items in
    let f_is : c.copy_from_slice.new.self ≡ front = cc in
    let h_is : c.copy_from_slice-2.new.self ≡ behind = cc in
    rw (f_is, h_is) (put_two front behind c.args.buffer.now _ _ (omega arith) (omega arith))
