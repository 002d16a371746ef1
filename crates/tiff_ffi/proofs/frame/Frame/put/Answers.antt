-- The three parts are one behind the other.
use Rattle.std.proofs.Common.{◌≡◌, arith}
use Rattle.tiff_ffi.proofs.Placing.{put_three}
use Rattle.tiff_ffi.proofs.frame.Frame.put.Goals as goal

pub returns : goal.returns
returns c =
    let front = c.args.self.now.front.items in
    let middle = c.args.self.now.samples.now in
    let behind = c.args.self.now.behind.items in
    let f_is : c.copy_from_slice.new.self ≡ front = cc in
    let g_is : c.copy_from_slice-2.new.self ≡ middle = cc in
    let h_is : c.copy_from_slice-3.new.self ≡ behind = cc in
    rw (f_is, g_is, h_is) (put_three front middle behind c.args.buffer.now _ _ _ _ (omega arith) (omega arith) (omega arith) (omega arith))
