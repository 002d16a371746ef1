use Rattle.std.proofs.Common.{◌≤◌, length, arith}
use Rattle.tiff_append.specs.lemmas.Behind.{length_added, over_written, past_written}
use Rattle.tiff_append.proofs.sink.BehindSink.change.Goals as goal

pub overwrite_in-requires : goal.overwrite_in-requires
overwrite_in-requires c =
    let s = c.args.self.now in
    let l = length_added s.file.now s.at s.link.items s.more.items s.within in
    let r = c.requires in
    let t = c.if-at-len.true in
    omega (arith, l, r, t)

pub returns-then-at-len-clause-ok : goal.returns-then-at-len-clause-ok
returns-then-at-len-clause-ok c =
    let s = c.args.self.now in
    past_written s.file.now s.at s.link.items s.more.items c.args.at c.args.bytes.now c.overwrite_in.new.items.items s.within c.if-at-len.true c.overwrite_in.ensures.bytes

pub returns-then-bytes-len-clause-ok : goal.returns-then-bytes-len-clause-ok
returns-then-bytes-len-clause-ok c =
    let s = c.args.self.now in
    let short : length c.args.bytes.now ≤ length s.link.items =
    (let t = c.if-bytes-len.true in let l = c.len.ensures in omega (arith, t, l)) in
    over_written s.file.now s.at s.link.items s.more.items c.args.at c.args.bytes.now c.overwrite_in-then-bytes-len.new.items.items s.within c.if-at-self.true
    short c.overwrite_in-then-bytes-len.ensures.bytes
