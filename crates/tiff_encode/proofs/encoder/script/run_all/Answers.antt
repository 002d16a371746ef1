use Rattle.std.proofs.Common.{◌≡◌, ◌+◌, length, subst, arith}
use Rattle.std.proofs.lemmas.List.{take_all}
use Rattle.tiff_encode.specs.Stepping.{JobMoves}
use Rattle.tiff_encode.specs.Running.{JobsMove}
use Rattle.tiff_encode.proofs.Running.All.{jobs_none, jobs_next, replies_from, room_taken, rooms_left}
use Rattle.tiff_encode.proofs.encoder.script.run_all.Goals as goal

pub loop-job-init : goal.loop-job-init
loop-job-init g c = record {
  moved = jobs_none c.args.replies.now.items c.args.encoder.now;
  count = omega (arith, c.requires.count);
  rooms = c.requires.rooms;
  room = omega (arith, c.requires.room);
  behind = omega arith;
}

pub take_last-room-requires : goal.take_last-room-requires
take_last-room-requires g c = omega (arith, c.loop-job.invariant.count, c.loop-job-test.true)

pub slice_bounds-run_job-count : goal.slice_bounds-run_job-count
slice_bounds-run_job-count g c =
    omega (arith, c.loop-job.invariant.behind, c.len-start.ensures, c.deref.ensures.len)

pub run_job-reply-requires : goal.run_job-reply-requires
run_job-reply-requires g c =
    let i = c.loop-job.invariant in
    let jobs = c.args.jobs.now in
    let n = c.loop-job.job-index in
    let count : length c.loop-job.rooms.items + n ≡ length jobs =
    omega (arith, i.count, c.loop-job.rooms.ok) in
    room_taken jobs c.loop-job.rooms.items c.take_last-room.new.items.items c.take_last-room.result c.take_last-room.ensures.items n
    c.job-item.result c.loop-job-test.true c.job-item.is count i.rooms

pub push_reserved-requires : goal.push_reserved-requires
push_reserved-requires g c = omega (arith, c.loop-job.invariant.room, c.loop-job-test.true)

pub loop-job-preserved : goal.loop-job-preserved
loop-job-preserved g c =
    let i = c.loop-job.invariant in
    let jobs = c.args.jobs.now in
    let n = c.loop-job.job-index in
    let start = c.len-start.result in
    let at : start ≡ length c.args.replies.now.items =
    omega (arith, c.len-start.ensures, c.args.replies.now.ok) in
    record {
      moved =
          jobs_next jobs c.args.replies.now.items c.loop-job.replies.items c.push_reserved.new.self.items start n c.job-item.result
          c.run_job-reply.result c.args.encoder.now c.loop-job.encoder c.run_job-reply.new.encoder c.loop-job-test.true c.job-item.is at
          c.push_reserved.ensures.items i.moved
          (subst (λ xs. JobMoves c.job-item.result xs c.run_job-reply.result c.loop-job.encoder c.run_job-reply.new.encoder)
          (replies_from c.deref.result.now c.loop-job.replies.items start c.deref.ensures.value) c.run_job-reply.ensures);
      count = omega (arith, i.count, c.take_last-room.ensures.len);
      rooms =
          rooms_left jobs c.loop-job.rooms.items c.take_last-room.new.items.items c.take_last-room.result c.take_last-room.ensures.items i.rooms;
      room = omega (arith, i.room, c.push_reserved.ensures.len, c.push_reserved.ensures.capacity, c.loop-job-test.true);
      behind = omega (arith, i.behind, c.push_reserved.ensures.len);
    }

pub returns : goal.returns
returns g c =
    let all =
    take_all c.loop-job.job-index c.args.jobs.now (omega (arith, c.loop-job-test.false)) in
    subst (λ jobs. JobsMove jobs c.args.replies.now.items c.loop-job.replies.items c.args.encoder.now c.loop-job.encoder) all
    c.loop-job.invariant.moved
