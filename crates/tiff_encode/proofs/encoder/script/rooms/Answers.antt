use Rattle.std.proofs.Common.{◌≡◌, length, arith, sym, subst}
use Rattle.tiff_encode.specs.Running.{AreRooms}
use Rattle.tiff_encode.proofs.Running.All.{rooms_none, rooms_more}
use Rattle.tiff_encode.proofs.encoder.script.rooms.Goals as goal

pub loop-behind-init : goal.loop-behind-init
loop-behind-init g c = record {
  count = c.in_ok-rooms.ensures.len;
  room = c.in_ok-rooms.ensures.capacity;
  made =
      subst (λ xs. AreRooms c.args.jobs.now xs) (sym c.in_ok-rooms.ensures.items)
      (rooms_none c.args.jobs.now);
}

pub push_reserved-requires : goal.push_reserved-requires
push_reserved-requires g c =
    let i = c.loop-behind.invariant in omega (arith, i.count, i.room, c.loop-behind-test.true)

pub loop-behind-preserved : goal.loop-behind-preserved
loop-behind-preserved g c =
    let i = c.loop-behind.invariant in
    let count : length c.loop-behind.rooms.items ≡ c.loop-behind.behind =
    omega (arith, i.count, c.loop-behind.rooms.ok) in
    record {
      count = omega (arith, i.count, c.push_reserved.ensures.len);
      room = omega (arith, i.room, c.push_reserved.ensures.capacity);
      made =
          rooms_more c.args.jobs.now c.push_reserved.new.self.items c.loop-behind.rooms.items c.in_ok-room.room
          c.push_reserved.ensures.items c.loop-behind.behind c.index-jobs-jobs.result c.loop-behind-test.true c.index-jobs-jobs.is count i.made
          (c.in_ok-room.ensures.items, omega (arith, c.in_ok-room.ensures.capacity, c.step_count-count.ensures));
    }

pub returns-clause-count : goal.returns-clause-count
returns-clause-count g c =
    omega (arith, c.loop-behind.invariant.count, c.loop-behind-test.false, c.loop-behind.auto.behind-end)

pub returns-clause-rooms : goal.returns-clause-rooms
returns-clause-rooms g c = c.loop-behind.invariant.made
