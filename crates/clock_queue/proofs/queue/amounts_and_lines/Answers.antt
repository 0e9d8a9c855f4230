-- Each turn of the loop reads one request, and adds its amount and its lines.
use Rattle.std.proofs.Common.{◌<◌, length, arith}
use Rattle.clock_queue.proofs.ReadBounds.{amounts_more, lines_more}
use Rattle.clock_queue.proofs.queue.amounts_and_lines.Goals as goal

pub loop-place-preserved : goal.loop-place-preserved
loop-place-preserved c =
    let before : c.loop-place.place < length c.args.requests.now =
    omega (arith, c.loop-place-test.true, c.len-place-end.ensures) in
    record {
      so_far = amounts_more c.args.requests.now c.loop-place.place c.read-change.result.now before
          c.read-change.ensures.request c.loop-place.amounts.items c.push.new.self.items c.loop-place.invariant.so_far
          c.push.ensures.items;
      room = omega (arith, c.loop-place.invariant.room, c.push.ensures.room);
      enough = lines_more c.args.requests.now c.loop-place.place c.read-change.result.now before
          c.read-change.ensures.request c.loop-place.count c.with_lines_for-count.result c.loop-place.invariant.enough
          c.with_lines_for-count.ensures.most c.with_lines_for-count.ensures.enough;
      reads = omega (arith, c.loop-place.invariant.reads, c.read-change.ensures.counted);
    }
