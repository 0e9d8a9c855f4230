use Rattle.std.proofs.Common.{◌<◌, ◌≤◌, ap, length, arith}
use Rattle.clock_views.specs.OperatorPages.{result_in}
use Rattle.clock_views.proofs.Rooms.{none_most, result_in_most, results_most}
use Rattle.clock_views.proofs.pages.results_capacity.Goals as goal

pub loop-bidder-preserved : goal.loop-bidder-preserved
loop-bidder-preserved g c =
    let bidders = length c.args.house.now.setup.bidders in
    let below : c.loop-bidder.bidder < bidders =
    rw (c.bidder_count-bidder-end.ensures, c.setup.ensures) at c.loop-bidder-test.true in
    let one = result_in_most c.args.house.now c.loop-bidder.bidder bidders below in
    record {
      all = omega (arith, c.loop-bidder.invariant.all, one, c.len.ensures.is, ap length c.own.ensures.demands);
      small = omega (arith, c.loop-bidder.invariant.small, c.len.ensures.few);
    }

pub returns : goal.returns
returns g c =
    let house = c.args.house.now in
    let bidders = length house.setup.bidders in
    let done : bidders ≤ c.loop-bidder.bidder =
    rw (c.bidder_count-bidder-end.ensures, c.setup.ensures) at c.loop-bidder-test.false in
    omega (
      arith,
      c.loop-bidder.invariant.all,
      none_most (result_in house) c.loop-bidder.bidder bidders done,
      results_most house,
    )
