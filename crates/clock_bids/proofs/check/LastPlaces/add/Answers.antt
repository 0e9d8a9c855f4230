-- The loop starts with an empty table or with that of the first `placed` bids, and enters one bid after another.
use Rattle.std.proofs.Common.{◌<◌, length, arith, rules}
use Rattle.clock_bids.proofs.LastBids.{known_at, last_places-more, no_places}
use Rattle.clock_bids.proofs.check.LastPlaces.add.Goals as goal
use Rattle.clock_bids.proofs.check.LastPlaces.add.Goals.{then-self-eq0+in_ok-self, else-self-eq0}

pub loop-i-init : goal.loop-i-init
loop-i-init c = elim c.if-self-eq0.branch [
  | then-self-eq0+in_ok-self w ↦
      rw (w.self-is, w.if-self-eq0.true) (no_places c.args.products c.args.bids.now _ (search rules))
  | else-self-eq0 w ↦ rw w.self-is (c.requires.table.table (omega (arith, w.if-self-eq0.false)))
]

pub index_mut-requires : goal.index_mut-requires
index_mut-requires c =
    omega (
      arith,
      c.loop-i.invariant.each,
      known_at c.args.products c.args.bids.now c.args.place c.loop-i.i c.requires.place
          c.requires.known c.loop-i-test.true,
    )

pub loop-i-preserved : goal.loop-i-preserved
loop-i-preserved c =
    let bids = c.args.bids.now in
    let i = c.loop-i.i in
    let within : i < length bids = omega (arith, c.loop-i-test.true, c.requires.place) in
    last_places-more c.args.products bids i c.loop-i.self.places.items within
    (known_at c.args.products bids c.args.place i
    c.requires.place c.requires.known c.loop-i-test.true) c.loop-i.invariant
