-- Proves that a bidder's entries in the two borrowed lists are its entry in the joined list of contracts.
use Rattle.std.proofs.Common.{length, ap, ◌∙◌, arith}
use Rattle.clock_closing.specs.OpenRound.{OpenRoundFields, holding_at}
use Rattle.clock_closing.proofs.Held.{held_at, held_many}
use Rattle.clock_closing.proofs.open_round.OpenRound.own.Goals as goal

pub bounds-deref-bidder : goal.bounds-deref-bidder
bounds-deref-bidder c =
    let many = held_many c.self.inside.eligibilities.now c.self.inside.demands.now c.self.invariant.0 in
    let known = rw (← c.self.view_is) at c.requires in
    omega (arith, ap length c.deref.ensures, many, c.self.invariant.1.holdings, known)

pub row-requires : goal.row-requires
row-requires c =
    let many = held_many c.self.inside.eligibilities.now c.self.inside.demands.now c.self.invariant.0 in
    let known = rw (← c.self.view_is) at c.requires in
    omega (arith, c.self.invariant.0, many, c.self.invariant.1.holdings, known)

pub returns-clause-held : goal.returns-clause-held
returns-clause-held c =
    let many = held_many c.self.inside.eligibilities.now c.self.inside.demands.now c.self.invariant.0 in
    let known = rw (← c.self.view_is) at c.requires in
    rw (c.deref.ensures, c.row.ensures)
    (held_at c.self.inside.eligibilities.now c.self.inside.demands.now c.args.bidder c.self.invariant.0
    (omega (arith, many, c.self.invariant.1.holdings, known))
    ∙ ap (λ (round : OpenRoundFields). holding_at round.before.holdings c.args.bidder) c.self.view_is)
