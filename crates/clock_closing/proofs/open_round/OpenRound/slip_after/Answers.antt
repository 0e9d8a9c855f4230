-- Proves that a bidder's results are those of the rules, part by part.
use Rattle.std.proofs.Common.{refl, ap}
use Rattle.clock_closing.specs.Holdings.{Holding}
use Rattle.clock_closing.proofs.open_round.OpenRound.slip_after.Goals as goal

pub returns : goal.returns
returns c =
    let held = ap (λ (own : Holding). own.eligibility) c.own-held.ensures.held in
    rw (
      ← held,
      ← c.self.view_is,
      ← c.setup.view_is,
      c.next_eligibility.ensures.exact,
      c.units_held-used.ensures.exact,
      c.as_slice.ensures,
      c.in_ok-packed.ensures,
    )
    refl
