-- Proves that the current round follows from every bidder's view.
use Rattle.std.proofs.Common.{ap, ◌∙◌}
use Rattle.clock_house.specs.PublicState.{PublicState}
use Rattle.clock_house.proofs.Seen.{standing_seen}
use Rattle.clock_house.proofs.house.House.round.Goals as goal

pub returns-clause-seen : goal.returns-clause-seen
returns-clause-seen g c = rw (← c.self.view_is) (λ bidder commands stands. c.self.invariant.round_is
    ∙ ap (λ (now : PublicState). now.round) (standing_seen _ bidder commands stands))
