-- Proves that the stored demands are those of the rules, for each bidder.
use Rattle.std.proofs.Common.{length, ◌∙◌}
use Rattle.std.specs.Prelude.{reverse}
use Rattle.std.specs.List.{range_with_len}
use Rattle.std.proofs.lemmas.Simd.{map-map}
use Rattle.clock_house.specs.PublicState.{Holding}
use Rattle.clock_house.specs.History.{holding}
use Rattle.clock_house.proofs.house.House.demands.Goals as goal

pub returns : goal.returns
returns g c = rw (← c.self.view_is) (c.self.invariant.demands_are ∙ map-map (λ (held : Holding). held.demands) (holding
    c.self.inside.setup (reverse c.self.inside.rounds.items)) (range_with_len 0 (length c.self.inside.setup.bidders)))
