-- Proves that the copy has the demands before the round, as the joined list of contracts has them.
use Rattle.std.proofs.Common.{◌≡◌, ℕ, List, ap, subst, ◌∙◌}
use Rattle.std.specs.Prelude.{IfOk}
use Rattle.clock_closing.specs.OpenRound.{OpenRoundFields}
use Rattle.clock_closing.specs.inside.OpenRound.{grid_of}
use Rattle.clock_closing.proofs.Held.{held_demands}
use Rattle.clock_closing.proofs.open_round.OpenRound.grid.Goals as goal

pub returns : goal.returns
returns c =
    subst (λ (held : List (List ℕ)). IfOk c.copy_over.result (λ grid. grid ≡ held))
    (held_demands c.self.inside.eligibilities.now c.self.inside.demands.now c.self.invariant.0
    ∙ ap (λ (round : OpenRoundFields). grid_of round.before) c.self.view_is) c.copy_over.ensures
