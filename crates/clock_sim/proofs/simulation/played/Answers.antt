-- The auction has ended, so its report can be made.
use Rattle.std.proofs.Common.{◌≤◌, length, sym, subst, ◌∙◌}
use Rattle.clock_house.specs.House.{HouseFields}
use Rattle.clock_reports.proofs.RoundLaws.{some_closed}
use Rattle.clock_sim.proofs.simulation.played.Goals as goal

pub report_so_far-requires : goal.report_so_far-requires
report_so_far-requires g c =
    let house = c.play_out.new.hub.house in
    subst (λ (now : HouseFields). 1 ≤ length now.closed) (sym (c.house.ensures ∙ c.front.ensures))
    (some_closed house.setup house.closed c.in_ok-play_out.ensures.ended)
