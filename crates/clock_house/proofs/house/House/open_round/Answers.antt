-- Proves that the stored parts make up the open round of the history, and that it is in order.
use Rattle.std.proofs.Common.{◌≡◌, false, sym, subst, ◌∙◌}
use Rattle.std.specs.Prelude.{reverse}
use Rattle.clock_closing.specs.OpenRound.{IsOpenRound}
use Rattle.clock_house.specs.House.{HouseFields}
use Rattle.clock_house.proofs.InHouse.{many_eligibilities, many_demands, open_is}
use Rattle.clock_house.proofs.Stored.{stands_open_round}
use Rattle.clock_house.proofs.house.House.open_round.Goals as goal

pub invariant_of-result : goal.invariant_of-result
invariant_of-result g c =
    let house : HouseFields = record {
      setup = c.self.inside.setup;
      closed = reverse c.self.inside.rounds.items;
      sheets = c.self.inside.sheets;
      spare = 0;
    } in
    let goes_on = rw (← c.self.view_is) at c.requires in
    let going : c.self.inside.ended ≡ false = c.self.invariant.ended_is ∙ goes_on in
    let is = open_is house c.self.inside.ended c.self.inside.round c.self.inside.prices c.self.inside.eligibilities
    c.self.inside.demands going c.self.invariant.ended_is c.self.invariant.round_is
    (c.self.invariant.prices_are going) c.self.invariant.eligibilities_are c.self.invariant.demands_are in (
      many_demands house c.self.inside.demands c.self.invariant.demands_are
          ∙ sym (many_eligibilities house c.self.inside.eligibilities c.self.invariant.eligibilities_are),
      rw c.as_slice.ensures (subst IsOpenRound (sym is)
          (stands_open_round _ c.self.invariant.limits c.self.invariant.commands c.self.invariant.stands goes_on)),
    )

pub returns : goal.returns
returns g c =
    let house : HouseFields = record {
      setup = c.self.inside.setup;
      closed = reverse c.self.inside.rounds.items;
      sheets = c.self.inside.sheets;
      spare = 0;
    } in
    let goes_on = rw (← c.self.view_is) at c.requires in
    let going : c.self.inside.ended ≡ false = c.self.invariant.ended_is ∙ goes_on in
    let is = open_is house c.self.inside.ended c.self.inside.round c.self.inside.prices c.self.inside.eligibilities
    c.self.inside.demands going c.self.invariant.ended_is c.self.invariant.round_is
    (c.self.invariant.prices_are going) c.self.invariant.eligibilities_are c.self.invariant.demands_are in
    rw (← c.self.view_is, c.as_slice.ensures) is
