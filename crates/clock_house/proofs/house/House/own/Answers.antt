-- Proves that the bidder's stored entries are what the rules say, within its limits, and follow from its view.
use Rattle.std.proofs.Common.{◌≡◌, ℕ, List, get_or, length, ap, sym, subst, ◌∙◌, arith}
use Rattle.clock_closing.specs.inside.OpenRound.{eligibilities_of, grid_of}
use Rattle.clock_house.specs.PublicState.{PublicState}
use Rattle.clock_house.specs.House.{HouseFields}
use Rattle.clock_house.specs.inside.OpenRounds.{open_round_in}
use Rattle.clock_house.proofs.InHouse.{many_eligibilities, many_demands, own_eligibility, own_demands}
use Rattle.clock_house.proofs.Stored.{stands_sound}
use Rattle.clock_house.proofs.Seen.{standing_seen, holding_seen}
use Rattle.clock_house.proofs.house.House.own.Goals as goal

pub bounds-deref-bidder : goal.bounds-deref-bidder
bounds-deref-bidder g c =
    let are = subst (λ (house : HouseFields). c.self.inside.eligibilities
    ≡ eligibilities_of (open_round_in house)) c.self.view_is c.self.invariant.eligibilities_are in
    omega (
      arith,
      ap length c.deref.ensures,
      many_eligibilities c.args.self.now c.self.inside.eligibilities are,
      c.requires,
    )

pub row-requires : goal.row-requires
row-requires g c =
    let are = subst (λ (house : HouseFields). c.self.inside.demands
    ≡ grid_of (open_round_in house)) c.self.view_is c.self.invariant.demands_are in
    omega (arith, many_demands c.args.self.now c.self.inside.demands are, c.requires)

pub returns : goal.returns
returns g c =
    let eligibilities = subst (λ (house : HouseFields). c.self.inside.eligibilities
    ≡ eligibilities_of (open_round_in house)) c.self.view_is c.self.invariant.eligibilities_are in
    let grid = subst (λ (house : HouseFields). c.self.inside.demands
    ≡ grid_of (open_round_in house)) c.self.view_is c.self.invariant.demands_are in
    let eligibility = ap (λ (list : List ℕ). get_or list c.args.bidder 0) c.deref.ensures
    ∙ own_eligibility c.args.self.now c.self.inside.eligibilities eligibilities c.args.bidder c.requires in
    let demands = c.row.ensures ∙ own_demands c.args.self.now c.self.inside.demands grid c.args.bidder c.requires in
    let within = (stands_sound _ c.self.invariant.limits c.self.invariant.commands c.self.invariant.stands).within
    c.args.bidder (rw (← c.self.view_is) at c.requires) in
    record {
      round = rw (← c.self.view_is) c.self.invariant.round_is;
      eligibility = eligibility;
      demands = demands;
      limits = rw (eligibility, demands, ← c.self.view_is) within;
      seen_round = λ commands stands.
          (rw (← c.self.view_is) c.self.invariant.round_is)
          ∙ ap (λ (now : PublicState). now.round) (standing_seen c.args.self.now c.args.bidder commands stands);
      seen = rw (eligibility, demands)
          (λ commands stands. sym (holding_seen c.args.self.now c.args.bidder commands stands));
    }
