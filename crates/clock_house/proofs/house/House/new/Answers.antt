-- Proves that what a new house stores agrees with an auction without closed rounds.
use Rattle.std.proofs.Common.{[], ◌∙◌, refl}
use Rattle.clock_house.proofs.Rows.{first_eligibilities, first_demands}
use Rattle.clock_house.proofs.house.House.new.Goals as goal

pub invariant_of-result : goal.invariant_of-result
invariant_of-result g c =
    rw c.new.ensures.items
    (record {
      limits = c.in_ok-prices.ensures.limits;
      commands = [];
      stands = record { closed = refl; sheets = c.in_ok-prices.ensures.sheets };
      ended_is = refl;
      round_is = refl;
      prices_are = λ going. c.in_ok-prices.ensures.prices;
      eligibilities_are = c.in_ok-prices.ensures.eligibilities ∙ first_eligibilities c.args.setup;
      demands_are = c.in_ok-prices.ensures.demands ∙ first_demands c.args.setup;
    })
