-- Proves that the new activity has the units of the new quantity in place of the old one.
use Rattle.std.proofs.Common.{◌*◌, arith, ap}
use Rattle.std.specs.Prelude.{Option}
use Rattle.std.specs.Option.{option_copied}
use Rattle.std.proofs.lemmas.Nat.{mul-le}
use Rattle.std.proofs.Common.{Bor}
use Rattle.clock_terms.specs.Limits.{most_supply, most_units}
use Rattle.clock_bids.specs.declared.sheet.Bid.{Bid}
use Rattle.clock_bids.specs.inside.Chains.{quantity_of}
use Rattle.clock_bids.proofs.Judging.{held_some}
use Rattle.clock_bids.proofs.check.taken_with.Goals as goal

pub overflow_mul-more : goal.overflow_mul-more
overflow_mul-more c =
    omega (arith, mul-le c.args.units c.args.quantity most_units most_supply c.requires.units c.requires.quantity)

pub overflow_add-more : goal.overflow_add-more
overflow_add-more c = omega (
  arith,
  c.requires.taken,
  mul-le c.args.units c.args.quantity most_units most_supply c.requires.units c.requires.quantity,
)

pub overflow_mul-result : goal.overflow_mul-result
overflow_mul-result c =
    omega (arith, held_some c.args.units c.in-Some.is c.requires.held, c.requires.taken)

pub overflow_sub-result : goal.overflow_sub-result
overflow_sub-result c = omega (arith, held_some c.args.units c.in-Some.is c.requires.held)

pub returns-in-Some-clause-exact : goal.returns-in-Some-clause-exact
returns-in-Some-clause-exact c = omega (
  arith,
  held_some c.args.units c.in-Some.is c.requires.held,
  ap (λ (bid : Option (Bor Bid)). c.args.units * quantity_of (option_copied bid)) c.in-Some.is,
)

pub returns-in-Some-clause-most : goal.returns-in-Some-clause-most
returns-in-Some-clause-most c =
    omega (arith, mul-le c.args.units c.args.quantity most_units most_supply c.requires.units c.requires.quantity)

pub returns-in-None-clause-exact : goal.returns-in-None-clause-exact
returns-in-None-clause-exact c =
    omega (arith, ap (λ (bid : Option (Bor Bid)). c.args.units * quantity_of (option_copied bid)) c.in-None.is)

pub returns-in-None-clause-most : goal.returns-in-None-clause-most
returns-in-None-clause-most c =
    omega (arith, mul-le c.args.units c.args.quantity most_units most_supply c.requires.units c.requires.quantity)
