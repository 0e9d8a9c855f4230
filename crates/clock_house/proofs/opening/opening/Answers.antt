-- Proves that a new house stores what is true before the first round.
use Rattle.std.proofs.Common.{map, ap, subst, ◌∙◌, length}
use Rattle.std.specs.Prelude.{None}
use Rattle.std.specs.List.{range_with_len}
use Rattle.clock_terms.specs.Limits.{IsSetup, SetupFields}
use Rattle.clock_house.proofs.opening.opening.Goals as goal

pub returns-clause-limits : goal.returns-clause-limits
returns-clause-limits c = subst IsSetup c.setup.view_is c.setup.invariant

pub returns-clause-prices : goal.returns-clause-prices
returns-clause-prices c = c.in_ok-prices.ensures

pub returns-clause-eligibilities : goal.returns-clause-eligibilities
returns-clause-eligibilities c = c.in_ok-eligibilities.ensures

pub returns-clause-demands : goal.returns-clause-demands
returns-clause-demands c = c.in_ok-demands.ensures

pub returns-clause-sheets : goal.returns-clause-sheets
returns-clause-sheets c = c.in_ok-sheets.ensures ∙ ap (λ n. map (λ bidder. None) (range_with_len 0 n))
    (c.len.ensures ∙ ap (λ (setup : SetupFields). length setup.bidders) c.setup.view_is)
