-- The value of the pair in the map is its tie-breaking number in the list.
use Rattle.std.proofs.Common.{◌∙◌, ap, unwrap_or}
use Rattle.clock_order.specs.Ties.{tie_number}
use Rattle.clock_order.proofs.Listed.{tie_number-entries}
use Rattle.clock_order.proofs.ties.Ties.number.Goals as goal

pub returns : goal.returns
returns c =
    c.unwrap_or.ensures
    ∙ ap (λ o. unwrap_or o 0) (c.copied.ensures ∙ c.get.ensures.value)
    ∙ tie_number-entries c.args.bidder c.args.product c.self.inside.numbers.entries
    ∙ ap (λ ties. tie_number ties c.args.bidder c.args.product) c.self.view_is
