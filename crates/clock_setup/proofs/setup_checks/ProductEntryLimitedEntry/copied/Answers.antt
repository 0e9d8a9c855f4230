-- A product within its limits has an opening price.
use Rattle.std.proofs.Common.{sym, subst}
use Rattle.clock_money.specs.Price.{IsWithin, highest_price}
use Rattle.clock_terms.specs.declared.setup.Product.{Product}
use Rattle.clock_setup.proofs.setup_checks.ProductEntryLimitedEntry.copied.Goals as goal

pub unwrap-opening-requires : goal.unwrap-opening-requires
unwrap-opening-requires c = c.new.ensures.in_range.1 (subst (λ (p : Product). IsWithin 1 highest_price p.opening)
    (sym c.self.view_is) c.requires.opening)
