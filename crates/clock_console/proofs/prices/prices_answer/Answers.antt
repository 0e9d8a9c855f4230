-- The products of a set-up are within their limits.
use Rattle.std.proofs.Common.{subst, sym}
use Rattle.std.specs.Prelude.{All, List}
use Rattle.clock_terms.specs.Limits.{IsProduct}
use Rattle.clock_terms.specs.declared.setup.Product.{Product}
use Rattle.clock_console.proofs.prices.prices_answer.Goals as goal

pub prices_text-text-requires-clause-limits : goal.prices_text-text-requires-clause-limits
prices_text-text-requires-clause-limits c =
    subst (λ (list : List Product). All IsProduct list) (sym c.as_slice-2.ensures) c.setup.invariant.products
