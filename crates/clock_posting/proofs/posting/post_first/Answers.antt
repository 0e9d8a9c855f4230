-- Proves that the input of round 1's posting fits together, and that its result is the posting of the rules.
use Rattle.std.proofs.Common.{◌≡◌, ◌∙◌, subst, rules}
use Rattle.std.specs.Prelude.{All}
use Rattle.clock_terms.specs.Limits.{SetupFields, IsProduct}
use Rattle.clock_posting.proofs.Laws.{opening_least, first_round_end}
use Rattle.clock_posting.proofs.posting.post_first.Goals as goal

pub posting-requires : goal.posting-requires
posting-requires c =
    let products = c.args.setup.now.products in
    let same : c.as_slice-products.result.now ≡ products = search rules in
    let limits : All IsProduct products =
    subst (λ (setup : SetupFields). All IsProduct setup.products) c.setup.view_is c.setup.invariant.products in
    let posted = opening_least products c.as_slice-products.result.now c.as_slice.result.now c.args.grid.now
    c.in_ok-posted.posted same (c.as_slice.ensures ∙ c.in_ok-prices.ensures) c.in_ok-posted.ensures in
    rw (c.as_slice-2.ensures, c.as_slice-3.ensures, c.in_ok-prices.ensures, posted, same)
    (first_round_end products c.args.grid.now c.args.increments.now limits c.requires.grid.1 c.requires.increments)

pub returns-clause-ok : goal.returns-clause-ok
returns-clause-ok c =
    let products = c.args.setup.now.products in
    let same : c.as_slice-products.result.now ≡ products = search rules in
    let posted = opening_least products c.as_slice-products.result.now c.as_slice.result.now c.args.grid.now
    c.in_ok-posted.posted same (c.as_slice.ensures ∙ c.in_ok-prices.ensures) c.in_ok-posted.ensures in
    rw (c.as_slice-2.ensures, c.as_slice-3.ensures, c.in_ok-prices.ensures, posted, same) at c.posting.ensures.ok

pub returns-clause-err : goal.returns-clause-err
returns-clause-err c =
    let products = c.args.setup.now.products in
    let same : c.as_slice-products.result.now ≡ products = search rules in
    let posted = opening_least products c.as_slice-products.result.now c.as_slice.result.now c.args.grid.now
    c.in_ok-posted.posted same (c.as_slice.ensures ∙ c.in_ok-prices.ensures) c.in_ok-posted.ensures in
    rw (c.as_slice-3.ensures, posted, same) at c.posting.ensures.err
