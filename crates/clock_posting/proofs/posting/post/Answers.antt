-- Proves that the input of a later round's posting fits together, and that its result is the posting of the rules.
use Rattle.std.proofs.Common.{◌≡◌, subst, rules}
use Rattle.std.specs.Prelude.{All, Any, IfSome}
use Rattle.std.proofs.lemmas.Result.{IfOk-weaker}
use Rattle.clock_terms.specs.Limits.{SetupFields, IsProduct}
use Rattle.clock_posting.specs.Posting.{IsPosting, IsAtClock}
use Rattle.clock_posting.specs.PostedPrice.{posted_prices}
use Rattle.clock_posting.proofs.Posted.{later_round_end, clock_posted}
use Rattle.clock_posting.proofs.posting.post.Goals as goal

pub posting-requires : goal.posting-requires
posting-requires c =
    let products = c.args.setup.now.products in
    let prices = c.args.prices.now in
    let settled = c.args.settled.now in
    let same : c.as_slice-products.result.now ≡ products = search rules in
    let limits : All IsProduct products =
    subst (λ (setup : SetupFields). All IsProduct setup.products) c.setup.view_is c.setup.invariant.products in
    rw (
      c.as_slice-3.ensures,
      c.grid-2.ensures,
      c.as_slice-4.ensures,
      c.in_ok-posted.ensures,
      c.as_slice.ensures,
      c.as_slice-2.ensures,
      c.left.ensures,
      c.grid.ensures,
      same,
    )
    (later_round_end products prices c.args.changes.now settled.left settled.grid c.args.increments.now
    limits c.requires.grid.1
    c.requires.increments c.requires.prices c.requires.ordered c.requires.changes)

pub returns-clause-err : goal.returns-clause-err
returns-clause-err c =
    let same : c.as_slice-products.result.now ≡ c.args.setup.now.products = search rules in
    rw (
      c.grid-2.ensures,
      c.as_slice-4.ensures,
      c.in_ok-posted.ensures,
      c.as_slice.ensures,
      c.as_slice-2.ensures,
      c.left.ensures,
      c.grid.ensures,
      same,
    ) at c.posting.ensures.err

pub returns-clause-clock : goal.returns-clause-clock
returns-clause-clock c =
    let products = c.args.setup.now.products in
    let settled = c.args.settled.now in
    let posted = posted_prices products c.args.prices.now c.args.changes.now settled.left settled.grid in
    IfOk-weaker c.posting.result
    (IsPosting c.args.round products c.args.prices.now settled.grid posted c.args.increments.now)
    (λ posting. IfSome posting.next (λ _. Any IsAtClock posting.sheet.lines)) (clock_posted products c.args.prices.now
    c.args.changes.now settled.left settled.grid c.args.round c.args.increments.now) (search rules)
