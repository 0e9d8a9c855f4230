-- Proves that the results are those of the rules, for round 1 by its requested demands, for later rounds by bid
-- processing.
use Rattle.std.proofs.Common.{◌≡◌, ◌≢◌, ◌≤◌, ap, sym, ◌∙◌, arith}
use Rattle.std.proofs.lemmas.List.Sorted.{All-permutation}
use Rattle.std.proofs.lemmas.Result.{err_from_is_err_and}
use Rattle.clock_posting.specs.PostedPrice.{IsWithinPrices}
use Rattle.clock_posting.specs.Posting.{opening_posted}
use Rattle.clock_closing.specs.OpenRound.{IsOpenRound, OpenRoundFields}
use Rattle.clock_closing.specs.Closing.{requests, first_result, later_result}
use Rattle.clock_closing.proofs.Posts.{posts_by}
use Rattle.clock_closing.proofs.OpenRounds.{asked_within, priced_requests}
use Rattle.clock_closing.proofs.RoundResults.{result-first, result-later}
use Rattle.clock_closing.proofs.Steps.{is_open, within_grid}
use Rattle.clock_closing.proofs.open_round.OpenRound.results.Goals as goal

-- A round that is not round 1 is a later one.
later_by : (inside : OpenRoundFields) → IsOpenRound inside → inside.before.public_state.round ≢ 1
    → 2 ≤ inside.before.public_state.round
later_by inside is other = omega (arith, is.sound.priced.numbered, other)

later_of : (inside now : OpenRoundFields) → inside ≡ now → IsOpenRound inside → inside.before.public_state.round ≢ 1
    → 2 ≤ now.before.public_state.round
later_of inside now same is other = rw (← same) (later_by inside is other)

pub post_first-posting-requires-clause-grid : goal.post_first-posting-requires-clause-grid
post_first-posting-requires-clause-grid g c = rw (c.in_ok-grid.ensures, ← c.self.view_is)
    (within_grid _ c.self.invariant.1 _ (asked_within _ _ c.self.invariant.1.sound c.if-self-eq1.true))

pub with_slips-requires : goal.with_slips-requires
with_slips-requires g c =
    rw (c.in_ok-grid.ensures, ← c.self.view_is) (asked_within _ _ c.self.invariant.1.sound c.if-self-eq1.true)

pub returns-then-self-eq1 : goal.returns-then-self-eq1
returns-then-self-eq1 g c =
    let now = c.args.self.now in
    let increments = c.args.increments.now in
    let number : c.self.inside.round ≡ now.before.public_state.round =
    ap (λ (round : OpenRoundFields). round.before.public_state.round) c.self.view_is in
    let first = sym number ∙ c.if-self-eq1.true in
    let setup : c.self.inside.setup.now ≡ now.setup = ap (λ (round : OpenRoundFields). round.setup) c.self.view_is in
    let opening = (is_open c.self.view_is c.self.invariant.1).opening first in
    let posting = rw (c.in_ok-grid.ensures, setup) at c.post_first-posting.ensures.ok in
    let refused = rw (c.in_ok-grid.ensures, setup) at c.post_first-posting.ensures.err in
    let comes = rw c.in_ok-grid.ensures at c.with_slips.ensures in
    rw (result-first now.setup.products now.before c.args.ties.now first) (comes increments
    (opening_posted now.setup.products) (posts_by now increments (first_result now.setup.products now.before)
    c.post_first-posting.result (rw (first, opening) posting) c.post_first-posting.ensures.laws refused))

pub requests-requires : goal.requests-requires
requests-requires g c = later_of _ _ c.self.view_is c.self.invariant.1 c.if-self-eq1.false

pub settled-requires-clause-later : goal.settled-requires-clause-later
settled-requires-clause-later g c = later_of _ _ c.self.view_is c.self.invariant.1 c.if-self-eq1.false

pub post-posting-requires-clause-later : goal.post-posting-requires-clause-later
post-posting-requires-clause-later g c = later_by _ c.self.invariant.1 c.if-self-eq1.false

pub post-posting-requires-clause-changes : goal.post-posting-requires-clause-changes
post-posting-requires-clause-changes g c = All-permutation (IsWithinPrices c.self.inside.prices.now) _ _
    (rw (← c.self.view_is) at c.in_ok-requests.ensures.all)
    (priced_requests _ _ c.self.invariant.1.sound (later_by _ c.self.invariant.1 c.if-self-eq1.false))

pub returns : goal.returns
returns g c =
    let now = c.args.self.now in
    let increments = c.args.increments.now in
    let ties = c.args.ties.now in
    let setup : c.self.inside.setup.now ≡ c.args.self.now.setup =
    ap (λ (round : OpenRoundFields). round.setup) c.self.view_is in
    let number : c.self.inside.round ≡ c.args.self.now.before.public_state.round =
    ap (λ (round : OpenRoundFields). round.before.public_state.round) c.self.view_is in
    let prices : c.self.inside.prices.now ≡ c.args.self.now.before.public_state.prices =
    ap (λ (round : OpenRoundFields). round.before.public_state.prices) c.self.view_is in
    let result = later_result now.setup.products now.before (requests now.before ties) in
    let posting = rw (
      c.in_ok-settled.ensures.left,
      c.in_ok-settled.ensures.grid,
      c.in_ok-requests.ensures.ordered,
      setup,
      number,
      prices,
    )
    at c.post-posting.ensures.ok in
    let refused =
    rw (c.in_ok-settled.ensures.left, c.in_ok-settled.ensures.grid, c.in_ok-requests.ensures.ordered, setup, prices)
    at c.post-posting.ensures.err in
    let comes = rw (c.into_grid.ensures, c.in_ok-settled.ensures.grid, c.in_ok-requests.ensures.ordered)
    at c.with_slips-2.ensures in
    rw (result-later now.setup.products now.before ties
    (later_of _ _ c.self.view_is c.self.invariant.1 c.if-self-eq1.false)) (comes increments result.posted
    (posts_by now increments result c.post-posting.result posting c.post-posting.ensures.laws refused))

pub post-posting-requires-clause-grid : goal.post-posting-requires-clause-grid
post-posting-requires-clause-grid g c =
    within_grid _ c.self.invariant.1 _ (rw (← c.self.view_is) at c.in_ok-settled.ensures.within)

pub post_first-posting-requires-clause-increments : goal.post_first-posting-requires-clause-increments
post_first-posting-requires-clause-increments g c = rw (← c.self.view_is) at c.requires

pub settled-requires-clause-requests : goal.settled-requires-clause-requests
settled-requires-clause-requests g c = c.in_ok-requests.ensures.all

pub post-posting-requires-clause-increments : goal.post-posting-requires-clause-increments
post-posting-requires-clause-increments g c = rw (← c.self.view_is) at c.requires

pub post-posting-requires-clause-prices : goal.post-posting-requires-clause-prices
post-posting-requires-clause-prices g c = c.self.invariant.1.sound.priced.pairs

pub post-posting-requires-clause-ordered : goal.post-posting-requires-clause-ordered
post-posting-requires-clause-ordered g c = c.self.invariant.1.sound.priced.ordered

pub post-posting-requires-clause-left : goal.post-posting-requires-clause-left
post-posting-requires-clause-left g c = c.in_ok-settled.ensures.each

-- Memory has run out in a step.
pub returns-in_err-grid : goal.returns-in_err-grid
returns-in_err-grid g c =
    let reported = err_from_is_err_and c.from_residual.result c.from_residual.ensures.1 in
    rw reported.1 (λ other. absurd (other reported.2))

pub returns-in_err-requests : goal.returns-in_err-requests
returns-in_err-requests g c =
    let reported =
    err_from_is_err_and c.from_residual-in_err-requests.result c.from_residual-in_err-requests.ensures.1 in
    rw reported.1 (λ other. absurd (other reported.2))

pub returns-in_err-settled : goal.returns-in_err-settled
returns-in_err-settled g c =
    let reported = err_from_is_err_and c.from_residual-in_err-settled.result c.from_residual-in_err-settled.ensures.1 in
    rw reported.1 (λ other. absurd (other reported.2))
