-- Proves that these requests can be processed, and that the result is the one of the rules, since the board is that of
-- the round.
use Rattle.std.proofs.Common.{◌≡◌, ℕ, List, ap, sym, subst, length, ◌∙◌}
use Rattle.std.proofs.lemmas.List.{length-map}
use Rattle.std.proofs.lemmas.Result.{IfOk-weaker}
use Rattle.clock_bids.specs.declared.sheet.Bid.{Bid}
use Rattle.std.specs.Prelude.{Option}
use Rattle.clock_processor.specs.Board.{BoardFields, IsWithinEligibility, new_board}
use Rattle.clock_processor.specs.Requests.{CanSettle}
use Rattle.clock_terms.specs.declared.prices.PricePair.{PricePair}
use Rattle.clock_terms.specs.Limits.{SetupFields}
use Rattle.clock_closing.specs.Holdings.{Holding}
use Rattle.clock_closing.specs.OpenRound.{OpenRoundFields, open_at}
use Rattle.clock_closing.specs.inside.OpenRound.{eligibilities_of, grid_of}
use Rattle.clock_closing.proofs.Held.{held_eligibilities}
use Rattle.clock_closing.proofs.OpenRounds.{before_within, can_settle}
use Rattle.clock_closing.proofs.Steps.{is_open}
use Rattle.clock_closing.proofs.open_round.OpenRound.settled.Goals as goal

-- The board of the borrowed lists is the board of each bidder's eligibility and demands.
module _ (setup : SetupFields) (number : ℕ) (prices : List PricePair) (eligibilities : List ℕ) (demands : List (List ℕ))
    (sheets : List (Option (List Bid))) (many : length demands ≡ length eligibilities) where
  held_board : (round : OpenRoundFields) (board : BoardFields) (grid : List (List ℕ))
      → open_at setup number prices eligibilities demands sheets ≡ round
      → board ≡ new_board setup.products eligibilities grid → grid ≡ grid_of round.before
      → board ≡ new_board round.setup.products (eligibilities_of round.before) (grid_of round.before)
  held_board round board grid same is are =
      is
      ∙ ap (λ (list : List ℕ). new_board setup.products list grid) (held_eligibilities eligibilities demands many)
      ∙ ap (λ (one : OpenRoundFields). new_board one.setup.products (eligibilities_of one.before) grid) same
      ∙ ap (new_board round.setup.products (eligibilities_of round.before)) are

pub for_requests-requires-clause-bidders : goal.for_requests-requires-clause-bidders
for_requests-requires-clause-bidders g c =
    rw (c.in_ok-grid.ensures, ← c.self.view_is)
    (length-map _ (λ (held : Holding). held.demands) ∙ c.self.invariant.1.holdings)

pub for_requests-requires-clause-within : goal.for_requests-requires-clause-within
for_requests-requires-clause-within g c =
    let grid = rw (← c.self.view_is) at c.in_ok-grid.ensures in
    subst (λ (list : List ℕ). IsWithinEligibility c.self.inside.setup.now.products list c.in_ok-grid.grid)
    (sym (held_eligibilities c.self.inside.eligibilities.now c.self.inside.demands.now c.self.invariant.0))
    (rw grid (before_within _ _ c.self.invariant.1.sound))

pub settle-requires : goal.settle-requires
settle-requires g c =
    subst (λ (one : BoardFields). CanSettle one c.args.requests.now)
    (sym (held_board _ _ _ _ _ _ c.self.invariant.0 _ _ _ c.self.view_is c.in_ok-board.ensures c.in_ok-grid.ensures))
    (can_settle _ _ (is_open c.self.view_is c.self.invariant.1).sound c.requires.later _ c.requires.requests)

pub returns-clause-grid : goal.returns-clause-grid
returns-clause-grid g c =
    let board =
    held_board _ _ _ _ _ _ c.self.invariant.0 _ _ _ c.self.view_is c.in_ok-board.ensures c.in_ok-grid.ensures in
    IfOk-weaker c.settle.result _ _ (λ settled is. is.grid) (rw board at c.settle.ensures.settlement)

pub returns-clause-left : goal.returns-clause-left
returns-clause-left g c =
    let board =
    held_board _ _ _ _ _ _ c.self.invariant.0 _ _ _ c.self.view_is c.in_ok-board.ensures c.in_ok-grid.ensures in
    IfOk-weaker c.settle.result _ _ (λ settled is. is.left) (rw board at c.settle.ensures.settlement)

pub returns-clause-within : goal.returns-clause-within
returns-clause-within g c =
    let board =
    held_board _ _ _ _ _ _ c.self.invariant.0 _ _ _ c.self.view_is c.in_ok-board.ensures c.in_ok-grid.ensures in
    IfOk-weaker c.settle.result _ _ (λ settled is. is.within) (rw board at c.settle.ensures.proper)
