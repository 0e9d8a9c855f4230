use Rattle.std.proofs.Common.{◌≡◌, ◌≤◌, ℕ, List, length, drop}
use Rattle.clock_front.specs.Callers.{holder, bidder_tokens}
use Rattle.clock_front.specs.inside.TokenTable.{found}
use Rattle.clock_front.proofs.front.callers.add_all.Given as goal

-- The table has the tokens of all bidders from this number on.
abbrev pub invariant-loop-number : goal.invariant-loop-number
invariant-loop-number l = record {
  within : l.number ≤ length l.setup.bidders;
  held : (token : List ℕ)
      → found l.tokens.entries token ≡ holder (bidder_tokens l.number (drop l.number l.setup.bidders)) token;
}

abbrev pub decreases-loop-number : goal.decreases-loop-number
decreases-loop-number l = l.number
