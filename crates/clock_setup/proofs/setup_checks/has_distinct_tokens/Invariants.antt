use Rattle.std.proofs.Common.{◌≡◌, ◌∷◌, ◌+◌, ◌≤◌, length, map, take}
use Rattle.clock_setup.proofs.setup_checks.has_distinct_tokens.Given as goal

-- the tokens so far are collected, and there is capacity for the others
abbrev pub invariant-loop-bidder : goal.invariant-loop-bidder
invariant-loop-bidder l = record {
  so_far : map (λ token. token.now) l.tokens.items
      ≡ l.operator ∷ map (λ bidder. bidder.token) (take l.bidder-index l.bidders);
  room : length l.bidders ≤ l.bidder-index + l.tokens.room;
}
