use Rattle.std.proofs.Common.{◌≡◌, ◌<◌, ℕ, length, get_or, drop}
use Rattle.std.specs.Prelude.{fold, max}
use Rattle.clock_posting.specs.inside.Parts.{applied_prices, least_price}
use Rattle.clock_posting.proofs.posting.posted_prices.Given as goal

-- With the requests still to come, each price becomes the highest of the least posted price and all applied prices.
abbrev pub invariant-loop-i : goal.invariant-loop-i
invariant-loop-i l = record {
  lengths : length l.posted ≡ length l.prices;
  rest : (p : ℕ) → p < length l.prices → fold max (get_or l.posted p 0) (applied_prices (drop l.i l.changes)
      (drop l.i l.left) p) ≡ fold max (least_price l.products l.prices l.grid p) (applied_prices l.changes l.left p);
}
