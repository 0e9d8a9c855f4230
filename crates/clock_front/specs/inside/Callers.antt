-- That a sender who is a bidder is one of the set-up.
use Rattle.std.specs.Prelude.{ℕ, ◌<◌}
use Rattle.clock_front.specs.declared.front.callers.Caller.{Caller}
use Rattle.clock_front.specs.declared.front.callers.Caller.TheVariants.{Nobody, Operator, Bidder}

-- If the sender is a bidder, its number is below `count`.
abbrev pub IsKnown : ℕ → Caller → Type 0
IsKnown count Nobody = Unit {0}
IsKnown count Operator = Unit {0}
IsKnown count (Bidder bidder) = bidder < count
