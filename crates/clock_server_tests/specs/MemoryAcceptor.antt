-- Connections in memory.
--     MemoryAcceptorState      the bytes of those still to come, in order; those of the open one;
--         what was read and sent on each closed one; and whether accepting one has failed
use Rattle.std.specs.Prelude.{ℕ, Bool, List, Option}
use Rattle.clock_server.specs.Exchanges.{Exchange, Offer}

-- the connections to come, the open one, if one is, and the closed ones
pub record MemoryAcceptorState : Type 0 where
  pub coming : List (List ℕ)
  pub offer : Option Offer
  pub closed : List Exchange
  pub has_failed : Bool
