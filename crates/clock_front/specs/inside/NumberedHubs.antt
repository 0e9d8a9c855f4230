-- A hub whose connections have numbers.
--     HasCompleted request old new reply      the request that an event completes was answered
--     HasTaken numbered request old new conns reply      what an event led to
use Rattle.std.specs.Prelude.{◌≡◌, ℕ, List, Option, Some, None}
use Rattle.clock_house.specs.House.{HouseFields}
use Rattle.clock_connections.specs.declared.connections.Conn.{Conn}
use Rattle.clock_connections.specs.Pieces.{Numbered}
use Rattle.clock_connections.specs.inside.Numbers.{AreNumbered}
use Rattle.clock_front.specs.Answered.{AnswersText}
use Rattle.clock_front.specs.Hubs.{HubFields}
use Rattle.clock_front.specs.declared.runs.EventReply.{EventReply}

-- If an event completes a request, it is answered, and the reply has the number of its connection.
-- Otherwise there is no reply, and the house is unchanged.
abbrev pub HasCompleted : Option (ℕ × List ℕ) → HouseFields → HouseFields
    → Option EventReply → Type 0
HasCompleted None old new None = new ≡ old
HasCompleted None old new (Some one) = ⊥
HasCompleted (Some request) old new None = ⊥
HasCompleted (Some request) old new (Some one) =
    (one.number ≡ request.0) × AnswersText request.1 one.reply old new × (new.setup ≡ old.setup)

-- The connections by number are now these, and the request that the event completes was answered.
pub record HasTaken (numbered : Numbered) (request : Option (ℕ × List ℕ)) (old new : HubFields)
    (conns : List (Option Conn)) (reply : Option EventReply) : Type 0 where
  pub stands : AreNumbered numbered new.connections conns
  pub reported : HasCompleted request old.house new.house reply
