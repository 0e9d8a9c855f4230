-- What contracts see of a hub, and what its calls do.
--     IsFed old new conn text fed      what a piece led to, if the bytes are now `text`
--     IsFedBy old new conn piece fed      what a piece led to
--     IsAnswered old new conn text reply      a connection's request was answered, and it is gone
--     IsFeedFault known, IsFinishFault known      when each refusal comes
use Rattle.std.specs.Prelude.{◌≡◌, ◌++◌, ℕ, true, false, List, Option, None, Some, IsSome}
use Rattle.clock_house.specs.House.{HouseFields}
use Rattle.clock_connections.specs.Connections.{ConnectionFields, IsTaken, IsGone, open_text}
use Rattle.clock_connections.specs.declared.connections.Conn.{Conn}
use Rattle.clock_connections.specs.declared.connections.HubFault.{HubFault}
use Rattle.clock_connections.specs.declared.connections.HubFault.TheVariants.{Full, NoMemory}
use Rattle.clock_connections.specs.declared.connections.HubFault.TheVariants.{Unknown}
use Rattle.clock_http.specs.Framing.{needs_more}
use Rattle.clock_api.specs.Replies.{Answer}
use Rattle.clock_front.specs.Answered.{AnswersText}
use Rattle.clock_front.specs.declared.hub.Fed.{Fed}
use Rattle.clock_front.specs.declared.hub.Fed.TheVariants.{More, Reply}

-- In contracts, a hub is the house of its front, and its open connections.
pub record HubFields : Type 0 where
  pub house : HouseFields
  pub connections : ConnectionFields

-- The request of a connection was answered, and the connection is gone.
pub record IsAnswered (old new : HubFields) (conn : Conn) (text : List ℕ)
    (reply : Answer) : Type 0 where
  pub gone : IsGone old.connections new.connections conn
  pub answered : AnswersText text reply old.house new.house
  pub setup : new.house.setup ≡ old.house.setup

-- A connection's bytes are now `text`. If they are less than a request, the connection waits for
-- more, and the house is unchanged. Otherwise the request was answered.
abbrev pub IsFed : HubFields → HubFields → Conn → List ℕ → Fed → Type 0
IsFed old new conn text More = (needs_more text ≡ true)
    × IsTaken old.connections new.connections conn text × (new.house ≡ old.house)
IsFed old new conn text (Reply reply) =
    (needs_more text ≡ false) × IsAnswered old new conn text reply

-- What a piece led to, which is appended to the bytes of its connection.
abbrev pub IsFedBy : HubFields → HubFields → Conn → List ℕ → Fed → Type 0
IsFedBy old new conn piece fed = (text : List ℕ) → open_text old.connections conn ≡ Some text
    → IsFed old new conn (text ++ piece) fed

-- Why a piece was refused: out of memory on an open connection, or the connection is not open.
abbrev pub IsFeedFault : Option (List ℕ) → HubFault → Type 0
IsFeedFault known Full = ⊥
IsFeedFault known NoMemory = IsSome known
IsFeedFault known Unknown = known ≡ None

-- Why the end of a request was refused: the connection is not open.
abbrev pub IsFinishFault : Option (List ℕ) → HubFault → Type 0
IsFinishFault known Full = ⊥
IsFinishFault known NoMemory = ⊥
IsFinishFault known Unknown = known ≡ None
