-- Open connections, each with the bytes of its request so far.
--     open_text connections conn      the bytes of an open connection
--     is_full connections      no connection can be opened
--     IsConnected old new conn      a connection was opened
--     IsConnectFault connections fault      why none was opened
--     IsTaken old new conn text      a piece was appended; the connection now has this text
--     IsGone old new conn      a connection was closed
-- A connection has a slot, which is reused, and a serial number, which is not.
use Rattle.std.specs.Prelude.{◌≡◌, ◌≢◌, ℕ, ◌+◌, Bool, true, false, ◌||◌, List, [], Option, Some}
use Rattle.std.specs.Prelude.{None, if◌then◌else◌, ◌==◌, nat_le}
use Rattle.std.specs.Prelude.{is_some, count_by, slice_index_or}
use Rattle.clock_connections.specs.declared.connections.Conn.{Conn}
use Rattle.clock_connections.specs.declared.connections.HubFault.{HubFault}
use Rattle.clock_connections.specs.declared.connections.HubFault.TheVariants.{Full, NoMemory}
use Rattle.clock_connections.specs.declared.connections.HubFault.TheVariants.{Unknown}

-- the most connections that are open at once (own limit)
abbrev pub most_connections : ℕ
most_connections = 256

-- serial numbers are below this, the greatest number of 64 bits
abbrev pub most_serials : ℕ
most_serials = 18446744073709551615

-- an open connection: its serial number, and the bytes so far
pub record OpenConnection : Type 0 where
  pub serial : ℕ
  pub text : List ℕ

-- the connections in their slots, and the next serial number
pub record ConnectionFields : Type 0 where
  pub slots : List (Option OpenConnection)
  pub next : ℕ

-- the text in a slot, if the connection there has this serial number
abbrev pub text_with : ℕ → Option OpenConnection → Option (List ℕ)
text_with serial None = None
text_with serial (Some opened) = if opened.serial == serial then Some opened.text else None

-- the open connection in a slot
abbrev pub slot_of : ConnectionFields → ℕ → Option OpenConnection
slot_of connections slot = slice_index_or connections.slots slot None

-- the bytes so far of an open connection
abbrev pub open_text : ConnectionFields → Conn → Option (List ℕ)
open_text connections conn = text_with conn.serial (slot_of connections conn.slot)

-- the number of open connections
abbrev pub open_count : ConnectionFields → ℕ
open_count connections = count_by is_some connections.slots

-- 256 connections are open, or all serial numbers are used
abbrev pub is_full : ConnectionFields → Bool
is_full connections =
    nat_le most_connections (open_count connections) || nat_le most_serials connections.next

-- every other connection is unchanged
abbrev pub LeavesOthers : ConnectionFields → ConnectionFields → Conn → Type 0
LeavesOthers old new conn =
    (other : Conn) → other ≢ conn → open_text new other ≡ open_text old other

-- a connection was opened, with a new serial number and no bytes
pub record IsConnected (old new : ConnectionFields) (conn : Conn) : Type 0 where
  pub room : is_full old ≡ false
  pub serial : conn.serial ≡ old.next
  pub next : new.next ≡ old.next + 1
  pub stands : open_text new conn ≡ Some []
  pub others : LeavesOthers old new conn
  pub count : open_count new ≡ open_count old + 1

-- why no connection was opened
abbrev pub IsConnectFault : ConnectionFields → HubFault → Type 0
IsConnectFault connections Full = is_full connections ≡ true
IsConnectFault connections NoMemory = is_full connections ≡ false
IsConnectFault connections Unknown = ⊥

-- an open connection now has this text
pub record IsTaken (old new : ConnectionFields) (conn : Conn) (text : List ℕ) : Type 0 where
  pub stands : open_text new conn ≡ Some text
  pub others : LeavesOthers old new conn
  pub count : open_count new ≡ open_count old
  pub next : new.next ≡ old.next

-- a connection was closed
pub record IsGone (old new : ConnectionFields) (conn : Conn) : Type 0 where
  pub gone : open_text new conn ≡ None
  pub others : LeavesOthers old new conn
  pub count : open_count new + 1 ≡ open_count old
  pub next : new.next ≡ old.next
