-- Connections by their numbers, and those that the code has open.
--     opened numbered, if_open text      a connection after it connects, and after a piece
--     AreNumbered numbered connections conns      the open connections are those of the numbers
use Rattle.std.specs.Prelude.{◌≡◌, ◌<◌, ◌≤◌, ℕ, List, [], length, Option, Some, None, is_some}
use Rattle.std.specs.Prelude.{count_by, slice_index_or, nat_lt, if◌then◌else◌}
use Rattle.clock_http.specs.Framing.{needs_more}
use Rattle.clock_connections.specs.declared.connections.Conn.{Conn}
use Rattle.clock_connections.specs.Connections.{ConnectionFields, most_connections, open_text}
use Rattle.clock_connections.specs.Connections.{open_count}
use Rattle.clock_connections.specs.Pieces.{Numbered, text_so_far}

-- a new connection has no bytes; it is refused if too many are open
abbrev pub opened : Numbered → Option (List ℕ)
opened numbered = if nat_lt (count_by is_some numbered) most_connections then Some [] else None

-- the connection of a text that is not complete stays open
abbrev pub if_open : List ℕ → Option (List ℕ)
if_open text = if needs_more text then Some text else None

-- the connection of a number, if it was opened
abbrev pub conn_at : List (Option Conn) → ℕ → Option Conn
conn_at conns number = slice_index_or conns number None

-- the text of a connection, if there is one
abbrev pub text_of_made : ConnectionFields → Option Conn → Option (List ℕ)
text_of_made connections None = None
text_of_made connections (Some conn) = open_text connections conn

-- each number has its connection, no two have the same, and the code has no others open
pub record AreNumbered (numbered : Numbered) (connections : ConnectionFields)
    (conns : List (Option Conn)) : Type 0 where
  pub all : length conns ≡ length numbered
  pub texts : (number : ℕ)
      → text_of_made connections (conn_at conns number) ≡ text_so_far numbered number
  pub apart : (one other : ℕ) (conn : Conn) → conn_at conns one ≡ Some conn
      → conn_at conns other ≡ Some conn → one ≡ other
  pub earlier : (number : ℕ) (conn : Conn) → conn_at conns number ≡ Some conn
      → conn.serial < connections.next
  pub count : open_count connections ≡ count_by is_some numbered
  pub few : connections.next ≤ length numbered
