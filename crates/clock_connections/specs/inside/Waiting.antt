-- Connections without a complete request.
--     AllNeedMore connections      the text of each open connection needs more
use Rattle.std.specs.Prelude.{◌≡◌, ℕ, true, List, Some}
use Rattle.clock_http.specs.Framing.{needs_more}
use Rattle.clock_connections.specs.declared.connections.Conn.{Conn}
use Rattle.clock_connections.specs.Connections.{ConnectionFields, open_text}

-- the text of each open connection needs more
abbrev pub AllNeedMore : ConnectionFields → Type 0
AllNeedMore connections =
    (conn : Conn) (text : List ℕ) → open_text connections conn ≡ Some text → needs_more text ≡ true
