-- While one connection changes, the texts of all open connections still need more: the others are unchanged.
use Rattle.std.proofs.Common.{◌≡◌, ◌≢◌, Bool, true, false, List, [], ℕ, Option, Some, None, Result, Ok, Err, IfOk}
use Rattle.std.proofs.Common.{OnErr, is_some}
use Rattle.std.proofs.Common.{refl, sym, ◌∙◌, ap, subst, true≢false}
use Rattle.clock_http.specs.Framing.{needs_more}
use Rattle.clock_connections.proofs.ArrivalLaws.{nothing_needs_more}
use Rattle.clock_connections.specs.declared.connections.Conn.{Conn}
use Rattle.clock_connections.specs.declared.connections.HubFault.{HubFault}
use Rattle.clock_connections.specs.Connections.{ConnectionFields, IsConnected, LeavesOthers, open_text}
use Rattle.clock_connections.specs.inside.Waiting.{AllNeedMore}

-- one connection has changed, and its text needs more if it is still open
pub keeps_waiting : (old new : ConnectionFields) (conn : Conn) → AllNeedMore old → LeavesOthers old new conn
    → ((text : List ℕ) → open_text new conn ≡ Some text → needs_more text ≡ true) → AllNeedMore new
keeps_waiting old new conn before others here other text at = by (needs_more text) refl
  where
    by : (more : Bool) → needs_more text ≡ more → needs_more text ≡ true
    by true is = is
    by false is =
        let differs : other ≢ conn =
        λ same. true≢false (sym (here text (subst (λ (c : Conn). open_text new c ≡ Some text) same at)) ∙ is) in
        absurd (true≢false (sym (before other text (sym (others other differs) ∙ at)) ∙ is))

abbrev text_in : Option (List ℕ) → List ℕ
text_in None = []
text_in (Some text) = text

-- two texts of one connection are the same
pub same_text : (o : Option (List ℕ)) (a b : List ℕ) → o ≡ Some a → o ≡ Some b → a ≡ b
same_text o a b one other = ap text_in (sym one ∙ other)

-- the connection is open with this text, which needs more
pub waits_with : (new : ConnectionFields) (conn : Conn) (here : List ℕ) → open_text new conn ≡ Some here
    → needs_more here ≡ true → (text : List ℕ) → open_text new conn ≡ Some text → needs_more text ≡ true
waits_with new conn here stands more text at = ap needs_more (same_text (open_text new conn) text here at stands) ∙ more

-- the connection is not open
pub waits_no_more : (new : ConnectionFields) (conn : Conn) → open_text new conn ≡ None
    → (text : List ℕ) → open_text new conn ≡ Some text → needs_more text ≡ true
waits_no_more new conn gone text at = absurd (true≢false (sym (ap is_some (sym gone ∙ at))))

-- a connection was opened, or nothing has changed
pub connect_keeps : (r : Result Conn HubFault) (old new : ConnectionFields) → AllNeedMore old
    → IfOk r (IsConnected old new) → OnErr r (new ≡ old) → AllNeedMore new
connect_keeps (Ok conn) old new before made same =
    keeps_waiting old new conn before made.others (waits_with new conn [] made.stands nothing_needs_more)
connect_keeps (Err fault) old new before made same = subst AllNeedMore (sym same) before
