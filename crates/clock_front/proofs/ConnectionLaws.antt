-- Proves what a hub does with a piece from its two steps: the piece is appended, and then the request is answered.
use Rattle.std.proofs.Common.{◌≡◌, true, List, ℕ, Option, Some, None, is_some, refl, sym, ◌∙◌, true≢false, Result, Ok}
use Rattle.std.proofs.Common.{Err, subst}
use Rattle.std.specs.Prelude.{IfErr, IsSome}
use Rattle.clock_connections.specs.declared.connections.HubFault.{HubFault}
use Rattle.clock_connections.specs.declared.connections.HubFault.TheVariants.{NoMemory}
use Rattle.clock_house.specs.House.{HouseFields}
use Rattle.clock_api.specs.Replies.{Answer}
use Rattle.clock_connections.specs.declared.connections.Conn.{Conn}
use Rattle.clock_connections.specs.Connections.{ConnectionFields, IsTaken}
use Rattle.clock_connections.specs.inside.Waiting.{AllNeedMore}
use Rattle.clock_connections.proofs.WaitingLaws.{keeps_waiting, waits_with, waits_no_more}
use Rattle.clock_front.specs.declared.hub.Fed.{Fed}
use Rattle.clock_front.specs.declared.hub.Fed.TheVariants.{More, Reply}
use Rattle.clock_front.specs.Hubs.{HubFields, IsAnswered, IsFed, IsFeedFault}
use Rattle.clock_front.specs.inside.Hubs.{hub_of}

-- An option that is some has a value.
pub some_text : (o : Option (List ℕ)) → is_some o ≡ true → (text : List ℕ) × (o ≡ Some text)
some_text None is = absurd (true≢false (sym is))
some_text (Some text) is = (text, refl)

-- Appending a piece and then answering the request does what `IsFed` says of both.
pub fed_and_answered : (house : HouseFields) (old taken : ConnectionFields) (new : HubFields) (conn : Conn)
    (text : List ℕ) (reply : Answer) → IsTaken old taken conn text → IsAnswered (hub_of house taken) new conn text reply
    → IsAnswered (hub_of house old) new conn text reply
fed_and_answered house old taken new conn text reply first second = record {
  gone = record {
    gone = second.gone.gone;
    others = λ other differs. second.gone.others other differs ∙ first.others other differs;
    count = second.gone.count ∙ first.count;
    next = second.gone.next ∙ first.next;
  };
  answered = second.answered;
  setup = second.setup;
}

-- After a piece, every open connection still needs more.
pub fed_keeps : (old new : HubFields) (conn : Conn) (text : List ℕ) (fed : Fed) → AllNeedMore old.connections
    → IsFed old new conn text fed → AllNeedMore new.connections
fed_keeps old new conn text More before is = keeps_waiting old.connections new.connections conn before is.1.others
    (waits_with new.connections conn text is.1.stands is.0)
fed_keeps old new conn text (Reply reply) before is = keeps_waiting old.connections new.connections conn before
    is.1.gone.others (waits_no_more new.connections conn is.1.gone.gone)

-- A piece of an open connection is refused only if memory ran out.
pub feed_fault : {T : Type 0} (reported : Result T HubFault) (known : Option (List ℕ)) → IsSome known
    → IfErr reported (λ fault. fault ≡ NoMemory) → IfErr reported (IsFeedFault known)
feed_fault (Ok fed) known stood is = tt
feed_fault (Err fault) known stood is = subst (IsFeedFault known) (sym is) stood
