-- Groups of requests that are sent over connections that are open at once.
--     ClosesNoRound text      the text closes no round, whatever came before
--     GroupRequest, request_in text one, requests_in group      a waiting request, by the
--         text of its group
--     AreWritten group, StillWait old group      the waiting requests are in the text; they are the
--         same as before
--     text_in one, after_group setup group texts      the text of a request; the texts after a
--         group
--     with_request setup group bidder round text texts, with_put setup group bidder script texts
--         the texts after a group and one more request of a bidder
--     with_turn setup group bidder round written texts      the texts after a group and a request
--         that was written
--     HaveTextsFrom place connections group text      from an index on, each
--         connection has these bytes
--     AreApart group      no two connections are the same
--     IsGroup connections group      each request has an open connection of its own, without bytes
--     AreWaiting connections group      so do the requests of a group
--     IsGroupUnderWay hub group      they do, and the auction has not ended
--     IsNext hub group written      a request that was written may join the group
--     ComesUnderWay steps old new group result      these steps were made, except for the waiting
--         requests
use Rattle.std.specs.Prelude.{◌≡◌, ◌≤◌, ◌<◌, ℕ, List, [], ◌∷◌, ◌++◌, true, length, map}
use Rattle.std.specs.Prelude.{slice_index_or, Some, Result, Ok, OnOk, All}
use Rattle.clock_terms.specs.Limits.{SetupFields}
use Rattle.clock_terms.specs.Faults.{◌>>=◌}
use Rattle.clock_http.specs.Framing.{needs_more}
use Rattle.clock_connections.specs.Connections.{ConnectionFields, open_text}
use Rattle.clock_front.specs.Hubs.{HubFields}
use Rattle.clock_connections.specs.declared.connections.Conn.{Conn}
use Rattle.clock_scripts.specs.declared.requests.Written.{Written}
use Rattle.clock_scripts.specs.Pieces.{IsWrittenIn, written_body, written_head, written_request}
use Rattle.clock_sim.specs.declared.rounds.Waiting.{Waiting}
use Rattle.clock_sim.specs.declared.rounds.Group.{Group}
use Rattle.clock_replays.specs.declared.replay.Script.{Script}
use Rattle.clock_scripts.specs.declared.fault.SimFault.{SimFault}
use Rattle.clock_sim.specs.Rehearsal.{rounds_after, after_request, after_put}
use Rattle.clock_sim.specs.inside.Steps.{IsGoing, MakesWay}

-- the closed rounds do not change
abbrev pub ClosesNoRound : List ℕ → Type 0
ClosesNoRound text = (setup : SetupFields) (texts : List (List ℕ))
    → rounds_after setup (text ∷ texts) ≡ rounds_after setup texts

-- a request: bidder, round, connection, head, and body
pub record GroupRequest : Type 0 where
  pub bidder : ℕ
  pub round : ℕ
  pub conn : Conn
  pub head : List ℕ
  pub body : List ℕ

-- the request, by the text that it is in
abbrev pub request_in : List ℕ → Waiting → GroupRequest
request_in text one = record {
  bidder = one.bidder;
  round = one.round;
  conn = one.conn;
  head = written_head text one.written;
  body = written_body text one.written;
}

-- the waiting requests
abbrev pub requests_in : Group → List GroupRequest
requests_in group = map (request_in group.text.items) group.waiting.items

-- the waiting requests are in the text
abbrev pub AreWritten : Group → Type 0
AreWritten group = All (λ one. IsWrittenIn group.text.items one.written) group.waiting.items

-- the waiting requests are the same
abbrev pub StillWait : Group → Group → Type 0
StillWait old group = AreWritten old → (requests_in group ≡ requests_in old) × AreWritten group

-- head and body of a request
abbrev pub text_in : GroupRequest → List ℕ
text_in one = one.head ++ one.body

-- the texts after the requests of a group, answered in order
abbrev pub after_group : SetupFields → List GroupRequest → List (List ℕ)
    → Result (List (List ℕ)) SimFault
after_group setup [] texts = Ok texts
after_group setup (one ∷ group) texts =
    after_request setup texts (Some one.bidder) one.round (text_in one) >>= after_group setup group

-- the texts after a group and one more request of a bidder
abbrev pub with_request : SetupFields → List GroupRequest → ℕ → ℕ → List ℕ → List (List ℕ)
    → Result (List (List ℕ)) SimFault
with_request setup group bidder round text texts =
    after_group setup group texts >>= (λ sent. after_request setup sent (Some bidder) round text)

-- the texts after a group and the sheet that a bidder's script gives, if any
abbrev pub with_put : SetupFields → List GroupRequest → ℕ → Script → List (List ℕ)
    → Result (List (List ℕ)) SimFault
with_put setup group bidder script texts =
    after_group setup group texts >>= after_put setup bidder script

-- the texts after a group and a request that was written
abbrev pub with_turn : SetupFields → Group → ℕ → ℕ → Written → List (List ℕ)
    → Result (List (List ℕ)) SimFault
with_turn setup group bidder round written =
    with_request setup (requests_in group) bidder round (written_request group.text.items written)

-- from an index on, the connection of each request is open with these bytes
abbrev pub HaveTextsFrom : ℕ → ConnectionFields → List GroupRequest
    → (ℕ → GroupRequest → List ℕ) → Type 0
HaveTextsFrom place connections group text = (k : ℕ) (other : GroupRequest) → place ≤ k
    → k < length group → open_text connections (slice_index_or group k other).conn
    ≡ Some (text k (slice_index_or group k other))

-- the serial numbers of the connections rise
abbrev pub AreApart : List GroupRequest → Type 0
AreApart group =
    (k j : ℕ) (other : GroupRequest) → k < j → j < length group
    → (slice_index_or group k other).conn.serial < (slice_index_or group j other).conn.serial

-- each request needs its body and closes no round, and its connection is open without bytes
pub record IsGroup (connections : ConnectionFields) (group : List GroupRequest) : Type 0 where
  pub stand : HaveTextsFrom 0 connections group (λ k one. [])
  pub apart : AreApart group
  pub earlier : All (λ one. one.conn.serial < connections.next) group
  pub need : All (λ one. needs_more one.head ≡ true) group
  pub close : All (λ one. ClosesNoRound (text_in one)) group

-- the requests of a group, which are in its text
pub record AreWaiting (connections : ConnectionFields) (group : Group) : Type 0 where
  pub requests : IsGroup connections (requests_in group)
  pub written : AreWritten group

-- the requests of a group wait, and the auction has not ended
pub record IsGroupUnderWay (hub : HubFields) (group : Group) : Type 0 where
  pub waits : AreWaiting hub.connections group
  pub going : IsGoing hub.house

-- after the waiting requests, one may follow that was written and closes no round
pub record IsNext (hub : HubFields) (group : Group) (written : Written) : Type 0 where
  pub under_way : IsGroupUnderWay hub group
  pub within : IsWrittenIn group.text.items written
  pub closes : ClosesNoRound (written_request group.text.items written)

-- the steps were made except for the waiting requests; or their fault is returned
pub record ComesUnderWay {T : Type 0} (steps : List (List ℕ) → Result (List (List ℕ)) SimFault)
    (old new : HubFields) (group : Group) (result : Result T SimFault) : Type 0 where
  pub under_way : OnOk result (IsGroupUnderWay new group)
  pub way : MakesWay steps
      (after_group old.house.setup (requests_in group)) old.house new.house result
