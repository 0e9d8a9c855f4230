-- Proves that taking events one by one gives a run over the requests that they complete. By an invariant that holds
-- before the first event, after each, and gives the run after the last.
use Rattle.std.proofs.Common.{◌≡◌, ◌≤◌, ◌<◌, ◌+◌, ℕ, List, [], ◌∷◌, ◌++◌, length, get_or, drop, Option, Some, None}
use Rattle.std.proofs.Common.{refl, sym, ◌∙◌, ap}
use Rattle.std.proofs.Common.{subst, arith, append-nil, append_assoc, length-append}
use Rattle.std.proofs.lemmas.List.{length-set, drop_more, drop_all, map-append}
use Rattle.clock_terms.specs.Limits.{SetupFields, IsSetup}
use Rattle.clock_house.specs.Command.{Command}
use Rattle.clock_house.specs.History.{history}
use Rattle.clock_house.specs.House.{HouseFields}
use Rattle.clock_house.specs.Laws.{IsSound}
use Rattle.clock_front.specs.Fronts.{StandsForTexts, commands_of}
use Rattle.clock_api.specs.Replies.{Answer}
use Rattle.clock_front.specs.Headline.{Runs, IsRun}
use Rattle.clock_front.proofs.RunLaws.{IsUnderWay, step}
use Rattle.clock_connections.specs.declared.connections.Conn.{Conn}
use Rattle.clock_connections.specs.declared.connections.Event.{Event}
use Rattle.clock_connections.specs.declared.connections.Event.TheVariants.{Connect, Piece, Finish}
use Rattle.clock_front.specs.declared.runs.EventReply.{EventReply}
use Rattle.clock_connections.specs.Pieces.{Numbered, completed, after, and_then, requests_from, requests_of}
use Rattle.clock_connections.specs.Connections.{ConnectionFields}
use Rattle.clock_connections.specs.inside.Numbers.{AreNumbered}
use Rattle.clock_front.specs.inside.NumberedHubs.{HasCompleted}
use Rattle.clock_front.specs.Headline.{IsEventRun}
use Rattle.clock_front.specs.inside.EventRuns.{kept, numbers_of, numbers_of_requests, texts_of, answers_of}

-- The invariant after `index` events: the requests complete so far are answered, and together with those that the other
-- events complete they are all requests.
pub record IsOnItsWay (setup : SetupFields) (events : List Event) (index : ℕ) (replies : List EventReply)
    (connections : ConnectionFields) (conns : List (Option Conn)) (house : HouseFields) : Type 0 where
  pub numbered : Numbered
  pub done : List (ℕ × List ℕ)
  pub stands : AreNumbered numbered connections conns
  pub few : length numbered ≤ index
  pub rest : done ++ requests_from numbered (drop index events) ≡ requests_of events
  pub numbers : numbers_of replies ≡ numbers_of_requests done
  pub underway : IsUnderWay setup (texts_of done) (answers_of replies) house

-- The requests, followed by one more if there is one.
abbrev with_request : List (ℕ × List ℕ) → Option (ℕ × List ℕ) → List (ℕ × List ℕ)
with_request done None = done
with_request done (Some request) = done ++ request ∷ []

with_later : (done : List (ℕ × List ℕ)) (o : Option (ℕ × List ℕ)) (later : List (ℕ × List ℕ))
    → with_request done o ++ later ≡ done ++ and_then o later
with_later done None later = refl
with_later done (Some request) later = append_assoc done (request ∷ []) later

no_more_than_one : (numbered : Numbered) (event : Event) → length (after numbered event) ≤ length numbered + 1
no_more_than_one numbered Connect = omega (arith, length-append {A = Option (List ℕ)})
no_more_than_one numbered (Piece number piece) = omega (arith, length-set {A = Option (List ℕ)})
no_more_than_one numbered (Finish number) = omega (arith, length-set {A = Option (List ℕ)})

one_longer : (before now index : ℕ) → before ≤ index → now ≤ before + 1 → now ≤ index + 1
one_longer before now index few longer = omega arith

-- After an event, each reply has the number of its request's connection.
next_numbers : (done : List (ℕ × List ℕ)) (replies : List EventReply) (o : Option (ℕ × List ℕ))
    (reported : Option EventReply) (house next : HouseFields) → HasCompleted o house next reported → numbers_of replies
    ≡ numbers_of_requests done → numbers_of (kept replies reported) ≡ numbers_of_requests (with_request done o)
next_numbers done replies None None house next is same = same
next_numbers done replies None (Some one) house next is same = absurd is
next_numbers done replies (Some request) None house next is same = absurd is
next_numbers done replies (Some request) (Some one) house next is same =
    map-append (λ (r : EventReply). r.number) replies (one ∷ [])
    ∙ ap (λ ns. ns ++ one.number ∷ []) same ∙ ap (λ n. numbers_of_requests done ++ n ∷ []) is.0
    ∙ sym (map-append (λ (r : ℕ × List ℕ). r.0) done (request ∷ []))

-- After an event, the replies are still a run over the requests.
next_underway : (setup : SetupFields) (limits : IsSetup setup) (done : List (ℕ × List ℕ)) (replies : List EventReply)
    (o : Option (ℕ × List ℕ)) (reported : Option EventReply) (house next : HouseFields)
    → HasCompleted o house next reported → IsUnderWay setup (texts_of done) (answers_of replies) house
    → IsUnderWay setup (texts_of (with_request done o)) (answers_of (kept replies reported)) next
next_underway setup limits done replies None None house next is before =
    subst (λ (h : HouseFields). IsUnderWay setup (texts_of done) (answers_of replies) h) (sym is) before
next_underway setup limits done replies None (Some one) house next is before = absurd is
next_underway setup limits done replies (Some request) None house next is before = absurd is
next_underway setup limits done replies (Some request) (Some one) house next is before =
    let one_more =
    step setup limits (texts_of done) (answers_of replies) house next request.1 one.reply before is.2 is.1 in
    subst (λ (texts : List (List ℕ)). IsUnderWay setup texts (answers_of (replies ++ one ∷ [])) next)
    (sym (map-append (λ (r : ℕ × List ℕ). r.1) done (request ∷ [])))
    (subst (λ (answers : List Answer). IsUnderWay setup (texts_of done ++ request.1 ∷ []) answers next)
    (sym (map-append (λ (r : EventReply). r.reply) replies (one ∷ []))) one_more)

-- The invariant after one more event.
pub goes_on : (setup : SetupFields) (limits : IsSetup setup) (events : List Event) (index : ℕ)
    (replies : List EventReply) (connections later : ConnectionFields) (conns more : List (Option Conn))
    (house next : HouseFields) (event : Event) (reported : Option EventReply)
    (before : IsOnItsWay setup events index replies connections conns house) → index < length events
    → event ≡ get_or events index event → AreNumbered (after before.numbered event) later more
    → HasCompleted (completed before.numbered event) house next reported
    → IsOnItsWay setup events (index + 1) (kept replies reported) later more next
goes_on setup limits events index replies connections later conns more house next event reported before lt
    at stands is = record {
      numbered = after before.numbered event;
      done = with_request before.done (completed before.numbered event);
      stands = stands;
      few = one_longer (length before.numbered) (length (after before.numbered event)) index before.few
          (no_more_than_one before.numbered event);
      rest = with_later before.done (completed before.numbered event)
          (requests_from (after before.numbered event) (drop (index + 1) events))
          ∙ ap (λ rest. before.done ++ requests_from before.numbered rest) (sym split) ∙ before.rest;
      numbers =
          next_numbers before.done replies (completed before.numbered event) reported house next is before.numbers;
      underway = next_underway setup limits before.done replies
          (completed before.numbered event) reported house next is before.underway;
    }
  where
    split : drop index events ≡ event ∷ drop (index + 1) events
    split = drop_more events index event lt ∙ ap (λ (e : Event). e ∷ drop (index + 1) events) (sym at)

-- The invariant before the first event.
pub begins : (setup : SetupFields) (events : List Event) (replies : List EventReply) (connections : ConnectionFields)
    (conns : List (Option Conn)) (house : HouseFields) → replies ≡ [] → AreNumbered [] connections conns
    → house.setup ≡ setup → StandsForTexts [] house → IsOnItsWay setup events 0 replies connections conns house
begins setup events replies connections conns house none stands kept new = record {
  numbered = [];
  done = [];
  stands = stands;
  few = omega arith;
  rest = refl;
  numbers = ap numbers_of none;
  underway = record {
    end = [];
    kept = kept;
    runs = subst (λ (answers : List Answer). Runs setup [] [] answers []) (sym (ap answers_of none)) refl;
    stands = new;
  };
}

-- The run, from the invariant after the last event.
pub ends : (setup : SetupFields) (events : List Event) (index : ℕ) (replies : List EventReply)
    (connections : ConnectionFields) (conns : List (Option Conn)) (house : HouseFields)
    → IsOnItsWay setup events index replies connections conns house → length events ≤ index
    → ((commands : List Command) → IsSound setup (history setup commands)) → IsEventRun setup events replies
ends setup events index replies connections conns house way past sound =
    let all : way.done ≡ requests_of events = sym (append-nil way.done) ∙ ap (λ (left : List Event). way.done
    ++ requests_from way.numbered left) (sym (drop_all index events past)) ∙ way.rest in
    record {
      numbers = way.numbers ∙ ap numbers_of_requests all;
      run = subst (λ (requests : List (ℕ × List ℕ)). IsRun setup (texts_of requests) (answers_of replies)) all
          (record {
            end = way.underway.end;
            runs = way.underway.runs;
            sound = sound (commands_of setup way.underway.end);
          });
    }
