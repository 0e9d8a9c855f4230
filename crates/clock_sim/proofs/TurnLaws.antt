-- The bidders' turns: each submits its sheet, whose request waits or is sent after the waiting ones. A sheet closes no
-- round, so the script gives the same sheet before and after the waiting requests are answered.
use Rattle.std.proofs.Common.{◌≡◌, ℕ, ◌+◌, ◌<◌, ◌≤◌, List, [], ◌∷◌, ◌++◌, Vec, true, length, drop, get_or, Option, Some}
use Rattle.std.proofs.Common.{None, Result, Ok, Err, refl, sym, ◌∙◌}
use Rattle.std.proofs.Common.{ap, subst, All, arith}
use Rattle.std.specs.Prelude.{MatchResult, OnOk, option_map}
use Rattle.std.proofs.lemmas.List.{drop_all}
use Rattle.std.proofs.lemmas.List.Elements.{All-tail, All-push}
use Rattle.std.specs.declared.alloc.Global.{Global}
use Rattle.clock_terms.specs.Limits.{SetupFields}
use Rattle.clock_terms.specs.Faults.{◌>>=◌, IsRefusal}
use Rattle.clock_house.specs.House.{HouseFields, state_in}
use Rattle.clock_house.specs.History.{public_state}
use Rattle.clock_closing.specs.declared.closed_round.ClosedRound.{ClosedRound}
use Rattle.clock_api.specs.declared.code.Code.{Code}
use Rattle.clock_api.specs.declared.code.Code.TheVariants.{Done}
use Rattle.clock_front.specs.Fronts.{StandsForTexts}
use Rattle.clock_front.specs.Hubs.{HubFields}
use Rattle.clock_replays.specs.declared.replay.Script.{Script}
use Rattle.clock_sim.specs.declared.rounds.Group.{Group}
use Rattle.clock_sim.specs.declared.rounds.Waiting.{Waiting}
use Rattle.clock_scripts.specs.declared.fault.SimFault.{SimFault}
use Rattle.clock_scripts.specs.declared.fault.SimFault.TheVariants.{NoMemory}
use Rattle.clock_sim.specs.Rehearsal.{if_done, after_request, after_request_if, after_put, after_puts, rounds_after}
use Rattle.clock_http.specs.Framing.{needs_more}
use Rattle.clock_connections.specs.Connections.{IsConnected}
use Rattle.clock_scripts.specs.declared.requests.Written.{Written}
use Rattle.clock_scripts.specs.Pieces.{IsWrittenIn, WritesIf, written_head, written_request}
use Rattle.clock_scripts.specs.ScriptedRequests.{scripted_put}
use Rattle.clock_sim.specs.inside.Groups.{GroupRequest, ClosesNoRound, ComesUnderWay, IsGroup, IsNext, IsGroupUnderWay}
use Rattle.clock_sim.specs.inside.Groups.{StillWait, text_in, after_group, request_in, requests_in}
use Rattle.clock_sim.specs.inside.Groups.{with_put, with_request, with_turn}
use Rattle.clock_sim.specs.inside.Steps.{IsGoing, ComesTo, MakesStep, IsLeft, MakesWay}
use Rattle.clock_sim.proofs.StepLaws.{Texts, Step, IsOnWay, and_then, left_as, next_at}
use Rattle.clock_sim.proofs.GroupLaws.{ended_ok, joined_group, one_step, with_one}
use Rattle.clock_sim.proofs.PutLaws.{scripted_closes_none}
use Rattle.clock_sim.proofs.WrittenLaws.{kept_if, none_wait, one_more, reads_as, still_twice, still_wait}

-- ---- steps with waiting requests

-- a part of a step is made, and its rest is left before the others
pub way_goes_on : {U : Type 0} (whole part left rest : Step) (initial now next : HouseFields) (done : U)
    → IsOnWay whole (λ texts. part texts >>= rest) initial now → MakesWay part left now next (Ok done)
    → IsOnWay whole (λ texts. left texts >>= rest) initial next
way_goes_on whole part left rest initial now next done before made = record {
  setup = made.setup ∙ before.setup;
  comes = λ texts stands.
      let way = before.comes texts stands in
      let one = made.comes way.texts way.stands in
      record {
        texts = one.texts;
        stands = one.stands;
        same = ap (λ (answer : Result Texts SimFault). answer >>= rest) one.same ∙ way.same;
      };
}

pub way_stops : {U T : Type 0} (whole part left rest : Step) (initial now next : HouseFields) (fault : SimFault)
    → IsOnWay whole (λ texts. part texts >>= rest) initial now → MakesWay {T = U} part left now next (Err fault)
    → MakesStep {T = T} whole initial next (Err fault)
way_stops whole part left rest initial now next fault before made = record {
  setup = made.setup ∙ before.setup;
  comes = λ texts stands other.
      let way = before.comes texts stands in
      sym way.same ∙ ap (λ (answer : Result Texts SimFault). answer >>= rest) (made.comes way.texts way.stands other);
}

-- a part of the steps is made, and then a part of those left
pub way_then : {U T : Type 0} (whole left last : Step) (old mid new : HouseFields) (done : U)
    (result : Result T SimFault) → MakesWay whole left old mid (Ok done) → MakesWay left last mid new result
    → MakesWay whole last old new result
way_then {T = T} whole left last old mid new done result one two = record {
  setup = two.setup ∙ one.setup;
  comes = λ texts stands.
      let way = one.comes texts stands in
      let P : Result Texts SimFault → Type 0 =
      λ answer. MatchResult result (λ (_ : T). IsLeft last answer new) (IsRefusal NoMemory answer) in
      subst P way.same (two.comes way.texts way.stands);
}

none_left : (setup : SetupFields) (group : List GroupRequest) (texts : Texts) → length group ≡ 0
    → after_group setup group texts ≡ Ok texts
none_left setup [] texts none = refl
none_left setup (one ∷ group) texts none = absurd (omega (arith, none))

on_ok : {T : Type 0} (P : Type 0) (result : Result T SimFault) → P → OnOk result P
on_ok P (Ok done) is = is
on_ok P (Err fault) is = tt

-- one more request waits
pub one_waits : {T : Type 0} (group waiting : List GroupRequest) (one : GroupRequest) (text : List ℕ)
    (old new : HouseFields) (done : T) → new ≡ old → waiting ≡ group ++ one ∷ [] → text_in one ≡ text → MakesWay
    (with_request old.setup group one.bidder one.round text) (after_group old.setup waiting) old new (Ok done)
one_waits group waiting one text old new done same is reads = record {
  setup = ap (λ (house : HouseFields). house.setup) same;
  comes = λ texts stands. record {
    texts = texts;
    stands = subst (StandsForTexts texts) (sym same) stands;
    same =
        ap (λ (list : List GroupRequest). after_group old.setup list texts) is ∙ with_one old.setup group one texts
        ∙ ap (λ (bytes : List ℕ). with_request old.setup group one.bidder one.round bytes texts) reads;
  };
}

-- ---- a sheet waits

if_ok : (code : Code) (done next : Texts) (fault : SimFault) → if_done code done fault ≡ Ok next → next ≡ done
if_ok Done done next fault is = let same : done ≡ next = cc in sym same
if_ok code done next fault is = absurd (cc)

sent_text : (setup : SetupFields) (texts next : Texts) (sender : Option ℕ) (round : ℕ) (text : List ℕ)
    → after_request setup texts sender round text ≡ Ok next → next ≡ text ∷ texts
unfolding after_request
sent_text setup texts next sender round text is = if_ok _ (text ∷ texts) next _ is

parted : (first : Result Texts SimFault) (second : Step) (end : Texts) → first >>= second ≡ Ok end
    → (next : Texts) × (first ≡ Ok next) × (second next ≡ Ok end)
parted (Ok next) second end is = (next, refl, is)
parted (Err fault) second end is = absurd (cc)

-- the requests of a group close no round
group_closes_none : (setup : SetupFields) (group : List GroupRequest) (texts end : Texts) → All (λ one. ClosesNoRound
    (text_in one)) group → after_group setup group texts ≡ Ok end → rounds_after setup end ≡ rounds_after setup texts
group_closes_none setup [] texts end close is = let same : texts ≡ end = cc in ap (rounds_after setup) (sym same)
group_closes_none setup (one ∷ group) texts end close is =
    let parts = parted (one_step setup one texts) (after_group setup group) end is in
    group_closes_none setup group parts.0 end (All-tail (λ (w : GroupRequest). ClosesNoRound (text_in w)) one group
    close) parts.2 ∙ ap (rounds_after setup) (sent_text setup texts parts.0 (Some one.bidder) one.round
    (text_in one) parts.1) ∙ close 0 one (omega arith) setup texts

-- if a step closes no round, the auction continues
still_going : {T : Type 0} (step : Step) (old new : HouseFields) (done : T) → IsGoing old
    → MakesStep step old new (Ok done) → ((texts end : Texts) → step texts ≡ Ok end
    → rounds_after old.setup end ≡ rounds_after old.setup texts) → IsGoing new
still_going step old new done before made none =
    let end = made.comes before.texts before.stands in
    let closed : new.closed ≡ old.closed = end.stands.closed ∙ ap (λ (setup : SetupFields).
    rounds_after setup end.texts) made.setup ∙ none before.texts end.texts end.is ∙ sym before.stands.closed in
    record {
      going = ap (λ (setup : SetupFields). (public_state setup.products new.closed).ended) made.setup
          ∙ ap (λ (rounds : List ClosedRound). (public_state old.setup.products rounds).ended) closed ∙ before.going;
      texts = end.texts;
      stands = end.stands;
    }

pub going_after_group : {T : Type 0} (group : List GroupRequest) (old new : HouseFields) (result : Result T SimFault)
    → All (λ one. ClosesNoRound (text_in one)) group → IsGoing old
    → MakesStep (after_group old.setup group) old new result → OnOk result (IsGoing new)
going_after_group group old new (Ok done) close before made = still_going (after_group old.setup group) old new done
    before made (λ texts end is. group_closes_none old.setup group texts end close is)
going_after_group group old new (Err fault) close before made = tt

pub going_after_one : {T : Type 0} (bidder round : ℕ) (text : List ℕ) (old new : HouseFields)
    (result : Result T SimFault) → ClosesNoRound text → IsGoing old → MakesStep
    (λ texts. after_request old.setup texts (Some bidder) round text) old new result → OnOk result (IsGoing new)
going_after_one bidder round text old new (Ok done) closes before made = still_going
    (λ texts. after_request old.setup texts (Some bidder) round text) old new done before made (λ texts end is.
    ap (rounds_after old.setup) (sent_text old.setup texts end (Some bidder) round text is) ∙ closes old.setup texts)
going_after_one bidder round text old new (Err fault) closes before made = tt

-- ---- a group is sent

-- a request is written after the waiting ones
still_under_way : (hub : HubFields) (group next : Group) → IsGroupUnderWay hub group → StillWait group next
    → IsGroupUnderWay hub next
still_under_way hub group next before keeps =
    let kept = keeps before.waits.written in record {
      waits =
          record { requests = subst (IsGroup hub.connections) (sym kept.0) before.waits.requests; written = kept.1 };
      going = before.going;
    }

-- out of memory, nothing is claimed
pub no_memory_under_way : {T : Type 0} (steps : Step) (old new : HubFields) (group : Group)
    → new.house.setup ≡ old.house.setup → ComesUnderWay {T = T} steps old new group (Err NoMemory)
no_memory_under_way steps old new group same = record {
  under_way = tt;
  way = record { setup = same; comes = λ texts stands other. absurd (other refl) };
}

-- the steps were made, and no request waits
pub all_sent : {T : Type 0} (steps : Step) (next : Group) (old new : HubFields) (result : Result T SimFault)
    → MakesStep steps old.house new.house result → OnOk result (requests_in next ≡ []) → OnOk result (IsGoing new.house)
    → ComesUnderWay steps old new next result
all_sent steps next old new (Ok done) made none going = record {
  under_way = record { waits = none_wait new.connections next none; going = going };
  way = record {
    setup = made.setup;
    comes = λ texts stands.
        let end = made.comes texts stands in
        record {
          texts = end.texts;
          stands = end.stands;
          same = none_left old.house.setup (requests_in next) end.texts (ap length none) ∙ sym end.is;
        };
  };
}
all_sent steps next old new (Err fault) made none going = record {
  under_way = tt;
  way = record { setup = made.setup; comes = made.comes };
}

-- the waiting requests were sent, and then one more of a bidder by itself
pub sent_alone : {U T : Type 0} (group next : Group) (bidder round : ℕ) (text : List ℕ) (old mid new : HubFields)
    (done : U) (result : Result T SimFault) → IsGroupUnderWay old group → ClosesNoRound text
    → MakesStep (after_group old.house.setup (requests_in group)) old.house mid.house (Ok done) → requests_in next ≡ []
    → MakesStep (λ texts. after_request mid.house.setup texts (Some bidder) round text) mid.house new.house result
    → ComesUnderWay (with_request old.house.setup (requests_in group) bidder round text) old new next result
sent_alone {T = T} group next bidder round text old mid new done result before closes made none sent =
    let last : SetupFields → Step = λ setup texts. after_request setup texts (Some bidder) round text in
    let going =
    going_after_group (requests_in group) old.house mid.house (Ok done) before.waits.requests.close before.going made in
    all_sent (with_request old.house.setup (requests_in group) bidder round text) next old new result (and_then
    (after_group old.house.setup (requests_in group)) (last old.house.setup) old.house mid.house new.house done result
    made (subst (λ (setup : SetupFields). MakesStep (last setup) mid.house new.house result) made.setup sent))
    (on_ok (requests_in next ≡ []) result none)
    (going_after_one bidder round text mid.house new.house result closes going sent)

-- a waiting request was refused
pub refused_before : {U T : Type 0} (group next : Group) (bidder round : ℕ) (text : List ℕ) (old new : HubFields)
    (fault : SimFault) → MakesStep {T = U} (after_group old.house.setup (requests_in group)) old.house new.house
    (Err fault) → ComesUnderWay {T = T}
    (with_request old.house.setup (requests_in group) bidder round text) old new next (Err fault)
refused_before group next bidder round text old new fault made = record {
  under_way = tt;
  way = record {
    setup = made.setup;
    comes = λ texts stands other. ap (λ (answer : Result Texts SimFault). answer
        >>= (λ sent. after_request old.house.setup sent (Some bidder) round text)) (made.comes texts stands other);
  };
}

-- a request that needs its body waits, on a connection opened for it
pub joined : {T : Type 0} (done : T) (old new : HubFields) (group : Group) (waiting : Vec Waiting Global)
    (one : Waiting) → IsNext old group one.written → needs_more (written_head group.text.items one.written) ≡ true
    → IsConnected old.connections new.connections one.conn → new.house ≡ old.house → waiting.items ≡ group.waiting.items
    ++ one ∷ [] → ComesUnderWay (with_turn old.house.setup group one.bidder one.round one.written) old new
    (record group { waiting = waiting }) (Ok done)
joined done old new group waiting one next needs connected front more =
    let text = group.text.items in
    let before = next.under_way in
    let is = one_more text group.waiting.items waiting.items one more in
    let Stands : Waiting → Type 0 = λ w. IsWrittenIn text w.written in
    record {
      under_way = record {
        waits = record {
          requests = subst (IsGroup new.connections) (sym is) (joined_group old.connections new.connections
              (requests_in group) (request_in text one) before.waits.requests connected needs next.closes);
          written = subst (λ (list : List Waiting). All Stands list) (sym more)
              (All-push Stands group.waiting.items one before.waits.written next.within);
        };
        going = subst IsGoing (sym front) before.going;
      };
      way = one_waits (requests_in group) (requests_in (record group { waiting = waiting })) (request_in text one)
          (written_request text one.written) old.house new.house done front is refl;
    }

-- if the group is full, it is sent
pub sent_full : {U T : Type 0} (done : U) (steps : Step) (old mid new : HubFields) (group next : Group)
    (result : Result T SimFault) → ComesUnderWay steps old mid group (Ok done)
    → MakesStep (after_group mid.house.setup (requests_in group)) mid.house new.house result
    → OnOk result (requests_in next ≡ []) → ComesUnderWay steps old new next result
sent_full {T = T} done steps old mid new group next result one made none =
    let waiting = requests_in group in
    let left = requests_in next in
    let sent = all_sent (after_group mid.house.setup waiting) next mid new result made none (going_after_group waiting
    mid.house new.house result one.under_way.waits.requests.close one.under_way.going made) in record {
      under_way = sent.under_way;
      way = way_then steps (after_group old.house.setup waiting) (after_group old.house.setup left) old.house mid.house
          new.house done result one.way (subst (λ (setup : SetupFields). MakesWay (after_group setup waiting)
          (after_group setup left) mid.house new.house result) one.way.setup sent.way);
    }

-- the script gives the same sheet before and after the requests of the group
module _ (old : HouseFields) (group : List GroupRequest) (bidder : ℕ) (script : Script)
    (close : All (λ one. ClosesNoRound (text_in one)) group) where
  abbrev given : List ClosedRound → Texts → Option (List ℕ) → Result Texts SimFault
  given closed texts put =
      after_request_if old.setup texts (Some bidder) (public_state old.setup.products closed).round put

  put_after : (texts : Texts) → StandsForTexts texts old → (answer : Result Texts SimFault)
      → after_group old.setup group texts ≡ answer → answer >>= (λ sent. given old.closed sent
      (scripted_put old.setup old.closed bidder script)) ≡ answer >>= after_put old.setup bidder script
  put_after texts stands (Err fault) is = refl
  put_after texts stands (Ok end) is =
      ap (λ (closed : List ClosedRound). given closed end (scripted_put old.setup closed bidder script))
      (stands.closed ∙ sym (group_closes_none old.setup group texts end close is))

  -- no sheet is given
  none_put : {T : Type 0} (done : T) → scripted_put old.setup old.closed bidder script ≡ None
      → MakesWay (λ texts. after_group old.setup group texts >>= after_put old.setup bidder script)
      (after_group old.setup group) old old (Ok done)
  none_put done none = record {
    setup = refl;
    comes = λ texts stands. record {
      texts = texts;
      stands = stands;
      same = sym (ended_ok (after_group old.setup group texts))
          ∙ ap (λ (put : Option (List ℕ)). after_group old.setup group texts >>= (λ sent. given old.closed sent put))
          (sym none) ∙ put_after texts stands (after_group old.setup group texts) refl;
    };
  }

  -- this sheet is given
  put_waits : {T : Type 0} (new : HouseFields) (rest : Step) (text : List ℕ) (round : ℕ) (result : Result T SimFault)
      → scripted_put old.setup old.closed bidder script ≡ Some text → round ≡ (state_in old).round
      → MakesWay (λ texts. after_group old.setup group texts
      >>= (λ sent. after_request old.setup sent (Some bidder) round text)) rest old new result
      → MakesWay (λ texts. after_group old.setup group texts >>= after_put old.setup bidder script) rest old new result
  put_waits {T = T} new rest text round result puts at made = record {
    setup = made.setup;
    comes = λ texts stands.
        let P : Result Texts SimFault → Type 0 =
        λ answer. MatchResult result (λ (_ : T). IsLeft rest answer new) (IsRefusal NoMemory answer) in
        let same : after_group old.setup group texts >>= (λ sent. after_request old.setup sent (Some bidder) round text)
        ≡ after_group old.setup group texts >>= after_put old.setup bidder script = ap (λ (k : ℕ).
        after_group old.setup group texts >>= (λ sent. after_request old.setup sent (Some bidder) k text)) at
        ∙ ap (λ (put : Option (List ℕ)). after_group old.setup group texts >>= (λ sent. given old.closed sent put))
        (sym puts) ∙ put_after texts stands (after_group old.setup group texts) refl in
        subst P same (made.comes texts stands);
  }

-- ---- a bidder's turn, with capacity for its request

module _ (hub : HubFields) (group room : Group) (text : Vec ℕ Global) (house : HouseFields) (bidder : ℕ)
    (script : Script) (written : Option Written) (before : IsGroupUnderWay hub group) (has_room : StillWait group room)
    (same : house ≡ hub.house)
    (writes : WritesIf room.text.items text.items (scripted_put house.setup house.closed bidder script) written) where
  -- the group with what was written
  abbrev pub grown : Group
  grown = record room { text = text }

  still : StillWait group grown
  still = still_twice group room grown has_room (still_wait room text
      (kept_if room.text.items text.items (scripted_put house.setup house.closed bidder script) written writes))

  puts : scripted_put hub.house.setup hub.house.closed bidder script ≡ option_map (written_request text.items) written
  puts =
      ap (λ (now : HouseFields). scripted_put now.setup now.closed bidder script) (sym same)
      ∙ reads_as room.text.items text.items (scripted_put house.setup house.closed bidder script) written writes

  -- what was written is next
  pub written_next : (one : Written) → written ≡ Some one → IsNext hub grown one
  written_next one is =
      let made = subst
      (WritesIf room.text.items text.items (scripted_put house.setup house.closed bidder script)) is writes in record {
        under_way = still_under_way hub group grown before still;
        within = made.1.within;
        closes = scripted_closes_none hub.house.setup hub.house.closed bidder script (written_request text.items one)
            (puts ∙ ap (option_map (written_request text.items)) is);
      }

  pub turn_taken : {T : Type 0} (one : Written) (round : ℕ) (new : HubFields) (last : Group)
      (result : Result T SimFault) → written ≡ Some one → round ≡ (state_in hub.house).round
      → ComesUnderWay (with_turn hub.house.setup grown bidder round one) hub new last result
      → ComesUnderWay (with_put hub.house.setup (requests_in group) bidder script) hub new last result
  turn_taken one round new last result is at made =
      let rest = after_group hub.house.setup (requests_in last) in record {
        under_way = made.under_way;
        way = put_waits hub.house (requests_in group) bidder script before.waits.requests.close new.house rest
            (written_request text.items one) round result (puts ∙ ap (option_map (written_request text.items)) is) at
            (subst (λ (requests : List GroupRequest). MakesWay (with_request hub.house.setup requests bidder round
            (written_request text.items one)) rest hub.house new.house result) (still before.waits.written).0 made.way);
      }

  -- nothing was written
  pub turn_passed : {T : Type 0} (done : T) → written ≡ None
      → ComesUnderWay (with_put hub.house.setup (requests_in group) bidder script) hub hub grown (Ok done)
  turn_passed done is = record {
    under_way = still_under_way hub group grown before still;
    way = subst (λ (requests : List GroupRequest). MakesWay (with_put hub.house.setup (requests_in group) bidder script)
        (after_group hub.house.setup requests) hub.house hub.house (Ok done)) (sym (still before.waits.written).0)
        (none_put hub.house (requests_in group) bidder script before.waits.requests.close done
        (puts ∙ ap (option_map (written_request text.items)) is));
  }

-- ---- bidder after bidder

-- the waiting requests, and then the sheets of the bidders from this one on
abbrev pub then_puts : SetupFields → List GroupRequest → ℕ → List Script → Step
then_puts setup group i scripts texts = after_group setup group texts >>= after_puts setup i scripts

in_turn : (setup : SetupFields) (i : ℕ) (script : Script) (rest : List Script) (answer : Result Texts SimFault) → answer
    >>= after_puts setup i (script ∷ rest) ≡ answer >>= after_put setup i script >>= after_puts setup (i + 1) rest
in_turn setup i script rest (Ok texts) = refl
in_turn setup i script rest (Err fault) = refl

module _ (whole : Step) (scripts : List Script) (group waiting : List GroupRequest) (i : ℕ) (script : Script)
    (initial now next : HouseFields) (below : i < length scripts) (is : script ≡ get_or scripts i script)
    (before : IsOnWay whole (then_puts initial.setup group i (drop i scripts)) initial now) where
  -- the turn, and those after it
  abbrev turn : SetupFields → Step
  turn setup texts = after_group setup group texts >>= after_put setup i script

  abbrev behind : Step
  behind = after_puts initial.setup (i + 1) (drop (i + 1) scripts)

  before_turn : IsOnWay whole (λ texts. turn initial.setup texts >>= behind) initial now
  before_turn = left_as whole (then_puts initial.setup group i (drop i scripts))
      (λ texts. turn initial.setup texts >>= behind) initial now (λ texts.
      ap (λ (rest : List Script). then_puts initial.setup group i rest texts) (next_at scripts i script below is)
      ∙ in_turn initial.setup i script (drop (i + 1) scripts) (after_group initial.setup group texts)) before

  -- a bidder's turn is over
  pub turn_over : {U : Type 0} (done : U) → MakesWay (λ texts. after_group now.setup group texts
      >>= after_put now.setup i script) (after_group now.setup waiting) now next (Ok done)
      → IsOnWay whole (then_puts initial.setup waiting (i + 1) (drop (i + 1) scripts)) initial next
  turn_over done made = way_goes_on whole (turn initial.setup)
      (after_group initial.setup waiting) behind initial now next done before_turn (subst
      (λ (setup : SetupFields). MakesWay (turn setup) (after_group setup waiting) now next (Ok done)) before.setup made)

  -- a request was refused in the turn
  pub turn_refused : {U T : Type 0} (fault : SimFault)
      → MakesWay {T = U} (λ texts. after_group now.setup group texts >>= after_put now.setup i script)
      (after_group now.setup waiting) now next (Err fault) → MakesStep {T = T} whole initial next (Err fault)
  turn_refused {U = U} {T = T} fault made = way_stops {U = U} {T = T} whole (turn initial.setup)
      (after_group initial.setup waiting) behind initial now next fault before_turn (subst (λ (setup : SetupFields).
      MakesWay {T = U} (turn setup) (after_group setup waiting) now next (Err fault)) before.setup made)

-- no request waits before the first turn
pub first_turn : (setup : SetupFields) (group : List GroupRequest) (scripts : List Script) (initial : HouseFields)
    → initial.setup ≡ setup → length group ≡ 0
    → IsOnWay (after_puts setup 0 scripts) (then_puts setup group 0 scripts) initial initial
first_turn setup group scripts initial same none = record {
  setup = refl;
  comes = λ texts stands. record {
    texts = texts;
    stands = stands;
    same = ap (λ (answer : Result Texts SimFault). answer >>= after_puts setup 0 scripts)
        (none_left setup group texts none);
  };
}

-- after the last turn the waiting requests are sent
pub last_sent : {T : Type 0} (whole : Step) (scripts : List Script) (group : List GroupRequest) (i : ℕ)
    (initial now new : HouseFields) (result : Result T SimFault) → length scripts ≤ i
    → IsOnWay whole (then_puts initial.setup group i (drop i scripts)) initial now
    → MakesStep (after_group now.setup group) now new result → MakesStep whole initial new result
last_sent {T = T} whole scripts group i initial now new result past before made = record {
  setup = made.setup ∙ before.setup;
  comes = λ texts stands.
      let way = before.comes texts stands in
      let P : Result Texts SimFault → Type 0 =
      λ answer. MatchResult result (λ (_ : T). ComesTo answer new) (IsRefusal NoMemory answer) in
      let same : after_group now.setup group way.texts ≡ whole texts =
      ap (λ (setup : SetupFields). after_group setup group way.texts) before.setup
      ∙ sym (ended_ok (after_group initial.setup group way.texts)) ∙ ap (λ (rest : List Script).
      then_puts initial.setup group i rest way.texts) (sym (drop_all i scripts past)) ∙ way.same in
      subst P same (made.comes way.texts way.stands);
}
