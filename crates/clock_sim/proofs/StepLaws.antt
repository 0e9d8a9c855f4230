-- Steps of a rehearsal, one after the other: if each is made, so is the whole, and the first fault is that of the
-- whole.
use Rattle.std.proofs.Common.{◌≡◌, ◌≢◌, ℕ, ◌+◌, ◌<◌, ◌≤◌, Bool, true, false, List, [], ◌∷◌, length, drop, get_or}
use Rattle.std.proofs.Common.{Option, None, Result, Ok, Err}
use Rattle.std.proofs.Common.{refl, sym, ◌∙◌, ap, subst, inl, inr}
use Rattle.std.specs.Prelude.{MatchResult, OnOk, IfErr, if◌then◌else◌}
use Rattle.std.proofs.lemmas.List.{drop_more, drop_all}
use Rattle.clock_terms.specs.Limits.{SetupFields}
use Rattle.clock_terms.specs.Faults.{◌>>=◌, IsRefusal}
use Rattle.clock_house.specs.House.{HouseFields, state_in}
use Rattle.clock_house.specs.History.{public_state}
use Rattle.clock_closing.specs.declared.closed_round.ClosedRound.{ClosedRound}
use Rattle.clock_api.specs.declared.code.Code.{Code}
use Rattle.clock_api.specs.declared.code.Code.TheVariants.{Done, Memory}
use Rattle.clock_api.specs.Replies.{Answer}
use Rattle.clock_front.specs.Fronts.{reply, StandsForTexts}
use Rattle.clock_front.specs.inside.Answered.{AnswersAfter}
use Rattle.clock_scripts.specs.declared.fault.SimFault.{SimFault}
use Rattle.clock_scripts.specs.declared.fault.SimFault.TheVariants.{NoMemory, ClosingsSpent}
use Rattle.clock_sim.specs.Rehearsal.{if_done, refused_by, after_request, rounds_after, after_puts, after_close}
use Rattle.clock_sim.specs.Rehearsal.{after_round, rehearsed, simulated}
use Rattle.clock_reports.specs.FinalReport.{report_of}
use Rattle.clock_replays.specs.declared.replay.Script.{Script}
use Rattle.clock_replays.specs.declared.replay.Closing.{Closing}
use Rattle.clock_scripts.specs.ScriptedRequests.{scripted_close}
use Rattle.clock_sim.specs.inside.Steps.{IsGoing, IsResultByCode, ComesTo, MakesStep, IsLeft, replay_of}

abbrev pub Texts : Type 0
Texts = List (List ℕ)

abbrev pub Step : Type 0
Step = Texts → Result Texts SimFault

-- what is left of a list begins with the item at its index
pub next_at : {A : Type 0} (list : List A) (i : ℕ) (one : A) → i < length list → one ≡ get_or list i one
    → drop i list ≡ one ∷ drop (i + 1) list
next_at {A = A} list i one below is =
    drop_more list i one below ∙ ap (λ (first : A). first ∷ drop (i + 1) list) (sym is)

-- ---- one request

not_done : {T : Type 0} (code : Code) (done : T) (fault : SimFault) → code ≢ Done → if_done code done fault ≡ Err fault
not_done Done done fault other = absurd (other refl)
not_done code done fault other = refl

-- a request whose reply is done
pub request_done : (text : List ℕ) (answer : Answer) (old new : HouseFields) (sender : Option ℕ) (round : ℕ)
    → AnswersAfter text answer old new → answer.code ≡ Done → (texts : Texts) → StandsForTexts texts old
    → ComesTo (after_request old.setup texts sender round text) new
unfolding after_request
request_done text answer old new sender round answered is texts stands =
    elim (answered texts stands) [
      | inl reported ↦ (let same : (reply old.setup texts text).code
          ≡ Done = sym (ap (λ (one : Answer). one.code) reported.0) ∙ is in record {
            texts = text ∷ texts;
            is = ap (λ (code : Code). if_done code (text ∷ texts) (refused_by sender round code)) same;
            stands = reported.1;
          })
      | inr none ↦ absurd (let same : Memory ≡ Done = sym (ap (λ (one : Answer). one.code) none.0.is) ∙ is in cc)
    ]

-- a request with another reply, except out of memory
pub request_refused : (text : List ℕ) (answer : Answer) (old new : HouseFields) (sender : Option ℕ) (round : ℕ)
    → AnswersAfter text answer old new → answer.code ≢ Done → answer.code ≢ Memory → (texts : Texts) → StandsForTexts
    texts old → after_request old.setup texts sender round text ≡ Err (refused_by sender round answer.code)
unfolding after_request
request_refused text answer old new sender round answered not_good not_memory texts stands =
    elim (answered texts stands) [
      | inl reported ↦
          (let same : answer.code ≡ (reply old.setup texts text).code = ap (λ (one : Answer). one.code) reported.0 in
          ap (λ (code : Code). if_done code (text ∷ texts) (refused_by sender round code)) (sym same)
          ∙ not_done answer.code (text ∷ texts) (refused_by sender round answer.code) not_good)
      | inr none ↦ absurd (not_memory (ap (λ (one : Answer). one.code) none.0.is))
    ]

sent_by : {T : Type 0} (text : List ℕ) (answer : Answer) (old new : HouseFields) (sender : Option ℕ) (round : ℕ)
    (result : Result T SimFault) → AnswersAfter text answer old new
    → IsResultByCode answer.code (refused_by sender round answer.code) result → (texts : Texts)
    → StandsForTexts texts old → MatchResult result (λ _. ComesTo (after_request old.setup texts sender round text) new)
    (IsRefusal NoMemory (after_request old.setup texts sender round text))
sent_by text answer old new sender round (Ok done) answered reported texts stands =
    request_done text answer old new sender round answered reported texts stands
sent_by text answer old new sender round (Err fault) answered reported texts stands =
    λ other. let refused = reported other in
    request_refused text answer old new sender round answered refused.not_done refused.not_memory texts stands
    ∙ ap Err (sym refused.reported_is)

-- a request is sent
pub sent : {T : Type 0} (text : List ℕ) (answer : Answer) (code : Code) (old new : HouseFields) (sender : Option ℕ)
    (round : ℕ) (result : Result T SimFault) → AnswersAfter text answer old new → new.setup ≡ old.setup
    → code ≡ answer.code → IsResultByCode code (refused_by sender round code) result
    → MakesStep (λ texts. after_request old.setup texts sender round text) old new result
sent text answer code old new sender round result answered same is reported = record {
  setup = same;
  comes = sent_by text answer old new sender round result answered
      (subst (λ one. IsResultByCode one (refused_by sender round one) result) is reported);
}

-- out of memory, nothing is claimed
pub out_of_memory : {T : Type 0} (step : Step) (old new : HouseFields) → new.setup ≡ old.setup
    → MakesStep {T = T} step old new (Err NoMemory)
out_of_memory step old new same = record { setup = same; comes = λ texts stands other. absurd (other refl) }

-- ---- the requests of a round

-- the operator closes the round
pub round_closed : {T : Type 0} (old new : HouseFields) (closing : Closing) (text : List ℕ) (round : ℕ)
    (result : Result T SimFault) → text ≡ scripted_close old.setup old.closed closing → round ≡ (state_in old).round
    → MakesStep (λ texts. after_request old.setup texts None round text) old new result
    → MakesStep (after_close old.setup closing) old new result
round_closed old new closing text round result is at sent = record {
  setup = sent.setup;
  comes = λ texts stands.
      let P : Result Texts SimFault → Type 0 =
      λ answer. MatchResult result (λ _. ComesTo answer new) (IsRefusal NoMemory answer) in
      let same : after_request old.setup texts None round text ≡ after_close old.setup closing texts =
      ap (λ (k : ℕ). after_request old.setup texts None k text) at ∙ ap (λ (one : List ℕ). after_request old.setup texts
      None (state_in old).round one) is ∙ ap (λ (closed : List ClosedRound). after_request old.setup texts None
      (public_state old.setup.products closed).round (scripted_close old.setup closed closing)) stands.closed in
      subst P same (sent.comes texts stands);
}

-- ---- one step after the other

-- a step that is made, and one after it
pub and_then : {U T : Type 0} (first second : Step) (old mid new : HouseFields) (done : U) (result : Result T SimFault)
    → MakesStep first old mid (Ok done) → MakesStep second mid new result
    → MakesStep (λ texts. first texts >>= second) old new result
and_then first second old mid new done result one two = record {
  setup = two.setup ∙ one.setup;
  comes = λ texts stands.
      let made = one.comes texts stands in
      let P : Result Texts SimFault → Type 0 =
      λ answer. MatchResult result (λ _. ComesTo (answer >>= second) new) (IsRefusal NoMemory (answer >>= second)) in
      subst P (sym made.is) (two.comes made.texts made.stands);
}

-- if the first step has a fault, the second is not made
pub no_further : {U T : Type 0} (first second : Step) (old new : HouseFields) (fault : SimFault) → MakesStep
    {T = U} first old new (Err fault) → MakesStep {T = T} (λ texts. first texts >>= second) old new (Err fault)
no_further first second old new fault one = record {
  setup = one.setup;
  comes = λ texts stands other. ap (λ answer. answer >>= second) (one.comes texts stands other);
}

-- the sheets of a round were submitted, and it is closed
pub puts_then_close : {U T : Type 0} (scripts : List Script) (closing : Closing) (old mid new : HouseFields) (done : U)
    (result : Result T SimFault) → MakesStep (after_puts old.setup 0 scripts) old mid (Ok done) → MakesStep
    (after_close mid.setup closing) mid new result → MakesStep (after_round old.setup scripts closing) old new result
puts_then_close scripts closing old mid new done result puts closed =
    and_then (after_puts old.setup 0 scripts) (after_close old.setup closing) old mid new done result puts
    (subst (λ (setup : SetupFields). MakesStep (after_close setup closing) mid new result) puts.setup closed)

-- ---- some steps made, and others left

pub record IsOnWay (whole rest : Step) (initial now : HouseFields) : Type 0 where
  pub setup : now.setup ≡ initial.setup
  pub comes : (texts : Texts) → StandsForTexts texts initial → IsLeft rest (whole texts) now

pub begins : (whole : Step) (initial : HouseFields) → IsOnWay whole whole initial initial
begins whole initial = record {
  setup = refl;
  comes = λ texts stands. record { texts = texts; stands = stands; same = refl };
}

-- what is left, in other words
pub left_as : (whole rest other : Step) (initial now : HouseFields) → ((texts : Texts) → rest texts ≡ other texts)
    → IsOnWay whole rest initial now → IsOnWay whole other initial now
left_as whole rest other initial now alike before = record {
  setup = before.setup;
  comes = λ texts stands.
      let way = before.comes texts stands in
      record { texts = way.texts; stands = way.stands; same = sym (alike way.texts) ∙ way.same };
}

-- one step of those left is made
pub goes_on : {U : Type 0} (whole step rest : Step) (initial now next : HouseFields) (done : U) → IsOnWay whole
    (λ texts. step texts >>= rest) initial now → MakesStep step now next (Ok done) → IsOnWay whole rest initial next
goes_on whole step rest initial now next done before made = record {
  setup = made.setup ∙ before.setup;
  comes = λ texts stands.
      let way = before.comes texts stands in
      let one = made.comes way.texts way.stands in
      record { texts = one.texts; stands = one.stands; same = ap (λ answer. answer >>= rest) (sym one.is) ∙ way.same };
}

-- one step of those left has a fault
pub stops : {U T : Type 0} (whole step rest : Step) (initial now next : HouseFields) (fault : SimFault)
    → IsOnWay whole (λ texts. step texts >>= rest) initial now → MakesStep {T = U} step now next (Err fault)
    → MakesStep {T = T} whole initial next (Err fault)
stops whole step rest initial now next fault before made = record {
  setup = made.setup ∙ before.setup;
  comes = λ texts stands other.
      let way = before.comes texts stands in
      sym way.same ∙ ap (λ answer. answer >>= rest) (made.comes way.texts way.stands other);
}

-- whether the auction has ended is what the house says
ended_as : (initial now : HouseFields) (texts : Texts) (ended : Bool) → now.setup ≡ initial.setup
    → StandsForTexts texts now → (state_in now).ended ≡ ended
    → (public_state initial.setup.products (rounds_after initial.setup texts)).ended ≡ ended
ended_as initial now texts ended same stands e =
    ap (λ (setup : SetupFields). (public_state setup.products (rounds_after setup texts)).ended) (sym same)
    ∙ ap (λ (closed : List ClosedRound). (public_state now.setup.products closed).ended) (sym stands.closed) ∙ e

abbrev pub until_end : SetupFields → Step → Step
until_end setup rest closed =
    if (public_state setup.products (rounds_after setup closed)).ended then Ok closed else rest closed

until_over : (whole rest : Step) (initial now : HouseFields) (over : Bool)
    → IsOnWay whole (until_end initial.setup rest) initial now → (state_in now).ended ≡ over
    → IsOnWay whole (λ texts. if over then Ok texts else rest texts) initial now
until_over whole rest initial now over before is = record {
  setup = before.setup;
  comes = λ texts stands.
      let way = before.comes texts stands in
      let same = ended_as initial now way.texts over before.setup way.stands is in
      record {
        texts = way.texts;
        stands = way.stands;
        same = sym (ap (λ (ended : Bool). if ended then Ok way.texts else rest way.texts) same) ∙ way.same;
      };
}

goes_past : (whole rest : Step) (initial now : HouseFields) → IsOnWay whole (until_end initial.setup rest) initial now
    → (state_in now).ended ≡ false → IsOnWay whole rest initial now
goes_past whole rest initial now before going = until_over whole rest initial now false before going

-- if the auction has not ended after a step, it continues
goes_on_after : {T : Type 0} (step : Step) (old new : HouseFields) (done : T) → IsGoing old
    → MakesStep step old new (Ok done) → (state_in new).ended ≡ false → IsGoing new
goes_on_after step old new done before made going =
    let end = made.comes before.texts before.stands in
    record { going = going; texts = end.texts; stands = end.stands }

-- nothing is left
ends : {T : Type 0} (whole rest : Step) (initial now : HouseFields) (done : T) → IsOnWay whole rest initial now
    → ((texts : Texts) → rest texts ≡ Ok texts) → MakesStep whole initial now (Ok done)
ends whole rest initial now done before none = record {
  setup = before.setup;
  comes = λ texts stands.
      let way = before.comes texts stands in
      record { texts = way.texts; is = sym way.same ∙ none way.texts; stands = way.stands };
}

ends_there : {T : Type 0} (whole rest : Step) (initial now : HouseFields) (done : T) → IsOnWay whole
    (until_end initial.setup rest) initial now → (state_in now).ended ≡ true → MakesStep whole initial now (Ok done)
ends_there whole rest initial now done before over = ends whole (λ (texts : Texts). Ok texts) initial now done
    (until_over whole rest initial now true before over) (λ texts. refl)

-- a last step is made, and then the answer is a fault
spent : {U T : Type 0} (whole step : Step) (initial now next : HouseFields) (done : U) (fault : SimFault)
    → IsOnWay whole (λ texts. step texts >>= (λ put. Err fault)) initial now → MakesStep step now next (Ok done)
    → MakesStep {T = T} whole initial next (Err fault)
spent whole step initial now next done fault before made =
    let way = goes_on whole step (λ put. Err fault) initial now next done before made in record {
      setup = way.setup;
      comes = λ texts stands other. sym (way.comes texts stands).same;
    }

-- ---- round after round

module _ (whole : Step) (scripts : List Script) (closings : List Closing) (i : ℕ) (closing : Closing)
    (initial now next : HouseFields) (below : i < length closings) (is : closing ≡ get_or closings i closing)
    (before : IsOnWay whole (rehearsed initial.setup scripts (drop i closings)) initial now) where
  -- the closings after this one
  abbrev pub others : Step
  others = rehearsed initial.setup scripts (drop (i + 1) closings)

  begun : IsOnWay whole
      (λ texts. after_round initial.setup scripts closing texts >>= until_end initial.setup others) initial now
  begun = subst (λ (rest : List Closing). IsOnWay whole (rehearsed initial.setup scripts rest) initial now)
      (next_at closings i closing below is) before

  played : {U : Type 0} (done : U) → MakesStep (after_round now.setup scripts closing) now next (Ok done)
      → IsOnWay whole (until_end initial.setup others) initial next
  played done made = goes_on whole (after_round initial.setup scripts closing)
      (until_end initial.setup others) initial now next done begun (subst
      (λ (setup : SetupFields). MakesStep (after_round setup scripts closing) now next (Ok done)) before.setup made)

  -- a round is played, and the auction continues
  pub round_passed : {U : Type 0} (done : U) → MakesStep (after_round now.setup scripts closing) now next (Ok done)
      → (state_in next).ended ≡ false → IsGoing now → IsOnWay whole others initial next × IsGoing next
  round_passed done made going was_going = (
    goes_past whole others initial next (played done made) going,
    goes_on_after (after_round now.setup scripts closing) now next done was_going made going,
  )

  -- the round is the last
  pub round_ends : {U T : Type 0} (done : U) (over : T) → MakesStep (after_round now.setup scripts closing) now next
      (Ok done) → (state_in next).ended ≡ true → MakesStep whole initial next (Ok over)
  round_ends done over made ended = ends_there whole others initial next over (played done made) ended

  -- the round has a fault
  pub round_refused : {U T : Type 0} (fault : SimFault) → MakesStep {T = U}
      (after_round now.setup scripts closing) now next (Err fault) → MakesStep {T = T} whole initial next (Err fault)
  round_refused {U = U} {T = T} fault made = stops {U = U} {T = T} whole (after_round initial.setup scripts closing)
      (until_end initial.setup others) initial now next fault begun (subst (λ (setup : SetupFields). MakesStep {T = U}
      (after_round setup scripts closing) now next (Err fault)) before.setup made)

module _ (whole : Step) (scripts : List Script) (closings : List Closing) (i : ℕ) (initial now next : HouseFields)
    (past : length closings ≤ i)
    (before : IsOnWay whole (rehearsed initial.setup scripts (drop i closings)) initial now) where
  last_left : IsOnWay whole
      (λ texts. after_puts initial.setup 0 scripts texts >>= (λ put. Err ClosingsSpent)) initial now
  last_left = subst (λ (rest : List Closing). IsOnWay whole (rehearsed initial.setup scripts rest) initial now)
      (drop_all i closings past) before

  -- no closing is left
  pub closings_spent : {U T : Type 0} (done : U) → MakesStep (after_puts now.setup 0 scripts) now next (Ok done)
      → MakesStep {T = T} whole initial next (Err ClosingsSpent)
  closings_spent {T = T} done made =
      spent {T = T} whole (after_puts initial.setup 0 scripts) initial now next done ClosingsSpent last_left
      (subst (λ (setup : SetupFields). MakesStep (after_puts setup 0 scripts) now next (Ok done)) before.setup made)

  pub last_refused : {U T : Type 0} (fault : SimFault) → MakesStep {T = U} (after_puts now.setup 0 scripts) now next
      (Err fault) → MakesStep {T = T} whole initial next (Err fault)
  last_refused {U = U} {T = T} fault made = stops {U = U} {T = T} whole (after_puts initial.setup 0 scripts)
      (λ put. Err ClosingsSpent) initial now next fault last_left (subst
      (λ (setup : SetupFields). MakesStep {T = U} (after_puts setup 0 scripts) now next (Err fault)) before.setup made)

-- ---- the report

module _ (old new : HouseFields) (scripts : List Script) (closings : List Closing) where
  -- a rehearsal that is played to its end has a report
  pub reported : {U : Type 0} (result : Result U SimFault) → StandsForTexts [] old
      → MakesStep (rehearsed old.setup scripts closings) old new result
      → OnOk result (simulated (replay_of old scripts closings) ≡ Ok (report_of new.setup new.closed))
  reported (Ok done) stands made =
      let end = made.comes [] stands in
      ap (λ (answer : Result Texts SimFault). answer >>= (λ texts. Ok (report_of old.setup
      (rounds_after old.setup texts)))) end.is ∙ ap (λ (s : SetupFields). Ok (report_of s (rounds_after s end.texts)))
      (sym made.setup) ∙ ap (λ (closed : List ClosedRound). Ok (report_of new.setup closed)) (sym end.stands.closed)
  reported (Err fault) stands made = tt

  -- otherwise its fault is returned
  pub faulted : {U : Type 0} (result : Result U SimFault) → StandsForTexts [] old → MakesStep (rehearsed old.setup
      scripts closings) old new result → IfErr result (IsRefusal NoMemory (simulated (replay_of old scripts closings)))
  faulted (Ok done) stands made = tt
  faulted (Err fault) stands made = λ other. ap (λ (answer : Result Texts SimFault). answer
      >>= (λ texts. Ok (report_of old.setup (rounds_after old.setup texts)))) (made.comes [] stands other)
