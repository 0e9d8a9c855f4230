-- Proves that a house that stands for commands gives the replies that follow from these commands, and that refusals of
-- a head or a length have constant bytes. By the framing of a request.
use Rattle.std.proofs.Common.{◌≡◌, true, List, ℕ, Option, None, Ok, Err, Result, refl, sym, ◌∙◌, ap, subst}
use Rattle.std.specs.Prelude.{option_and_then}
use Rattle.clock_terms.specs.Limits.{SetupFields}
use Rattle.clock_house.specs.Command.{Command, other}
use Rattle.clock_closing.specs.declared.closed_round.ClosedRound.{ClosedRound}
use Rattle.clock_house.specs.History.{history}
use Rattle.clock_house.specs.House.{HouseFields, StandsFor}
use Rattle.clock_bids.specs.declared.sheet.Bid.{Bid}
use Rattle.clock_api.specs.declared.code.Code.{Code}
use Rattle.clock_http.specs.Framing.{Head, Framing, incomplete, refusal, whole, framing, is_incomplete, needs_more}
use Rattle.clock_http.proofs.FramedLaws.{refused_by, whole_head}
use Rattle.std.specs.Prelude.{IfOk, OnErr, OnOk}
use Rattle.clock_views.specs.Refusals.{bare}
use Rattle.clock_views.specs.RefusalPage.{refusal_bytes}
use Rattle.clock_views.proofs.Codes.{refusal_in_bytes}
use Rattle.clock_api.specs.Replies.{Answer, reply_bytes}
use Rattle.clock_front.specs.FixedReplies.{cut_short}
use Rattle.clock_front.specs.inside.FixedReplies.{refusal_of, is_fixed}
use Rattle.clock_front.specs.Callers.{caller}
use Rattle.clock_front.specs.Requests.{Ask, Request, ask_of, ask_by_route, request_of, turned_away}
use Rattle.clock_api.specs.Routes.{page_of}
use Rattle.clock_front.specs.declared.front.callers.Caller.{Caller}
use Rattle.clock_front.specs.Outcomes.{Outcome, outcome, answer_of, refused, command_of}
use Rattle.clock_front.specs.Fronts.{house_after}
use Rattle.clock_front.proofs.OutcomeLaws.{away_other}

-- A request that is refused for its head or its length has one of the constant replies.
pub refused_fixed : (text : List ℕ) (code : Code) → framing text ≡ refusal code → is_fixed code ≡ true
refused_fixed text code is = refused_by (λ (c : Code). is_fixed c ≡ true) refl refl refl refl refl text code is

-- A request that needs more is incomplete.
pub needs_by_test : (text : List ℕ) → needs_more text ≡ true → framing text ≡ incomplete
needs_by_test text more = by (framing text) more
  where
    by : (is : Framing) → is_incomplete is ≡ true → is ≡ incomplete
    by incomplete more = refl
    by (refusal code) more = absurd cc
    by (whole head body) more = absurd cc

-- ---- what a house that stands for commands replies

abbrev shown_by : SetupFields → Caller → Ask → List ClosedRound → List (Option (List Bid)) → Outcome
shown_by setup caller ask closed sheets =
    outcome (record { setup = setup; closed = closed; sheets = sheets; spare = 0 }) caller ask

-- A house that stands for commands gives the replies that follow from these commands.
pub outcome_after : (house : HouseFields) (commands : List Command) (caller : Caller) (ask : Ask)
    → StandsFor commands house → outcome house caller ask ≡ outcome (house_after house.setup commands) caller ask
outcome_after house commands caller ask stands =
    ap (λ closed. shown_by house.setup caller ask closed house.sheets) stands.closed
    ∙ ap (shown_by house.setup caller ask (history house.setup commands).closed) stands.sheets

-- ---- what a request asks for, by its framing

pub whole_request : (text : List ℕ) (head : Head) (body : List ℕ) → whole head body ≡ framing text
    → record { token = head.token; ask = ask_by_route (page_of head.path) head body } ≡ request_of text
unfolding request_of
whole_request text head body is =
    let request : Option (List ℕ) → Ask → Request = λ token ask. record { token = token; ask = ask } in
    sym (ap (λ h. request (option_and_then (λ head. head.token) h) (ask_of (framing text)))
    (whole_head text head body (sym is)) ∙ ap (λ f. request head.token (ask_of f)) (sym is))

pub ask_by : (text : List ℕ) (f : Framing) → f ≡ framing text → ask_of f ≡ (request_of text).ask
unfolding request_of
ask_by text f is = ap ask_of is

-- A request that is turned away by its bytes or its path gets the refusal with that code.
pub away_reported : (house : HouseFields) (who : Caller) (text : List ℕ) (f : Framing) (code : Code) → f ≡ framing text
    → ask_of f ≡ turned_away code
    → answer_of (refused (bare code)) ≡ answer_of (outcome house who (request_of text).ask)
away_reported house who text f code is away =
    ap (λ ask. answer_of (outcome house who ask)) (sym away ∙ ask_by text f is)

-- Such a request is no command.
pub away_command : (setup : SetupFields) (who : Caller) (text : List ℕ) (f : Framing) (code : Code) → f ≡ framing text
    → ask_of f ≡ turned_away code → command_of setup who (request_of text).ask ≡ other
away_command setup who text f code is away =
    ap (command_of setup who) (sym (ask_by text f is) ∙ away) ∙ away_other setup who code

-- A fact about the sender of a complete request and what it asks for is a fact about the request's bytes.
pub of_text : (setup : SetupFields) (text : List ℕ) (P : Caller → Ask → Type 0) (who : Caller) (ask : Ask) (head : Head)
    (body : List ℕ) → who ≡ caller setup head.token → ask ≡ ask_by_route (page_of head.path) head body
    → whole head body ≡ framing text → P who ask → P (caller setup (request_of text).token) (request_of text).ask
of_text setup text P who ask head body sender asks is holds =
    subst (λ request. P (caller setup request.token) request.ask) (whole_request text head body is)
    (subst (λ a. P (caller setup head.token) a) asks (subst (λ w. P w ask) sender holds))

-- The code of the reply to a request that is refused for its head or its length.
pub refused_code : (house : HouseFields) (who : Caller) (text : List ℕ) (code : Code) → framing text ≡ refusal code
    → (answer_of (outcome house who (request_of text).ask)).code ≡ code
refused_code house who text code is =
    ap (λ ask. (answer_of (outcome house who ask)).code) (sym (ask_by text (refusal code) (sym is)))

-- ---- facts about a reply, moved to an equal one

pub reported_as : {N : Type 0} (reported : Result Answer N) (a b : Answer) → a ≡ b → IfOk reported (λ reply. reply ≡ a)
    → IfOk reported (λ reply. reply ≡ b)
reported_as (Ok reply) a b same is = is ∙ same
reported_as (Err e) a b same is = tt

pub if_done : {A N : Type 0} {P : Type 0} (reported : Result A N) → P → OnOk reported P
if_done (Ok reply) is = is
if_done (Err e) is = tt

pub if_refused : {A N : Type 0} {P : Type 0} (reported : Result A N) → P → OnErr reported P
if_refused (Ok reply) is = tt
if_refused (Err e) is = is

-- The bytes of a refusal with only a code.
abbrev pub constant_bytes : Code → List ℕ
constant_bytes code = reply_bytes code None (refusal_bytes (bare code))

pub constant_reply : (code : Code) → constant_bytes code ≡ (refusal_of code).bytes
constant_reply code = ap (reply_bytes code None) (sym (refusal_in_bytes (bare code)))

-- The reply to a request that was incomplete when its input ended.
pub answered_cut_short : (house : HouseFields) (who : Caller) (text : List ℕ) → needs_more text ≡ true
    → answer_of (outcome house who (request_of text).ask) ≡ cut_short
answered_cut_short house who text is =
    ap (λ ask. answer_of (outcome house who ask)) (sym (ask_by text incomplete (sym (needs_by_test text is))))
