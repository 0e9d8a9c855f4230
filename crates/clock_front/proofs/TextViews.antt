-- Proves isolation: the reply to a bidder's own request follows from its view. By showing that the view of requests has
-- the same sheets and closings as the view of their commands, from which all that the bidder knows follows.
use Rattle.std.proofs.Common.{◌≡◌, ◌≢◌, ℕ, ◌<◌, Bool, true, false, cond, List, [], ◌∷◌, ◌++◌, length, refl, sym, ◌∙◌}
use Rattle.std.proofs.Common.{ap, arith, eqb}
use Rattle.std.proofs.Common.{eq-eqb, append-nil, append_assoc, zero-add}
use Rattle.std.specs.Prelude.{Option, Some, None, option_map, option_and_then, slice_index_or, Result, Ok, Err}
use Rattle.std.proofs.lemmas.Bool.Decides.{nat_tests}
use Rattle.std.proofs.lemmas.List.FromFn.{get_or-map-range_with_len}
use Rattle.clock_terms.specs.declared.setup.Bidder.{Bidder}
use Rattle.clock_terms.specs.Limits.{SetupFields, PublicSetup, public_setup}
use Rattle.clock_bids.specs.declared.sheet.Bid.{Bid}
use Rattle.clock_bids.specs.Holding.{Holding}
use Rattle.clock_posting.specs.declared.sheet.RoundSheet.{RoundSheet}
use Rattle.clock_house.specs.Command as command
use Rattle.clock_house.specs.Command.{Command}
use Rattle.clock_closing.specs.declared.closed_round.Slip.{Slip}
use Rattle.clock_closing.specs.declared.fault.CloseFault.{CloseFault}
use Rattle.clock_closing.specs.declared.closed_round.ClosedRound.{ClosedRound}
use Rattle.clock_house.specs.PublicState.{PublicState}
use Rattle.clock_house.specs.History.{Auction, history, bidder_at, closing_of, round_at, slip_of, public_state, holding}
use Rattle.clock_house.specs.History.{sheet_in_force, for_each_bidder}
use Rattle.clock_house.specs.View.{Seen, own_put, view_of, seen_of, seen_closing, seen_state, seen_holding}
use Rattle.clock_house.specs.View.{seen_in_force, seen_round, shown_to, IsSeen}
use Rattle.clock_house.specs.View as typed
use Rattle.clock_house.proofs.Isolation.{seen}
use Rattle.clock_views.specs.PublicPages.{round_results_value}
use Rattle.clock_views.specs.BidderPages.{bids_value, bidder_results_value}
use Rattle.clock_bodies.specs.declared.put_body.PutBody.{PutBody}
use Rattle.clock_bodies.specs.declared.close_body.CloseBody.{CloseBody}
use Rattle.clock_bodies.specs.declared.body.BodyFault.{BodyFault}
use Rattle.clock_front.specs.declared.front.callers.Caller.{Caller}
use Rattle.clock_front.specs.declared.front.callers.Caller.TheVariants as who
use Rattle.clock_front.specs.Callers.{caller, HasOwnTokens}
use Rattle.clock_http.specs.Decimals.{plain_number}
use Rattle.clock_front.specs.Requests.{Ask, request_of}
use Rattle.clock_front.specs.Requests as ask
use Rattle.clock_bodies.specs.CloseBodies.{in_version}
use Rattle.clock_front.specs.Outcomes.{done, answer_of, page_or_no_round, close_command, outcome, command_of}
use Rattle.clock_front.specs.Fronts.{text_command, commands_of, house_after}
use Rattle.clock_front.specs.Views.{SeenText, own, seen_close, is_own, closings_of, seen_of_text, text_view, sheet_put}
use Rattle.clock_front.specs.Views.{typed_view, bidder_outcome, answer}
use Rattle.clock_front.specs.inside.Knowledge.{Knowledge, known_from, known_outcome}
use Rattle.clock_front.specs.inside.Isolation.{IsAnsweredFromView, IsIsolated}
use Rattle.clock_front.proofs.CallerLaws.{caller_own, caller_other}

-- The sheets and closings of two views joined are those of each, joined.
typed_view-append : (front back : List SeenText) → typed_view (front ++ back) ≡ typed_view front ++ typed_view back
typed_view-append [] back = refl
typed_view-append (own text ∷ front) back =
    ap (λ rest. sheet_put (request_of text).ask ++ rest) (typed_view-append front back)
    ∙ sym (append_assoc (sheet_put (request_of text).ask) (typed_view front) (typed_view back))
typed_view-append (seen_close sheet slip ∷ front) back =
    ap (λ rest. typed.accepted_close sheet slip ∷ rest) (typed_view-append front back)

-- An own request is seen as the sheet that it submits.
own_put_seen : (setup : SetupFields) (b : ℕ) (auction : Auction) (round : ℕ) (sent : PutBody) →
    seen_of setup b auction (command.put b sent.round sent.bids) ≡ own_put sent.round sent.bids ∷ []
own_put_seen setup b auction round sent = ap (λ t. cond t (own_put sent.round sent.bids ∷ []) []) (eq-eqb b b refl)

own_seen : (setup : SetupFields) (b : ℕ) (auction : Auction) (asked : Ask) →
    seen_of setup b auction (command_of setup (who.Bidder b) asked) ≡ sheet_put asked
own_seen setup b auction (ask.put (Ok sent)) = own_put_seen setup b auction 0 sent
own_seen setup b auction _ = refl

-- Of others' commands the accepted closings are seen, and nothing else.
closing_seen_again : (b : ℕ) (closing : Result ClosedRound CloseFault)
    → typed_view (closings_of (seen_closing b closing)) ≡ seen_closing b closing
closing_seen_again b (Ok round) = refl
closing_seen_again b (Err fault) = refl

closing_seen_of : (setup : SetupFields) (b : ℕ) (auction : Auction) (sent : Result CloseBody BodyFault) → typed_view
    (closings_of (seen_of setup b auction (close_command sent))) ≡ seen_of setup b auction (close_command sent)
closing_seen_of setup b auction (Err fault) = refl
closing_seen_of setup b auction (Ok sent) =
    closing_seen_again b (closing_of setup auction sent.round sent.increments sent.ties)

rival_put_seen : (setup : SetupFields) (b d : ℕ) (auction : Auction) (sent : PutBody) → d ≢ b →
    seen_of setup b auction (command.put d sent.round sent.bids) ≡ []
rival_put_seen setup b d auction sent differ =
    let no : eqb d b ≡ false = grind (arith, nat_tests) in
    ap (λ t. cond t (own_put sent.round sent.bids ∷ []) []) no

other_seen : (setup : SetupFields) (b : ℕ) (auction : Auction) (author : Caller) (asked : Ask)
    → (author ≡ who.Bidder b → ⊥) → typed_view (closings_of (seen_of setup b auction (command_of setup author asked)))
    ≡ seen_of setup b auction (command_of setup author asked)
other_seen setup b auction (who.Bidder d) (ask.put (Ok sent)) not_b =
    let none = rival_put_seen setup b d auction sent (λ e. not_b (ap who.Bidder e)) in
    ap (λ xs. typed_view (closings_of xs)) none ∙ sym none
other_seen setup b auction who.Operator (ask.close sent) not_b =
    closing_seen_of setup b auction (in_version setup.version sent)
other_seen setup b auction _ _ not_b = refl

-- What is seen of one request has the same sheets and closings as what is seen of its command.
text_seen : (setup : SetupFields) (b : ℕ) (tokens : HasOwnTokens setup) → b < length setup.bidders
    → (past : List (List ℕ)) (text : List ℕ) (mine : Bool) → is_own (bidder_at setup b) text ≡ mine
    → typed_view (cond mine (own text ∷ []) (closings_of (seen_of setup b (history setup (commands_of setup past))
    (text_command setup text)))) ≡ seen_of setup b (history setup (commands_of setup past)) (text_command setup text)
text_seen setup b tokens lt past text true is = append-nil (sheet_put (request_of text).ask)
    ∙ sym (own_seen setup b (history setup (commands_of setup past)) (request_of text).ask)
    ∙ ap (λ author. seen_of setup b (history setup (commands_of setup past))
    (command_of setup author (request_of text).ask)) (sym (caller_own setup tokens b lt (request_of text).token is))
text_seen setup b tokens lt past text false is = other_seen setup b (history setup (commands_of setup past))
    (caller setup (request_of text).token) (request_of text).ask (caller_other setup b (request_of text).token is)

pub typed_view-text_view : (setup : SetupFields) (b : ℕ) (tokens : HasOwnTokens setup) → b < length setup.bidders
    → (past : List (List ℕ)) → typed_view (text_view setup b past) ≡ view_of setup b (commands_of setup past)
typed_view-text_view setup b tokens lt [] = refl
typed_view-text_view setup b tokens lt (text ∷ past) = typed_view-append (seen_of_text setup b past text)
    (text_view setup b past) ∙ ap (λ front. front ++ typed_view (text_view setup b past)) (text_seen setup b tokens lt
    past text (is_own (bidder_at setup b) text) refl) ∙ ap (λ rest. seen_of setup b (history setup
    (commands_of setup past)) (text_command setup text) ++ rest) (typed_view-text_view setup b tokens lt past)

-- ---- a reply depends on what is known of the round asked for, and of no other round
abbrev Rounds : Type 0
Rounds = ℕ → Option (RoundSheet × Slip)

module _ (setup : PublicSetup) (row : Bidder) (standing_now : PublicState) (held : Holding)
    (in_force : Option (List Bid)) (one two : Rounds) (alike : (n : ℕ) → one n ≡ two n) where
  same_bidder_results : (named : Option ℕ) → page_or_no_round (option_map
      (λ (one_seen : RoundSheet × Slip). bidder_results_value one_seen.1) (option_and_then one named))
      ≡ page_or_no_round
      (option_map (λ (one_seen : RoundSheet × Slip). bidder_results_value one_seen.1) (option_and_then two named))
  same_bidder_results None = refl
  same_bidder_results (Some n) = ap (λ found.
      page_or_no_round (option_map (λ (one_seen : RoundSheet × Slip). bidder_results_value one_seen.1) found)) (alike n)

  same_round_results : (named : Option ℕ) → page_or_no_round (option_map
      (λ (one_seen : RoundSheet × Slip). round_results_value setup one_seen.0) (option_and_then one named))
      ≡ page_or_no_round
      (option_map (λ (one_seen : RoundSheet × Slip). round_results_value setup one_seen.0) (option_and_then two named))
  same_round_results None = refl
  same_round_results (Some n) = ap (λ found.
      page_or_no_round (option_map (λ (one_seen : RoundSheet × Slip). round_results_value setup one_seen.0) found))
      (alike n)

  pub same_rounds : (asked : Ask) → known_outcome setup row
      (record { public_state = standing_now; holding = held; in_force = in_force; rounds = one }) asked ≡ known_outcome
      setup row (record { public_state = standing_now; holding = held; in_force = in_force; rounds = two }) asked
  unfolding known_outcome
  same_rounds (ask.bidder_results segment) = same_bidder_results (plain_number segment)
  same_rounds (ask.round_results segment) = same_round_results (plain_number segment)
  same_rounds (ask.put (Ok body)) = refl
  same_rounds _ = refl

-- ---- the reply to a bidder, by what it knows after all commands
module _ (setup : SetupFields) (b : ℕ) (lt : b < length setup.bidders) (commands : List Command) where
  -- What the bidder knows after all commands.
  abbrev pub known_in : Knowledge
  known_in = record {
    public_state = public_state setup.products (history setup commands).closed;
    holding = holding setup (history setup commands).closed b;
    in_force = sheet_in_force setup (history setup commands) b;
    rounds = λ n. option_map (shown_to b) (round_at n (history setup commands).closed);
  }

  slip_reported : (found : Option ClosedRound) → option_map (λ closed. bidder_results_value (slip_of b closed)) found
      ≡ option_map (λ (one_seen : RoundSheet × Slip). bidder_results_value one_seen.1) (option_map (shown_to b) found)
  slip_reported None = refl
  slip_reported (Some closed) = refl

  sheet_reported : (found : Option ClosedRound) →
      option_map (λ closed. round_results_value (public_setup setup) closed.sheet) found ≡ option_map
      (λ (one_seen : RoundSheet × Slip). round_results_value (public_setup setup) one_seen.0) (option_map
      (shown_to b) found)
  sheet_reported None = refl
  sheet_reported (Some closed) = refl

  named_bidder_results : (named : Option ℕ) → option_map (λ closed. bidder_results_value (slip_of b closed))
      (option_and_then (λ n. round_at n (history setup commands).closed) named)
      ≡ option_map (λ (one_seen : RoundSheet × Slip). bidder_results_value one_seen.1)
      (option_and_then known_in.rounds named)
  named_bidder_results None = refl
  named_bidder_results (Some n) = slip_reported (round_at n (history setup commands).closed)

  named_round_results : (named : Option ℕ) → option_map (λ closed. round_results_value
      (public_setup setup) closed.sheet)
      (option_and_then (λ n. round_at n (history setup commands).closed) named) ≡ option_map (λ (one_seen : RoundSheet
      × Slip). round_results_value (public_setup setup) one_seen.0) (option_and_then known_in.rounds named)
  named_round_results None = refl
  named_round_results (Some n) = sheet_reported (round_at n (history setup commands).closed)

  own_sheet : slice_index_or (for_each_bidder setup (sheet_in_force setup (history setup commands))) b None
      ≡ sheet_in_force setup (history setup commands) b
  own_sheet = get_or-map-range_with_len (sheet_in_force setup (history setup commands)) 0
      (length setup.bidders) b b None lt (zero-add b)

  pub reported_of_known : (asked : Ask) → outcome (house_after setup commands) (who.Bidder b) asked ≡ known_outcome
      (public_setup setup) (bidder_at setup b) known_in asked
  unfolding known_outcome
  reported_of_known (ask.bidder_results segment) = ap page_or_no_round (named_bidder_results (plain_number segment))
  reported_of_known (ask.round_results segment) = ap page_or_no_round (named_round_results (plain_number segment))
  reported_of_known ask.bids = ap (λ sheet.
      done (bids_value (public_state setup.products (history setup commands).closed).round sheet)) own_sheet
  reported_of_known (ask.put (Ok body)) = refl
  reported_of_known _ = refl

  -- The reply follows from the view of the commands.
  pub reported_of_view : (asked : Ask)
      → outcome (house_after setup commands) (who.Bidder b) asked ≡ known_outcome (public_setup setup)
      (bidder_at setup b) (known_from (public_setup setup) (bidder_at setup b) (view_of setup b commands)) asked
  reported_of_view asked =
      let is : IsSeen setup b commands = seen setup b commands in
      let public = public_setup setup in
      let row = bidder_at setup b in
      let view = view_of setup b commands in
      reported_of_known asked ∙ ap (λ s. known_outcome public row
      (record { public_state = s; holding = known_in.holding; in_force = known_in.in_force; rounds = known_in.rounds })
      asked) is.public_state ∙ ap (λ h. known_outcome public row (record {
        public_state = seen_state public view;
        holding = h;
        in_force =
            known_in.in_force;
        rounds = known_in.rounds;
      }) asked) is.holding
      ∙ ap (λ f. known_outcome public row (record {
        public_state = seen_state public view;
        holding = seen_holding public row view;
        in_force = f;
        rounds = known_in.rounds;
      }) asked) is.in_force
      ∙ same_rounds public row (seen_state public view) (seen_holding public row view)
      (seen_in_force public row view) known_in.rounds
      (λ n. seen_round n view) is.rounds asked

-- The reply computed from what a view makes known is the reply computed from the view.
reported_by_known : (setup : PublicSetup) (row : Bidder) (view : List Seen) (asked : Ask) →
    known_outcome setup row (known_from setup row view) asked ≡ bidder_outcome setup row view asked
unfolding known_outcome bidder_outcome
reported_by_known setup row view (ask.put (Ok body)) = refl
reported_by_known setup row view _ = refl

-- ---- isolation

-- The reply to an own request follows from the view.
pub reported_from_view : (setup : SetupFields) (b : ℕ) (past : List (List ℕ)) (text : List ℕ) → HasOwnTokens setup
    → b < length setup.bidders → is_own (bidder_at setup b) text ≡ true → outcome (house_after setup
    (commands_of setup past)) (caller setup (request_of text).token) (request_of text).ask ≡ bidder_outcome
    (public_setup setup) (bidder_at setup b) (typed_view (text_view setup b past)) (request_of text).ask
reported_from_view setup b past text tokens lt is = ap (λ author. outcome (house_after setup (commands_of setup past))
    author (request_of text).ask) (caller_own setup tokens b lt (request_of text).token is)
    ∙ reported_of_view setup b lt (commands_of setup past) (request_of text).ask ∙ ap (λ view.
    known_outcome (public_setup setup) (bidder_at setup b) (known_from (public_setup setup) (bidder_at setup b) view)
    (request_of text).ask) (sym (typed_view-text_view setup b tokens lt past)) ∙ reported_by_known (public_setup setup)
    (bidder_at setup b) (typed_view (text_view setup b past)) (request_of text).ask

pub answered_from_view : IsAnsweredFromView
answered_from_view setup b past text tokens lt is = ap answer_of (reported_from_view setup b past text tokens lt is)

pub isolated : IsIsolated
isolated one two b d past other_past text tokens other_tokens lb ld alike is =
    let is_other : is_own (bidder_at two d) text ≡ true = ap (λ row. is_own row text) (sym alike.row) ∙ is in
    answered_from_view one b past text tokens lb is
    ∙ ap (λ public. answer public (bidder_at one b) (text_view one b past) text) alike.public
    ∙ ap (λ row. answer (public_setup two) row (text_view one b past) text) alike.row
    ∙ ap (λ view. answer (public_setup two) (bidder_at two d) view text) alike.view
    ∙ sym (answered_from_view two d other_past text other_tokens ld is_other)
