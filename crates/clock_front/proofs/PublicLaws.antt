-- Proves that the reply to a request with no valid token follows from the public set-up and the round results. By
-- computing that reply from these only.
use Rattle.std.proofs.Common.{◌≡◌, ℕ, zero, suc, List, [], ◌∷◌, ◌++◌, map, refl, sym, ◌∙◌, ap}
use Rattle.std.specs.Prelude.{Option, Some, None, option_map, option_and_then, reverse, slice_get}
use Rattle.std.proofs.lemmas.List.{map-append}
use Rattle.std.proofs.lemmas.Option.{slice_get-map}
use Rattle.clock_terms.specs.declared.setup.Product.{Product}
use Rattle.clock_terms.specs.Limits.{SetupFields, PublicSetup, public_setup}
use Rattle.clock_posting.specs.declared.sheet.RoundSheet.{RoundSheet}
use Rattle.clock_closing.specs.declared.closed_round.ClosedRound.{ClosedRound}
use Rattle.clock_house.specs.Command.{Command}
use Rattle.clock_house.specs.PublicState.{PublicState, first_state, state_after}
use Rattle.clock_house.specs.History.{history, public_state, round_at}
use Rattle.clock_house.proofs.Numbers.{reverse_cons}
use Rattle.clock_http.specs.Decimals.{plain_number}
use Rattle.clock_api.specs.declared.code.Code.TheVariants.{Token}
use Rattle.clock_views.specs.Refusals.{bare}
use Rattle.clock_views.specs.PublicPages.{status_value, products_value, round_results_value}
use Rattle.clock_front.specs.declared.front.callers.Caller.TheVariants.{Nobody}
use Rattle.clock_front.specs.Requests.{Ask, request_of}
use Rattle.clock_front.specs.Requests as asked
use Rattle.clock_front.specs.Outcomes.{Outcome, answer_of, done, refused, not_allowed, outcome, page_or_no_round}
use Rattle.clock_front.specs.Fronts.{commands_of, house_after, reply}
use Rattle.clock_front.specs.Views.{HasNoValidToken, public_view}

-- The state of the auction, from its round results.
abbrev standing_by : List Product → List RoundSheet → PublicState
standing_by products [] = first_state products
standing_by products (last ∷ earlier) = state_after last

-- The reply to a request with no valid token, from the public set-up and the round results.
abbrev public_outcome : PublicSetup → List RoundSheet → Ask → Outcome
public_outcome setup sheets (asked.turned_away why) = refused (bare why)
public_outcome setup sheets (asked.no_method page) = not_allowed page
public_outcome setup sheets asked.status =
    done (status_value setup (standing_by setup.products sheets).round (standing_by setup.products sheets).ended)
public_outcome setup sheets asked.products = done (products_value setup)
public_outcome setup sheets (asked.round_results segment) =
    page_or_no_round (option_map (round_results_value setup) (option_and_then (λ n. round_at n sheets)
    (plain_number segment)))
public_outcome setup sheets _ = refused (bare Token)

abbrev sheet_of : ClosedRound → RoundSheet
sheet_of closed = closed.sheet

standing_shown : (products : List Product) (closed : List ClosedRound)
    → public_state products closed ≡ standing_by products (map sheet_of closed)
standing_shown products [] = refl
standing_shown products (last ∷ rounds) = refl

-- ---- the round results of a round

reversed : (closed : List ClosedRound) → map sheet_of (reverse closed) ≡ reverse (map sheet_of closed)
reversed [] = refl
reversed (last ∷ rounds) = ap (map sheet_of) (reverse_cons last rounds)
    ∙ map-append sheet_of (reverse rounds) (last ∷ []) ∙ ap (λ sheets. sheets ++ sheet_of last ∷ []) (reversed rounds)
    ∙ sym (reverse_cons (sheet_of last) (map sheet_of rounds))

sheet_shown : (n : ℕ) (closed : List ClosedRound)
    → option_map sheet_of (round_at n closed) ≡ round_at n (map sheet_of closed)
sheet_shown zero closed = refl
sheet_shown (suc n) closed =
    sym (slice_get-map sheet_of (reverse closed) n) ∙ ap (λ sheets. slice_get sheets n) (reversed closed)

page_of_sheet : (setup : PublicSetup) (found : Option ClosedRound) → option_map
    (λ closed. round_results_value setup closed.sheet) found ≡ option_map (round_results_value setup)
    (option_map sheet_of found)
page_of_sheet setup None = refl
page_of_sheet setup (Some closed) = refl

named_sheet : (setup : PublicSetup) (closed : List ClosedRound) (named : Option ℕ) →
    option_map (λ closed. round_results_value setup closed.sheet) (option_and_then (λ n. round_at n closed) named)
    ≡ option_map (round_results_value setup) (option_and_then (λ n. round_at n (map sheet_of closed)) named)
named_sheet setup closed None = refl
named_sheet setup closed (Some n) =
    page_of_sheet setup (round_at n closed) ∙ ap (option_map (round_results_value setup)) (sheet_shown n closed)

-- ---- replies to requests with no valid token

reported_of_public : (setup : SetupFields) (commands : List Command) (ask : Ask) → outcome (house_after setup commands)
    Nobody ask ≡ public_outcome (public_setup setup) (map sheet_of (history setup commands).closed) ask
reported_of_public setup commands asked.status = ap (λ now. done (status_value
    (public_setup setup) now.round now.ended)) (standing_shown setup.products (history setup commands).closed)
reported_of_public setup commands (asked.round_results segment) =
    ap page_or_no_round (named_sheet (public_setup setup) (history setup commands).closed (plain_number segment))
reported_of_public setup commands _ = refl

answered_from_public : (setup : SetupFields) (past : List (List ℕ)) (text : List ℕ) → HasNoValidToken setup text → reply
    setup past text ≡ answer_of (public_outcome (public_setup setup) (public_view setup past) (request_of text).ask)
answered_from_public setup past text none =
    ap (λ who. answer_of (outcome (house_after setup (commands_of setup past)) who (request_of text).ask)) none
    ∙ ap answer_of (reported_of_public setup (commands_of setup past) (request_of text).ask)

-- If everyone sees the same in two runs, a request with no valid token gets the same reply in both.
pub reported_alike : (one two : SetupFields) (past other_past : List (List ℕ)) (text : List ℕ)
    → HasNoValidToken one text → HasNoValidToken two text → public_setup one ≡ public_setup two
    → public_view one past ≡ public_view two other_past → reply one past text ≡ reply two other_past text
reported_alike one two past other_past text none other_none public seen =
    answered_from_public one past text none
    ∙ ap (λ setup. answer_of (public_outcome setup (public_view one past) (request_of text).ask)) public
    ∙ ap (λ view. answer_of (public_outcome (public_setup two) view (request_of text).ask)) seen
    ∙ sym (answered_from_public two other_past text other_none)
