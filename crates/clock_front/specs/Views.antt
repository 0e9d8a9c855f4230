-- What one bidder sees of a list of requests, and the reply computed from that. What everyone sees.
--     is_own row text      the request is the bidder's own: it has the bidder's token
--     SeenText      an own request; or an accepted closing, as its round results and own results
--     text_view setup bidder past      all that the bidder sees of these requests, newest first
--     bidder_outcome setup row view ask      the bidder's reply, from its sheets and the closings
--     answer setup row view text      the reply to an own request; no rival is an argument
--     HasNoValidToken setup text      the request has no token, or none of the set-up
--     public_view setup past      what everyone sees: the round results of the closed rounds
use Rattle.std.specs.Prelude.{◌≡◌, ℕ, Bool, false, List, [], ◌∷◌, ◌++◌, map, if◌then◌else◌, Option}
use Rattle.std.specs.Prelude.{option_map, option_and_then, Ok, Err}
use Rattle.std.specs.Option.{option_map_or}
use Rattle.clock_terms.specs.declared.setup.Bidder.{Bidder}
use Rattle.clock_terms.specs.Limits.{SetupFields, PublicSetup}
use Rattle.clock_posting.specs.declared.sheet.RoundSheet.{RoundSheet}
use Rattle.clock_closing.specs.declared.closed_round.Slip.{Slip}
use Rattle.clock_house.specs.PublicState.{put_fault}
use Rattle.clock_house.specs.History.{history, bidder_at}
use Rattle.clock_house.specs.View.{Seen, seen_of, seen_state, seen_holding, seen_in_force}
use Rattle.clock_house.specs.View.{seen_round}
use Rattle.clock_house.specs.View as typed
use Rattle.clock_api.specs.declared.code.Code.TheVariants as code
use Rattle.clock_views.specs.Refusals.{bare}
use Rattle.clock_views.specs.PublicPages.{status_value, products_value, round_results_value}
use Rattle.clock_views.specs.BidderPages.{account_value, bids_value, bidder_results_value}
use Rattle.clock_api.specs.Bytes.{same_bytes}
use Rattle.clock_http.specs.Decimals.{plain_number}
use Rattle.clock_api.specs.Replies.{Answer}
use Rattle.clock_front.specs.declared.front.callers.Caller.TheVariants.{Nobody}
use Rattle.clock_front.specs.Callers.{caller}
use Rattle.clock_front.specs.Requests.{Ask, request_of}
use Rattle.clock_front.specs.Requests as asked
use Rattle.clock_front.specs.Outcomes.{Outcome, done, refused, not_allowed, answer_of, body_code}
use Rattle.clock_front.specs.Outcomes.{page_or_no_round, put_outcome}
use Rattle.clock_front.specs.Fronts.{text_command, commands_of}

-- The head of the request has the bidder's token, on whatever path, even if the request is refused
-- or cut short after its head. A head that is malformed, too long, or cut short has no token.
abbrev pub is_own : Bidder → List ℕ → Bool
is_own row text = option_map_or (same_bytes row.token) (request_of text).token false

-- ---- what a bidder sees

-- An own request; or an accepted closing, as the round results and this bidder's results.
pub data SeenText : Type 0 where
  own : List ℕ → SeenText
  seen_close : RoundSheet → Slip → SeenText

-- Of others' commands a bidder sees the accepted closings, and nothing else.
abbrev pub closings_of : List Seen → List SeenText
closings_of [] = []
closings_of (typed.own_put round bids ∷ rest) = closings_of rest
closings_of (typed.accepted_close sheet slip ∷ rest) = seen_close sheet slip ∷ closings_of rest

-- What the bidder sees of one request, which came after the requests of the past.
abbrev pub seen_of_text : SetupFields → ℕ → List (List ℕ) → List ℕ → List SeenText
seen_of_text setup bidder past text =
    if is_own (bidder_at setup bidder) text then own text ∷ [] else closings_of
    (seen_of setup bidder (history setup (commands_of setup past)) (text_command setup text))

-- The bidder's view: what it sees of all requests, newest first.
abbrev pub text_view : SetupFields → ℕ → List (List ℕ) → List SeenText
text_view setup bidder [] = []
text_view setup bidder (text ∷ past) =
    seen_of_text setup bidder past text ++ text_view setup bidder past

-- The sheet that an own request submits, if it does.
abbrev pub sheet_put : Ask → List Seen
sheet_put (asked.put (Ok body)) = typed.own_put body.round body.bids ∷ []
sheet_put _ = []

-- The bidder's sheets and the closings in its view.
abbrev pub typed_view : List SeenText → List Seen
typed_view [] = []
typed_view (own text ∷ earlier) = sheet_put (request_of text).ask ++ typed_view earlier
typed_view (seen_close sheet slip ∷ earlier) = typed.accepted_close sheet slip ∷ typed_view earlier

-- ---- the reply to a bidder

-- The closed round whose number is the last part of a path, as the bidder sees it.
abbrev pub round_of_segment : List Seen → List ℕ → Option (RoundSheet × Slip)
round_of_segment view segment = option_and_then (λ n. seen_round n view) (plain_number segment)

-- The reply to a bidder: the pages for everyone, its own pages, and the replies to its sheets. All
-- are computed from the public set-up, its row, and its view. The operator's pages are refused.
unfoldable pub bidder_outcome : PublicSetup → Bidder → List Seen → Ask → Outcome
bidder_outcome setup row view (asked.turned_away why) = refused (bare why)
bidder_outcome setup row view (asked.no_method page) = not_allowed page
bidder_outcome setup row view asked.status =
    done (status_value setup (seen_state setup view).round (seen_state setup view).ended)
bidder_outcome setup row view asked.products = done (products_value setup)
bidder_outcome setup row view (asked.round_results segment) =
    page_or_no_round (option_map (λ seen. round_results_value setup seen.0)
    (round_of_segment view segment))
bidder_outcome setup row view asked.account = done (account_value setup.products row.name
    (seen_state setup view).round (seen_holding setup row view) (seen_state setup view).ended)
bidder_outcome setup row view asked.bids =
    done (bids_value (seen_state setup view).round (seen_in_force setup row view))
bidder_outcome setup row view (asked.put (Err fault)) = refused (bare (body_code fault))
bidder_outcome setup row view (asked.put (Ok body)) = put_outcome body
    (put_fault setup (seen_state setup view) (seen_holding setup row view) body.round body.bids)
bidder_outcome setup row view (asked.bidder_results segment) =
    page_or_no_round (option_map (λ seen. bidder_results_value seen.1)
    (round_of_segment view segment))
bidder_outcome setup row view (asked.close body) = refused (bare code.Role)
bidder_outcome setup row view asked.results = refused (bare code.Role)

-- The reply to a bidder's own request, by the public set-up, the bidder's row, and its view.
abbrev pub answer : PublicSetup → Bidder → List SeenText → List ℕ → Answer
answer setup row view text =
    answer_of (bidder_outcome setup row (typed_view view) (request_of text).ask)

-- ---- what everyone sees

-- The request has no valid token: its head has none of the set-up, or is no whole, well-formed
-- head.
abbrev pub HasNoValidToken : SetupFields → List ℕ → Type 0
HasNoValidToken setup text = caller setup (request_of text).token ≡ Nobody

-- The public view: the round results of the closed rounds, newest first. They have the prices, and
-- aggregate demand if it is above supply.
abbrev pub public_view : SetupFields → List (List ℕ) → List RoundSheet
public_view setup past =
    map (λ closed. closed.sheet) (history setup (commands_of setup past)).closed
