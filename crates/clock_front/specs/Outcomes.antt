-- The reply that the rules give to each request, and the command that a request is.
--     Outcome      a page, a refusal, or a refusal of the method
--     answer_of outcome      its code and its bytes
--     to_bidder caller page, to_operator caller page      a page only for bidders, or the operator
--     outcome house caller ask      the reply to a sender who asks for this
--     command_of setup caller ask      the command that the request is
use Rattle.std.specs.Prelude.{ℕ, List, length, Option, Some, None, option_map, option_and_then}
use Rattle.std.specs.Prelude.{Result, Ok, Err, slice_index_or}
use Rattle.serde_json.specs.Data.{Data}
use Rattle.serde_json.specs.Written.{compact_text}
use Rattle.clock_terms.specs.Limits.{SetupFields, public_setup}
use Rattle.clock_house.specs.Command.{Command}
use Rattle.clock_house.specs.Command as command
use Rattle.clock_house.specs.History.{bidder_at, slip_of, round_at}
use Rattle.clock_closing.specs.declared.closed_round.ClosedRound.{ClosedRound}
use Rattle.clock_house.specs.House.{HouseFields, state_in, holding_in, put_fault_in, closing_in}
use Rattle.clock_house.specs.declared.fault.PutFault.{PutFault}
use Rattle.clock_closing.specs.declared.fault.CloseFault.{CloseFault}
use Rattle.clock_api.specs.declared.code.Code.{Code}
use Rattle.clock_api.specs.declared.code.Code.TheVariants as code
use Rattle.clock_views.specs.Refusals.{Shown, bare, shown_put, shown_close}
use Rattle.clock_views.specs.RefusalPage.{refusal_value}
use Rattle.clock_views.specs.PublicPages.{status_value, products_value, round_results_value}
use Rattle.clock_views.specs.BidderPages.{account_value, bids_value, accepted_value}
use Rattle.clock_views.specs.BidderPages.{bidder_results_value}
use Rattle.clock_views.specs.OperatorPages.{closed_value, results_value}
use Rattle.clock_api.specs.declared.routes.Page.{Page}
use Rattle.clock_front.specs.declared.front.callers.Caller.{Caller}
use Rattle.clock_front.specs.declared.front.callers.Caller.TheVariants.{Nobody, Operator, Bidder}
use Rattle.clock_bodies.specs.declared.put_body.PutBody.{PutBody}
use Rattle.clock_bodies.specs.declared.close_body.CloseBody.{CloseBody}
use Rattle.clock_bodies.specs.declared.body.BodyFault.{BodyFault}
use Rattle.clock_bodies.specs.declared.body.BodyFault.TheVariants.{NotJson, Shape, NoMemory}
use Rattle.clock_bodies.specs.CloseBodies.{in_version}
use Rattle.clock_http.specs.Decimals.{plain_number}
use Rattle.clock_api.specs.Replies.{Answer, reply_bytes}
use Rattle.clock_front.specs.Requests.{Ask}
use Rattle.clock_front.specs.Requests as asked

-- A page, a refusal, or a refusal because the page does not have this method.
pub data Outcome : Type 0 where
  done : Data → Outcome
  refused : Shown → Outcome
  not_allowed : Page → Outcome

-- A reply with a page as its body. `allowed` is the page whose methods the head lists, if any.
abbrev pub with_page : Code → Option Page → Data → Answer
with_page code allowed value =
    record { code = code; bytes = reply_bytes code allowed (compact_text value) }

abbrev pub answer_of : Outcome → Answer
answer_of (done value) = with_page code.Done None value
answer_of (refused shown) = with_page shown.code None (refusal_value shown)
answer_of (not_allowed page) = with_page code.Method (Some page) (refusal_value (bare code.Method))

-- A page only for bidders. No valid token is refused as `token`, the operator as `role`.
abbrev pub to_bidder : Caller → (ℕ → Outcome) → Outcome
to_bidder Nobody outcome_of = refused (bare code.Token)
to_bidder Operator outcome_of = refused (bare code.Role)
to_bidder (Bidder bidder) outcome_of = outcome_of bidder

-- A page only for the operator. No valid token is refused as `token`, a bidder as `role`.
abbrev pub to_operator : Caller → Outcome → Outcome
to_operator Nobody outcome_of = refused (bare code.Token)
to_operator (Bidder bidder) outcome_of = refused (bare code.Role)
to_operator Operator outcome_of = outcome_of

-- The code that refuses a body: not JSON, JSON of another shape, or out of memory.
abbrev pub body_code : BodyFault → Code
body_code NotJson = code.BadJson
body_code Shape = code.Shape
body_code NoMemory = code.Memory

-- ---- pages of one round

-- The closed round whose number is the last part of a path, as a decimal number.
abbrev pub round_in : HouseFields → List ℕ → Option ClosedRound
round_in house segment = option_and_then (λ n. round_at n house.closed) (plain_number segment)

-- The page of a round, or the refusal `no_round` if that round is not closed.
abbrev pub page_or_no_round : Option Data → Outcome
page_or_no_round None = refused (bare code.NoRound)
page_or_no_round (Some value) = done value

-- ---- replies to changes

-- The reply to a sheet: accepted, with its round and number of bids, or its first fault.
abbrev pub put_outcome : PutBody → Option PutFault → Outcome
put_outcome body None = done (accepted_value body.round (length body.bids))
put_outcome body (Some fault) = refused (shown_put fault)

-- The reply to a closing: the round is closed, or it is refused for the first fault.
abbrev pub close_outcome : ℕ → Result ClosedRound CloseFault → Outcome
close_outcome round (Ok closed) = done (closed_value round closed.sheet.ended)
close_outcome round (Err fault) = refused (shown_close fault)

-- The reply to a sheet of a bidder. A body that is not a sheet is refused for that.
abbrev pub put_to : HouseFields → ℕ → Result PutBody BodyFault → Outcome
put_to house bidder (Err fault) = refused (bare (body_code fault))
put_to house bidder (Ok body) = put_outcome body (put_fault_in house bidder body.round body.bids)

-- The reply to a closing of the operator. A body that is not a closing is refused for that.
abbrev pub close_to : HouseFields → Result CloseBody BodyFault → Outcome
close_to house (Err fault) = refused (bare (body_code fault))
close_to house (Ok body) =
    close_outcome body.round (closing_in house body.round body.increments body.ties)

-- ---- the reply to each request

-- The reply to a sender who asks for this. Pages for everyone do not depend on the sender.
abbrev pub outcome_of : HouseFields → Caller → Ask → Outcome
outcome_of house caller (asked.turned_away why) = refused (bare why)
outcome_of house caller (asked.no_method page) = not_allowed page
outcome_of house caller asked.status = done
    (status_value (public_setup house.setup) (state_in house).round (state_in house).ended)
outcome_of house caller asked.products = done (products_value (public_setup house.setup))
outcome_of house caller (asked.round_results segment) = page_or_no_round (option_map
    (λ closed. round_results_value (public_setup house.setup) closed.sheet)
    (round_in house segment))
outcome_of house caller asked.account = to_bidder caller
    (λ bidder. done (account_value house.setup.products (bidder_at house.setup bidder).name
    (state_in house).round (holding_in house bidder) (state_in house).ended))
outcome_of house caller asked.bids = to_bidder caller (λ bidder.
    done (bids_value (state_in house).round (slice_index_or house.sheets bidder None)))
outcome_of house caller (asked.put body) = to_bidder caller (λ bidder. put_to house bidder body)
outcome_of house caller (asked.bidder_results segment) = to_bidder caller
    (λ bidder. page_or_no_round
    (option_map (λ closed. bidder_results_value (slip_of bidder closed)) (round_in house segment)))
outcome_of house caller (asked.close body) =
    to_operator caller (close_to house (in_version house.setup.version body))
outcome_of house caller asked.results = to_operator caller (done (results_value house))

-- The reply by the house's state. It does not depend on memory allocated for further rounds.
abbrev pub outcome : HouseFields → Caller → Ask → Outcome
outcome house caller ask = outcome_of
    (record { setup = house.setup; closed = house.closed; sheets = house.sheets; spare = 0 }) caller
    ask

-- ---- the command that a request is

-- A bidder's sheet as a command. A body that is not a sheet is no command.
abbrev pub put_command : ℕ → Result PutBody BodyFault → Command
put_command bidder (Err fault) = command.other
put_command bidder (Ok body) = command.put bidder body.round body.bids

-- The operator's closing as a command. A body that is not a closing is no command.
abbrev pub close_command : Result CloseBody BodyFault → Command
close_command (Err fault) = command.other
close_command (Ok body) = command.close body.round body.increments body.ties

-- A bidder's sheet, or the operator's closing. Every other request changes nothing.
abbrev pub command_of : SetupFields → Caller → Ask → Command
command_of setup (Bidder bidder) (asked.put body) = put_command bidder body
command_of setup Operator (asked.close body) = close_command (in_version setup.version body)
command_of setup _ _ = command.other
