-- What running out of memory may reveal. The page of a reply is allocated by one call that gets
-- only the page's size, and that size follows from the reply. So its failure reveals only the state
-- of the system's memory.
--     asks_for_page caller ask      the request can only be answered by a page, without a change
--     reply_room ask outcome      how many bytes are allocated for the page of the reply
--     FailsByAllocation text house why      a request for a page fails only if this
--         allocation failed
--     FailsByPrivateAllocation text house why      for a bidder's own request, its size
--         follows from the view
use Rattle.std.specs.Prelude.{◌≡◌, ◌<◌, ℕ, Bool, true, false, List, length}
use Rattle.serde_json.specs.Data.{Data}
use Rattle.serde_json.specs.Written.{compact_text}
use Rattle.clock_terms.specs.Limits.{public_setup}
use Rattle.clock_house.specs.House.{HouseFields}
use Rattle.clock_house.specs.History.{bidder_at}
use Rattle.clock_views.specs.Rooms.{most_text}
use Rattle.clock_front.specs.Callers.{caller}
use Rattle.clock_front.specs.declared.front.callers.Caller.{Caller}
use Rattle.clock_front.specs.declared.front.callers.Caller.TheVariants.{Nobody, Operator, Bidder}
use Rattle.clock_front.specs.Requests.{Ask, request_of}
use Rattle.clock_front.specs.Requests as asked
use Rattle.clock_front.specs.Outcomes.{Outcome, done, refused, not_allowed, outcome}
use Rattle.clock_front.specs.Fronts.{StandsForTexts}
use Rattle.clock_front.specs.Views.{is_own, text_view, typed_view, bidder_outcome}
use Rattle.clock_front.specs.declared.front.replies.AnswerError.{AnswerError}
use Rattle.clock_front.specs.declared.front.replies.AnswerError.TheVariants.{Room}

-- The sender is not a bidder.
abbrev pub is_no_bidder : Caller → Bool
is_no_bidder Nobody = true
is_no_bidder Operator = true
is_no_bidder (Bidder bidder) = false

-- The sender is not the operator.
abbrev pub is_no_operator : Caller → Bool
is_no_operator Nobody = true
is_no_operator Operator = false
is_no_operator (Bidder bidder) = true

-- The request asks for no change: it is neither a bidder's sheet nor the operator's closing.
abbrev pub asks_for_page : Caller → Ask → Bool
asks_for_page who (asked.turned_away why) = true
asks_for_page who (asked.no_method page) = true
asks_for_page who asked.status = true
asks_for_page who asked.products = true
asks_for_page who (asked.round_results segment) = true
asks_for_page who asked.account = true
asks_for_page who asked.bids = true
asks_for_page who (asked.put body) = is_no_bidder who
asks_for_page who (asked.bidder_results segment) = true
asks_for_page who (asked.close body) = is_no_operator who
asks_for_page who asked.results = true

-- How many bytes are allocated for a page. The page of products is stored as text, so its exact
-- length is known; for any other page it is a bound on its length.
abbrev pub page_room : Ask → Data → ℕ
page_room asked.products value = length (compact_text value)
page_room ask value = most_text value

-- How many bytes are allocated for the page of a refusal.
abbrev pub refusal_room : ℕ
refusal_room = 132

-- How many bytes are allocated for the page of a reply.
abbrev pub reply_room : Ask → Outcome → ℕ
reply_room ask (done value) = page_room ask value
reply_room ask (refused shown) = refusal_room
reply_room ask (not_allowed page) = refusal_room

-- If the request asks for no change, it is out of memory only because the allocation for the page
-- of the right reply failed.
abbrev pub NeedsRoom : Caller → Ask → Outcome → AnswerError → Type 0
NeedsRoom who ask right why = asks_for_page who ask ≡ true → why ≡ Room (reply_room ask right)

-- Why a request is out of memory, by its right reply in the current state of the house.
abbrev pub FailsByAllocation : List ℕ → HouseFields → AnswerError → Type 0
FailsByAllocation text house why =
    NeedsRoom (caller house.setup (request_of text).token) (request_of text).ask
    (outcome house (caller house.setup (request_of text).token) (request_of text).ask) why

-- For a bidder's own request: the size of the failed allocation is computed from the public set-up,
-- the bidder's row, and its view, after every list of requests that the house stands for. No rival
-- occurs among these.
abbrev pub FailsByPrivateAllocation : List ℕ → HouseFields → AnswerError → Type 0
FailsByPrivateAllocation text house why = (texts : List (List ℕ)) (bidder : ℕ)
    → StandsForTexts texts house → bidder < length house.setup.bidders
    → is_own (bidder_at house.setup bidder) text ≡ true → NeedsRoom (Bidder bidder)
    (request_of text).ask (bidder_outcome (public_setup house.setup) (bidder_at house.setup bidder)
    (typed_view (text_view house.setup bidder texts)) (request_of text).ask) why
