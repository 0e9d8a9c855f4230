-- The texts of the requests that are played, byte for byte those of a live bidder and operator (RFC
-- 9112 for the head). A body is the compact text of a value of JSON.
--     request_head line token count, request_text line token body      a request of a line, by the
--         holder of a token
--     put_text token round bids      the request by which a bidder puts a sheet
--     close_value round increments ties, close_text token round increments ties      the request by
--         which the operator closes a round
use Prim.Native.String.{String}
use Rattle.std.specs.Prelude.{ℕ, List, [], ◌∷◌, ◌++◌, length, codes, decimal, Some}
use Rattle.serde_json.specs.Data.{Data}
use Rattle.serde_json.specs.Written.{compact_text}
use Rattle.clock_terms.specs.declared.increments.Increments.{Increments}
use Rattle.clock_terms.specs.declared.increments.Increments.TheVariants.{Single, PerProduct}
use Rattle.clock_bids.specs.declared.sheet.Bid.{Bid}
use Rattle.clock_order.specs.declared.ties.Tie.{Tie}
use Rattle.clock_views.specs.Values.{whole, list_of, object_of}
use Rattle.clock_views.specs.BidderPages.{bids_value}

-- the line, the token, the length of the body and an empty line
abbrev pub request_head : List ℕ → List ℕ → ℕ → List ℕ
request_head line token count = line ++ (codes " HTTP/1.1\r\nauthorization: Bearer "
    ++ (token ++ ((codes "\r\ncontent-length: " ++ decimal count) ++ codes "\r\n\r\n")))

-- the head, and the body after it
abbrev pub request_text : List ℕ → List ℕ → List ℕ → List ℕ
request_text line token body = request_head line token (length body) ++ body

-- a sheet is sent as the page of the bidder's own bids shows it
abbrev pub written_put : ℕ → List Bid → List ℕ
written_put round bids = compact_text (bids_value round (Some bids))

-- the request by which a bidder submits a sheet
abbrev pub put_text : List ℕ → ℕ → List Bid → List ℕ
put_text token round bids = request_text (codes "PUT /v1/me/bids") token (written_put round bids)

-- a tie-breaking number after its bidder and product
abbrev pub tie_value : Tie → Data
tie_value tie = list_of whole (tie.bidder ∷ tie.product ∷ tie.number ∷ [])

-- one increment, or one for each product
abbrev pub increments_member : Increments → String × Data
increments_member (Single increment) = ("increment", whole increment)
increments_member (PerProduct increments) = ("increments", list_of whole increments)

-- the body of a closing, as a value
unfoldable pub close_value : ℕ → Increments → List Tie → Data
close_value round increments ties = object_of (
    increments_member increments ∷
    ("round", whole round) ∷
    ("ties", list_of tie_value ties) ∷ [])

-- the body of a closing
abbrev pub written_close : ℕ → Increments → List Tie → List ℕ
written_close round increments ties = compact_text (close_value round increments ties)

-- the request by which the operator closes a round
abbrev pub close_text : List ℕ → ℕ → Increments → List Tie → List ℕ
close_text token round increments ties =
    request_text (codes "POST /v1/close") token (written_close round increments ties)
