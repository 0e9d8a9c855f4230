-- The pages of one bidder: functions of the products, which are public, and of what is its own.
--     account_value products name round held ended      the account, the bidder's current state
--     bid_value bid, bids_value round sheet      its sheet in force, or null
--     accepted_value round count      the reply to a sheet that was accepted
--     accepted_bytes round count      that page, byte for byte
--     bidder_results_value slip      its results of a closed round
use Rattle.std.specs.Prelude.{ℕ, List, [], ◌∷◌, ◌++◌, Bool, true, Option, Some, None, codes}
use Rattle.std.specs.Prelude.{decimal}
use Rattle.serde_json.specs.Data.{Data, null, boolean, string}
use Rattle.clock_terms.specs.declared.setup.Product.{Product}
use Rattle.clock_terms.specs.Eligibility.{activity}
use Rattle.clock_bids.specs.declared.sheet.Bid.{Bid}
use Rattle.clock_bids.specs.Holding.{Holding}
use Rattle.clock_closing.specs.declared.closed_round.Slip.{Slip}
use Rattle.clock_views.specs.Values.{whole, list_of, object_of}

-- the account: activity and demands are the processed ones
unfoldable pub account_value : List Product → List ℕ → ℕ → Holding → Bool → Data
account_value products name round held ended = object_of (
    ("activity", whole (activity products held.demands)) ∷
    ("demands", list_of whole held.demands) ∷
    ("eligibility", whole held.eligibility) ∷
    ("ended", boolean ended) ∷
    ("name", string name) ∷
    ("round", whole round) ∷ [])

unfoldable pub bid_value : Bid → Data
bid_value bid = object_of (("price", whole bid.price) ∷ ("product", whole bid.product)
    ∷ ("quantity", whole bid.quantity) ∷ [])

-- the bids of a sheet in the order given, or null if there is no sheet
abbrev pub sheet_or_null : Option (List Bid) → Data
sheet_or_null None = null
sheet_or_null (Some bids) = list_of bid_value bids

unfoldable pub bids_value : ℕ → Option (List Bid) → Data
bids_value round sheet = object_of (("bids", sheet_or_null sheet) ∷ ("round", whole round) ∷ [])

-- the reply to an accepted sheet, with the number of its bids
unfoldable pub accepted_value : ℕ → ℕ → Data
accepted_value round count =
    object_of (("accepted", boolean true) ∷ ("bids", whole count) ∷ ("round", whole round) ∷ [])

-- bidder results: processed activity and demands, and the next eligibility
unfoldable pub bidder_results_value : Slip → Data
bidder_results_value slip = object_of (
    ("activity", whole slip.activity) ∷
    ("demands", list_of whole slip.demands) ∷
    ("eligibility", whole slip.eligibility) ∷
    ("round", whole slip.round) ∷ [])

-- the reply to an accepted sheet, byte for byte
abbrev pub accepted_bytes : ℕ → ℕ → List ℕ
accepted_bytes round count = codes "{\"accepted\":true,\"bids\":" ++ decimal count
    ++ codes ",\"round\":" ++ decimal round ++ codes "}"
