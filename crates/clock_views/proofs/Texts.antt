-- The texts of pages in the pieces in which they are pushed, and flat pages byte for byte.
use Rattle.std.proofs.Common.{◌≡◌, ℕ, List, ◌++◌, [], ◌∷◌, Bool, true, false, Option, Some, None, append_assoc, codes}
use Rattle.std.proofs.Common.{decimal, zip, length, refl}
use Rattle.std.specs.List.{range_with_len}
use Rattle.serde_json.specs.Data.{Data, boolean, string}
use Rattle.std.specs.Prelude.{is_some}
use Rattle.serde_json.specs.Written.{compact_text, comma_if}
use Rattle.serde_json.proofs.OnLiterals.{serde_json_on_literals}
use Rattle.clock_terms.specs.declared.setup.Product.{Product}
use Rattle.clock_terms.specs.Limits.{PublicSetup}
use Rattle.clock_terms.specs.Eligibility.{activity}
use Rattle.clock_bids.specs.declared.sheet.Bid.{Bid}
use Rattle.clock_posting.specs.declared.sheet.Line.{Line}
use Rattle.clock_posting.specs.declared.sheet.RoundSheet.{RoundSheet}
use Rattle.clock_bids.specs.Holding.{Holding}
use Rattle.clock_closing.specs.declared.closed_round.Slip.{Slip}
use Rattle.clock_house.specs.House.{HouseFields, state_in}
use Rattle.clock_views.specs.Values.{whole, whole_or_null, list_of, object_of, member_if, number_if, true_or_false}
use Rattle.clock_views.specs.PublicPages.{status_value, status_bytes, from_version_2, product_value, products_value}
use Rattle.clock_views.specs.PublicPages.{line_value, round_results_value}
use Rattle.clock_views.specs.BidderPages.{account_value, bid_value, bids_value, sheet_or_null, accepted_value}
use Rattle.clock_views.specs.BidderPages.{accepted_bytes, bidder_results_value}
use Rattle.clock_views.specs.OperatorPages.{closed_value, closed_bytes, result_value, result_in, results_value}

-- what is everyone's

pub status_in_pieces : (setup : PublicSetup) (round : ℕ) (ended : Bool)
    → compact_text (status_value setup round ended)
    ≡ (codes "{\"ended\":" ++ true_or_false ended) ++ ((codes ",\"round\":" ++ decimal round)
    ++ ((codes ",\"version\":" ++ decimal setup.version) ++ codes "}"))
unfolding status_value serde_json_on_literals
status_in_pieces setup round true = refl
status_in_pieces setup round false = refl

pub status_in_bytes : (setup : PublicSetup) (round : ℕ) (ended : Bool)
    → compact_text (status_value setup round ended) ≡ status_bytes setup round ended
unfolding status_value serde_json_on_literals
status_in_bytes setup round true = simp append_assoc
status_in_bytes setup round false = simp append_assoc

product_with : (granule : Option ℕ) (product : Product)
    → compact_text (object_of (
    ("cap", whole product.cap) ∷
    member_if "granule" granule ++
    ("name", string product.name) ∷
    ("opening", whole product.opening) ∷
    ("supply", whole product.supply) ∷
    ("units", whole product.units) ∷ []))
    ≡ (codes "{\"cap\":" ++ decimal product.cap)
    ++ (number_if (codes ",\"granule\":") granule
    ++ ((codes ",\"name\":" ++ compact_text (string product.name))
    ++ ((codes ",\"opening\":" ++ decimal product.opening)
    ++ ((codes ",\"supply\":" ++ decimal product.supply)
    ++ ((codes ",\"units\":" ++ decimal product.units) ++ codes "}")))))
unfolding serde_json_on_literals
product_with None product = refl
product_with (Some granule) product = refl

pub product_in_pieces : (version : ℕ) (product : Product)
    → compact_text (product_value version product)
    ≡ (codes "{\"cap\":" ++ decimal product.cap)
    ++ (number_if (codes ",\"granule\":") (from_version_2 version product.granule)
    ++ ((codes ",\"name\":" ++ compact_text (string product.name))
    ++ ((codes ",\"opening\":" ++ decimal product.opening)
    ++ ((codes ",\"supply\":" ++ decimal product.supply)
    ++ ((codes ",\"units\":" ++ decimal product.units) ++ codes "}")))))
unfolding product_value
product_in_pieces version product = product_with (from_version_2 version product.granule) product

products_with : (limit : Option ℕ) (products : Data) (requirement version : ℕ)
    → compact_text (object_of (
    member_if "limit" limit ++
    ("products", products) ∷
    ("requirement", whole requirement) ∷
    ("version", whole version) ∷ []))
    ≡ codes "{" ++ (number_if (codes "\"limit\":") limit ++ (comma_if (is_some limit) ++ (codes "\"products\":"
    ++ (compact_text products
    ++ ((codes ",\"requirement\":" ++ decimal requirement)
    ++ ((codes ",\"version\":" ++ decimal version) ++ codes "}"))))))
unfolding serde_json_on_literals
products_with None products requirement version = refl
products_with (Some limit) products requirement version = refl

pub products_in_pieces : (setup : PublicSetup)
    → compact_text (products_value setup)
    ≡ codes "{" ++ (number_if (codes "\"limit\":") (from_version_2 setup.version setup.limit)
    ++ (comma_if (is_some (from_version_2 setup.version setup.limit)) ++ (codes "\"products\":"
    ++ (compact_text (list_of (product_value setup.version) setup.products)
    ++ ((codes ",\"requirement\":" ++ decimal setup.requirement)
    ++ ((codes ",\"version\":" ++ decimal setup.version) ++ codes "}"))))))
unfolding products_value
products_in_pieces setup = products_with (from_version_2 setup.version setup.limit)
    (list_of (product_value setup.version) setup.products) setup.requirement setup.version

pub line_in_pieces : (product : Product) (line : Line)
    → compact_text (line_value product line)
    ≡ (codes "{\"clock\":" ++ decimal line.clock)
    ++ ((codes ",\"demand\":" ++ compact_text (whole_or_null line.demand))
    ++ ((codes ",\"name\":" ++ compact_text (string product.name))
    ++ ((codes ",\"next\":" ++ compact_text (whole_or_null line.next))
    ++ ((codes ",\"posted\":" ++ decimal line.posted)
    ++ ((codes ",\"start\":" ++ decimal line.start) ++ codes "}")))))
unfolding line_value serde_json_on_literals
line_in_pieces product line = refl

sheet_with : (ended : Bool) (lines : Data) (round : ℕ)
    → compact_text (object_of (("ended", boolean ended) ∷ ("products", lines) ∷ ("round", whole round) ∷ []))
    ≡ (codes "{\"ended\":" ++ true_or_false ended) ++ (codes ",\"products\":" ++ (compact_text lines
    ++ ((codes ",\"round\":" ++ decimal round) ++ codes "}")))
unfolding serde_json_on_literals
sheet_with true lines round = refl
sheet_with false lines round = refl

pub sheet_in_pieces : (setup : PublicSetup) (sheet : RoundSheet)
    → compact_text (round_results_value setup sheet)
    ≡ (codes "{\"ended\":" ++ true_or_false sheet.ended)
    ++ (codes ",\"products\":"
    ++ (compact_text (list_of (λ row. line_value row.0 row.1) (zip setup.products sheet.lines))
    ++ ((codes ",\"round\":" ++ decimal sheet.round) ++ codes "}")))
unfolding round_results_value serde_json_on_literals
sheet_in_pieces setup sheet =
    sheet_with sheet.ended (list_of (λ row. line_value row.0 row.1) (zip setup.products sheet.lines)) sheet.round

-- what is a bidder's

pub account_in_pieces : (products : List Product) (name : List ℕ) (round : ℕ) (held : Holding) (ended : Bool)
    → compact_text (account_value products name round held ended)
    ≡ (codes "{\"activity\":" ++ decimal (activity products held.demands))
    ++ ((codes ",\"demands\":" ++ compact_text (list_of whole held.demands))
    ++ ((codes ",\"eligibility\":" ++ decimal held.eligibility)
    ++ ((codes ",\"ended\":" ++ true_or_false ended)
    ++ ((codes ",\"name\":" ++ compact_text (string name))
    ++ ((codes ",\"round\":" ++ decimal round) ++ codes "}")))))
unfolding account_value serde_json_on_literals
account_in_pieces products name round held true = refl
account_in_pieces products name round held false = refl

pub bid_in_pieces : (bid : Bid)
    → compact_text (bid_value bid)
    ≡ (codes "{\"price\":" ++ decimal bid.price) ++ ((codes ",\"product\":" ++ decimal bid.product)
    ++ ((codes ",\"quantity\":" ++ decimal bid.quantity) ++ codes "}"))
unfolding bid_value serde_json_on_literals
bid_in_pieces bid = refl

pub bids_in_pieces : (round : ℕ) (sheet : Option (List Bid)) → compact_text (bids_value round sheet) ≡ codes
    "{\"bids\":" ++ (compact_text (sheet_or_null sheet) ++ ((codes ",\"round\":" ++ decimal round) ++ codes "}"))
unfolding bids_value serde_json_on_literals
bids_in_pieces round sheet = refl

pub no_bids_in_pieces : (round : ℕ)
    → compact_text (bids_value round None) ≡ (codes "{\"bids\":null,\"round\":" ++ decimal round) ++ codes "}"
unfolding bids_value serde_json_on_literals
no_bids_in_pieces round = refl

pub accepted_in_pieces : (round count : ℕ)
    → compact_text (accepted_value round count)
    ≡ (codes "{\"accepted\":true,\"bids\":" ++ decimal count) ++ ((codes ",\"round\":" ++ decimal round) ++ codes "}")
unfolding accepted_value serde_json_on_literals
accepted_in_pieces round count = refl

pub accepted_in_bytes : (round count : ℕ) → compact_text (accepted_value round count) ≡ accepted_bytes round count
unfolding accepted_value serde_json_on_literals
accepted_in_bytes round count = simp append_assoc

pub slip_in_pieces : (slip : Slip)
    → compact_text (bidder_results_value slip)
    ≡ (codes "{\"activity\":" ++ decimal slip.activity)
    ++ ((codes ",\"demands\":" ++ compact_text (list_of whole slip.demands))
    ++ ((codes ",\"eligibility\":" ++ decimal slip.eligibility)
    ++ ((codes ",\"round\":" ++ decimal slip.round) ++ codes "}")))
unfolding bidder_results_value serde_json_on_literals
slip_in_pieces slip = refl

-- what is the operator's

pub closed_in_pieces : (round : ℕ) (ended : Bool) → compact_text (closed_value round ended)
    ≡ (codes "{\"closed\":" ++ decimal round) ++ ((codes ",\"ended\":" ++ true_or_false ended) ++ codes "}")
unfolding closed_value serde_json_on_literals
closed_in_pieces round true = refl
closed_in_pieces round false = refl

pub closed_in_bytes : (round : ℕ) (ended : Bool) → compact_text (closed_value round ended) ≡ closed_bytes round ended
unfolding closed_value serde_json_on_literals
closed_in_bytes round true = simp append_assoc
closed_in_bytes round false = simp append_assoc

pub result_in_pieces : (name : List ℕ) (held : Holding)
    → compact_text (result_value name held)
    ≡ (codes "{\"demands\":" ++ compact_text (list_of whole held.demands))
    ++ ((codes ",\"eligibility\":" ++ decimal held.eligibility)
    ++ ((codes ",\"name\":" ++ compact_text (string name)) ++ codes "}"))
unfolding result_value serde_json_on_literals
result_in_pieces name held = refl

results_with : (bidders : Data) (ended : Bool) (round : ℕ)
    → compact_text (object_of (("bidders", bidders) ∷ ("ended", boolean ended) ∷ ("round", whole round) ∷ []))
    ≡ codes "{\"bidders\":" ++ (compact_text bidders ++ ((codes ",\"ended\":" ++ true_or_false ended)
    ++ ((codes ",\"round\":" ++ decimal round) ++ codes "}")))
unfolding serde_json_on_literals
results_with bidders true round = refl
results_with bidders false round = refl

pub results_in_pieces : (house : HouseFields) → compact_text (results_value house)
    ≡ codes "{\"bidders\":" ++ (compact_text (list_of (result_in house) (range_with_len 0 (length house.setup.bidders)))
    ++ ((codes ",\"ended\":" ++ true_or_false (state_in house).ended)
    ++ ((codes ",\"round\":" ++ decimal (state_in house).round) ++ codes "}")))
unfolding results_value
results_in_pieces house = results_with (list_of (result_in house) (range_with_len 0 (length house.setup.bidders)))
    (state_in house).ended (state_in house).round
