-- How many bytes each page takes at most, in closed form.
use Rattle.std.proofs.Common.{◌≡◌, ℕ, ◌≤◌, ◌+◌, ◌*◌, ◌-◌, ◌<◌, suc, List, [], ◌∷◌, Bool, Option, Some, None, length}
use Rattle.std.proofs.Common.{zip, ap, sym, ◌∙◌, refl, arith}
use Rattle.std.specs.List.{range_with_len}
use Rattle.serde_json.specs.Data.{Data}
use Rattle.clock_terms.specs.declared.setup.Product.{Product}
use Rattle.clock_terms.specs.Limits.{PublicSetup}
use Rattle.clock_bids.specs.declared.sheet.Bid.{Bid}
use Rattle.clock_bids.specs.Holding.{Holding}
use Rattle.clock_house.specs.History.{bidder_at}
use Rattle.clock_house.specs.House.{HouseFields, holding_in}
use Rattle.clock_posting.specs.declared.sheet.Line.{Line}
use Rattle.clock_posting.specs.declared.sheet.RoundSheet.{RoundSheet}
use Rattle.clock_closing.specs.declared.closed_round.Slip.{Slip}
use Rattle.clock_views.specs.Values.{whole, whole_or_null, list_of, items_of}
use Rattle.clock_views.specs.Rooms.{most_text, most_items}
use Rattle.clock_views.specs.inside.Rooms.{room_of_item, room_of_bid, room_of_line, room_of_result}
use Rattle.clock_views.specs.PublicPages.{status_value, line_value, round_results_value}
use Rattle.clock_views.specs.BidderPages.{account_value, bid_value, bids_value, sheet_or_null, accepted_value}
use Rattle.clock_views.specs.BidderPages.{bidder_results_value}
use Rattle.clock_views.specs.OperatorPages.{closed_value, result_value, result_in, results_value}

-- ---- lists

pub numbers_most : (numbers : List ℕ) → most_items (items_of whole numbers) ≡ room_of_item * length numbers
numbers_most [] = refl
numbers_most (n ∷ numbers) = omega (arith, numbers_most numbers)

bid_most : (bid : Bid) → 1 + most_text (bid_value bid) ≡ room_of_bid
unfolding bid_value
bid_most bid = refl

pub bids_most : (bids : List Bid) → most_items (items_of bid_value bids) ≡ room_of_bid * length bids
bids_most [] = refl
bids_most (bid ∷ bids) = omega (arith, bid_most bid, bids_most bids)

or_null_most : (n : Option ℕ) → most_text (whole_or_null n) ≡ 20
or_null_most None = refl
or_null_most (Some n) = refl

line_most : (product : Product) (line : Line) → 1 + most_text (line_value product line) ≡ room_of_line
unfolding line_value
line_most product line = omega (arith, or_null_most line.demand, or_null_most line.next)

pub rows_most : (rows : List (Product × Line))
    → most_items (items_of (λ row. line_value row.0 row.1) rows) ≡ room_of_line * length rows
rows_most [] = refl
rows_most (row ∷ rows) = omega (arith, line_most row.0 row.1, rows_most rows)

-- the first of some numbers, and the others
pub one_most : (value : ℕ → Data) (i n : ℕ) → i < n → most_items (items_of value (range_with_len i (n - i)))
    ≡ 1 + most_text (value i) + most_items (items_of value (range_with_len (i + 1) (n - (i + 1))))
one_most value i n below =
    let left : n - i ≡ suc (n - (i + 1)) = omega arith in
    ap (λ k. most_items (items_of value (range_with_len i k))) left

-- no others
pub none_most : (value : ℕ → Data) (i n : ℕ) → n ≤ i → most_items (items_of value (range_with_len i (n - i))) ≡ 0
none_most value i n done =
    (let none : n - i ≡ 0 = omega (arith, done) in ap (λ k. most_items (items_of value (range_with_len i k))) none)

-- two lists of one length, side by side
same_zip : {A B : Type 0} (xs : List A) (ys : List B) → length xs ≡ length ys → length (zip xs ys) ≡ length xs
same_zip [] [] e = refl
same_zip [] (y ∷ ys) e = absurd cc
same_zip (x ∷ xs) [] e = absurd cc
same_zip (x ∷ xs) (y ∷ ys) e = ap suc (same_zip xs ys (omega (arith, e)))

-- ---- pages

pub status_most : (setup : PublicSetup) (round : ℕ) (ended : Bool) → most_text (status_value setup round ended) ≡ 76
unfolding status_value
status_most setup round ended = refl

pub account_most : (products : List Product) (name : List ℕ) (round : ℕ) (held : Holding) (ended : Bool)
    → most_text (account_value products name round held ended) ≡ 167 + 21 * length held.demands
unfolding account_value
account_most products name round held ended = omega (arith, numbers_most held.demands)

pub bids_page_most : (round : ℕ) (sheet : Option (List Bid))
    → most_text (bids_value round sheet) ≡ 39 + most_text (sheet_or_null sheet)
unfolding bids_value
bids_page_most round sheet = omega arith

pub some_bids_most : (round : ℕ) (bids : List Bid) → most_text (bids_value round (Some bids)) ≡ 41 + 95 * length bids
some_bids_most round bids = omega (arith, bids_page_most round (Some bids), bids_most bids)

pub accepted_most : (round count : ℕ) → most_text (accepted_value round count) ≡ 76
unfolding accepted_value
accepted_most round count = refl

pub slip_most : (slip : Slip) → most_text (bidder_results_value slip) ≡ 111 + 21 * length slip.demands
unfolding bidder_results_value
slip_most slip = omega (arith, numbers_most slip.demands)

pub closed_most : (round : ℕ) (ended : Bool) → most_text (closed_value round ended) ≡ 46
unfolding closed_value
closed_most round ended = refl

pub result_most : (name : List ℕ) (held : Holding)
    → 1 + most_text (result_value name held) ≡ room_of_result (length held.demands)
unfolding result_value
result_most name held = omega (arith, numbers_most held.demands)

-- the first of what bidders hold, and the others
pub result_in_most : (house : HouseFields) (i n : ℕ) → i < n → most_items
    (items_of (result_in house) (range_with_len i (n - i))) ≡ room_of_result (length (holding_in house i).demands)
    + most_items (items_of (result_in house) (range_with_len (i + 1) (n - (i + 1))))
result_in_most house i n below =
    omega (arith, one_most (result_in house) i n below, result_most (bidder_at house.setup i).name (holding_in house i))

pub sheet_most : (setup : PublicSetup) (sheet : RoundSheet) → length sheet.lines ≡ length setup.products
    → most_text (round_results_value setup sheet) ≡ 59 + 191 * length sheet.lines
unfolding round_results_value
sheet_most setup sheet each =
    let rows = zip setup.products sheet.lines in
    let many : length rows ≡ length sheet.lines = same_zip setup.products sheet.lines (sym each) ∙ sym each in
    omega (arith, rows_most rows, many)

pub results_most : (house : HouseFields) → most_text (results_value house)
    ≡ 56 + most_text (list_of (result_in house) (range_with_len 0 (length house.setup.bidders)))
unfolding results_value
results_most house = omega arith
