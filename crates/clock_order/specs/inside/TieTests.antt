-- Parts of the checks of a list of tie-breaking numbers, with names for proofs.
--     is_in_range bidders products tie      the bidder and the product exist
--     is_new earlier tie      no earlier entry is for the same bidder and product
--     checks_of_ties bidders products ties      the checks of all entries in turn
use Rattle.std.specs.Prelude.{ℕ, List, Bool, ◌&&◌, not, nat_lt, take}
use Rattle.std.specs.List.{list_any}
use Rattle.clock_terms.specs.Faults.{in_turn}
use Rattle.clock_order.specs.declared.ties.Tie.{Tie}
use Rattle.clock_order.specs.declared.ties.TieFault.{TieFault}
use Rattle.clock_order.specs.Ties.{is_tie_of, tie_checks}

-- the bidder and the product exist
abbrev pub is_in_range : ℕ → ℕ → Tie → Bool
is_in_range bidders products tie = nat_lt tie.bidder bidders && nat_lt tie.product products

-- no earlier entry is for the same bidder and product
abbrev pub is_new : List Tie → Tie → Bool
is_new earlier tie = not (list_any (is_tie_of tie.bidder tie.product) earlier)

-- the checks of all entries, in the order of the list
abbrev pub checks_of_ties : ℕ → ℕ → List Tie → List (TieFault × Bool)
checks_of_ties bidders products ties =
    in_turn (λ i tie. tie_checks bidders products (take i ties) i tie) 0 ties
