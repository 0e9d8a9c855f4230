-- In contracts, a table of tie-breaking numbers is the list of its entries.
--     tie_of entry      an entry of the hash map as a tie-breaking number
--     ties_listed entries      the entries of the hash map as a list of these
use Rattle.std.specs.Prelude.{ℕ, List, map}
use Rattle.clock_order.specs.declared.ties.Tie.{Tie}

-- an entry of the map: its key is the pair of bidder and product, its value the number
abbrev pub tie_of : (ℕ × ℕ) × ℕ → Tie
tie_of entry = record { bidder = entry.0.0; product = entry.0.1; number = entry.1 }

-- the entries, in the order in which they were inserted
abbrev pub ties_listed : List ((ℕ × ℕ) × ℕ) → List Tie
ties_listed entries = map tie_of entries
