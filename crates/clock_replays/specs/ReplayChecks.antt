-- The checks of a replay document that follow those of its shape and its set-up.
--     never_rises prices      no price is above an earlier one, computed
--     are_of_version version closings, has_lists count script      the form of closings, the number
--         of lists of limits
--     limit_checks, script_checks      the checks of the limits for a product, and of a bidder
--     replay_checks replay      all checks, in order
use Rattle.std.specs.Prelude.{ℕ, Bool, true, ◌&&◌, ◌==◌, List, [], ◌∷◌, length, zip, nat_le}
use Rattle.std.specs.List.{list_all}
use Rattle.clock_terms.specs.declared.setup.Product.{Product}
use Rattle.clock_terms.specs.Faults.{in_turn}
use Rattle.clock_replays.specs.declared.replay.Script.{Script}
use Rattle.clock_replays.specs.declared.replay.Script.TheVariants.{Literal, Sincere}
use Rattle.clock_replays.specs.declared.replay.Closing.{Closing}
use Rattle.clock_replays.specs.declared.replay.ScriptFault.{ScriptFault}
use Rattle.clock_replays.specs.declared.replay.ScriptFault.TheVariants.{Shape, Scripts, Limits}
use Rattle.clock_replays.specs.Replays.{ReplayFields, is_of_version}

-- no price is above an earlier one
abbrev pub never_rises : List ℕ → Bool
never_rises [] = true
never_rises (price ∷ prices) = list_all (λ later. nat_le later price) prices && never_rises prices

-- each closing has the form of the version
abbrev pub are_of_version : ℕ → List Closing → Bool
are_of_version version closings =
    list_all (λ closing. is_of_version version closing.increments) closings

-- a sincere script has `count` lists of limits, one for each product
abbrev pub has_lists : ℕ → Script → Bool
has_lists count (Literal sheets) = true
has_lists count (Sincere limits) = length limits == count

-- a list of limits is no longer than the product's cap, and never rises
unfoldable pub limit_checks : ℕ → ℕ → Product × List ℕ → List (ScriptFault × Bool)
limit_checks bidder product line =
    (Limits bidder product, nat_le (length line.1) line.0.cap && never_rises line.1) ∷ []

-- the limits of a sincere script, product by product
unfoldable pub script_checks : List Product → ℕ → Script → List (ScriptFault × Bool)
script_checks products bidder (Literal sheets) = []
script_checks products bidder (Sincere limits) =
    in_turn (limit_checks bidder) 0 (zip products limits)

-- in order: the form of closings, the number of scripts, the number of lists of limits, the limits
unfoldable pub replay_checks : ReplayFields → List (ScriptFault × Bool)
replay_checks replay =
    (Shape, are_of_version replay.setup.version replay.closings)
    ∷ (Scripts, length replay.scripts == length replay.setup.bidders)
    ∷ (Shape, list_all (has_lists (length replay.setup.products)) replay.scripts)
    ∷ in_turn (script_checks replay.setup.products) 0 replay.scripts
