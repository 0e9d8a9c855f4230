-- Replays as data: a set-up, scripts, and closings.
--     NeverRises prices      no price is above an earlier one
--     IsLimits products limits      the limits of a sincere script
--     IsScript products script      what the script of a bidder may be
--     is_of_version version increments      increments have the form of the set-up's version
--     ReplayFields, IsReplay      the parts of a replay, and how they fit together
use Rattle.std.specs.Prelude.{◌≡◌, ℕ, ◌≤◌, List, EachIndex, All, true, ⊤, length}
use Rattle.std.specs.List.{AllPairs}
use Rattle.clock_terms.specs.declared.setup.Product.{Product}
use Rattle.clock_terms.specs.Limits.{SetupFields, IsSetup, cap_of}
use Rattle.clock_terms.specs.Demands.{row_of}
pub use Rattle.clock_bodies.specs.CloseBodies.{is_of_version}
use Rattle.clock_replays.specs.declared.replay.Script.{Script}
use Rattle.clock_replays.specs.declared.replay.Script.TheVariants.{Literal, Sincere}
use Rattle.clock_replays.specs.declared.replay.Closing.{Closing}

-- no price is above an earlier one
abbrev pub NeverRises : List ℕ → Type 0
NeverRises prices = AllPairs (λ earlier later. later ≤ earlier) prices

-- for each product a list of limits that never rises and is no longer than its cap
pub record IsLimits (products : List Product) (limits : List (List ℕ)) : Type 0 where
  pub each : length limits ≡ length products
  pub capped : EachIndex limits
      (λ product. length (row_of limits product) ≤ cap_of products product)
  pub falling : All NeverRises limits

-- a literal script may have any sheets; a sincere one has limits for the products
abbrev pub IsScript : List Product → Script → Type 0
IsScript products (Literal sheets) = ⊤
IsScript products (Sincere limits) = IsLimits products limits

-- a set-up, what each bidder does, and how each round is closed
pub record ReplayFields : Type 0 where
  pub setup : SetupFields
  pub scripts : List Script
  pub closings : List Closing

-- a script for each bidder, made for the products, and closings in the form of the version
pub record IsReplay (replay : ReplayFields) : Type 0 where
  pub setup : IsSetup replay.setup
  pub each : length replay.scripts ≡ length replay.setup.bidders
  pub scripts : All (IsScript replay.setup.products) replay.scripts
  pub closings : All (λ closing. is_of_version replay.setup.version closing.increments
      ≡ true) replay.closings
