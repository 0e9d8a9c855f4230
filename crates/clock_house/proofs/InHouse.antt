-- Proves that the input of a closing is what the house has stored, entry by entry.
use Rattle.std.proofs.Common.{◌≡◌, ℕ, ◌<◌, List, [], Bool, false, ap, sym, ◌∙◌, arith, get_or, length}
use Rattle.std.proofs.lemmas.List.{length-map, get_or-map}
use Rattle.std.proofs.lemmas.List.FromFn.{length-map-range_with_len, get_or-map-range_with_len}
use Rattle.clock_terms.specs.declared.prices.PricePair.{PricePair}
use Rattle.clock_terms.specs.Demands.{row_of}
use Rattle.clock_closing.specs.Holdings.{Holding, holdings_of}
use Rattle.clock_closing.specs.OpenRound.{OpenRoundFields, open_at, holding_at}
use Rattle.clock_closing.specs.inside.OpenRound.{eligibilities_of, grid_of}
use Rattle.clock_closing.proofs.Held.{held_again}
use Rattle.clock_house.specs.History.{for_each_bidder}
use Rattle.clock_house.specs.inside.OpenRounds.{open_round_in}
use Rattle.clock_house.specs.House.{HouseFields, state_in, holding_in}

abbrev nothing : Holding
nothing = record { eligibility = 0; demands = [] }

module _ (house : HouseFields) where
  -- There is a holding for each bidder.
  pub in-many : length (open_round_in house).holdings ≡ length house.setup.bidders
  in-many = length-map-range_with_len (holding_in house) 0 (length house.setup.bidders)

  in-held : (bidder : ℕ) → bidder < length house.setup.bidders
      → holding_at (open_round_in house).holdings bidder ≡ holding_in house bidder
  in-held bidder lt =
      get_or-map-range_with_len (holding_in house) 0 (length house.setup.bidders) bidder bidder nothing lt (omega arith)

  -- The stored eligibilities, and a bidder's entry in them.
  module _ (eligibilities : List ℕ) (are : eligibilities ≡ eligibilities_of (open_round_in house)) where
    pub many_eligibilities : length eligibilities ≡ length house.setup.bidders
    many_eligibilities =
        ap length are ∙ length-map (open_round_in house).holdings (λ (held : Holding). held.eligibility) ∙ in-many

    pub own_eligibility : (bidder : ℕ) → bidder < length house.setup.bidders
        → get_or eligibilities bidder 0 ≡ (holding_in house bidder).eligibility
    own_eligibility bidder lt = ap (λ (list : List ℕ). get_or list bidder 0) are
        ∙ get_or-map (λ (held : Holding). held.eligibility) (open_round_in house).holdings bidder nothing 0
        (omega (arith, lt, in-many)) ∙ ap (λ (held : Holding). held.eligibility) (in-held bidder lt)

  -- The stored demands, and a bidder's row in them.
  module _ (demands : List (List ℕ)) (are : demands ≡ grid_of (open_round_in house)) where
    pub many_demands : length demands ≡ length house.setup.bidders
    many_demands =
        ap length are ∙ length-map (open_round_in house).holdings (λ (held : Holding). held.demands) ∙ in-many

    pub own_demands : (bidder : ℕ) → bidder < length house.setup.bidders
        → row_of demands bidder ≡ (holding_in house bidder).demands
    own_demands bidder lt = ap (λ (grid : List (List ℕ)). row_of grid bidder) are
        ∙ get_or-map (λ (held : Holding). held.demands) (open_round_in house).holdings bidder nothing []
        (omega (arith, lt, in-many)) ∙ ap (λ (held : Holding). held.demands) (in-held bidder lt)

  -- If the auction has not ended, the stored parts are the input of a closing.
  pub open_is : (ended : Bool) (round : ℕ) (prices : List PricePair) (eligibilities : List ℕ) (demands : List (List ℕ))
      → ended ≡ false → ended ≡ (state_in house).ended → round ≡ (state_in house).round
      → prices ≡ (state_in house).prices → eligibilities ≡ eligibilities_of (open_round_in house)
      → demands ≡ grid_of (open_round_in house) → open_at house.setup round prices eligibilities demands house.sheets
      ≡ record { setup = house.setup; before = open_round_in house }
  open_is ended round prices eligibilities demands going ended_is round_is prices_are eligibilities_are demands_are =
      let by =
      λ (end : Bool) (number : ℕ) (pairs : List PricePair) (held : List Holding). let one : OpenRoundFields = record {
        setup = house.setup;
        before = record {
          public_state = record { ended = end; round = number; prices = pairs };
          holdings = held;
          sheets = house.sheets;
        };
      } in one in
      ap (λ (list : List ℕ). by false round prices (holdings_of list demands)) eligibilities_are
      ∙ ap (λ (grid : List (List ℕ)). by false round prices
      (holdings_of (eligibilities_of (open_round_in house)) grid)) demands_are
      ∙ ap (by false round prices) (held_again (for_each_bidder house.setup (holding_in house)))
      ∙ ap (λ (number : ℕ). by false number prices (for_each_bidder house.setup (holding_in house))) round_is
      ∙ ap (λ (pairs : List PricePair). by false (state_in house).round pairs
      (for_each_bidder house.setup (holding_in house))) prices_are
      ∙ ap (λ (end : Bool). by end (state_in house).round (state_in house).prices
      (for_each_bidder house.setup (holding_in house)))
      (sym going ∙ ended_is)
