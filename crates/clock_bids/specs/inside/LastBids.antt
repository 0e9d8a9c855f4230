-- A table with the index of each product's last bid, among the first bids of a sheet.
--     AreLastPlaces products bids place places      the table for the first `place` bids
--     IsTableBefore products bids place placed places      such a table for the first `placed`
--         bids, which come before the bid at index `place`, or no table yet
use Rattle.std.specs.Prelude.{◌≡◌, ◌<◌, ◌≤◌, ℕ, List, length, map, take}
use Rattle.clock_bids.specs.declared.sheet.Bid.{Bid}
use Rattle.clock_bids.specs.inside.Chains.{bid_at, last_bids}

-- for each product the index, counted from 1, of its last bid among the first `place` bids, or 0
pub record AreLastPlaces (products : ℕ) (bids : List Bid) (place : ℕ)
    (places : List ℕ) : Type 0 where
  pub each : length places ≡ products
  pub table : map (bid_at bids) places ≡ last_bids products (take place bids)

-- the table has the first `placed` bids, unless there are none
pub record IsTableBefore (products : ℕ) (bids : List Bid) (place placed : ℕ)
    (places : List ℕ) : Type 0 where
  pub order : placed ≤ place
  pub table : 0 < placed → AreLastPlaces products bids placed places
