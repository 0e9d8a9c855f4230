-- The requested activity of the first bids of a sheet, and how one more bid changes it: its quantity replaces that of
-- the last bid for its product.
use Rattle.std.proofs.Common.{◌≡◌, ℕ, ◌+◌, ◌*◌, ◌<◌, ◌≤◌, List, [], ◌∷◌, length, take, refl, ap, sym, subst, ◌∙◌, arith}
use Rattle.std.proofs.Common.{get_or}
use Rattle.std.specs.Prelude.{Option, None}
use Rattle.std.proofs.lemmas.List.{get_or_default}
use Rattle.std.proofs.lemmas.List.FromFn.{get_or-map-range_with_len}
use Rattle.clock_terms.specs.declared.setup.Product.{Product}
use Rattle.clock_terms.specs.Limits.{units_of, no_product}
use Rattle.clock_terms.specs.Eligibility.{activity}
use Rattle.clock_terms.proofs.ActivityLaws.{activity-set, demand_taken}
use Rattle.clock_bids.specs.declared.sheet.Bid.{Bid}
use Rattle.clock_bids.specs.Sheet.{chain_of, last_quantity, asked_demands}
use Rattle.clock_bids.specs.inside.Chains.{last_of, last_bids, quantity_of}
use Rattle.clock_bids.proofs.Chains.{last_quantity-after}
use Rattle.clock_bids.proofs.Tables.{no_bid, asked_demands-more, length-asked_demands}

-- the last bid of a chain has the chain's last quantity
last_quantity-of : (chain : List Bid) → last_quantity 0 chain ≡ quantity_of (last_of chain)
last_quantity-of [] = refl
last_quantity-of (bid ∷ bids) = last_quantity-after bid bids

module _ (products : List Product) (bids : List Bid) (i : ℕ)
    (known : (get_or bids i no_bid).product < length products) where
  abbrev product : ℕ
  product = (get_or bids i no_bid).product

  abbrev before : List ℕ
  before = asked_demands (length products) (take i bids)

  -- the demand requested so far is the quantity of the last bid for the product
  asked_last : get_or before product 0 ≡ quantity_of (get_or (last_bids (length products) (take i bids)) product None)
  asked_last = get_or-map-range_with_len (λ p. last_quantity 0 (chain_of p (take i bids))) 0
      (length products) product product 0 known (omega arith) ∙ last_quantity-of (chain_of product (take i bids))
      ∙ sym (ap quantity_of (get_or-map-range_with_len (λ p. last_of (chain_of p (take i bids))) 0
      (length products) product product None known (omega arith)))

  -- its bidding units are at most the activity so far
  pub asked_least : units_of products product
      * quantity_of (get_or (last_bids (length products) (take i bids)) product None) ≤ activity products before
  asked_least =
      let least = demand_taken products before product known
      (omega (arith, known, length-asked_demands (length products) (take i bids))) in
      subst (λ (q : ℕ). units_of products product * q ≤ activity products before) asked_last least

  -- the next bid's quantity replaces it
  pub asked_more : i < length bids →
      activity products (asked_demands (length products) (take (i + 1) bids))
      + units_of products product * quantity_of (get_or (last_bids (length products) (take i bids)) product None)
      ≡ activity products before + units_of products product * (get_or bids i no_bid).quantity
  asked_more within =
      let next = asked_demands-more (length products) bids i within known in
      let changed = activity-set products before product (get_or bids i no_bid).quantity known
      (omega (arith, known, length-asked_demands (length products) (take i bids))) in
      subst (λ (q : ℕ). activity products (asked_demands (length products) (take (i + 1) bids))
      + units_of products product * q ≡ activity products before + units_of products product
      * (get_or bids i no_bid).quantity) asked_last (ap (λ (row : List ℕ). activity products row
      + units_of products product * get_or before product 0) next ∙ changed)

-- a product that is read has its own units
pub units_read : (read products : List Product) (p : ℕ) (one : Product) → read ≡ products → p < length products →
    (get_or read p one).units ≡ units_of products p
units_read read products p one same known =
    ap (λ (list : List Product). (get_or list p one).units) same
    ∙ ap (λ (product : Product). product.units) (get_or_default products p one no_product known)

-- one step of a pass over the bids
module _ (products : List Product) (bids : List Bid) (i units taken : ℕ) (last : Option Bid) (known : (get_or bids i
    no_bid).product < length products) (units_are : units ≡ units_of products (get_or bids i no_bid).product)
    (last_is : last ≡ get_or (last_bids (length products) (take i bids)) (get_or bids i no_bid).product None)
    (taken_is : taken ≡ activity products (asked_demands (length products) (take i bids))) where
  pub held_least : units * quantity_of last ≤ taken
  held_least = rw (units_are, last_is, taken_is) (asked_least products bids i known)

  pub taken_more : i < length bids → (next : ℕ) → next + units * quantity_of last ≡ taken + units
      * (get_or bids i no_bid).quantity → next ≡ activity products (asked_demands (length products) (take (i + 1) bids))
  taken_more within next is =
      let sum : next + units_of products (get_or bids i no_bid).product
      * quantity_of (get_or (last_bids (length products) (take i bids)) (get_or bids i no_bid).product None)
      ≡ activity products (asked_demands (length products) (take i bids)) + units_of products
      (get_or bids i no_bid).product * (get_or bids i no_bid).quantity = rw (← units_are, ← last_is, ← taken_is) is in
      omega (arith, sum, asked_more products bids i known within)
