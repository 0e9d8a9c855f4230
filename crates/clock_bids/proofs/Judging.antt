-- One step of the pass that checks a sheet. If the first bids are good, the last bid before the next one for its
-- product decides whether that has a fault, and the others decide the first fault after it.
use Rattle.std.proofs.Common.{◌≡◌, ℕ, ◌+◌, ◌*◌, ◌<◌, ◌≤◌, ◌==◌, Bor, List, [], ◌∷◌, length, take, refl, ap, ◌∙◌}
use Rattle.std.proofs.Common.{Bool, true, sym, subst, arith, get_or}
use Rattle.std.specs.Prelude.{Option, Some, None, ◌&&◌, ◌||◌, not, nat_le, slice_index}
use Rattle.std.specs.Option.{option_copied}
use Rattle.std.proofs.lemmas.Bool.{lt-ltb, le-leb, eq-eqb}
use Rattle.std.proofs.lemmas.List.{get_or_default, take_all, drop_all}
use Rattle.clock_terms.specs.declared.setup.Product.{Product}
use Rattle.clock_terms.specs.declared.prices.PricePair.{PricePair}
use Rattle.clock_terms.specs.Eligibility.{activity}
use Rattle.clock_terms.specs.Faults.{first_fault, in_turn}
use Rattle.clock_terms.specs.Limits.{IsRow, cap_of, most_supply, most_units}
use Rattle.clock_terms.specs.Prices.{prices_at}
use Rattle.clock_terms.proofs.FaultLaws.{turn_passed, turn_failed}
use Rattle.clock_bids.specs.declared.sheet.Bid.{Bid}
use Rattle.clock_bids.specs.declared.sheet.BidFault.{BidFault}
use Rattle.clock_bids.specs.declared.sheet.BidFault.TheVariants.{UnknownProduct, PriceRange, OverCap, KeepPrice}
use Rattle.clock_bids.specs.Sheet.{asked_demands, bid_checks}
use Rattle.clock_bids.specs.inside.Parts.{checks_of_bids, is_for_product, is_in_prices, is_within_cap}
use Rattle.clock_bids.specs.inside.Chains.{last_bids, quantity_of, checks_by_last}
use Rattle.clock_bids.specs.inside.Judged.{AreJudged, AreJudgedBelow}
use Rattle.clock_bids.proofs.Tables.{no_bid}
use Rattle.clock_bids.proofs.LastBids.{none_below, below_more}
use Rattle.clock_bids.proofs.Good.{no_activity, good_chains-nil, judged_by, good_chains-more, known_here}
use Rattle.clock_bids.proofs.Activity.{held_least, taken_more, units_read}

-- at first no bid has been checked
pub none_judged : (products : List Product) (prices : List PricePair) (demands : List ℕ) (bids : List Bid)
    → AreJudged products prices demands bids 0 0
none_judged products prices demands bids = record {
  good = good_chains-nil products prices demands;
  taken_is = sym (no_activity products 0 (length products));
  small = omega arith;
  ahead = refl;
}

-- at the end all bids have been checked: none has a fault, and their activity is known
module _ (products : List Product) (prices : List PricePair) (demands : List ℕ) (bids : List Bid) (n taken : ℕ)
    (all : AreJudged products prices demands bids n taken) (end : length bids ≤ n) where
  pub none_at_fault : first_fault (checks_of_bids products prices demands bids) ≡ None
  none_at_fault = sym all.ahead ∙ ap (λ (list : List Bid). first_fault
      (in_turn (λ i bid. bid_checks products prices demands (take i bids) i bid) n list)) (drop_all n bids end)

  pub all_taken : taken ≡ activity products (asked_demands (length products) bids)
  all_taken = all.taken_is
      ∙ ap (λ (list : List Bid). activity products (asked_demands (length products) list)) (take_all n bids end)

-- the units of the last bid are part of the activity
pub held_some : (units : ℕ) {taken : ℕ} {last : Option (Bor Bid)} {one : Bor Bid} → last ≡ Some one
    → units * quantity_of (option_copied last) ≤ taken → units * one.now.quantity ≤ taken
held_some units {taken} is held =
    subst (λ (bid : Option (Bor Bid)). units * quantity_of (option_copied bid) ≤ taken) is held

module _ (products : List Product) (prices : List PricePair) (demands : List ℕ) (bids : List Bid) (i taken : ℕ)
    (so_far : AreJudged products prices demands bids i taken) (within : i < length bids) (seen : List Product)
    (last : Option Bid) (fault : Option BidFault) (same : seen ≡ products)
    (before : last ≡ get_or (last_bids (length seen) (take i bids)) (get_or bids i no_bid).product None)
    (judged : fault ≡ first_fault (checks_by_last seen prices demands last i (get_or bids i no_bid))) where
  abbrev here : Bid
  here = get_or bids i no_bid

  -- if the next bid has a fault, it is the first one
  pub fault_found : (one : BidFault) → fault ≡ Some one
      → first_fault (checks_of_bids products prices demands bids) ≡ Some one
  fault_found one found =
      let is = judged_by products prices demands bids i so_far.good seen last fault same before judged in
      sym so_far.ahead
      ∙ turn_failed (λ i bid. bid_checks products prices demands (take i bids) i bid) bids i here one within
      (get_or_default bids i no_bid here within) (is.fault_is ∙ found)

  -- if it has none, its units are known, and the bids up to it are good
  module _ (none : fault ≡ None) (one : Product) where
    pub known : here.product < length products
    known =
        let is = judged_by products prices demands bids i so_far.good seen last fault same before judged in
        known_here products prices demands bids i so_far.good (is.fault_is ∙ none)

    pub units_held : (get_or seen here.product one).units * quantity_of last ≤ taken
    units_held =
        let is = judged_by products prices demands bids i so_far.good seen last fault same before judged in
        held_least products bids i _ taken last known
        (units_read seen products here.product one same known) is.last_is so_far.taken_is

    pub judged_more : (next : ℕ) → next + (get_or seen here.product one).units * quantity_of last
        ≡ taken + (get_or seen here.product one).units * here.quantity → next ≤ taken + most_units * most_supply
        → AreJudged products prices demands bids (i + 1) next
    judged_more next exact most =
        let is = judged_by products prices demands bids i so_far.good seen last fault same before judged in
        record {
          good = good_chains-more products prices demands bids i so_far.good (is.fault_is ∙ none) within;
          taken_is = taken_more products bids i _ taken last known
              (units_read seen products here.product one same known) is.last_is so_far.taken_is within next exact;
          small = omega (arith, most, so_far.small);
          ahead = sym (turn_passed (λ i bid. bid_checks products prices demands (take i bids) i bid) bids i here within
              (get_or_default bids i no_bid here within) (is.fault_is ∙ none)) ∙ so_far.ahead;
        }

-- if four checks pass, none has a fault
all_pass : {F : Type 0} (fa fb fc fd : F) (a b c d : Bool) → a ≡ true → b ≡ true → c ≡ true → d ≡ true
    → None ≡ first_fault ((fa, a) ∷ (fb, b) ∷ (fc, c) ∷ (fd, d) ∷ [])
all_pass fa fb fc fd a b c d pa pb pc pd =
    sym (ap (λ t. first_fault ((fa, t) ∷ (fb, b) ∷ (fc, c) ∷ (fd, d) ∷ [])) pa
    ∙ ap (λ t. first_fault ((fb, t) ∷ (fc, c) ∷ (fd, d) ∷ [])) pb
    ∙ ap (λ t. first_fault ((fc, t) ∷ (fd, d) ∷ [])) pc
    ∙ ap (λ t. first_fault ((fd, t) ∷ [])) pd)

both_hold : (a b : Bool) → a ≡ true → b ≡ true → (a && b) ≡ true
both_hold a b pa pb = ap (λ t. t && b) pa ∙ pb

-- a first bid for a product that maintains its demand at the clock price has no fault
pub maintained_passes : (products : List Product) (prices : List PricePair) (demands : List ℕ) (i : ℕ) (bid : Bid)
    → IsRow products demands → bid.product < length products → bid.quantity ≡ slice_index demands bid.product
    → bid.price ≡ (prices_at prices bid.product).clock → (prices_at prices bid.product).start ≤ bid.price
    → None ≡ first_fault (checks_by_last products prices demands None i bid)
maintained_passes products prices demands i bid row known maintained at_clock from_start =
    let pair = prices_at prices bid.product in
    let held = slice_index demands bid.product in
    let capped = row.capped bid.product (omega (arith, known, row.each)) in
    all_pass (UnknownProduct i) (PriceRange i) (OverCap i) (KeepPrice i) (is_for_product products bid)
    (is_in_prices prices bid) (is_within_cap products bid) (not (bid.quantity == held) || (bid.price == pair.clock))
    (lt-ltb bid.product (length products) known)
    (both_hold (nat_le pair.start bid.price) (nat_le bid.price pair.clock) (le-leb pair.start bid.price from_start)
    (le-leb bid.price pair.clock (omega (arith, at_clock))))
    (le-leb bid.quantity (cap_of products bid.product) (omega (arith, maintained, capped)))
    (ap (λ t. not t || (bid.price == pair.clock)) (eq-eqb bid.quantity held maintained)
    ∙ eq-eqb bid.price pair.clock at_clock)

-- with such a bid, one more is judged
pub judged-maintained : (products : List Product) (prices : List PricePair) (demands : List ℕ) (bids : List Bid)
    (i least taken : ℕ) (seen : List Product) (one : Product) (next : ℕ)
    → AreJudgedBelow products prices demands bids i least taken → i < length bids → seen ≡ products
    → IsRow products demands → (get_or bids i no_bid).product < length products
    → least ≤ (get_or bids i no_bid).product
    → (get_or bids i no_bid).quantity ≡ slice_index demands (get_or bids i no_bid).product
    → (get_or bids i no_bid).price ≡ (prices_at prices (get_or bids i no_bid).product).clock
    → (prices_at prices (get_or bids i no_bid).product).start ≤ (get_or bids i no_bid).price
    → next ≡ taken + (get_or seen (get_or bids i no_bid).product one).units * (get_or bids i no_bid).quantity
    → next ≤ taken + most_units * most_supply
    → AreJudgedBelow products prices demands bids (i + 1) ((get_or bids i no_bid).product + 1) next
judged-maintained products prices demands bids i least taken seen one next so_far within same row known new
    maintained at_clock from_start is most =
    let bid = get_or bids i no_bid in
    let before = none_below (length seen) least bid.product (take i bids) so_far.below new in
    let passes = maintained_passes products prices demands i bid row known maintained at_clock from_start
    ∙ ap (λ list. first_fault (checks_by_last list prices demands None i bid)) (sym same) in
    record {
      judged = judged_more products prices demands bids i taken so_far.judged within seen None None same before passes
          refl one next (omega (arith, is)) most;
      below = below_more bids i least (bid.product + 1) within (omega (arith, new)) (omega arith) so_far.below;
    }
