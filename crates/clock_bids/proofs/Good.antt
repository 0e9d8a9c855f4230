-- A sheet has no fault exactly if it has few enough bids, no bid has a fault, and its requested activity is within the
-- limit. Then its chains are good, by induction over the bids.
use Rattle.std.proofs.Common.{◌≡◌, ℕ, zero, suc, ◌+◌, ◌*◌, ◌<◌, ◌≤◌, List, [], ◌∷◌, ◌++◌, Bool, cond, map}
use Rattle.std.proofs.Common.{length, take, inl, inr, refl, ap, sym, subst, ◌∙◌, arith, get_or, All}
use Rattle.std.specs.Prelude.{Option, Some, None, nat_le, slice_index, zip}
use Rattle.std.specs.List.{range_with_len}
use Rattle.std.proofs.lemmas.Bool.{leb-true, ltb-true, le-leb, lt-leb, and_parts, cases_Bool, cases_eq}
use Rattle.std.proofs.lemmas.List.{take_more, take_all}
use Rattle.std.proofs.lemmas.List.Elements.{All-push, All-head, All-tail}
use Rattle.std.proofs.lemmas.List.FromFn.{get_or-map-range_with_len}
use Rattle.std.proofs.lemmas.List.Sums.{sum_by-cons}
use Rattle.clock_terms.specs.declared.setup.Product.{Product}
use Rattle.clock_terms.specs.declared.prices.PricePair.{PricePair}
use Rattle.clock_terms.specs.Prices.{prices_at}
use Rattle.clock_terms.specs.Limits.{PublicSetup, cap_of, IsRow}
use Rattle.clock_terms.specs.Faults.{first_fault, in_turn}
use Rattle.clock_terms.specs.Eligibility.{activity}
use Rattle.clock_terms.proofs.FaultLaws.{both_pass, passed, failed}
use Rattle.clock_bids.specs.declared.sheet.Bid.{Bid}
use Rattle.clock_bids.specs.declared.sheet.BidFault.{BidFault}
use Rattle.clock_bids.specs.declared.sheet.BidFault.TheVariants.{TooMany, UnknownProduct, PriceRange, OverCap}
use Rattle.clock_bids.specs.declared.sheet.BidFault.TheVariants.{OverActivity}
use Rattle.clock_bids.specs.Holding.{Holding, activity_limit}
use Rattle.clock_bids.specs.inside.Parts.{is_for_product, is_within_cap, is_in_prices, checks_of_bids}
use Rattle.clock_bids.specs.Sheet.{chain_of, last_quantity, asked_demands, most_bids}
use Rattle.clock_bids.specs.Sheet.{bid_checks, is_within_limit, sheet_fault, IsGoodSheet}
use Rattle.clock_bids.specs.inside.Chains.{IsInRange, IsGoodChain, AreGoodChains, up, last_of, last_bids, step_checks}
use Rattle.clock_bids.specs.inside.Chains.{checks_by_last}
use Rattle.clock_bids.proofs.Chains.{passes, chain_checks, good_chain-push, checks_by_last_of}
use Rattle.clock_bids.proofs.Tables.{no_bid, chain_of-own, chain_of-other, length-asked_demands}

-- a sheet without bids
pub good_chains-nil : (products : List Product) (prices : List PricePair) (demands : List ℕ)
    → AreGoodChains products prices demands []
good_chains-nil products prices demands = record {
  known = λ k d within. absurd (omega (arith, within));
  chains =
      λ product known. record { in_range = λ k d within. absurd (omega (arith, within)); rising = tt; moves = up tt };
}

-- if its first three checks pass, a bid is for a product of the set-up, and in range
module _ (products : List Product) (prices : List PricePair) (demands : List ℕ) (earlier : List Bid)
    (i : ℕ) (bid : Bid) where
  abbrev pair : PricePair
  pair = prices_at prices bid.product

  abbrev held : ℕ
  held = slice_index demands bid.product

  abbrev chain : List Bid
  chain = chain_of bid.product earlier

  abbrev IsGoodAt : ℕ → List Bid → Type 0
  IsGoodAt product list =
      IsGoodChain (prices_at prices product) (cap_of products product) (slice_index demands product) list

  record IsSoFarGood : Type 0 where
    known : bid.product < length products
    in_range : IsInRange pair (cap_of products bid.product) bid
    others : first_fault (chain_checks held pair.clock chain i bid) ≡ None

  so_far_good : first_fault (bid_checks products prices demands earlier i bid) ≡ None → IsSoFarGood
  so_far_good none =
      let known = passes (UnknownProduct i) (is_for_product products bid) _ none in
      let priced = passes (PriceRange i) (is_in_prices prices bid) _ known.1 in
      let capped = passes (OverCap i) (is_within_cap products bid) _ priced.1 in
      let both = and_parts (nat_le pair.start bid.price) (nat_le bid.price pair.clock) priced.0 in
      record {
        known = ltb-true bid.product (length products) known.0;
        in_range = record {
          from_start = leb-true pair.start bid.price both.0;
          to_clock = leb-true bid.price pair.clock both.1;
          capped = leb-true bid.quantity (cap_of products bid.product) capped.0;
        };
        others = capped.1;
      }

  -- good chains stay good after a bid without a fault
  pub good_chains-push : AreGoodChains products prices demands earlier → first_fault (bid_checks products prices demands
      earlier i bid) ≡ None → AreGoodChains products prices demands (earlier ++ bid ∷ [])
  good_chains-push good none =
      let here : IsSoFarGood = so_far_good none in
      let was : IsGoodChain pair (cap_of products bid.product) held chain = good.chains bid.product here.known in
      let after : first_fault (step_checks (last_of chain) held pair.clock i bid) ≡ None =
      sym (checks_by_last_of pair (cap_of products bid.product) held chain bid i was) ∙ here.others in
      let own : IsGoodChain pair (cap_of products bid.product) held (chain ++ bid ∷ []) =
      good_chain-push pair (cap_of products bid.product) held chain bid i was here.in_range after in
      record {
        known = All-push (λ (b : Bid). b.product < length products) earlier bid good.known here.known;
        chains = λ product known. elim (cases_eq bid.product product) as
            (λ _. IsGoodAt product (chain_of product (earlier ++ bid ∷ []))) [
              | inl same ↦ subst (λ p. IsGoodAt p (chain_of p (earlier ++ bid ∷ []))) same
                  (subst (λ list. IsGoodAt bid.product list) (sym (chain_of-own bid.product earlier bid refl)) own)
              | inr differ ↦ subst (λ list. IsGoodAt product list) (sym (chain_of-other product earlier bid differ))
                  (good.chains product known)
            ];
      }

  -- the last bid for each product is enough for the checks
  abbrev last_one : Option Bid
  last_one = get_or (last_bids (length products) earlier) bid.product None

  pub bid_checks-by_last : AreGoodChains products prices demands earlier → first_fault (bid_checks products prices
      demands earlier i bid) ≡ first_fault (checks_by_last products prices demands last_one i bid)
  bid_checks-by_last good = elim (cases_Bool (is_for_product products bid)) as (λ _. first_fault (bid_checks products
      prices demands earlier i bid) ≡ first_fault (checks_by_last products prices demands last_one i bid)) [
        | inl found ↦
            (let known : bid.product < length products = ltb-true bid.product (length products) found in
            let last = get_or-map-range_with_len (λ product. last_of (chain_of product earlier)) 0 (length products)
            bid.product bid.product None known (omega arith) in
            let others =
            checks_by_last_of pair (cap_of products bid.product) held chain bid i (good.chains bid.product known) in
            ap (λ rest. cond (is_for_product products bid) (cond (is_in_prices prices bid) (cond
            (is_within_cap products bid) rest (Some (OverCap i))) (Some (PriceRange i))) (Some (UnknownProduct i)))
            (others ∙ ap (λ one. first_fault (step_checks one held pair.clock i bid)) (sym last)))
        | inr unknown ↦ rw unknown
      ]

-- if no item has a fault, the item at an index has none
each_passes : {X F : Type 0} (checks : ℕ → X → List (F × Bool)) (i : ℕ) (items : List X) → first_fault (in_turn checks i
    items) ≡ None → (k n : ℕ) (d : X) → n ≡ i + k → k < length items → first_fault (checks n (get_or items k d)) ≡ None
each_passes checks i [] none k n d at within = absurd (omega (arith, within))
each_passes checks i (x ∷ xs) none zero n d at within =
    let same : i ≡ n = omega (arith, at) in
    subst (λ m. first_fault (checks m x) ≡ None) same (both_pass (checks i x) (in_turn checks (i + 1) xs) none).0
each_passes checks i (x ∷ xs) none (suc k) n d at within = each_passes checks (i + 1) xs
    (both_pass (checks i x) (in_turn checks (i + 1) xs) none).1 k n d (omega (arith, at)) (omega (arith, within))

module _ (setup : PublicSetup) (round : ℕ) (prices : List PricePair) (holding : Holding) (bids : List Bid) where
  -- the requested activity of the sheet
  abbrev asked_activity : ℕ
  asked_activity = activity setup.products (asked_demands (length setup.products) bids)

  -- what it means that a sheet is good: few enough bids, no bid with a fault, and activity within the limit
  pub record HasNoFault : Type 0 where
    pub count : length bids ≤ most_bids
    pub passed : first_fault (checks_of_bids setup.products prices holding.demands bids) ≡ None
    pub active : asked_activity ≤ activity_limit setup round holding.eligibility

  abbrev last_check : List (BidFault × Bool)
  last_check = (OverActivity, is_within_limit setup round holding.eligibility bids) ∷ []

  pub no_sheet_fault : IsGoodSheet setup round prices holding bids → HasNoFault
  no_sheet_fault good =
      let few = passes TooMany (nat_le (length bids) most_bids) _ good in
      let parts = both_pass (checks_of_bids setup.products prices holding.demands bids) last_check few.1 in
      record {
        count = leb-true (length bids) most_bids few.0;
        passed = parts.0;
        active = leb-true asked_activity (activity_limit setup round holding.eligibility)
            (passes OverActivity _ None parts.1).0;
      }

  -- the first fault of a sheet that has few enough bids
  module _ (few : length bids ≤ most_bids) where
    of_few : sheet_fault setup round prices holding bids
        ≡ first_fault (checks_of_bids setup.products prices holding.demands bids ++ last_check)
    of_few = ap (λ b. cond b (first_fault (checks_of_bids setup.products prices holding.demands bids ++ last_check))
        (Some TooMany)) (le-leb (length bids) most_bids few)

    pub sheet_fault-of_bid : (fault : BidFault) → first_fault (checks_of_bids setup.products prices holding.demands
        bids) ≡ Some fault → sheet_fault setup round prices holding bids ≡ Some fault
    sheet_fault-of_bid fault is =
        of_few ∙ failed (checks_of_bids setup.products prices holding.demands bids) last_check fault is

    module _ (none : first_fault (checks_of_bids setup.products prices holding.demands bids) ≡ None) where
      of_good_bids : sheet_fault setup round prices holding bids ≡ first_fault last_check
      of_good_bids = of_few ∙ passed (checks_of_bids setup.products prices holding.demands bids) last_check none

      pub sheet_fault-over : activity_limit setup round holding.eligibility < asked_activity
          → sheet_fault setup round prices holding bids ≡ Some OverActivity
      sheet_fault-over over = of_good_bids ∙ ap (λ b. cond b None (Some OverActivity))
          (lt-leb asked_activity (activity_limit setup round holding.eligibility) over)

      pub sheet_fault-none : asked_activity ≤ activity_limit setup round holding.eligibility
          → IsGoodSheet setup round prices holding bids
      sheet_fault-none within = of_good_bids ∙ ap (λ b. cond b None (Some OverActivity))
          (le-leb asked_activity (activity_limit setup round holding.eligibility) within)

module _ (products : List Product) (prices : List PricePair) (demands : List ℕ) (bids : List Bid) where
  -- if no bid has a fault, the first bids of the sheet are good chains
  good_up_to : first_fault (checks_of_bids products prices demands bids) ≡ None → (i : ℕ) → i ≤ length bids →
      AreGoodChains products prices demands (take i bids)
  good_up_to none zero within = good_chains-nil products prices demands
  good_up_to none (suc i) within =
      let next = take_more bids i no_bid (omega (arith, within)) in
      let one : i + 1 ≡ suc i = omega arith in
      subst (λ part. AreGoodChains products prices demands part) (sym next ∙ ap (λ n. take n bids) one)
      (good_chains-push products prices demands (take i bids) i (get_or bids i no_bid)
      (good_up_to none i (omega (arith, within))) (each_passes (λ i bid. bid_checks products prices demands
      (take i bids) i bid) 0 bids none i i no_bid (omega arith) (omega (arith, within))))

  pub good_bids_chains : first_fault (checks_of_bids products prices demands bids) ≡ None
      → AreGoodChains products prices demands bids
  good_bids_chains none = subst (λ part. AreGoodChains products prices demands part)
      (take_all (length bids) bids (omega arith)) (good_up_to none (length bids) (omega arith))

  -- if no bid has a fault, none is above the cap of its product
  pub good_bids_capped : first_fault (checks_of_bids products prices demands bids) ≡ None
      → All (λ bid. bid.quantity ≤ cap_of products bid.product) bids
  good_bids_capped none place d within =
      let passed = each_passes (λ i bid. bid_checks products prices demands (take i bids) i bid) 0 bids none
      place place d (omega arith) within in
      let good = so_far_good products prices demands (take place bids) place (get_or bids place d) passed in
      good.in_range.capped

pub good_sheet_capped : (setup : PublicSetup) (round : ℕ) (prices : List PricePair) (holding : Holding)
    (bids : List Bid) → IsGoodSheet setup round prices holding bids
    → All (λ bid. bid.quantity ≤ cap_of setup.products bid.product) bids
good_sheet_capped setup round prices holding bids good = good_bids_capped setup.products prices holding.demands bids
    (no_sheet_fault setup round prices holding bids good).passed

pub good_sheet_chains : (setup : PublicSetup) (round : ℕ) (prices : List PricePair) (holding : Holding)
    (bids : List Bid) → IsGoodSheet setup round prices holding bids
    → AreGoodChains setup.products prices holding.demands bids
good_sheet_chains setup round prices holding bids good = good_bids_chains setup.products prices holding.demands bids
    (no_sheet_fault setup round prices holding bids good).passed

-- the last quantity of a good chain is within the cap
pub last_quantity-le : (prices : PricePair) (cap before : ℕ) (chain : List Bid) → before ≤ cap
    → All (IsInRange prices cap) chain → last_quantity before chain ≤ cap
last_quantity-le prices cap before [] most good = most
last_quantity-le prices cap before (bid ∷ bids) most good =
    let first : IsInRange prices cap bid = All-head (IsInRange prices cap) bid bids good in
    last_quantity-le prices cap bid.quantity bids first.capped (All-tail (IsInRange prices cap) bid bids good)

-- requested demands of good chains are within the caps
pub asked_row : (products : List Product) (prices : List PricePair) (demands : List ℕ) (bids : List Bid)
    → AreGoodChains products prices demands bids → IsRow products (asked_demands (length products) bids)
asked_row products prices demands bids good = record {
  each = length-asked_demands (length products) bids;
  capped = λ product within.
      (let known : product < length products = omega (arith, within, length-asked_demands (length products) bids) in
      let is = get_or-map-range_with_len (λ p. last_quantity 0 (chain_of p bids)) 0
      (length products) product product 0 known (omega arith) in
      let most = last_quantity-le (prices_at prices product) (cap_of products product) 0 (chain_of product bids)
      (omega arith) (good.chains product known).in_range in
      omega (arith, is, most));
}

-- what is known of the bid at an index: the last bid before it for its product, and its first fault
pub record IsJudged (products : List Product) (prices : List PricePair) (demands : List ℕ) (bids : List Bid) (i : ℕ)
    (last : Option Bid) (fault : Option BidFault) : Type 0 where
  pub last_is : last ≡ get_or (last_bids (length products) (take i bids)) (get_or bids i no_bid).product None
  pub fault_is : first_fault (bid_checks products prices demands (take i bids) i (get_or bids i no_bid)) ≡ fault

-- one step of a pass over the bids, if those before are good
module _ (products : List Product) (prices : List PricePair) (demands : List ℕ) (bids : List Bid) (i : ℕ)
    (good : AreGoodChains products prices demands (take i bids)) where
  abbrev here : Bid
  here = get_or bids i no_bid

  -- the products may be read from another list that is equal
  pub judged_by : (seen : List Product) (last : Option Bid) (fault : Option BidFault) → seen ≡ products
      → last ≡ get_or (last_bids (length seen) (take i bids)) here.product None → fault ≡ first_fault
      (checks_by_last seen prices demands last i here) → IsJudged products prices demands bids i last fault
  judged_by seen last fault same before judged =
      let last_is : last ≡ get_or (last_bids (length products) (take i bids)) here.product None =
      before ∙ ap (λ (list : List Product). get_or (last_bids (length list) (take i bids)) here.product None) same in
      record {
        last_is = last_is;
        fault_is = bid_checks-by_last products prices demands (take i bids) i here good
            ∙ sym (judged ∙ ap (λ list. first_fault (checks_by_last list prices demands last i here)) same
            ∙ ap (λ one. first_fault (checks_by_last products prices demands one i here)) last_is);
      }

  module _ (none : first_fault (bid_checks products prices demands (take i bids) i here) ≡ None) where
    pub good_chains-more : i < length bids → AreGoodChains products prices demands (take (i + 1) bids)
    good_chains-more within =
        subst (λ part. AreGoodChains products prices demands part) (sym (take_more bids i no_bid within))
        (good_chains-push products prices demands (take i bids) i here good none)

    pub known_here : here.product < length products
    known_here = (so_far_good products prices demands (take i bids) i here none).known

-- the requested demands of a good sheet are a row, with an activity within the limit, in round 1 within eligibility
module _ (setup : PublicSetup) (round : ℕ) (prices : List PricePair) (holding : Holding) (bids : List Bid)
    (good : IsGoodSheet setup round prices holding bids) where
  pub good_sheet_row : IsRow setup.products (asked_demands (length setup.products) bids)
  good_sheet_row =
      asked_row setup.products prices holding.demands bids (good_sheet_chains setup round prices holding bids good)

  pub good_sheet_activity : activity setup.products (asked_demands (length setup.products) bids)
      ≤ activity_limit setup round holding.eligibility
  good_sheet_activity = (no_sheet_fault setup round prices holding bids good).active

-- a sheet without bids is good
pub no_activity : (products : List Product) (from n : ℕ) → activity products (map (λ _. 0) (range_with_len from n)) ≡ 0
no_activity [] from n = refl
no_activity (product ∷ products) from zero = refl
no_activity (product ∷ products) from (suc n) =
    let first = sum_by-cons (λ (line : Product × ℕ). line.0.units * line.1) (product, 0)
    (zip products (map (λ _. 0) (range_with_len (from + 1) n))) in
    omega (arith, first, no_activity products (from + 1) n)

pub empty_sheet_good : (setup : PublicSetup) (round : ℕ) (prices : List PricePair) (holding : Holding)
    → IsGoodSheet setup round prices holding []
empty_sheet_good setup round prices holding =
    let none = no_activity setup.products 0 (length setup.products) in
    sheet_fault-none setup round prices holding [] (omega arith) refl (omega (arith, none))
