-- All requests of a good sheet together can be processed. Product by product they go in one direction, and lead to no
-- demand below 0 or above the cap; requests for different products do not concern each other.
use Rattle.std.proofs.Common.{◌≡◌, ℕ, zero, suc, ◌+◌, ◌<◌, ◌≤◌, List, [], ◌∷◌, Bool, true, false, ◌&&◌, cond}
use Rattle.std.proofs.Common.{length, ◌==◌, inl, inr, refl, ap, sym, subst, ◌∙◌, arith, get_or, All}
use Rattle.std.specs.Prelude.{nat_le, sum_by, slice_index}
use Rattle.std.specs.List.{filter, flat_map, range_with_len, AllPairs}
use Rattle.clock_money.specs.Point.{price_point}
use Rattle.std.proofs.lemmas.Bool.{le-leb, lt-leb, eq-eqb, ne_eqb, cases_eq, cases_order, and_right}
use Rattle.std.proofs.lemmas.List.{length-append}
use Rattle.std.proofs.lemmas.List.Elements.{All-head, All-tail, All-weaker, All-nil, All-append}
use Rattle.std.proofs.lemmas.List.Sums.{sum_by-cons, sum_by-append, length-filter, count_by-le-length}
use Rattle.clock_device.proofs.Pairs.{AllPairs-append}
use Rattle.clock_terms.specs.declared.setup.Product.{Product}
use Rattle.clock_terms.specs.declared.prices.PricePair.{PricePair}
use Rattle.clock_terms.specs.Prices.{prices_at}
use Rattle.clock_terms.specs.Limits.{PublicSetup, most_products, cap_of, no_product, IsProduct, IsRow}
use Rattle.clock_bids.specs.declared.sheet.Bid.{Bid}
use Rattle.clock_terms.specs.declared.change.Change.{Change}
use Rattle.clock_terms.specs.declared.change.Kind.{Kind}
use Rattle.clock_terms.specs.declared.change.Kind.TheVariants.{Increase, Reduction}
use Rattle.clock_bids.specs.Holding.{Holding}
use Rattle.clock_bids.specs.Sheet.{chain_of, most_bids, IsGoodSheet}
use Rattle.clock_bids.specs.Changes.{changes_of_product, changes_of_sheet}
use Rattle.clock_bids.specs.inside.Chains.{IsGoodChain}
use Rattle.clock_terms.specs.Requests.{same_kind, is_request_of, asked_of, IsChangeOf, IsBefore, AreApart, GoOneWay}
use Rattle.clock_terms.specs.Requests.{AreChangesOf}
use Rattle.clock_bids.proofs.Good.{no_sheet_fault, good_sheet_chains, last_quantity-le}
use Rattle.clock_bids.proofs.Links.{IsStep, AreSteps, AreProductSteps, KeepsWithin, product_steps}

-- a weaker relation of all pairs
pairs_weaker : {A : Type 0} (R S : A → A → Type 0) → ((a b : A) → R a b → S a b) → (xs : List A)
    → AllPairs R xs → AllPairs S xs
pairs_weaker R S weaker xs pairs i j d before within =
    weaker (get_or xs i d) (get_or xs j d) (pairs i j d before within)

-- a relation of all pairs that follows from a weaker one and a property of each item
pairs_with : {A : Type 0} (P : A → Type 0) (R S : A → A → Type 0) → ((a b : A) → P a → P b → R a b → S a b)
    → (xs : List A) → All P xs → AllPairs R xs → AllPairs S xs
pairs_with P R S holds xs each pairs i j d before within = holds (get_or xs i d) (get_or xs j d)
    (each i d (omega (arith, before, within))) (each j d within) (pairs i j d before within)

-- the blocks of a product's requests of one kind, added up: all of them, or none
kind_self : (kind : Kind) → same_kind kind kind ≡ true
kind_self Increase = refl
kind_self Reduction = refl

counts : (kind : Kind) (bidder product : ℕ) (change : Change) (b : Bool) → is_request_of kind bidder product change ≡ b
    → cond (is_request_of kind bidder product change) change.amount 0 ≡ cond b change.amount 0
counts kind bidder product change b is = ap (λ test. cond test change.amount 0) is

all_counted : (owner item first : ℕ) (pair : PricePair) (way : Kind) (changes : List Change) → All (IsStep owner item
    first pair way) changes → asked_of way owner item changes ≡ sum_by (λ change. change.amount) changes
all_counted owner item first pair way [] each = refl
all_counted owner item first pair way (change ∷ changes) each =
    let step : IsStep owner item first pair way change =
    All-head (IsStep owner item first pair way) change changes each in
    let own : is_request_of way owner item change ≡ true =
    ap (λ kind. same_kind way kind && (change.bidder == owner) && (change.product == item)) step.kind
    ∙ ap (λ b. b && (change.bidder == owner) && (change.product == item)) (kind_self way) ∙ ap (λ b. b
    && (change.product == item)) (eq-eqb change.bidder owner step.bidder) ∙ eq-eqb change.product item step.product in
    let rest =
    all_counted owner item first pair way changes (All-tail (IsStep owner item first pair way) change changes each) in
    omega (
      arith,
      sum_by-cons (λ (one : Change). cond (is_request_of way owner item one) one.amount 0) change changes,
      sum_by-cons (λ (one : Change). one.amount) change changes,
      counts way owner item change true own,
      rest,
    )

none_counted : (kind : Kind) (bidder product : ℕ) (changes : List Change) →
    All (λ change. is_request_of kind bidder product change ≡ false) changes → asked_of kind bidder product changes ≡ 0
none_counted kind bidder product [] none = refl
none_counted kind bidder product (change ∷ changes) none =
    omega (
      arith,
      sum_by-cons (λ (one : Change). cond (is_request_of kind bidder product one) one.amount 0) change changes,
      counts kind bidder product change false
          (All-head (λ one. is_request_of kind bidder product one ≡ false) change changes none),
      none_counted kind bidder product changes
          (All-tail (λ one. is_request_of kind bidder product one ≡ false) change changes none),
    )

and_none : (a b c : Bool) → c ≡ false → (a && b && c) ≡ false
and_none a b c none = and_right (a && b) c none

other_product : (owner item first : ℕ) (pair : PricePair) (way kind : Kind) (product : ℕ) (changes : List Change)
    → (item ≡ product → ⊥) → All (IsStep owner item first pair way) changes → asked_of kind owner product changes ≡ 0
other_product owner item first pair way kind product changes differ each = none_counted kind owner product changes
    (All-weaker (IsStep owner item first pair way) (λ change. is_request_of kind owner product change ≡ false)
    (λ change step. and_none (same_kind kind change.kind) (change.bidder == owner) (change.product == product)
    (ne_eqb change.product product (λ e. differ (sym step.product ∙ e)))) changes each)

other_kind : (owner item first : ℕ) (pair : PricePair) (way kind : Kind) (changes : List Change)
    → same_kind kind way ≡ false → All (IsStep owner item first pair way) changes → asked_of kind owner item changes ≡ 0
other_kind owner item first pair way kind changes differ each =
    none_counted kind owner item changes (All-weaker (IsStep owner item first pair way)
    (λ change. is_request_of kind owner item change ≡ false) (λ change step. ap (λ b. b && (change.bidder == owner)
    && (change.product == item)) (ap (λ k. same_kind kind k) step.kind ∙ differ)) changes each)

-- so the requests for a product lead to no demand below 0 or above the cap
module _ (owner item : ℕ) (pair : PricePair) (cap held most : ℕ) (changes : List Change) where
  pub record Keeps : Type 0 where
    pub raised : held + asked_of Increase owner item changes ≤ cap
    pub reduced : asked_of Reduction owner item changes ≤ held

  by_way : (way : Kind) (blocks : ℕ) → held ≤ cap → AreSteps owner item 0 pair way blocks most changes
      → KeepsWithin way cap held blocks → Keeps
  by_way Increase blocks least steps within =
      let ups = all_counted owner item 0 pair Increase changes steps.all in
      let downs = other_kind owner item 0 pair Increase Reduction changes refl steps.all in
      record { raised = omega (arith, ups, steps.together, within); reduced = omega (arith, downs) }
  by_way Reduction blocks least steps within =
      let ups = other_kind owner item 0 pair Reduction Increase changes refl steps.all in
      let downs = all_counted owner item 0 pair Reduction changes steps.all in
      record { raised = omega (arith, ups, least); reduced = omega (arith, downs, steps.together, within) }

  keeps : held ≤ cap → AreProductSteps owner item pair cap held most changes → Keeps
  keeps least steps = by_way steps.way steps.blocks least steps.steps steps.within

-- the bids for a product are among those from that product on, and not among those from the next on
chains_apart : (item : ℕ) (bids : List Bid) → length (chain_of item bids) + length
    (filter (λ bid. nat_le (item + 1) bid.product) bids) ≤ length (filter (λ bid. nat_le item bid.product) bids)
chains_apart item [] = omega arith
chains_apart item (bid ∷ bids) =
    let rest = chains_apart item bids in
    elim (cases_order bid.product item) as (λ _. length (chain_of item (bid ∷ bids)) + length (filter (λ bid.
    nat_le (item + 1) bid.product) (bid ∷ bids)) ≤ length (filter (λ bid. nat_le item bid.product) (bid ∷ bids))) [
      | inl same ↦ rw (
        eq-eqb bid.product item same,
        lt-leb (item + 1) bid.product (omega (arith, same)),
        le-leb item bid.product
            (omega (arith, same)),
      ) (omega (arith, rest))
      | inr (inl below) ↦ rw (
        ne_eqb bid.product item (λ e. omega (arith, e, below)),
        lt-leb (item + 1) bid.product
            (omega (arith, below)),
        lt-leb item bid.product below,
      ) rest
      | inr (inr above) ↦ rw (
        ne_eqb bid.product item (λ e. omega (arith, e, above)),
        le-leb (item + 1) bid.product
            (omega (arith, above)),
        le-leb item bid.product (omega (arith, above)),
      ) (omega (arith, rest))
    ]

-- there are no more bids from a product on than bids
pub length-filter-le : {A : Type 0} (test : A → Bool) (xs : List A) → length (filter test xs) ≤ length xs
length-filter-le test xs = omega (arith, length-filter test xs, count_by-le-length test xs)

no_place_twice : (a b : Change) → IsBefore a b → a.product ≡ b.product → a.place ≡ b.place → ⊥
no_place_twice a b before product place = elim before as (λ _. ⊥) [
  | inl lower ↦ omega (arith, lower, product)
  | inr same ↦ omega (arith, same.1, place)
]

module _ (products : List Product) (prices : List PricePair) (demands : List ℕ) (owner : ℕ) (bids : List Bid) where
  abbrev asks : ℕ → List Change
  asks item = changes_of_product owner item (prices_at prices item) (slice_index demands item) (chain_of item bids)

  abbrev AskSteps : ℕ → Type 0
  AskSteps item = AreProductSteps owner item (prices_at prices item) (cap_of products item) (slice_index demands item)
      (length (chain_of item bids) + 1) (asks item)

  module _ (steps : (item : ℕ) → item < length products → AskSteps item) where
    abbrev IsItsStep : ℕ → Kind → Change → Type 0
    IsItsStep item way = IsStep owner item 0 (prices_at prices item) way

    its_steps : (item : ℕ) (known : item < length products) → All (IsItsStep item (steps item known).way) (asks item)
    its_steps item known = (steps item known).steps.all

    is_change : (item : ℕ) → item < length products → (way : Kind) (change : Change) → IsItsStep item way change
        → IsChangeOf products prices owner change
    is_change item known way change step = record {
      bidder = step.bidder;
      product = omega (arith, step.product, known);
      least = step.least;
      most = step.most;
      from_start = subst (λ p. (prices_at prices p).start ≤ change.price) (sym step.product) step.from_start;
      to_clock = subst (λ p. change.price ≤ (prices_at prices p).clock) (sym step.product) step.to_clock;
      point = subst (λ p. change.point ≡ price_point (prices_at prices p).start change.price (prices_at prices p).clock)
          (sym step.product) step.point;
    }

    each : (from n : ℕ) → from + n ≤ length products
        → All (IsChangeOf products prices owner) (flat_map asks (range_with_len from n))
    each from zero within = All-nil (IsChangeOf products prices owner)
    each from (suc n) within =
        let known : from < length products = omega (arith, within) in
        All-append (IsChangeOf products prices owner) (asks from) (flat_map asks (range_with_len (from + 1) n))
        (All-weaker (IsItsStep from (steps from known).way) (IsChangeOf products prices owner) (is_change from known
        (steps from known).way) (asks from) (its_steps from known)) (each (from + 1) n (omega (arith, within)))

    from_on : (from n : ℕ) → from + n ≤ length products
        → All (λ change. from ≤ change.product) (flat_map asks (range_with_len from n))
    from_on from zero within = All-nil (λ (change : Change). from ≤ change.product)
    from_on from (suc n) within =
        let known : from < length products = omega (arith, within) in
        All-append (λ (change : Change). from ≤ change.product) (asks from) (flat_map asks (range_with_len (from + 1)
        n)) (All-weaker (IsItsStep from (steps from known).way) (λ (change : Change). from ≤ change.product) (λ change
        step. omega (arith, step.product)) (asks from) (its_steps from known)) (All-weaker (λ (change : Change). from
        + 1 ≤ change.product) (λ (change : Change). from ≤ change.product) (λ change above. omega (arith, above))
        (flat_map asks (range_with_len (from + 1) n)) (from_on (from + 1) n (omega (arith, within))))

    -- a relation of all pairs, if it holds within each product and between products
    pairs : (R : Change → Change → Type 0) → ((item : ℕ) → item < length products → AllPairs R (asks item))
        → ((a b : Change) → a.product < b.product → R a b) → (from n : ℕ) → from + n ≤ length products
        → AllPairs R (flat_map asks (range_with_len from n))
    pairs R own other from zero within = λ i j d before within. absurd (omega (arith, before, within))
    pairs R own other from (suc n) within =
        let known : from < length products = omega (arith, within) in
        let rest : List Change = flat_map asks (range_with_len (from + 1) n) in
        AllPairs-append R (asks from) rest (own from known) (pairs R own other (from + 1) n (omega (arith, within)))
        (All-weaker (IsItsStep from (steps from known).way) (λ (a : Change). All (R a) rest) (λ a step. All-weaker
        (λ (b : Change). from + 1 ≤ b.product) (R a) (λ b above. other a b (omega (arith, step.product, above))) rest
        (from_on (from + 1) n (omega (arith, within)))) (asks from) (its_steps from known))

    sorted : (from n : ℕ) → from + n ≤ length products → AllPairs IsBefore (flat_map asks (range_with_len from n))
    sorted = pairs IsBefore (λ item known. pairs_with (IsItsStep item (steps item known).way) (λ (a b : Change). a.place
        < b.place) IsBefore (λ a b first second before. inr (first.product ∙ sym second.product, before)) (asks item)
        (its_steps item known) (steps item known).steps.placed) (λ a b before. inl before)

    one_way : (from n : ℕ) → from + n ≤ length products → AllPairs GoOneWay (flat_map asks (range_with_len from n))
    one_way = pairs GoOneWay
        (λ item known. pairs_with (IsItsStep item (steps item known).way) (λ (a b : Change). a.place < b.place) GoOneWay
        (λ a b first second before bidder product. first.kind ∙ sym second.kind) (asks item) (its_steps item known)
        (steps item known).steps.placed) (λ a b before bidder product. absurd (omega (arith, before, product)))

    -- the blocks that the requests of several products ask for of one of them
    asked_before : (kind : Kind) (item from n : ℕ) → item < from → from + n ≤ length products →
        asked_of kind owner item (flat_map asks (range_with_len from n)) ≡ 0
    asked_before kind item from zero before within = refl
    asked_before kind item from (suc n) before within =
        let known : from < length products = omega (arith, within) in
        omega (
          arith,
          sum_by-append (λ (change : Change). cond (is_request_of kind owner item change) change.amount 0) (asks from)
              (flat_map asks (range_with_len (from + 1) n)),
          other_product owner from 0 (prices_at prices from) (steps from known).way kind item (asks from)
              (λ e. omega (arith, e, before)) (its_steps from known),
          asked_before kind item (from + 1) n (omega (arith, before)) (omega (arith, within)),
        )

    asked_at : (kind : Kind) (item from n : ℕ) → from ≤ item → item < from + n → from + n ≤ length products →
        asked_of kind owner item (flat_map asks (range_with_len from n)) ≡ asked_of kind owner item (asks item)
    asked_at kind item from zero low high within = absurd (omega (arith, low, high))
    asked_at kind item from (suc n) low high within =
        let known : from < length products = omega (arith, within) in
        let both = sum_by-append (λ (change : Change). cond (is_request_of kind owner item change) change.amount 0)
        (asks from) (flat_map asks (range_with_len (from + 1) n)) in
        elim (cases_eq from item) as (λ _. asked_of kind owner item (flat_map asks (range_with_len from (suc n)))
        ≡ asked_of kind owner item (asks item)) [
          | inl same ↦ omega (
            arith,
            both,
            ap (λ p. asked_of kind owner item (asks p)) same,
            asked_before kind item (from + 1) n
                (omega (arith, same)) (omega (arith, within)),
          )
          | inr differ ↦ omega (
            arith,
            both,
            other_product owner from 0 (prices_at prices from) (steps from known).way kind item (asks from) differ
                (its_steps from known),
            asked_at kind item (from + 1) n (omega (arith, low, differ)) (omega (arith, high)) (omega (arith, within)),
          )
        ]

    -- there is at most one request for each bid and each product
    count : (from n : ℕ) → from + n ≤ length products → length (flat_map asks (range_with_len from n)) ≤ length
        (filter (λ bid. nat_le from bid.product) bids) + n
    count from zero within = omega arith
    count from (suc n) within =
        let known : from < length products = omega (arith, within) in
        omega (
          arith,
          length-append (asks from) (flat_map asks (range_with_len (from + 1) n)),
          (steps from known).steps.count,
          chains_apart from bids,
          count (from + 1) n (omega (arith, within)),
        )

    pub together : length bids ≤ most_bids → length products ≤ most_products →
        ((item : ℕ) → item < length products → slice_index demands item ≤ cap_of products item) →
        AreChangesOf products prices demands owner (flat_map asks (range_with_len 0 (length products)))
    together few_bids few_products capped = record {
      count = omega (
        arith,
        count 0 (length products) (omega arith),
        length-filter-le (λ (bid : Bid). nat_le 0 bid.product) bids,
        few_bids,
        few_products,
      );
      all = each 0 (length products) (omega arith);
      sorted = sorted 0 (length products) (omega arith);
      apart = pairs_weaker IsBefore AreApart (λ a b before bidder product place. no_place_twice a b before product
          place) (flat_map asks (range_with_len 0 (length products))) (sorted 0 (length products) (omega arith));
      one_way = one_way 0 (length products) (omega arith);
      capped = λ item known. (let own : Keeps owner item (prices_at prices item) (cap_of products item)
          (slice_index demands item) (length (chain_of item bids) + 1) (asks item) = keeps owner item
          (prices_at prices item) (cap_of products item) (slice_index demands item) (length (chain_of item bids) + 1)
          (asks item) (capped item known) (steps item known) in
          record {
            raised = omega (
              arith,
              own.raised,
              asked_at Increase item 0 (length products) (omega arith) (omega (arith, known)) (omega arith),
            );
            reduced = omega (
              arith,
              own.reduced,
              asked_at Reduction item 0 (length products) (omega arith) (omega (arith, known)) (omega arith),
            );
          });
    }

-- the requests of a good sheet
module _ (setup : PublicSetup) (round : ℕ) (prices : List PricePair) (holding : Holding) (owner : ℕ) (bids : List Bid)
    (few : length setup.products ≤ most_products) (limits : All IsProduct setup.products)
    (pairs_each : length prices ≡ length setup.products) (rising : All (λ pair. pair.start < pair.clock) prices)
    (row : IsRow setup.products holding.demands) (good : IsGoodSheet setup round prices holding bids) where
  pub sheet_steps : (item : ℕ) → item < length setup.products → AreProductSteps owner item (prices_at prices item)
      (cap_of setup.products item) (slice_index holding.demands item) (length (chain_of item bids) + 1)
      (changes_of_product owner item (prices_at prices item) (slice_index holding.demands item) (chain_of item bids))
  sheet_steps item known =
      let pair : PricePair = prices_at prices item in
      let cap : ℕ = cap_of setup.products item in
      let before : ℕ = slice_index holding.demands item in
      let product : IsProduct (get_or setup.products item no_product) = limits item no_product known in
      let chain : IsGoodChain pair cap before (chain_of item bids) =
      (good_sheet_chains setup round prices holding bids good).chains item known in
      let up : pair.start < pair.clock =
      rising item (record { start = 0; clock = 0 }) (omega (arith, known, pairs_each)) in
      let held : before ≤ cap = row.capped item (omega (arith, known, row.each)) in
      product_steps owner item pair cap before (omega (arith, product.cap, product.supply)) held (chain_of item bids)
      (omega (arith, up)) chain (last_quantity-le pair cap before (chain_of item bids) held chain.in_range)

  pub good_sheet_changes : AreChangesOf setup.products prices holding.demands owner
      (changes_of_sheet prices holding.demands owner bids)
  good_sheet_changes =
      subst (λ n. AreChangesOf setup.products prices holding.demands owner (flat_map (λ item. changes_of_product owner
      item (prices_at prices item) (slice_index holding.demands item) (chain_of item bids)) (range_with_len 0 n)))
      (sym pairs_each) (together setup.products prices holding.demands owner bids sheet_steps (no_sheet_fault setup
      round prices holding bids good).count few (λ item known. row.capped item (omega (arith, known, row.each))))
