-- The bids of blocks one by one are those at the different leaving prices.
use Rattle.std.proofs.Common.{◌≡◌, ℕ, ◌+◌, ◌-◌, ◌<◌, ◌≤◌, zero, suc, max, List, [], ◌∷◌, ◌++◌, length, map, reverse}
use Rattle.std.proofs.Common.{take, get_or, Bool, true, false}
use Rattle.std.proofs.Common.{cond, not, Option, Some, None, min, append-nil, refl, sym, ◌∙◌, ap, ap₂, subst, arith}
use Rattle.std.specs.Prelude.{nat_le, nat_lt, nat_eq, ◌==◌, if◌then◌else◌}
use Rattle.std.specs.List.{filter_map, cons_option, count_by, dedup, dedup_from}
use Rattle.std.proofs.lemmas.Bool.Decides.{nat_tests}
use Rattle.std.proofs.lemmas.List.{reverse-append, length-reverse, length-take, get_or-take, take_all, take_min}
use Rattle.std.proofs.Math.Seq.{take-suc}
use Rattle.std.proofs.lemmas.List.Sums.{sum_by-cons}
use Rattle.clock_terms.specs.declared.prices.PricePair.{PricePair}
use Rattle.clock_bids.specs.declared.sheet.Bid.{Bid}
use Rattle.clock_replays.specs.Replays.{NeverRises}
use Rattle.clock_scripts.specs.Sincere.{leaving_price, leaving_prices, staying, bid_for, leaving_bids}
use Rattle.clock_scripts.specs.Sincere.{keeping_or_leaving, later_bids}
use Rattle.clock_scripts.specs.inside.Blocks.{last_leaving, block_bid, block_bids}
use Rattle.clock_scripts.specs.inside.Bodies.{bid_text, bids_text}

-- ---- rising lists

abbrev pub AtLeast : ℕ → List ℕ → Type 0
AtLeast low [] = Unit {0}
AtLeast low (x ∷ xs) = (low ≤ x) × AtLeast low xs

abbrev pub Rises : List ℕ → Type 0
Rises [] = Unit {0}
Rises (x ∷ xs) = AtLeast x xs × Rises xs

weaker : (a b : ℕ) (xs : List ℕ) → a ≤ b → AtLeast b xs → AtLeast a xs
weaker a b [] le h = tt
weaker a b (x ∷ xs) le h = (omega (arith, h.0), weaker a b xs le h.1)

-- ---- different prices

kept_above : (p k : ℕ) (xs : List ℕ) → p ≤ k → AtLeast p xs → AtLeast p (dedup_from nat_eq k xs)
kept_above p k [] le h = (le, tt)
kept_above p k (x ∷ xs) le h =
    elim (nat_eq x k) as (λ b. AtLeast p (cond b (dedup_from nat_eq k xs) (k ∷ dedup_from nat_eq x xs))) [
      | true ↦ kept_above p k xs le h.1
      | false ↦ (le, kept_above p x xs h.0 h.1)
    ]

above : (p : ℕ) (xs : List ℕ) → AtLeast p xs → AtLeast p (dedup nat_eq xs)
above p [] h = tt
above p (x ∷ xs) h = kept_above p x xs h.0 h.1

-- ---- counts

abbrev at_or_below : ℕ → List ℕ → ℕ
at_or_below price prices = count_by (λ left. nat_le left price) prices

none_below : (p x : ℕ) (xs : List ℕ) → p < x → AtLeast x xs → at_or_below p xs ≡ 0
none_below p x [] lt h = refl
none_below p x (y ∷ ys) lt h =
    let first = h.0 in
    let rest = none_below p x ys lt h.1 in
    let test : nat_le y p ≡ false = grind (arith, nat_tests) in
    sum_by-cons (λ left. cond (nat_le left p) 1 0) y ys ∙ ap₂ (λ b n. cond b 1 0 + n) test rest

one_more : (p q : ℕ) (xs : List ℕ) → p ≤ q → at_or_below q (p ∷ xs) ≡ 1 + at_or_below q xs
one_more p q xs le =
    let test : nat_le p q ≡ true = grind (arith, nat_tests) in
    sum_by-cons (λ left. cond (nat_le left q) 1 0) p xs ∙ ap (λ b. cond b 1 0 + at_or_below q xs) test

one_less : (n p q : ℕ) (xs : List ℕ) → p ≤ q → staying (suc n) (p ∷ xs) q ≡ staying n xs q
one_less n p q xs le = let more = one_more p q xs le in omega arith

-- ---- bids at different prices

abbrev bids_at : ℕ → ℕ → List ℕ → List ℕ → List Bid
bids_at product held leaving prices = map (λ price. bid_for product (staying held leaving price) price) prices

same_bids : (product n p : ℕ) (xs prices : List ℕ) → AtLeast p prices
    → bids_at product (suc n) (p ∷ xs) prices ≡ bids_at product n xs prices
same_bids product n p xs [] h = refl
same_bids product n p xs (q ∷ prices) h = ap₂ (λ (k : ℕ) (bids : List Bid). bid_for product k q ∷ bids)
    (one_less n p q xs h.0) (same_bids product n p xs prices h.1)

-- one block more, from the last on
abbrev first_of : List ℕ → Option ℕ
first_of [] = None
first_of (x ∷ xs) = Some x

add_by : (product n p x : ℕ) (xs : List ℕ) → p ≤ x → AtLeast p xs → AtLeast x xs → (b : Bool) → nat_eq x p ≡ b
    → bids_at product (suc n) (p ∷ x ∷ xs) (cond b (dedup_from nat_eq p xs) (p ∷ dedup_from nat_eq x xs))
    ≡ cond (not b) (bid_for product n p ∷ []) [] ++ leaving_bids product n (x ∷ xs)
add_by product n p x xs le above_p above_x true e =
    let same : x ≡ p = grind (arith, nat_tests) in
    ap (λ k. bids_at product (suc n) (p ∷ x ∷ xs) (dedup_from nat_eq k xs)) (sym same)
    ∙ same_bids product n p (x ∷ xs) (dedup_from nat_eq x xs) (kept_above p x xs le above_p)
add_by product n p x xs le above_p above_x false e =
    let below : p < x = grind (arith, nat_tests) in
    let none = none_below p x (x ∷ xs) below (omega arith, above_x) in
    let more = one_more p p (x ∷ xs) (omega arith) in
    let left : staying (suc n) (p ∷ x ∷ xs) p ≡ n = omega arith in
    ap₂ (λ (k : ℕ) (bids : List Bid). bid_for product k p ∷ bids) left
    (same_bids product n p (x ∷ xs) (dedup_from nat_eq x xs) (kept_above p x xs le above_p))

add_price : (product n p : ℕ) (xs : List ℕ) → AtLeast p xs → Rises xs
    → leaving_bids product (suc n) (p ∷ xs) ≡ block_bid product n (Some p) (first_of xs) ++ leaving_bids product n xs
add_price product n p [] least rises =
    let more = one_more p p [] (omega arith) in
    let left : staying (suc n) (p ∷ []) p ≡ n = omega arith in
    ap (λ k. bid_for product k p ∷ []) left
add_price product n p (x ∷ xs) least rises = add_by product n p x xs least.0 least.1 rises.0 (nat_eq x p) refl

-- ---- blocks

none_leaves : (pair : PricePair) (limit : ℕ) (limits : List ℕ) → pair.clock ≤ limit → AtLeast limit limits
    → filter_map (leaving_price pair) limits ≡ []
none_leaves pair limit [] le h = refl
none_leaves pair limit (x ∷ xs) le h =
    let more = h.0 in
    let stays : nat_lt x pair.clock ≡ false = grind (arith, nat_tests) in
    ap (λ b. cons_option (cond b (Some (max pair.start x)) None) (filter_map (leaving_price pair) xs)) stays
    ∙ none_leaves pair limit xs le h.1

prices_least : (pair : PricePair) (limit : ℕ) (limits : List ℕ) → AtLeast limit limits
    → AtLeast (max pair.start limit) (filter_map (leaving_price pair) limits)
prices_least pair limit [] h = tt
prices_least pair limit (x ∷ xs) h =
    let P : Bool → Type 0 = λ b. AtLeast (max pair.start limit)
    (cons_option (cond b (Some (max pair.start x)) None) (filter_map (leaving_price pair) xs)) in
    elim (nat_lt x pair.clock) as P [
      | true ↦ (omega (arith, h.0), prices_least pair limit xs h.1)
      | false ↦ prices_least pair limit xs h.1
    ]

prices_rise : (pair : PricePair) (limits : List ℕ) → Rises limits → Rises (filter_map (leaving_price pair) limits)
prices_rise pair [] h = tt
prices_rise pair (x ∷ xs) h =
    let P : Bool → Type 0 =
    λ b. Rises (cons_option (cond b (Some (max pair.start x)) None) (filter_map (leaving_price pair) xs)) in
    elim (nat_lt x pair.clock) as P [
      | true ↦ (prices_least pair x xs h.0, prices_rise pair xs h.1)
      | false ↦ prices_rise pair xs h.1
    ]

first_by : (pair : PricePair) (x : ℕ) (xs : List ℕ) → AtLeast x xs → (b : Bool) → nat_lt x pair.clock ≡ b
    → cond b (Some (max pair.start x)) None
    ≡ first_of (cons_option (cond b (Some (max pair.start x)) None) (filter_map (leaving_price pair) xs))
first_by pair x xs h true e = refl
first_by pair x xs h false e =
    let stays : pair.clock ≤ x = grind (arith, nat_tests) in
    sym (ap first_of (none_leaves pair x xs stays h))

-- the first block of a rising list leaves first
pub first_leaves : (pair : PricePair) (limits : List ℕ) → Rises limits
    → last_leaving pair limits ≡ first_of (filter_map (leaving_price pair) limits)
first_leaves pair [] h = refl
first_leaves pair (x ∷ xs) h = first_by pair x xs h.0 (nat_lt x pair.clock) refl

law_by : (product past : ℕ) (pair : PricePair) (x : ℕ) (xs : List ℕ) → Rises (x ∷ xs) → block_bids product past pair xs
    ≡ leaving_bids product (past + length xs) (filter_map (leaving_price pair) xs) → (b : Bool)
    → nat_lt x pair.clock ≡ b → block_bid product (past + length xs) (cond b (Some (max pair.start x)) None)
    (last_leaving pair xs) ++ block_bids product past pair xs ≡ leaving_bids product (past + suc (length xs))
    (cons_option (cond b (Some (max pair.start x)) None) (filter_map (leaving_price pair) xs))
law_by product past pair x xs h rest true e =
    let prices = filter_map (leaving_price pair) xs in
    let price = max pair.start x in
    let one : suc (past + length xs) ≡ past + suc (length xs) = omega arith in
    ap₂ (λ next bids. block_bid product (past + length xs) (Some price) next ++ bids) (first_leaves pair xs h.1) rest
    ∙ sym (add_price product (past + length xs) price prices (prices_least pair x xs h.0) (prices_rise pair xs h.1))
    ∙ ap (λ k. leaving_bids product k (price ∷ prices)) one
law_by product past pair x xs h rest false e =
    let stays : pair.clock ≤ x = grind (arith, nat_tests) in
    let none = none_leaves pair x xs stays h.0 in
    rest ∙ ap (leaving_bids product (past + length xs)) none
    ∙ sym (ap (leaving_bids product (past + suc (length xs))) none)

-- the bids of the blocks are a bid at each different leaving price
pub bids_of_blocks : (product past : ℕ) (pair : PricePair) (limits : List ℕ) → Rises limits → block_bids product past
    pair limits ≡ leaving_bids product (past + length limits) (filter_map (leaving_price pair) limits)
bids_of_blocks product past pair [] h = refl
bids_of_blocks product past pair (x ∷ xs) h =
    law_by product past pair x xs h (bids_of_blocks product past pair xs h.1) (nat_lt x pair.clock) refl

-- ---- the limits from the last on

-- one block more
pub one_back : (limits : List ℕ) (k : ℕ) → k < length limits
    → reverse (take (suc k) limits) ≡ get_or limits k 0 ∷ reverse (take k limits)
one_back limits k below =
    ap reverse (take-suc limits k 0 below) ∙ reverse-append (take k limits) (get_or limits k 0 ∷ [])

least_reversed : (limits : List ℕ) (low k : ℕ) → k ≤ length limits → ((i : ℕ) → i < k → low ≤ get_or limits i 0)
    → AtLeast low (reverse (take k limits))
least_reversed limits low zero within h = tt
least_reversed limits low (suc k) within h =
    subst (AtLeast low) (sym (one_back limits k (omega arith)))
    (h k (omega arith), least_reversed limits low k (omega arith) (λ i lt. h i (omega arith)))

pub rises_reversed : (limits : List ℕ) → NeverRises limits → (k : ℕ) → k ≤ length limits
    → Rises (reverse (take k limits))
rises_reversed limits falls zero within = tt
rises_reversed limits falls (suc k) within =
    subst Rises (sym (one_back limits k (omega arith))) (
      least_reversed limits (get_or limits k 0) k (omega arith) (λ i lt. falls i k 0 lt (omega arith)),
      rises_reversed limits falls k (omega arith),
    )

-- ---- all bids for a product

rises_back : (limits : List ℕ) → NeverRises limits → Rises (reverse limits)
rises_back limits falls = subst (λ (ls : List ℕ). Rises (reverse ls)) (take_all (length limits) limits (omega arith))
    (rises_reversed limits falls (length limits) (omega arith))

-- the bids of all blocks with a limit
pub all_blocks : (product held : ℕ) (pair : PricePair) (limits : List ℕ) → NeverRises limits → length limits ≤ held
    → block_bids product (held - length limits) pair (reverse limits)
    ≡ leaving_bids product held (leaving_prices pair limits)
all_blocks product held pair limits falls within =
    let all : held - length limits + length (reverse limits) ≡ held = omega (arith, length-reverse limits) in
    bids_of_blocks product (held - length limits) pair (reverse limits) (rises_back limits falls)
    ∙ ap (λ k. leaving_bids product k (leaving_prices pair limits)) all

none_first : (product held : ℕ) (pair : PricePair) (prices : List ℕ) → first_of prices ≡ None
    → keeping_or_leaving product pair held prices ≡ bid_for product held pair.clock ∷ []
none_first product held pair [] e = refl
none_first product held pair (x ∷ xs) e = absurd (cc)

some_first : (product held : ℕ) (pair : PricePair) (prices : List ℕ) (price : ℕ) → first_of prices ≡ Some price
    → keeping_or_leaving product pair held prices ≡ leaving_bids product held prices
some_first product held pair [] price e = absurd (cc)
some_first product held pair (x ∷ xs) price e = refl

-- where the last block stays, all do
pub all_stay : (product held : ℕ) (pair : PricePair) (limits : List ℕ) → NeverRises limits
    → last_leaving pair (reverse limits) ≡ None
    → keeping_or_leaving product pair held (leaving_prices pair limits) ≡ bid_for product held pair.clock ∷ []
all_stay product held pair limits falls none = none_first product held pair (leaving_prices pair limits)
    (sym (first_leaves pair (reverse limits) (rises_back limits falls)) ∙ none)

-- the first of some limits never rise either
pub first_never_rise : (limits : List ℕ) (n : ℕ) → NeverRises limits → NeverRises (take n limits)
first_never_rise limits n falls i j d before within =
    let fewer = length-take n limits in
    let below : j < n = omega arith in
    let here : get_or (take n limits) i d ≡ get_or limits i d = get_or-take n limits i d (omega arith) in
    let there : get_or (take n limits) j d ≡ get_or limits j d = get_or-take n limits j d below in
    let falling = falls i j d before (omega arith) in
    omega arith

-- the bids of the processed demand's blocks that have a limit, if there is a processed demand
of_blocks : (product held : ℕ) (pair : PricePair) (limits : List ℕ) (blocks : ℕ) → 0 < held
    → blocks ≡ min held (length limits) → later_bids product pair held limits
    ≡ keeping_or_leaving product pair held (leaving_prices pair (take blocks limits))
of_blocks product held pair limits blocks some least =
    let held_some : (held == 0) ≡ false = grind (arith, nat_tests) in
    let same : take held limits ≡ take blocks limits =
    sym (ap (λ (n : ℕ). take n limits) least ∙ take_min held limits) in
    ap (λ (zero_held : Bool). if zero_held then []
    else keeping_or_leaving product pair held (leaving_prices pair (take held limits))) held_some
    ∙ ap (λ (list : List ℕ). keeping_or_leaving product pair held (leaving_prices pair list)) same

-- where all stay, the bid that keeps them is all
pub all_kept : (product held : ℕ) (pair : PricePair) (limits : List ℕ) (blocks : ℕ) → NeverRises limits → 0 < held
    → blocks ≡ min held (length limits) → last_leaving pair (reverse (take blocks limits)) ≡ None
    → bids_text (later_bids product pair held limits) ≡ bid_text (bid_for product held pair.clock)
all_kept product held pair limits blocks falls some least none =
    ap bids_text (of_blocks product held pair limits blocks some least
    ∙ all_stay product held pair (take blocks limits) (first_never_rise limits blocks falls) none)
    ∙ append-nil (bid_text (bid_for product held pair.clock))

-- where the last one leaves, there are those of the blocks that leave
pub some_left : (product held : ℕ) (pair : PricePair) (limits : List ℕ) (blocks price : ℕ) → NeverRises limits
    → 0 < held → blocks ≡ min held (length limits) → last_leaving pair (reverse (take blocks limits)) ≡ Some price
    → later_bids product pair held limits ≡ leaving_bids product held (leaving_prices pair (take blocks limits))
some_left product held pair limits blocks price falls some least leaves =
    let left = take blocks limits in
    of_blocks product held pair limits blocks some least
    ∙ some_first product held pair (leaving_prices pair left) price
    (sym (first_leaves pair (reverse left) (rises_back left (first_never_rise limits blocks falls))) ∙ leaves)
