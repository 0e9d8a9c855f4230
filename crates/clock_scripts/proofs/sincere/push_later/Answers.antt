use Rattle.std.proofs.Common.{◌≡◌, ℕ, ◌+◌, ◌-◌, ◌<◌, ◌≤◌, min, List, ◌++◌, length, flat_map, sym, ap, subst, append-nil}
use Rattle.std.proofs.Common.{◌∙◌, arith}
use Rattle.std.specs.Prelude.{slice_index}
use Rattle.std.specs.List.{range_with_len, AllWithin}
use Rattle.clock_terms.specs.declared.prices.PricePair.{PricePair}
use Rattle.clock_scripts.proofs.SheetWalks.{one_more, passed, none_for, later_for, priced_at, later_text, whole_later}
use Rattle.clock_scripts.proofs.sincere.push_later.Goals as goal

-- the bids from where a walk continues are those from a later product on, if none between has a demand
walked : (prices : List PricePair) (demands : List ℕ) (lists : List (List ℕ)) (row : List ℕ) (from to n : ℕ)
    → row ≡ demands → min from n ≤ to → to ≤ n → AllWithin (λ demand. demand ≡ 0) row from to
    → flat_map (later_text prices demands lists) (range_with_len (min from n) (n - min from n))
    ≡ flat_map (later_text prices demands lists) (range_with_len to (n - to))
walked prices demands lists row from to n same order within none =
    passed (later_text prices demands lists) (min from n) to n order within
    (λ k low high. none_for prices demands lists k
    (subst (λ (list : List ℕ). slice_index list k ≡ 0) same (none k 0 (omega (arith, low, high, within)) high)))

pub held-init : goal.held-init
held-init c =
    let prices = c.args.prices.now in
    let f = later_text prices c.args.demands.now c.args.limits.now in
    let n = length prices in
    let to = min c.held-held.result.from n in
    let whole : n ≡ n - 0 = omega arith in
    record {
      row = c.held-held.ensures.row;
      rest = ap (λ (rest : List ℕ). c.args.text.now.items ++ rest) (sym (ap (λ (k : ℕ). flat_map f (range_with_len 0 k))
          whole ∙ passed f 0 to n (omega arith) (omega arith) (λ k low high. none_for prices c.args.demands.now
          c.args.limits.now k (c.held-held.ensures.passed k 0 low (omega (arith, high))))));
    }

pub held-preserved : goal.held-preserved
held-preserved c =
    let prices = c.args.prices.now in
    let demands = c.args.demands.now in
    let lists = c.args.limits.now in
    let n = length prices in
    let f = later_text prices demands lists in
    let product = c.in-Some.one.product in
    let found = c.in-Some.ensures in
    let same = c.held.invariant.row in
    let inside : product < length demands = subst (λ (row : List ℕ). product < length row) same found.within in
    let within : product < n = omega (arith, inside, c.requires.held) in
    let before = walked prices demands lists c.held.held.demands c.held.held.from product n same
    (omega (arith, found.least)) (omega (arith, within)) found.passed in
    let next = c.next.new.self.from in
    let to = min next n in
    let behind : flat_map f (range_with_len (product + 1) (n - (product + 1)))
    ≡ flat_map f (range_with_len to (n - to)) = passed f (product + 1) to n (omega (arith, within, found.given))
    (omega arith) (λ k low high. none_for prices demands lists k
    (subst (λ (row : List ℕ). slice_index row k ≡ 0) same (found.ahead k 0 low (omega (arith, high))))) in
    let demand = found.demand ∙ ap (λ (row : List ℕ). slice_index row product) same in
    let old = c.held.text.items in
    let text = c.push_held.new.text.items in
    record {
      row = found.row ∙ same;
      rest = ap (λ (rest : List ℕ). text ++ rest) (sym behind) ∙ one_more f old text
          (c.args.text.now.items ++ flat_map f (range_with_len 0 n)) product n within (later_for prices demands lists
          product c.in-Some.one.demand c.index-prices-one.result c.list-list.result.now old text
          (c.index-prices-one.is ∙ priced_at prices product c.index-prices-one.result within) demand c.list-list.ensures
          c.in_ok-push_held.ensures) (ap (λ (rest : List ℕ). old ++ rest) (sym before) ∙ c.held.invariant.rest);
    }

pub returns : goal.returns
returns c =
    let prices = c.args.prices.now in
    let demands = c.args.demands.now in
    let lists = c.args.limits.now in
    let n = length prices in
    let f = later_text prices demands lists in
    let walk = c.held.held in
    let text = c.held.text.items in
    let count : length walk.demands ≡ n = ap (λ (row : List ℕ). length row) c.held.invariant.row ∙ c.requires.held in
    let end = walked prices demands lists walk.demands walk.from n n c.held.invariant.row
    (omega arith) (omega arith) (λ k d low high. c.in_default.ensures.passed k d low (omega (arith, high, count))) in
    let none : n - n ≡ 0 = omega arith in
    record {
      is = sym (append-nil text)
          ∙ ap (λ (rest : List ℕ). text ++ rest) (sym (end ∙ ap (λ (k : ℕ). flat_map f (range_with_len n k)) none))
          ∙ c.held.invariant.rest
          ∙ ap (λ (all : List ℕ). c.args.text.now.items ++ all) (whole_later prices demands lists);
    }
