-- The checks of a replay document, one by one as the code makes them, are those of the definition, and a document that
-- passes all is a replay. Comparing each price with the next shows that none is above an earlier one.
use Rattle.std.proofs.Common.{◌≡◌, ℕ, ◌+◌, ◌-◌, ◌<◌, ◌≤◌, All, ◌&&◌, ◌==◌, Bool, true, false, nat_le, if◌then◌else◌}
use Rattle.std.proofs.Common.{List}
use Rattle.std.proofs.Common.{[], ◌∷◌, zero, suc, length}
use Rattle.std.proofs.Common.{get_or, drop, zip, None, Some, refl, sym, ap, subst, ◌∙◌, arith}
use Rattle.std.specs.Prelude.{EachIndex}
use Rattle.std.specs.List.{IsAllAdjacentAnswer, AllWithin, list_all}
use Rattle.std.proofs.lemmas.Bool.{and_parts, le-leb, leb-true, eqb-true}
use Rattle.std.proofs.lemmas.Bool.Decides.{nat_tests}
use Rattle.std.proofs.lemmas.List.{get_or_default}
use Rattle.std.proofs.lemmas.List.Elements.{All-nil, All-cons}
use Rattle.std.proofs.lemmas.List.Kept.{AllPairs-cons}
use Rattle.std.proofs.lemmas.List.Sums.{AllPass-from_list_all, list_all-from_AllPass}
use Rattle.std.proofs.lemmas.Slice.Zip.{get_or-zip, length-zip}
use Rattle.clock_terms.specs.declared.setup.Product.{Product}
use Rattle.clock_terms.specs.declared.setup.Bidder.{Bidder}
use Rattle.clock_terms.specs.Demands.{row_of}
use Rattle.clock_terms.specs.Faults.{first_fault, in_turn}
use Rattle.clock_terms.specs.Limits.{SetupFields, IsSetup, cap_of, product_at, no_product}
use Rattle.clock_terms.proofs.FaultLaws.{both_pass, turn_passed, turn_failed, turn_none}
use Rattle.clock_replays.specs.declared.replay.Script.{Script}
use Rattle.clock_replays.specs.declared.replay.Script.TheVariants.{Literal, Sincere}
use Rattle.clock_replays.specs.declared.replay.Closing.{Closing}
use Rattle.clock_replays.specs.declared.replay.ScriptFault.TheVariants.{Shape, Scripts, Limits}
use Rattle.clock_replays.specs.Replays.{NeverRises, IsScript, ReplayFields, IsReplay, is_of_version}
use Rattle.clock_replays.specs.ReplayChecks.{never_rises, are_of_version, has_lists, limit_checks, script_checks}
use Rattle.clock_replays.specs.ReplayChecks.{replay_checks}

same_count : (a b : ℕ) → a ≡ b → (a == b) ≡ true
same_count a b h = grind (arith, nat_tests)

-- if the closings and the counts have no fault, the scripts decide
pub scripts_decide : (setup : SetupFields) (scripts : List Script) (closings : List Closing) {products : List Product}
    {bidders : List Bidder} → products ≡ setup.products → bidders ≡ setup.bidders
    → are_of_version setup.version closings ≡ true → length scripts ≡ length bidders
    → list_all (has_lists (length products)) scripts ≡ true → first_fault (in_turn (script_checks products) 0 scripts)
    ≡ first_fault (replay_checks (record { setup = setup; scripts = scripts; closings = closings }))
unfolding replay_checks
scripts_decide setup scripts closings {products} {bidders} same_products same_bidders of_version counted lists =
    let count = same_count _ _ (counted ∙ ap length same_bidders) in
    let each : list_all (has_lists (length setup.products)) scripts ≡ true =
    subst (λ (list : List Product). list_all (has_lists (length list)) scripts ≡ true) same_products lists in
    ap (λ (list : List Product). first_fault (in_turn (script_checks list) 0 scripts)) same_products
    ∙ rw (of_version, count, each) refl

-- ---- prices that never rise

-- prices that are at most low are at most high
all_below : (low high : ℕ) (prices : List ℕ) → low ≤ high → list_all (λ price. nat_le price low) prices ≡ true
    → list_all (λ price. nat_le price high) prices ≡ true
all_below low high prices h is =
    let each = AllPass-from_list_all (λ price. nat_le price low) prices is in
    list_all-from_AllPass (λ price. nat_le price high) prices
    (λ k d lt. le-leb _ high (below (get_or prices k d) (leb-true _ low (each k d lt))))
  where
    below : (price : ℕ) → price ≤ low → price ≤ high
    below price le = omega arith

absorbed : (a b c : Bool) → (b ≡ true → a ≡ true) → (a && (b && c)) ≡ (b && c)
absorbed true b c h = refl
absorbed false true c h = let e = h refl in cc
absorbed false false c h = refl

-- a price that is not above the one before it is not above any earlier one
no_rise : (price next : ℕ) (rest : List ℕ) → nat_le next price ≡ true
    → never_rises (price ∷ next ∷ rest) ≡ never_rises (next ∷ rest)
no_rise price next rest h = ap (λ test. (test && list_all (λ p. nat_le p price) rest) && (list_all (λ p. nat_le p next)
    rest && never_rises rest)) h ∙ absorbed _ _ _ (all_below next price rest (leb-true next price h))

no_test : (test : Bool) → (test && false) ≡ false
no_test true = refl
no_test false = refl

-- two prices after the first
behind : (price : ℕ) (prices : List ℕ) (k d : ℕ) (test : Bool) → test ≡ nat_le (get_or (price ∷ prices) (suc k + 1) d)
    (get_or (price ∷ prices) (suc k) d) → test ≡ nat_le (get_or prices (k + 1) d) (get_or prices k d)
behind price prices k d test is =
    let on : suc k + 1 ≡ suc (k + 1) = omega arith in
    subst (λ (n : ℕ). test ≡ nat_le (get_or (price ∷ prices) n d) (get_or prices k d)) on is

-- no price is above an earlier one exactly if none is above the one before it
pub reported_by_next : (prices : List ℕ) (reported : Bool)
    → IsAllAdjacentAnswer (λ earlier later b. b ≡ nat_le later earlier) prices reported → reported ≡ never_rises prices
reported_by_next [] true each = refl
reported_by_next [] false rise = absurd (omega (arith, rise.1))
reported_by_next (price ∷ []) true each = refl
reported_by_next (price ∷ []) false rise = absurd (omega (arith, rise.1))
reported_by_next (price ∷ next ∷ rest) true each = reported_by_next (next ∷ rest) true
    (λ k d within. behind price (next ∷ rest) k d true (each (suc k) d (omega (arith, within))))
    ∙ sym (no_rise price next rest (sym (each 0 0 (omega arith))))
reported_by_next (price ∷ next ∷ rest) false (zero, within, rise) =
    ap (λ test. (test && list_all (λ p. nat_le p price) rest) && never_rises (next ∷ rest)) (rise 0)
reported_by_next (price ∷ next ∷ rest) false (suc k, within, rise) =
    sym (no_test (list_all (λ later. nat_le later price) (next ∷ rest)))
    ∙ ap (λ test. list_all (λ later. nat_le later price) (next ∷ rest) && test) (reported_by_next (next ∷ rest) false
    (k, omega (arith, within), λ d. behind price (next ∷ rest) k d false (rise d)))

-- prices that pass the test never rise
pub falling_of_test : (prices : List ℕ) → never_rises prices ≡ true → NeverRises prices
falling_of_test [] h = λ i j d lt within. absurd (omega arith)
falling_of_test (price ∷ prices) h =
    let both = and_parts _ _ h in
    let each = AllPass-from_list_all (λ later. nat_le later price) prices both.0 in
    AllPairs-cons (λ earlier later. later ≤ earlier) price prices (λ k d lt. leb-true _ price (each k d lt))
    (falling_of_test prices both.1)

-- ---- limits

-- limits that a product may have
abbrev pub are_limits : Product → List ℕ → Bool
are_limits product prices = nat_le (length prices) product.cap && never_rises prices

zip_at : (products : List Product) (limits : List (List ℕ)) (i : ℕ) (product : Product) (prices : List ℕ)
    → length limits ≡ length products → i < length limits → product ≡ get_or products i product
    → prices ≡ get_or limits i prices → (product, prices) ≡ get_or (zip products limits) i (product, prices)
zip_at products limits i product prices same h first second =
    let within : i < length products = omega arith in
    ap (λ x. (x, prices)) first ∙ ap (λ y. (get_or products i product, y)) second
    ∙ sym (get_or-zip products limits i (product, prices) within h)

one_list : (bidder i : ℕ) (product : Product) (prices : List ℕ) (b : Bool) → are_limits product prices ≡ b
    → first_fault (limit_checks bidder i (product, prices)) ≡ (if b then None else Some (Limits bidder i))
unfolding limit_checks
one_list bidder i product prices b is = rw is refl

-- the next limits have a fault
pub limits_failed : (bidder : ℕ) (products : List Product) (limits : List (List ℕ)) (i : ℕ) (product : Product)
    (prices : List ℕ) → length limits ≡ length products → i < length limits → product ≡ get_or products i product
    → prices ≡ row_of limits i → are_limits product prices ≡ false
    → first_fault (in_turn (limit_checks bidder) i (drop i (zip products limits))) ≡ Some (Limits bidder i)
limits_failed bidder products limits i product prices same h first listed is =
    turn_failed (limit_checks bidder) (zip products limits) i (product, prices) (Limits bidder i)
    (omega (arith, length-zip products limits)) (zip_at products limits i product prices same h first
    (listed ∙ get_or_default limits i [] prices h)) (one_list bidder i product prices false is)

-- the next limits have no fault
pub limits_passed : (bidder : ℕ) (products : List Product) (limits : List (List ℕ)) (i : ℕ) (product : Product)
    (prices : List ℕ) → length limits ≡ length products → i < length limits → product ≡ get_or products i product
    → prices ≡ row_of limits i → are_limits product prices ≡ true → first_fault (in_turn (limit_checks bidder) i (drop i
    (zip products limits))) ≡ first_fault (in_turn (limit_checks bidder) (i + 1) (drop (i + 1) (zip products limits)))
limits_passed bidder products limits i product prices same h first listed is = turn_passed (limit_checks bidder) (zip
    products limits) i (product, prices) (omega (arith, length-zip products limits)) (zip_at products limits i product
    prices same h first (listed ∙ get_or_default limits i [] prices h)) (one_list bidder i product prices true is)

-- a product without limits has no fault
none_passed : (bidder : ℕ) (products : List Product) (limits : List (List ℕ)) (i : ℕ)
    → length limits ≡ length products → i < length limits → row_of limits i ≡ []
    → first_fault (in_turn (limit_checks bidder) i (drop i (zip products limits)))
    ≡ first_fault (in_turn (limit_checks bidder) (i + 1) (drop (i + 1) (zip products limits)))
none_passed bidder products limits i same h none =
    let product : Product = product_at products i in
    let within : i < length products = omega (arith, h, same) in
    limits_passed bidder products limits i product [] same h
    (get_or_default products i no_product product within) (sym none) no_limits
  where
    no_limits : are_limits (product_at products i) [] ≡ true
    no_limits = ap (λ (test : Bool). test && true) (le-leb 0 (product_at products i).cap (omega arith))

-- and so do all products from one up to another
so_many_passed : (bidder : ℕ) (products : List Product) (limits : List (List ℕ)) (d i : ℕ)
    → length limits ≡ length products → i + d ≤ length limits
    → ((k : ℕ) → i ≤ k → k < i + d → row_of limits k ≡ [])
    → first_fault (in_turn (limit_checks bidder) i (drop i (zip products limits)))
    ≡ first_fault (in_turn (limit_checks bidder) (i + d) (drop (i + d) (zip products limits)))
so_many_passed bidder products limits zero i same h none =
    let on : i ≡ i + 0 = omega arith in
    ap (λ (k : ℕ). first_fault (in_turn (limit_checks bidder) k (drop k (zip products limits)))) on
so_many_passed bidder products limits (suc d) i same h none =
    let on : (i + 1) + d ≡ i + suc d = omega arith in
    none_passed bidder products limits i same (omega (arith, h)) (none i (omega arith) (omega arith))
    ∙ so_many_passed bidder products limits d (i + 1) same (omega (arith, h))
    (λ k low high. none k (omega (arith, low)) (omega (arith, high)))
    ∙ ap (λ (k : ℕ). first_fault (in_turn (limit_checks bidder) k (drop k (zip products limits)))) on

pub all_passed : (bidder : ℕ) (products : List Product) (limits : List (List ℕ)) (i to : ℕ)
    → length limits ≡ length products → i ≤ to → to ≤ length limits
    → AllWithin (λ prices. prices ≡ []) limits i to
    → first_fault (in_turn (limit_checks bidder) i (drop i (zip products limits)))
    ≡ first_fault (in_turn (limit_checks bidder) to (drop to (zip products limits)))
all_passed bidder products limits i to same least most none =
    let on : i + (to - i) ≡ to = omega (arith, least) in
    so_many_passed bidder products limits (to - i) i same (omega (arith, most, on))
    (λ k low high. none k [] low (omega (arith, high, on)))
    ∙ ap (λ (k : ℕ). first_fault (in_turn (limit_checks bidder) k (drop k (zip products limits)))) on

-- no limits are left
pub limits_end : (bidder : ℕ) (products : List Product) (limits : List (List ℕ)) (i : ℕ) → length limits ≤ i
    → first_fault (in_turn (limit_checks bidder) i (drop i (zip products limits))) ≡ None
limits_end bidder products limits i h =
    turn_none (limit_checks bidder) (zip products limits) i (omega (arith, length-zip products limits))

-- ---- what passes the checks

-- if three checks pass, and all after them
three_passed : {F : Type 0} (first second third : F) (a b c : Bool) (rest : List (F × Bool))
    → first_fault ((first, a) ∷ (second, b) ∷ (third, c) ∷ rest) ≡ None
    → (a ≡ true) × (b ≡ true) × (c ≡ true) × (first_fault rest ≡ None)
three_passed first second third true true true rest h = (refl, refl, refl, h)
three_passed first second third true true false rest h = cc
three_passed first second third true false c rest h = cc
three_passed first second third false b c rest h = cc

limits_of_checks : (bidder i : ℕ) (product : Product) (prices : List ℕ)
    → first_fault (limit_checks bidder i (product, prices)) ≡ None → are_limits product prices ≡ true
unfolding limit_checks
limits_of_checks bidder i product prices h = only (are_limits product prices) h
  where
    only : (b : Bool) → first_fault ((Limits bidder i, b) ∷ []) ≡ None → b ≡ true
    only true h = refl
    only false h = cc

-- limits without a fault
pub record AreWithin (products : List Product) (limits : List (List ℕ)) : Type 0 where
  pub capped : EachIndex limits (λ product. length (row_of limits product) ≤ cap_of products product)
  pub falling : All NeverRises limits

one_more : (product : Product) (products : List Product) (prices : List ℕ) (limits : List (List ℕ))
    → are_limits product prices ≡ true → AreWithin products limits → AreWithin (product ∷ products) (prices ∷ limits)
one_more product products prices limits is others =
    let both = and_parts _ _ is in record {
      capped = capped_at;
      falling = All-cons NeverRises prices limits (falling_of_test prices both.1) others.falling;
    }
  where
    capped_at : (k : ℕ) → k < length (prices ∷ limits)
        → length (row_of (prices ∷ limits) k) ≤ cap_of (product ∷ products) k
    capped_at zero h = leb-true _ _ (and_parts (nat_le (length prices) product.cap) (never_rises prices) is).0
    capped_at (suc k) h = others.capped k (omega arith)

limits_within : (bidder i : ℕ) (products : List Product) (limits : List (List ℕ)) → length limits ≡ length products
    → first_fault (in_turn (limit_checks bidder) i (zip products limits)) ≡ None → AreWithin products limits
limits_within bidder i [] [] same h = record { capped = λ k lt. absurd (omega arith); falling = All-nil NeverRises }
limits_within bidder i [] (prices ∷ limits) same h = absurd (omega arith)
limits_within bidder i (product ∷ products) [] same h = absurd (omega arith)
limits_within bidder i (product ∷ products) (prices ∷ limits) same h =
    let both = both_pass (limit_checks bidder i (product, prices)) _ h in
    one_more product products prices limits (limits_of_checks bidder i product prices both.0)
    (limits_within bidder (i + 1) products limits (omega arith) both.1)

script_within : (products : List Product) (bidder : ℕ) (script : Script) → has_lists (length products) script ≡ true
    → first_fault (script_checks products bidder script) ≡ None → IsScript products script
unfolding script_checks
script_within products bidder (Literal sheets) lists h = tt
script_within products bidder (Sincere limits) lists h =
    let same : length limits ≡ length products = eqb-true (length limits) (length products) lists in
    let within = limits_within bidder 0 products limits same h in
    record { each = same; capped = within.capped; falling = within.falling }

scripts_within : (products : List Product) (i : ℕ) (scripts : List Script) → list_all (has_lists (length products))
    scripts ≡ true → first_fault (in_turn (script_checks products) i scripts) ≡ None → All (IsScript products) scripts
scripts_within products i [] lists h = All-nil (IsScript products)
scripts_within products i (script ∷ scripts) lists h =
    let lists_both = and_parts _ _ lists in
    let both = both_pass (script_checks products i script) _ h in
    All-cons (IsScript products) script scripts (script_within products i script lists_both.0 both.0)
    (scripts_within products (i + 1) scripts lists_both.1 both.1)

-- a document that passes the checks is a replay
pub replay_within : (replay : ReplayFields) → IsSetup replay.setup
    → first_fault (replay_checks replay) ≡ None → IsReplay replay
unfolding replay_checks
replay_within replay limits h =
    let passed = three_passed Shape Scripts Shape (are_of_version replay.setup.version replay.closings)
    (length replay.scripts == length replay.setup.bidders) (list_all (has_lists (length replay.setup.products))
    replay.scripts) (in_turn (script_checks replay.setup.products) 0 replay.scripts) h in
    let each =
    AllPass-from_list_all (λ closing. is_of_version replay.setup.version closing.increments) replay.closings passed.0 in
    record {
      setup = limits;
      each = eqb-true _ _ passed.1;
      scripts = scripts_within replay.setup.products 0 replay.scripts passed.2 passed.3;
      closings = λ k d lt. each k d lt;
    }
