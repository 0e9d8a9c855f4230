-- The checks of a set-up refuse exactly what is outside its limits: if all pass, the set-up is within them, and the
-- other way round. The first fault of all checks is the first fault of the first part that has one.
use Rattle.std.proofs.Common.{◌≡◌, ℕ, ◌+◌, Bool, true, false, not, ◌||◌, List, [], ◌∷◌, ◌++◌, length, map, All, Option}
use Rattle.std.proofs.Common.{Some, None, refl, ◌∙◌, Ok, codes}
use Rattle.std.specs.List.{list_any, list_all, IsDistinct, AllByRecursion}
use Rattle.std.specs.Str.{bytes_eq}
use Rattle.std.proofs.lemmas.Bool.{and_parts, leb-true, le-leb}
use Rattle.std.proofs.lemmas.List.Sums.{AllPass-from_list_all, list_all-from_AllPass}
use Rattle.std.proofs.lemmas.List.Elements.{All-from_recursion, recursion_from_All}
use Rattle.std.proofs.lemmas.Map.Made.{AllPairs-from_IsDistinct, IsDistinct-from_AllPairs}
use Rattle.std.proofs.lemmas.Slice.Eq.{bytes_eq-Decides}
use Rattle.serde_json.specs.Data.{Data}
use Rattle.clock_money.specs.Price.{highest_price}
use Rattle.clock_terms.specs.declared.setup.Product.{Product}
use Rattle.clock_terms.specs.declared.setup.Bidder.{Bidder}
use Rattle.clock_setup.specs.declared.fault.SetupFault.{SetupFault}
use Rattle.clock_setup.specs.declared.fault.SetupFault.TheVariants.{Range}
use Rattle.clock_setup.specs.declared.fault.Place.TheVariants.{Products, Bidders}
use Rattle.clock_terms.specs.Limits.{SetupFields, IsWithin, is_within, IsName, is_name, IsToken, is_token}
use Rattle.clock_terms.specs.Limits.{is_name_character}
use Rattle.clock_terms.specs.Limits.{is_letter_or_digit, AreDistinct, is_distinct, IsProduct}
use Rattle.clock_terms.specs.Limits.{IsBidder, IsSetup, IsOfFirstVersion, longest_name, shortest_token, longest_token}
use Rattle.clock_terms.specs.Limits.{latest_version}
use Rattle.clock_terms.specs.Limits.{most_products, most_bidders, most_units, most_supply, most_granule}
use Rattle.clock_terms.specs.Limits.{most_eligibility, least_requirement, most_requirement, least_limit, most_limit}
use Rattle.clock_terms.proofs.WithinLaws.{both_true, within_of_test, test_of_within}
use Rattle.clock_json.specs.Tree.{number_at}
use Rattle.clock_setup.specs.SetupShape.{fields_from}
use Rattle.clock_terms.proofs.FaultLaws.{passed, failed, both_pass}
use Rattle.clock_terms.specs.Faults.{first_fault, in_turn}
use Rattle.clock_setup.specs.SetupDocument.{product_checks, bidder_checks, setup_checks, has_distinct_names}
use Rattle.clock_setup.specs.SetupDocument.{has_distinct_tokens, setup_of}
use Rattle.clock_setup.specs.inside.SetupDocument.{head_checks, counted_checks, products_checks, bidders_checks}
use Rattle.clock_setup.specs.inside.SetupDocument.{distinct_checks}

-- every check passes
abbrev pub Passing : {F : Type 0} → List (F × Bool) → Type 0
Passing checks = AllByRecursion (λ check. check.1 ≡ true) checks

-- if there is no first fault, every check passes
pub passing : {F : Type 0} (checks : List (F × Bool)) → first_fault checks ≡ None → Passing checks
passing [] h = tt
passing ((fault, true) ∷ checks) h = (refl, passing checks h)
passing ((fault, false) ∷ checks) h = cc

-- if no item has a fault, each item has the property that its checks test
pub each_passes : {X F : Type 0} (checks : ℕ → X → List (F × Bool)) (P : X → Type 0)
    → ((i : ℕ) (x : X) → Passing (checks i x) → P x) → (i : ℕ) (items : List X)
    → first_fault (in_turn checks i items) ≡ None → AllByRecursion P items
each_passes checks P means i [] h = tt
each_passes checks P means i (x ∷ xs) h =
    let both = both_pass (checks i x) (in_turn checks (i + 1) xs) h in
    (means i x (passing (checks i x) both.0), each_passes checks P means (i + 1) xs both.1)

name_of_test : (text : List ℕ) → is_name text ≡ true → IsName text
name_of_test text h =
    let both = and_parts (is_within 1 longest_name (length text)) (list_all is_name_character text) h in
    (within_of_test 1 longest_name (length text) both.0, AllPass-from_list_all is_name_character text both.1)

token_of_test : (text : List ℕ) → is_token text ≡ true → IsToken text
token_of_test text h =
    let both =
    and_parts (is_within shortest_token longest_token (length text)) (list_all is_letter_or_digit text) h in (
      within_of_test shortest_token longest_token (length text) both.0,
      AllPass-from_list_all is_letter_or_digit text both.1,
    )

-- a text that fails a test, followed by texts that all fail it
none_more : (b found : Bool) (test : List ℕ → Bool) (texts : List (List ℕ)) (P : Type 0) → (not found ≡ true → P)
    → not (b || found) ≡ true → (b ≡ false) × P
none_more true found test texts P rest h = cc
none_more false found test texts P rest h = (refl, rest h)

-- no text of a list passes a test
none_passes : (test : List ℕ → Bool) (texts : List (List ℕ)) → not (list_any test texts) ≡ true
    → AllByRecursion (λ text. test text ≡ false) texts
none_passes test [] h = tt
none_passes test (text ∷ texts) h = none_more (test text) (list_any test texts) test texts _ (none_passes test texts) h

distinct_by_test : (texts : List (List ℕ)) → is_distinct texts ≡ true → IsDistinct bytes_eq texts
unfolding IsDistinct
distinct_by_test [] h = tt
distinct_by_test (text ∷ texts) h =
    let both = and_parts (not (list_any (bytes_eq text) texts)) (is_distinct texts) h in
    (none_passes (bytes_eq text) texts both.0, distinct_by_test texts both.1)

distinct_of_test : (texts : List (List ℕ)) → is_distinct texts ≡ true → AreDistinct texts
distinct_of_test texts h = AllPairs-from_IsDistinct bytes_eq-Decides texts (distinct_by_test texts h)

product_of_checks : (i : ℕ) (product : Product) → Passing (product_checks i product) → IsProduct product
unfolding product_checks
product_of_checks i product pass = record {
  name = name_of_test product.name pass.0;
  units = within_of_test 1 most_units product.units pass.1.0;
  supply = within_of_test 1 most_supply product.supply pass.1.1.0;
  cap = within_of_test 1 product.supply product.cap pass.1.1.1.0;
  opening = within_of_test 1 highest_price product.opening pass.1.1.1.1.0;
  granule = within_of_test 1 most_granule product.granule pass.1.1.1.1.1.0;
}

bidder_of_checks : (i : ℕ) (bidder : Bidder) → Passing (bidder_checks i bidder) → IsBidder bidder
unfolding bidder_checks
bidder_of_checks i bidder pass = record {
  name = name_of_test bidder.name pass.0;
  token = token_of_test bidder.token pass.1.0;
  eligibility = leb-true bidder.eligibility most_eligibility pass.1.1.0;
}

module _ {A : Type 0} (fault : SetupFault) (most : ℕ) (checks : ℕ → A → List (SetupFault × Bool)) (items : List A) where
  -- if the number of items is within its limits, the items decide the first fault
  pub counted : (first : Option SetupFault) → is_within 1 most (length items) ≡ true
      → first_fault (in_turn checks 0 items) ≡ first → first_fault (counted_checks fault most checks items) ≡ first
  counted first within is = rw within is

  -- if it is not, it is the first fault
  pub uncounted : is_within 1 most (length items) ≡ false
      → first_fault (counted_checks fault most checks items) ≡ Some fault
  uncounted without = rw without refl

  of_counted : (P : A → Type 0) → ((i : ℕ) (item : A) → Passing (checks i item) → P item)
      → first_fault (counted_checks fault most checks items) ≡ None → IsWithin 1 most (length items) × All P items
  of_counted P means h =
      let count = (fault, is_within 1 most (length items)) ∷ [] in
      let both = both_pass count (in_turn checks 0 items) h in (
        within_of_test 1 most (length items) (passing count both.0).0,
        All-from_recursion P items (each_passes checks P means 0 items both.1),
      )

products_of_checks : (products : List Product) → first_fault (products_checks products) ≡ None
    → IsWithin 1 most_products (length products) × All IsProduct products
unfolding products_checks
products_of_checks products h =
    of_counted (Range Products) most_products product_checks products IsProduct product_of_checks h

bidders_of_checks : (bidders : List Bidder) → first_fault (bidders_checks bidders) ≡ None
    → IsWithin 1 most_bidders (length bidders) × All IsBidder bidders
unfolding bidders_checks
bidders_of_checks bidders h = of_counted (Range Bidders) most_bidders bidder_checks bidders IsBidder bidder_of_checks h

-- a set-up of version 1 or 2 whose checks all pass is within the limits
pub setup_within : (setup : SetupFields) → IsWithin 1 latest_version setup.version
    → (setup.version ≡ 1 → IsOfFirstVersion setup) → first_fault (head_checks setup) ≡ None
    → first_fault (products_checks setup.products) ≡ None → first_fault (bidders_checks setup.bidders) ≡ None
    → first_fault (distinct_checks setup) ≡ None → IsSetup setup
unfolding head_checks distinct_checks
setup_within setup version first_version head_none products_none bidders_none distinct_none =
    let head = passing (head_checks setup) head_none in
    let products = products_of_checks setup.products products_none in
    let bidders = bidders_of_checks setup.bidders bidders_none in
    let distinct = passing (distinct_checks setup) distinct_none in
    let apart = and_parts (is_distinct (map (λ product. product.name) setup.products))
    (is_distinct (map (λ bidder. bidder.name) setup.bidders)) distinct.0 in
    record {
      version = version;
      first_version = first_version;
      requirement = within_of_test least_requirement most_requirement setup.requirement head.0;
      limit = within_of_test least_limit most_limit setup.limit head.1.0;
      operator = token_of_test setup.operator head.1.1.0;
      product_count = products.0;
      products = products.1;
      bidder_count = bidders.0;
      bidders = bidders.1;
      product_names = distinct_of_test (map (λ product. product.name) setup.products) apart.0;
      bidder_names = distinct_of_test (map (λ bidder. bidder.name) setup.bidders) apart.1;
      tokens = distinct_of_test (setup.operator ∷ map (λ bidder. bidder.token) setup.bidders) distinct.1.0;
    }

checks_are : (setup : SetupFields) → first_fault (setup_checks setup) ≡ first_fault (head_checks setup
    ++ (products_checks setup.products ++ (bidders_checks setup.bidders ++ distinct_checks setup)))
unfolding setup_checks head_checks products_checks bidders_checks distinct_checks
checks_are setup = refl

-- a fault of the values before the products is the first fault of the set-up
pub head_first : (setup : SetupFields) (fault : SetupFault) → first_fault (head_checks setup) ≡ Some fault
    → first_fault (setup_checks setup) ≡ Some fault
head_first setup fault head = checks_are setup ∙ failed (head_checks setup) _ fault head

-- if those pass, the first fault of the products is
pub products_first : (setup : SetupFields) (fault : SetupFault) → first_fault (head_checks setup) ≡ None
    → first_fault (products_checks setup.products) ≡ Some fault → first_fault (setup_checks setup) ≡ Some fault
products_first setup fault head products =
    checks_are setup ∙ passed (head_checks setup) _ head ∙ failed (products_checks setup.products) _ fault products

-- if the products pass too, the first fault of the bidders is
pub bidders_first : (setup : SetupFields) (fault : SetupFault) → first_fault (head_checks setup) ≡ None
    → first_fault (products_checks setup.products) ≡ None → first_fault (bidders_checks setup.bidders) ≡ Some fault
    → first_fault (setup_checks setup) ≡ Some fault
bidders_first setup fault head products bidders =
    checks_are setup ∙ passed (head_checks setup) _ head ∙ passed (products_checks setup.products) _ products
    ∙ failed (bidders_checks setup.bidders) _ fault bidders

-- if the bidders pass too, names and tokens decide
pub distinct_decide : (setup : SetupFields) (first : Option SetupFault) → first_fault (head_checks setup) ≡ None
    → first_fault (products_checks setup.products) ≡ None → first_fault (bidders_checks setup.bidders) ≡ None
    → first_fault (distinct_checks setup) ≡ first → first_fault (setup_checks setup) ≡ first
distinct_decide setup first head products bidders is =
    checks_are setup ∙ passed (head_checks setup) _ head ∙ passed (products_checks setup.products) _ products
    ∙ passed (bidders_checks setup.bidders) _ bidders ∙ is

-- ---- the other way round: a set-up within the limits passes every check

test_of_name : (text : List ℕ) → IsName text → is_name text ≡ true
test_of_name text h = both_true (is_within 1 longest_name (length text)) (list_all is_name_character text)
    (test_of_within 1 longest_name (length text) h.0) (list_all-from_AllPass is_name_character text h.1)

test_of_token : (text : List ℕ) → IsToken text → is_token text ≡ true
test_of_token text h =
    both_true (is_within shortest_token longest_token (length text)) (list_all is_letter_or_digit text)
    (test_of_within shortest_token longest_token (length text) h.0)
    (list_all-from_AllPass is_letter_or_digit text h.1)

no_any : (test : List ℕ → Bool) (texts : List (List ℕ)) → AllByRecursion (λ text. test text ≡ false) texts
    → not (list_any test texts) ≡ true
no_any test [] h = refl
no_any test (text ∷ texts) h = rw h.0 (no_any test texts h.1)

test_by_distinct : (texts : List (List ℕ)) → IsDistinct bytes_eq texts → is_distinct texts ≡ true
unfolding IsDistinct
test_by_distinct [] h = refl
test_by_distinct (text ∷ texts) h = both_true (not (list_any (bytes_eq text) texts)) (is_distinct texts)
    (no_any (bytes_eq text) texts h.0) (test_by_distinct texts h.1)

test_of_distinct : (texts : List (List ℕ)) → AreDistinct texts → is_distinct texts ≡ true
test_of_distinct texts h = test_by_distinct texts (IsDistinct-from_AllPairs bytes_eq-Decides texts h)

checks_of_product : (i : ℕ) (product : Product) → IsProduct product → first_fault (product_checks i product) ≡ None
unfolding product_checks
checks_of_product i product h =
    rw (
      test_of_name product.name h.name,
      test_of_within 1 most_units product.units h.units,
      test_of_within 1 most_supply product.supply h.supply,
      test_of_within 1 product.supply product.cap h.cap,
      test_of_within 1 highest_price product.opening h.opening,
      test_of_within 1 most_granule product.granule h.granule,
    ) refl

checks_of_bidder : (i : ℕ) (bidder : Bidder) → IsBidder bidder → first_fault (bidder_checks i bidder) ≡ None
unfolding bidder_checks
checks_of_bidder i bidder h =
    rw (
      test_of_name bidder.name h.name,
      test_of_token bidder.token h.token,
      le-leb bidder.eligibility most_eligibility h.eligibility,
    ) refl

each_within : {X F : Type 0} (checks : ℕ → X → List (F × Bool)) (P : X → Type 0)
    → ((i : ℕ) (x : X) → P x → first_fault (checks i x) ≡ None) → (i : ℕ) (items : List X) → AllByRecursion P items
    → first_fault (in_turn checks i items) ≡ None
each_within checks P means i [] h = refl
each_within checks P means i (x ∷ xs) h =
    passed (checks i x) (in_turn checks (i + 1) xs) (means i x h.0) ∙ each_within checks P means (i + 1) xs h.1

checks_of_setup : (setup : SetupFields) → IsSetup setup → first_fault (setup_checks setup) ≡ None
unfolding setup_checks
checks_of_setup setup h =
    let products = each_within product_checks IsProduct checks_of_product 0 setup.products
    (recursion_from_All IsProduct setup.products h.products) in
    let bidders = each_within bidder_checks IsBidder checks_of_bidder 0 setup.bidders
    (recursion_from_All IsBidder setup.bidders h.bidders) in
    let names : has_distinct_names setup ≡ true = both_true (is_distinct (map (λ product. product.name) setup.products))
    (is_distinct (map (λ bidder. bidder.name) setup.bidders)) (test_of_distinct (map (λ product. product.name)
    setup.products) h.product_names) (test_of_distinct (map (λ bidder. bidder.name) setup.bidders) h.bidder_names) in
    let tokens : has_distinct_tokens setup ≡ true =
    test_of_distinct (setup.operator ∷ map (λ bidder. bidder.token) setup.bidders) h.tokens in
    rw (
      test_of_within least_requirement most_requirement setup.requirement h.requirement,
      test_of_within least_limit most_limit setup.limit h.limit,
      test_of_token setup.operator h.operator,
      test_of_within 1 most_products (length setup.products) h.product_count,
    )
    (passed (in_turn product_checks 0 setup.products) _ products
    ∙ rw (test_of_within 1 most_bidders (length setup.bidders) h.bidder_count)
    (passed (in_turn bidder_checks 0 setup.bidders) _ bidders ∙ rw (names, tokens) refl))

-- a document of the right shape whose set-up is within the limits means this set-up
pub accepted : (value : Data) (setup : SetupFields) → number_at (codes "version") value ≡ Some setup.version
    → fields_from value ≡ Some setup → IsSetup setup → setup_of value ≡ Ok setup
unfolding setup_of
accepted value setup version shape within =
    rw (version, test_of_within 1 latest_version setup.version within.version, shape, checks_of_setup setup within) refl
