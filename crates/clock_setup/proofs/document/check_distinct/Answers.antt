-- The three tests are the two checks of `distinct_checks`, of lists that are read as slices.
use Rattle.std.proofs.Common.{◌≡◌, ℕ, Bool, true, false, List, ◌∷◌, map, Some, None, refl, sym, ap, ◌∙◌, subst}
use Rattle.clock_terms.specs.declared.setup.Product.{Product}
use Rattle.clock_terms.specs.declared.setup.Bidder.{Bidder}
use Rattle.clock_terms.specs.Limits.{SetupFields, is_distinct}
use Rattle.clock_terms.specs.Faults.{first_fault}
use Rattle.clock_setup.specs.declared.fault.SetupFault.TheVariants.{DuplicateToken}
use Rattle.clock_setup.specs.SetupDocument.{has_distinct_tokens}
use Rattle.clock_setup.specs.inside.SetupDocument.{distinct_checks}
use Rattle.clock_setup.proofs.document.check_distinct.Goals as goal

module _ (setup : SetupFields) where
  -- if names are distinct, the tokens decide
  shared_token : is_distinct (map (λ product. product.name) setup.products) ≡ true
      → is_distinct (map (λ bidder. bidder.name) setup.bidders) ≡ true → has_distinct_tokens setup ≡ false
      → first_fault (distinct_checks setup) ≡ Some DuplicateToken
  unfolding distinct_checks
  shared_token products bidders tokens = rw (products, bidders, tokens) refl

  all_distinct : is_distinct (map (λ product. product.name) setup.products) ≡ true → is_distinct (map (λ bidder.
      bidder.name) setup.bidders) ≡ true → has_distinct_tokens setup ≡ true → first_fault (distinct_checks setup) ≡ None
  unfolding distinct_checks
  all_distinct products bidders tokens = rw (products, bidders, tokens) refl

-- a test of the texts of a slice is the test of the list
reported_of : {A : Type 0} {slice list : List A} {found is : Bool} (texts : List A → List (List ℕ)) → slice ≡ list
    → found ≡ is_distinct (texts slice) → found ≡ is → is_distinct (texts list) ≡ is
reported_of texts same reported found = ap (λ items. is_distinct (texts items)) (sym same) ∙ sym reported ∙ found

pub returns-then-not-branch-3-clause-err : goal.returns-then-not-branch-3-clause-err
returns-then-not-branch-3-clause-err c = λ known. subst (λ (setup : SetupFields). first_fault (distinct_checks setup)
    ≡ Some DuplicateToken) c.entries.view_is (shared_token _ (reported_of (map (λ (product : Product). product.name))
    c.as_slice-products.ensures c.in_ok-has_distinct_names.ensures c.if-not-branch.false) (reported_of
    (map (λ (bidder : Bidder). bidder.name)) c.as_slice-bidders.ensures c.in_ok-has_distinct_names-2.ensures
    c.if-not-branch-2.false) (reported_of (λ (bidders : List Bidder). c.entries.inside.operator.now ∷ map (λ bidder.
    bidder.token) bidders) c.as_slice-bidders.ensures c.in_ok-has_distinct_tokens.ensures c.if-not-branch-3.true))

pub returns-clause-ok : goal.returns-clause-ok
returns-clause-ok c = subst (λ (setup : SetupFields). first_fault (distinct_checks setup) ≡ None) c.entries.view_is
    (all_distinct _ (reported_of (map (λ (product : Product). product.name)) c.as_slice-products.ensures
    c.in_ok-has_distinct_names.ensures c.if-not-branch.false) (reported_of (map (λ (bidder : Bidder). bidder.name))
    c.as_slice-bidders.ensures c.in_ok-has_distinct_names-2.ensures c.if-not-branch-2.false)
    (reported_of (λ (bidders : List Bidder). c.entries.inside.operator.now ∷ map (λ bidder. bidder.token) bidders)
    c.as_slice-bidders.ensures c.in_ok-has_distinct_tokens.ensures c.if-not-branch-3.false))
