-- Version 2 did not change what a set-up of version 1 means. Each part of the law computes, case by case, to what
-- version 1 says.
use Rattle.std.proofs.Common.{◌≡◌, ℕ, suc, zero, ◌≤◌, Bool, true, false, List, ◌∷◌, Option, Some, None, Err, codes}
use Rattle.std.proofs.Common.{refl, ap, ◌∙◌, replicate, arith}
use Rattle.std.specs.Prelude.{if◌then◌else◌, option_and_then, option_map}
use Rattle.serde_json.specs.Data.{Data, Items, no_items, item}
use Rattle.clock_money.proofs.PriceLaws.{raises_by_dollars}
use Rattle.clock_terms.specs.declared.setup.Product.{Product}
use Rattle.clock_terms.specs.declared.increments.Increments.TheVariants.{Single, PerProduct}
use Rattle.clock_terms.specs.Increments.{are_increments}
use Rattle.clock_terms.proofs.IncrementLaws.{one_for_each, one_as_each}
use Rattle.clock_json.specs.Tree.{number_from, number_at, text_at, items_at, has_members, each, json, ◌>>=◌}
use Rattle.clock_terms.specs.Faults.{or_fault}
use Rattle.clock_order.specs.declared.ties.Tie.{Tie}
use Rattle.clock_bids.proofs.HoldingLaws.{activity_limit_of_100}
use Rattle.clock_setup.specs.SetupShape.{product_of, bidder_of, fields_from}
use Rattle.clock_bodies.specs.declared.body.BodyFault.TheVariants.{Shape}
use Rattle.clock_bodies.specs.Bodies.{meant_by}
use Rattle.clock_bodies.specs.CloseBodies.{tie_in, or_each, close_of, close_body, in_version}
use Rattle.clock_replays.specs.FirstVersion.{FirstVersion, first_product, first_setup, first_closing, first_body}

-- a product of version 1 is one without a granule
product_same : (value : Data) → product_of 1 value ≡ first_product value
unfolding product_of first_product
product_same value = refl

products_same : (items : Items) → each (product_of 1) items ≡ each first_product items
products_same no_items = refl
products_same (item value items) = ap (λ (first : Option Product). first >>= λ first. (each (product_of 1) items
    >>= λ rest. Some (first ∷ rest))) (product_same value) ∙ ap (λ (rest : Option (List Product)). first_product value
    >>= λ first. (rest >>= λ rest. Some (first ∷ rest))) (products_same items)

listed_same : (items : Option Items)
    → option_and_then (each (product_of 1)) items ≡ option_and_then (each first_product) items
listed_same None = refl
listed_same (Some items) = products_same items

setup_same : (value : Data) → number_at (codes "version") value ≡ Some 1 → fields_from value ≡ first_setup value
unfolding fields_from first_setup
setup_same value first = rw first (ap (λ (products : Option (List Product)).
    number_at (codes "requirement") value
    >>= λ requirement. (text_at (codes "operator") value >>= λ operator. (products >>= λ products.
    (option_and_then (each bidder_of) (items_at (codes "bidders") value) >>= λ bidders. if has_members 5 value
    then Some (record {
      version = 1;
      limit = 100;
      requirement = requirement;
      operator = operator;
      products = products;
      bidders = bidders;
    })
    else None)))) (listed_same (items_at (codes "products") value)))

-- a list of increments is not a closing of version 1
no_list : (round : ℕ) (listed : Option (List ℕ)) (ties : Option (List Tie)) (count : Bool)
    → in_version 1 (or_fault Shape (option_map PerProduct listed >>= λ increments. (ties >>= λ ties.
    if count then Some (record { round = round; increments = increments; ties = ties }) else None)))
    ≡ Err Shape
no_list round None ties count = refl
no_list round (Some list) None count = refl
no_list round (Some list) (Some ties) true = refl
no_list round (Some list) (Some ties) false = refl

-- a closing with one increment is a closing of version 1, and no other is
closing_same : (round increment : Option ℕ) (items : Option Items) (ties : Option (List Tie)) (count : Bool)
    → in_version 1 (or_fault Shape (round >>= λ round. (or_each increment items >>= λ increments. (ties >>= λ ties.
    if count then Some (record { round = round; increments = increments; ties = ties }) else None))))
    ≡ or_fault Shape (round >>= λ round. (increment >>= λ increment. (ties >>= λ ties.
    if count then Some (record { round = round; increments = Single increment; ties = ties }) else None)))
closing_same None increment items ties count = refl
closing_same (Some round) None items ties count = no_list round (option_and_then (each number_from) items) ties count
closing_same (Some round) (Some increment) items None count = refl
closing_same (Some round) (Some increment) items (Some ties) true = refl
closing_same (Some round) (Some increment) items (Some ties) false = refl

body_same : (value : Option Data) → in_version 1 (meant_by close_of value) ≡ meant_by first_closing value
unfolding close_of first_closing
body_same None = refl
body_same (Some value) = closing_same (number_at (codes "round") value) (number_at (codes "increment") value) (items_at
    (codes "increments") value) (option_and_then (each tie_in) (items_at (codes "ties") value)) (has_members 3 value)

bodies_same : (bytes : List ℕ) → in_version 1 (close_body bytes) ≡ first_body bytes
unfolding close_body
bodies_same bytes = body_same (json bytes)

-- a list of one increment for each product is accepted exactly if the increment is
each_judged : (count increment : ℕ) → 1 ≤ count
    → are_increments count (PerProduct (replicate count increment)) ≡ are_increments count (Single increment)
each_judged zero increment some = absurd (omega (arith, some))
each_judged (suc more) increment some = one_as_each increment more

pub of_first_version : FirstVersion
of_first_version = record {
  setups = λ setup is first. is.first_version first;
  documents = setup_same;
  bodies = bodies_same;
  limit = activity_limit_of_100;
  clock = raises_by_dollars;
  increment = one_for_each;
  judged = each_judged;
}
