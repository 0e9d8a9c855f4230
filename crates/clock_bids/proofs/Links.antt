-- The requests of one chain: all go in one direction, and together they lead from the processed demand to the chain's
-- last quantity, so that they stay within 0 and the cap.
use Rattle.std.proofs.Common.{◌≡◌, ℕ, suc, ◌+◌, ◌<◌, ◌≤◌, List, [], ◌∷◌, Bool, true, false, not, cond}
use Rattle.std.proofs.Common.{map, length, ◌==◌, inl, inr, refl, ap, sym, subst, ◌∙◌, arith, All}
use Rattle.std.specs.Prelude.{⊤, nat_lt, sum_by}
use Rattle.std.specs.List.{filter, AllPairs}
use Rattle.std.proofs.lemmas.Bool.{ltb-true, lt-ltb, le-ltb, eq-eqb, ne_eqb, cases_Bool}
use Rattle.std.proofs.lemmas.List.Elements.{All-cons, All-head, All-tail, All-weaker, All-nil}
use Rattle.std.proofs.lemmas.List.Kept.{AllPairs-cons}
use Rattle.std.proofs.lemmas.List.Sums.{sum_by-cons}
use Rattle.clock_money.specs.Point.{price_point}
use Rattle.clock_terms.specs.declared.prices.PricePair.{PricePair}
use Rattle.clock_terms.specs.Limits.{most_supply}
use Rattle.clock_bids.specs.declared.sheet.Bid.{Bid}
use Rattle.clock_terms.specs.declared.change.Change.{Change}
use Rattle.clock_terms.specs.declared.change.Kind.{Kind}
use Rattle.clock_terms.specs.declared.change.Kind.TheVariants.{Increase, Reduction}
use Rattle.clock_bids.specs.Sheet.{last_quantity}
use Rattle.clock_bids.specs.inside.Parts.{distance, drop_to_zero, changes_of_chain}
use Rattle.clock_bids.specs.Changes.{change_to, Link, links_from, changes_of_product}
use Rattle.clock_bids.specs.inside.Chains.{Climbs, Falls, Moves, up, down, maintained, IsInRange, IsGoodChain}
use Rattle.clock_bids.proofs.Chains.{climbs-le, falls-le}

-- a step from one quantity to another in a direction
abbrev pub LeadsOn : Kind → ℕ → ℕ → Type 0
LeadsOn Increase from to = from < to
LeadsOn Reduction from to = to < from

abbrev LeadsOnOrStays : Kind → ℕ → ℕ → Type 0
LeadsOnOrStays Increase from to = from ≤ to
LeadsOnOrStays Reduction from to = to ≤ from

abbrev MovesOn : Kind → ℕ → List Bid → Type 0
MovesOn way from [] = ⊤
MovesOn way from (bid ∷ bids) = LeadsOn way from bid.quantity × MovesOn way bid.quantity bids

climbs_on : (from : ℕ) (chain : List Bid) → Climbs from chain → MovesOn Increase from chain
climbs_on from [] climbs = tt
climbs_on from (bid ∷ bids) climbs = (climbs.0, climbs_on bid.quantity bids climbs.1)

falls_on : (from : ℕ) (chain : List Bid) → Falls from chain → MovesOn Reduction from chain
falls_on from [] falls = tt
falls_on from (bid ∷ bids) falls = (falls.0, falls_on bid.quantity bids falls.1)

stays : (way : Kind) (from : ℕ) → LeadsOnOrStays way from from
stays Increase from = omega arith
stays Reduction from = omega arith

then_on : (way : Kind) (from over to : ℕ) → LeadsOn way from over → LeadsOnOrStays way over to
    → LeadsOnOrStays way from to
then_on Increase from over to one other = omega (arith, one, other)
then_on Reduction from over to one other = omega (arith, one, other)

ends_on : (way : Kind) (from : ℕ) (chain : List Bid) → MovesOn way from chain
    → LeadsOnOrStays way from (last_quantity from chain)
ends_on way from [] moves = stays way from
ends_on way from (bid ∷ bids) moves =
    then_on way from bid.quantity (last_quantity bid.quantity bids) moves.0 (ends_on way bid.quantity bids moves.1)

-- distances in one direction add up
adds_up : (way : Kind) (from over to : ℕ) → LeadsOn way from over → LeadsOnOrStays way over to
    → distance from over + distance over to ≡ distance from to
adds_up Increase from over to one other = omega (arith, one, other)
adds_up Reduction from over to one other = omega (arith, one, other)

differs : (way : Kind) (from to : ℕ) → LeadsOn way from to → (from == to) ≡ false
differs Increase from to on = ne_eqb from to (λ e. omega (arith, on, e))
differs Reduction from to on = ne_eqb from to (λ e. omega (arith, on, e))

kind_is : (way : Kind) (from to : ℕ) → LeadsOn way from to → cond (nat_lt from to) Increase Reduction ≡ way
kind_is Increase from to on = ap (λ b. cond b Increase Reduction) (lt-ltb from to on)
kind_is Reduction from to on = ap (λ b. cond b Increase Reduction) (le-ltb from to (omega (arith, on)))

some_blocks : (way : Kind) (from to : ℕ) → LeadsOn way from to → 1 ≤ distance from to
some_blocks Increase from to on = omega (arith, on)
some_blocks Reduction from to on = omega (arith, on)

-- a request of this bidder for this product in this direction, at a place of the chain from `first` on
pub record IsStep (owner item first : ℕ) (pair : PricePair) (way : Kind) (change : Change) : Type 0 where
  pub bidder : change.bidder ≡ owner
  pub product : change.product ≡ item
  pub place : first ≤ change.place
  pub kind : change.kind ≡ way
  pub least : 1 ≤ change.amount
  pub most : change.amount ≤ most_supply
  pub from_start : pair.start ≤ change.price
  pub to_clock : change.price ≤ pair.clock
  pub point : change.point ≡ price_point pair.start change.price pair.clock

-- requests of this bidder for this product in this direction, at rising places, for a total of `blocks`
pub record AreSteps (owner item first : ℕ) (pair : PricePair) (way : Kind) (blocks most : ℕ)
    (changes : List Change) : Type 0 where
  pub all : All (IsStep owner item first pair way) changes
  pub placed : AllPairs (λ a b. a.place < b.place) changes
  pub together : sum_by (λ change. change.amount) changes ≡ blocks
  pub count : length changes ≤ most

no_steps : (owner item first : ℕ) (pair : PricePair) (way : Kind) (most : ℕ)
    → AreSteps owner item first pair way 0 most []
no_steps owner item first pair way most = record {
  all = All-nil (IsStep owner item first pair way);
  placed = λ i j d before within. absurd (omega (arith, before, within));
  together = refl;
  count = omega arith;
}

later : (owner item first : ℕ) (pair : PricePair) (way : Kind) (change : Change)
    → IsStep owner item (first + 1) pair way change → IsStep owner item first pair way change
later owner item first pair way change step = record {
  bidder = step.bidder;
  product = step.product;
  place = omega (arith, step.place);
  kind = step.kind;
  least = step.least;
  most = step.most;
  from_start = step.from_start;
  to_clock = step.to_clock;
  point = step.point;
}

one_more_step : (owner item first : ℕ) (pair : PricePair) (way : Kind) (blocks most : ℕ) (change : Change)
    (changes : List Change) → IsStep owner item first pair way change → change.place ≡ first
    → AreSteps owner item (first + 1) pair way blocks most changes
    → AreSteps owner item first pair way (change.amount + blocks) (most + 1) (change ∷ changes)
one_more_step owner item first pair way blocks most change changes step at steps = record {
  all = All-cons (IsStep owner item first pair way) change changes step (All-weaker (IsStep owner item
      (first + 1) pair way) (IsStep owner item first pair way) (later owner item first pair way) changes steps.all);
  placed = AllPairs-cons (λ (a b : Change). a.place < b.place) change changes
      (All-weaker (IsStep owner item (first + 1) pair way) (λ (b : Change). change.place < b.place)
      (λ one is. omega (arith, is.place, at)) changes steps.all) steps.placed;
  together = sum_by-cons (λ (one : Change). one.amount) change changes ∙ ap (λ n. change.amount + n) steps.together;
  count = omega (arith, steps.count);
}

-- the requests of the bids of a chain, from a place and a quantity on
module _ (owner item : ℕ) (pair : PricePair) where
  abbrev pub change_of : Link → Change
  change_of link = change_to owner item pair link.place link.before link.bid.quantity link.bid.price

  abbrev pub changes_from : ℕ → ℕ → List Bid → List Change
  changes_from place before chain =
      map change_of (filter (λ link. not (link.before == link.bid.quantity)) (links_from place before chain))

  by_test : (link : Link) (rest : List Link) (b : Bool) → (link.before == link.bid.quantity) ≡ b
      → map change_of (cond (not (link.before == link.bid.quantity)) (link ∷ rest) rest)
      ≡ cond b (map change_of rest) (change_of link ∷ map change_of rest)
  by_test link rest true is = ap (λ test. map change_of (cond (not test) (link ∷ rest) rest)) is
  by_test link rest false is = ap (λ test. map change_of (cond (not test) (link ∷ rest) rest)) is

  abbrev links_after : ℕ → Bid → List Bid → List Link
  links_after place bid bids =
      filter (λ link. not (link.before == link.bid.quantity)) (links_from (place + 1) bid.quantity bids)

  -- a bid with another quantity than the one before it makes a request, and one with the same quantity makes none
  pub begins_with : (place before : ℕ) (bid : Bid) (bids : List Bid) → (before == bid.quantity) ≡ false
      → changes_from place before (bid ∷ bids)
      ≡ change_to owner item pair place before bid.quantity bid.price ∷ changes_from (place + 1) bid.quantity bids
  begins_with place before bid bids differ =
      by_test (record { place = place; before = before; bid = bid }) (links_after place bid bids) false differ

  pub begins_without : (place before : ℕ) (bid : Bid) (bids : List Bid) → (before == bid.quantity) ≡ true →
      changes_from place before (bid ∷ bids) ≡ changes_from (place + 1) bid.quantity bids
  begins_without place before bid bids same =
      by_test (record { place = place; before = before; bid = bid }) (links_after place bid bids) true same

module _ (owner item : ℕ) (pair : PricePair) (cap : ℕ) (small : cap ≤ most_supply) where
  step_is : (way : Kind) (place from to price : ℕ) → LeadsOn way from to → from ≤ cap → to ≤ cap → pair.start ≤ price
      → price ≤ pair.clock → IsStep owner item place pair way (change_to owner item pair place from to price)
  step_is way place from to price on least most low high = record {
    bidder = refl;
    product = refl;
    place = omega arith;
    kind = kind_is way from to on;
    least = some_blocks way from to on;
    most = omega (arith, small, least, most);
    from_start = low;
    to_clock = high;
    point = refl;
  }

  steps_from : (way : Kind) (place from : ℕ) (chain : List Bid) → MovesOn way from chain → from ≤ cap
      → All (IsInRange pair cap) chain → AreSteps owner item place pair way (distance from (last_quantity from chain))
      (length chain) (changes_from owner item pair place from chain)
  steps_from way place from [] moves least good =
      let none : 0 ≡ distance from from = omega arith in
      subst (λ blocks. AreSteps owner item place pair way blocks 0 []) none (no_steps owner item place pair way 0)
  steps_from way place from (bid ∷ bids) moves least good =
      let here : IsInRange pair cap bid = All-head (IsInRange pair cap) bid bids good in
      let change : Change = change_to owner item pair place from bid.quantity bid.price in
      let first : IsStep owner item place pair way change =
      step_is way place from bid.quantity bid.price moves.0 least here.capped here.from_start here.to_clock in
      let rest =
      steps_from way (place + 1) bid.quantity bids moves.1 here.capped (All-tail (IsInRange pair cap) bid bids good) in
      let all = one_more_step owner item place pair way (distance bid.quantity (last_quantity bid.quantity bids))
      (length bids) change (changes_from owner item pair (place + 1) bid.quantity bids) first refl rest in
      let sums : change.amount + distance bid.quantity (last_quantity bid.quantity bids)
      ≡ distance from (last_quantity bid.quantity bids) =
      adds_up way from bid.quantity (last_quantity bid.quantity bids) moves.0 (ends_on way bid.quantity bids moves.1) in
      let more : length bids + 1 ≡ suc (length bids) = omega arith in
      subst (λ list. AreSteps owner item place pair way (distance from (last_quantity bid.quantity bids))
      (suc (length bids)) list) (sym (begins_with owner item pair place from bid bids
      (differs way from bid.quantity moves.0))) (subst (λ n. AreSteps owner item place pair way (distance from
      (last_quantity bid.quantity bids)) n (change ∷ changes_from owner item pair (place + 1) bid.quantity bids)) more
      (subst (λ blocks. AreSteps owner item place pair way blocks (length bids + 1)
      (change ∷ changes_from owner item pair (place + 1) bid.quantity bids)) sums all))

-- requests in a direction lead to no demand below 0 or above the cap
abbrev pub KeepsWithin : Kind → ℕ → ℕ → ℕ → Type 0
KeepsWithin Increase cap held blocks = held + blocks ≤ cap
KeepsWithin Reduction cap held blocks = blocks ≤ held

-- the requests for one product go in one direction, and lead to no demand below 0 or above the cap
pub record AreProductSteps (owner item : ℕ) (pair : PricePair) (cap held : ℕ) (most : ℕ)
    (changes : List Change) : Type 0 where
  pub way : Kind
  pub blocks : ℕ
  pub steps : AreSteps owner item 0 pair way blocks most changes
  pub within : KeepsWithin way cap held blocks

module _ (owner item : ℕ) (pair : PricePair) (cap held : ℕ) (small : cap ≤ most_supply) (least : held ≤ cap) where
  -- at most one more request than bids: the one for a product without a bid
  more_room : (way : Kind) (blocks most : ℕ) (changes : List Change)
      → AreSteps owner item 0 pair way blocks most changes → AreSteps owner item 0 pair way blocks (most + 1) changes
  more_room way blocks most changes steps =
      record { all = steps.all; placed = steps.placed; together = steps.together; count = omega (arith, steps.count) }

  climbing : (chain : List Bid) → Climbs held chain → All (IsInRange pair cap) chain → last_quantity held chain ≤ cap →
      AreProductSteps owner item pair cap held (length chain + 1) (changes_of_chain owner item pair held chain)
  climbing chain climbs good most = record {
    way = Increase;
    blocks = distance held (last_quantity held chain);
    steps = more_room Increase (distance held (last_quantity held chain)) (length chain)
        (changes_of_chain owner item pair held chain)
        (steps_from owner item pair cap small Increase 0 held chain (climbs_on held chain climbs) least good);
    within = omega (arith, most, climbs-le held chain climbs);
  }

  falling : (chain : List Bid) → Falls held chain → All (IsInRange pair cap) chain →
      AreProductSteps owner item pair cap held (length chain + 1) (changes_of_chain owner item pair held chain)
  falling chain falls good = record {
    way = Reduction;
    blocks = distance held (last_quantity held chain);
    steps = more_room Reduction (distance held (last_quantity held chain)) (length chain)
        (changes_of_chain owner item pair held chain)
        (steps_from owner item pair cap small Reduction 0 held chain (falls_on held chain falls) least good);
    within = omega (arith, falls-le held chain falls);
  }

  nothing : (most : ℕ) → AreProductSteps owner item pair cap held most []
  nothing most = record {
    way = Reduction;
    blocks = 0;
    steps = no_steps owner item 0 pair Reduction most;
    within = omega arith;
  }

  -- a product without a bid
  given_up : pair.start ≤ pair.clock → AreProductSteps owner item pair cap held 1 (drop_to_zero owner item pair held)
  given_up rising = elim (cases_Bool (nat_lt 0 held)) as
      (λ _. AreProductSteps owner item pair cap held 1 (drop_to_zero owner item pair held)) [
        | inl holds ↦
            (let some : 0 < held = ltb-true 0 held holds in
            let change : Change = change_to owner item pair 0 held 0 pair.start in
            let step : IsStep owner item 0 pair Reduction change = step_is owner item pair cap small Reduction 0 held 0
            pair.start some least (omega arith) (omega arith) rising in
            let one = one_more_step owner item 0 pair Reduction 0 0 change [] step refl
            (no_steps owner item 1 pair Reduction 0) in
            subst (λ list. AreProductSteps owner item pair cap held 1 list) (sym (ap (λ b. cond b (change ∷ []) [])
            holds)) (record { way = Reduction; blocks = change.amount + 0; steps = one; within = omega (arith, some) }))
        | inr holds ↦ subst (λ list. AreProductSteps owner item pair cap held 1 list)
            (sym (ap (λ b. cond b (change_to owner item pair 0 held 0 pair.start ∷ []) []) holds)) (nothing 1)
      ]

  -- a bid to maintain demand makes no request
  keeping : (bid : Bid) → bid.quantity ≡ held → changes_of_chain owner item pair held (bid ∷ []) ≡ []
  keeping bid same = begins_without owner item pair 0 held bid [] (eq-eqb held bid.quantity (sym same))

  moving : (first : Bid) (rest : List Bid) → Moves held pair.clock (first ∷ rest)
      → All (IsInRange pair cap) (first ∷ rest) → last_quantity first.quantity rest ≤ cap → AreProductSteps owner item
      pair cap held (length (first ∷ rest) + 1) (changes_of_chain owner item pair held (first ∷ rest))
  moving first rest (up climbs) good most = climbing (first ∷ rest) climbs good most
  moving first rest (down falls) good most = falling (first ∷ rest) falls good
  moving first rest (maintained bid is same at) good most =
      subst (λ list. AreProductSteps owner item pair cap held (length (first ∷ rest) + 1) list) (sym (ap (λ chain.
      changes_of_chain owner item pair held chain) is ∙ keeping bid same)) (nothing (length (first ∷ rest) + 1))

  -- the requests for a product, whatever its chain
  pub product_steps : (chain : List Bid) → pair.start ≤ pair.clock → IsGoodChain pair cap held chain
      → last_quantity held chain ≤ cap
      → AreProductSteps owner item pair cap held (length chain + 1) (changes_of_product owner item pair held chain)
  product_steps [] rising good most = given_up rising
  product_steps (first ∷ rest) rising good most = moving first rest good.moves good.in_range most
