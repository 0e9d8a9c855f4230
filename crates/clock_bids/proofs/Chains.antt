-- A good chain stays good after one more bid without a fault, and the last bid of a good chain is enough to check the
-- next one: prices rise, and quantities move in one direction.
use Rattle.std.proofs.Common.{◌≡◌, ℕ, ◌<◌, ◌≤◌, List, [], ◌∷◌, ◌++◌, Bool, true, false, ◌&&◌}
use Rattle.std.proofs.Common.{◌||◌, not, cond, length, ◌==◌, inl, inr, refl, ap, sym, ◌∙◌, arith}
use Rattle.std.specs.Prelude.{Option, Some, None, nat_lt}
use Rattle.std.specs.List.{list_all}
use Rattle.std.proofs.lemmas.Bool.{ltb-true, eqb-true, lt-ltb, le-ltb, cases_Bool, cases_order, eq-eqb, ne_eqb}
use Rattle.std.proofs.lemmas.Bool.{and_right}
use Rattle.std.proofs.Math.Bool.{and-true}
use Rattle.std.proofs.lemmas.List.Elements.{All-push}
use Rattle.clock_terms.specs.declared.prices.PricePair.{PricePair}
use Rattle.clock_terms.specs.Faults.{first_fault}
use Rattle.clock_bids.specs.declared.sheet.Bid.{Bid}
use Rattle.clock_bids.specs.declared.sheet.BidFault.{BidFault}
use Rattle.clock_bids.specs.declared.sheet.BidFault.TheVariants.{PriceOrder, MixedDirection, KeepPrice}
use Rattle.clock_bids.specs.inside.Parts.{is_above_prices}
use Rattle.clock_bids.specs.Sheet.{last_quantity, keeps_direction, is_maintained_at_clock}
use Rattle.clock_bids.specs.inside.Chains.{Climbs, Falls, Moves, up, down, maintained, RisesFrom, IsInRange}
use Rattle.clock_bids.specs.inside.Chains.{IsGoodChain}
use Rattle.clock_bids.specs.inside.Chains.{last_after, last_of, is_step_on, step_checks}

-- the last bid has the last quantity
pub last_quantity-after : (bid : Bid) (bids : List Bid)
    → last_quantity bid.quantity bids ≡ (last_after bid bids).quantity
last_quantity-after bid [] = refl
last_quantity-after bid (next ∷ rest) = last_quantity-after next rest

-- a bid added at the end is the last one
last_after-push : (first : Bid) (bids : List Bid) (bid : Bid) → last_after first (bids ++ bid ∷ []) ≡ bid
last_after-push first [] bid = refl
last_after-push first (next ∷ rest) bid = last_after-push next rest bid

pub last_of-push : (chain : List Bid) (bid : Bid) → last_of (chain ++ bid ∷ []) ≡ Some bid
last_of-push [] bid = refl
last_of-push (first ∷ rest) bid = ap Some (last_after-push first rest bid)

pub last_quantity-push : (held : ℕ) (chain : List Bid) (bid : Bid)
    → last_quantity held (chain ++ bid ∷ []) ≡ bid.quantity
last_quantity-push held [] bid = refl
last_quantity-push held (first ∷ rest) bid = last_quantity-push first.quantity rest bid

-- the first of rising prices is at most the last
rises-le : (first : Bid) (bids : List Bid) → RisesFrom first.price bids → first.price ≤ (last_after first bids).price
rises-le first [] rises = omega arith
rises-le first (next ∷ rest) rises = omega (arith, rises.0, rises-le next rest rises.1)

rises-push : (first : Bid) (bids : List Bid) (bid : Bid) → RisesFrom first.price bids
    → (last_after first bids).price < bid.price → RisesFrom first.price (bids ++ bid ∷ [])
rises-push first [] bid rises above = (above, tt)
rises-push first (next ∷ rest) bid rises above = (rises.0, rises-push next rest bid rises.1 above)

-- quantities that rise or fall stay on one side of the first
pub climbs-le : (held : ℕ) (chain : List Bid) → Climbs held chain → held ≤ last_quantity held chain
climbs-le held [] climbs = omega arith
climbs-le held (bid ∷ bids) climbs = omega (arith, climbs.0, climbs-le bid.quantity bids climbs.1)

pub falls-le : (held : ℕ) (chain : List Bid) → Falls held chain → last_quantity held chain ≤ held
falls-le held [] falls = omega arith
falls-le held (bid ∷ bids) falls = omega (arith, falls.0, falls-le bid.quantity bids falls.1)

climbs-push : (held : ℕ) (chain : List Bid) (bid : Bid) → Climbs held chain → last_quantity held chain < bid.quantity →
    Climbs held (chain ++ bid ∷ [])
climbs-push held [] bid climbs above = (above, tt)
climbs-push held (first ∷ rest) bid climbs above = (climbs.0, climbs-push first.quantity rest bid climbs.1 above)

falls-push : (held : ℕ) (chain : List Bid) (bid : Bid) → Falls held chain → bid.quantity < last_quantity held chain →
    Falls held (chain ++ bid ∷ [])
falls-push held [] bid falls below = (below, tt)
falls-push held (first ∷ rest) bid falls below = (falls.0, falls-push first.quantity rest bid falls.1 below)

-- if prices rise, all are below a price exactly if the last is
and_larger : (x m n : ℕ) → m ≤ n → (nat_lt m x && nat_lt n x) ≡ nat_lt n x
and_larger x m n most = elim (cases_Bool (nat_lt n x)) as (λ _. (nat_lt m x && nat_lt n x) ≡ nat_lt n x) [
  | inl below ↦ ap (λ b. b && nat_lt n x) (lt-ltb m x (omega (arith, ltb-true n x below, most)))
  | inr reached ↦ ap (λ b. nat_lt m x && b) reached ∙ and_right (nat_lt m x) false refl ∙ sym reached
]

pub all_prices : (first : Bid) (bids : List Bid) (price : ℕ) → RisesFrom first.price bids →
    list_all (λ other. nat_lt other.price price) (first ∷ bids) ≡ nat_lt (last_after first bids).price price
all_prices first [] price rises = and-true (nat_lt first.price price)
all_prices first (next ∷ rest) price rises =
    ap (λ b. nat_lt first.price price && b) (all_prices next rest price rises.1)
    ∙ and_larger price first.price (last_after next rest).price (omega (arith, rises.0, rises-le next rest rises.1))

-- the last quantity is on the same side of the processed demand as the first
step_by : (held first last quantity : ℕ) → nat_lt held first ≡ nat_lt held last →
    cond (nat_lt held first) (nat_lt last quantity) (nat_lt quantity last) ≡ is_step_on held last quantity
step_by held first last quantity same = ap (λ b. cond b (nat_lt last quantity) (nat_lt quantity last)) same

same_side : (held clock : ℕ) (first : Bid) (bids : List Bid) → Moves held clock (first ∷ bids) →
    nat_lt held first.quantity ≡ nat_lt held (last_quantity first.quantity bids)
same_side held clock first bids (up climbs) = lt-ltb held first.quantity climbs.0 ∙ sym (lt-ltb held
    (last_quantity first.quantity bids) (omega (arith, climbs.0, climbs-le first.quantity bids climbs.1)))
same_side held clock first bids (down falls) = le-ltb held first.quantity (omega (arith, falls.0)) ∙ sym (le-ltb held
    (last_quantity first.quantity bids) (omega (arith, falls.0, falls-le first.quantity bids falls.1)))
same_side held clock first [] (maintained bid is same at) = refl
same_side held clock first (next ∷ rest) (maintained bid is same at) = cc

pub direction_by_last : (held clock : ℕ) (first : Bid) (bids : List Bid) (bid : Bid) → Moves held clock (first ∷ bids) →
    keeps_direction held (first ∷ bids) bid ≡ is_step_on held (last_after first bids).quantity bid.quantity
direction_by_last held clock first bids bid moves =
    step_by held first.quantity (last_quantity first.quantity bids) bid.quantity (same_side held clock first bids moves)
    ∙ ap (λ last. is_step_on held last bid.quantity) (last_quantity-after first bids)

-- if no check fails, the first one passes, and none of the others fails
pub passes : {F : Type 0} (fault : F) (test : Bool) (others : Option F) → cond test others (Some fault) ≡ None
    → (test ≡ true) × (others ≡ None)
passes fault true others e = (refl, e)
passes fault false others e = cc

at_clock : (held clock : ℕ) (bid : Bid) → bid.quantity ≡ held
    → (not (bid.quantity == held) || (bid.price == clock)) ≡ true → bid.price ≡ clock
at_clock held clock bid same good =
    eqb-true bid.price clock (sym (ap (λ b. not b || (bid.price == clock)) (eq-eqb bid.quantity held same)) ∙ good)

further_up : (held last quantity : ℕ) → held < last → is_step_on held last quantity ≡ true → last < quantity
further_up held last quantity above good = ltb-true last quantity
    (sym (ap (λ b. cond b (nat_lt last quantity) (nat_lt quantity last)) (lt-ltb held last above)) ∙ good)

further_down : (held last quantity : ℕ) → last < held → is_step_on held last quantity ≡ true → quantity < last
further_down held last quantity below good = ltb-true quantity last (sym (ap (λ b. cond b (nat_lt last quantity)
    (nat_lt quantity last)) (le-ltb held last (omega (arith, below)))) ∙ good)

-- the first bid for a product, if it has no fault
begins : (held clock : ℕ) (bid : Bid) → (not (bid.quantity == held) || (bid.price == clock)) ≡ true
    → Moves held clock (bid ∷ [])
begins held clock bid good = elim (cases_order held bid.quantity) as (λ _. Moves held clock (bid ∷ [])) [
  | inl same ↦ maintained bid refl (sym same) (at_clock held clock bid (sym same) good)
  | inr (inl above) ↦ up (above, tt)
  | inr (inr below) ↦ down (below, tt)
]

-- a further bid, if it has no fault
goes_on : (held clock : ℕ) (first : Bid) (bids : List Bid) (bid : Bid) → Moves held clock (first ∷ bids)
    → (last_after first bids).price < bid.price → bid.price ≤ clock → is_step_on held
    (last_after first bids).quantity bid.quantity ≡ true → Moves held clock (first ∷ (bids ++ bid ∷ []))
goes_on held clock first bids bid (up climbs) rises most good =
    let last : ℕ = last_quantity first.quantity bids in
    let above : held < last = omega (arith, climbs.0, climbs-le first.quantity bids climbs.1) in
    let on = ap (λ last. is_step_on held last bid.quantity) (last_quantity-after first bids) ∙ good in
    up (climbs-push held (first ∷ bids) bid climbs (further_up held last bid.quantity above on))
goes_on held clock first bids bid (down falls) rises most good =
    let last : ℕ = last_quantity first.quantity bids in
    let below : last < held = omega (arith, falls.0, falls-le first.quantity bids falls.1) in
    let on = ap (λ last. is_step_on held last bid.quantity) (last_quantity-after first bids) ∙ good in
    down (falls-push held (first ∷ bids) bid falls (further_down held last bid.quantity below on))
goes_on held clock first [] bid (maintained one is same at) rises most good =
    let one_is : first ≡ one = cc in
    absurd (omega (arith, rises, most, at, ap (λ (b : Bid). b.price) one_is))
goes_on held clock first (next ∷ rest) bid (maintained one is same at) rises most good = cc

-- a good chain stays good after a bid without a fault
pub good_chain-push : (pair : PricePair) (cap held : ℕ) (chain : List Bid) (bid : Bid) (i : ℕ)
    → IsGoodChain pair cap held chain → IsInRange pair cap bid → first_fault
    (step_checks (last_of chain) held pair.clock i bid) ≡ None → IsGoodChain pair cap held (chain ++ bid ∷ [])
good_chain-push pair cap held [] bid i good here none = record {
  in_range = All-push (IsInRange pair cap) [] bid good.in_range here;
  rising = tt;
  moves = begins held pair.clock bid (passes (KeepPrice i) _ None none).0;
}
good_chain-push pair cap held (first ∷ rest) bid i good here none =
    let price = passes (PriceOrder i) (nat_lt (last_after first rest).price bid.price) _ none in
    let turn = passes (MixedDirection i) (is_step_on held (last_after first rest).quantity bid.quantity) None price.1 in
    let rises : (last_after first rest).price < bid.price = ltb-true (last_after first rest).price bid.price price.0 in
    record {
      in_range = All-push (IsInRange pair cap) (first ∷ rest) bid good.in_range here;
      rising = rises-push first rest bid good.rising rises;
      moves = goes_on held pair.clock first rest bid good.moves rises here.to_clock turn.0;
    }

-- the checks of a bid within its chain, by all earlier bids of the chain, in the order of the rules
abbrev pub chain_checks : ℕ → ℕ → List Bid → ℕ → Bid → List (BidFault × Bool)
chain_checks held clock chain i bid =
    (PriceOrder i, is_above_prices chain bid)
    ∷ (MixedDirection i, keeps_direction held chain bid)
    ∷ (KeepPrice i, is_maintained_at_clock held clock chain bid)
    ∷ []

-- these checks give the same first fault as those by the last bid
pub checks_by_last_of : (pair : PricePair) (cap held : ℕ) (chain : List Bid) (bid : Bid) (i : ℕ)
    → IsGoodChain pair cap held chain → first_fault (chain_checks held pair.clock chain i bid)
    ≡ first_fault (step_checks (last_of chain) held pair.clock i bid)
checks_by_last_of pair cap held [] bid i good = refl
checks_by_last_of pair cap held (first ∷ rest) bid i good =
    let not_first : (length (first ∷ rest) == 0) ≡ false = ne_eqb (length (first ∷ rest)) 0 (λ e. omega (arith, e)) in
    ap (λ b. cond (is_above_prices (first ∷ rest) bid) (cond (keeps_direction held (first ∷ rest) bid) (cond (not (b
    && (bid.quantity == held)) || (bid.price == pair.clock)) None (Some (KeepPrice i))) (Some (MixedDirection i)))
    (Some (PriceOrder i))) not_first ∙ ap (λ b. cond b (cond (keeps_direction held (first ∷ rest) bid) None
    (Some (MixedDirection i))) (Some (PriceOrder i))) (all_prices first rest bid.price good.rising)
    ∙ ap (λ b. cond (nat_lt (last_after first rest).price bid.price) (cond b None (Some (MixedDirection i)))
    (Some (PriceOrder i))) (direction_by_last held pair.clock first rest bid good.moves)
